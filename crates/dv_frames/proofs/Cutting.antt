-- Levels cut from the arena.
use Rattle.std.proofs.Common.{◌≡◌, ℕ, suc, ◌-◌, List, [], ◌∷◌, ◌++◌, length, reverse, take, refl, sym, ap, ◌∙◌, subst, arith, length-append}
use Rattle.std.specs.Prelude.{slice_set, Bool, true, Some}
use Rattle.std.proofs.lemmas.List.{length-drop, length-take, reverse-append, set_at, reverse-reverse}
use Rattle.dv_words.specs.Stacks.{words_in}
use Rattle.dv_defs.specs.declared.names.ClassId.{ClassId}
use Rattle.dv_frames.specs.declared.heads.Head.{Head}
use Rattle.dv_frames.specs.declared.levels.Level.{Level}
use Rattle.dv_frames.specs.declared.levels.Level.TheVariants as level
use Rattle.dv_frames.specs.Arena.{cut, AreLaid, on_top_of, with_head, with_running}

-- ---- what is cut

pub length_cut : (ls : List Level) (ws : List ℕ) → length (cut ls ws) ≡ length ls
length_cut [] ws = refl
length_cut (level.Code h b ∷ ls) ws = ap suc (length_cut ls (take b ws))
length_cut (level.Init c r ∷ ls) ws = ap suc (length_cut ls ws)

pub words_cut : (ls : List Level) (ws : List ℕ) → AreLaid ls ws → words_in (cut ls ws) ≡ length ws
words_cut [] ws l = let h : length ws ≡ 0 = ap length l in sym h
words_cut (level.Code h b ∷ ls) ws l = omega (arith, words_cut ls (take b ws) l.1, length-drop b ws, length-take b ws, l.0)
words_cut (level.Init c r ∷ ls) ws l = omega (arith, words_cut ls ws l)

-- ---- the last level written

pub reverse_on : {X : Type 0} (xs : List X) (x : X) → reverse (xs ++ x ∷ []) ≡ x ∷ reverse xs
reverse_on xs x = reverse-append xs (x ∷ [])

reverse_cons : {X : Type 0} (x : X) (xs : List X) → reverse (x ∷ xs) ≡ reverse xs ++ x ∷ []
reverse_cons x xs = reverse-append (x ∷ []) xs

last_set : (xs rs : List Level) (x y : Level) → reverse xs ≡ x ∷ rs → reverse (slice_set xs (length xs - 1) y) ≡ y ∷ rs
last_set xs rs x y e =
    let split : xs ≡ reverse rs ++ x ∷ [] = sym (reverse-reverse xs) ∙ ap reverse e ∙ reverse_cons x rs in
    let n : length (reverse rs) ≡ length xs - 1 = omega (arith, ap length split, length-append (reverse rs) (x ∷ [])) in
    let P : List Level → Type 0 = λ zs. reverse (slice_set zs (length xs - 1) y) ≡ y ∷ rs in
    subst P (sym split) (ap reverse (set_at (reverse rs) x [] y (length xs - 1) n) ∙ reverse_on (reverse rs) y ∙ ap (λ (zs : List Level). y ∷ zs) (reverse-reverse rs))

pub head_set : (xs : List Level) (h g : Head) (b : ℕ) → on_top_of (reverse xs) ≡ Some (level.Code h b) → reverse (slice_set xs (length xs - 1) (level.Code g b)) ≡ with_head (reverse xs) g
head_set xs h g b e = go (reverse xs) refl e
  where
    go : (rs : List Level) → reverse xs ≡ rs → on_top_of rs ≡ Some (level.Code h b) → reverse (slice_set xs (length xs - 1) (level.Code g b)) ≡ with_head rs g
    go [] d f = absurd (cc)
    go (level.Init c r ∷ rs) d f = absurd (cc)
    go (level.Code k a ∷ rs) d f =
        let same : a ≡ b = cc in
        last_set xs rs (level.Code k a) (level.Code g b) d ∙ ap (λ (n : ℕ). level.Code g n ∷ rs) (sym same)

pub running_set : (xs : List Level) (c : ClassId) (r : Bool) → on_top_of (reverse xs) ≡ Some (level.Init c r) → reverse (slice_set xs (length xs - 1) (level.Init c true)) ≡ with_running (reverse xs)
running_set xs c r e = go (reverse xs) refl e
  where
    go : (rs : List Level) → reverse xs ≡ rs → on_top_of rs ≡ Some (level.Init c r) → reverse (slice_set xs (length xs - 1) (level.Init c true)) ≡ with_running rs
    go [] d f = absurd (cc)
    go (level.Code k a ∷ rs) d f = absurd (cc)
    go (level.Init k a ∷ rs) d f =
        let same : k ≡ c = cc in
        last_set xs rs (level.Init k a) (level.Init c true) d ∙ ap (λ (n : ClassId). level.Init n true ∷ rs) (sym same)
