-- The room after a pop.
use Rattle.std.proofs.Common.{◌≡◌, ℕ, ◌+◌, ◌≤◌, List, [], ◌∷◌, ◌++◌, length, reverse, take, drop, sym, ap, ◌∙◌, subst, arith, length-append}
use Rattle.std.specs.Prelude.{Bool, true, IfSome}
use Rattle.std.proofs.lemmas.List.{length-drop, length-take}
use Rattle.dv_defs.specs.declared.names.ClassId.{ClassId}
use Rattle.dv_words.specs.State.{WordStack}
use Rattle.dv_words.specs.Stacks.{first, has_room, size_of}
use Rattle.dv_frames.specs.declared.heads.Head.{Head}
use Rattle.dv_frames.specs.declared.levels.Level.{Level}
use Rattle.dv_frames.specs.declared.levels.Level.TheVariants as level
use Rattle.dv_frames.specs.declared.stack.Stack.TheInside.{Inside}
use Rattle.dv_frames.specs.Arena.{cut, AreLaid}
use Rattle.dv_frames.proofs.Cutting.{reverse_on}
use Rattle.dv_frames.proofs.Room.{stack_of, stack_in, IsLaid, has_space}

-- the level that was on top of one stack has room on another
abbrev HasRoomAgain : WordStack → WordStack → Type 0
HasRoomAgain s t = IfSome (first s.levels) (λ l. has_room t (size_of l) ≡ true)

-- what is on top of the levels, cut from the words
again : (ls ks : List Level) (l : Level) (ws : List ℕ) (ml mw : ℕ) (s t : WordStack) → ls ≡ ks ++ l ∷ [] → stack_of ls ws ml mw ≡ s → IfSome (first (cut (l ∷ reverse ks) ws)) (λ k. has_room t (size_of k) ≡ true) → HasRoomAgain s t
again ls ks l ws ml mw s t e v r =
    let P : WordStack → Type 0 = λ z. HasRoomAgain z t in
    let Q : List Level → Type 0 = λ rs. IfSome (first (cut rs ws)) (λ k. has_room t (size_of k) ≡ true) in
    subst P v (subst Q (sym (ap reverse e ∙ reverse_on ks l)) r)

laid_below : (ls ks : List Level) (l : Level) (ws : List ℕ) → ls ≡ ks ++ l ∷ [] → AreLaid (reverse ls) ws → AreLaid (l ∷ reverse ks) ws
laid_below ls ks l ws e a = let P : List Level → Type 0 = λ rs. AreLaid rs ws in subst P (ap reverse e ∙ reverse_on ks l) a

pub room_for_frame : (a : Inside) (s : WordStack) (ks : List Level) (h : Head) (b : ℕ) (us : List ℕ) → stack_in a ≡ s → IsLaid a → length a.levels.items ≤ a.most_levels → length a.words.items ≤ a.most_words → a.levels.items ≡ ks ++ level.Code h b ∷ [] → us ≡ take b a.words.items → HasRoomAgain s (stack_of ks us a.most_levels a.most_words)
room_for_frame a s ks h b us v l p q e f =
    let below = laid_below a.levels.items ks (level.Code h b) a.words.items e l in
    let R : List ℕ → Type 0 = λ zs. HasRoomAgain s (stack_of ks zs a.most_levels a.most_words) in
    let few : length ks + 1 ≤ a.most_levels = omega (arith, ap length e, length-append ks (level.Code h b ∷ [])) in
    let whole : length (drop b a.words.items) + length (take b a.words.items) ≤ a.most_words = omega (arith, length-drop b a.words.items, length-take b a.words.items, below.0) in
    subst R (sym f) (again a.levels.items ks (level.Code h b) a.words.items a.most_levels a.most_words s (stack_of ks (take b a.words.items) a.most_levels a.most_words) e v
    (has_space ks (take b a.words.items) a.most_levels a.most_words (length (drop b a.words.items)) below.1 (omega arith) whole))

pub room_for_record : (a : Inside) (s : WordStack) (ks : List Level) (c : ClassId) (r : Bool) → stack_in a ≡ s → IsLaid a → length a.levels.items ≤ a.most_levels → length a.words.items ≤ a.most_words → a.levels.items ≡ ks ++ level.Init c r ∷ [] → HasRoomAgain s (stack_of ks a.words.items a.most_levels a.most_words)
room_for_record a s ks c r v l p q e =
    let few : length ks + 1 ≤ a.most_levels = omega (arith, ap length e, length-append ks (level.Init c r ∷ [])) in
    again a.levels.items ks (level.Init c r) a.words.items a.most_levels a.most_words s (stack_of ks a.words.items a.most_levels a.most_words) e v
    (has_space ks a.words.items a.most_levels a.most_words 0 (laid_below a.levels.items ks (level.Init c r) a.words.items e l) (omega arith) (omega arith))
