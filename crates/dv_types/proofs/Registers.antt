-- One register after another.
use Rattle.std.proofs.Common.{◌≡◌, ◌≢◌, ℕ, suc, ◌+◌, ◌<◌, ◌≤◌, Bool, true, false, ◌&&◌, List, [], ◌∷◌, length, drop, refl, sym, ap, ◌∙◌, arith, get_or, add-one, drop-cons}
use Rattle.std.proofs.lemmas.List.{drop_all}
use Rattle.dv_defs.specs.Images.{Image}
use Rattle.dv_typing.specs.declared.typing.RegType.{RegType}
use Rattle.dv_typing.specs.RegTypes.{Types, under}
use Rattle.dv_typing.specs.Joins.{join_type, joined}
use Rattle.dv_types.specs.Under.{regs_under}

-- the rest of a list from an item on
rest_from : {X : Type 0} (xs : List X) (i : ℕ) (x : X) → i < length xs → x ≡ get_or xs i x → drop i xs ≡ x ∷ drop (i + 1) xs
rest_from xs i x within is = rw add-one (drop-cons xs i x within ∙ ap (λ y. y ∷ drop (suc i) xs) (sym is))

-- ---- the order

pub under_on : (image : Image) (ss ts : Types) (i : ℕ) (s t : RegType) → i < length ss → length ss ≡ length ts → s ≡ get_or ss i s → t ≡ get_or ts i t → under image s t ≡ true
    → regs_under image (drop i ss) (drop i ts) ≡ regs_under image (drop (i + 1) ss) (drop (i + 1) ts)
under_on image ss ts i s t within count at bt is =
    (λ k. regs_under image (rest_from ss i s within at k) (rest_from ts i t (omega (arith, within, count)) bt k)) ∙
    ap (λ b. b && regs_under image (drop (i + 1) ss) (drop (i + 1) ts)) is

pub under_fails : (image : Image) (ss ts : Types) (i : ℕ) (s t : RegType) → i < length ss → length ss ≡ length ts → s ≡ get_or ss i s → t ≡ get_or ts i t → under image s t ≡ false
    → regs_under image (drop i ss) (drop i ts) ≡ false
under_fails image ss ts i s t within count at bt is =
    (λ k. regs_under image (rest_from ss i s within at k) (rest_from ts i t (omega (arith, within, count)) bt k)) ∙
    ap (λ b. b && regs_under image (drop (i + 1) ss) (drop (i + 1) ts)) is

pub under_end : (image : Image) (ss ts : Types) (i : ℕ) → length ss ≤ i → length ss ≡ length ts → regs_under image (drop i ss) (drop i ts) ≡ true
under_end image ss ts i past count = λ k. regs_under image (drop_all i ss past k) (drop_all i ts (omega (arith, past, count)) k)

and_false : (b c : Bool) → c ≡ false → (b && c) ≡ false
and_false true c e = e
and_false false c e = refl

pub under_count : (image : Image) (ss ts : Types) → length ss ≢ length ts → regs_under image ss ts ≡ false
under_count image [] [] differ = absurd (differ refl)
under_count image [] (t ∷ ts) differ = refl
under_count image (s ∷ ss) [] differ = refl
under_count image (s ∷ ss) (t ∷ ts) differ = and_false (under image s t) (regs_under image ss ts) (under_count image ss ts (λ e. differ (ap suc e)))

-- ---- the join

pub joined_on : (image : Image) (ss ts : Types) (i : ℕ) (s t : RegType) → i < length ss → length ss ≡ length ts → s ≡ get_or ss i s → t ≡ get_or ts i t
    → joined image (drop i ss) (drop i ts) ≡ join_type image s t ∷ joined image (drop (i + 1) ss) (drop (i + 1) ts)
joined_on image ss ts i s t within count at bt =
    λ k. joined image (rest_from ss i s within at k) (rest_from ts i t (omega (arith, within, count)) bt k)

pub joined_end : (image : Image) (ss ts : Types) (i : ℕ) → length ss ≤ i → joined image (drop i ss) (drop i ts) ≡ []
joined_end image ss ts i past = ap (λ xs. joined image xs (drop i ts)) (drop_all i ss past)
