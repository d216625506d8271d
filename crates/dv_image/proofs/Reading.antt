-- What is read of a list that is another.
use Rattle.std.specs.Prelude.{ℕ, ◌≡◌, ◌<◌, true, List, length, Some, slice_get, nat_lt}
use Rattle.std.proofs.Common.{refl, ap, sym, ◌∙◌, arith, get_or}
use Rattle.std.proofs.lemmas.Bool.Decides.{nat_tests}
use Rattle.std.proofs.lemmas.Option.{slice_get_read}

pub read_at : {X : Type 0} (xs ys : List X) (i : ℕ) (x : X) → xs ≡ ys → true ≡ nat_lt i (length xs) → x ≡ get_or xs i x → slice_get ys i ≡ Some x
read_at xs ys i x same within is =
    let inside : i < length xs = grind (arith, nat_tests) in
    sym (ap (λ zs. slice_get zs i) same) ∙ slice_get_read xs (length xs) i x refl inside is
