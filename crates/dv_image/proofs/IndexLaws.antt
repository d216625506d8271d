-- What the index of an image says of the interfaces above a class.
use Rattle.std.proofs.Common.{◌≡◌, ℕ, zero, suc, List, [], ◌∷◌, Option, ap, sym, ◌∙◌}
use Rattle.std.specs.Prelude.{slice_get, slice_index_or, unwrap_or}
use Rattle.dv_defs.specs.declared.names.ClassId.{ClassId}
use Rattle.dv_defs.specs.Images.{Image}
use Rattle.dv_defs.specs.Order.{numbers}
use Rattle.dv_defs.specs.LookUp.{interfaces_above, once}

indexed : {X : Type 0} (xs : List X) (c : ℕ) (none : X) (o : Option X) → slice_get xs c ≡ o → slice_index_or xs c none ≡ unwrap_or o none
indexed [] c none o is = ap (λ p. unwrap_or p none) is
indexed (x ∷ xs) zero none o is = ap (λ p. unwrap_or p none) is
indexed (x ∷ xs) (suc c) none o is = indexed xs c none o is

pub listed : (interfaces : List (List ClassId)) (i image : Image) → ((c : ℕ) → numbers (slice_index_or interfaces c []) ≡ once (interfaces_above i c)) → i ≡ image → (c : ℕ) (o : Option (List ClassId)) → slice_get interfaces c ≡ o → numbers (unwrap_or o []) ≡ once (interfaces_above image c)
listed interfaces i image are is c o at =
    ap numbers (sym (indexed interfaces c [] o at)) ∙ (are c ∙ ap (λ (j : Image). once (interfaces_above j c)) is)
