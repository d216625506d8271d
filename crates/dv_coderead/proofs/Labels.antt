-- What a label is read as.
use Rattle.std.proofs.Common.{◌≡◌, ℕ, ◌==◌, ◌&&◌, true, false, List, [], ◌∷◌, Ok, Err, refl, ap}
use Rattle.std.proofs.lemmas.Bool.{cond-false, ne_eqb}
use Rattle.dv_defs.specs.declared.faults.LineKind.TheVariants.{Operands}
use Rattle.dv_names.specs.Descriptors.{is_name}
use Rattle.dv_coderead.specs.Words.{label_in}

-- a colon and a name
pub label_read : (w name : List ℕ) → w ≡ 58 ∷ name → is_name name ≡ true → label_in w ≡ Ok name
unfolding label_in
label_read w name e is = rw e (rw is refl)

-- a colon and no name
pub label_unnamed : (w rest : List ℕ) → w ≡ 58 ∷ rest → is_name rest ≡ false → label_in w ≡ Err Operands
unfolding label_in
label_unnamed w rest e other = rw e (rw other refl)

-- no colon
pub label_unmarked : (w : List ℕ) → ((rest : List ℕ) → w ≡ 58 ∷ rest → ⊥) → label_in w ≡ Err Operands
unfolding label_in
label_unmarked [] other = refl
label_unmarked (b ∷ bs) other =
    cond-false ((b == 58) && is_name bs) _ _ (ap (λ t. t && is_name bs) (ne_eqb b 58 (λ e. other bs (ap (λ x. x ∷ bs) e))))
