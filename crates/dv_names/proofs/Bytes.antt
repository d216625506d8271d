-- What one byte makes of what has been read.
use Rattle.std.proofs.Common.{◌≡◌, ℕ, [], ◌∷◌, suc, ◌<◌, eqb, ltb, cond, Option, Some, None, inl, inr, refl, sym, ap, ◌∙◌}
use Rattle.std.specs.Option.{is_some}
use Rattle.std.proofs.lemmas.Bool.{cond-true, cond-false, ne_eqb, lt-ltb, le-ltb, eq-eqb, cases_eq, cases_lt}
use Rattle.dv_defs.specs.declared.names.Base.{Base}
use Rattle.dv_defs.specs.declared.names.Base.TheVariants as base
use Rattle.dv_names.specs.Descriptors.{base_text, IsBase}
use Rattle.dv_names.specs.Grammar.{Position, Before, Mode, Array, Name, primitive_of, step}

-- ---- types

none_else : (n b : ℕ) → (n < 255 → b ≡ 91 → ⊥) → (m : Option Mode) → b ≡ 91 → cond (ltb n 255) m None ≡ None
none_else n b h m e =
    elim (cases_lt n 255) [ inl lt ↦ absurd (h lt e) | inr le ↦ cond-false (ltb n 255) m None (le-ltb n 255 le) ]

pub step_no_type : (p : Position) (n b : ℕ) → (n < 255 → b ≡ 91 → ⊥) → primitive_of b ≡ None → (b ≡ 76 → ⊥) → step (Array p n) b ≡ None
step_no_type p n b most none other =
    elim (cases_eq b 91) [
      | inl e ↦ cond-true (eqb b 91) _ _ (eq-eqb b 91 e) ∙ none_else n b most _ e
      | inr ne ↦ cond-false (eqb b 91) _ _ (ne_eqb b 91 ne) ∙ cond-false (is_some (primitive_of b)) _ _ (ap is_some none) ∙ cond-false (eqb b 76) _ _ (ne_eqb b 76 other)
    ]

pub step_bracket : (p : Position) (n : ℕ) → n < 255 → step (Array p n) 91 ≡ Some (Array p (suc n))
step_bracket p n lt = cond-true (ltb n 255) _ _ (lt-ltb n 255 lt)

pub step_class : (p : Position) (n b : ℕ) → b ≡ 76 → step (Array p n) b ≡ Some (Name p Before)
step_class p n b e = ap (step (Array p n)) e

-- ---- primitive types

abbrev IsLetter : Base → ℕ → Type 0
IsLetter found b = (base_text found ≡ b ∷ []) × IsBase found

at_letter : (b letter : ℕ) (found known : Base) → primitive_of letter ≡ Some known → IsLetter known letter → primitive_of b ≡ Some found → b ≡ letter → IsLetter found b
at_letter b letter found known e f is same =
    let one : known ≡ found = let h = ap primitive_of same in cc in
    let back : letter ≡ b = sym same in
    rw (← one, same) f

past : (b letter : ℕ) (found known : Base) (rest : Option Base) → (cond (eqb b letter) (Some known) rest ≡ Some found) → (b ≡ letter → ⊥) → rest ≡ Some found
past b letter found known rest is ne = sym (cond-false (eqb b letter) (Some known) rest (ne_eqb b letter ne)) ∙ is

pub primitive_text : (b : ℕ) (found : Base) → primitive_of b ≡ Some found → IsLetter found b
primitive_text b found is =
    elim (cases_eq b 90) [
      | inl e ↦ at_letter b 90 found base.Z refl (refl, tt) is e
      | inr z ↦
          elim (cases_eq b 66) [
            | inl e ↦ at_letter b 66 found base.B refl (refl, tt) is e
            | inr y ↦
                elim (cases_eq b 67) [
                  | inl e ↦ at_letter b 67 found base.C refl (refl, tt) is e
                  | inr x ↦
                      elim (cases_eq b 83) [
                        | inl e ↦ at_letter b 83 found base.S refl (refl, tt) is e
                        | inr w ↦
                            elim (cases_eq b 73) [
                              | inl e ↦ at_letter b 73 found base.I refl (refl, tt) is e
                              | inr v ↦
                                  elim (cases_eq b 74) [
                                    | inl e ↦ at_letter b 74 found base.J refl (refl, tt) is e
                                    | inr u ↦
                                        absurd (let none : None ≡ Some found = past b 74 _ _ _ (past b 73 _ _ _ (past b 83 _ _ _ (past b 67 _ _ _ (past b 66 _ _ _ (past b 90 _ _ _ is z) y) x) w) v) u in cc)
                                  ]
                            ]
                      ]
                ]
          ]
    ]
