-- What 35c spells, by the numbers in its units.
use Rattle.std.proofs.Common.{◌≡◌, ℕ, ◌+◌, ◌*◌, ◌/◌, ◌%◌, ◌<◌, ◌≤◌, ◌^◌, true, false, ◌⊎◌, ⊎_elim, List, [], ◌∷◌, drop, Some, arith}
use Rattle.std.proofs.lemmas.Bool.Decides.{nat_tests}
use Rattle.dv_defs.specs.declared.code.Insn.{Insn}
use Rattle.dv_defs.specs.Spelling.{unit, all_zero, with_index, spelling_35c}
use Rattle.dv_defs.proofs.InsnEq.{insn_eq_tells}
use Rattle.dv_defs.proofs.Spelling35c.{fields_35c}

abbrev pub five_words : ℕ → ℕ → List ℕ
five_words high words = words % 256 % 16 ∷ words % 256 / 16 ∷ words / 256 % 16 ∷ words / 256 / 16 ∷ high % 16 ∷ []

pub refuses_35c : (op high index words : ℕ) → op < 256 → (5 < high / 16) ⊎ (all_zero (drop (high / 16) (five_words high words)) ≡ false) → (i : Insn) → spelling_35c i ≡ Some (unit high op ∷ index ∷ words ∷ []) → ⊥
refuses_35c op high index words a b i p =
    let f = fields_35c i _ _ _ p in
    let e : (high * 256 + op) / 256 ≡ high = omega arith in
    let few = rw e at f.few in
    let unused = rw e at f.unused in
    ⊎_elim (λ q. omega arith) (λ q. cc) b

pub reads_35c : (op high index words : ℕ) → op < 256 → high < 256 → index < 2 ^ 16 → words < 2 ^ 16 → high / 16 ≤ 5 → all_zero (drop (high / 16) (five_words high words)) ≡ true → spelling_35c (with_index op (record { count = high / 16; first = five_words high words; range = false }) index) ≡ Some (unit high op ∷ index ∷ words ∷ [])
reads_35c op high index words a b c d e f = grind (arith, nat_tests, insn_eq_tells)
