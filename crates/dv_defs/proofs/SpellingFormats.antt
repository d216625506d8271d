-- Each format's spelling is of one instruction alone, and its first byte and its length are those of the format.
use Rattle.std.proofs.Common.{◌≡◌, ℕ, ◌%◌, List, length, get_or, Some, arith}
use Rattle.std.proofs.lemmas.Bool.{cond-true, cond-false}
use Rattle.std.proofs.lemmas.Bool.Decides.{nat_tests}
use Rattle.dv_defs.specs.declared.code.Insn.{Insn}
use Rattle.dv_defs.specs.Formats.{Format, size_in, F10x, F12x, F11n, F11x, F10t, F20t, F22x, F21t, F21s, F21h, F21c, F23x, F22b, F22t, F22s, F22c, F30t, F32x, F31i, F31t, F31c, F35c, F3rc, F51l}
use Rattle.dv_defs.specs.Spelling.{spelling_in, spelling_shifted, spelling_10x, spelling_12x, spelling_11n, spelling_11x, spelling_10t, spelling_20t, spelling_22x, spelling_21t, spelling_21s, spelling_21h, spelling_21c, spelling_23x, spelling_22b, spelling_22t, spelling_22s, spelling_22c, spelling_30t, spelling_32x, spelling_31i, spelling_31t, spelling_31c, spelling_35c, spelling_3rc, spelling_51l}
use Rattle.dv_defs.proofs.InsnEq.{form_tests}
use Rattle.dv_defs.proofs.Spelled.{spelled_is}
use Rattle.dv_defs.proofs.Spelling35c.{unique_35c}

unique_10x : (i j : Insn) (us : List ℕ) → spelling_10x i ≡ Some us → spelling_10x j ≡ Some us → i ≡ j
unique_10x i j us p q = grind (arith, form_tests)

unique_12x : (i j : Insn) (us : List ℕ) → spelling_12x i ≡ Some us → spelling_12x j ≡ Some us → i ≡ j
unique_12x i j us p q = grind (arith, form_tests)

unique_11n : (i j : Insn) (us : List ℕ) → spelling_11n i ≡ Some us → spelling_11n j ≡ Some us → i ≡ j
unique_11n i j us p q = grind (arith, form_tests)

unique_11x : (i j : Insn) (us : List ℕ) → spelling_11x i ≡ Some us → spelling_11x j ≡ Some us → i ≡ j
unique_11x i j us p q = grind (arith, form_tests)

unique_10t : (i j : Insn) (us : List ℕ) → spelling_10t i ≡ Some us → spelling_10t j ≡ Some us → i ≡ j
unique_10t i j us p q = grind (arith, form_tests)

unique_20t : (i j : Insn) (us : List ℕ) → spelling_20t i ≡ Some us → spelling_20t j ≡ Some us → i ≡ j
unique_20t i j us p q = grind (arith, form_tests)

unique_22x : (i j : Insn) (us : List ℕ) → spelling_22x i ≡ Some us → spelling_22x j ≡ Some us → i ≡ j
unique_22x i j us p q = grind (arith, form_tests)

unique_21t : (i j : Insn) (us : List ℕ) → spelling_21t i ≡ Some us → spelling_21t j ≡ Some us → i ≡ j
unique_21t i j us p q = grind (arith, form_tests)

unique_21s : (i j : Insn) (us : List ℕ) → spelling_21s i ≡ Some us → spelling_21s j ≡ Some us → i ≡ j
unique_21s i j us p q = grind (arith, form_tests)

unique_21c : (i j : Insn) (us : List ℕ) → spelling_21c i ≡ Some us → spelling_21c j ≡ Some us → i ≡ j
unique_21c i j us p q = grind (arith, form_tests)

unique_23x : (i j : Insn) (us : List ℕ) → spelling_23x i ≡ Some us → spelling_23x j ≡ Some us → i ≡ j
unique_23x i j us p q = grind (arith, form_tests)

unique_22b : (i j : Insn) (us : List ℕ) → spelling_22b i ≡ Some us → spelling_22b j ≡ Some us → i ≡ j
unique_22b i j us p q = grind (arith, form_tests)

unique_22t : (i j : Insn) (us : List ℕ) → spelling_22t i ≡ Some us → spelling_22t j ≡ Some us → i ≡ j
unique_22t i j us p q = grind (arith, form_tests)

unique_22s : (i j : Insn) (us : List ℕ) → spelling_22s i ≡ Some us → spelling_22s j ≡ Some us → i ≡ j
unique_22s i j us p q = grind (arith, form_tests)

unique_22c : (i j : Insn) (us : List ℕ) → spelling_22c i ≡ Some us → spelling_22c j ≡ Some us → i ≡ j
unique_22c i j us p q = grind (arith, form_tests)

unique_30t : (i j : Insn) (us : List ℕ) → spelling_30t i ≡ Some us → spelling_30t j ≡ Some us → i ≡ j
unique_30t i j us p q = grind (arith, form_tests)

unique_32x : (i j : Insn) (us : List ℕ) → spelling_32x i ≡ Some us → spelling_32x j ≡ Some us → i ≡ j
unique_32x i j us p q = grind (arith, form_tests)

unique_31i : (i j : Insn) (us : List ℕ) → spelling_31i i ≡ Some us → spelling_31i j ≡ Some us → i ≡ j
unique_31i i j us p q = grind (arith, form_tests)

unique_31t : (i j : Insn) (us : List ℕ) → spelling_31t i ≡ Some us → spelling_31t j ≡ Some us → i ≡ j
unique_31t i j us p q = grind (arith, form_tests)

unique_31c : (i j : Insn) (us : List ℕ) → spelling_31c i ≡ Some us → spelling_31c j ≡ Some us → i ≡ j
unique_31c i j us p q = grind (arith, form_tests)

unique_3rc : (i j : Insn) (us : List ℕ) → spelling_3rc i ≡ Some us → spelling_3rc j ≡ Some us → i ≡ j
unique_3rc i j us p q = grind (arith, form_tests)

unique_51l : (i j : Insn) (us : List ℕ) → spelling_51l i ≡ Some us → spelling_51l j ≡ Some us → i ≡ j
unique_51l i j us p q = grind (arith, form_tests)

unique_shifted_16 : (i j : Insn) (us : List ℕ) → spelling_shifted 16 i ≡ Some us → spelling_shifted 16 j ≡ Some us → i ≡ j
unique_shifted_16 i j us p q = grind (arith, form_tests)

unique_shifted_48 : (i j : Insn) (us : List ℕ) → spelling_shifted 48 i ≡ Some us → spelling_shifted 48 j ≡ Some us → i ≡ j
unique_shifted_48 i j us p q = grind (arith, form_tests)

unique_21h : (i j : Insn) (us : List ℕ) → i.op ≡ j.op → spelling_21h i ≡ Some us → spelling_21h j ≡ Some us → i ≡ j
unique_21h i j us e p q = grind (arith, nat_tests, cond-true, cond-false, unique_shifted_16 i j us, unique_shifted_48 i j us)

begins_shifted : (shift : ℕ) (i : Insn) (us : List ℕ) → spelling_shifted shift i ≡ Some us → (length us ≡ 2) × (get_or us 0 0 % 256 ≡ i.op)
begins_shifted shift i us p = let s = spelled_is i _ _ _ us p in grind arith

begins_21h : (i : Insn) (us : List ℕ) → spelling_21h i ≡ Some us → (length us ≡ 2) × (get_or us 0 0 % 256 ≡ i.op)
begins_21h i us p = grind (arith, nat_tests, begins_shifted 16 i us, begins_shifted 48 i us)

begins_35c : (i : Insn) (us : List ℕ) → spelling_35c i ≡ Some us → (length us ≡ 3) × (get_or us 0 0 % 256 ≡ i.op)
begins_35c i us p = let s = spelled_is i _ _ _ us p in grind arith

pub begins : (f : Format) (i : Insn) (us : List ℕ) → spelling_in f i ≡ Some us → (length us ≡ size_in f) × (get_or us 0 0 % 256 ≡ i.op)
begins F10x i us p = grind (arith, nat_tests)
begins F12x i us p = grind (arith, nat_tests)
begins F11n i us p = grind (arith, nat_tests)
begins F11x i us p = grind (arith, nat_tests)
begins F10t i us p = grind (arith, nat_tests)
begins F20t i us p = grind (arith, nat_tests)
begins F22x i us p = grind (arith, nat_tests)
begins F21t i us p = grind (arith, nat_tests)
begins F21s i us p = grind (arith, nat_tests)
begins F21h i us p = begins_21h i us p
begins F21c i us p = grind (arith, nat_tests)
begins F23x i us p = grind (arith, nat_tests)
begins F22b i us p = grind (arith, nat_tests)
begins F22t i us p = grind (arith, nat_tests)
begins F22s i us p = grind (arith, nat_tests)
begins F22c i us p = grind (arith, nat_tests)
begins F30t i us p = grind (arith, nat_tests)
begins F32x i us p = grind (arith, nat_tests)
begins F31i i us p = grind (arith, nat_tests)
begins F31t i us p = grind (arith, nat_tests)
begins F31c i us p = grind (arith, nat_tests)
begins F35c i us p = begins_35c i us p
begins F3rc i us p = grind (arith, nat_tests)
begins F51l i us p = grind (arith, nat_tests)

pub unique : (f : Format) (i j : Insn) (us : List ℕ) → i.op ≡ j.op → spelling_in f i ≡ Some us → spelling_in f j ≡ Some us → i ≡ j
unique F10x i j us e p q = unique_10x i j us p q
unique F12x i j us e p q = unique_12x i j us p q
unique F11n i j us e p q = unique_11n i j us p q
unique F11x i j us e p q = unique_11x i j us p q
unique F10t i j us e p q = unique_10t i j us p q
unique F20t i j us e p q = unique_20t i j us p q
unique F22x i j us e p q = unique_22x i j us p q
unique F21t i j us e p q = unique_21t i j us p q
unique F21s i j us e p q = unique_21s i j us p q
unique F21h i j us e p q = unique_21h i j us e p q
unique F21c i j us e p q = unique_21c i j us p q
unique F23x i j us e p q = unique_23x i j us p q
unique F22b i j us e p q = unique_22b i j us p q
unique F22t i j us e p q = unique_22t i j us p q
unique F22s i j us e p q = unique_22s i j us p q
unique F22c i j us e p q = unique_22c i j us p q
unique F30t i j us e p q = unique_30t i j us p q
unique F32x i j us e p q = unique_32x i j us p q
unique F31i i j us e p q = unique_31i i j us p q
unique F31t i j us e p q = unique_31t i j us p q
unique F31c i j us e p q = unique_31c i j us p q
unique F35c i j us e p q = unique_35c i j us p q
unique F3rc i j us e p q = unique_3rc i j us p q
unique F51l i j us e p q = unique_51l i j us p q
