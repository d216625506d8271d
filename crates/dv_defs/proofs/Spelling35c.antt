-- The format 35c: its operands as nibbles of its units.
use Rattle.std.proofs.Common.{◌≡◌, ℕ, ◌+◌, ◌*◌, ◌/◌, ◌%◌, ◌<◌, ◌≤◌, true, false, leb, List, [], ◌∷◌, drop, Some, sym, ◌∙◌, subst, arith}
use Rattle.std.proofs.lemmas.Bool.{and_parts, leb-true}
use Rattle.std.proofs.lemmas.Bool.Decides.{nat_tests}
use Rattle.dv_defs.specs.declared.code.Insn.{Insn}
use Rattle.dv_defs.specs.Spelling.{all_zero, all_fit, unit, byte, register, with_index, spelling_35c}
use Rattle.dv_defs.proofs.Spelled.{spelled_is}

-- the words of vC, vD, vE, vF and vG in the first and the third unit
abbrev pub words_of : ℕ → ℕ → List ℕ
words_of u w = w % 256 % 16 ∷ w % 256 / 16 ∷ w / 256 % 16 ∷ w / 256 / 16 ∷ u / 256 % 16 ∷ []

abbrev five : ℕ → ℕ → ℕ → ℕ → ℕ → List ℕ
five c d e f g = c ∷ d ∷ e ∷ f ∷ g ∷ []

nibbles : (u a g o : ℕ) → u ≡ (a * 16 + g) * 256 + o → g < 16 → o < 256 → (u / 256 / 16 ≡ a) × (u / 256 % 16 ≡ g) × (u % 256 ≡ o)
nibbles u a g o h p q = (omega arith, omega arith, omega arith)

low_nibbles : (w f e d c : ℕ) → w ≡ (f * 16 + e) * 256 + (d * 16 + c) → d < 16 → c < 16 → (w % 256 / 16 ≡ d) × (w % 256 % 16 ≡ c)
low_nibbles w f e d c h p q = (omega arith, omega arith)

-- units made of nibbles give the nibbles back
words_are : (u w a g o f e d c : ℕ) → u ≡ (a * 16 + g) * 256 + o → w ≡ (f * 16 + e) * 256 + (d * 16 + c) → o < 256 → all_fit 4 (five c d e f g) ≡ true → words_of u w ≡ five c d e f g
words_are u w a g o f e d c h k q t =
    let c16 : c < 16 = grind (arith, nat_tests) in
    let d16 : d < 16 = grind (arith, nat_tests) in
    let e16 : e < 16 = grind (arith, nat_tests) in
    let g16 : g < 16 = grind (arith, nat_tests) in
    let n = nibbles u a g o h g16 q in
    let m = nibbles w f e (d * 16 + c) k e16 (omega arith) in
    let l = low_nibbles w f e d c k d16 c16 in
    cc

-- what a spelling of 35c tells, from its units
pub record Fields35c (i : Insn) (u b w : ℕ) : Type 0 where
  pub form : i ≡ with_index (u % 256) (record { count = u / 256 / 16; first = words_of u w; range = false }) b
  pub few : u / 256 / 16 ≤ 5
  pub unused : all_zero (drop (u / 256 / 16) (words_of u w)) ≡ true

same_form : (o o' a a' b b' : ℕ) (xs xs' : List ℕ) → o ≡ o' → a ≡ a' → b ≡ b' → xs ≡ xs' → with_index o (record { count = a; first = xs; range = false }) b ≡ with_index o' (record { count = a'; first = xs'; range = false }) b'
same_form o o' a a' b b' xs xs' p q r s = cc

from_list : (u b w x y z : ℕ) → (u ∷ b ∷ w ∷ []) ≡ (x ∷ y ∷ z ∷ []) → (u ≡ x) × (b ≡ y) × (w ≡ z)
from_list u b w x y z h = (cc, cc, cc)

at_form : (a o c d e f g u b w v : ℕ) → o < 256 → u ≡ unit (byte a g) o → b ≡ v → w ≡ unit (byte f e) (byte d c) → leb a 5 ≡ true → all_zero (drop a (five c d e f g)) ≡ true → all_fit 4 (five c d e f g) ≡ true → Fields35c (with_index o (record { count = a; first = five c d e f g; range = false }) v) u b w
at_form a o c d e f g u b w v p hu hb hw ha hz hf =
    let g16 : g < 16 = grind (arith, nat_tests) in
    let n = nibbles u a g o hu g16 p in
    let ws = words_are u w a g o f e d c hu hw p hf in
    record {
      form = same_form _ _ _ _ _ _ _ _ (sym n.2) (sym n.0) (sym hb) (sym ws);
      few = rw n.0 (leb-true a 5 ha);
      unused = rw (n.0, ws) hz;
    }

pub fields_35c : (i : Insn) (u b w : ℕ) → spelling_35c i ≡ Some (u ∷ b ∷ w ∷ []) → Fields35c i u b w
fields_35c i u b w p =
    let s = spelled_is i _ _ _ _ p in
    let e = from_list _ _ _ _ _ _ s.units in
    let t = and_parts _ _ s.fitting in
    let t' = and_parts _ _ t.0 in
    let t'' = and_parts _ _ t'.0 in
    let P : Insn → Type 0 = λ j. Fields35c j u b w in
    subst P (sym s.form_of) (at_form i.regs.count i.op (register i 0) (register i 1) (register i 2) (register i 3) (register i 4) u b w i.index s.opcode e.0 e.1 e.2 t''.0 t''.1 t'.1)

pub unique_35c : (i j : Insn) (us : List ℕ) → spelling_35c i ≡ Some us → spelling_35c j ≡ Some us → i ≡ j
unique_35c i j us p q =
    let s = spelled_is i _ _ _ _ p in
    let p' = rw s.units at p in
    let q' = rw s.units at q in
    (fields_35c i _ _ _ p').form ∙ sym (fields_35c j _ _ _ q').form
