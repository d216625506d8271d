-- The chars of an array.
use Rattle.std.proofs.Common.{◌≡◌, ◌∙◌, ◌/◌, ◌<◌, ◌+◌, ℕ, zero, suc, ℤ, pos, negsuc, Bool, true, false, cond, List, length, take, drop, Some, None, refl, sym, ap, arith}
use Rattle.std.specs.Prelude.{◌&&◌, nat_eq, nat_le}
use Rattle.std.proofs.lemmas.Option.{same_Some}
use Rattle.dv_defs.specs.declared.names.Base.{Base}
use Rattle.dv_defs.specs.declared.names.Base.TheVariants as base
use Rattle.dv_defs.specs.declared.names.Ty.{Ty}
use Rattle.dv_defs.specs.declared.run.Named.TheVariants as named
use Rattle.dv_defs.specs.declared.run.Native.TheVariants as native
use Rattle.dv_defs.specs.Types.{base_eq, component, is_base, is_long}
use Rattle.dv_machine.specs.Mem.{on_object}
use Rattle.dv_machine.specs.State.{Did, where_true}
use Rattle.dv_words.specs.Heaps.{length_of, words_of_object}
use Rattle.dv_words.specs.State.{WordHeap}
use Rattle.dv_words.specs.Words.{int_of}
use Rattle.dv_words.specs.Natives.{arg, native_step, new_text, some_chars, units_in}
use Rattle.dv_words.specs.Steps.{At, Left}
use Rattle.dv_builtin.specs.Natives.{IsChars}
use Rattle.dv_builtin.specs.Parts.{chars_in}

-- ---- a char is one word

both_false : (d c : Bool) → c ≡ false → (d && c) ≡ false
both_false true c e = e
both_false false c e = refl

char_only : (d : Bool) (b : Base) → (d && base_eq b base.C) ≡ true → base_eq b base.J ≡ false
char_only true base.J e = absurd (cc e)
char_only false b e = absurd (cc e)
char_only true b e = refl

no_long : (t : Ty) → is_base base.C t ≡ true → is_long t ≡ false
no_long t e = both_false (nat_eq t.dims 0) (base_eq t.base base.J) (char_only (nat_eq t.dims 0) t.base e)

one : (n : ℕ) (b : Bool) → b ≡ false → n / (elim b [ true ↦ 2 | false ↦ 1 ]) ≡ n
one n true e = absurd (cc e)
one n false e = omega arith

counted : (heap : WordHeap) (o : ℕ) → IsChars heap (suc o) → length_of heap (suc o) ≡ length (words_of_object heap (suc o))
counted heap o is =
    let whole = one (length (words_of_object heap (suc o))) (is_long (component is.ty)) (no_long (component is.ty) is.chars) in
    rw is.kind whole

-- ---- chars that are there

module _ (h : At) (o : ℕ) (is : IsChars h.shared.heap (suc o)) (chars : List ℕ) where
  there : (start count : ℕ) (b : Bool) → nat_le (start + count) (length (words_of_object h.shared.heap (suc o))) ≡ b → cond b (Some (take count (drop start (words_of_object h.shared.heap (suc o))))) None ≡ Some chars → some_chars h (suc o) (pos start) (pos count) ≡ new_text h (units_in chars)
  there start count true within e =
      let all : take count (drop start (words_of_object h.shared.heap (suc o))) ≡ chars = same_Some _ chars e in
      let test : nat_le (start + count) (length_of h.shared.heap (suc o)) ≡ true = ap (nat_le (start + count)) (counted h.shared.heap o is) ∙ within in
      ap (λ b. where_true b named.IndexOutOfBounds (new_text h (units_in (take count (drop start (words_of_object h.shared.heap (suc o))))))) test ∙ ap (λ ws. new_text h (units_in ws)) all
  there start count false within e = absurd (cc e)

  some : (start count : ℤ) → Some chars ≡ chars_in (words_of_object h.shared.heap (suc o)) start count → some_chars h (suc o) start count ≡ new_text h (units_in chars)
  some (pos start) (pos count) e = there start count _ refl (sym e)
  some (pos start) (negsuc count) e = absurd (cc e)
  some (negsuc start) count e = absurd (cc e)

-- the new string of the chars of an array
pub chars_made : (h : At) (ws : List ℕ) (o : ℕ) (start count : ℤ) (chars : List ℕ) → 0 < o → o ≡ arg ws 0 → start ≡ int_of (arg ws 1) → count ≡ int_of (arg ws 2) → IsChars h.shared.heap o → Some chars ≡ chars_in (words_of_object h.shared.heap o) start count → native_step h native.OfChars ws ≡ new_text h (units_in chars)
chars_made h ws zero start count chars lt same first second is e = absurd (omega (arith, lt))
chars_made h ws (suc o) start count chars lt same first second is e =
    let F : ℕ → ℤ → ℤ → Did Left = λ a x y. on_object (λ p. some_chars h p x y) a in
    sym (ap (λ a. F a start count) same ∙ ap (λ x. F (arg ws 0) x count) first ∙ ap (F (arg ws 0) (int_of (arg ws 1))) second) ∙ some h o is chars start count e
