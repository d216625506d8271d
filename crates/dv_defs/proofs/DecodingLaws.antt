-- `insn_here` is the inverse of `spelling`.
use Rattle.std.proofs.Common.{◌≡◌, ℕ, ◌/◌, ◌%◌, ◌<◌, ◌≤◌, true, inl, inr, List, [], ◌∷◌, length, take, get_or, Option, Some, None, refl, ap, sym, ◌∙◌, subst, arith}
use Rattle.std.proofs.lemmas.List.{length-take-le, get_or-take}
use Rattle.std.proofs.lemmas.Bool.{cases_lt}
use Rattle.dv_defs.specs.declared.code.Insn.{Insn}
use Rattle.dv_defs.specs.Formats.{Format, size_in, format_at}
use Rattle.dv_defs.specs.Decoding.{Sized, sized, read_by, read_in, insn_here}
use Rattle.dv_defs.specs.Spelling.{unit, all_fit, spelling, spelling_by, spelling_in}
use Rattle.dv_defs.proofs.SpellingFormats.{begins}
use Rattle.dv_defs.proofs.SpellingLaws.{stands, stands_by_opcode, unique_where_both_stand, units_of_positive}
use Rattle.dv_defs.proofs.DecodingFormats.{IsRead, is_read, unit_parts, none_of_few}

-- what `insn_here` says of units
abbrev pub IsHere : List ℕ → Option Sized → Type 0
IsHere us (Some s) = (s.size ≤ length us) × (spelling s.insn ≡ Some (take s.size us))
IsHere us None = (i : Insn) (n : ℕ) → n ≤ length us → spelling i ≡ Some (take n us) → ⊥

-- a spelling of n units that stands at the beginning
at_beginning : (n : ℕ) (us : List ℕ) → n ≤ length us → take n us ≡ take (length (take n us)) us
at_beginning n us h = ap (λ k. take k us) (sym (length-take-le n us h))

-- the units are too few for the format
too_few : (f : Format) (u : ℕ) (us : List ℕ) → format_at (u % 256) ≡ Some f → length (u ∷ us) < size_in f → (i : Insn) (n : ℕ) → n ≤ length (u ∷ us) → spelling i ≡ Some (take n (u ∷ us)) → ⊥
too_few f u us e h i n k p =
    let s = stands_by_opcode f i _ (u ∷ us) e p (at_beginning n (u ∷ us) k) in
    omega (arith, s.whole)

spelled_there : (f : Format) (u : ℕ) (us : List ℕ) (o : Option Sized) → format_at (u % 256) ≡ Some f → size_in f ≤ length (u ∷ us) → IsRead f (u ∷ us) o → IsHere (u ∷ us) o
spelled_there f u us None e h r = λ i n k p.
    r i (stands_by_opcode f i _ (u ∷ us) e p (at_beginning n (u ∷ us) k)).units
spelled_there f u us (Some s) e h r =
    let p : spelling_in f s.insn ≡ Some (take s.size (u ∷ us)) = r.1 ∙ ap (λ n. Some (take n (u ∷ us))) (sym r.0) in
    let first : get_or (take s.size (u ∷ us)) 0 0 ≡ u = get_or-take s.size (u ∷ us) 0 0 (omega (arith, r.0, units_of_positive f)) in
    let op : s.insn.op ≡ u % 256 = sym (begins f s.insn _ p).1 ∙ ap (λ n. n % 256) first in
    (omega (arith, r.0), ap (λ o. spelling_by o s.insn) (ap format_at op ∙ e) ∙ p)

by_format : (o : Option Format) (u : ℕ) (us : List ℕ) → all_fit 16 (u ∷ us) ≡ true → format_at (u % 256) ≡ o → IsHere (u ∷ us) (read_by o (u % 256) (u / 256) us)
by_format None u us t e = λ i n k p.
    let (f, s) = stands i _ (u ∷ us) p (at_beginning n (u ∷ us) k) in
    cc (ap format_at s.opcode, s.format, e)
by_format (Some f) u us t e =
    let b = unit_parts u us t in
    elim (cases_lt (length (u ∷ us)) (size_in f)) [
      | inl h ↦ (let P : Option Sized → Type 0 = λ o. IsHere (u ∷ us) o in
          subst P (sym (none_of_few f (u % 256) (u / 256) u us h)) (too_few f u us e h))
      | inr h ↦ (let P : ℕ → Type 0 = λ w. IsRead f (w ∷ us) (read_in f (u % 256) (u / 256) us) in
          let whole : unit (u / 256) (u % 256) ≡ u = omega arith in
          spelled_there f u us _ e h (subst P whole (is_read f (u % 256) (u / 256) us (omega arith) (omega (arith, b.0)) b.1 h)))
    ]

pub insn_stands : (us : List ℕ) → all_fit 16 us ≡ true → IsHere us (insn_here us)
insn_stands [] t = λ i n k p.
    let (f, s) = stands i _ [] p (at_beginning n [] k) in
    omega (arith, s.whole, units_of_positive f)
insn_stands (u ∷ us) t = by_format (format_at (u % 256)) u us t refl

same_size : (m n : ℕ) (us : List ℕ) → m ≤ length us → n ≤ length us → take m us ≡ take n us → m ≡ n
same_size m n us h k e = sym (length-take-le m us h) ∙ ap length e ∙ length-take-le n us k

same_sized : (i j : Insn) (m n : ℕ) → i ≡ j → m ≡ n → sized m i ≡ sized n j
same_sized i j m n p q = cc

found : (us : List ℕ) (o : Option Sized) (i : Insn) (n : ℕ) → IsHere us o → n ≤ length us → spelling i ≡ Some (take n us) → o ≡ Some (record { insn = i; size = n })
found us None i n h k p = absurd (h i n k p)
found us (Some s) i n h k p =
    let e : s.insn ≡ i = unique_where_both_stand s.insn i _ _ us h.1 (at_beginning s.size us h.0) p (at_beginning n us k) in
    let units : take s.size us ≡ take n us = cc (h.1, p, ap spelling e) in
    let size : s.size ≡ n = same_size s.size n us h.0 k units in
    same_sized s.insn i s.size n e size

pub insn_here_spelled : (us : List ℕ) (i : Insn) (n : ℕ) → all_fit 16 us ≡ true → insn_here us ≡ Some (record { insn = i; size = n }) → (n ≤ length us) × (spelling i ≡ Some (take n us))
insn_here_spelled us i n t e = (let P : Option Sized → Type 0 = λ o. IsHere us o in subst P e (insn_stands us t))

pub spelled_insn_here : (us : List ℕ) (i : Insn) (n : ℕ) → all_fit 16 us ≡ true → n ≤ length us → spelling i ≡ Some (take n us) → insn_here us ≡ Some (record { insn = i; size = n })
spelled_insn_here us i n t k p = found us (insn_here us) i n (insn_stands us t) k p

none_from : (us : List ℕ) (o : Option Sized) → IsHere us o → ((i : Insn) (n : ℕ) → n ≤ length us → spelling i ≡ Some (take n us) → ⊥) → o ≡ None
none_from us None h none = refl
none_from us (Some s) h none = absurd (none s.insn s.size h.0 h.1)

-- where no instruction is spelled, none is here
pub no_insn_here : (us : List ℕ) → all_fit 16 us ≡ true → ((i : Insn) (n : ℕ) → n ≤ length us → spelling i ≡ Some (take n us) → ⊥) → insn_here us ≡ None
no_insn_here us t none = none_from us (insn_here us) (insn_stands us t) none
