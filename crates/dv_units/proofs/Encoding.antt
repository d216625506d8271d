-- What `encode` leaves at the end of its output.
use Rattle.std.proofs.Common.{◌≡◌, ℕ, ◌<◌, List, ◌++◌, length, take, Option, None, Some, IsSomeAnd, refl, sym, ◌∙◌, ap, subst, arith, length-append}
use Rattle.std.proofs.Math.Seq.{take-length, drop-append_seam}
use Rattle.dv_defs.specs.declared.code.Insn.{Insn}
use Rattle.dv_defs.specs.Formats.{size_at, size_by}
use Rattle.dv_defs.specs.Spelling.{spelling}
use Rattle.dv_defs.proofs.SpellingFormats.{begins}
use Rattle.dv_defs.proofs.SpellingLaws.{spelled_in, units_of_positive}
use Rattle.dv_units.specs.Reading.{StandAt}

-- an instruction's spelling, which stands at an address
pub record IsWritten (i : Insn) (us units : List ℕ) (at : ℕ) : Type 0 where
  pub spelled : spelling i ≡ Some us
  pub stands : StandAt us units at
  pub inside : at < length units
  pub size : length us ≡ size_at i.op

at_end : (i : Insn) (us old : List ℕ) → spelling i ≡ Some us → IsWritten i us (old ++ us) (length old)
at_end i us old p =
    let (f, s) = spelled_in i us p in
    let b = begins f i us s.units in
    record {
      spelled = p;
      stands = sym (ap (λ xs. take (length us) xs) (drop-append_seam old us) ∙ take-length us);
      inside = omega (arith, length-append old us, b.0, units_of_positive f);
      size = b.0 ∙ sym (ap size_by s.format);
    }

by_spelling : (i : Insn) (old new : List ℕ) (n : ℕ) (o : Option (List ℕ)) → spelling i ≡ o → IsSomeAnd o (λ us. (new ≡ old ++ us) × (n ≡ length us)) → (us : List ℕ) × IsWritten i us new (length old)
by_spelling i old new n None p h = absurd h
by_spelling i old new n (Some us) p h =
    let P : List ℕ → Type 0 = λ xs. IsWritten i us xs (length old) in
    (us, subst P (sym h.0) (at_end i us old p))

pub written : (i : Insn) (old new : List ℕ) (n : ℕ) → IsSomeAnd (spelling i) (λ us. (new ≡ old ++ us) × (n ≡ length us)) → (us : List ℕ) × IsWritten i us new (length old)
written i old new n h = by_spelling i old new n (spelling i) refl h
