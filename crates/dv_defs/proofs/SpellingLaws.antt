-- An instruction is determined by its spelling, and no spelling begins another.
use Rattle.std.proofs.Common.{◌≡◌, ℕ, ◌%◌, ◌<◌, ◌≤◌, List, length, take, get_or, Option, None, Some, refl, sym, ◌∙◌, ap, subst, arith, lit<}
use Rattle.std.proofs.lemmas.List.{get_or-take, length-take}
use Rattle.dv_defs.specs.declared.code.Insn.{Insn}
use Rattle.dv_defs.specs.Formats.{Format, F10x, size_in, format_at}
use Rattle.dv_defs.specs.Spelling.{spelling, spelling_by, spelling_in}
use Rattle.dv_defs.proofs.SpellingFormats.{begins, unique}

-- the format by which an instruction is spelled
pub record SpelledIn (f : Format) (i : Insn) (us : List ℕ) : Type 0 where
  pub format : format_at i.op ≡ Some f
  pub units : spelling_in f i ≡ Some us

spelled_by : (i : Insn) (us : List ℕ) (o : Option Format) → format_at i.op ≡ o → spelling_by o i ≡ Some us → (f : Format) × SpelledIn f i us
spelled_by i us None e p = absurd (cc)
spelled_by i us (Some f) e p = (f, record { format = e; units = p })

pub spelled_in : (i : Insn) (us : List ℕ) → spelling i ≡ Some us → (f : Format) × SpelledIn f i us
spelled_in i us p = spelled_by i us (format_at i.op) refl p

pub units_of_positive : (f : Format) → 0 < size_in f
units_of_positive F10x = lit< tt
units_of_positive f = lit< tt

-- an instruction of a format whose spelling stands at the beginning of units
pub record Stands (f : Format) (i : Insn) (us rest : List ℕ) : Type 0 where
  pub opcode : i.op ≡ get_or rest 0 0 % 256
  pub format : format_at i.op ≡ Some f
  pub size : length us ≡ size_in f
  pub whole : size_in f ≤ length rest
  pub units : spelling_in f i ≡ Some (take (size_in f) rest)

stands_in : (f : Format) (i : Insn) (us rest : List ℕ) → SpelledIn f i us → us ≡ take (length us) rest → Stands f i us rest
stands_in f i us rest s e =
    let b = begins f i us s.units in
    let positive : 0 < length us = omega (arith, units_of_positive f) in
    let first = ap (λ vs. get_or vs 0 0) e ∙ get_or-take (length us) rest 0 0 positive in
    record {
      opcode = sym b.1 ∙ ap (λ n. n % 256) first;
      format = s.format;
      size = b.0;
      whole = omega (arith, ap length e, length-take (length us) rest);
      units = s.units ∙ ap Some (e ∙ ap (λ n. take n rest) b.0);
    }

pub stands : (i : Insn) (us rest : List ℕ) → spelling i ≡ Some us → us ≡ take (length us) rest → (f : Format) × Stands f i us rest
stands i us rest p e = let (f, s) = spelled_in i us p in (f, stands_in f i us rest s e)

-- the format of the opcode that stands there
pub stands_by_opcode : (f : Format) (i : Insn) (us rest : List ℕ) → format_at (get_or rest 0 0 % 256) ≡ Some f → spelling i ≡ Some us → us ≡ take (length us) rest → Stands f i us rest
stands_by_opcode f i us rest h p e =
    let (g, s) = stands i us rest p e in
    let same : g ≡ f = cc (ap format_at s.opcode) in
    let P : Format → Type 0 = λ k. Stands k i us rest in
    subst P same s

pub unique_where_both_stand : (i j : Insn) (us vs rest : List ℕ) → spelling i ≡ Some us → us ≡ take (length us) rest → spelling j ≡ Some vs → vs ≡ take (length vs) rest → i ≡ j
unique_where_both_stand i j us vs rest p d q e =
    let (f, s) = stands i us rest p d in
    let t = stands_by_opcode f j vs rest (sym (ap format_at s.opcode) ∙ s.format) q e in
    unique f i j (take (size_in f) rest) (s.opcode ∙ sym t.opcode) s.units t.units
