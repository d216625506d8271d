-- What a format's reader says of the instructions that stand in units.
use Rattle.std.proofs.Common.{◌≡◌, ℕ, ◌-◌, ◌%◌, ◌^◌, ◌<◌, ◌≤◌, zero, suc, refl, List, [], ◌∷◌, length, take, drop, get_or, Option, None, Some, true, is_some, MatchOption, sym, ◌∙◌, ap, subst, arith, length-drop, add-zero}
use Rattle.std.proofs.lemmas.List.{get_or-take, get_or-drop, length-take-le}
use Rattle.dv_defs.specs.declared.code.Insn.{Insn}
use Rattle.dv_defs.specs.Formats.{Format, size_in, format_at, size_at, size_by}
use Rattle.std.proofs.lemmas.Bool.{lt-ltb}
use mir.Syntax.{w16}
use mir.Val.{Fits}
use Rattle.dv_defs.specs.Decoding.{insn_here}
use Rattle.dv_defs.specs.Spelling.{all_fit, spelling, spelling_by, spelling_in}
use Rattle.dv_defs.proofs.DecodingFormats.{unit_parts}
use Rattle.dv_defs.proofs.DecodingLaws.{no_insn_here, spelled_insn_here}
use Rattle.dv_defs.proofs.SpellingFormats.{begins}
use Rattle.dv_defs.proofs.SpellingLaws.{stands, stands_by_opcode, unique_where_both_stand, units_of_positive}
use Rattle.dv_units.specs.Tables.{has_format}
use Rattle.dv_units.specs.Reading.{StandAt, NoneStandsAt, IsReading, opcode_at}

opcode_first : (units : List ℕ) (at : ℕ) → get_or (drop at units) 0 0 % 256 ≡ opcode_at units at
opcode_first units at = ap (λ n. n % 256) (get_or-drop at units 0 0 ∙ ap (λ k. get_or units k 0) (add-zero at))

-- an instruction that stands at an address
pub record IsAt (i : Insn) (us units : List ℕ) (at : ℕ) : Type 0 where
  pub opcode : i.op ≡ opcode_at units at
  pub known : has_format (opcode_at units at) ≡ true
  pub size : length us ≡ size_at (opcode_at units at)
  pub room : size_at (opcode_at units at) ≤ length units - at

pub is_at : (i : Insn) (us units : List ℕ) (at : ℕ) → spelling i ≡ Some us → StandAt us units at → IsAt i us units at
is_at i us units at p e =
    let (f, s) = stands i us (drop at units) p e in
    let op : i.op ≡ opcode_at units at = s.opcode ∙ opcode_first units at in
    let size : size_at (opcode_at units at) ≡ size_in f = ap size_by (sym (ap format_at op) ∙ s.format) in
    record {
      opcode = op;
      known = ap is_some (sym (ap format_at op) ∙ s.format);
      size = s.size ∙ sym size;
      room = omega (arith, size, s.whole, length-drop at units);
    }

-- what the reader of the opcode's format gives stands there
pub reads_there : (f : Format) (i : Insn) (units : List ℕ) (at : ℕ) → format_at (opcode_at units at) ≡ Some f → spelling_in f i ≡ Some (take (size_in f) (drop at units)) → spelling i ≡ Some (take (size_in f) (drop at units))
reads_there f i units at h p =
    let first = get_or-take (size_in f) (drop at units) 0 0 (units_of_positive f) in
    let op : i.op ≡ opcode_at units at = sym (begins f i _ p).1 ∙ ap (λ n. n % 256) first ∙ opcode_first units at in
    ap (λ o. spelling_by o i) (ap format_at op ∙ h) ∙ p

-- where the reader finds none, none stands there
pub none_there : (f : Format) (units : List ℕ) (at : ℕ) → format_at (opcode_at units at) ≡ Some f → IsReading (spelling_in f) (take (size_in f) (drop at units)) None → NoneStandsAt units at
none_there f units at h none i us p e =
    none i (stands_by_opcode f i us (drop at units) (ap format_at (opcode_first units at) ∙ h) p e).units

pub stands_there : (n : ℕ) (units : List ℕ) (at : ℕ) → n ≤ length units - at → StandAt (take n (drop at units)) units at
stands_there n units at h = ap (λ k. take k (drop at units)) (sym (length-take-le n (drop at units) (omega (arith, length-drop at units))))

-- one instruction alone stands there
pub only_there : (i j : Insn) (us units : List ℕ) (at n : ℕ) → n ≡ size_at (opcode_at units at) → n ≤ length units - at → spelling i ≡ Some (take n (drop at units)) → spelling j ≡ Some us → StandAt us units at → (i ≡ j) × (n ≡ length us)
only_there i j us units at n size h p q e =
    (unique_where_both_stand i j _ us (drop at units) p (stands_there n units at h) q e, size ∙ sym (is_at j us units at q e).size)

-- what a reader's answer says of the address
pub from_reader : (f : Format) (o : Option Insn) (units rest : List ℕ) (at : ℕ) → rest ≡ drop at units → format_at (opcode_at units at) ≡ Some f → IsReading (spelling_in f) (take (size_in f) rest) o → MatchOption o (NoneStandsAt units at) (λ i. spelling i ≡ Some (take (size_in f) (drop at units)))
from_reader f None units rest at e h r =
    let P : List ℕ → Type 0 = λ us. IsReading (spelling_in f) (take (size_in f) us) None in
    none_there f units at h (subst P e r)
from_reader f (Some i) units rest at e h r = reads_there f i units at h (r ∙ ap (λ us. Some (take (size_in f) us)) e)

-- the units of a slice are numbers of 16 bits
pub units_fit : (us : List ℕ) → ((i : ℕ) → Fits w16 (get_or us i 0)) → all_fit 16 us ≡ true
units_fit [] h = refl
units_fit (u ∷ us) h =
    let first : u < 2 ^ 16 = (h 0).fits in
    cc (lt-ltb _ _ first, units_fit us (λ i. h (suc i)))

pub fit_from : (n : ℕ) (us : List ℕ) → all_fit 16 us ≡ true → all_fit 16 (drop n us) ≡ true
fit_from zero us t = t
fit_from (suc n) [] t = refl
fit_from (suc n) (u ∷ us) t = fit_from n us (unit_parts u us t).1

pub none_here : (units : List ℕ) (at : ℕ) → all_fit 16 units ≡ true → NoneStandsAt units at → insn_here (drop at units) ≡ None
none_here units at t none = no_insn_here (drop at units) (fit_from at units t) (λ i n k p. none i _ p (ap (λ m. take m (drop at units)) (sym (length-take-le n (drop at units) k))))

pub here : (i : Insn) (n : ℕ) (units : List ℕ) (at : ℕ) → all_fit 16 units ≡ true → n ≤ length units - at → spelling i ≡ Some (take n (drop at units)) → insn_here (drop at units) ≡ Some (record { insn = i; size = n })
here i n units at t h p = spelled_insn_here (drop at units) i n (fit_from at units t) (omega (arith, length-drop at units)) p

-- where the units are too few for the opcode, no instruction stands
pub none_cut : (units : List ℕ) (at n : ℕ) → size_at (opcode_at units at) ≡ n → length units - at < n → NoneStandsAt units at
none_cut units at n e h = λ i us p s. (let a = is_at i us units at p s in omega (arith, a.room))
