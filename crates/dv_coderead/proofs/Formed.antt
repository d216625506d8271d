-- What is read of operands is an instruction in the form of its format.
use Rattle.std.proofs.Common.{◌≡◌, ℕ, zero, suc, ◌%◌, ◌^◌, ◌<◌, ◌≤◌, ◌==◌, ◌&&◌, ◌||◌, Bool, true, false, ℤ, pos, negsuc, neg_ℤ, List, [], ◌∷◌, drop, Option, Some, None, is_some, option_map, IsSome, IfOk, Ok, refl, sym, ap, ◌∙◌, subst, arith}
use Rattle.std.specs.Prelude.{nat_eq, nat_le, nat_lt, int_rem, if◌then◌else◌}
use Rattle.std.proofs.lemmas.Bool.{agree_below_at, and_from, eq-eqb, lt-ltb, ltb-true}
use Rattle.std.proofs.lemmas.Result.{IfOk-at_ok}
use Rattle.dv_defs.specs.declared.code.Insn.{Insn}
use Rattle.dv_defs.specs.declared.code.Regs.{Regs}
use Rattle.dv_defs.specs.Formats as formats
use Rattle.dv_defs.specs.Formats.{has_index, has_offset}
use Rattle.dv_defs.specs.Families.{pool_at}
use Rattle.dv_defs.specs.Spelling.{all_fit, all_zero, complement, fits_in, fits_signed, spelled, spelling_by, spelling_in, spelling_shifted}
use Rattle.dv_defs.proofs.InsnEq.{form_tests}
use Rattle.dv_optable.specs.declared.format.Format.{Format}
use Rattle.dv_optable.specs.declared.format.Format.TheVariants.{F10x, F12x, F11n, F11x, F10t, F20t, F22x, F21t, F21s, F21h, F21c, F23x, F22b, F22t, F22s, F22c, F30t, F32x, F31i, F31t, F31c, F35c, F3rc, F51l}
use Rattle.dv_optable.specs.Table.{format_at}
use Rattle.dv_units.specs.Tables.{standard}
use Rattle.dv_units.proofs.Opcodes.{formats_agree}
use Rattle.dv_draft.specs.declared.draft.Draftop.{Draftop}
use Rattle.dv_draft.specs.declared.draft.PoolRef.{PoolRef}
use Rattle.dv_draft.specs.declared.draft.PoolRef.TheVariants as pool
use Rattle.dv_draft.specs.Draft.{IsOp, is_entry, kind_of_entry}
use Rattle.dv_coderead.specs.Pieces.{Piece}
use Rattle.dv_coderead.specs.declared.words.Frame.{Frame}
use Rattle.dv_coderead.specs.Operands.{ended, entry_at, has_label, is_first, label_at, literal_at, literal_by, operands_in, registers_at, registers_in}
use Rattle.dv_coderead.specs.declared.shape.Literal.{Literal}
use Rattle.dv_coderead.proofs.FormedParts.{HasForm, Fits, IsValue, Takes, after, after_such, entry_formed, is_range, label_formed, literal_formed, registers_formed}

-- ---- a spelling for each format

abbrev zeros : List ℕ
zeros = 0 ∷ 0 ∷ 0 ∷ 0 ∷ 0 ∷ []

-- an instruction of so many registers, with 0 in their places
abbrev blanked : ℕ → ℕ → Bool → ℤ → Insn
blanked op count range z = record { op = op; regs = record { count = count; first = zeros; range = range }; lit = z; off = pos 0; index = 0 }

-- an instruction in its own form that fits has a spelling
in_form : (i : Insn) (t : Bool) (us : List ℕ) → fits_in 8 i.op ≡ true → t ≡ true → IsSome (spelled i i t us)
in_form i t us small fits = grind (arith, form_tests)

-- five registers at most fit, where each of them is 0
abbrev few_fit : ℕ → Bool
few_fit n = nat_le n 5 && all_zero (drop n zeros) && all_fit 4 zeros && fits_in 16 0

few_do_fit : (n : ℕ) → n ≤ 5 → few_fit n ≡ true
few_do_fit n le = agree_below_at few_fit (λ k. true) 6 n refl (omega arith)

-- 255 neighbours at most fit, from register 0 on
abbrev neighbours_fit : ℕ → Bool
neighbours_fit n = fits_in 8 n && fits_in 16 0 && (nat_lt 0 n || nat_eq 0 0) && fits_in 16 0

neighbours_do_fit : (n : ℕ) → n ≤ 255 → neighbours_fit n ≡ true
neighbours_do_fit n le = agree_below_at neighbours_fit (λ k. true) 256 n refl (omega arith)

-- a number is 0 where its negative is
no_sign : (k : ℕ) → neg_ℤ (pos k) ≡ pos 0 → k ≡ 0
no_sign zero e = refl
no_sign (suc k) e = absurd (cc)

-- the last 16 bits of a number's two's complement of 32 bits are 0 where it has no remainder
last_16_zero : (z : ℤ) → Fits 32 z → int_rem z (pos (2 ^ 16)) ≡ pos 0 → nat_eq (complement 32 z % 2 ^ 16) 0 ≡ true
last_16_zero (pos n) fits none = eq-eqb _ _ (cc)
last_16_zero (negsuc n) fits none = eq-eqb _ _ (omega (arith, no_sign _ none, ltb-true n (2 ^ 31) fits))

-- ... and the last 48 of 64
last_48_zero : (z : ℤ) → Fits 64 z → int_rem z (pos (2 ^ 48)) ≡ pos 0 → nat_eq (complement 64 z % 2 ^ 48) 0 ≡ true
last_48_zero (pos n) fits none = eq-eqb _ _ (cc)
last_48_zero (negsuc n) fits none = eq-eqb _ _ (omega (arith, no_sign _ none, ltb-true n (2 ^ 63) fits))

-- the literal of 21h, by whether the opcode is that of const/high16
abbrev pub high_literal : Bool → Option Literal
high_literal narrow = if narrow then Some (record { bits = 32; zeros = 16 }) else Some (record { bits = 64; zeros = 48 })

abbrev pub high_spelling : Bool → Insn → Option (List ℕ)
high_spelling narrow i = if narrow then spelling_shifted 16 i else spelling_shifted 48 i

module _ (op : ℕ) (small : fits_in 8 op ≡ true) where
  -- a spelling goes by how many registers there are, whether they are a range, and the literal
  as_spelled : (f : formats.Format) {count n : ℕ} {range r : Bool} {z l : ℤ} → count ≡ n → range ≡ r → z ≡ l
      → IsSome (spelling_in f (blanked op n r l)) → IsSome (spelling_in f (blanked op count range z))
  as_spelled f a b c is = subst (λ (i : Insn). IsSome (spelling_in f i)) (sym (λ k. blanked op (a k) (b k) (c k))) is

  -- const/high16 and const-wide/high16 have a spelling
  high_form : (narrow : Bool) (z : ℤ) → IsValue (high_literal narrow) z → IsSome (high_spelling narrow (blanked op 1 false z))
  high_form true z l =
      in_form (blanked op 1 false z) (fits_signed 32 z && nat_eq (complement 32 z % 2 ^ 16) 0) _ small (and_from _ _ l.0 (last_16_zero z l.0 l.1))
  high_form false z l =
      in_form (blanked op 1 false z) (fits_signed 64 z && nat_eq (complement 64 z % 2 ^ 48) 0) _ small (and_from _ _ l.0 (last_48_zero z l.0 l.1))

  -- an instruction of each format has a spelling, with as many registers and such a literal as the format has
  form_in : (f : Format) (count : ℕ) (range : Bool) (z : ℤ)
      → Takes (registers_in (Some f)) count → range ≡ is_range (registers_in (Some f)) → IsValue (literal_by (Some f) op) z
      → IsSome (spelling_in (standard f) (blanked op count range z))
  form_in F10x count range z n r l = as_spelled formats.F10x n r l (in_form (blanked op 0 false (pos 0)) true _ small refl)
  form_in F12x count range z n r l = as_spelled formats.F12x n r l (in_form (blanked op 2 false (pos 0)) true _ small refl)
  form_in F11n count range z n r l = as_spelled formats.F11n n r refl (in_form (blanked op 1 false z) (fits_signed 4 z) _ small l.0)
  form_in F11x count range z n r l = as_spelled formats.F11x n r l (in_form (blanked op 1 false (pos 0)) true _ small refl)
  form_in F10t count range z n r l = as_spelled formats.F10t n r l (in_form (blanked op 0 false (pos 0)) true _ small refl)
  form_in F20t count range z n r l = as_spelled formats.F20t n r l (in_form (blanked op 0 false (pos 0)) true _ small refl)
  form_in F22x count range z n r l = as_spelled formats.F22x n r l (in_form (blanked op 2 false (pos 0)) true _ small refl)
  form_in F21t count range z n r l = as_spelled formats.F21t n r l (in_form (blanked op 1 false (pos 0)) true _ small refl)
  form_in F21s count range z n r l = as_spelled formats.F21s n r refl (in_form (blanked op 1 false z) (fits_signed 16 z) _ small l.0)
  form_in F21h count range z n r l = as_spelled formats.F21h n r refl (high_form (op == 0x15) z l)
  form_in F21c count range z n r l = as_spelled formats.F21c n r l (in_form (blanked op 1 false (pos 0)) true _ small refl)
  form_in F23x count range z n r l = as_spelled formats.F23x n r l (in_form (blanked op 3 false (pos 0)) true _ small refl)
  form_in F22b count range z n r l = as_spelled formats.F22b n r refl (in_form (blanked op 2 false z) (fits_signed 8 z) _ small l.0)
  form_in F22t count range z n r l = as_spelled formats.F22t n r l (in_form (blanked op 2 false (pos 0)) true _ small refl)
  form_in F22s count range z n r l = as_spelled formats.F22s n r refl (in_form (blanked op 2 false z) (fits_signed 16 z) _ small l.0)
  form_in F22c count range z n r l = as_spelled formats.F22c n r l (in_form (blanked op 2 false (pos 0)) true _ small refl)
  form_in F30t count range z n r l = as_spelled formats.F30t n r l (in_form (blanked op 0 false (pos 0)) true _ small refl)
  form_in F32x count range z n r l = as_spelled formats.F32x n r l (in_form (blanked op 2 false (pos 0)) true _ small refl)
  form_in F31i count range z n r l = as_spelled formats.F31i n r refl (in_form (blanked op 1 false z) (fits_signed 32 z) _ small l.0)
  form_in F31t count range z n r l = as_spelled formats.F31t n r l (in_form (blanked op 1 false (pos 0)) true _ small refl)
  form_in F31c count range z n r l = as_spelled formats.F31c n r l (in_form (blanked op 1 false (pos 0)) true _ small refl)
  form_in F35c count range z n r l = as_spelled formats.F35c refl r l (in_form (blanked op count false (pos 0)) (few_fit count) _ small (few_do_fit count n))
  form_in F3rc count range z n r l = as_spelled formats.F3rc refl r l (in_form (blanked op count true (pos 0)) (neighbours_fit count) _ small (neighbours_do_fit count n))
  form_in F51l count range z n r l = as_spelled formats.F51l n r refl (in_form (blanked op 1 false z) (fits_signed 64 z) _ small l.0)

  -- the same, of an opcode that has a format
  form_by : (o : Option Format) → IsSome o → (count : ℕ) (range : Bool) (z : ℤ)
      → Takes (registers_in o) count → range ≡ is_range (registers_in o) → IsValue (literal_by o op) z
      → IsSome (spelling_by (option_map standard o) (blanked op count range z))
  form_by None some count range z n r l = absurd (cc)
  form_by (Some f) some count range z n r l = form_in f count range z n r l

-- ---- labels and entries

-- the formats with a label are those with an offset
pub labels_agree : (o : Option Format) → has_label o ≡ has_offset (option_map standard o)
labels_agree None = refl
labels_agree (Some F10t) = refl
labels_agree (Some f) = refl

-- the opcodes with a pool are those whose format has an index
pub pools_agree : (op : ℕ) → op < 256 → is_some (pool_at op) ≡ has_index (formats.format_at op)
unfolding pool_at formats.format_at
pools_agree op small = agree_below_at (λ n. is_some (pool_at n)) (λ n. has_index (formats.format_at n)) 256 op refl small

-- an entry is one of some kind
entry_kind : (e : PoolRef) → is_entry e ≡ is_some (kind_of_entry e)
entry_kind pool.None = refl
entry_kind (pool.Str units) = refl
entry_kind (pool.OfType t) = refl
entry_kind (pool.Field f) = refl
entry_kind (pool.Method m) = refl

-- ---- an instruction

module _ (op : ℕ) (small : op < 256) (some : IsSome (format_at op)) where
  abbrev drafted : Regs → ℤ → Option (List ℕ) → PoolRef → Draftop
  drafted regs lit label entry = record { insn = record { op = op; regs = regs; lit = lit; off = pos 0; index = 0 }; label = label; pool = entry }

  -- an instruction of such parts as its format has is in the form of its format
  parts_formed : (regs : Regs) (lit : ℤ) (label : Option (List ℕ)) (entry : PoolRef)
      → HasForm (registers_in (format_at op)) regs → IsValue (literal_by (format_at op) op) lit
      → is_some label ≡ has_label (format_at op) → kind_of_entry entry ≡ pool_at op → IsOp (drafted regs lit label entry)
  parts_formed regs lit label entry are value labelled named =
      let own = form_by op (lt-ltb op 256 small) (format_at op) some regs.count regs.range lit are.number are.range value in
      let IsSpelled : Option formats.Format → Type 0 = λ o. IsSome (spelling_by o (blanked op regs.count regs.range lit)) in
      record {
        form = subst IsSpelled (formats_agree op small) own;
        registers = are.others;
        label = labelled ∙ labels_agree (format_at op) ∙ ap has_offset (formats_agree op small);
        offset = λ _. refl;
        entry = entry_kind entry ∙ ap is_some named ∙ pools_agree op small;
        kind = λ _. named;
        index = λ _. refl;
      }

  -- what is read of operands, if it is read, is in the form of its format
  operands_formed : (frame : Frame) (ps : List Piece) → IfOk (operands_in frame op ps) IsOp
  unfolding operands_in
  operands_formed frame ps =
      let form = registers_in (format_at op) in
      let literal = literal_by (format_at op) op in
      let has = has_label (format_at op) in
      after_such IsOp (λ x. HasForm form x.0) (registers_at form frame ps) _ (registers_formed form frame ps) (λ regs are.
      after_such IsOp (λ x. IsValue literal x.0) (literal_at literal regs.1) _ (literal_formed literal regs.1) (λ lit value.
      after_such IsOp (λ x. is_some x.0 ≡ has) (label_at has (is_first form) lit.1) _ (label_formed has (is_first form) lit.1) (λ label labelled.
      after_such IsOp (λ x. kind_of_entry x.0 ≡ pool_at op) (entry_at (pool_at op) label.1) _ (entry_formed (pool_at op) label.1) (λ entry named.
      after IsOp (ended entry.1) _ (λ _. parts_formed regs.0 lit.0 label.0 entry.0 are value labelled named)))))

-- what is read of the operands of an opcode with a format is an instruction in the form of that format
pub operands_are_formed : (frame : Frame) (op : ℕ) (ps : List Piece) (d : Draftop) → op < 256 → IsSome (format_at op) → operands_in frame op ps ≡ Ok d → IsOp d
operands_are_formed frame op ps d small some e = IfOk-at_ok IsOp e (operands_formed op small some frame ps)
