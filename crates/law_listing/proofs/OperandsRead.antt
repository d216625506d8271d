-- The operands of an instruction are read from their pieces.
use Rattle.std.proofs.Common.{◌≡◌, ℕ, zero, suc, ◌-◌, ◌^◌, ◌<◌, ◌≤◌, ◌==◌, ◌&&◌, not, Bool, true, false, ℤ, pos, negsuc, List, [], ◌∷◌, ◌++◌, Option, Some, None, Ok, is_some, option_map, IfSome, refl, sym, ap, ◌∙◌, subst, arith, pow_mono}
use Rattle.std.specs.Prelude.{◌≤ℤ◌, codes, int_rem, unsigned_abs, if◌then◌else◌}
use Rattle.std.specs.Fmt.{signed_decimal}
use Rattle.std.specs.Ordering.{int_eq}
use Rattle.std.specs.List.{flat_map}
use Rattle.std.proofs.lemmas.Bool.{cond-true, ltb-true}
use Rattle.std.proofs.lemmas.Int.{ints}
use Rattle.std.proofs.lemmas.Bool.Decides.{Decides-int_eq}
use Rattle.dv_defs.specs.declared.code.PoolKind.{PoolKind}
use Rattle.dv_defs.specs.declared.code.PoolKind.TheVariants as pool_kind
use Rattle.dv_defs.specs.Formats.{has_index, has_offset}
use Rattle.dv_defs.specs.Families.{pool_at}
use Rattle.dv_defs.specs.Spelling.{fits_signed}
use Rattle.dv_optable.specs.declared.format.Format.{Format}
use Rattle.dv_optable.specs.declared.format.Format.TheVariants.{F10x, F11n, F10t, F20t, F21s, F21h, F22b, F22s, F30t, F31i, F35c, F3rc, F51l}
use Rattle.dv_lex.specs.Laws.Numbers.{IsSigned}
use Rattle.dv_lex.specs.Numbers.{negated}
use Rattle.dv_optable.specs.Table.{format_at}
use Rattle.dv_units.specs.Tables.{standard}
use Rattle.dv_units.proofs.Opcodes.{formats_agree}
use Rattle.dv_draft.specs.declared.draft.Draftop.{Draftop}
use Rattle.dv_draft.specs.declared.draft.PoolRef.{PoolRef}
use Rattle.dv_draft.specs.declared.draft.PoolRef.TheVariants as pool
use Rattle.dv_draft.specs.Draft.{is_entry, kind_of_entry}
use Rattle.dv_names.specs.Descriptors.{descriptor}
use Rattle.dv_names.specs.Written.{field_text, method_text}
use Rattle.dv_print.specs.declared.formats.Form.{Form}
use Rattle.dv_print.specs.Operands.{form_in, form_of, has_literal, is_literal_format, is_wide, literal_text, label_text}
use Rattle.dv_coderead.specs.declared.shape.Literal.{Literal}
use Rattle.dv_coderead.specs.declared.words.Frame.{Frame}
use Rattle.dv_coderead.specs.Pieces.{Piece, AWord, AMark, AString}
use Rattle.dv_coderead.specs.Words.{label_in, literal_in}
use Rattle.dv_coderead.specs.Operands.{and_behind, as_entry, entry_at, entry_in, has_label, is_first, label_at, literal_at, literal_by, operands_in, registers_at, registers_in, some_label, value_in, with_zeros}
use Rattle.dv_coderead.specs.Laws.{TypesAreRead, FieldsAreRead, MethodsAreRead}
use Rattle.dv_coderead.proofs.Formed.{labels_agree, pools_agree}
use Rattle.dv_coderead.proofs.Readings.{reads_next}
use Rattle.dv_coderead.proofs.FormedParts.{IsValue}
use Rattle.law_listing.specs.Listable.{IsEntryText, IsLabelText, IsListedOp}
use Rattle.law_listing.specs.OperandPieces.{entry_pieces, label_pieces, literal_pieces, listed_pieces, op_pieces, registers_pieces}
use Rattle.law_listing.proofs.OperandForms.{form_told}
use Rattle.law_listing.proofs.RegistersRead.{comma_before, Agrees, pieces_behind, registers_read}
use Rattle.law_listing.proofs.Words.{label_read, literal_read, plain_literal_read}

-- ---- what formats have

-- the form in which registers are printed is that in which they are read
forms_agree : (o : Option Format) → Agrees (form_in o) (registers_in o)
forms_agree None = omega arith
forms_agree (Some F35c) = tt
forms_agree (Some F3rc) = tt
forms_agree (Some f) = omega arith

literals_agree : (o : Option Format) (op : ℕ) → is_literal_format o ≡ is_some (literal_by o op)
literals_agree None op = refl
literals_agree (Some F21h) op = high (op == 0x15) where
  high : (t : Bool) → true ≡ is_some (if t then Some (let l : Literal = record { bits = 32; zeros = 16 } in l) else Some (record { bits = 64; zeros = 48 }))
  high true = refl
  high false = refl
literals_agree (Some f) op = refl

-- no literal and no entry comes first
literal_behind : (o : Option Format) (op : ℕ) → is_some (literal_by o op) ≡ true → is_first (registers_in o) ≡ false
literal_behind None op is = refl
literal_behind (Some F10x) op is = absurd (cc)
literal_behind (Some F10t) op is = absurd (cc)
literal_behind (Some F20t) op is = absurd (cc)
literal_behind (Some F30t) op is = absurd (cc)
literal_behind (Some f) op is = refl

entry_behind : (o : Option Format) → has_index (option_map standard o) ≡ true → is_first (registers_in o) ≡ false
entry_behind None is = refl
entry_behind (Some F10x) is = absurd (cc)
entry_behind (Some F10t) is = absurd (cc)
entry_behind (Some F20t) is = absurd (cc)
entry_behind (Some F30t) is = absurd (cc)
entry_behind (Some f) is = refl

-- ---- a literal

-- a literal of no more than 64 bits
abbrev pub IsShort : Option Literal → Type 0
IsShort o = IfSome o (λ l. l.bits ≤ 64)

pub literal_short : (o : Option Format) (op : ℕ) → IsShort (literal_by o op)
literal_short None op = tt
literal_short (Some F11n) op = omega arith
literal_short (Some F22b) op = omega arith
literal_short (Some F21s) op = omega arith
literal_short (Some F22s) op = omega arith
literal_short (Some F31i) op = omega arith
literal_short (Some F51l) op = omega arith
literal_short (Some F21h) op = high (op == 0x15) where
  high : (t : Bool) → IsShort (if t then Some (let l : Literal = record { bits = 32; zeros = 16 } in l) else Some (record { bits = 64; zeros = 48 }))
  high true = omega arith
  high false = omega arith
literal_short (Some f) op = tt

literal_some : (l : Literal) (w : List ℕ) (z : ℤ) (ps : List Piece) → value_in l w ≡ Ok z → literal_at (Some l) (AMark 44 ∷ AWord w ∷ ps) ≡ Ok (z, ps)
unfolding literal_at
literal_some l w z ps e = ap (and_behind ps) e

literal_none : (z : ℤ) (ps : List Piece) → z ≡ pos 0 → literal_at None ps ≡ Ok (z, ps)
unfolding literal_at
literal_none z ps e = ap (λ x. Ok (x, ps)) (sym e)

-- what so many bits hold
pub negated_below : (m n : ℕ) → negated m ≤ℤ pos n
negated_below zero n = omega (arith, ints)
negated_below (suc m) n = omega (arith, ints)

pub negated_least : (m n : ℕ) → n < m → negated m ≤ℤ negsuc n
negated_least zero n lt = absurd (omega arith)
negated_least (suc m) n lt = omega (arith, ints)

pub fits_is_signed : (bits : ℕ) (z : ℤ) → fits_signed bits z ≡ true → IsSigned bits z
fits_is_signed bits (pos n) fits = (negated_below (2 ^ (bits - 1)) n, (let lt = ltb-true n (2 ^ (bits - 1)) fits in omega (arith, ints)))
fits_is_signed bits (negsuc n) fits = (negated_least (2 ^ (bits - 1)) n (ltb-true n (2 ^ (bits - 1)) fits), omega (arith, ints))

small_power : (bits : ℕ) → bits ≤ 64 → 2 ^ (bits - 1) ≤ 2 ^ 63
small_power bits le = let le1 : bits - 1 ≤ 63 = omega arith in pow_mono le1

pub fits_is_small : (bits : ℕ) (z : ℤ) → bits ≤ 64 → fits_signed bits z ≡ true → unsigned_abs z < 10 ^ 64
fits_is_small bits (pos n) le fits = let lt = ltb-true n (2 ^ (bits - 1)) fits in omega (arith, small_power bits le)
fits_is_small bits (negsuc n) le fits = let lt = ltb-true n (2 ^ (bits - 1)) fits in omega (arith, small_power bits le)

-- the suffix changes nothing
text_read : (bits : ℕ) (wide : Bool) (z : ℤ) → bits ≤ 64 → fits_signed bits z ≡ true → literal_in bits (if wide then signed_decimal z ++ codes "L" else signed_decimal z) ≡ Ok z
text_read bits true z le fits = literal_read bits z (codes "L") (fits_is_small bits z le fits) (fits_is_signed bits z fits) refl
text_read bits false z le fits = plain_literal_read bits z (fits_is_small bits z le fits) (fits_is_signed bits z fits)

value_read : (l : Literal) (op : ℕ) (z : ℤ) → l.bits ≤ 64 → IsValue (Some l) z → value_in l (literal_text op z) ≡ Ok z
value_read l op z le is =
    reads_next (literal_in l.bits (literal_text op z)) (with_zeros l.zeros) z z (text_read l.bits (is_wide op) z le is.0)
    (cond-true (int_eq (int_rem z (pos (2 ^ l.zeros))) (pos 0)) _ _ ((Decides-int_eq _ _).1 is.1))

literal_by_test : (o : Option Literal) (t first : Bool) (op : ℕ) (z : ℤ) (more : List (List Piece)) → t ≡ is_some o → (is_some o ≡ true → first ≡ false)
    → IsShort o → IsValue o z
    → literal_at o (pieces_behind first ((if t then (AWord (literal_text op z) ∷ []) ∷ [] else []) ++ more)) ≡ Ok (z, pieces_behind first more)
literal_by_test None true first op z more has behind short is = absurd (cc)
literal_by_test None false first op z more has behind short is = literal_none z (pieces_behind first more) is
literal_by_test (Some l) true true op z more has behind short is = let e : true ≡ false = behind refl in absurd (cc)
literal_by_test (Some l) true false op z more has behind short is = literal_some l (literal_text op z) z (flat_map comma_before more) (value_read l op z short is)
literal_by_test (Some l) false first op z more has behind short is = absurd (cc)

-- ---- a label

label_marked : (first : Bool) (name : List ℕ) (more : List (List Piece)) → label_in (58 ∷ name) ≡ Ok name
    → label_at true first (pieces_behind first ((AWord (label_text name) ∷ []) ∷ more)) ≡ Ok (Some name, flat_map comma_before more)
unfolding label_at
label_marked true name more e = ap (λ r. some_label (and_behind (flat_map comma_before more) r)) e
label_marked false name more e = ap (λ r. some_label (and_behind (flat_map comma_before more) r)) e

label_unmarked : (first : Bool) (ps : List Piece) → label_at false first ps ≡ Ok (None, ps)
unfolding label_at
label_unmarked first ps = refl

and_true : (t : Bool) → t ≡ t && true
and_true true = refl
and_true false = refl

and_false : (t : Bool) → false ≡ t && false
and_false true = refl
and_false false = refl

label_here : (has first : Bool) (label : Option (List ℕ)) (more : List (List Piece)) → is_some label ≡ has → IsLabelText label
    → label_at has first (pieces_behind first (label_pieces label ++ more)) ≡ Ok (label, pieces_behind (first && not has) more)
label_here true first None more is text = absurd (cc)
label_here true first (Some name) more is text =
    label_marked first name more (label_read name text.0) ∙ ap (λ t. Ok (Some name, pieces_behind t more)) (and_false first)
label_here false first None more is text =
    label_unmarked first (pieces_behind first more) ∙ ap (λ t. Ok (None, pieces_behind t more)) (and_true first)
label_here false first (Some name) more is text = absurd (cc)

-- ---- an entry of a pool

entry_some : (kind : PoolKind) (p : Piece) (e : PoolRef) → entry_in kind p ≡ Ok e → entry_at (Some kind) (AMark 44 ∷ p ∷ []) ≡ Ok (e, [])
unfolding entry_at
entry_some kind p e is = ap (and_behind []) is

entry_none : (first : Bool) → entry_at None (pieces_behind first []) ≡ Ok (pool.None, [])
unfolding entry_at
entry_none true = refl
entry_none false = refl

module _ (types : TypesAreRead) (fields : FieldsAreRead) (methods : MethodsAreRead) where
  entry_here : (first : Bool) (e : PoolRef) → (is_entry e ≡ true → first ≡ false) → IsEntryText e → entry_at (kind_of_entry e) (pieces_behind first (entry_pieces e)) ≡ Ok (e, [])
  entry_here true (pool.Str units) behind text = let e : true ≡ false = behind refl in absurd (cc)
  entry_here true (pool.OfType t) behind text = let e : true ≡ false = behind refl in absurd (cc)
  entry_here true (pool.Field f) behind text = let e : true ≡ false = behind refl in absurd (cc)
  entry_here true (pool.Method m) behind text = let e : true ≡ false = behind refl in absurd (cc)
  entry_here true pool.None behind text = entry_none true
  entry_here false pool.None behind text = entry_none false
  entry_here false (pool.Str units) behind text = entry_some pool_kind.Strings (AString units) (pool.Str units) refl
  entry_here false (pool.OfType t) behind text =
      entry_some pool_kind.Types (AWord (descriptor t)) (pool.OfType t) (ap (as_entry pool.OfType) (types t text.0))
  entry_here false (pool.Field f) behind text =
      entry_some pool_kind.Fields (AWord (field_text f)) (pool.Field f) (ap (as_entry pool.Field) (fields f text.0 text.1))
  entry_here false (pool.Method m) behind text =
      entry_some pool_kind.Methods (AWord (method_text m)) (pool.Method m) (ap (as_entry pool.Method) (methods m text.0 text.1))

-- an entry is of the kind that its opcode has
kind_told : (e : PoolRef) (k : Option PoolKind) → (is_entry e ≡ true → kind_of_entry e ≡ k) → is_entry e ≡ is_some k → kind_of_entry e ≡ k
kind_told pool.None None kind is = refl
kind_told pool.None (Some k) kind is = absurd (cc)
kind_told (pool.Str units) k kind is = kind refl
kind_told (pool.OfType t) k kind is = kind refl
kind_told (pool.Field f) k kind is = kind refl
kind_told (pool.Method m) k kind is = kind refl

-- ---- an instruction

and_not : (first has : Bool) → first ≡ false → first && not has ≡ false
and_not true has e = absurd (cc)
and_not false has e = refl

-- its offset and its index are told by its label and its entry
op_again : (d : Draftop) → d.insn.off ≡ pos 0 → d.insn.index ≡ 0
    → record { insn = record { op = d.insn.op; regs = d.insn.regs; lit = d.insn.lit; off = pos 0; index = 0 }; label = d.label; pool = d.pool } ≡ d
op_again d off index =
    λ k. record { insn = record { op = d.insn.op; regs = d.insn.regs; lit = d.insn.lit; off = sym off k; index = sym index k }; label = d.label; pool = d.pool }

form_is : (op : ℕ) → form_of op ≡ form_in (format_at op)
unfolding form_of
form_is op = refl

literal_is : (op : ℕ) → has_literal op ≡ is_literal_format (format_at op)
unfolding has_literal
literal_is op = refl

module _ (types : TypesAreRead) (fields : FieldsAreRead) (methods : MethodsAreRead) where
  pub operands_read : (frame : Frame) (d : Draftop) → IsListedOp d → operands_in frame d.insn.op (op_pieces d) ≡ Ok d
  unfolding operands_in
  operands_read frame d is =
      let op = d.insn.op in
      let told = form_told d.insn is.formed.form in
      let o = format_at op in
      let k = registers_in o in
      let has = has_label o in
      let first = is_first k in
      let behind_label = label_pieces d.label ++ entry_pieces d.pool in
      let behind_registers = literal_pieces d.insn ++ behind_label in
      let indexed : is_entry d.pool ≡ has_index (option_map standard o) = is.formed.entry ∙ ap has_index (sym (formats_agree op told.small)) in
      let kind : kind_of_entry d.pool ≡ pool_at op = kind_told d.pool (pool_at op) is.formed.kind (is.formed.entry ∙ sym (pools_agree op told.small)) in
      let labelled : is_some d.label ≡ has = is.formed.label ∙ ap has_offset (sym (formats_agree op told.small)) ∙ sym (labels_agree o) in
      let entry_last : is_entry d.pool ≡ true → first && not has ≡ false = λ e. and_not first has (entry_behind o (sym indexed ∙ e)) in
      let form : Form → Type 0 = λ f. registers_at k frame (listed_pieces (registers_pieces f d.insn.regs ++ behind_registers)) ≡ Ok (d.insn.regs, pieces_behind first behind_registers) in
      let regs_are = subst form (sym (form_is op)) (registers_read (form_in o) k frame d.insn.regs behind_registers (forms_agree o) is.registers is.formed.registers told.shaped.count told.shaped.range) in
      let lit_is = literal_by_test (literal_by o op) (has_literal op) first op d.insn.lit behind_label (literal_is op ∙ literals_agree o op) (literal_behind o op) (literal_short o op) told.shaped.value in
      let label_is = label_here has first d.label (entry_pieces d.pool) labelled is.label in
      let Entry : Option PoolKind → Type 0 = λ p. entry_at p (pieces_behind (first && not has) (entry_pieces d.pool)) ≡ Ok (d.pool, []) in
      let entry_is = subst Entry kind (entry_here types fields methods (first && not has) d.pool entry_last is.entry) in
      reads_next _ _ (d.insn.regs, pieces_behind first behind_registers) d regs_are (
      reads_next _ _ (d.insn.lit, pieces_behind first behind_label) d lit_is (
      reads_next _ _ (d.label, pieces_behind (first && not has) (entry_pieces d.pool)) d label_is (
      reads_next _ _ (d.pool, []) d entry_is (ap Ok (op_again d is.offset is.index)))))
