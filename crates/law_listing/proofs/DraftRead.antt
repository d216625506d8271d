-- What the lines of a draft's text say, one by one.
use Rattle.std.proofs.Common.{◌≡◌, ℕ, ◌+◌, ◌-◌, ◌*◌, ◌<◌, ◌≤◌, ◌^◌, ◌==◌, true, ◌&&◌, List, [], ◌∷◌, ◌++◌, codes, nat_le, Option, Some, None, is_some, Result, Ok, IsTrue, refl, ap, ◌∙◌, arith}
use Rattle.std.specs.Prelude.{ℤ, pos, negsuc, unsigned_abs, if◌then◌else◌}
use Rattle.std.specs.Fmt.{decimal, signed_decimal}
use Rattle.std.proofs.lemmas.Bool.{cond-true, le-leb, ltb-true}
use Rattle.dv_defs.specs.declared.faults.LineKind.{LineKind}
use Rattle.dv_defs.specs.declared.names.Ty.{Ty}
use Rattle.dv_defs.specs.Spelling.{fits_signed}
use Rattle.dv_defs.specs.Tiling.{is_width}
use Rattle.dv_names.specs.Descriptors.{descriptor}
use Rattle.dv_draft.specs.declared.draft.Catch.{Catch}
use Rattle.dv_draft.specs.declared.draft.Draftop.{Draftop}
use Rattle.dv_lex.specs.Numbers.{Number, is_suffix}
use Rattle.dv_print.specs.Draft.{suffix_of}
use Rattle.dv_print.specs.Operands.{label_text}
use Rattle.dv_coderead.specs.declared.words.Frame.{Frame}
use Rattle.dv_coderead.specs.declared.head.Block.TheVariants.{Packed, Sparse, Data}
use Rattle.dv_coderead.specs.declared.head.Directive.TheVariants as directive
use Rattle.dv_coderead.specs.declared.head.Head.{Head}
use Rattle.dv_coderead.specs.declared.head.Head.TheVariants as head
use Rattle.dv_coderead.specs.declared.body_line.Opening.{Opening}
use Rattle.dv_coderead.specs.declared.body_line.Opening.TheVariants as opening
use Rattle.dv_coderead.specs.declared.body_line.Context.{Context}
use Rattle.dv_coderead.specs.declared.body_line.BodyLine.{BodyLine}
use Rattle.dv_coderead.specs.declared.body_line.BodyLine.TheVariants as line
use Rattle.dv_coderead.specs.Giving.{◌>>=◌}
use Rattle.dv_coderead.specs.Pieces.{Piece, AWord}
use Rattle.dv_coderead.specs.Words.{number_in, label_in}
use Rattle.dv_coderead.specs.References.{class_in, only_class, is_class_type}
use Rattle.dv_coderead.specs.Laws.{TypesAreRead}
use Rattle.dv_coderead.specs.Operands.{word_at, alone, and_behind}
use Rattle.dv_coderead.specs.Heads.{head_of}
use Rattle.dv_coderead.specs.BodyLines.{said, by_value, count_from, count_in, framed, frame_line, label_line, handler_line, catch_line, key_in, width_from, width_in, opened, packed_begin, sparse_begin, data_begin, case_line, and_element, elements_in, begins_with_number, sparse_line, data_line, line_in, body_line}
use Rattle.law_listing.specs.Listable.{IsNameText}
use Rattle.law_listing.specs.DraftListable.{IsClassText, IsKindText, IsListedCatch}
use Rattle.law_listing.specs.DraftPieces.{one_word, two_words, target_line, case_pieces, element_pieces, kind_pieces, range_pieces, catch_pieces, registers_line}
use Rattle.law_listing.specs.OperandPieces.{insn_pieces, IsReadAsOp}
use Rattle.law_listing.proofs.Words.{IsReadAs, number_read, signed_read, decimal_read, literal_read, plain_literal_read, label_read}
use Rattle.law_listing.proofs.DraftElements.{by_width, Fits}
use Rattle.law_listing.proofs.OperandsRead.{fits_is_signed}
use Rattle.law_listing.proofs.DraftHeads.{label_head, registers_head, catch_head, catchall_head, packed_head, sparse_head, data_head, end_packed_head, end_sparse_head, end_data_head, number_head, signed_head}

-- ---- words

small_signed : (bits : ℕ) (z : ℤ) → 2 ^ (bits - 1) < 10 ^ 64 → fits_signed bits z ≡ true → unsigned_abs z < 10 ^ 64
small_signed bits (pos n) few fits = let lt = ltb-true n (2 ^ (bits - 1)) fits in omega arith
small_signed bits (negsuc n) few fits = let lt = ltb-true n (2 ^ (bits - 1)) fits in omega arith

-- a number of 32 bits
pub key_small : (z : ℤ) → fits_signed 32 z ≡ true → unsigned_abs z < 10 ^ 64
key_small z fits = small_signed 32 z (omega arith) fits

value_of : {A : Type 0} (f : ℤ → Result A LineKind) (text : List ℕ) (z : ℤ) → IsReadAs text z → by_value f (number_in text) ≡ f z
value_of f text z is = ap (by_value f) is.read ∙ ap f is.is

pub key_read : (z : ℤ) → fits_signed 32 z ≡ true → key_in (signed_decimal z) ≡ Ok z
unfolding key_in
key_read z fits = plain_literal_read 32 z (key_small z fits) (fits_is_signed 32 z fits)

count_whole : (n : ℕ) → n ≤ 256 → count_from 0 (pos n) ≡ Ok n
count_whole n few =
    cond-true (nat_le (n + 0) 256) (Ok (n + 0)) _ (le-leb (n + 0) 256 (omega arith)) ∙ ap (λ (m : ℕ). Ok m) (omega arith)

count_read : (n : ℕ) → n ≤ 256 → count_in 0 (decimal n) ≡ Ok n
unfolding count_in
count_read n few = value_of (count_from 0) (decimal n) (pos n) (decimal_read n (omega arith)) ∙ count_whole n few

pub width_small : (width : ℕ) → IsTrue (is_width width) → width < 10 ^ 64
width_small width is = by_width (λ n. n < 10 ^ 64) width is (omega arith) (omega arith) (omega arith) (omega arith)

width_read : (width : ℕ) → IsTrue (is_width width) → width_in (decimal width) ≡ Ok width
unfolding width_in
width_read width is =
    value_of width_from (decimal width) (pos width) (decimal_read width (width_small width is)) ∙ cond-true (is_width width) (Ok width) _ is

pub suffix_is : (width : ℕ) → IsTrue (is_width width) → is_suffix (suffix_of width) ≡ true
suffix_is width is = by_width (λ n. is_suffix (suffix_of n) ≡ true) width is refl refl refl refl

class_read : TypesAreRead → (t : Ty) → IsClassText t → class_in (descriptor t) ≡ Ok t
unfolding class_in
class_read types t is =
    ap (λ (r : Result Ty LineKind). r >>= only_class) (types t is.0.0) ∙
    cond-true ((t.dims == 0) && is_class_type t.base) (Ok t) _ (ap (λ (n : ℕ). (n == 0) && is_class_type t.base) is.1 ∙ is.2)

-- a word alone on its line
word_alone : {A : Type 0} (f : List ℕ → Result A LineKind) (w : List ℕ) (x : A) → f w ≡ Ok x → alone (word_at f (one_word w)) ≡ Ok x
word_alone {A} f w x is = ap (λ (r : Result A LineKind). alone (and_behind [] r)) is

label_alone : (name : List ℕ) → IsNameText name → label_line (target_line name) ≡ Ok name
unfolding label_line
label_alone name is = word_alone label_in (label_text name) name (label_read name is.0)

-- ---- contexts

-- behind the count of registers, in no block or in one
abbrev pub inside : Frame → Option Opening → Context
inside frame block = record { frame = Some frame; block = block }

-- a line's head decides what is read of it
body_by : (arguments : ℕ) (before : Context) (n : ℕ) (ps : List Piece) (h : Head) (r : Result BodyLine LineKind) → head_of ps ≡ h → line_in arguments before.frame n before.block h ps ≡ r → body_line arguments before n ps ≡ r
unfolding body_line
body_by arguments before n ps h r is read = ap (λ (k : Head). line_in arguments before.frame n before.block k ps) is ∙ read

-- ---- the count of registers

abbrev pub frame_of : ℕ → ℕ → Frame
frame_of arguments registers = record { registers = registers; arguments = arguments }

pub registers_read : (arguments n registers : ℕ) → registers ≤ 256 → body_line arguments (record { frame = None; block = None }) n (registers_line registers) ≡ Ok (line.Registers (frame_of arguments registers))
unfolding frame_line
registers_read arguments n registers few =
    body_by arguments (record { frame = None; block = None }) n (registers_line registers) (head.Directive directive.Registers) _
    (registers_head (one_word (decimal registers)))
    (ap (λ (r : Result ℕ LineKind). said line.Registers (framed arguments r)) (word_alone (count_in 0) (decimal registers) registers (count_read registers few)))

-- ---- labels and instructions

module _ (arguments : ℕ) (frame : Frame) (n : ℕ) where
  pub label_told : (name : List ℕ) → IsNameText name → body_line arguments (inside frame None) n (target_line name) ≡ Ok (line.Label name)
  label_told name is =
      body_by arguments (inside frame None) n (target_line name) head.Label _ (label_head name [] is.0)
      (ap (λ (r : Result (List ℕ) LineKind). said line.Label r) (label_alone name is))

  pub op_told : (op : Draftop) → IsReadAsOp op → body_line arguments (inside frame None) n (insn_pieces op) ≡ Ok (line.Op op)
  op_told op is =
      body_by arguments (inside frame None) n (insn_pieces op) (head.Opcode op.insn.op) _ is.head
      (ap (λ (r : Result Draftop LineKind). said line.Op r) (is.operands frame))

  -- ---- handlers

  handler_read : (kind : Option Ty) (c : Catch) → IsNameText c.from → IsNameText c.to → IsNameText c.at → handler_line n kind (range_pieces c) ≡ Ok (record { line = n; kind = kind; from = c.from; to = c.to; at = c.at })
  unfolding handler_line
  handler_read kind c from to at =
      rw (label_read c.from from.0, label_read c.to to.0, label_alone c.at at) refl

  abbrev pub handler_at : Catch → Catch
  handler_at c = record { line = n; kind = c.kind; from = c.from; to = c.to; at = c.at }

  catch_read : TypesAreRead → (t : Ty) (c : Catch) → IsClassText t → IsNameText c.from → IsNameText c.to → IsNameText c.at → catch_line n (AWord (descriptor t) ∷ range_pieces c) ≡ Ok (record { line = n; kind = Some t; from = c.from; to = c.to; at = c.at })
  unfolding catch_line
  catch_read types t c is from to at = rw (class_read types t is) (handler_read (Some t) c from to at)

  kind_told : TypesAreRead → (kind : Option Ty) (c : Catch) → IsKindText kind → IsNameText c.from → IsNameText c.to → IsNameText c.at → body_line arguments (inside frame None) n (kind_pieces kind ++ range_pieces c) ≡ Ok (line.Handler (record { line = n; kind = kind; from = c.from; to = c.to; at = c.at }))
  kind_told types None c is from to at =
      body_by arguments (inside frame None) n (AWord (codes ".catchall") ∷ range_pieces c) (head.Directive directive.Catchall) _
      (catchall_head (range_pieces c))
      (ap (λ (r : Result Catch LineKind). said line.Handler r) (handler_read None c from to at))
  kind_told types (Some t) c is from to at =
      body_by arguments (inside frame None) n (AWord (codes ".catch") ∷ AWord (descriptor t) ∷ range_pieces c) (head.Directive directive.Catch) _
      (catch_head (AWord (descriptor t) ∷ range_pieces c))
      (ap (λ (r : Result Catch LineKind). said line.Handler r) (catch_read types t c is from to at))

  pub catch_told : TypesAreRead → (c : Catch) → IsListedCatch c → body_line arguments (inside frame None) n (catch_pieces c) ≡ Ok (line.Handler (handler_at c))
  catch_told types c is = kind_told types c.kind c is.kind is.from is.to is.at

  -- ---- payloads

  pub packed_told : (first : ℤ) → fits_signed 32 first ≡ true → body_line arguments (inside frame None) n (two_words (codes ".packed-switch") (signed_decimal first)) ≡ Ok (line.Begin (opening.Packed first))
  unfolding packed_begin
  packed_told first fits =
      body_by arguments (inside frame None) n (two_words (codes ".packed-switch") (signed_decimal first)) (head.Directive (directive.Begin Packed)) _
      (packed_head (one_word (signed_decimal first)))
      (ap (λ (r : Result ℤ LineKind). said line.Begin (opened opening.Packed r)) (word_alone key_in (signed_decimal first) first (key_read first fits)))

  pub sparse_told : body_line arguments (inside frame None) n (one_word (codes ".sparse-switch")) ≡ Ok (line.Begin opening.Sparse)
  unfolding sparse_begin
  sparse_told = body_by arguments (inside frame None) n (one_word (codes ".sparse-switch")) (head.Directive (directive.Begin Sparse)) _ (sparse_head []) refl

  pub data_told : (width : ℕ) → IsTrue (is_width width) → body_line arguments (inside frame None) n (two_words (codes ".array-data") (decimal width)) ≡ Ok (line.Begin (opening.Data width))
  unfolding data_begin
  data_told width is =
      body_by arguments (inside frame None) n (two_words (codes ".array-data") (decimal width)) (head.Directive (directive.Begin Data)) _
      (data_head (one_word (decimal width)))
      (ap (λ (r : Result ℕ LineKind). said line.Begin (opened opening.Data r)) (word_alone width_in (decimal width) width (width_read width is)))

  pub target_told : (first : ℤ) (name : List ℕ) → IsNameText name → body_line arguments (inside frame (Some (opening.Packed first))) n (target_line name) ≡ Ok (line.Target name)
  target_told first name is =
      body_by arguments (inside frame (Some (opening.Packed first))) n (target_line name) head.Label _ (label_head name [] is.0)
      (ap (λ (r : Result (List ℕ) LineKind). said line.Target r) (label_alone name is))

  pub end_packed_told : (first : ℤ) → body_line arguments (inside frame (Some (opening.Packed first))) n (two_words (codes ".end") (codes "packed-switch")) ≡ Ok line.End
  end_packed_told first =
      body_by arguments (inside frame (Some (opening.Packed first))) n (two_words (codes ".end") (codes "packed-switch")) (head.Directive (directive.End Packed)) _ (end_packed_head []) refl

  -- a line that begins with a number
  numbered_by : {A : Type 0} (text : List ℕ) (z : ℤ) (ps : List Piece) (x e : A) → IsReadAs text z → (if begins_with_number (AWord text ∷ ps) then x else e) ≡ x
  numbered_by text z ps x e is = cond-true (is_some (number_in text)) x e (ap (λ (o : Option Number). is_some o) is.read)

  case_read : (key : ℤ) (name : List ℕ) → fits_signed 32 key ≡ true → IsNameText name → case_line (case_pieces (key, name)) ≡ Ok (key, name)
  unfolding case_line
  case_read key name fits is = rw (key_read key fits, label_alone name is) refl

  case_by : (key : ℤ) (name : List ℕ) → fits_signed 32 key ≡ true → IsNameText name → sparse_line head.Other (case_pieces (key, name)) ≡ Ok (line.Case key name)
  case_by key name fits is =
      numbered_by (signed_decimal key) key (AWord (codes "->") ∷ AWord (label_text name) ∷ []) _ _ (signed_read key (key_small key fits)) ∙
      ap (λ (r : Result (ℤ × List ℕ) LineKind). said (λ (c : ℤ × List ℕ). line.Case c.0 c.1) r) (case_read key name fits is)

  pub case_told : (key : ℤ) (name : List ℕ) → fits_signed 32 key ≡ true → IsNameText name → body_line arguments (inside frame (Some opening.Sparse)) n (case_pieces (key, name)) ≡ Ok (line.Case key name)
  case_told key name fits is =
      body_by arguments (inside frame (Some opening.Sparse)) n (case_pieces (key, name)) head.Other _
      (signed_head key _ (key_small key fits)) (case_by key name fits is)

  pub end_sparse_told : body_line arguments (inside frame (Some opening.Sparse)) n (two_words (codes ".end") (codes "sparse-switch")) ≡ Ok line.End
  end_sparse_told =
      body_by arguments (inside frame (Some opening.Sparse)) n (two_words (codes ".end") (codes "sparse-switch")) (head.Directive (directive.End Sparse)) _ (end_sparse_head []) refl

  -- an element alone on its line
  element_read : (width : ℕ) (z : ℤ) → IsTrue (is_width width) → Fits width z → elements_in width (element_pieces width z) ≡ Ok (z ∷ [])
  unfolding elements_in
  element_read width z is fits =
      ap (λ (r : Result ℤ LineKind). r >>= λ y. and_element y (Ok [])) (literal_read (8 * width) z (suffix_of width) fits.small fits.signed (suffix_is width is))

  element_by : (width : ℕ) (z : ℤ) → IsTrue (is_width width) → Fits width z → data_line width head.Other (element_pieces width z) ≡ Ok (line.Elements (z ∷ []))
  element_by width z is fits =
      numbered_by (signed_decimal z ++ suffix_of width) z [] _ _ (number_read z (suffix_of width) fits.small (suffix_is width is)) ∙
      ap (λ (r : Result (List ℤ) LineKind). said line.Elements r) (element_read width z is fits)

  pub element_told : (width : ℕ) (z : ℤ) → IsTrue (is_width width) → Fits width z → body_line arguments (inside frame (Some (opening.Data width))) n (element_pieces width z) ≡ Ok (line.Elements (z ∷ []))
  element_told width z is fits =
      body_by arguments (inside frame (Some (opening.Data width))) n (element_pieces width z) head.Other _
      (number_head z (suffix_of width) [] fits.small) (element_by width z is fits)

  pub end_data_told : (width : ℕ) → body_line arguments (inside frame (Some (opening.Data width))) n (two_words (codes ".end") (codes "array-data")) ≡ Ok line.End
  end_data_told width =
      body_by arguments (inside frame (Some (opening.Data width))) n (two_words (codes ".end") (codes "array-data")) (head.Directive (directive.End Data)) _ (end_data_head []) refl
