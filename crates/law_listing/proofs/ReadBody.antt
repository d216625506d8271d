-- The draft that the lines of a method give can be listed.
use Rattle.std.proofs.Common.{◌≡◌, ℕ, zero, suc, ◌+◌, ◌/◌, ◌%◌, ◌^◌, ◌<◌, ◌≤◌, ℤ, pos, negsuc, List, [], ◌∷◌, ◌++◌, length, drop, Option, Some, None, IsTrue, Result, Ok, Err, IfOk, refl, sym, ap, subst, ◌∙◌, append_assoc, arith}
use Rattle.std.specs.Prelude.{bytes_eq, codes, nat_le}
use Rattle.std.specs.Int.{byte_at, bytes_low_first, to_le_bytes, w64}
use Rattle.std.specs.List.{All, flat_map}
use Rattle.std.specs.Str.{IsUtf8}
use Rattle.std.proofs.Math.Nat.{add-mod_left, zero-mod}
use Rattle.std.proofs.lemmas.Bool.{and_from, cond_both, leb-true}
use Rattle.std.proofs.lemmas.List.{length-append}
use Rattle.std.proofs.lemmas.List.Elements.{All-nil, All-cons, All-append, All-head, All-tail, All-take}
use Rattle.dv_defs.specs.declared.faults.LineKind.{LineKind}
use Rattle.dv_defs.specs.declared.names.Ty.{Ty}
use Rattle.dv_defs.specs.Numbers.{bits64}
use Rattle.dv_defs.specs.Payloads.{all_fit_signed}
use Rattle.dv_defs.specs.Spelling.{fits_signed}
use Rattle.dv_defs.specs.Tiling.{is_width}
use Rattle.dv_draft.specs.declared.draft.Catch.{Catch}
use Rattle.dv_draft.specs.declared.draft.Draftop.{Draftop}
use Rattle.dv_draft.specs.declared.draft.Item.{Item}
use Rattle.dv_draft.specs.declared.draft.What.TheVariants as what
use Rattle.dv_draft.specs.Draft.{DraftValue}
use Rattle.dv_lex.specs.declared.line.Stop.{Stop}
use Rattle.dv_lex.specs.Numbers.{Number, signed}
use Rattle.dv_coderead.specs.declared.body_line.BodyLine.{BodyLine}
use Rattle.dv_coderead.specs.declared.body_line.BodyLine.TheVariants as line
use Rattle.dv_coderead.specs.declared.body_line.Context.{Context}
use Rattle.dv_coderead.specs.declared.body_line.Opening.{Opening}
use Rattle.dv_coderead.specs.declared.body_line.Opening.TheVariants as opening
use Rattle.dv_coderead.specs.declared.head.Block.{Block}
use Rattle.dv_coderead.specs.declared.head.Block.TheVariants.{Packed, Sparse, Data, Units}
use Rattle.dv_coderead.specs.declared.head.Directive.{Directive}
use Rattle.dv_coderead.specs.declared.head.Directive.TheVariants as directive
use Rattle.dv_coderead.specs.declared.head.Head.{Head}
use Rattle.dv_coderead.specs.declared.head.Head.TheVariants as head
use Rattle.dv_coderead.specs.declared.words.Frame.{Frame}
use Rattle.dv_coderead.specs.Bodies.{Told, and_catch, and_item, and_told, body_from, bytes_of, case_label_of, case_labels, catches_of, data_bytes, element_bytes, finished, is_whole, item_of, items_of, key_of, keys, nothing_before, payload_of, registers_of, target_of, targets, told_behind, told_by, told_next}
use Rattle.dv_coderead.specs.BodyLines.{Case, IsHead, arrow_at, begin_line, begins_with_number, body_line, by_value, case_line, catch_line, count_from, count_in, data_begin, data_line, directive_line, elements_in, end_line, frame_line, framed, handler_line, key_in, label_line, line_in, method_line, opened, packed_begin, packed_line, registers_line, said, sparse_begin, sparse_line, width_from, width_in}
use Rattle.dv_coderead.specs.Giving.{◌>>>◌, on_line}
use Rattle.dv_coderead.specs.Heads.{head_of}
use Rattle.dv_coderead.specs.Kept.{TextLine, counts, depth_behind, kept}
use Rattle.dv_coderead.specs.Laws.{TypesAreRead, PrototypesAreRead}
use Rattle.dv_coderead.specs.Operands.{after_first, dots_at, ended, mark_at, operands_in, word_at}
use Rattle.dv_coderead.specs.Pieces.{Piece, AWord, AMark, AString, ACharacter}
use Rattle.dv_coderead.specs.References.{class_in, is_class_type}
use Rattle.dv_coderead.specs.Words.{label_in, number_in}
use Rattle.law_listing.specs.DraftListable.{AreNameTexts, IsClassText, IsKindText, IsListedCatch, IsListedDraft, IsListedItem, IsListedWhat}
use Rattle.law_listing.specs.Listable.{IsListedOp, IsNameText}
use Rattle.law_listing.specs.ReadLaws.{AreLineTexts, ArePieceTexts, IsLineText}
use Rattle.dv_coderead.proofs.Opcodes.{head_named}
use Rattle.dv_coderead.proofs.Adding.{element_length}
use Rattle.law_listing.proofs.ReadOps.{operands_listed}
use Rattle.law_listing.proofs.ReadParts.{behind_text, behind_texts, dots_leave, either, mark_leaves, of_alone, of_word}
use Rattle.dv_coderead.proofs.FormedParts.{after_such, literal_fits}
use Rattle.law_listing.proofs.ReadWords.{IsTypeOf, class_listed, label_listed, weaker_ok}

-- ---- what a line says

abbrev IsListedOpening : Opening → Type 0
IsListedOpening (opening.Packed first) = IsTrue (fits_signed 32 first)
IsListedOpening opening.Sparse = Unit {0}
IsListedOpening (opening.Data width) = IsTrue (is_width width)

abbrev IsKey : ℤ → Type 0
IsKey z = IsTrue (fits_signed 32 z)

abbrev FewRegisters : Frame → Type 0
FewRegisters f = f.registers ≤ 256

abbrev IsListedLine : BodyLine → Type 0
IsListedLine (line.Registers f) = FewRegisters f
IsListedLine (line.Label name) = IsNameText name
IsListedLine (line.Op op) = IsListedOp op
IsListedLine (line.Handler c) = IsListedCatch c
IsListedLine (line.Begin o) = IsListedOpening o
IsListedLine (line.Target name) = IsNameText name
IsListedLine (line.Case key name) = IsKey key × IsNameText name
IsListedLine (line.Elements zs) = Unit {0}
IsListedLine line.End = Unit {0}

said_listed : {A : Type 0} (P : A → Type 0) (f : A → BodyLine) (read : Result A LineKind) → ((x : A) → P x → IsListedLine (f x)) → IfOk read P → IfOk (said f read) IsListedLine
said_listed P f (Ok x) goes is = goes x is
said_listed P f (Err k) goes is = tt

pub of_value : {A : Type 0} (P : A → Type 0) (f : ℤ → Result A LineKind) (o : Option Number) → ((z : ℤ) → IfOk (f z) P) → IfOk (by_value f o) P
of_value P f None is = tt
of_value P f (Some n) is = is (signed n)

-- ---- counts of registers

abbrev pub IsCount : ℕ → Type 0
IsCount n = n ≤ 256

count_from_few : (more : ℕ) (z : ℤ) → IfOk (count_from more z) IsCount
count_from_few more (pos n) =
    let P : Result ℕ LineKind → Type 0 = λ r. IfOk r IsCount in
    cond_both (nat_le (n + more) 256) _ _ P (λ e. leb-true (n + more) 256 e) (λ _. tt)
count_from_few more (negsuc n) = tt

pub count_in_few : (more : ℕ) (w : List ℕ) → IsUtf8 w → IfOk (count_in more w) IsCount
unfolding count_in
count_in_few more w u = of_value IsCount (count_from more) (number_in w) (count_from_few more)

framed_few : (arguments : ℕ) (read : Result ℕ LineKind) → IfOk read IsCount → IfOk (framed arguments read) FewRegisters
framed_few arguments (Ok n) few = few
framed_few arguments (Err k) few = tt

frame_few : (arguments more : ℕ) (ps : List Piece) → ArePieceTexts ps → IfOk (frame_line arguments more ps) FewRegisters
unfolding frame_line
frame_few arguments more ps are = framed_few arguments _ (of_alone IsCount (word_at (count_in more) ps) (of_word IsCount (count_in more) (count_in_few more) ps are))

registers_listed : (frame : Option Frame) (arguments more : ℕ) (ps : List Piece) → ArePieceTexts ps → IfOk (registers_line frame arguments more ps) IsListedLine
registers_listed None arguments more ps are = said_listed FewRegisters line.Registers (frame_line arguments more ps) (λ f few. few) (frame_few arguments more ps are)
registers_listed (Some f) arguments more ps are = tt

-- ---- labels and handlers

label_line_listed : (ps : List Piece) → ArePieceTexts ps → IfOk (label_line ps) IsNameText
unfolding label_line
label_line_listed ps are = of_alone IsNameText (word_at label_in ps) (of_word IsNameText label_in label_listed ps are)

abbrev IsNamePart : List ℕ × List Piece → Type 0
IsNamePart x = IsNameText x.0 × ArePieceTexts x.1

handler_listed : (n : ℕ) (ty : Option Ty) (ps : List Piece) → IsKindText ty → ArePieceTexts ps → IfOk (handler_line n ty ps) IsListedCatch
unfolding handler_line
handler_listed n ty ps kind are =
    after_such IsListedCatch ArePieceTexts (mark_at 123 ps) _ (mark_leaves 123 ps are) (λ inside left.
    after_such IsListedCatch IsNamePart (word_at label_in inside) _ (of_word IsNameText label_in label_listed inside left) (λ from is_from.
    after_such IsListedCatch ArePieceTexts (dots_at from.1) _ (dots_leave from.1 is_from.1) (λ dots behind_dots.
    after_such IsListedCatch IsNamePart (word_at label_in dots) _ (of_word IsNameText label_in label_listed dots behind_dots) (λ to is_to.
    after_such IsListedCatch ArePieceTexts (mark_at 125 to.1) _ (mark_leaves 125 to.1 is_to.1) (λ outside behind_range.
    after_such IsListedCatch IsNameText (label_line outside) _ (label_line_listed outside behind_range) (λ at is_at.
    record { kind = kind; from = is_from.0; to = is_to.0; at = is_at }))))))

-- ---- payloads

key_listed : (w : List ℕ) → IsUtf8 w → IfOk (key_in w) IsKey
unfolding key_in
key_listed w u = literal_fits 32 w

abbrev IsWidth : ℕ → Type 0
IsWidth n = IsTrue (is_width n)

width_from_is : (z : ℤ) → IfOk (width_from z) IsWidth
width_from_is (pos n) =
    let P : Result ℕ LineKind → Type 0 = λ r. IfOk r IsWidth in
    cond_both (is_width n) _ _ P (λ e. e) (λ _. tt)
width_from_is (negsuc n) = tt

width_listed : (w : List ℕ) → IsUtf8 w → IfOk (width_in w) IsWidth
unfolding width_in
width_listed w u = of_value IsWidth width_from (number_in w) width_from_is

opened_listed : {A : Type 0} (P : A → Type 0) (f : A → Opening) (read : Result A LineKind) → ((x : A) → P x → IsListedOpening (f x)) → IfOk read P → IfOk (opened f read) IsListedOpening
opened_listed P f (Ok x) goes is = goes x is
opened_listed P f (Err k) goes is = tt

pub any_ok : {A : Type 0} (read : Result A LineKind) → IfOk read (λ _. Unit {0})
any_ok (Ok x) = tt
any_ok (Err k) = tt

begin_listed : (b : Block) (ps : List Piece) → ArePieceTexts ps → IfOk (begin_line b ps) IsListedOpening
unfolding packed_begin sparse_begin data_begin
begin_listed Packed ps are = opened_listed IsKey opening.Packed _ (λ z fits. fits) (of_alone IsKey (word_at key_in ps) (of_word IsKey key_in key_listed ps are))
begin_listed Sparse ps are = opened_listed (λ _. Unit {0}) (λ nothing. opening.Sparse) (ended ps) (λ _ is. tt) (any_ok (ended ps))
begin_listed Data ps are = opened_listed IsWidth opening.Data _ (λ n is. is) (of_alone IsWidth (word_at width_in ps) (of_word IsWidth width_in width_listed ps are))
begin_listed Units ps are = tt

arrow_leaves : (ps : List Piece) → ArePieceTexts ps → IfOk (arrow_at ps) ArePieceTexts
arrow_leaves [] are = tt
arrow_leaves (AWord w ∷ ps) are = either ArePieceTexts (bytes_eq w (codes "->")) _ _ (behind_text (AWord w) ps are) tt
arrow_leaves (AMark b ∷ ps) are = tt
arrow_leaves (AString units ∷ ps) are = tt
arrow_leaves (ACharacter unit ∷ ps) are = tt

abbrev IsCase : Case → Type 0
IsCase c = IsKey c.0 × IsNameText c.1

case_listed : (ps : List Piece) → ArePieceTexts ps → IfOk (case_line ps) IsCase
unfolding case_line
case_listed ps are =
    after_such IsCase (λ x. IsKey x.0 × ArePieceTexts x.1) (word_at key_in ps) _ (of_word IsKey key_in key_listed ps are) (λ key fits.
    after_such IsCase ArePieceTexts (arrow_at key.1) _ (arrow_leaves key.1 fits.1) (λ arrow left.
    after_such IsCase IsNameText (label_line arrow) _ (label_line_listed arrow left) (λ label named. (fits.0, named))))

-- ---- lines

end_listed : (ps : List Piece) → IfOk (end_line ps) IsListedLine
end_listed ps = said_listed (λ _. Unit {0}) (λ nothing. line.End) (ended (drop 2 ps)) (λ _ is. tt) (any_ok (ended (drop 2 ps)))

packed_listed : (h : Head) (ps : List Piece) → ArePieceTexts ps → IfOk (packed_line h ps) IsListedLine
packed_listed head.Label ps are = said_listed IsNameText line.Target (label_line ps) (λ name is. is) (label_line_listed ps are)
packed_listed (head.Directive (directive.End Packed)) ps are = end_listed ps
packed_listed h ps are = tt

sparse_listed : (h : Head) (ps : List Piece) → ArePieceTexts ps → IfOk (sparse_line h ps) IsListedLine
sparse_listed head.Other ps are = either IsListedLine (begins_with_number ps) _ _ (said_listed IsCase (λ c. line.Case c.0 c.1) (case_line ps) (λ c is. is) (case_listed ps are)) tt
sparse_listed (head.Directive (directive.End Sparse)) ps are = end_listed ps
sparse_listed h ps are = tt

data_listed : (width : ℕ) (h : Head) (ps : List Piece) → IfOk (data_line width h ps) IsListedLine
data_listed width head.Other ps =
    either IsListedLine (begins_with_number ps) _ _ (said_listed (λ _. Unit {0}) line.Elements (elements_in width ps) (λ zs is. tt) (any_ok (elements_in width ps))) tt
data_listed width (head.Directive (directive.End Data)) ps = end_listed ps
data_listed width h ps = tt

module _ (types : TypesAreRead) (protos : PrototypesAreRead) where
  class_kind : (w : List ℕ) → IsUtf8 w → IfOk (class_in w) IsClassText
  class_kind w u =
      weaker_ok (λ t. IsTypeOf w t × (t.dims ≡ 0) × IsTrue (is_class_type t.base)) IsClassText (class_in w)
      (λ t is. ((is.0.0, subst IsUtf8 (sym is.0.1) u), is.1, is.2)) (class_listed types w)

  catch_listed : (n : ℕ) (ps : List Piece) → ArePieceTexts ps → IfOk (catch_line n ps) IsListedCatch
  unfolding catch_line
  catch_listed n ps are =
      after_such IsListedCatch (λ x. IsClassText x.0 × ArePieceTexts x.1) (word_at class_in ps) _ (of_word IsClassText class_in class_kind ps are) (λ class is.
      handler_listed n (Some class.0) class.1 is.0 is.1)

  directive_listed : (arguments : ℕ) (frame : Option Frame) (n : ℕ) (d : Directive) (ps : List Piece) → ArePieceTexts ps → IfOk (directive_line arguments frame n d ps) IsListedLine
  directive_listed arguments frame n directive.Registers ps are = registers_listed frame arguments 0 ps are
  directive_listed arguments frame n directive.Locals ps are = registers_listed frame arguments arguments ps are
  directive_listed arguments frame n directive.Catch ps are = said_listed IsListedCatch line.Handler (catch_line n ps) (λ c is. is) (catch_listed n ps are)
  directive_listed arguments frame n directive.Catchall ps are = said_listed IsListedCatch line.Handler (handler_line n None ps) (λ c is. is) (handler_listed n None ps tt are)
  directive_listed arguments frame n (directive.Begin b) ps are = said_listed IsListedOpening line.Begin (begin_line b ps) (λ o is. is) (begin_listed b ps are)
  directive_listed arguments frame n d ps are = tt

  op_listed : (f : Frame) (op : ℕ) (ps : List Piece) → IsHead (head.Opcode op) → ArePieceTexts ps → IfOk (said line.Op (operands_in f op (after_first ps))) IsListedLine
  op_listed f op ps some are = said_ok (operands_in f op (after_first ps)) (λ d e. operands_listed types protos f op (after_first ps) d some (behind_texts ps are) e)
    where
      said_ok : (read : Result Draftop LineKind) → ((d : Draftop) → read ≡ Ok d → IsListedOp d) → IfOk (said line.Op read) IsListedLine
      said_ok (Ok d) is = is d refl
      said_ok (Err k) is = tt

  method_listed : (arguments : ℕ) (frame : Option Frame) (n : ℕ) (h : Head) (ps : List Piece) → IsHead h → ArePieceTexts ps → IfOk (method_line arguments frame n h ps) IsListedLine
  method_listed arguments frame n (head.Directive d) ps is are = directive_listed arguments frame n d (after_first ps) (behind_texts ps are)
  method_listed arguments (Some f) n head.Label ps is are = said_listed IsNameText line.Label (label_line ps) (λ name named. named) (label_line_listed ps are)
  method_listed arguments (Some f) n (head.Opcode op) ps is are = op_listed f op ps is are
  method_listed arguments frame n h ps is are = tt

  block_listed : (arguments : ℕ) (frame : Option Frame) (n : ℕ) (block : Option Opening) (h : Head) (ps : List Piece) → IsHead h → ArePieceTexts ps
      → IfOk (line_in arguments frame n block h ps) IsListedLine
  block_listed arguments frame n None h ps is are = method_listed arguments frame n h ps is are
  block_listed arguments frame n (Some (opening.Packed first)) h ps is are = packed_listed h ps are
  block_listed arguments frame n (Some opening.Sparse) h ps is are = sparse_listed h ps are
  block_listed arguments frame n (Some (opening.Data width)) h ps is are = data_listed width h ps

  body_line_listed : (arguments : ℕ) (before : Context) (n : ℕ) (ps : List Piece) → ArePieceTexts ps → IfOk (body_line arguments before n ps) IsListedLine
  unfolding body_line
  body_line_listed arguments before n ps are = block_listed arguments before.frame n before.block (head_of ps) ps (head_named ps) are

-- ---- what all lines say

abbrev IsListedTold : Told → Type 0
IsListedTold t = IsListedLine t.says

abbrev AreListedTold : List Told → Type 0
AreListedTold ts = All IsListedTold ts

told_more : (n : ℕ) (s : BodyLine) (read : Result (List Told) Stop) → IsListedLine s → IfOk read AreListedTold → IfOk (and_told n s read) AreListedTold
told_more n s (Ok ts) is are = All-cons IsListedTold (record { number = n; says = s }) ts is are
told_more n s (Err e) is are = tt

-- one line, and what goes by it
pub line_then : {A B : Type 0} (P : A → Type 0) (Q : B → Type 0) (n : ℕ) (read : Result A LineKind) (next : A → Result B Stop) → IfOk read P → ((x : A) → P x → IfOk (next x) Q) → IfOk (on_line n read >>> next) Q
line_then P Q n (Ok x) next is goes = goes x is
line_then P Q n (Err k) next is goes = tt

module _ (types : TypesAreRead) (protos : PrototypesAreRead) (arguments : ℕ) where
  told_listed : (before : Context) (ls : List TextLine) → AreLineTexts ls → IfOk (told_by arguments before ls) AreListedTold
  unfolding told_by
  told_listed before [] are = All-nil IsListedTold
  told_listed before (l ∷ ls) are =
      line_then IsListedLine AreListedTold l.number (body_line arguments before l.number l.pieces) _
      (body_line_listed types protos arguments before l.number l.pieces (All-head IsLineText l ls are)) (λ s is.
      told_more l.number s (told_by arguments (told_next before s) ls) is (told_listed (told_next before s) ls (All-tail IsLineText l ls are)))

-- ---- payloads

target_listed : (s : BodyLine) (names : List (List ℕ)) → IsListedLine s → AreNameTexts names → AreNameTexts (target_of s names)
target_listed (line.Target name) names is are = All-cons IsNameText name names is are
target_listed s names is are = All-nil IsNameText

targets_listed : (ts : List Told) → AreListedTold ts → AreNameTexts (targets ts)
unfolding targets
targets_listed [] are = All-nil IsNameText
targets_listed (t ∷ ts) are = target_listed t.says (targets ts) (All-head IsListedTold t ts are) (targets_listed ts (All-tail IsListedTold t ts are))

-- keys with a label each
record AreCases (keys : List ℤ) (names : List (List ℕ)) : Type 0 where
  fit : IsTrue (all_fit_signed keys)
  each : length names ≡ length keys
  named : AreNameTexts names

no_case : AreCases [] []
no_case = record { fit = refl; each = refl; named = All-nil IsNameText }

case_more : (s : BodyLine) (ks : List ℤ) (names : List (List ℕ)) → IsListedLine s → AreCases ks names → AreCases (key_of s ks) (case_label_of s names)
case_more (line.Case key name) ks names is are = record {
  fit = and_from _ _ is.0 are.fit;
  each = (let e = are.each in omega arith);
  named = All-cons IsNameText name names is.1 are.named;
}
case_more s ks names is are = no_case

cases_listed : (ts : List Told) → AreListedTold ts → AreCases (keys ts) (case_labels ts)
unfolding keys case_labels
cases_listed [] are = no_case
cases_listed (t ∷ ts) are = case_more t.says (keys ts) (case_labels ts) (All-head IsListedTold t ts are) (cases_listed ts (All-tail IsListedTold t ts are))

abbrev IsByte : ℕ → Type 0
IsByte b = b < 256

byte_small : (i x : ℕ) → byte_at i x < 256
byte_small zero x = omega arith
byte_small (suc i) x = let q = x / 256 ^ suc i in omega arith

bytes_small : (i k x : ℕ) → All IsByte (bytes_low_first i k x)
bytes_small i zero x = All-nil IsByte
bytes_small i (suc k) x = All-cons IsByte (byte_at i x) (bytes_low_first (suc i) k x) (byte_small i x) (bytes_small (suc i) k x)

-- whole elements, as bytes
record AreElements (width : ℕ) (bytes : List ℕ) : Type 0 where
  whole : length bytes % width ≡ 0
  small : All IsByte bytes

no_element : (width : ℕ) → AreElements width []
no_element width = record { whole = zero-mod width; small = All-nil IsByte }

element_more : (width : ℕ) (z : ℤ) (bytes : List ℕ) → IsTrue (is_width width) → AreElements width bytes → AreElements width (element_bytes width z ++ bytes)
element_more width z bytes has are = record {
  whole = ap (λ n. n % width) (length-append (element_bytes width z) bytes ∙ ap (λ n. n + length bytes) (element_length width z has)) ∙ add-mod_left width (length bytes) ∙ are.whole;
  small = All-append IsByte (element_bytes width z) bytes (All-take IsByte width (to_le_bytes w64 (bits64 z)) (bytes_small 0 8 (bits64 z))) are.small;
}

elements_more : (width : ℕ) (zs : List ℤ) (bytes : List ℕ) → IsTrue (is_width width) → AreElements width bytes → AreElements width (flat_map (element_bytes width) zs ++ bytes)
elements_more width [] bytes has are = are
elements_more width (z ∷ zs) bytes has are =
    subst (AreElements width) (sym (append_assoc (element_bytes width z) (flat_map (element_bytes width) zs) bytes))
    (element_more width z (flat_map (element_bytes width) zs ++ bytes) has (elements_more width zs bytes has are))

line_more : (width : ℕ) (s : BodyLine) (bytes : List ℕ) → IsTrue (is_width width) → AreElements width bytes → AreElements width (bytes_of width s bytes)
line_more width (line.Elements zs) bytes has are = elements_more width zs bytes has are
line_more width s bytes has are = no_element width

elements_listed : (width : ℕ) (ts : List Told) → IsTrue (is_width width) → AreElements width (data_bytes width ts)
unfolding data_bytes
elements_listed width [] has = no_element width
elements_listed width (t ∷ ts) has = line_more width t.says (data_bytes width ts) has (elements_listed width ts has)

-- ---- the draft

payload_listed : (o : Opening) (ts : List Told) → IsListedOpening o → AreListedTold ts → IsListedWhat (payload_of o ts)
payload_listed (opening.Packed first) ts is are = (is, targets_listed ts are)
payload_listed opening.Sparse ts is are = let cs = cases_listed ts are in (cs.fit, cs.each, cs.named)
payload_listed (opening.Data width) ts is are = let es = elements_listed width ts is in (is, es.whole, es.small)

item_more : (n : ℕ) (s : BodyLine) (ts : List Told) (items : List Item) → IsListedLine s → AreListedTold ts → All IsListedItem items → All IsListedItem (and_item n (item_of s ts) items)
item_more n (line.Label name) ts items is are others = All-cons IsListedItem (record { line = n; what = what.Label name }) items is others
item_more n (line.Op op) ts items is are others = All-cons IsListedItem (record { line = n; what = what.Op op }) items is others
item_more n (line.Begin o) ts items is are others = All-cons IsListedItem (record { line = n; what = payload_of o ts }) items (payload_listed o ts is are) others
item_more n s ts items is are others = others

items_listed : (ts : List Told) → AreListedTold ts → All IsListedItem (items_of ts)
unfolding items_of
items_listed [] are = All-nil IsListedItem
items_listed (t ∷ ts) are =
    let rest = All-tail IsListedTold t ts are in
    item_more t.number t.says ts (items_of ts) (All-head IsListedTold t ts are) rest (items_listed ts rest)

catch_more : (s : BodyLine) (catches : List Catch) → IsListedLine s → All IsListedCatch catches → All IsListedCatch (and_catch s catches)
catch_more (line.Handler c) catches is others = All-cons IsListedCatch c catches is others
catch_more s catches is others = others

catches_listed : (ts : List Told) → AreListedTold ts → All IsListedCatch (catches_of ts)
unfolding catches_of
catches_listed [] are = All-nil IsListedCatch
catches_listed (t ∷ ts) are = catch_more t.says (catches_of ts) (All-head IsListedTold t ts are) (catches_listed ts (All-tail IsListedTold t ts are))

next_few : (c : Context) (s : BodyLine) → IsListedLine s → registers_of c.frame ≤ 256 → registers_of (told_next c s).frame ≤ 256
next_few c (line.Registers f) is few = is
next_few c (line.Begin o) is few = few
next_few c line.End is few = few
next_few c s is few = few

behind_few : (c : Context) (ts : List Told) → AreListedTold ts → registers_of c.frame ≤ 256 → registers_of (told_behind c ts).frame ≤ 256
unfolding told_behind
behind_few c [] are few = few
behind_few c (t ∷ ts) are few = behind_few (told_next c t.says) ts (All-tail IsListedTold t ts are) (next_few c t.says (All-head IsListedTold t ts are) few)

nothing_few : registers_of nothing_before.frame ≤ 256
nothing_few = omega arith

finished_listed : (past annotations : ℕ) (ts : List Told) → AreListedTold ts → IfOk (finished past annotations (told_behind nothing_before ts) ts) IsListedDraft
finished_listed past annotations ts are =
    let P : Result DraftValue Stop → Type 0 = λ r. IfOk r IsListedDraft in
    cond_both (is_whole (told_behind nothing_before ts) annotations) _ _ P
    (λ _. record { registers = behind_few nothing_before ts are nothing_few; items = items_listed ts are; catches = catches_listed ts are }) (λ _. tt)

pub then_listed : {A B : Type 0} (P : A → Type 0) (Q : B → Type 0) (read : Result A Stop) (next : A → Result B Stop) → IfOk read P → ((x : A) → P x → IfOk (next x) Q) → IfOk (read >>> next) Q
then_listed P Q (Ok x) next is goes = goes x is
then_listed P Q (Err e) next is goes = tt

pub body_listed : TypesAreRead → PrototypesAreRead → (arguments past annotations : ℕ) (ls : List TextLine) → AreLineTexts ls → IfOk (body_from arguments past annotations ls) IsListedDraft
body_listed types protos arguments past annotations ls are =
    then_listed AreListedTold IsListedDraft (told_by arguments nothing_before ls) _ (told_listed types protos arguments nothing_before ls are) (finished_listed past annotations)

-- ---- the lines that count

pub kept_texts : (n : ℕ) (ls : List TextLine) → AreLineTexts ls → AreLineTexts (kept n ls)
unfolding kept
kept_texts n [] are = are
kept_texts n (l ∷ ls) are =
    let rest = All-tail IsLineText l ls are in
    cond_both (counts n (head_of l.pieces)) _ _ AreLineTexts
    (λ _. All-cons IsLineText l (kept (depth_behind n (head_of l.pieces)) ls) (All-head IsLineText l ls are) (kept_texts (depth_behind n (head_of l.pieces)) ls rest))
    (λ _. kept_texts (depth_behind n (head_of l.pieces)) ls rest)
