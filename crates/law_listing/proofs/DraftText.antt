-- The text of a draft holds the pieces of its lines.
use Rattle.std.proofs.Common.{◌≡◌, ℕ, ◌≤◌, true, List, [], ◌∷◌, ◌++◌, map, codes, Option, Some, None, All, IsTrue, refl, sym, ap, append_assoc, arith}
use Rattle.std.specs.Prelude.{ℤ, decimal}
use Rattle.std.specs.Fmt.{signed_decimal}
use Rattle.std.specs.List.{flat_map, list_all, zip}
use Rattle.std.proofs.lemmas.Bool.{and_parts}
use Rattle.std.proofs.lemmas.List.Elements.{All-head, All-tail}
use Rattle.dv_defs.specs.Spelling.{fits_signed}
use Rattle.dv_defs.specs.Tiling.{is_width}
use Rattle.dv_defs.specs.Numbers.{elements}
use Rattle.dv_defs.specs.declared.names.Ty.{Ty}
use Rattle.dv_names.specs.Descriptors.{descriptor}
use Rattle.dv_draft.specs.declared.draft.Catch.{Catch}
use Rattle.dv_draft.specs.declared.draft.What.{What}
use Rattle.dv_draft.specs.declared.draft.What.TheVariants as what
use Rattle.dv_draft.specs.Draft.{DraftValue}
use Rattle.dv_print.specs.Draft.{label_line, case_line, suffix_of, element_line, element_count, packed_text, sparse_text, data_text, what_text, item_text, kind_text, catch_text, registers_text, draft_text}
use Rattle.dv_print.specs.Operands.{label_text}
use Rattle.dv_coderead.specs.Pieces.{Piece, AWord}
use Rattle.law_listing.specs.Printed.{HasPieces, HaveLines, NoLine}
use Rattle.law_listing.specs.Listable.{IsNameText}
use Rattle.law_listing.specs.DraftListable.{AreNameTexts, IsListedWhat, IsListedItem, IsKindText, IsListedCatch, IsListedDraft}
use Rattle.law_listing.specs.OperandPieces.{InstructionsAreRead}
use Rattle.law_listing.specs.DraftPieces.{one_word, two_words, target_line, case_pieces, element_pieces, packed_lines, sparse_lines, data_lines, what_lines, item_lines, kind_pieces, range_pieces, catch_pieces, registers_line, draft_pieces}
use Rattle.law_listing.proofs.Pieces.{blank_piece, last_word, word_blank, word_mark, mark_piece, brace_is, end_brace_is}
use Rattle.law_listing.proofs.Words.{IsWordText, constant, type_text, number_word, signed_word, decimal_word, label_text as label_word}
use Rattle.law_listing.proofs.Lines.{one_line, lines_append, same_lines, lines_flat_map, lines_map}
use Rattle.law_listing.proofs.DraftElements.{Fits, elements_fit, all_counted}
use Rattle.law_listing.proofs.DraftRead.{key_small, width_small, suffix_is}

-- ---- lines of words

one_line_word : (w : List ℕ) → IsWordText w → HasPieces w (one_word w)
one_line_word w is = last_word w is.0 is.1

two_line_words : (v w : List ℕ) → IsWordText v → IsWordText w → HasPieces (v ++ 32 ∷ w) (two_words v w)
two_line_words v w first second = word_blank v w (one_word w) first.0 first.1 (one_line_word w second)

-- a word and another behind a blank, with a line feed behind them
two_words_line : (v w : List ℕ) → IsWordText v → IsWordText w → HaveLines (v ++ 32 ∷ (w ++ 10 ∷ [])) (two_words v w ∷ [])
two_words_line v w first second =
    same_lines (v ++ 32 ∷ (w ++ 10 ∷ [])) ((v ++ 32 ∷ w) ++ 10 ∷ []) (two_words v w ∷ []) (sym (append_assoc v (32 ∷ w) (10 ∷ [])))
    (one_line (v ++ 32 ∷ w) (two_words v w) (two_line_words v w first second))

one_word_line : (w : List ℕ) → IsWordText w → HaveLines (w ++ 10 ∷ []) (one_word w ∷ [])
one_word_line w is = one_line w (one_word w) (one_line_word w is)

target_printed : (name : List ℕ) → IsNameText name → HaveLines (label_line name) (target_line name ∷ [])
target_printed name is = one_word_line (label_text name) (label_word name is)

registers_printed : (n : ℕ) → n ≤ 256 → HaveLines (registers_text n) (registers_line n ∷ [])
registers_printed n few = two_words_line (codes ".registers") (decimal n) (constant (codes ".registers") refl) (decimal_word n (omega arith))

-- ---- payloads

end_printed : (w : List ℕ) → IsWordText w → HaveLines (codes ".end " ++ (w ++ 10 ∷ [])) (two_words (codes ".end") w ∷ [])
end_printed w is = two_words_line (codes ".end") w (constant (codes ".end") refl) is

-- the first line, lines in between, and the last
block_printed : (first middle last : List ℕ) (ps : List Piece) (pss : List (List Piece)) (qs : List Piece) → HaveLines first (ps ∷ []) → HaveLines middle pss → HaveLines last (qs ∷ []) → HaveLines (first ++ middle ++ last) (ps ∷ (pss ++ qs ∷ []))
block_printed first middle last ps pss qs a b c =
    same_lines (first ++ middle ++ last) (first ++ (middle ++ last)) (ps ∷ (pss ++ qs ∷ [])) (append_assoc first middle last)
    (lines_append first (middle ++ last) (ps ∷ []) (pss ++ qs ∷ []) a (lines_append middle last pss (qs ∷ []) b c))

packed_printed : (first : ℤ) (names : List (List ℕ)) → fits_signed 32 first ≡ true → AreNameTexts names → HaveLines (packed_text first names) (packed_lines first names)
packed_printed first names fits are =
    block_printed (codes ".packed-switch " ++ signed_decimal first ++ codes "\n") (flat_map label_line names) (codes ".end packed-switch\n")
    (two_words (codes ".packed-switch") (signed_decimal first)) (map target_line names) (two_words (codes ".end") (codes "packed-switch"))
    (two_words_line (codes ".packed-switch") (signed_decimal first) (constant (codes ".packed-switch") refl) (signed_word first (key_small first fits)))
    (lines_map IsNameText label_line target_line names target_printed are)
    (end_printed (codes "packed-switch") (constant (codes "packed-switch") refl))

case_printed : (key : ℤ) (name : List ℕ) → fits_signed 32 key ≡ true → IsNameText name → HaveLines (case_line (key, name)) (case_pieces (key, name) ∷ [])
case_printed key name fits is =
    let word = signed_word key (key_small key fits) in
    let arrow = constant (codes "->") refl in
    let behind = word_blank (codes "->") (label_text name) (one_word (label_text name)) arrow.0 arrow.1 (one_line_word (label_text name) (label_word name is)) in
    let all = word_blank (signed_decimal key) (codes "->" ++ 32 ∷ label_text name) (two_words (codes "->") (label_text name)) word.0 word.1 behind in
    let text : case_line (key, name) ≡ (signed_decimal key ++ 32 ∷ (codes "->" ++ 32 ∷ label_text name)) ++ 10 ∷ [] =
    ap (λ (l : List ℕ). l ++ 10 ∷ []) (append_assoc (signed_decimal key) (codes " -> ") (label_text name)) in
    same_lines (case_line (key, name)) _ (case_pieces (key, name) ∷ []) text (one_line _ (case_pieces (key, name)) all)

cases_printed : (keys : List ℤ) (names : List (List ℕ)) → list_all (λ z. fits_signed 32 z) keys ≡ true → AreNameTexts names → HaveLines (flat_map case_line (zip keys names)) (map case_pieces (zip keys names))
cases_printed [] names fit are = NoLine
cases_printed (k ∷ keys) [] fit are = NoLine
cases_printed (k ∷ keys) (name ∷ names) fit are =
    let p = and_parts (fits_signed 32 k) (list_all (λ z. fits_signed 32 z) keys) fit in
    lines_append (case_line (k, name)) (flat_map case_line (zip keys names)) (case_pieces (k, name) ∷ []) (map case_pieces (zip keys names))
    (case_printed k name p.0 (All-head IsNameText name names are)) (cases_printed keys names p.1 (All-tail IsNameText name names are))

sparse_printed : (keys : List ℤ) (names : List (List ℕ)) → list_all (λ z. fits_signed 32 z) keys ≡ true → AreNameTexts names → HaveLines (sparse_text keys names) (sparse_lines keys names)
sparse_printed keys names fit are =
    block_printed (codes ".sparse-switch\n") (flat_map case_line (zip keys names)) (codes ".end sparse-switch\n")
    (one_word (codes ".sparse-switch")) (map case_pieces (zip keys names)) (two_words (codes ".end") (codes "sparse-switch"))
    (one_word_line (codes ".sparse-switch") (constant (codes ".sparse-switch") refl))
    (cases_printed keys names fit are)
    (end_printed (codes "sparse-switch") (constant (codes "sparse-switch") refl))

element_printed : (width : ℕ) → IsTrue (is_width width) → (z : ℤ) → Fits width z → HaveLines (element_line width z) (element_pieces width z ∷ [])
element_printed width is z fits = one_word_line (signed_decimal z ++ suffix_of width) (number_word z (suffix_of width) fits.small (suffix_is width is))

data_printed : (width : ℕ) (bytes : List ℕ) → IsTrue (is_width width) → All (Fits width) (elements (element_count width bytes) width bytes) → HaveLines (data_text width bytes) (data_lines width bytes)
data_printed width bytes is fit =
    let zs = elements (element_count width bytes) width bytes in
    block_printed (codes ".array-data " ++ decimal width ++ codes "\n") (flat_map (element_line width) zs) (codes ".end array-data\n")
    (two_words (codes ".array-data") (decimal width)) (map (element_pieces width) zs) (two_words (codes ".end") (codes "array-data"))
    (two_words_line (codes ".array-data") (decimal width) (constant (codes ".array-data") refl) (decimal_word width (width_small width is)))
    (lines_map (Fits width) (element_line width) (element_pieces width) zs (element_printed width is) fit)
    (end_printed (codes "array-data") (constant (codes "array-data") refl))

-- ---- items and handlers

what_printed : InstructionsAreRead → (w : What) → IsListedWhat w → HaveLines (what_text w) (what_lines w)
what_printed ops (what.Label name) is = target_printed name is
what_printed ops (what.Op op) is = one_line _ _ (ops op is).line
what_printed ops (what.Packed first names) is = packed_printed first names is.0 is.1
what_printed ops (what.Sparse keys names) is = sparse_printed keys names is.0 is.2
what_printed ops (what.Data width bytes) is =
    data_printed width bytes is.0 (elements_fit width (element_count width bytes) bytes is.0 (all_counted width bytes is.0 is.1) is.2)

range_text : Catch → List ℕ
range_text c = 123 ∷ (label_text c.from ++ 32 ∷ (codes ".." ++ 32 ∷ (label_text c.to ++ 125 ∷ 32 ∷ label_text c.at)))

range_printed : (c : Catch) → IsListedCatch c → HasPieces (range_text c) (range_pieces c)
unfolding range_text
range_printed c is =
    let from = label_word c.from is.from in
    let to = label_word c.to is.to in
    let dots = constant (codes "..") refl in
    mark_piece 123 _ _ brace_is
    (word_blank (label_text c.from) _ _ from.0 from.1
    (word_blank (codes "..") _ _ dots.0 dots.1
    (word_mark (label_text c.to) 125 _ _ to.0 to.1 end_brace_is
    (blank_piece (label_text c.at) (one_word (label_text c.at)) (one_line_word (label_text c.at) (label_word c.at is.at))))))

-- the text of a kind, and what stands behind it
kind_printed : (kind : Option Ty) (rest : List ℕ) (ps : List Piece) → IsKindText kind → HasPieces rest ps → HasPieces (kind_text kind ++ 32 ∷ rest) (kind_pieces kind ++ ps)
kind_printed None rest ps is h = let word = constant (codes ".catchall") refl in word_blank (codes ".catchall") rest ps word.0 word.1 h
kind_printed (Some t) rest ps is h =
    let word = constant (codes ".catch") refl in
    let ty = type_text t is.0 in
    word_blank (codes ".catch") (descriptor t ++ 32 ∷ rest) (AWord (descriptor t) ∷ ps) word.0 word.1
    (word_blank (descriptor t) rest ps ty.0 ty.1 h)

regrouped : (k a f b t e g n : List ℕ) → k ++ a ++ f ++ b ++ t ++ e ++ g ++ n ≡ (k ++ (a ++ (f ++ (b ++ (t ++ (e ++ g)))))) ++ n
regrouped k a f b t e g n = simp append_assoc

catch_is : (c : Catch) → catch_text c ≡ (kind_text c.kind ++ 32 ∷ range_text c) ++ 10 ∷ []
unfolding range_text
catch_is c =
    regrouped (kind_text c.kind) (codes " {") (label_text c.from) (codes " .. ") (label_text c.to) (codes "} ") (label_text c.at) (codes "\n")

catch_printed : (c : Catch) → IsListedCatch c → HaveLines (catch_text c) (catch_pieces c ∷ [])
catch_printed c is =
    same_lines (catch_text c) ((kind_text c.kind ++ 32 ∷ range_text c) ++ 10 ∷ []) (catch_pieces c ∷ []) (catch_is c)
    (one_line (kind_text c.kind ++ 32 ∷ range_text c) (catch_pieces c) (kind_printed c.kind (range_text c) (range_pieces c) is.kind (range_printed c is)))

-- ---- the draft

pub draft_printed : InstructionsAreRead → (d : DraftValue) → IsListedDraft d → HaveLines (draft_text d) (draft_pieces d)
draft_printed ops d is =
    same_lines (draft_text d) (registers_text d.registers ++ (flat_map item_text d.items ++ flat_map catch_text d.catches)) (draft_pieces d)
    (append_assoc (registers_text d.registers) (flat_map item_text d.items) (flat_map catch_text d.catches))
    (lines_append (registers_text d.registers) _ (registers_line d.registers ∷ []) (flat_map item_lines d.items ++ map catch_pieces d.catches)
    (registers_printed d.registers is.registers)
    (lines_append (flat_map item_text d.items) (flat_map catch_text d.catches) (flat_map item_lines d.items) (map catch_pieces d.catches)
    (lines_flat_map IsListedItem item_text item_lines d.items (λ item listed. what_printed ops item.what listed) is.items)
    (lines_map IsListedCatch catch_text catch_pieces d.catches catch_printed is.catches)))
