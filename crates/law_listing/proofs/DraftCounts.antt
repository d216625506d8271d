-- Each line of a draft's text counts, and neither ends nor leaves its method.
use Rattle.std.proofs.Common.{◌≡◌, ℕ, ◌+◌, Bool, true, false, not, ◌||◌, List, [], ◌∷◌, ◌++◌, map, codes, Option, Some, None, All, refl, ap, ◌∙◌}
use Rattle.std.specs.Prelude.{ℤ, decimal}
use Rattle.std.specs.Fmt.{signed_decimal}
use Rattle.std.specs.List.{flat_map, list_all, zip}
use Rattle.std.proofs.lemmas.Bool.{and_from, and_parts, and_right, cond-false}
use Rattle.std.proofs.lemmas.List.Elements.{All-head, All-tail}
use Rattle.std.proofs.lemmas.List.Folds.{list_all-append}
use Rattle.dv_defs.specs.Spelling.{fits_signed}
use Rattle.dv_defs.specs.Numbers.{elements}
use Rattle.dv_defs.specs.declared.names.Ty.{Ty}
use Rattle.dv_names.specs.Descriptors.{descriptor}
use Rattle.dv_draft.specs.declared.draft.Item.{Item}
use Rattle.dv_draft.specs.declared.draft.Catch.{Catch}
use Rattle.dv_draft.specs.declared.draft.What.{What}
use Rattle.dv_draft.specs.declared.draft.What.TheVariants as what
use Rattle.dv_draft.specs.Draft.{DraftValue}
use Rattle.dv_print.specs.Draft.{suffix_of, element_count}
use Rattle.dv_coderead.specs.declared.head.Block.TheVariants.{Packed, Sparse, Data, Units}
use Rattle.dv_coderead.specs.declared.head.Directive.TheVariants as directive
use Rattle.dv_coderead.specs.declared.head.Head.{Head}
use Rattle.dv_coderead.specs.declared.head.Head.TheVariants as head
use Rattle.dv_coderead.specs.Pieces.{Piece, AWord}
use Rattle.dv_coderead.specs.Heads.{head_of}
use Rattle.dv_coderead.specs.Kept.{kept, open_behind, counts, depth_behind}
use Rattle.dv_classread.specs.declared.method.BodyKind.TheVariants as of_kind
use Rattle.dv_classread.specs.Methods.{begins_raw, is_count_head, is_raw_head, kind_of}
use Rattle.dv_classread.specs.Texts.{ends_method, leaves_method}
use Rattle.law_listing.specs.Listable.{IsNameText}
use Rattle.law_listing.specs.Printed.{numbered}
use Rattle.law_listing.specs.DraftListable.{AreNameTexts, IsListedWhat, IsListedItem, IsListedDraft}
use Rattle.law_listing.specs.OperandPieces.{InstructionsAreRead}
use Rattle.law_listing.specs.DraftPieces.{one_word, two_words, target_line, case_pieces, element_pieces, what_lines, item_lines, kind_pieces, range_pieces, catch_pieces, draft_pieces, is_draft_head}
use Rattle.law_listing.specs.DraftLaws.{stays_inside, LinesCount}
use Rattle.law_listing.proofs.DraftElements.{Fits, elements_fit, all_counted}
use Rattle.law_listing.proofs.DraftRead.{key_small}
use Rattle.law_listing.proofs.DraftHeads.{label_head, registers_head, catch_head, catchall_head, packed_head, sparse_head, data_head, end_packed_head, end_sparse_head, end_data_head, number_head, signed_head}

abbrev has_head : List Piece → Bool
has_head ps = is_draft_head (head_of ps)

by_head : (ps : List Piece) (h : Head) → head_of ps ≡ h → is_draft_head h ≡ true → has_head ps ≡ true
by_head ps h is fine = ap is_draft_head is ∙ fine

-- a block: its first line, its lines, and its last
block_heads : (first last : List Piece) (pss : List (List Piece)) → has_head first ≡ true → list_all has_head pss ≡ true → has_head last ≡ true → list_all has_head (first ∷ (pss ++ last ∷ [])) ≡ true
block_heads first last pss a b c = and_from _ _ a (list_all-append has_head pss (last ∷ []) ∙ and_from _ _ b (and_from _ _ c refl))

target_heads : (names : List (List ℕ)) → AreNameTexts names → list_all has_head (map target_line names) ≡ true
target_heads [] are = refl
target_heads (name ∷ names) are =
    and_from _ _ (by_head (target_line name) head.Label (label_head name [] (All-head IsNameText name names are).0) refl)
    (target_heads names (All-tail IsNameText name names are))

case_heads : (keys : List ℤ) (names : List (List ℕ)) → list_all (λ z. fits_signed 32 z) keys ≡ true → list_all has_head (map case_pieces (zip keys names)) ≡ true
case_heads [] names fit = refl
case_heads (k ∷ keys) [] fit = refl
case_heads (k ∷ keys) (name ∷ names) fit =
    let p = and_parts (fits_signed 32 k) (list_all (λ z. fits_signed 32 z) keys) fit in
    and_from _ _ (by_head (case_pieces (k, name)) head.Other (signed_head k _ (key_small k p.0)) refl) (case_heads keys names p.1)

element_heads : (width : ℕ) (zs : List ℤ) → All (Fits width) zs → list_all has_head (map (element_pieces width) zs) ≡ true
element_heads width [] fit = refl
element_heads width (z ∷ zs) fit =
    and_from _ _
    (by_head (element_pieces width z) head.Other (number_head z (suffix_of width) [] (All-head (Fits width) z zs fit).small) refl)
    (element_heads width zs (All-tail (Fits width) z zs fit))

what_heads : InstructionsAreRead → (w : What) → IsListedWhat w → list_all has_head (what_lines w) ≡ true
what_heads ops (what.Label name) is = and_from _ _ (by_head (target_line name) head.Label (label_head name [] is.0) refl) refl
what_heads ops (what.Op op) is = and_from _ _ (by_head _ (head.Opcode op.insn.op) (ops op is).head refl) refl
what_heads ops (what.Packed first names) is =
    block_heads (two_words (codes ".packed-switch") (signed_decimal first)) (two_words (codes ".end") (codes "packed-switch")) (map target_line names)
    (by_head _ (head.Directive (directive.Begin Packed)) (packed_head (one_word (signed_decimal first))) refl)
    (target_heads names is.1)
    (by_head _ (head.Directive (directive.End Packed)) (end_packed_head []) refl)
what_heads ops (what.Sparse keys names) is =
    block_heads (one_word (codes ".sparse-switch")) (two_words (codes ".end") (codes "sparse-switch")) (map case_pieces (zip keys names))
    (by_head _ (head.Directive (directive.Begin Sparse)) (sparse_head []) refl)
    (case_heads keys names is.0)
    (by_head _ (head.Directive (directive.End Sparse)) (end_sparse_head []) refl)
what_heads ops (what.Data width bytes) is =
    block_heads (two_words (codes ".array-data") (decimal width)) (two_words (codes ".end") (codes "array-data")) (map (element_pieces width) (elements (element_count width bytes) width bytes))
    (by_head _ (head.Directive (directive.Begin Data)) (data_head (one_word (decimal width))) refl)
    (element_heads width (elements (element_count width bytes) width bytes) (elements_fit width (element_count width bytes) bytes is.0 (all_counted width bytes is.0 is.1) is.2))
    (by_head _ (head.Directive (directive.End Data)) (end_data_head []) refl)

item_heads : InstructionsAreRead → (items : List Item) → All IsListedItem items → list_all has_head (flat_map item_lines items) ≡ true
item_heads ops [] all = refl
item_heads ops (item ∷ items) all =
    list_all-append has_head (item_lines item) (flat_map item_lines items) ∙
    and_from _ _ (what_heads ops item.what (All-head IsListedItem item items all)) (item_heads ops items (All-tail IsListedItem item items all))

kind_head : (kind : Option Ty) (ps : List Piece) → has_head (kind_pieces kind ++ ps) ≡ true
kind_head None ps = by_head _ (head.Directive directive.Catchall) (catchall_head ps) refl
kind_head (Some t) ps = by_head _ (head.Directive directive.Catch) (catch_head (AWord (descriptor t) ∷ ps)) refl

catch_heads : (catches : List Catch) → list_all has_head (map catch_pieces catches) ≡ true
catch_heads [] = refl
catch_heads (c ∷ catches) = and_from _ _ (kind_head c.kind (range_pieces c)) (catch_heads catches)

draft_heads : InstructionsAreRead → (d : DraftValue) → IsListedDraft d → list_all has_head (draft_pieces d) ≡ true
draft_heads ops d is =
    and_from _ _ (by_head _ (head.Directive directive.Registers) (registers_head (one_word (decimal d.registers))) refl)
    (list_all-append has_head (flat_map item_lines d.items) (map catch_pieces d.catches) ∙ and_from _ _ (item_heads ops d.items is.items) (catch_heads d.catches))

-- ---- such lines are kept

head_counts : (h : Head) → is_draft_head h ≡ true → (counts 0 h ≡ true) × (depth_behind 0 h ≡ 0)
head_counts head.Label fine = (refl, refl)
head_counts (head.Opcode op) fine = (refl, refl)
head_counts head.Other fine = (refl, refl)
head_counts head.Blank fine = absurd (cc)
head_counts head.Float fine = absurd (cc)
head_counts (head.Directive directive.Skipped) fine = absurd (cc)
head_counts (head.Directive directive.Annotation) fine = absurd (cc)
head_counts (head.Directive directive.EndAnnotation) fine = absurd (cc)
head_counts (head.Directive d) fine = (refl, refl)

pub all_kept : (n : ℕ) (pss : List (List Piece)) → list_all has_head pss ≡ true → kept 0 (numbered n pss) ≡ numbered n pss
unfolding kept
all_kept n [] fine = refl
all_kept n (ps ∷ pss) fine =
    let p = and_parts (has_head ps) (list_all has_head pss) fine in
    let h = head_counts (head_of ps) p.0 in
    rw (h.0, h.1, all_kept (n + 1) pss p.1) refl

pub all_closed : (n : ℕ) (pss : List (List Piece)) → list_all has_head pss ≡ true → open_behind 0 (numbered n pss) ≡ 0
unfolding open_behind
all_closed n [] fine = refl
all_closed n (ps ∷ pss) fine =
    let p = and_parts (has_head ps) (list_all has_head pss) fine in
    let h = head_counts (head_of ps) p.0 in
    ap (λ (k : ℕ). open_behind k (numbered (n + 1) pss)) h.1 ∙ all_closed (n + 1) pss p.1

head_inside : (h : Head) → is_draft_head h ≡ true → not (ends_method h || leaves_method h) ≡ true
head_inside head.Label fine = refl
head_inside (head.Opcode op) fine = refl
head_inside head.Other fine = refl
head_inside head.Blank fine = absurd (cc)
head_inside head.Float fine = absurd (cc)
head_inside (head.Directive directive.EndMethod) fine = absurd (cc)
head_inside (head.Directive directive.Method) fine = absurd (cc)
head_inside (head.Directive directive.Class) fine = absurd (cc)
head_inside (head.Directive directive.Schedule) fine = absurd (cc)
head_inside (head.Directive d) fine = refl

pub all_inside : (pss : List (List Piece)) → list_all has_head pss ≡ true → list_all stays_inside pss ≡ true
all_inside [] fine = refl
all_inside (ps ∷ pss) fine =
    let p = and_parts (has_head ps) (list_all has_head pss) fine in
    and_from _ _ (head_inside (head_of ps) p.0) (all_inside pss p.1)

head_drafted : (h : Head) → is_draft_head h ≡ true → is_raw_head h ≡ false
head_drafted head.Label fine = refl
head_drafted (head.Opcode op) fine = refl
head_drafted head.Other fine = refl
head_drafted head.Blank fine = absurd (cc)
head_drafted head.Float fine = absurd (cc)
head_drafted (head.Directive directive.Rawref) fine = absurd (cc)
head_drafted (head.Directive (directive.Begin Units)) fine = absurd (cc)
head_drafted (head.Directive d) fine = refl

none_raw : (n : ℕ) (pss : List (List Piece)) → list_all has_head pss ≡ true → begins_raw (numbered n pss) ≡ false
none_raw n [] fine = refl
none_raw n (ps ∷ pss) fine = head_drafted (head_of ps) (and_parts (has_head ps) (list_all has_head pss) fine).0

pub all_drafted : (n : ℕ) (ps : List Piece) (pss : List (List Piece)) → list_all has_head (ps ∷ pss) ≡ true → kind_of (numbered n (ps ∷ pss)) ≡ of_kind.Drafted
unfolding kind_of
all_drafted n ps pss fine =
    let p = and_parts (has_head ps) (list_all has_head pss) fine in
    cond-false _ _ _ (and_right (is_count_head (head_of ps)) (begins_raw (numbered (n + 1) pss)) (none_raw (n + 1) pss p.1))

pub lines_count : InstructionsAreRead → (d : DraftValue) → IsListedDraft d → LinesCount (draft_pieces d)
lines_count ops d is =
    let fine = draft_heads ops d is in
    record { heads = fine; inside = all_inside (draft_pieces d) fine; drafted = λ n. all_drafted n _ _ fine; kept = λ n. all_kept n (draft_pieces d) fine; closed = λ n. all_closed n (draft_pieces d) fine }
