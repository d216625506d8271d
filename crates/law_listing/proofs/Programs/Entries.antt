-- The lines of a schedule.
use Rattle.std.proofs.Common.{◌≡◌, ℕ, ◌+◌, ◌^◌, ◌<◌, ◌≤◌, ◌==◌, ◌&&◌, true, false, zero, suc, List, [], ◌∷◌, ◌++◌, length, map, None, Some, Ok, refl, ap, ◌∙◌, arith, lit≤}
use Rattle.std.specs.Prelude.{pos, ◌≤ℤ◌, All, codes, nat_le}
use Rattle.std.specs.Fmt.{decimal}
use Rattle.std.specs.List.{list_all}
use Rattle.std.proofs.lemmas.Bool.{and_from, and_parts, cond-true, le-leb}
use Rattle.std.proofs.lemmas.Bool.Decides.{nat_tests}
use Rattle.std.proofs.lemmas.Int.{ints}
use Rattle.std.proofs.lemmas.List.Elements.{All-head, All-tail}
use Rattle.dv_defs.specs.declared.run.Entry.{Entry}
use Rattle.dv_lex.specs.Numbers.{is_decimal, negated}
use Rattle.dv_log.specs.Writing.{entry_line, entry_text, log_text, IsEntry}
use Rattle.dv_coderead.specs.declared.head.Directive.TheVariants as directive
use Rattle.dv_coderead.specs.declared.head.Head.{Head}
use Rattle.dv_coderead.specs.declared.head.Head.TheVariants as head
use Rattle.dv_coderead.specs.Heads.{class_directive, directive_of, ended_by, first_word, head_of, is_skipped, method_directive, raw_directive, skipped_directive, two_word_directive}
use Rattle.dv_coderead.specs.Kept.{kept, open_behind}
use Rattle.dv_coderead.specs.Pieces.{Piece, AWord}
use Rattle.dv_coderead.specs.Words.{literal_in}
use Rattle.dv_classread.specs.declared.schedule.LogLine.TheVariants as log
use Rattle.dv_classread.specs.Schedules.{entry_in, field_in, in_range, log_from, log_line, log_line_by, log_said}
use Rattle.law_listing.specs.Printed.{HaveLines, numbered}
use Rattle.law_listing.specs.ProgramLaws.{schedule_text}
use Rattle.law_listing.proofs.Lines.{lines_append, lines_map, one_line}
use Rattle.law_listing.proofs.Pieces.{last_word, word_blank}
use Rattle.law_listing.proofs.RawHeads.{IsOther, word_other}
use Rattle.law_listing.proofs.Words.{IsWordText, constant, decimal_digits, decimal_word, plain_literal_read}

-- ---- pieces

abbrev pub begin_pieces : List Piece
begin_pieces = AWord (codes ".schedule") ∷ []

abbrev pub entry_pieces : Entry → List Piece
entry_pieces e = AWord (decimal e.worker) ∷ AWord (decimal e.thread) ∷ AWord (decimal e.steps) ∷ []

abbrev pub end_pieces : List Piece
end_pieces = AWord (codes ".end") ∷ AWord (codes "schedule") ∷ []

abbrev pub log_pieces : List Entry → List (List Piece)
log_pieces es = map entry_pieces es ++ end_pieces ∷ []

abbrev pub schedule_pieces : List Entry → List (List Piece)
schedule_pieces es = begin_pieces ∷ log_pieces es

begin_stands : HaveLines (codes ".schedule\n") (begin_pieces ∷ [])
begin_stands = let w = constant (codes ".schedule") refl in one_line (codes ".schedule") begin_pieces (last_word (codes ".schedule") w.0 w.1)

end_stands : HaveLines (codes ".end schedule\n") (end_pieces ∷ [])
end_stands =
    let w = constant (codes ".end") refl in
    let u = constant (codes "schedule") refl in
    one_line (codes ".end schedule") end_pieces (word_blank (codes ".end") (codes "schedule") (AWord (codes "schedule") ∷ []) w.0 w.1 (last_word (codes "schedule") u.0 u.1))

small : (n : ℕ) → n ≤ 256 → n < 10 ^ 64
small n le = omega arith

entry_stands : (e : Entry) → IsEntry e → HaveLines (entry_line e) (entry_pieces e ∷ [])
entry_stands e h =
    let worker : IsWordText (decimal e.worker) = decimal_word e.worker (small e.worker (omega arith)) in
    let thread : IsWordText (decimal e.thread) = decimal_word e.thread (small e.thread (omega arith)) in
    let steps : IsWordText (decimal e.steps) = decimal_word e.steps (small e.steps (omega arith)) in
    one_line (entry_text e) (entry_pieces e)
    (word_blank (decimal e.worker) (decimal e.thread ++ 32 ∷ decimal e.steps) (AWord (decimal e.thread) ∷ AWord (decimal e.steps) ∷ []) worker.0 worker.1
    (word_blank (decimal e.thread) (decimal e.steps) (AWord (decimal e.steps) ∷ []) thread.0 thread.1 (last_word (decimal e.steps) steps.0 steps.1)))

pub schedule_stands : (es : List Entry) → All IsEntry es → HaveLines (schedule_text es) (schedule_pieces es)
schedule_stands es all =
    let entries = lines_map IsEntry entry_line entry_pieces es entry_stands all in
    lines_append (codes ".schedule\n") (log_text es ++ codes ".end schedule\n") (begin_pieces ∷ []) (log_pieces es) begin_stands
    (lines_append (log_text es) (codes ".end schedule\n") (map entry_pieces es) (end_pieces ∷ []) entries end_stands)

-- ---- heads

pub begin_head : head_of begin_pieces ≡ head.Directive directive.Schedule
unfolding head_of directive_of class_directive
begin_head = refl

end_head : head_of end_pieces ≡ head.Directive directive.EndSchedule
unfolding head_of directive_of class_directive method_directive raw_directive skipped_directive is_skipped two_word_directive ended_by
end_head = refl

pub no_mark : (b : ℕ) → is_decimal b ≡ true → ((b == 46) ≡ false) × ((b == 58) ≡ false)
no_mark b is = (grind (arith, nat_tests), grind (arith, nat_tests))

pub digits_other : (ds : List ℕ) (ps : List Piece) → 0 < length ds → list_all is_decimal ds ≡ true → IsOther (head_of (AWord ds ∷ ps))
unfolding head_of
digits_other [] ps some digits = absurd (omega arith)
digits_other (b ∷ ds) ps some digits =
    let none = no_mark b (and_parts (is_decimal b) (list_all is_decimal ds) digits).0 in
    word_other (b ∷ ds) (first_word ps) none.0 none.1

entry_other : (e : Entry) → IsEntry e → IsOther (head_of (entry_pieces e))
entry_other e h =
    let are = decimal_digits e.worker (small e.worker (omega arith)) in
    digits_other (decimal e.worker) (AWord (decimal e.thread) ∷ AWord (decimal e.steps) ∷ []) are.some are.digits

-- ---- entries

negated_below : (m n : ℕ) → negated m ≤ℤ pos n
negated_below zero n = omega (arith, ints)
negated_below (suc m) n = omega (arith, ints)

number_read : (n : ℕ) → n ≤ 256 → literal_in 64 (decimal n) ≡ Ok (pos n)
number_read n le = plain_literal_read 64 (pos n) (small n le) (negated_below (2 ^ 63) n, omega (arith, ints))

field_read : (low high n : ℕ) → low ≤ n → n ≤ high → high ≤ 256 → field_in low high (AWord (decimal n)) ≡ Some n
field_read low high n least most few =
    ap (in_range low high) (number_read n (omega arith)) ∙ cond-true (nat_le low n && nat_le n high) _ _ (and_from _ _ (le-leb low n least) (le-leb n high most))

entry_read : (e : Entry) → IsEntry e → entry_in (entry_pieces e) ≡ Ok e
unfolding entry_in
entry_read e h =
    rw (field_read 0 7 e.worker (omega arith) (omega arith) (lit≤ tt), field_read 0 63 e.thread (omega arith) (omega arith) (lit≤ tt), field_read 1 256 e.steps (omega arith) (omega arith) (lit≤ tt)) refl

-- ---- lines

pub other_line : (h : Head) (ps : List Piece) → IsOther h → log_line_by h ps ≡ log_said log.One (entry_in ps)
other_line (head.Opcode op) ps is = refl
other_line head.Float ps is = refl
other_line head.Other ps is = refl
other_line h ps is = absurd is

entry_line_read : (e : Entry) → IsEntry e → log_line (entry_pieces e) ≡ Ok (log.One e)
unfolding log_line
entry_line_read e h = other_line (head_of (entry_pieces e)) (entry_pieces e) (entry_other e h) ∙ ap (log_said log.One) (entry_read e h)

end_line_read : log_line end_pieces ≡ Ok log.End
unfolding log_line
end_line_read = ap (λ h. log_line_by h end_pieces) end_head

pub log_read : (past n : ℕ) (es : List Entry) → All IsEntry es → log_from None past (numbered n (log_pieces es)) ≡ Ok es
unfolding log_from kept open_behind
log_read past n [] all = rw end_line_read refl
log_read past n (e ∷ es) all = rw (entry_line_read e (All-head IsEntry e es all), log_read past (n + 1) es (All-tail IsEntry e es all)) refl
