-- The printed lines of a schedule are read as that schedule.
use Rattle.std.proofs.Common.{◌≡◌, ℕ, zero, suc, ◌+◌, ◌<◌, ◌≤◌, ◌^◌, true, false, pos, List, [], ◌∷◌, ◌++◌, length, get_or, Ok, refl, sym, ap, ◌∙◌, subst, append_assoc, arith, lit<}
use Rattle.std.specs.List.{All, list_all}
use Rattle.std.specs.Fmt.{decimal}
use Rattle.std.specs.Str.{IsUtf8}
use Rattle.std.specs.Str.Lines.{lines}
use Rattle.std.proofs.lemmas.Bool.{and_parts, and_from}
use Rattle.std.proofs.lemmas.Bool.Decides.{nat_tests}
use Rattle.std.proofs.lemmas.Fmt.{IsAscii-decimal}
use Rattle.std.proofs.lemmas.List.{append-nil}
use Rattle.std.proofs.lemmas.List.Elements.{All-head, All-tail}
use Rattle.std.proofs.lemmas.List.Folds.{list_all-append}
use Rattle.std.proofs.lemmas.Str.{IsUtf8-append, IsUtf8-from_ascii, is_utf8-from_IsUtf8}
use Rattle.dv_defs.specs.declared.run.Entry.{Entry}
use Rattle.dv_lex.specs.declared.bytes.Class.TheVariants as class
use Rattle.dv_lex.specs.declared.token.TokenKind.TheVariants.{Word}
use Rattle.dv_lex.specs.Bytes.{byte_class, is_plain}
use Rattle.dv_lex.specs.Lexemes.{lexemes, put, begins_plain, Outside}
use Rattle.dv_lex.specs.Laws.Lines.{is_printed}
use Rattle.dv_lex.specs.Numbers.{Number, Spells, signed}
use Rattle.dv_lex.proofs.Grammar.Only.{a_word}
use Rattle.dv_lex.proofs.Rows.{printed_line}
use Rattle.dv_lex.proofs.Spelled.Printed.{unsigned_read}
use Rattle.dv_lex.proofs.Spelled.Words.{number_is_word}
use Rattle.dv_lex.proofs.Steps.{lexeme, outside_blank, outside_nothing}
use Rattle.dv_log.specs.Reading.{IsField, AreEntry, IsEntryLine, Reads, End, One}
use Rattle.dv_log.specs.Writing.{entry_text, entry_line, log_text, IsEntry}

-- ---- a number

spelled : (v : ℕ) → v < 10 ^ 64 → (n : Number) × Spells (decimal v) n × (signed n ≡ pos v)
spelled v small =
    let r = unsigned_read v [] small refl in
    (r.0, subst (λ (w : List ℕ). Spells w r.0) (append-nil (decimal v)) r.1, r.2)

field : (low high at v : ℕ) → v < 10 ^ 64 → low ≤ v → v ≤ high → IsField low high (lexeme Word at (decimal v)) v
field low high at v small least most =
    let n = spelled v small in
    record { number = n.0; spells = n.1; means = (n.2, least, most) }

plain : (v : ℕ) → v < 10 ^ 64 → (0 < length (decimal v)) × (list_all is_plain (decimal v) ≡ true)
plain v small = let n = spelled v small in number_is_word (decimal v) (n.0, n.1)

-- ---- a line

blank_stops : (rest : List ℕ) → begins_plain (32 ∷ rest) ≡ false
unfolding byte_class
blank_stops rest = refl

blank_is : byte_class 32 ≡ class.Blank
unfolding byte_class
blank_is = refl

-- a number before a blank, and one at the end
word_first : (at v : ℕ) (rest : List ℕ) → v < 10 ^ 64
    → lexemes at Outside (decimal v ++ 32 ∷ rest) ≡ put (lexeme Word at (decimal v)) (lexemes (at + length (decimal v) + 1) Outside rest)
word_first at v rest small =
    let w = plain v small in
    a_word at (decimal v) (32 ∷ rest) w.0 w.1 (blank_stops rest) ∙ ap (put (lexeme Word at (decimal v))) (outside_blank (at + length (decimal v)) 32 rest blank_is)

word_last : (at v : ℕ) → v < 10 ^ 64 → lexemes at Outside (decimal v) ≡ Ok (lexeme Word at (decimal v) ∷ [])
word_last at v small =
    let w = plain v small in
    ap (lexemes at Outside) (sym (append-nil (decimal v))) ∙ a_word at (decimal v) [] w.0 w.1 refl ∙ ap (put (lexeme Word at (decimal v))) (outside_nothing (at + length (decimal v)))

utf8_number : (v : ℕ) → v < 2 ^ 64 → IsUtf8 (decimal v)
utf8_number v small = IsUtf8-from_ascii (decimal v) (IsAscii-decimal v small)

ascii_blank : (i : ℕ) → get_or (32 ∷ []) i 0 < 128
ascii_blank zero = lit< tt
ascii_blank (suc i) = lit< tt

utf8_blank : IsUtf8 (32 ∷ [])
utf8_blank = IsUtf8-from_ascii (32 ∷ []) ascii_blank

utf8_entry : (e : Entry) → IsEntry e → IsUtf8 (entry_text e)
utf8_entry e h =
    IsUtf8-append (decimal e.worker) (32 ∷ (decimal e.thread ++ 32 ∷ decimal e.steps)) (utf8_number e.worker (omega arith))
    (IsUtf8-append (32 ∷ []) (decimal e.thread ++ 32 ∷ decimal e.steps) utf8_blank
    (IsUtf8-append (decimal e.thread) (32 ∷ decimal e.steps) (utf8_number e.thread (omega arith)) (IsUtf8-append (32 ∷ []) (decimal e.steps) utf8_blank (utf8_number e.steps (omega arith)))))

entry_again : (e : Entry) → IsEntry e → IsEntryLine (entry_text e) e
entry_again e h =
    let w : e.worker < 10 ^ 64 = omega arith in
    let t : e.thread < 10 ^ 64 = omega arith in
    let s : e.steps < 10 ^ 64 = omega arith in
    let at1 = 0 + length (decimal e.worker) + 1 in
    let at2 = at1 + length (decimal e.thread) + 1 in
    let held : lexemes 0 Outside (entry_text e) ≡ Ok (lexeme Word 0 (decimal e.worker) ∷ lexeme Word at1 (decimal e.thread) ∷ lexeme Word at2 (decimal e.steps) ∷ []) =
    word_first 0 e.worker (decimal e.thread ++ 32 ∷ decimal e.steps) w
    ∙ ap (put (lexeme Word 0 (decimal e.worker))) (word_first at1 e.thread (decimal e.steps) t ∙ ap (put (lexeme Word at1 (decimal e.thread))) (word_last at2 e.steps s)) in
    let are : AreEntry (lexeme Word 0 (decimal e.worker) ∷ lexeme Word at1 (decimal e.thread) ∷ lexeme Word at2 (decimal e.steps) ∷ []) e = record {
      first = lexeme Word 0 (decimal e.worker);
      second = lexeme Word at1 (decimal e.thread);
      third = lexeme Word at2 (decimal e.steps);
      three = refl;
      worker = field 0 7 0 e.worker w (omega arith) h.0;
      thread = field 0 63 at1 e.thread t (omega arith) h.1;
      steps = field 1 256 at2 e.steps s h.2 h.3;
    } in
    (_, rw (is_utf8-from_IsUtf8 (entry_text e) (utf8_entry e h)) held, are)

-- ---- all lines

plain_printed : (b : ℕ) → is_plain b ≡ true → is_printed b ≡ true
unfolding byte_class
plain_printed b e = grind (arith, nat_tests)

words_printed : (w : List ℕ) → list_all is_plain w ≡ true → list_all is_printed w ≡ true
words_printed [] e = refl
words_printed (b ∷ w) e = let p = and_parts _ _ e in and_from _ _ (plain_printed b p.0) (words_printed w p.1)

printed_number : (v : ℕ) (rest : List ℕ) → v < 10 ^ 64 → list_all is_printed rest ≡ true → list_all is_printed (decimal v ++ rest) ≡ true
printed_number v rest small h = list_all-append is_printed (decimal v) rest ∙ and_from _ _ (words_printed (decimal v) (plain v small).1) h

printed_entry : (e : Entry) → IsEntry e → list_all is_printed (entry_text e) ≡ true
printed_entry e h =
    let steps = words_printed (decimal e.steps) (plain e.steps (omega arith)).1 in
    printed_number e.worker (32 ∷ (decimal e.thread ++ 32 ∷ decimal e.steps)) (omega arith) (printed_number e.thread (32 ∷ decimal e.steps) (omega arith) steps)

first_line : (e : Entry) (rest : List ℕ) → IsEntry e → lines (entry_line e ++ rest) ≡ entry_text e ∷ lines rest
first_line e rest h = ap lines (append_assoc (entry_text e) (10 ∷ []) rest) ∙ printed_line (entry_text e) rest (printed_entry e h)

pub read_again : (log : List Entry) → All IsEntry log → (n : ℕ) → Reads n (lines (log_text log)) (Ok log)
read_again [] all n = End n
read_again (e ∷ es) all n =
    let h = All-head IsEntry e es all in
    subst (λ (ls : List (List ℕ)). Reads n ls (Ok (e ∷ es))) (sym (first_line e (log_text es) h)) (One n (entry_text e) (lines (log_text es)) (Ok es) e (entry_again e h) (read_again es (All-tail IsEntry e es all) (n + 1)))
