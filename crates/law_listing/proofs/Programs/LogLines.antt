-- A line of a schedule behind classes says what it says in a schedule that stands alone.
use Rattle.std.proofs.Common.{◌≡◌, ℕ, ◌<◌, Bool, true, false, List, [], ◌∷◌, ◌++◌, length, drop, Option, Some, None, Result, Ok, Err, refl, sym, ap, ◌∙◌, subst, arith}
use Rattle.std.specs.List.{list_all}
use Rattle.std.proofs.lemmas.Bool.{and_parts, cond_both}
use Rattle.dv_defs.specs.declared.faults.LineKind.{LineKind}
use Rattle.dv_defs.specs.declared.run.Entry.{Entry}
use Rattle.dv_lex.specs.declared.token.TokenKind.{TokenKind}
use Rattle.dv_lex.specs.declared.token.TokenKind.TheVariants as token
use Rattle.dv_lex.specs.Lexemes.{Lexeme}
use Rattle.dv_lex.specs.Numbers.{Number, Spells, is_digit, spelling}
use Rattle.dv_log.specs.Reading.{AreEntry}
use Rattle.dv_names.specs.Descriptors.{is_name}
use Rattle.dv_optable.specs.Table.{opcode_named}
use Rattle.dv_coderead.specs.declared.head.Directive.TheVariants as directive
use Rattle.dv_coderead.specs.declared.head.Head.{Head}
use Rattle.dv_coderead.specs.declared.head.Head.TheVariants as head
use Rattle.dv_coderead.specs.Heads.{first_word, head_of, insn_head, is_float_name, word_head}
use Rattle.dv_coderead.specs.Operands.{after_first, ended}
use Rattle.dv_coderead.specs.Pieces.{Piece, AWord, AMark, AString, ACharacter, piece_by, piece_of, pieces_of}
use Rattle.dv_coderead.specs.Words.{begins_with}
use Rattle.dv_classread.specs.declared.schedule.LogLine.TheVariants as says
use Rattle.dv_classread.specs.Schedules.{entry_in, log_line, log_line_by, log_said}
use Rattle.law_listing.specs.ProgramLaws.{EntriesAreReadAlike, LogLinesAreReadAlike}
use Rattle.law_listing.proofs.Programs.Entries.{no_mark, other_line}
use Rattle.law_listing.proofs.RawHeads.{IsOther, word_other}

-- ---- the head of an entry

-- a number begins neither a directive nor a label
abbrev IsUnmarked : List ℕ → Type 0
IsUnmarked w = (begins_with 46 w ≡ false) × (begins_with 58 w ≡ false)

digits_unmarked : (ds rest : List ℕ) → 0 < length ds → list_all (is_digit false) ds ≡ true → IsUnmarked (ds ++ rest)
digits_unmarked [] rest some digits = absurd (omega arith)
digits_unmarked (b ∷ ds) rest some digits = no_mark b (and_parts (is_digit false b) (list_all (is_digit false) ds) digits).0

spelling_unmarked : (negative hexadecimal : Bool) (ds suffix : List ℕ) → 0 < length ds → list_all (is_digit hexadecimal) ds ≡ true
    → IsUnmarked (spelling (record { negative = negative; hexadecimal = hexadecimal; digits = ds; suffix = suffix }))
spelling_unmarked true hexadecimal ds suffix some digits = (refl, refl)
spelling_unmarked false true ds suffix some digits = (refl, refl)
spelling_unmarked false false ds suffix some digits = digits_unmarked ds suffix some digits

number_unmarked : (w : List ℕ) (n : Number) → Spells w n → IsUnmarked w
number_unmarked w n s = subst IsUnmarked (sym s.spelled) (spelling_unmarked n.negative n.hexadecimal n.digits n.suffix s.some s.digits)

token_other : (k : TokenKind) (w : List ℕ) (ps : List Piece) → IsUnmarked w → IsOther (head_of (piece_by k w ∷ ps))
unfolding head_of
token_other token.Word w ps none = word_other w (first_word ps) none.0 none.1
token_other token.Mark w ps none = tt
token_other token.Str w ps none = tt
token_other token.Char w ps none = tt

entry_other : (ts : List Lexeme) (e : Entry) → AreEntry ts e → IsOther (head_of (pieces_of ts))
entry_other ts e a =
    let none = number_unmarked a.first.text a.worker.number a.worker.spells in
    subst (λ us. IsOther (head_of (pieces_of us))) (sym a.three) (token_other a.first.kind a.first.text (pieces_of (a.second ∷ a.third ∷ [])) none)

-- ---- lines that say an entry

said_entry : (e : Entry) (read : Result Entry LineKind) → log_said says.One read ≡ Ok (says.One e) → read ≡ Ok e
said_entry e (Ok x) h = cc
said_entry e (Err k) h = absurd (cc)

end_no_entry : (e : Entry) (read : Result (Unit {0}) LineKind) → log_said (λ nothing. says.End) read ≡ Ok (says.One e) → ⊥
end_no_entry e (Ok x) h = cc
end_no_entry e (Err k) h = cc

entry_said : (h : Head) (ps : List Piece) (e : Entry) → log_line_by h ps ≡ Ok (says.One e) → entry_in ps ≡ Ok e
entry_said head.Blank ps e is = absurd (cc)
entry_said (head.Directive directive.EndSchedule) ps e is = absurd (end_no_entry e (ended (after_first (after_first ps))) is)
entry_said h ps e is = said_entry e (entry_in ps) is

entry_to : (ps : List Piece) (e : Entry) → log_line ps ≡ Ok (says.One e) → entry_in ps ≡ Ok e
unfolding log_line
entry_to ps e is = entry_said (head_of ps) ps e is

entry_from : (ps : List Piece) (e : Entry) → IsOther (head_of ps) → entry_in ps ≡ Ok e → log_line ps ≡ Ok (says.One e)
unfolding log_line
entry_from ps e other is = other_line (head_of ps) ps other ∙ ap (log_said says.One) is

-- ---- lines that say nothing

abbrev IsNotBlank : Head → Type 0
IsNotBlank head.Blank = ⊥
IsNotBlank h = Unit {0}

insn_not_blank : (o : Option ℕ) (w : List ℕ) → IsNotBlank (insn_head o w)
insn_not_blank (Some op) w = tt
insn_not_blank None w = cond_both (is_float_name w) head.Float head.Other IsNotBlank (λ _. tt) (λ _. tt)

word_not_blank : (w : List ℕ) (second : Option (List ℕ)) → IsNotBlank (word_head w second)
word_not_blank w second =
    cond_both (begins_with 46 w) _ _ IsNotBlank (λ _. tt) (λ _. cond_both (begins_with 58 w) _ _ IsNotBlank (λ _. cond_both (is_name (drop 1 w)) head.Label head.Other IsNotBlank (λ _. tt) (λ _. tt)) (λ _. insn_not_blank (opcode_named w) w))

piece_not_blank : (p : Piece) (ps : List Piece) → IsNotBlank (head_of (p ∷ ps))
unfolding head_of
piece_not_blank (AWord w) ps = word_not_blank w (first_word ps)
piece_not_blank (AMark b) ps = tt
piece_not_blank (AString units) ps = tt
piece_not_blank (ACharacter unit) ps = tt

said_no_nothing : (read : Result Entry LineKind) → log_said says.One read ≡ Ok says.Nothing → ⊥
said_no_nothing (Ok x) h = cc
said_no_nothing (Err k) h = cc

end_no_nothing : (read : Result (Unit {0}) LineKind) → log_said (λ nothing. says.End) read ≡ Ok says.Nothing → ⊥
end_no_nothing (Ok x) h = cc
end_no_nothing (Err k) h = cc

not_nothing : (h : Head) (ps : List Piece) → IsNotBlank h → log_line_by h ps ≡ Ok says.Nothing → ⊥
not_nothing head.Blank ps some is = some
not_nothing (head.Directive directive.EndSchedule) ps some is = end_no_nothing (ended (after_first (after_first ps))) is
not_nothing h ps some is = said_no_nothing (entry_in ps) is

nothing_to : (ts : List Lexeme) → log_line (pieces_of ts) ≡ Ok says.Nothing → ts ≡ []
unfolding log_line
nothing_to [] is = refl
nothing_to (t ∷ ts) is = let ps = pieces_of (t ∷ ts) in absurd (not_nothing (head_of ps) ps (piece_not_blank (piece_of t) (pieces_of ts)) is)

nothing_said : log_line (pieces_of []) ≡ Ok says.Nothing
unfolding log_line head_of
nothing_said = refl

-- ---- the law

pub lines_alike : EntriesAreReadAlike → LogLinesAreReadAlike
lines_alike alike ts all = record {
  nothing = (λ e. ap (λ us. log_line (pieces_of us)) e ∙ nothing_said, λ is. nothing_to ts is);
  entry = λ e. (
    λ a. entry_from (pieces_of ts) e (entry_other ts e a) ((alike ts e all).0 a),
    λ is. (alike ts e all).1 (entry_to (pieces_of ts) e is),
  );
}
