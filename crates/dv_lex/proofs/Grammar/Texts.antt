-- Every token that a line holds is one of its kind, and a text.
use Rattle.std.proofs.Common.{◌≡◌, ℕ, ◌+◌, ◌<◌, true, List, [], ◌∷◌, length, Ok, refl, lit<}
use Rattle.std.specs.Str.{IsUtf8, is_utf8}
use Rattle.std.specs.List.{All}
use Rattle.std.proofs.lemmas.List.Elements.{All-nil, All-cons}
use Rattle.std.proofs.lemmas.Str.{IsUtf8-from_is_utf8, IsUtf8-nil}
use Rattle.dv_lex.specs.declared.bytes.Class.TheVariants as class
use Rattle.dv_lex.specs.declared.token.TokenKind.TheVariants.{Str, Char, Word}
use Rattle.dv_lex.specs.Bytes.{byte_class}
use Rattle.dv_lex.specs.Lexemes.{Lexeme, lexemes, a_mark, Outside}
use Rattle.dv_lex.specs.Grammar.{IsLexeme, Holds, Empty, Comment, Gap, OneMark, AWord, AString, ACharacter}
use Rattle.dv_lex.proofs.Steps.{lexeme}
use Rattle.dv_lex.proofs.Grammar.Utf8.{past_ascii, before_ascii, other_small, behind_text, word_parts, literal_text}
use Rattle.dv_lex.proofs.Grammar.Found.{found}

mark_small : (b : ℕ) → byte_class b ≡ class.Mark → b < 128
mark_small b e = other_small b (rw e refl)

blank_small : (b : ℕ) → byte_class b ≡ class.Blank → b < 128
blank_small b e = other_small b (rw e refl)

-- What a text holds are tokens of their kinds.
pub held : (at : ℕ) (line : List ℕ) (ls : List Lexeme) → IsUtf8 line → Holds at line ls → All IsLexeme ls
held at line ls u (Empty from) = All-nil IsLexeme
held at line ls u (Comment from b bs e) = All-nil IsLexeme
held at line ls u (Gap from b bs ms e h) = held (at + 1) bs ms (past_ascii b bs (blank_small b e) u) h
held at line ls u (OneMark from b bs ms e h) =
    All-cons IsLexeme (a_mark at b) ms (record { of_kind = (b, (refl, e)); utf8 = before_ascii b [] (mark_small b e) IsUtf8-nil })
    (held (at + 1) bs ms (past_ascii b bs (mark_small b e) u) h)
held at line ls u (AWord from w rest ms some all end h) =
    let p = word_parts w rest end u in
    All-cons IsLexeme (lexeme Word at w) ms (record { of_kind = (some, all); utf8 = p.0 }) (held (at + length w) rest ms p.1 h)
held at line ls u (AString from us w rest ms i h) =
    let t = literal_text 34 us w (lit< tt) i in
    All-cons IsLexeme (lexeme Str at w) ms (record { of_kind = (us, i); utf8 = t }) (held (at + length w) rest ms (behind_text w rest t u) h)
held at line ls u (ACharacter from unit w rest ms i h) =
    let t = literal_text 39 (unit ∷ []) w (lit< tt) i in
    All-cons IsLexeme (lexeme Char at w) ms (record { of_kind = (unit, i); utf8 = t }) (held (at + length w) rest ms (behind_text w rest t u) h)

-- Every token of a line is one of its kind.
pub tokens : (at : ℕ) (line : List ℕ) (ls : List Lexeme) → is_utf8 line ≡ true → lexemes at Outside line ≡ Ok ls → All IsLexeme ls
tokens at line ls u e = held at line ls (IsUtf8-from_is_utf8 line u) (found at line ls u e)
