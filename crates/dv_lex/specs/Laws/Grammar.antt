-- What the tokens of a line have to do with what it holds, as statements.
use Rattle.std.specs.Prelude.{◌≡◌, ℕ, ◌+◌, ◌<◌, IsTrue, false, true, List, ◌++◌, length, Ok}
use Rattle.std.specs.List.{list_all, All}
use Rattle.std.specs.Str.{is_utf8}
use Rattle.dv_lex.specs.declared.token.TokenKind.TheVariants.{Str, Char, Word}
use Rattle.dv_lex.specs.Bytes.{is_plain}
use Rattle.dv_lex.specs.Lexemes.{Lexeme, lexemes, put, begins_plain, Outside}
use Rattle.dv_lex.specs.Literals.{IsString, IsCharacter}
use Rattle.dv_lex.specs.Grammar.{Holds, IsLexeme}

-- what is read of a line of UTF-8 is what it holds
abbrev pub TokensAreFound : Type 0
TokensAreFound =
    (at : ℕ) (line : List ℕ) (ls : List Lexeme) → is_utf8 line ≡ true → lexemes at Outside line ≡ Ok ls → Holds at line ls

-- what a line holds is what is read of it, so it holds one list of tokens at most, and none where reading finds a fault
abbrev pub TokensAreAll : Type 0
TokensAreAll = (at : ℕ) (line : List ℕ) (ls : List Lexeme) → Holds at line ls → lexemes at Outside line ≡ Ok ls

-- plain bytes are one token, up to the first byte that is not plain
abbrev pub WordsAreTokens : Type 0
WordsAreTokens =
    (at : ℕ) (w rest : List ℕ) → 0 < length w → IsTrue (list_all is_plain w) → begins_plain rest ≡ false
    → lexemes at Outside (w ++ rest) ≡ put (record { kind = Word; start = at; text = w }) (lexemes (at + length w) Outside rest)

-- a string literal is one token, whatever is behind it
abbrev pub StringsAreTokens : Type 0
StringsAreTokens =
    (at : ℕ) (units w rest : List ℕ) → IsString units w
    → lexemes at Outside (w ++ rest) ≡ put (record { kind = Str; start = at; text = w }) (lexemes (at + length w) Outside rest)

-- and so is a character literal
abbrev pub CharactersAreTokens : Type 0
CharactersAreTokens =
    (at unit : ℕ) (w rest : List ℕ) → IsCharacter unit w
    → lexemes at Outside (w ++ rest) ≡ put (record { kind = Char; start = at; text = w }) (lexemes (at + length w) Outside rest)

-- every token that is read of a line of UTF-8 is one of its kind, and in UTF-8 itself
abbrev pub LexemesAreTokens : Type 0
LexemesAreTokens =
    (at : ℕ) (line : List ℕ) (ls : List Lexeme) → is_utf8 line ≡ true → lexemes at Outside line ≡ Ok ls → All IsLexeme ls
