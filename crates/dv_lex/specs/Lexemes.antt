-- The tokens of a line from the left, and the first fault. What a line's tokens are is said in Grammar; this alone says which fault comes first.
use Rattle.std.specs.Prelude.{◌≡◌, ℕ, zero, suc, ◌+◌, ◌<◌, ◌≤◌, ◌&&◌, not, Bool, false, List, [], ◌∷◌, ◌++◌, length, drop, slice_range, Result, Ok, Err, MatchResult, ◌==◌, if◌then◌else◌}
use Rattle.dv_defs.specs.declared.faults.LineKind.{LineKind}
use Rattle.dv_defs.specs.declared.faults.LineKind.TheVariants.{BadToken, BadEscape}
use Rattle.dv_lex.specs.declared.bytes.Class.{Class}
use Rattle.dv_lex.specs.declared.bytes.Class.TheVariants as class
use Rattle.dv_lex.specs.declared.token.TokenKind.{TokenKind}
use Rattle.dv_lex.specs.declared.token.TokenKind.TheVariants.{Str, Char, Mark, Word}
use Rattle.dv_lex.specs.Bytes.{byte_class, is_plain, is_control, is_escape, escape_length, units_begun}

-- a token with its text, and with its place in the whole text
pub record Lexeme : Type 0 where
  pub kind : TokenKind
  pub start : ℕ
  pub text : List ℕ

abbrev pub Lexemes : Type 0
Lexemes = Result (List Lexeme) LineKind

-- a lexeme in front
abbrev pub put : Lexeme → Lexemes → Lexemes
put l (Ok ls) = Ok (l ∷ ls)
put l (Err k) = Err k

-- more bytes of the first lexeme, which begins with them at this place
abbrev pub glue : ℕ → List ℕ → Lexemes → Lexemes
glue at w (Ok []) = Ok []
glue at w (Ok (l ∷ ls)) = Ok (record { kind = l.kind; start = at; text = w ++ l.text } ∷ ls)
glue at w (Err k) = Err k

-- between tokens or in a word; or in a literal that this quote ends, with so many bytes of an escape to come and so many units behind
pub data Mode : Type 0 where
  Outside : Mode
  In : ℕ → ℕ → ℕ → Mode

abbrev pub begins_plain : List ℕ → Bool
begins_plain [] = false
begins_plain (b ∷ bs) = is_plain b

abbrev pub a_mark : ℕ → ℕ → Lexeme
a_mark at b = record { kind = Mark; start = at; text = b ∷ [] }

-- a front of a word, before these bytes and what they hold
abbrev pub word : ℕ → List ℕ → List ℕ → Lexemes → Lexemes
word at w bs rest = if begins_plain bs then glue at w rest else put (record { kind = Word; start = at; text = w }) rest

abbrev pub literal_kind : ℕ → TokenKind
literal_kind q = if q == 34 then Str else Char

-- a character literal, which is in single quotes, has one unit
abbrev pub lacks_one_unit : ℕ → ℕ → Bool
lacks_one_unit q n = (q == 39) && not (n == 1)

-- a literal's last quote
abbrev pub closed : ℕ → ℕ → ℕ → Lexemes → Lexemes
closed at q n rest = if lacks_one_unit q n then Err BadToken else put (record { kind = literal_kind q; start = at; text = q ∷ [] }) rest

-- a byte between tokens, over what stands behind it there and in a literal
abbrev pub outside : Class → ℕ → ℕ → List ℕ → Lexemes → Lexemes → Lexemes
outside class.Blank at b bs rest literal = rest
outside class.Hash at b bs rest literal = Ok []
outside class.Mark at b bs rest literal = put (a_mark at b) rest
outside class.Quote at b bs rest literal = glue at (b ∷ []) literal
outside class.Control at b bs rest literal = Err BadToken
outside class.Plain at b bs rest literal = word at (b ∷ []) bs rest

-- the lexemes of bytes that stand at this place, or the first fault
unfoldable pub lexemes : ℕ → Mode → List ℕ → Lexemes
lexemes at Outside [] = Ok []
lexemes at Outside (b ∷ bs) = outside (byte_class b) at b bs (lexemes (at + 1) Outside bs) (lexemes (at + 1) (In b 0 0) bs)
lexemes at (In q k n) [] = Err BadToken
lexemes at (In q (suc k) n) (b ∷ bs) = glue at (b ∷ []) (lexemes (at + 1) (In q k n) bs)
lexemes at (In q zero n) (b ∷ bs) =
    if b == q then closed at q n (lexemes (at + 1) Outside bs)
    else if is_control b then Err BadToken
    else if b == 92 then (if is_escape bs then glue at (b ∷ []) (lexemes (at + 1) (In q (escape_length bs) (n + 1)) bs) else Err BadEscape)
    else glue at (b ∷ []) (lexemes (at + 1) (In q 0 (n + units_begun b)) bs)

-- A token of this kind begins at start: it ends at the answer, or the answer is the first fault.
abbrev pub Cuts : TokenKind → List ℕ → ℕ → Result ℕ LineKind → Type 0
Cuts kind text start found = MatchResult found
    (λ end. (start < end) × (end ≤ length text)
    × (lexemes start Outside (drop start text) ≡ put (record { kind = kind; start = start; text = slice_range text start end }) (lexemes end Outside (drop end text))))
    (λ k. lexemes start Outside (drop start text) ≡ Err k)
