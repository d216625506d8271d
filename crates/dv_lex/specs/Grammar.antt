-- Which tokens a line holds. Knows no order of reading, and no fault.
use Rattle.std.specs.Prelude.{◌≡◌, ℕ, ◌+◌, ◌<◌, IsTrue, false, List, [], ◌∷◌, ◌++◌, length}
use Rattle.std.specs.List.{list_all}
use Rattle.std.specs.Str.{IsUtf8}
use Rattle.dv_lex.specs.declared.bytes.Class.TheVariants.{Blank, Hash, Mark as AMark}
use Rattle.dv_lex.specs.declared.token.TokenKind.{TokenKind}
use Rattle.dv_lex.specs.declared.token.TokenKind.TheVariants.{Str, Char, Mark, Word}
use Rattle.dv_lex.specs.Bytes.{byte_class, is_plain}
use Rattle.dv_lex.specs.Lexemes.{Lexeme, begins_plain}
use Rattle.dv_lex.specs.Literals.{IsString, IsCharacter, IsSomeString, IsSomeCharacter}

-- the bytes at this place of the text hold these tokens
pub data Holds : ℕ → List ℕ → List Lexeme → Type 0 where
  Empty : (at : ℕ) → Holds at [] []
  -- a comment goes to the end of its line
  Comment : (at b : ℕ) (bs : List ℕ) → byte_class b ≡ Hash → Holds at (b ∷ bs) []
  Gap : (at b : ℕ) (bs : List ℕ) (ls : List Lexeme) → byte_class b ≡ Blank → Holds (at + 1) bs ls → Holds at (b ∷ bs) ls
  OneMark : (at b : ℕ) (bs : List ℕ) (ls : List Lexeme) → byte_class b ≡ AMark → Holds (at + 1) bs ls
      → Holds at (b ∷ bs) (record { kind = Mark; start = at; text = b ∷ [] } ∷ ls)
  -- a longest run of plain bytes
  AWord : (at : ℕ) (w rest : List ℕ) (ls : List Lexeme) → 0 < length w → IsTrue (list_all is_plain w) → begins_plain rest ≡ false
      → Holds (at + length w) rest ls → Holds at (w ++ rest) (record { kind = Word; start = at; text = w } ∷ ls)
  AString : (at : ℕ) (units w rest : List ℕ) (ls : List Lexeme) → IsString units w
      → Holds (at + length w) rest ls → Holds at (w ++ rest) (record { kind = Str; start = at; text = w } ∷ ls)
  ACharacter : (at unit : ℕ) (w rest : List ℕ) (ls : List Lexeme) → IsCharacter unit w
      → Holds (at + length w) rest ls → Holds at (w ++ rest) (record { kind = Char; start = at; text = w } ∷ ls)

-- ---- tokens one by one

-- the text of a token of this kind
abbrev pub IsText : TokenKind → List ℕ → Type 0
IsText Str text = IsSomeString text
IsText Char text = IsSomeCharacter text
IsText Mark text = (b : ℕ) × ((text ≡ b ∷ []) × (byte_class b ≡ AMark))
IsText Word text = (0 < length text) × IsTrue (list_all is_plain text)

-- a lexeme that is one of its kind, in UTF-8
pub record IsLexeme (l : Lexeme) : Type 0 where
  pub of_kind : IsText l.kind l.text
  pub utf8 : IsUtf8 l.text
