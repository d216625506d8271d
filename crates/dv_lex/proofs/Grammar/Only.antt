-- What a line holds is what is read of it.
use Rattle.std.proofs.Common.{◌≡◌, ℕ, ◌+◌, ◌<◌, true, false, List, [], ◌∷◌, ◌++◌, length, Ok, refl, ap, ◌∙◌, append_assoc, arith, lit<, length-append}
use Rattle.std.specs.List.{list_all}
use Rattle.std.proofs.lemmas.Bool.{and_parts}
use Rattle.dv_lex.specs.declared.bytes.Class.TheVariants as class
use Rattle.dv_lex.specs.declared.token.TokenKind.TheVariants.{Str, Char, Word}
use Rattle.dv_lex.specs.Bytes.{byte_class, is_plain}
use Rattle.dv_lex.specs.Lexemes.{Lexeme, Lexemes, lexemes, put, glue, word, begins_plain, a_mark, Outside}
use Rattle.dv_lex.specs.Literals.{Writes, IsString, IsCharacter}
use Rattle.dv_lex.specs.Grammar.{Holds, Empty, Comment, Gap, OneMark, AWord, AString, ACharacter}
use Rattle.dv_lex.proofs.Steps.{lexeme, glue_put, plain_is, outside_plain, outside_quote, outside_blank, outside_hash, outside_mark, outside_nothing}
use Rattle.dv_lex.proofs.Grammar.Written.{ended, glue_ended, closes}

-- ---- words

goes_on : (at : ℕ) (w : List ℕ) (c : ℕ) (bs : List ℕ) (r : Lexemes) → is_plain c ≡ true → word at w (c ∷ bs) r ≡ glue at w r
goes_on at w c bs r e = rw e refl

stops : (at : ℕ) (w bs : List ℕ) (r : Lexemes) → begins_plain bs ≡ false → word at w bs r ≡ put (lexeme Word at w) r
stops at w bs r e = rw e refl

some_more : (c : ℕ) (w : List ℕ) → 0 < length (c ∷ w)
some_more c w = omega arith

pub a_word : (at : ℕ) (w rest : List ℕ) → 0 < length w → list_all is_plain w ≡ true → begins_plain rest ≡ false
    → lexemes at Outside (w ++ rest) ≡ put (lexeme Word at w) (lexemes (at + length w) Outside rest)
a_word at [] rest lt all e = absurd (omega arith)
a_word at (b ∷ []) rest lt all e =
    outside_plain at b rest (plain_is (byte_class b) (and_parts _ _ all).0) ∙ stops at (b ∷ []) rest (lexemes (at + 1) Outside rest) e
a_word at (b ∷ c ∷ w) rest lt all e =
    let next : at + 1 + length (c ∷ w) ≡ at + length (b ∷ c ∷ w) = omega arith in
    let p = and_parts _ _ all in
    outside_plain at b (c ∷ (w ++ rest)) (plain_is (byte_class b) p.0) ∙ goes_on at (b ∷ []) c (w ++ rest) (lexemes (at + 1) Outside (c ∷ (w ++ rest))) (and_parts _ _ p.1).0
    ∙ ap (glue at (b ∷ [])) (a_word (at + 1) (c ∷ w) rest (some_more c w) p.1 e) ∙ glue_put Word at (at + 1) (b ∷ []) (c ∷ w) (lexemes (at + 1 + length (c ∷ w)) Outside rest)
    ∙ ap (λ i. put (lexeme Word at (b ∷ c ∷ w)) (lexemes i Outside rest)) next

-- ---- literals

-- the last byte of a literal's text and what is behind it
behind : (q : ℕ) (inner rest : List ℕ) → q ∷ (inner ++ q ∷ []) ++ rest ≡ q ∷ (inner ++ q ∷ rest)
behind q inner rest = ap (λ (xs : List ℕ). q ∷ xs) (append_assoc inner (q ∷ []) rest)

-- a literal in these quotes, with a right number of units or a wrong one
pub a_literal : (at q : ℕ) (us inner rest : List ℕ) → byte_class q ≡ class.Quote → q < 92 → Writes q us inner
    → lexemes at Outside (q ∷ (inner ++ q ∷ rest)) ≡ ended at q (length us) (q ∷ (inner ++ q ∷ [])) (lexemes (at + length (q ∷ (inner ++ q ∷ []))) Outside rest)
a_literal at q us inner rest quote low h =
    let units : 0 + length us ≡ length us = omega arith in
    let place : at + 1 + length inner + 1 ≡ at + length (q ∷ (inner ++ q ∷ [])) = omega (arith, length-append inner (q ∷ [])) in
    outside_quote at q (inner ++ q ∷ rest) quote ∙ ap (glue at (q ∷ [])) (closes q us inner low h (at + 1) 0 rest)
    ∙ glue_ended at (at + 1) q (0 + length us) (q ∷ []) (inner ++ q ∷ []) (lexemes (at + 1 + length inner + 1) Outside rest)
    ∙ rw (units, place) refl

pub double_is : byte_class 34 ≡ class.Quote
unfolding byte_class
double_is = refl

pub single_is : byte_class 39 ≡ class.Quote
unfolding byte_class
single_is = refl

pub a_string : (at : ℕ) (us w rest : List ℕ) → IsString us w → lexemes at Outside (w ++ rest) ≡ put (lexeme Str at w) (lexemes (at + length w) Outside rest)
a_string at us w rest h = rw h.quoted (ap (lexemes at Outside) (behind 34 h.inner rest) ∙ a_literal at 34 us h.inner rest double_is (lit< tt) h.writes)

pub a_character : (at unit : ℕ) (w rest : List ℕ) → IsCharacter unit w → lexemes at Outside (w ++ rest) ≡ put (lexeme Char at w) (lexemes (at + length w) Outside rest)
a_character at unit w rest h = rw h.quoted (ap (lexemes at Outside) (behind 39 h.inner rest) ∙ a_literal at 39 (unit ∷ []) h.inner rest single_is (lit< tt) h.writes)

-- ---- lines

-- What a line holds is what is read of it.
pub only : (at : ℕ) (line : List ℕ) (ls : List Lexeme) → Holds at line ls → lexemes at Outside line ≡ Ok ls
only at line ls (Empty from) = outside_nothing at
only at line ls (Comment from b bs e) = outside_hash at b bs e
only at line ls (Gap from b bs ms e h) = outside_blank at b bs e ∙ only (at + 1) bs ms h
only at line ls (OneMark from b bs ms e h) = outside_mark at b bs e ∙ ap (put (a_mark at b)) (only (at + 1) bs ms h)
only at line ls (AWord from w rest ms some all end h) = a_word at w rest some all end ∙ ap (put (lexeme Word at w)) (only (at + length w) rest ms h)
only at line ls (AString from us w rest ms i h) = a_string at us w rest i ∙ ap (put (lexeme Str at w)) (only (at + length w) rest ms h)
only at line ls (ACharacter from unit w rest ms i h) = a_character at unit w rest i ∙ ap (put (lexeme Char at w)) (only (at + length w) rest ms h)
