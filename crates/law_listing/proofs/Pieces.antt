-- Lines of pieces, put together from the right.
use Rattle.std.proofs.Common.{◌≡◌, ℕ, ◌+◌, ◌/◌, ◌%◌, ◌<◌, true, false, List, [], ◌∷◌, ◌++◌, length, refl, sym, ap, ◌∙◌, subst, append-nil, append_assoc, arith, inl, inr, lit<}
use Rattle.std.specs.Str.{IsUtf8, is_utf8}
use Rattle.std.specs.List.{flat_map, join_by, list_all}
use Rattle.std.specs.Prelude.{codes}
use Rattle.std.proofs.lemmas.Bool.{and_from, and_parts, cases_Bool}
use Rattle.std.proofs.lemmas.Bool.Decides.{nat_tests}
use Rattle.std.proofs.lemmas.List.Folds.{list_all-append}
use Rattle.std.proofs.lemmas.Str.{IsUtf8-nil, IsUtf8-append, IsUtf8-from_is_utf8, is_utf8-from_IsUtf8}
use Rattle.dv_names.specs.Written.{digit, is_raw, string_text, unit_text}
use Rattle.dv_lex.specs.declared.bytes.Class.TheVariants as class
use Rattle.dv_lex.specs.declared.token.TokenKind.TheVariants as token
use Rattle.dv_lex.specs.Bytes.{byte_class, is_plain}
use Rattle.dv_lex.specs.Grammar.{Empty, Gap, OneMark, AWord as HoldsWord, AString as HoldsString}
use Rattle.dv_lex.specs.Lexemes.{begins_plain, a_mark}
use Rattle.dv_lex.specs.Laws.Lines.{is_printed}
use Rattle.dv_lex.specs.Laws.Names.{IsWord}
use Rattle.dv_lex.proofs.Steps.{lexeme}
use Rattle.dv_lex.proofs.Grammar.Utf8.{before_ascii, other_small, literal_text}
use Rattle.dv_lex.proofs.Literals.Printed.{printed}
use Rattle.dv_coderead.specs.Pieces.{Piece, AWord, AMark, AString, pieces_of}
use Rattle.law_listing.specs.Printed.{HasPieces}
use Rattle.law_listing.specs.Listable.{AreStringUnits}
use Rattle.law_listing.proofs.Strings.{string_read}

-- ---- one text, two ways to write it

pub same_text : (xs ys : List ℕ) (ps : List Piece) → xs ≡ ys → HasPieces ys ps → HasPieces xs ps
same_text xs ys ps e h = subst (λ (l : List ℕ). HasPieces l ps) (sym e) h

pub same_pieces : (xs : List ℕ) (ps qs : List Piece) → ps ≡ qs → HasPieces xs ps → HasPieces xs qs
same_pieces xs ps qs e h = subst (HasPieces xs) e h

-- ---- bytes

plain_printed : (b : ℕ) → is_plain b ≡ true → is_printed b ≡ true
unfolding byte_class
plain_printed b e = grind (arith, nat_tests)

mark_printed : (b : ℕ) → byte_class b ≡ class.Mark → is_printed b ≡ true
unfolding byte_class
mark_printed b e = grind (arith, nat_tests)

mark_plain : (b : ℕ) → byte_class b ≡ class.Mark → is_plain b ≡ false
mark_plain b e = rw e refl

blank_is : byte_class 32 ≡ class.Blank
unfolding byte_class
blank_is = refl

printed_word : (w : List ℕ) → list_all is_plain w ≡ true → list_all is_printed w ≡ true
printed_word [] e = refl
printed_word (b ∷ w) e = let p = and_parts (is_plain b) (list_all is_plain w) e in and_from _ _ (plain_printed b p.0) (printed_word w p.1)

printed_append : (xs ys : List ℕ) → list_all is_printed xs ≡ true → list_all is_printed ys ≡ true → list_all is_printed (xs ++ ys) ≡ true
printed_append xs ys e f = list_all-append is_printed xs ys ∙ and_from _ _ e f

text_append : (xs ys : List ℕ) → IsUtf8 xs → is_utf8 ys ≡ true → is_utf8 (xs ++ ys) ≡ true
text_append xs ys u v = is_utf8-from_IsUtf8 (xs ++ ys) (IsUtf8-append xs ys u (IsUtf8-from_is_utf8 ys v))

text_cons : (b : ℕ) (bs : List ℕ) → b < 128 → is_utf8 bs ≡ true → is_utf8 (b ∷ bs) ≡ true
text_cons b bs lt u = is_utf8-from_IsUtf8 (b ∷ bs) (before_ascii b bs lt (IsUtf8-from_is_utf8 bs u))

-- the bytes of a string
digit_printed : (d : ℕ) → d < 16 → is_printed (digit d) ≡ true
digit_printed d lt = grind (arith, nat_tests)

raw_printed : (u : ℕ) → is_raw u ≡ true → is_printed u ≡ true
raw_printed u is = grind (arith, nat_tests)

unit_printed : (u : ℕ) → list_all is_printed (unit_text u) ≡ true
unit_printed u =
    elim (cases_Bool (is_raw u)) [
      | inl is ↦ rw is (and_from _ _ (raw_printed u is) refl)
      | inr other ↦ rw (other, digit_printed (u / 4096 % 16) (omega arith), digit_printed (u / 256 % 16) (omega arith), digit_printed (u / 16 % 16) (omega arith), digit_printed (u % 16) (omega arith)) refl
    ]

units_printed : (us : List ℕ) → list_all is_printed (flat_map unit_text us) ≡ true
units_printed [] = refl
units_printed (u ∷ us) = printed_append (unit_text u) (flat_map unit_text us) (unit_printed u) (units_printed us)

printed_string : (us : List ℕ) → list_all is_printed (string_text us) ≡ true
printed_string us = printed_append (flat_map unit_text us) (34 ∷ []) (units_printed us) refl

-- ---- piece by piece

pub no_piece : HasPieces [] []
no_piece = record { printed = refl; utf8 = is_utf8-from_IsUtf8 [] IsUtf8-nil; tokens = λ at. record { lexemes = []; holds = Empty at; mean = refl } }

pub blank_piece : (bytes : List ℕ) (ps : List Piece) → HasPieces bytes ps → HasPieces (32 ∷ bytes) ps
blank_piece bytes ps h = record {
  printed = h.printed;
  utf8 = text_cons 32 bytes (lit< tt) h.utf8;
  tokens = λ at. let t = h.tokens (at + 1) in record { lexemes = t.lexemes; holds = Gap at 32 bytes t.lexemes blank_is t.holds; mean = t.mean };
}

pub word_piece : (w bytes : List ℕ) (ps : List Piece) → IsWord w → IsUtf8 w → begins_plain bytes ≡ false → HasPieces bytes ps → HasPieces (w ++ bytes) (AWord w ∷ ps)
word_piece w bytes ps word text ends h = record {
  printed = printed_append w bytes (printed_word w word.1) h.printed;
  utf8 = text_append w bytes text h.utf8;
  tokens = λ at.
      let t = h.tokens (at + length w) in
      record { lexemes = lexeme token.Word at w ∷ t.lexemes; holds = HoldsWord at w bytes t.lexemes word.0 word.1 ends t.holds; mean = ap (λ qs. AWord w ∷ qs) t.mean };
}

pub last_word : (w : List ℕ) → IsWord w → IsUtf8 w → HasPieces w (AWord w ∷ [])
last_word w word text = same_text w (w ++ []) (AWord w ∷ []) (sym (append-nil w)) (word_piece w [] [] word text refl no_piece)

pub mark_piece : (b : ℕ) (bytes : List ℕ) (ps : List Piece) → byte_class b ≡ class.Mark → HasPieces bytes ps → HasPieces (b ∷ bytes) (AMark b ∷ ps)
mark_piece b bytes ps mark h = record {
  printed = and_from _ _ (mark_printed b mark) h.printed;
  utf8 = text_cons b bytes (other_small b (mark_plain b mark)) h.utf8;
  tokens = λ at.
      let t = h.tokens (at + 1) in
      record { lexemes = a_mark at b ∷ t.lexemes; holds = OneMark at b bytes t.lexemes mark t.holds; mean = ap (λ qs. AMark b ∷ qs) t.mean };
}

pub string_piece : (units bytes : List ℕ) (ps : List Piece) → AreStringUnits units → HasPieces bytes ps → HasPieces (string_text units ++ bytes) (AString units ∷ ps)
string_piece units bytes ps fit h = record {
  printed = printed_append (string_text units) bytes (printed_string units) h.printed;
  utf8 = text_append (string_text units) bytes (literal_text 34 units (string_text units) (lit< tt) (printed units fit)) h.utf8;
  tokens = λ at.
      let w = string_text units in
      let t = h.tokens (at + length w) in
      record {
        lexemes = lexeme token.Str at w ∷ t.lexemes;
        holds = HoldsString at units w bytes t.lexemes (printed units fit) t.holds;
        mean = ap (λ us. AString us ∷ pieces_of t.lexemes) (string_read units fit) ∙ ap (λ qs. AString units ∷ qs) t.mean;
      };
}

-- ---- shortcuts

-- the marks
pub comma_is : byte_class 44 ≡ class.Mark
unfolding byte_class
comma_is = refl

pub equals_is : byte_class 61 ≡ class.Mark
unfolding byte_class
equals_is = refl

pub brace_is : byte_class 123 ≡ class.Mark
unfolding byte_class
brace_is = refl

pub end_brace_is : byte_class 125 ≡ class.Mark
unfolding byte_class
end_brace_is = refl

-- what isn't plain begins with nothing plain
pub blank_ends : (bytes : List ℕ) → begins_plain (32 ∷ bytes) ≡ false
unfolding byte_class
blank_ends bytes = refl

pub mark_ends : (b : ℕ) (bytes : List ℕ) → byte_class b ≡ class.Mark → begins_plain (b ∷ bytes) ≡ false
mark_ends b bytes e = mark_plain b e

pub quote_ends : (units bytes : List ℕ) → begins_plain (string_text units ++ bytes) ≡ false
unfolding byte_class
quote_ends units bytes = refl

-- a word with a blank behind it, a comma and a blank, or a mark
pub word_blank : (w bytes : List ℕ) (ps : List Piece) → IsWord w → IsUtf8 w → HasPieces bytes ps → HasPieces (w ++ 32 ∷ bytes) (AWord w ∷ ps)
word_blank w bytes ps word text h = word_piece w (32 ∷ bytes) ps word text (blank_ends bytes) (blank_piece bytes ps h)

pub word_mark : (w : List ℕ) (b : ℕ) (bytes : List ℕ) (ps : List Piece) → IsWord w → IsUtf8 w → byte_class b ≡ class.Mark → HasPieces bytes ps
    → HasPieces (w ++ b ∷ bytes) (AWord w ∷ AMark b ∷ ps)
word_mark w b bytes ps word text mark h = word_piece w (b ∷ bytes) (AMark b ∷ ps) word text (mark_ends b bytes mark) (mark_piece b bytes ps mark h)

pub comma_blank : (bytes : List ℕ) (ps : List Piece) → HasPieces bytes ps → HasPieces (44 ∷ 32 ∷ bytes) (AMark 44 ∷ ps)
comma_blank bytes ps h = mark_piece 44 (32 ∷ bytes) ps comma_is (blank_piece bytes ps h)

pub word_comma : (w bytes : List ℕ) (ps : List Piece) → IsWord w → IsUtf8 w → HasPieces bytes ps → HasPieces (w ++ 44 ∷ 32 ∷ bytes) (AWord w ∷ AMark 44 ∷ ps)
word_comma w bytes ps word text h = word_mark w 44 (32 ∷ bytes) ps word text comma_is (blank_piece bytes ps h)

pub last_string : (units : List ℕ) → AreStringUnits units → HasPieces (string_text units) (AString units ∷ [])
last_string units fit = same_text (string_text units) (string_text units ++ []) (AString units ∷ []) (sym (append-nil (string_text units))) (string_piece units [] [] fit no_piece)

-- ---- fronts of lines

-- These bytes hold these pieces, whatever line stands behind them that begins with no plain byte.
pub record IsFront (bytes : List ℕ) (pieces : List Piece) : Type 0 where
  pub before : (rest : List ℕ) (more : List Piece) → begins_plain rest ≡ false → HasPieces rest more → HasPieces (bytes ++ rest) (pieces ++ more)

-- a front is a line too
pub front_line : (bytes : List ℕ) (ps : List Piece) → IsFront bytes ps → HasPieces bytes ps
front_line bytes ps f =
    same_text bytes (bytes ++ []) ps (sym (append-nil bytes)) (same_pieces (bytes ++ []) (ps ++ []) ps (append-nil ps) (f.before [] [] refl no_piece))

pub no_front : IsFront [] []
no_front = record { before = λ rest more ends h. h }

pub blank_front : (bytes : List ℕ) (ps : List Piece) → IsFront bytes ps → IsFront (32 ∷ bytes) ps
blank_front bytes ps f = record { before = λ rest more ends h. blank_piece (bytes ++ rest) (ps ++ more) (f.before rest more ends h) }

pub mark_front : (b : ℕ) (bytes : List ℕ) (ps : List Piece) → byte_class b ≡ class.Mark → IsFront bytes ps → IsFront (b ∷ bytes) (AMark b ∷ ps)
mark_front b bytes ps mark f = record { before = λ rest more ends h. mark_piece b (bytes ++ rest) (ps ++ more) mark (f.before rest more ends h) }

pub word_front : (w : List ℕ) → IsWord w → IsUtf8 w → IsFront w (AWord w ∷ [])
word_front w word text = record { before = λ rest more ends h. word_piece w rest more word text ends h }

pub string_front : (units : List ℕ) → AreStringUnits units → IsFront (string_text units) (AString units ∷ [])
string_front units fit = record { before = λ rest more ends h. string_piece units rest more fit h }

ends_append : (ys rest : List ℕ) → begins_plain ys ≡ false → begins_plain rest ≡ false → begins_plain (ys ++ rest) ≡ false
ends_append [] rest e f = f
ends_append (y ∷ ys) rest e f = e

-- one front before another that begins with no plain byte, or before nothing
pub front_append : (xs ys : List ℕ) (ps qs : List Piece) → begins_plain ys ≡ false → IsFront xs ps → IsFront ys qs → IsFront (xs ++ ys) (ps ++ qs)
front_append xs ys ps qs ends f g = record {
  before = λ rest more e h.
      same_text (xs ++ ys ++ rest) (xs ++ (ys ++ rest)) (ps ++ qs ++ more) (append_assoc xs ys rest)
      (same_pieces (xs ++ (ys ++ rest)) (ps ++ (qs ++ more)) (ps ++ qs ++ more) (sym (append_assoc ps qs more))
      (f.before (ys ++ rest) (qs ++ more) (ends_append ys rest ends e) (g.before rest more e h)));
}

-- ---- fronts with commas between

-- texts that hold these pieces, one by one
pub data AreFronts : List (List ℕ) → List (List Piece) → Type 0 where
  NoFront : AreFronts [] []
  OneFront : (x : List ℕ) (xs : List (List ℕ)) (ps : List Piece) (pss : List (List Piece)) → IsFront x ps → AreFronts xs pss → AreFronts (x ∷ xs) (ps ∷ pss)

pub fronts_append : (xs ys : List (List ℕ)) (pss qss : List (List Piece)) → AreFronts xs pss → AreFronts ys qss → AreFronts (xs ++ ys) (pss ++ qss)
fronts_append xs ys pss qss NoFront k = k
fronts_append xs ys pss qss (OneFront x us ps more f fs) k = OneFront x (us ++ ys) ps (more ++ qss) f (fronts_append us ys more qss fs k)

-- each of them behind a comma
abbrev pub behind_commas : List (List Piece) → List Piece
behind_commas [] = []
behind_commas (ps ∷ pss) = (AMark 44 ∷ ps) ++ behind_commas pss

-- all of them, with commas between
abbrev pub with_commas : List (List Piece) → List Piece
with_commas [] = []
with_commas (ps ∷ pss) = ps ++ behind_commas pss

abbrev pub more_text : List (List ℕ) → List ℕ
more_text xs = flat_map (λ y. codes ", " ++ y) xs

pub more_ends : (xs : List (List ℕ)) → begins_plain (more_text xs) ≡ false
unfolding byte_class
more_ends [] = refl
more_ends (x ∷ xs) = refl

more_fronts : (xs : List (List ℕ)) (pss : List (List Piece)) → AreFronts xs pss → IsFront (more_text xs) (behind_commas pss)
more_fronts xs pss NoFront = no_front
more_fronts xs pss (OneFront x us ps more f fs) =
    front_append (codes ", " ++ x) (more_text us) (AMark 44 ∷ ps) (behind_commas more) (more_ends us) (mark_front 44 (32 ∷ x) ps comma_is (blank_front x ps f)) (more_fronts us more fs)

pub listed_front : (xs : List (List ℕ)) (pss : List (List Piece)) → AreFronts xs pss → IsFront (join_by (λ x. x) (codes ", ") xs) (with_commas pss)
listed_front xs pss NoFront = no_front
listed_front xs pss (OneFront x us ps more f fs) = front_append x (more_text us) ps (behind_commas more) (more_ends us) f (more_fronts us more fs)
