-- One step of a reading.
use Rattle.std.proofs.Common.{◌≡◌, ℕ, suc, ◌+◌, ◌<◌, ◌≤◌, Bool, true, false, cond, eqb, List, [], ◌∷◌, ◌++◌, length, get_or, drop, Ok, Err, refl, sym, ap, ◌∙◌, append_assoc, arith, inl, inr, zero, length-drop}
use Rattle.std.specs.Prelude.{slice_range}
use Rattle.std.proofs.lemmas.Bool.{cases_Bool}
use Rattle.std.proofs.lemmas.List.{drop_more, at_drop_more, at_drop_all}
use Rattle.std.proofs.lemmas.Slice.{between_to_end}
use Rattle.std.proofs.lemmas.List.Edits.{between_more, between_none}
use Rattle.dv_defs.specs.declared.faults.LineKind.TheVariants.{BadToken, BadEscape}
use Rattle.dv_lex.specs.declared.bytes.Class.{Class}
use Rattle.dv_lex.specs.declared.bytes.Class.TheVariants as class
use Rattle.dv_lex.specs.declared.token.TokenKind.{TokenKind}
use Rattle.dv_lex.specs.declared.token.TokenKind.TheVariants.{Mark, Word}
use Rattle.dv_lex.specs.Bytes.{begins_with_four, byte_class, is_plain, is_plain_class, is_control, is_escape, escape_length, units_begun}
use Rattle.dv_lex.specs.Lexemes.{Lexeme, Lexemes, lexemes, put, glue, word, begins_plain, literal_kind, lacks_one_unit, a_mark, closed, Outside, In}

abbrev pub between : ℕ → ℕ → List ℕ → List ℕ
between i j xs = slice_range xs i j

abbrev pub lexeme : TokenKind → ℕ → List ℕ → Lexeme
lexeme k at w = record { kind = k; start = at; text = w }

pub glue_glue : (at to : ℕ) (u w : List ℕ) (r : Lexemes) → glue at u (glue to w r) ≡ glue at (u ++ w) r
glue_glue at to u w (Ok []) = refl
glue_glue at to u w (Ok (l ∷ ls)) = ap (λ (q : List ℕ). Ok (lexeme l.kind at q ∷ ls)) (sym (append_assoc u w l.text))
glue_glue at to u w (Err k) = refl

pub glue_put : (k : TokenKind) (at to : ℕ) (u w : List ℕ) (r : Lexemes) → glue at u (put (lexeme k to w) r) ≡ put (lexeme k at (u ++ w)) r
glue_put k at to u w (Ok ls) = refl
glue_put k at to u w (Err e) = refl

glue_word : (c : Bool) (at to : ℕ) (u w : List ℕ) (r : Lexemes)
    → glue at u (cond c (glue to w r) (put (lexeme Word to w) r)) ≡ cond c (glue at (u ++ w) r) (put (lexeme Word at (u ++ w)) r)
glue_word true at to u w r = glue_glue at to u w r
glue_word false at to u w r = glue_put Word at to u w r

glue_closed : (c : Bool) (at to q : ℕ) (u : List ℕ) (r : Lexemes)
    → glue at u (cond c (Err BadToken) (put (lexeme (literal_kind q) to (q ∷ [])) r)) ≡ cond c (Err BadToken) (put (lexeme (literal_kind q) at (u ++ q ∷ [])) r)
glue_closed true at to q u r = refl
glue_closed false at to q u r = glue_put (literal_kind q) at to u (q ∷ []) r

-- ---- each case of the definition

pub plain_is : (k : Class) → is_plain_class k ≡ true → k ≡ class.Plain
plain_is class.Blank e = absurd cc
plain_is class.Hash e = absurd cc
plain_is class.Mark e = absurd cc
plain_is class.Quote e = absurd cc
plain_is class.Control e = absurd cc
plain_is class.Plain e = refl

pub outside_plain : (at b : ℕ) (bs : List ℕ) → byte_class b ≡ class.Plain → lexemes at Outside (b ∷ bs) ≡ word at (b ∷ []) bs (lexemes (at + 1) Outside bs)
unfolding lexemes
outside_plain at b bs e = rw e refl

pub outside_quote : (at b : ℕ) (bs : List ℕ) → byte_class b ≡ class.Quote → lexemes at Outside (b ∷ bs) ≡ glue at (b ∷ []) (lexemes (at + 1) (In b 0 0) bs)
unfolding lexemes
outside_quote at b bs e = rw e refl

pub outside_mark : (at b : ℕ) (bs : List ℕ) → byte_class b ≡ class.Mark → lexemes at Outside (b ∷ bs) ≡ put (a_mark at b) (lexemes (at + 1) Outside bs)
unfolding lexemes
outside_mark at b bs e = rw e refl

pub outside_blank : (at b : ℕ) (bs : List ℕ) → byte_class b ≡ class.Blank → lexemes at Outside (b ∷ bs) ≡ lexemes (at + 1) Outside bs
unfolding lexemes
outside_blank at b bs e = rw e refl

pub outside_hash : (at b : ℕ) (bs : List ℕ) → byte_class b ≡ class.Hash → lexemes at Outside (b ∷ bs) ≡ Ok []
unfolding lexemes
outside_hash at b bs e = rw e refl

pub outside_control : (at b : ℕ) (bs : List ℕ) → byte_class b ≡ class.Control → lexemes at Outside (b ∷ bs) ≡ Err BadToken
unfolding lexemes
outside_control at b bs e = rw e refl

pub outside_nothing : (at : ℕ) → lexemes at Outside [] ≡ Ok []
unfolding lexemes
outside_nothing at = refl

pub in_nothing : (at q k n : ℕ) → lexemes at (In q k n) [] ≡ Err BadToken
unfolding lexemes
in_nothing at q k n = refl

pub in_skip : (at q k n b : ℕ) (bs : List ℕ) → lexemes at (In q (suc k) n) (b ∷ bs) ≡ glue at (b ∷ []) (lexemes (at + 1) (In q k n) bs)
unfolding lexemes
in_skip at q k n b bs = refl

pub in_end : (at q n b : ℕ) (bs : List ℕ) → eqb b q ≡ true → lexemes at (In q 0 n) (b ∷ bs) ≡ closed at q n (lexemes (at + 1) Outside bs)
unfolding lexemes
in_end at q n b bs e = rw e refl

pub in_control : (at q n b : ℕ) (bs : List ℕ) → eqb b q ≡ false → is_control b ≡ true → lexemes at (In q 0 n) (b ∷ bs) ≡ Err BadToken
unfolding lexemes
in_control at q n b bs e f = rw (e, f) refl

pub in_bad : (at q n b : ℕ) (bs : List ℕ) → eqb b q ≡ false → is_control b ≡ false → eqb b 92 ≡ true → is_escape bs ≡ false → lexemes at (In q 0 n) (b ∷ bs) ≡ Err BadEscape
unfolding lexemes
in_bad at q n b bs e f g h = rw (e, f, g, h) refl

pub in_escape : (at q n b : ℕ) (bs : List ℕ) → eqb b q ≡ false → is_control b ≡ false → eqb b 92 ≡ true → is_escape bs ≡ true
    → lexemes at (In q 0 n) (b ∷ bs) ≡ glue at (b ∷ []) (lexemes (at + 1) (In q (escape_length bs) (n + 1)) bs)
unfolding lexemes
in_escape at q n b bs e f g h = rw (e, f, g, h) refl

pub in_more : (at q n b : ℕ) (bs : List ℕ) → eqb b q ≡ false → is_control b ≡ false → eqb b 92 ≡ false
    → lexemes at (In q 0 n) (b ∷ bs) ≡ glue at (b ∷ []) (lexemes (at + 1) (In q 0 (n + units_begun b)) bs)
unfolding lexemes
in_more at q n b bs e f g = rw (e, f, g) refl

-- ---- words, by places

word_more : (from at b : ℕ) (w bs : List ℕ) → byte_class b ≡ class.Plain → word from w (b ∷ bs) (lexemes at Outside (b ∷ bs)) ≡ word from (w ++ b ∷ []) bs (lexemes (at + 1) Outside bs)
word_more from at b w bs e = rw (outside_plain at b bs e, e) (glue_word (begins_plain bs) from at w (b ∷ []) (lexemes (at + 1) Outside bs))

pub word_begins : (line : List ℕ) (start : ℕ) → start < length line → byte_class (get_or line start 0) ≡ class.Plain
    → lexemes start Outside (drop start line) ≡ word start (between start (start + 1) line) (drop (start + 1) line) (lexemes (start + 1) Outside (drop (start + 1) line))
word_begins line start lt e =
    rw (between_more line start start 0 (omega arith) lt, between_none line start, drop_more line start 0 lt) (outside_plain start (get_or line start 0) (drop (start + 1) line) e)

pub word_goes_on : (line : List ℕ) (start at : ℕ) → start ≤ at → at < length line → byte_class (get_or line at 0) ≡ class.Plain
    → word start (between start at line) (drop at line) (lexemes at Outside (drop at line))
    ≡ word start (between start (at + 1) line) (drop (at + 1) line) (lexemes (at + 1) Outside (drop (at + 1) line))
word_goes_on line start at le lt e =
    rw (between_more line start at 0 le lt, drop_more line at 0 lt) (word_more start at (get_or line at 0) (between start at line) (drop (at + 1) line) e)

pub word_ends : (line : List ℕ) (start at : ℕ) → begins_plain (drop at line) ≡ false
    → word start (between start at line) (drop at line) (lexemes at Outside (drop at line)) ≡ put (lexeme Word start (between start at line)) (lexemes at Outside (drop at line))
word_ends line start at e = rw e refl

pub stops : (line : List ℕ) (at : ℕ) → at < length line → is_plain (get_or line at 0) ≡ false → begins_plain (drop at line) ≡ false
stops line at lt e = at_drop_more begins_plain line at 0 lt ∙ e

-- ---- literals, by places

begun_by : (a b c : Bool) → (cond a 1 (cond b 0 (cond c 1 2))) ≤ 2
begun_by true b c = omega arith
begun_by false true c = omega arith
begun_by false false true = omega arith
begun_by false false false = omega arith

pub begun_few : (b : ℕ) → units_begun b ≤ 2
begun_few b = begun_by _ _ _

-- a literal so far, and what is read of the rest of the line
abbrev pub literal_from : List ℕ → ℕ → ℕ → ℕ → ℕ → ℕ → Lexemes
literal_from line start at q k n = glue start (between start at line) (lexemes at (In q k n) (drop at line))

pub literal_begins : (line : List ℕ) (start : ℕ) → start < length line → byte_class (get_or line start 0) ≡ class.Quote
    → lexemes start Outside (drop start line) ≡ literal_from line start (start + 1) (get_or line start 0) 0 0
literal_begins line start lt e =
    rw (between_more line start start 0 (omega arith) lt, between_none line start, drop_more line start 0 lt) (outside_quote start (get_or line start 0) (drop (start + 1) line) e)

literal_closed : (line : List ℕ) (start at q n : ℕ) → start ≤ at → at < length line → eqb (get_or line at 0) q ≡ true
    → literal_from line start at q 0 n
    ≡ cond (lacks_one_unit q n) (Err BadToken) (put (lexeme (literal_kind q) start (between start at line ++ q ∷ [])) (lexemes (at + 1) Outside (drop (at + 1) line)))
literal_closed line start at q n le lt e =
    rw (drop_more line at 0 lt, in_end at q n (get_or line at 0) (drop (at + 1) line) e) (glue_closed (lacks_one_unit q n) start at q (between start at line) (lexemes (at + 1) Outside (drop (at + 1) line)))

pub literal_ends : (line : List ℕ) (start at q n : ℕ) → start ≤ at → at < length line → get_or line at 0 ≡ q → eqb (get_or line at 0) q ≡ true → lacks_one_unit q n ≡ false
    → literal_from line start at q 0 n ≡ put (lexeme (literal_kind q) start (between start (at + 1) line)) (lexemes (at + 1) Outside (drop (at + 1) line))
literal_ends line start at q n le lt same e f =
    literal_closed line start at q n le lt e ∙ rw (f, between_more line start at 0 le lt, same) refl

pub literal_lacks : (line : List ℕ) (start at q n : ℕ) → start ≤ at → at < length line → eqb (get_or line at 0) q ≡ true → lacks_one_unit q n ≡ true
    → literal_from line start at q 0 n ≡ Err BadToken
literal_lacks line start at q n le lt e f = literal_closed line start at q n le lt e ∙ rw f refl

pub literal_control : (line : List ℕ) (start at q n : ℕ) → at < length line → eqb (get_or line at 0) q ≡ false → is_control (get_or line at 0) ≡ true
    → literal_from line start at q 0 n ≡ Err BadToken
literal_control line start at q n lt e f = rw (drop_more line at 0 lt, in_control at q n (get_or line at 0) (drop (at + 1) line) e f) refl

pub literal_bad : (line : List ℕ) (start at q n : ℕ) → at < length line → eqb (get_or line at 0) q ≡ false → is_control (get_or line at 0) ≡ false → eqb (get_or line at 0) 92 ≡ true
    → is_escape (drop (at + 1) line) ≡ false → literal_from line start at q 0 n ≡ Err BadEscape
literal_bad line start at q n lt e f g h = rw (drop_more line at 0 lt, in_bad at q n (get_or line at 0) (drop (at + 1) line) e f g h) refl

pub literal_more : (line : List ℕ) (start at q n : ℕ) → start ≤ at → at < length line → eqb (get_or line at 0) q ≡ false → is_control (get_or line at 0) ≡ false → eqb (get_or line at 0) 92 ≡ false
    → literal_from line start at q 0 n ≡ literal_from line start (at + 1) q 0 (n + units_begun (get_or line at 0))
literal_more line start at q n le lt e f g =
    rw (between_more line start at 0 le lt, drop_more line at 0 lt, in_more at q n (get_or line at 0) (drop (at + 1) line) e f g)
    (glue_glue start at (between start at line) (get_or line at 0 ∷ []) (lexemes (at + 1) (In q 0 (n + units_begun (get_or line at 0))) (drop (at + 1) line)))

-- one byte of an escape
literal_skips_one : (line : List ℕ) (start at q k n : ℕ) → start ≤ at → at < length line → literal_from line start at q (suc k) n ≡ literal_from line start (at + 1) q k n
literal_skips_one line start at q k n le lt =
    rw (between_more line start at 0 le lt, drop_more line at 0 lt, in_skip at q k n (get_or line at 0) (drop (at + 1) line))
    (glue_glue start at (between start at line) (get_or line at 0 ∷ []) (lexemes (at + 1) (In q k n) (drop (at + 1) line)))

literal_skips : (k : ℕ) (line : List ℕ) (start at q n : ℕ) → start ≤ at → at + k ≤ length line → literal_from line start at q k n ≡ literal_from line start (at + k) q 0 n
literal_skips zero line start at q n le fits = let none : at ≡ at + 0 = omega arith in ap (λ i. literal_from line start i q 0 n) none
literal_skips (suc k) line start at q n le fits =
    let next : at + 1 + k ≡ at + suc k = omega arith in
    literal_skips_one line start at q k n le (omega arith) ∙ literal_skips k line start (at + 1) q n (omega arith) (omega arith) ∙ ap (λ i. literal_from line start i q 0 n) next

-- an escape has its bytes
four_fit : (bs : List ℕ) → begins_with_four bs ≡ true → 4 ≤ length bs
four_fit [] e = absurd cc
four_fit (a ∷ []) e = absurd cc
four_fit (a ∷ b ∷ []) e = absurd cc
four_fit (a ∷ b ∷ c ∷ []) e = absurd cc
four_fit (a ∷ b ∷ c ∷ d ∷ bs) e = omega arith

pub escape_fits : (bs : List ℕ) → is_escape bs ≡ true → escape_length bs ≤ length bs
unfolding is_escape
escape_fits [] e = absurd cc
escape_fits (b ∷ bs) e = elim (cases_Bool (eqb b 117)) [
  | inl t ↦ let four = four_fit bs (rw t at e) in rw t (omega (arith, four))
  | inr f ↦ rw f (omega arith)
]

pub literal_escape : (line : List ℕ) (start at q n : ℕ) → start ≤ at → at < length line → eqb (get_or line at 0) q ≡ false → is_control (get_or line at 0) ≡ false → eqb (get_or line at 0) 92 ≡ true
    → is_escape (drop (at + 1) line) ≡ true
    → (at + 1 + escape_length (drop (at + 1) line) ≤ length line)
    × (literal_from line start at q 0 n ≡ literal_from line start (at + 1 + escape_length (drop (at + 1) line)) q 0 (n + 1))
literal_escape line start at q n le lt e f g h =
    let fits : at + 1 + escape_length (drop (at + 1) line) ≤ length line = omega (arith, escape_fits (drop (at + 1) line) h, length-drop (at + 1) line) in
    let one : literal_from line start at q 0 n ≡ literal_from line start (at + 1) q (escape_length (drop (at + 1) line)) (n + 1) =
    rw (between_more line start at 0 le lt, drop_more line at 0 lt, in_escape at q n (get_or line at 0) (drop (at + 1) line) e f g h)
    (glue_glue start at (between start at line) (get_or line at 0 ∷ []) (lexemes (at + 1) (In q (escape_length (drop (at + 1) line)) (n + 1)) (drop (at + 1) line))) in
    (fits, one ∙ literal_skips (escape_length (drop (at + 1) line)) line start (at + 1) q (n + 1) (omega arith) fits)

pub literal_open : (line : List ℕ) (start at q n : ℕ) → length line ≤ at → literal_from line start at q 0 n ≡ Err BadToken
unfolding lexemes
literal_open line start at q n le = rw (at_drop_all (λ xs. lexemes at (In q 0 n) xs) line at le) refl

-- ---- other bytes, by places

pub tail_is : (xs : List ℕ) (i : ℕ) → slice_range xs i (length xs) ≡ drop i xs
tail_is xs i = between_to_end xs i (length xs) (omega arith)

pub mark_at : (line : List ℕ) (start : ℕ) → start < length line → byte_class (get_or line start 0) ≡ class.Mark
    → lexemes start Outside (drop start line) ≡ put (lexeme Mark start (between start (start + 1) line)) (lexemes (start + 1) Outside (drop (start + 1) line))
mark_at line start lt e =
    rw (between_more line start start 0 (omega arith) lt, between_none line start, drop_more line start 0 lt) (outside_mark start (get_or line start 0) (drop (start + 1) line) e)

pub blank_at : (line : List ℕ) (at : ℕ) → at < length line → byte_class (get_or line at 0) ≡ class.Blank
    → lexemes at Outside (drop at line) ≡ lexemes (at + 1) Outside (drop (at + 1) line)
blank_at line at lt e = at_drop_more (lexemes at Outside) line at 0 lt ∙ outside_blank at _ _ e

pub hash_at : (line : List ℕ) (at : ℕ) → at < length line → byte_class (get_or line at 0) ≡ class.Hash → lexemes at Outside (drop at line) ≡ Ok []
hash_at line at lt e = at_drop_more (lexemes at Outside) line at 0 lt ∙ outside_hash at _ _ e

pub control_at : (line : List ℕ) (at : ℕ) → at < length line → byte_class (get_or line at 0) ≡ class.Control → lexemes at Outside (drop at line) ≡ Err BadToken
control_at line at lt e = at_drop_more (lexemes at Outside) line at 0 lt ∙ outside_control at _ _ e

pub outside_none : (line : List ℕ) (at : ℕ) → length line ≤ at → lexemes at Outside (drop at line) ≡ Ok []
unfolding lexemes
outside_none line at le = at_drop_all (lexemes at Outside) line at le
