-- What writes the units of a literal is read up to the literal's end.
use Rattle.std.proofs.Common.{◌≡◌, ℕ, suc, ◌+◌, ◌<◌, ◌≤◌, ◌/◌, ◌%◌, Bool, true, false, cond, eqb, List, [], ◌∷◌, ◌++◌, length, Err, refl, sym, ap, ◌∙◌, append_assoc, arith, inl, inr, eq-eqb, ne_eqb, lt-ltb, le-ltb, length-append}
use Rattle.std.specs.Char.{encode_utf8}
use Rattle.std.specs.Char.Escape.{encode_utf16}
use Rattle.std.proofs.lemmas.Bool.{cases_lt}
use Rattle.std.proofs.lemmas.Bool.Decides.{nat_tests}
use Rattle.std.proofs.lemmas.Str.{encode_ascii}
use Rattle.dv_defs.specs.declared.faults.LineKind.TheVariants.{BadToken}
use Rattle.dv_lex.specs.Bytes.{byte_class, is_control, is_short, is_escape, begins_with_four, units_begun}
use Rattle.dv_lex.specs.Lexemes.{Lexemes, lexemes, put, glue, literal_kind, lacks_one_unit, Outside, In}
use Rattle.dv_lex.specs.Literals.{Writes, Nothing, One, Short, Unicode}
use Rattle.dv_lex.proofs.Steps.{lexeme, glue_glue, glue_put, in_skip, in_end, in_escape, in_more}

-- ---- some bytes in a literal

-- in a literal that this quote ends, these bytes count for so many units, whatever is behind them
abbrev pub Counts : ℕ → ℕ → List ℕ → Type 0
Counts q k w = (at n : ℕ) (bs : List ℕ) → lexemes at (In q 0 n) (w ++ bs) ≡ glue at w (lexemes (at + length w) (In q 0 (n + k)) bs)

-- the places and units of two parts add up
sums : (at n q j k : ℕ) (u v bs : List ℕ)
    → glue at (u ++ v) (lexemes (at + length u + length v) (In q 0 (n + j + k)) bs) ≡ glue at (u ++ v) (lexemes (at + length (u ++ v)) (In q 0 (n + (j + k))) bs)
sums at n q j k u v bs =
    let place : at + length u + length v ≡ at + length (u ++ v) = omega (arith, length-append u v) in
    let units : n + j + k ≡ n + (j + k) = omega arith in
    rw (place, units) refl

pub counts_both : (q j k : ℕ) (u v : List ℕ) → Counts q j u → Counts q k v → Counts q (j + k) (u ++ v)
counts_both q j k u v first second at n bs =
    ap (lexemes at (In q 0 n)) (append_assoc u v bs) ∙ first at n (v ++ bs) ∙ ap (glue at u) (second (at + length u) (n + j) bs)
    ∙ glue_glue at (at + length u) u v (lexemes (at + length u + length v) (In q 0 (n + j + k)) bs) ∙ sums at n q j k u v bs

byte_counts : (q b k : ℕ) → eqb b q ≡ false → is_control b ≡ false → eqb b 92 ≡ false → units_begun b ≡ k → Counts q k (b ∷ [])
byte_counts q b k e f g units at n bs = in_more at q n b bs e f g ∙ ap (λ j. glue at (b ∷ []) (lexemes (at + 1) (In q 0 (n + j)) bs)) units

-- ---- bytes of characters

pub high_control : (b : ℕ) → 128 ≤ b → is_control b ≡ false
unfolding byte_class
high_control b le = grind (arith, nat_tests)

-- a byte from 128 on
high_counts : (q b k : ℕ) → q < 92 → 128 ≤ b → units_begun b ≡ k → Counts q k (b ∷ [])
high_counts q b k low le e =
    let other : eqb b q ≡ false = ne_eqb b q (λ (z : b ≡ q). omega (arith, z, low, le)) in
    let no_slash : eqb b 92 ≡ false = ne_eqb b 92 (λ (z : b ≡ 92). omega (arith, z, le)) in
    byte_counts q b k other (high_control b le) no_slash e

-- a byte inside a character
later_counts : (q r : ℕ) → q < 92 → r < 64 → Counts q 0 ((128 + r) ∷ [])
later_counts q r low small = high_counts q (128 + r) 0 low (omega arith) (rw (le-ltb (128 + r) 128 (omega arith), lt-ltb (128 + r) 192 (omega arith)) refl)

-- the first byte of a character of two bytes or three, which has one unit
first_counts : (q b : ℕ) → q < 92 → 192 ≤ b → b < 240 → Counts q 1 (b ∷ [])
first_counts q b low le lt = high_counts q b 1 low (omega arith) (rw (le-ltb b 128 (omega arith), le-ltb b 192 le, lt-ltb b 240 lt) refl)

-- and of one of four bytes, which has two
first_of_four_counts : (q b : ℕ) → q < 92 → 240 ≤ b → Counts q 2 (b ∷ [])
first_of_four_counts q b low le = high_counts q b 2 low (omega arith) (rw (le-ltb b 128 (omega arith), le-ltb b 192 (omega arith), le-ltb b 240 le) refl)

-- ---- characters

-- the bytes of a character by its size
two_bytes : (c : ℕ) → 128 ≤ c → c < 2048 → encode_utf8 c ≡ (192 + c / 64) ∷ (128 + c % 64) ∷ []
unfolding encode_utf8
two_bytes c le lt = rw (le-ltb c 128 le, lt-ltb c 2048 lt) refl

three_bytes : (c : ℕ) → 2048 ≤ c → c < 65536 → encode_utf8 c ≡ (224 + c / 4096) ∷ (128 + c / 64 % 64) ∷ (128 + c % 64) ∷ []
unfolding encode_utf8
three_bytes c le lt = rw (le-ltb c 128 (omega arith), le-ltb c 2048 le, lt-ltb c 65536 lt) refl

four_bytes : (c : ℕ) → 65536 ≤ c → encode_utf8 c ≡ (240 + c / 262144) ∷ (128 + c / 4096 % 64) ∷ (128 + c / 64 % 64) ∷ (128 + c % 64) ∷ []
unfolding encode_utf8
four_bytes c le = rw (le-ltb c 128 (omega arith), le-ltb c 2048 (omega arith), le-ltb c 65536 le) refl

one_unit : (c : ℕ) → c < 65536 → length (encode_utf16 c) ≡ 1
one_unit c lt = rw (lt-ltb c 65536 lt) refl

two_units : (c : ℕ) → 65536 ≤ c → length (encode_utf16 c) ≡ 2
two_units c le = rw (le-ltb c 65536 le) refl

small_begins : (c : ℕ) → c < 128 → units_begun c ≡ 1
small_begins c lt = rw (lt-ltb c 128 lt) refl

-- A character that stands for itself counts for its units.
pub character_counts : (q c : ℕ) → q < 92 → eqb c q ≡ false → is_control c ≡ false → eqb c 92 ≡ false → Counts q (length (encode_utf16 c)) (encode_utf8 c)
character_counts q c low e f g =
    elim (cases_lt c 128) [
      | inl lt ↦ rw (encode_ascii c lt, one_unit c (omega arith)) (byte_counts q c 1 e f g (small_begins c lt))
      | inr le ↦ elim (cases_lt c 2048) [
        | inl lt ↦ rw (two_bytes c le lt, one_unit c (omega arith))
            (counts_both q 1 0 ((192 + c / 64) ∷ []) ((128 + c % 64) ∷ []) (first_counts q (192 + c / 64) low (omega arith) (omega arith)) (later_counts q (c % 64) low (omega arith)))
        | inr more ↦ elim (cases_lt c 65536) [
          | inl lt ↦ rw (three_bytes c more lt, one_unit c lt)
              (counts_both q 1 0 ((224 + c / 4096) ∷ []) ((128 + c / 64 % 64) ∷ (128 + c % 64) ∷ []) (first_counts q (224 + c / 4096) low (omega arith) (omega arith))
              (counts_both q 0 0 ((128 + c / 64 % 64) ∷ []) ((128 + c % 64) ∷ []) (later_counts q (c / 64 % 64) low (omega arith)) (later_counts q (c % 64) low (omega arith))))
          | inr most ↦ rw (four_bytes c most, two_units c most)
              (counts_both q 2 0 ((240 + c / 262144) ∷ []) ((128 + c / 4096 % 64) ∷ (128 + c / 64 % 64) ∷ (128 + c % 64) ∷ []) (first_of_four_counts q (240 + c / 262144) low (omega arith))
              (counts_both q 0 0 ((128 + c / 4096 % 64) ∷ []) ((128 + c / 64 % 64) ∷ (128 + c % 64) ∷ []) (later_counts q (c / 4096 % 64) low (omega arith))
              (counts_both q 0 0 ((128 + c / 64 % 64) ∷ []) ((128 + c % 64) ∷ []) (later_counts q (c / 64 % 64) low (omega arith)) (later_counts q (c % 64) low (omega arith)))))
        ]
      ]
    ]

-- ---- escapes

-- the bytes of an escape are skipped
skips : (q b : ℕ) (w : List ℕ) (at n : ℕ) (bs : List ℕ)
    → lexemes at (In q (length (b ∷ w)) n) (b ∷ (w ++ bs)) ≡ glue at (b ∷ w) (lexemes (at + length (b ∷ w)) (In q 0 n) bs)
skips q b [] at n bs = in_skip at q 0 n b bs
skips q b (c ∷ w) at n bs =
    let next : at + 1 + length (c ∷ w) ≡ at + length (b ∷ c ∷ w) = omega arith in
    in_skip at q (length (c ∷ w)) n b (c ∷ (w ++ bs)) ∙ ap (glue at (b ∷ [])) (skips q c w (at + 1) n bs)
    ∙ glue_glue at (at + 1) (b ∷ []) (c ∷ w) (lexemes (at + 1 + length (c ∷ w)) (In q 0 n) bs) ∙ ap (λ i. glue at (b ∷ c ∷ w) (lexemes i (In q 0 n) bs)) next

back_plain : is_control 92 ≡ false
unfolding byte_class
back_plain = refl

-- a backslash with an escape behind it, of so many bytes
escape_counts : (q b : ℕ) (w : List ℕ) → q < 92 → ((bs : List ℕ) → is_escape (b ∷ (w ++ bs)) ≡ true) → cond (eqb b 117) 5 1 ≡ length (b ∷ w) → Counts q 1 (92 ∷ b ∷ w)
escape_counts q b w low escapes size at n bs =
    let other : eqb 92 q ≡ false = ne_eqb 92 q (λ (z : 92 ≡ q). omega (arith, z, low)) in
    let next : at + 1 + length (b ∷ w) ≡ at + length (92 ∷ b ∷ w) = omega arith in
    in_escape at q n 92 (b ∷ (w ++ bs)) other back_plain refl (escapes bs) ∙ ap (λ k. glue at (92 ∷ []) (lexemes (at + 1) (In q k (n + 1)) (b ∷ (w ++ bs)))) size
    ∙ ap (glue at (92 ∷ [])) (skips q b w (at + 1) (n + 1) bs) ∙ glue_glue at (at + 1) (92 ∷ []) (b ∷ w) (lexemes (at + 1 + length (b ∷ w)) (In q 0 (n + 1)) bs)
    ∙ ap (λ i. glue at (92 ∷ b ∷ w) (lexemes i (In q 0 (n + 1)) bs)) next

short_escapes : (b : ℕ) (bs : List ℕ) → eqb b 117 ≡ false → is_short b ≡ true → is_escape (b ∷ bs) ≡ true
unfolding is_escape
short_escapes b bs e h = rw e h

unicode_escapes : (bs : List ℕ) → is_escape (117 ∷ bs) ≡ begins_with_four bs
unfolding is_escape
unicode_escapes bs = refl

pub short_counts : (q b : ℕ) → q < 92 → eqb b 117 ≡ false → is_short b ≡ true → Counts q 1 (92 ∷ b ∷ [])
short_counts q b low e h = escape_counts q b [] low (λ (bs : List ℕ). short_escapes b bs e h) (rw e refl)

pub unicode_counts : (q a b c d : ℕ) (xs : List ℕ) → q < 92 → begins_with_four (a ∷ b ∷ c ∷ d ∷ xs) ≡ true → Counts q 1 (92 ∷ 117 ∷ a ∷ b ∷ c ∷ d ∷ [])
unicode_counts q a b c d xs low e = escape_counts q 117 (a ∷ b ∷ c ∷ d ∷ []) low (λ (bs : List ℕ). unicode_escapes (a ∷ b ∷ c ∷ d ∷ bs) ∙ e) refl

-- ---- all between two quotes

-- a literal's last bytes, with so many units in the literal
abbrev pub ended : ℕ → ℕ → ℕ → List ℕ → Lexemes → Lexemes
ended at q n w rest = cond (lacks_one_unit q n) (Err BadToken) (put (lexeme (literal_kind q) at w) rest)

glue_by : (lacks : Bool) (at to q : ℕ) (u w : List ℕ) (r : Lexemes)
    → glue at u (cond lacks (Err BadToken) (put (lexeme (literal_kind q) to w) r)) ≡ cond lacks (Err BadToken) (put (lexeme (literal_kind q) at (u ++ w)) r)
glue_by true at to q u w r = refl
glue_by false at to q u w r = glue_put (literal_kind q) at to u w r

pub glue_ended : (at to q n : ℕ) (u w : List ℕ) (r : Lexemes) → glue at u (ended to q n w r) ≡ ended at q n (u ++ w) r
glue_ended at to q n u w r = glue_by (lacks_one_unit q n) at to q u w r

-- these bytes before the last quote are so many units
abbrev pub Closes : ℕ → ℕ → List ℕ → Type 0
Closes q k inner =
    (at n : ℕ) (rest : List ℕ) → lexemes at (In q 0 n) (inner ++ q ∷ rest) ≡ ended at q (n + k) (inner ++ q ∷ []) (lexemes (at + length inner + 1) Outside rest)

closes_none : (q : ℕ) → Closes q 0 []
closes_none q at n rest =
    let place : at + 1 ≡ at + length {A = ℕ} [] + 1 = omega arith in
    let units : n ≡ n + 0 = omega arith in
    in_end at q n q rest (eq-eqb q q refl) ∙ rw (← units, ← place) refl

closes_more : (q j k l : ℕ) (u inner : List ℕ) → Counts q j u → Closes q k inner → j + k ≡ l → Closes q l (u ++ inner)
closes_more q j k l u inner counts closes sum at n rest =
    let units : n + j + k ≡ n + l = omega arith in
    let place : at + length u + length inner + 1 ≡ at + length (u ++ inner) + 1 = omega (arith, length-append u inner) in
    ap (lexemes at (In q 0 n)) (append_assoc u inner (q ∷ rest)) ∙ counts at n (inner ++ q ∷ rest) ∙ ap (glue at u) (closes (at + length u) (n + j) rest)
    ∙ glue_ended at (at + length u) q (n + j + k) u (inner ++ q ∷ []) (lexemes (at + length u + length inner + 1) Outside rest)
    ∙ rw (units, place, append_assoc u inner (q ∷ [])) refl

-- What writes units is read up to the last quote, and counts for these units.
pub closes : (q : ℕ) (us inner : List ℕ) → q < 92 → Writes q us inner → Closes q (length us) inner
closes q us inner low Nothing = closes_none q
closes q us inner low (One c vs bs s e f g h) =
    closes_more q (length (encode_utf16 c)) (length vs) (length (encode_utf16 c ++ vs)) (encode_utf8 c) bs (character_counts q c low e f g) (closes q vs bs low h) (sym (length-append (encode_utf16 c) vs))
closes q us inner low (Short b vs bs e f h) = closes_more q 1 (length vs) (suc (length vs)) (92 ∷ b ∷ []) bs (short_counts q b low e f) (closes q vs bs low h) (omega arith)
closes q us inner low (Unicode a b c d vs bs e h) =
    closes_more q 1 (length vs) (suc (length vs)) (92 ∷ 117 ∷ a ∷ b ∷ c ∷ d ∷ []) bs (unicode_counts q a b c d bs low e) (closes q vs bs low h) (omega arith)
