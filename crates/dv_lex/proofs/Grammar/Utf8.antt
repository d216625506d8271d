-- UTF-8 behind a character, a word and a literal, and in them.
use Rattle.std.proofs.Common.{◌≡◌, ℕ, ◌+◌, ◌<◌, ◌≤◌, true, false, List, [], ◌∷◌, ◌++◌, length, refl, sym, ap, ◌∙◌, append-nil, append_assoc, arith, inl, inr, take_at, drop_at, length-append, lit<, ◌&&◌}
use Rattle.std.specs.Char.{IsScalar, encode_utf8}
use Rattle.std.specs.Str.{IsUtf8, encode_utf8_all}
use Rattle.std.proofs.Math.Utf8.{scalar, scalars, low_scalar}
use Rattle.std.proofs.lemmas.Bool.{cases_lt, and_parts, true≢false}
use Rattle.std.proofs.lemmas.Bool.Decides.{nat_tests}
use Rattle.std.proofs.lemmas.List.{get_or_at}
use Rattle.std.proofs.lemmas.Str.{encode_ascii, IsUtf8-past_char, IsUtf8-nil, IsUtf8-encode, IsUtf8-append, IsUtf8-take, IsUtf8-drop, IsCharBoundary-before_ascii, length-encode, len_utf8_bounds}
use Rattle.dv_lex.specs.Bytes.{byte_class, is_plain, is_hexadecimal, is_short, begins_with_four}
use Rattle.dv_lex.specs.Lexemes.{begins_plain}
use Rattle.dv_lex.specs.Literals.{Writes, IsLiteral, Nothing, One, Short, Unicode}

-- ---- characters

pub past_ascii : (b : ℕ) (bs : List ℕ) → b < 128 → IsUtf8 (b ∷ bs) → IsUtf8 bs
past_ascii b bs lt u = IsUtf8-past_char (b ∷ bs) bs b u (ap (λ (x : List ℕ). x ++ bs) (sym (encode_ascii b lt)))

pub before_ascii : (b : ℕ) (bs : List ℕ) → b < 128 → IsUtf8 bs → IsUtf8 (b ∷ bs)
before_ascii b bs lt u = IsUtf8-append (b ∷ []) bs (rw (encode_ascii b lt) at (IsUtf8-encode b (low_scalar b (omega arith)))) u

-- the first character of a text that is not empty
pub record First (bs : List ℕ) : Type 0 where
  pub char : ℕ
  pub rest : List ℕ
  pub scalar : IsScalar char
  pub split : bs ≡ encode_utf8 char ++ rest
  pub utf8 : IsUtf8 rest

first_of : (b : ℕ) (bs cs : List ℕ) → scalars cs ≡ true → encode_utf8_all cs ≡ b ∷ bs → First (b ∷ bs)
first_of b bs [] s e = absurd cc
first_of b bs (c ∷ cs) s e =
    let p = and_parts (scalar c) (scalars cs) s in
    record { char = c; rest = encode_utf8_all cs; scalar = p.0; split = sym e; utf8 = (cs, (p.1, refl)) }

pub first : (b : ℕ) (bs : List ℕ) → IsUtf8 (b ∷ bs) → First (b ∷ bs)
first b bs u = first_of b bs u.0 u.1.0 u.1.1

-- what is behind the first character is shorter
pub rest_shorter : (bs rest : List ℕ) (c n : ℕ) → bs ≡ encode_utf8 c ++ rest → length bs ≤ n + 1 → length rest ≤ n
rest_shorter bs rest c n e le = omega (arith, ap length e, length-append (encode_utf8 c) rest, length-encode c, (len_utf8_bounds c).0)

-- what is behind a text in a text is a text
behind_all : (cs ys : List ℕ) → IsUtf8 (encode_utf8_all cs ++ ys) → IsUtf8 ys
behind_all [] ys u = u
behind_all (c ∷ cs) ys u =
    behind_all cs ys (IsUtf8-past_char (encode_utf8_all (c ∷ cs) ++ ys) (encode_utf8_all cs ++ ys) c u (append_assoc (encode_utf8 c) (encode_utf8_all cs) ys))

pub behind_text : (xs ys : List ℕ) → IsUtf8 xs → IsUtf8 (xs ++ ys) → IsUtf8 ys
behind_text xs ys x u = behind_all x.0 ys (rw (← x.1.1) at u)

-- ---- words

high_plain : (b : ℕ) → 128 ≤ b → is_plain b ≡ true
unfolding byte_class
high_plain b le = grind (arith, nat_tests)

pub other_small : (b : ℕ) → is_plain b ≡ false → b < 128
other_small b e = elim (cases_lt b 128) [ inl lt ↦ lt | inr le ↦ absurd (true≢false (sym (high_plain b le) ∙ e)) ]

-- a word ends where a character ends
pub word_parts : (w rest : List ℕ) → begins_plain rest ≡ false → IsUtf8 (w ++ rest) → IsUtf8 w × IsUtf8 rest
word_parts w [] e u = (rw (append-nil w) at u, IsUtf8-nil)
word_parts w (b ∷ bs) e u =
    let small = other_small b e in
    let inside : length w < length (w ++ b ∷ bs) = omega (arith, length-append w (b ∷ bs)) in
    let here = get_or_at w b bs 0 (length w) refl in
    let cut = IsCharBoundary-before_ascii (w ++ b ∷ bs) (length w) inside (rw here small) in
    (rw (take_at w (b ∷ bs) (length w) refl) at (IsUtf8-take (w ++ b ∷ bs) (length w) u cut), rw (drop_at w (b ∷ bs) (length w) refl) at (IsUtf8-drop (w ++ b ∷ bs) (length w) u cut))

-- ---- literals

pub hexadecimal_small : (b : ℕ) → is_hexadecimal b ≡ true → b < 128
hexadecimal_small b e = elim (cases_lt b 128) [ inl lt ↦ lt | inr le ↦ absurd (grind (arith, nat_tests)) ]

pub short_small : (b : ℕ) → is_short b ≡ true → b < 128
short_small b e = elim (cases_lt b 128) [ inl lt ↦ lt | inr le ↦ absurd (grind (arith, nat_tests)) ]

-- four hexadecimal digits
pub record Digits (a b c d : ℕ) : Type 0 where
  pub first : a < 128
  pub second : b < 128
  pub third : c < 128
  pub fourth : d < 128

pub four_small : (a b c d : ℕ) (bs : List ℕ) → begins_with_four (a ∷ b ∷ c ∷ d ∷ bs) ≡ true → Digits a b c d
four_small a b c d bs e =
    let p3 = and_parts (is_hexadecimal a && is_hexadecimal b && is_hexadecimal c) (is_hexadecimal d) e in
    let p2 = and_parts (is_hexadecimal a && is_hexadecimal b) (is_hexadecimal c) p3.0 in
    let p1 = and_parts (is_hexadecimal a) (is_hexadecimal b) p2.0 in
    record { first = hexadecimal_small a p1.0; second = hexadecimal_small b p1.1; third = hexadecimal_small c p2.1; fourth = hexadecimal_small d p3.1 }

-- what writes units is a text
pub writes_text : (q : ℕ) (us bs : List ℕ) → Writes q us bs → IsUtf8 bs
writes_text q us bs Nothing = IsUtf8-nil
writes_text q us bs (One c vs ds s e f g h) = IsUtf8-append (encode_utf8 c) ds (IsUtf8-encode c s) (writes_text q vs ds h)
writes_text q us bs (Short b vs ds e f h) = before_ascii 92 (b ∷ ds) (lit< tt) (before_ascii b ds (short_small b f) (writes_text q vs ds h))
writes_text q us bs (Unicode a b c d vs ds e h) =
    let s = four_small a b c d ds e in
    before_ascii 92 (117 ∷ a ∷ b ∷ c ∷ d ∷ ds) (lit< tt) (before_ascii 117 (a ∷ b ∷ c ∷ d ∷ ds) (lit< tt) (before_ascii a (b ∷ c ∷ d ∷ ds) s.first
    (before_ascii b (c ∷ d ∷ ds) s.second (before_ascii c (d ∷ ds) s.third (before_ascii d ds s.fourth (writes_text q vs ds h))))))

pub literal_text : (q : ℕ) (us w : List ℕ) → q < 128 → IsLiteral q us w → IsUtf8 w
literal_text q us w lt h =
    rw h.quoted (before_ascii q (h.inner ++ q ∷ []) lt (IsUtf8-append h.inner (q ∷ []) (writes_text q us h.inner h.writes) (before_ascii q [] lt IsUtf8-nil)))
