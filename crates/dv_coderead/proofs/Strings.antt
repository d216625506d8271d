-- A string literal is read as the units that it is written with.
use Rattle.std.proofs.Common.{◌≡◌, ℕ, ◌-◌, ◌<◌, ◌==◌, false, List, [], ◌∷◌, ◌++◌, length, take, drop, encode_utf8, refl, sym, ap, ◌∙◌, arith, lit<}
use Rattle.std.specs.Char.Escape.{encode_utf16}
use Rattle.std.specs.Str.{chars, IsUtf8}
use Rattle.std.proofs.lemmas.Str.{chars-nil, chars_past_char, encode_ascii, IsUtf8-append, IsUtf8-encode}
use Rattle.dv_lex.specs.Literals.{Writes, Nothing, One, Short, Unicode, IsString, four_value, short_unit}
use Rattle.dv_lex.proofs.Grammar.Utf8.{before_ascii, four_small, short_small, writes_text}
use Rattle.dv_lex.proofs.Literals.Fronts.{inner_is}
use Rattle.dv_coderead.specs.Words.{string_of, units_of}

-- an ASCII byte is a character
ascii : (b : ℕ) (bs cs : List ℕ) → b < 128 → IsUtf8 bs → chars bs ≡ cs → chars (b ∷ bs) ≡ b ∷ cs
ascii b bs cs lt u e = chars_past_char (b ∷ bs) bs b (before_ascii b bs lt u) (ap (λ (l : List ℕ). l ++ bs) (sym (encode_ascii b lt))) ∙ ap (λ l. b ∷ l) e

-- the units of a character, and of those behind it
one_unit : (c : ℕ) (cs : List ℕ) → (c == 92) ≡ false → units_of 0 (c ∷ cs) ≡ encode_utf16 c ++ units_of 0 cs
unfolding units_of
one_unit c cs apart = rw apart refl

short_units : (b : ℕ) (cs : List ℕ) → (b == 117) ≡ false → units_of 0 (92 ∷ b ∷ cs) ≡ short_unit b ∷ units_of 0 cs
unfolding units_of
short_units b cs no_u = rw no_u refl

unicode_units : (a b c d : ℕ) (cs : List ℕ) → units_of 0 (92 ∷ 117 ∷ a ∷ b ∷ c ∷ d ∷ cs) ≡ four_value a b c d ∷ units_of 0 cs
unfolding units_of
unicode_units a b c d cs = refl

no_units : units_of 0 [] ≡ []
unfolding units_of
no_units = refl

pub written : {q : ℕ} {us bs : List ℕ} → Writes q us bs → units_of 0 (chars bs) ≡ us
written Nothing = ap (units_of 0) chars-nil ∙ no_units
written {q} (One c us bs scalar no_quote no_control no_slash w) =
    let text = IsUtf8-append (encode_utf8 c) bs (IsUtf8-encode c scalar) (writes_text q us bs w) in
    ap (units_of 0) (chars_past_char (encode_utf8 c ++ bs) bs c text refl) ∙ one_unit c (chars bs) no_slash ∙ ap (λ l. encode_utf16 c ++ l) (written w)
written {q} (Short b us bs no_u is w) =
    let text = writes_text q us bs w in
    let small = short_small b is in
    let front = ascii 92 (b ∷ bs) (b ∷ chars bs) (lit< tt) (before_ascii b bs small text) (ascii b bs (chars bs) small text refl) in
    ap (units_of 0) front ∙ short_units b (chars bs) no_u ∙ ap (λ l. short_unit b ∷ l) (written w)
written {q} (Unicode a b c d us bs four w) =
    let small = four_small a b c d bs four in
    let u0 = writes_text q us bs w in
    let u1 = before_ascii d bs small.fourth u0 in
    let u2 = before_ascii c (d ∷ bs) small.third u1 in
    let u3 = before_ascii b (c ∷ d ∷ bs) small.second u2 in
    let u4 = before_ascii a (b ∷ c ∷ d ∷ bs) small.first u3 in
    let u5 = before_ascii 117 (a ∷ b ∷ c ∷ d ∷ bs) (lit< tt) u4 in
    let cs = chars bs in
    let e1 = ascii d bs cs small.fourth u0 refl in
    let e2 = ascii c (d ∷ bs) (d ∷ cs) small.third u1 e1 in
    let e3 = ascii b (c ∷ d ∷ bs) (c ∷ d ∷ cs) small.second u2 e2 in
    let e4 = ascii a (b ∷ c ∷ d ∷ bs) (b ∷ c ∷ d ∷ cs) small.first u3 e3 in
    let e5 = ascii 117 (a ∷ b ∷ c ∷ d ∷ bs) (a ∷ b ∷ c ∷ d ∷ cs) (lit< tt) u4 e4 in
    let e6 = ascii 92 (117 ∷ a ∷ b ∷ c ∷ d ∷ bs) (117 ∷ a ∷ b ∷ c ∷ d ∷ cs) (lit< tt) u5 e5 in
    ap (units_of 0) e6 ∙ unicode_units a b c d cs ∙ ap (λ l. four_value a b c d ∷ l) (written w)

-- two less is one less, twice
two_less : (n : ℕ) → n - 2 ≡ n - 1 - 1
two_less n = omega arith

pub string_written : (units text : List ℕ) → IsString units text → string_of text ≡ units
string_written units text is =
    let inside : take (length text - 2) (drop 1 text) ≡ is.inner = ap (λ n. take n (drop 1 text)) (two_less (length text)) ∙ inner_is 34 units text is in
    ap (λ l. units_of 0 (chars l)) inside ∙ written is.writes
