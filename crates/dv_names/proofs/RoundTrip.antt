-- A text and its units are known by each other.
use Rattle.std.proofs.Common.{◌≡◌, ℕ, suc, ◌+◌, ◌-◌, ◌/◌, ◌%◌, ◌<◌, ◌≤◌, true, false, not, ◌&&◌, ltb, leb, List, [], ◌∷◌, ◌++◌, map, get_or, Option, Some, None, inl, inr, refl, sym, ap, ◌∙◌, arith}
use lib.Utf8.{scalar, scalars, scalar_cases, low_scalar}
use Rattle.std.specs.Option.{is_some}
use Rattle.std.specs.List.{flat_map, list_any}
use Rattle.std.specs.Str.{IsUtf8, chars, encode_utf8_all}
use Rattle.std.specs.Char.Escape.{encode_utf16}
use Rattle.std.specs.Char.Utf16.{utf16_chars, is_high_surrogate, is_low_surrogate, surrogate_pair_char, lone_unit_char, has_unpaired_surrogate}
use Rattle.std.proofs.str.Utf16.{IsPair}
use Rattle.std.proofs.lemmas.Bool.{cond-true, cond-false, and_parts, and_from, and_left, and_right, or_parts, le-leb, lt-leb, le-ltb, lt-ltb, leb-true, ltb-true, cases_lt, cases_Bool}
use Rattle.std.proofs.lemmas.Str.{utf16_chars_lone, utf16_chars_pair, encodes-chars, scalars-chars, chars-encodes}
use Rattle.dv_names.specs.Units.{units_of}
use Rattle.dv_names.proofs.Surrogates.{or_mark, pair_char, lone_char, spelled, text_of, spelled_pair, spelled_alone, spelled_last, spelled_none}

-- ---- units without pairs

pub lone_low : (u : ℕ) → u < 0xD800 → lone_unit_char u ≡ Some u
lone_low u lt = cond-false (leb 0xD800 u && ltb u 0xE000) None (Some u) (and_left (leb 0xD800 u) (ltb u 0xE000) (lt-leb 0xD800 u lt))

pub lone_high : (u : ℕ) → 0xE000 ≤ u → lone_unit_char u ≡ Some u
lone_high u le = cond-false (leb 0xD800 u && ltb u 0xE000) None (Some u) (and_right (leb 0xD800 u) (ltb u 0xE000) (le-ltb u 0xE000 le))

pub lone_surrogate : (u : ℕ) → 0xD800 ≤ u → u < 0xE000 → lone_unit_char u ≡ None
lone_surrogate u le lt = cond-true (leb 0xD800 u && ltb u 0xE000) None (Some u) (and_from (leb 0xD800 u) (ltb u 0xE000) (le-leb 0xD800 u le) (lt-ltb u 0xE000 lt))

one_unit : (c : ℕ) → c < 0x1_0000 → encode_utf16 c ≡ c ∷ []
one_unit c lt = cond-true (ltb c 0x1_0000) _ _ (lt-ltb c 0x1_0000 lt)

two_units : (c : ℕ) → 0x1_0000 ≤ c → encode_utf16 c ≡ (0xD800 + (c - 0x1_0000) / 0x400) ∷ (0xDC00 + (c - 0x1_0000) % 0x400) ∷ []
two_units c le = cond-false (ltb c 0x1_0000) _ _ (le-ltb c 0x1_0000 le)

-- ---- from characters to units and back

low_char : (c : ℕ) (us : List ℕ) → scalar c ≡ true → c < 0x1_0000 → utf16_chars (encode_utf16 c ++ us) ≡ Some c ∷ utf16_chars us
low_char c us s lt =
    let range = scalar_cases c s in
    let apart : IsPair c (get_or us 0 0) → ⊥ = λ pair. elim range [ inl h ↦ omega (arith, pair) | inr h ↦ omega (arith, pair) ] in
    let lone : lone_unit_char c ≡ Some c = elim range [ inl h ↦ lone_low c h | inr h ↦ lone_high c h.0 ] in
    ap (λ l. utf16_chars (l ++ us)) (one_unit c lt) ∙ utf16_chars_lone c us apart ∙ ap (λ o. o ∷ utf16_chars us) lone

high_char : (c : ℕ) (us : List ℕ) → c < 0x11_0000 → 0x1_0000 ≤ c → utf16_chars (encode_utf16 c ++ us) ≡ Some c ∷ utf16_chars us
high_char c us lt le =
    let high = 0xD800 + (c - 0x1_0000) / 0x400 in
    let low = 0xDC00 + (c - 0x1_0000) % 0x400 in
    let same : surrogate_pair_char high low ≡ c = omega arith in
    ap (λ l. utf16_chars (l ++ us)) (two_units c le) ∙ utf16_chars_pair high low us (omega arith, omega arith, omega arith, omega arith) ∙ ap (λ x. Some x ∷ utf16_chars us) same

one_char : (c : ℕ) (us : List ℕ) → scalar c ≡ true → utf16_chars (encode_utf16 c ++ us) ≡ Some c ∷ utf16_chars us
one_char c us s =
    elim (cases_lt c 0x1_0000) [
      | inl lt ↦ low_char c us s lt
      | inr le ↦ high_char c us (elim (scalar_cases c s) [ inl h ↦ omega arith | inr h ↦ h.1 ]) le
    ]

all_chars : (cs : List ℕ) → scalars cs ≡ true → spelled (flat_map encode_utf16 cs) ≡ cs
all_chars [] s = spelled_none
all_chars (c ∷ cs) s =
    let parts = and_parts (scalar c) (scalars cs) s in
    ap (map or_mark) (one_char c (flat_map encode_utf16 cs) parts.0) ∙ ap (λ l. c ∷ l) (all_chars cs parts.1)

pub text_back : (text : List ℕ) → IsUtf8 text → text_of (units_of text) ≡ text
text_back text utf8 = ap encode_utf8_all (all_chars (chars text) (scalars-chars text utf8)) ∙ encodes-chars text utf8

-- ---- what units spell is text

-- each is a number of 16 bits
abbrev pub Are16 : List ℕ → Type 0
Are16 units = (k : ℕ) → get_or units k 0 < 0x1_0000

is_pair : (u v c : ℕ) → pair_char u v ≡ Some c → IsPair u v × (surrogate_pair_char u v ≡ c)
is_pair u v c e =
    elim (cases_Bool (is_high_surrogate u && is_low_surrogate v)) [
      | inl is ↦
          let both = and_parts (is_high_surrogate u) (is_low_surrogate v) is in
          let high = and_parts (leb 0xD800 u) (ltb u 0xDC00) both.0 in
          let low = and_parts (leb 0xDC00 v) (ltb v 0xE000) both.1 in
          let same : Some (surrogate_pair_char u v) ≡ Some c = sym (cond-true (is_high_surrogate u && is_low_surrogate v) (Some (surrogate_pair_char u v)) None is) ∙ e in
          ((leb-true 0xD800 u high.0, ltb-true u 0xDC00 high.1, leb-true 0xDC00 v low.0, ltb-true v 0xE000 low.1), cc)
      | inr other ↦
          let clash : None ≡ Some c = sym (cond-false (is_high_surrogate u && is_low_surrogate v) (Some (surrogate_pair_char u v)) None other) ∙ e in
          absurd (cc)
    ]

scalar_from : (c : ℕ) → 0xE000 ≤ c → c < 0x11_0000 → scalar c ≡ true
scalar_from c le lt = cond-false (ltb c 0xD800) true _ (le-ltb c 0xD800 (omega arith)) ∙ and_from (leb 0xE000 c) (ltb c 0x11_0000) (le-leb 0xE000 c le) (lt-ltb c 0x11_0000 lt)

scalar_lone : (u : ℕ) → u < 0x1_0000 → scalar (lone_char u) ≡ true
scalar_lone u fits =
    elim (cases_lt u 0xD800) [
      | inl low ↦ ap (λ o. scalar (or_mark o)) (lone_low u low) ∙ low_scalar u low
      | inr le ↦ elim (cases_lt u 0xE000) [
        | inl lt ↦ ap (λ o. scalar (or_mark o)) (lone_surrogate u le lt)
        | inr high ↦ ap (λ o. scalar (or_mark o)) (lone_high u high) ∙ scalar_from u high (omega arith)
      ]
    ]

scalar_pair : (u v c : ℕ) → pair_char u v ≡ Some c → scalar c ≡ true
scalar_pair u v c e = let p = is_pair u v c e in let pair = p.0 in ap scalar (sym p.1) ∙ scalar_from (surrogate_pair_char u v) (omega (arith, pair)) (omega (arith, pair))

scalars_by : (u v : ℕ) (us : List ℕ) (o : Option ℕ) → pair_char u v ≡ o → u < 0x1_0000 → scalars (spelled us) ≡ true → scalars (spelled (v ∷ us)) ≡ true → scalars (spelled (u ∷ v ∷ us)) ≡ true
scalars_by u v us (Some c) is fits behind next = ap scalars (spelled_pair u v c us is) ∙ and_from (scalar c) (scalars (spelled us)) (scalar_pair u v c is) behind
scalars_by u v us None is fits behind next = ap scalars (spelled_alone u v us is) ∙ and_from (scalar (lone_char u)) (scalars (spelled (v ∷ us))) (scalar_lone u fits) next

scalars_spelled : (units : List ℕ) → Are16 units → scalars (spelled units) ≡ true
scalars_spelled [] fit = ap scalars spelled_none
scalars_spelled (u ∷ []) fit = ap scalars (spelled_last u ∙ ap (λ l. lone_char u ∷ l) spelled_none) ∙ and_from (scalar (lone_char u)) true (scalar_lone u (fit 0)) refl
scalars_spelled (u ∷ v ∷ us) fit =
    scalars_by u v us (pair_char u v) refl (fit 0) (scalars_spelled us (λ k. fit (suc (suc k)))) (scalars_spelled (v ∷ us) (λ k. fit (suc k)))

pub text_utf8 : (units : List ℕ) → Are16 units → IsUtf8 (text_of units)
text_utf8 units fit = (spelled units, (scalars_spelled units fit, refl))

-- ---- from units without lone surrogates to a text and back

lone_is : (u : ℕ) → not (is_some (lone_unit_char u)) ≡ false → lone_char u ≡ u
lone_is u some =
    elim (cases_lt u 0xD800) [
      | inl low ↦ ap or_mark (lone_low u low)
      | inr le ↦ elim (cases_lt u 0xE000) [
        | inl lt ↦ (let clash : true ≡ false = sym (ap (λ o. not (is_some o)) (lone_surrogate u le lt)) ∙ some in absurd (cc))
        | inr high ↦ ap or_mark (lone_high u high)
      ]
    ]

pair_units : (u v c : ℕ) → pair_char u v ≡ Some c → encode_utf16 c ≡ u ∷ v ∷ []
pair_units u v c e =
    let p = is_pair u v c e in
    let pair = p.0 in
    let high : 0xD800 + (surrogate_pair_char u v - 0x1_0000) / 0x400 ≡ u = omega (arith, pair) in
    let low : 0xDC00 + (surrogate_pair_char u v - 0x1_0000) % 0x400 ≡ v = omega (arith, pair) in
    ap encode_utf16 (sym p.1) ∙ two_units (surrogate_pair_char u v) (omega arith) ∙ (λ i. high i ∷ low i ∷ [])

-- the units of what these units spell, where no surrogate is alone
abbrev Back : List ℕ → Type 0
Back units = has_unpaired_surrogate units ≡ false → flat_map encode_utf16 (spelled units) ≡ units

not_pair : (u v : ℕ) → pair_char u v ≡ None → IsPair u v → ⊥
not_pair u v e pair =
    let high = and_from (leb 0xD800 u) (ltb u 0xDC00) (le-leb 0xD800 u pair.0) (lt-ltb u 0xDC00 pair.1) in
    let low = and_from (leb 0xDC00 v) (ltb v 0xE000) (le-leb 0xDC00 v pair.2) (lt-ltb v 0xE000 pair.3) in
    let clash : Some (surrogate_pair_char u v) ≡ None = sym (cond-true (is_high_surrogate u && is_low_surrogate v) (Some (surrogate_pair_char u v)) None (and_from _ _ high low)) ∙ e in
    absurd (cc)

alone_back : (u : ℕ) (rest : List ℕ) → u < 0x1_0000 → utf16_chars (u ∷ rest) ≡ lone_unit_char u ∷ utf16_chars rest → Back rest → Back (u ∷ rest)
alone_back u rest fits is ih none =
    let parts = or_parts (not (is_some (lone_unit_char u))) (has_unpaired_surrogate rest) (sym (ap (list_any (λ o. not (is_some o))) is) ∙ none) in
    ap (λ l. flat_map encode_utf16 (map or_mark l)) is
    ∙ ap (λ x. encode_utf16 x ++ flat_map encode_utf16 (spelled rest)) (lone_is u parts.0)
    ∙ ap (λ l. l ++ flat_map encode_utf16 (spelled rest)) (one_unit u fits) ∙ ap (λ l. u ∷ l) (ih parts.1)

pair_back : (u v c : ℕ) (us : List ℕ) → pair_char u v ≡ Some c → Back us → Back (u ∷ v ∷ us)
pair_back u v c us e ih none =
    let p = is_pair u v c e in
    let is = utf16_chars_pair u v us p.0 in
    let behind = sym (ap (list_any (λ o. not (is_some o))) is) ∙ none in
    ap (flat_map encode_utf16) (spelled_pair u v c us e) ∙ ap (λ l. l ++ flat_map encode_utf16 (spelled us)) (pair_units u v c e) ∙ ap (λ l. u ∷ v ∷ l) (ih behind)

back_by : (u v : ℕ) (us : List ℕ) (o : Option ℕ) → pair_char u v ≡ o → u < 0x1_0000 → Back us → Back (v ∷ us) → Back (u ∷ v ∷ us)
back_by u v us (Some c) e fits behind next = pair_back u v c us e behind
back_by u v us None e fits behind next = alone_back u (v ∷ us) fits (utf16_chars_lone u (v ∷ us) (not_pair u v e)) next

back : (units : List ℕ) → Are16 units → Back units
back [] fit none = ap (flat_map encode_utf16) spelled_none
back (u ∷ []) fit none = alone_back u [] (fit 0) (utf16_chars_lone u [] (λ pair. omega (arith, pair.2))) (back [] (λ k. fit (suc k))) none
back (u ∷ v ∷ us) fit none = back_by u v us (pair_char u v) refl (fit 0) (back us (λ k. fit (suc (suc k)))) (back (v ∷ us) (λ k. fit (suc k))) none

pub units_back : (units : List ℕ) → Are16 units → has_unpaired_surrogate units ≡ false → units_of (text_of units) ≡ units
units_back units fit none = ap (flat_map encode_utf16) (chars-encodes (spelled units) (scalars_spelled units fit)) ∙ back units fit none
