-- The bytes of units, as the definitions have them, are those in std's words.
use Rattle.std.proofs.Common.{◌≡◌, ℕ, ◌/◌, ◌<◌, ◌≤◌, Bool, true, false, cond, nat_eq, nat_lt, List, [], ◌∷◌, ◌++◌, map, get_or, Option, Some, None, ◌⊎◌, inl, inr, refl, sym, ap, ◌∙◌, arith}
use lib.Utf8.{encode as encode_utf8}
use Rattle.std.specs.Str.{encode_utf8_all}
use Rattle.std.specs.Char.Utf16.{utf16_chars, lone_unit_char, surrogate_pair_char}
use Rattle.std.proofs.str.Utf16.{IsPair}
use Rattle.std.proofs.lemmas.Bool.{eqb-true, eqb-false, cases_lt}
use Rattle.std.proofs.lemmas.Str.{utf16_chars_lone, utf16_chars_pair}
use Rattle.dv_defs.specs.Texts.{UnitKind, Alone, First, Second, encoded, kind_of_unit, paired, utf8, utf8_after}
use Rattle.dv_names.proofs.Surrogates.{or_mark, text_of}
use Rattle.dv_names.proofs.RoundTrip.{lone_low, lone_high, lone_surrogate}

-- ---- one character

by_size : (a b c : Bool) (w x y z : List ℕ) → (elim a [ true ↦ w | false ↦ elim b [ true ↦ x | false ↦ elim c [ true ↦ y | false ↦ z ] ] ]) ≡ cond a w (cond b x (cond c y z))
by_size true b c w x y z = refl
by_size false true c w x y z = refl
by_size false false true w x y z = refl
by_size false false false w x y z = refl

pub encoded_is : (c : ℕ) → encoded c ≡ encode_utf8 c
unfolding encode_utf8
encoded_is c = by_size (nat_lt c 128) (nat_lt c 2048) (nat_lt c 65536) _ _ _ _

-- ---- the kinds of units, as ranges

abbrev IsOf : UnitKind → ℕ → Type 0
IsOf Alone u = (u < 0xD800) ⊎ (0xE000 ≤ u)
IsOf First u = (0xD800 ≤ u) × (u < 0xDC00)
IsOf Second u = (0xDC00 ≤ u) × (u < 0xE000)

abbrev kind_by : Bool → Bool → UnitKind
kind_by first second = elim first [ true ↦ First | false ↦ elim second [ true ↦ Second | false ↦ Alone ] ]

other : (u : ℕ) → (u / 1024 ≡ 54 → ⊥) → (u / 1024 ≡ 55 → ⊥) → (u < 0xD800) ⊎ (0xE000 ≤ u)
other u no_first no_second = elim (cases_lt u 0xD800) [ inl low ↦ inl low | inr le ↦ elim (cases_lt u 0xE000) [ inl lt ↦ absurd (elim (cases_lt u 0xDC00) [ inl h ↦ no_first (omega arith) | inr h ↦ no_second (omega arith) ]) | inr high ↦ inr high ] ]

range_by : (u : ℕ) (f s : Bool) → nat_eq (u / 1024) 54 ≡ f → nat_eq (u / 1024) 55 ≡ s → IsOf (kind_by f s) u
range_by u true s is_first is_second = let e = eqb-true (u / 1024) 54 is_first in (omega arith, omega arith)
range_by u false true is_first is_second = let e = eqb-true (u / 1024) 55 is_second in (omega arith, omega arith)
range_by u false false is_first is_second = other u (eqb-false (u / 1024) 54 is_first) (eqb-false (u / 1024) 55 is_second)

range_of : (u : ℕ) → IsOf (kind_of_unit u) u
range_of u = range_by u _ _ refl refl

-- ---- one unit, or a pair

abbrev chars_text : List (Option ℕ) → List ℕ
chars_text cs = encode_utf8_all (map or_mark cs)

-- a surrogate without its partner
mark : (u : ℕ) (us : List ℕ) → 0xD800 ≤ u → u < 0xE000 → (IsPair u (get_or us 0 0) → ⊥) → text_of (u ∷ us) ≡ 63 ∷ text_of us
unfolding encode_utf8
mark u us le lt apart = ap chars_text (utf16_chars_lone u us apart ∙ ap (λ o. o ∷ utf16_chars us) (lone_surrogate u le lt))

-- no surrogate
own : (u : ℕ) (us : List ℕ) → IsOf Alone u → text_of (u ∷ us) ≡ encoded u ++ text_of us
own u us range =
    let apart : IsPair u (get_or us 0 0) → ⊥ = λ pair. elim range [ inl h ↦ omega (arith, pair) | inr h ↦ omega (arith, pair) ] in
    let lone : lone_unit_char u ≡ Some u = elim range [ inl h ↦ lone_low u h | inr h ↦ lone_high u h ] in
    ap chars_text (utf16_chars_lone u us apart ∙ ap (λ o. o ∷ utf16_chars us) lone) ∙ ap (λ bs. bs ++ text_of us) (sym (encoded_is u))

two : (u v : ℕ) (us : List ℕ) → IsOf First u → IsOf Second v → text_of (u ∷ v ∷ us) ≡ encoded (paired u v) ++ text_of us
two u v us first second =
    let same : surrogate_pair_char u v ≡ paired u v = omega arith in
    ap chars_text (utf16_chars_pair u v us (first.0, first.1, second.0, second.1) ∙ ap (λ c. Some c ∷ utf16_chars us) same) ∙ ap (λ bs. bs ++ text_of us) (sym (encoded_is (paired u v)))

-- ---- all units

-- what is claimed of units, and of those behind the first of a pair
abbrev IsTied : List ℕ → Type 0
IsTied us = (utf8_after None us ≡ text_of us) × ((first : ℕ) → IsOf First first → utf8_after (Some first) us ≡ text_of (first ∷ us))

from_here : (kind : UnitKind) (u : ℕ) (us : List ℕ) → IsOf kind u → IsTied us
    → elim kind [ Alone ↦ encoded u ++ utf8_after None us | First ↦ utf8_after (Some u) us | Second ↦ 63 ∷ utf8_after None us ] ≡ text_of (u ∷ us)
from_here Alone u us range rest = ap (λ bs. encoded u ++ bs) rest.0 ∙ sym (own u us range)
from_here First u us range rest = rest.1 u range
from_here Second u us range rest = ap (λ bs. 63 ∷ bs) rest.0 ∙ sym (mark u us (omega arith) range.1 (λ pair. omega (arith, pair)))

behind_first : (kind : UnitKind) (first u : ℕ) (us : List ℕ) → IsOf First first → IsOf kind u → IsTied us
    → elim kind [ Alone ↦ 63 ∷ encoded u ++ utf8_after None us | First ↦ 63 ∷ utf8_after (Some u) us | Second ↦ encoded (paired first u) ++ utf8_after None us ] ≡ text_of (first ∷ u ∷ us)
behind_first Alone first u us is range rest =
    ap (λ bs. 63 ∷ bs) (from_here Alone u us range rest) ∙ sym (mark first (u ∷ us) is.0 (omega arith) (λ pair. elim range [ inl h ↦ omega (arith, pair) | inr h ↦ omega (arith, pair) ]))
behind_first First first u us is range rest =
    ap (λ bs. 63 ∷ bs) (rest.1 u range) ∙ sym (mark first (u ∷ us) is.0 (omega arith) (λ pair. omega (arith, pair, range)))
behind_first Second first u us is range rest = ap (λ bs. encoded (paired first u) ++ bs) rest.0 ∙ sym (two first u us is range)

tied : (us : List ℕ) → IsTied us
unfolding utf16_chars
tied [] = (refl, λ first is. sym (mark first [] is.0 (omega arith) (λ pair. omega (arith, pair.2))))
tied (u ∷ us) =
    let rest = tied us in
    (from_here (kind_of_unit u) u us (range_of u) rest, λ first is. behind_first (kind_of_unit u) first u us is (range_of u) rest)

pub utf8_is : (us : List ℕ) → utf8 us ≡ text_of us
utf8_is us = (tied us).0
