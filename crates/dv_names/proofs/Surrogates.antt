-- Units of UTF-16, one character after another.
use Rattle.std.proofs.Common.{◌≡◌, ℕ, ◌+◌, ◌<◌, ◌≤◌, Bool, true, false, ◌&&◌, cond, List, [], ◌∷◌, map, length, get_or, drop, Option, Some, None, ◌⊎◌, inl, inr, refl, sym, ap, ◌∙◌, arith}
use Rattle.std.specs.Str.{encode_utf8_all}
use Rattle.std.specs.Char.Utf16.{utf16_chars, surrogate_pair_char, lone_unit_char}
use Rattle.std.proofs.lemmas.List.{at_drop_more, at_drop_all, drop_more}
use Rattle.std.specs.Char.Utf16.{is_high_surrogate, is_low_surrogate}
use Rattle.std.specs.Option.{unwrap_or}

-- the character of a pair
abbrev pub pair_char : ℕ → ℕ → Option ℕ
pair_char high low = cond (is_high_surrogate high && is_low_surrogate low) (Some (surrogate_pair_char high low)) None

-- `?` for a surrogate
abbrev pub or_mark : Option ℕ → ℕ
or_mark c = unwrap_or c 63

abbrev pub lone_char : ℕ → ℕ
lone_char unit = or_mark (lone_unit_char unit)

-- the characters that units spell, with `?` for each surrogate that has no partner
abbrev pub spelled : List ℕ → List ℕ
spelled units = map or_mark (utf16_chars units)

-- their bytes, in std's words
abbrev pub text_of : List ℕ → List ℕ
text_of units = encode_utf8_all (spelled units)

pair_cases : (t : Bool) (p c : ℕ) (xs ys : List (Option ℕ)) → cond t (Some p) None ≡ Some c → map or_mark (cond t (Some p ∷ xs) ys) ≡ c ∷ map or_mark xs
pair_cases true p c xs ys e = let same : p ≡ c = cc in ap (λ z. z ∷ map or_mark xs) same
pair_cases false p c xs ys e = absurd (cc)

lone_cases : (t : Bool) (p : ℕ) (o : Option ℕ) (xs ys : List (Option ℕ)) → cond t (Some p) None ≡ None → map or_mark (cond t xs (o ∷ ys)) ≡ or_mark o ∷ map or_mark ys
lone_cases true p o xs ys e = absurd (cc)
lone_cases false p o xs ys e = refl

pub spelled_pair : (u v c : ℕ) (us : List ℕ) → pair_char u v ≡ Some c → spelled (u ∷ v ∷ us) ≡ c ∷ spelled us
unfolding utf16_chars
spelled_pair u v c us e = pair_cases _ (surrogate_pair_char u v) c (utf16_chars us) (lone_unit_char u ∷ utf16_chars (v ∷ us)) e

pub spelled_last : (u : ℕ) → spelled (u ∷ []) ≡ lone_char u ∷ spelled []
unfolding utf16_chars
spelled_last u = refl

pub spelled_alone : (u v : ℕ) (us : List ℕ) → pair_char u v ≡ None → spelled (u ∷ v ∷ us) ≡ lone_char u ∷ spelled (v ∷ us)
unfolding utf16_chars
spelled_alone u v us e = lone_cases _ (surrogate_pair_char u v) (lone_unit_char u) (Some (surrogate_pair_char u v) ∷ utf16_chars us) (utf16_chars (v ∷ us)) e

pub spelled_none : spelled [] ≡ []
unfolding utf16_chars
spelled_none = refl

module _ (units : List ℕ) (at : ℕ) where
  pub pair_at : (c : ℕ) → at + 1 < length units → pair_char (get_or units at 0) (get_or units (at + 1) 0) ≡ Some c → spelled (drop at units) ≡ c ∷ spelled (drop (at + 2) units)
  pair_at c lt e =
      let next : at + 1 + 1 ≡ at + 2 = omega arith in
      at_drop_more spelled units at 0 (omega arith) ∙ ap (λ l. spelled (get_or units at 0 ∷ l)) (drop_more units (at + 1) 0 lt)
      ∙ spelled_pair (get_or units at 0) (get_or units (at + 1) 0) c (drop (at + 1 + 1) units) e ∙ ap (λ i. c ∷ spelled (drop i units)) next

  alone_before : at + 1 < length units → pair_char (get_or units at 0) (get_or units (at + 1) 0) ≡ None → spelled (get_or units at 0 ∷ drop (at + 1) units) ≡ lone_char (get_or units at 0) ∷ spelled (drop (at + 1) units)
  alone_before lt e =
      let more = drop_more units (at + 1) 0 lt in
      ap (λ l. spelled (get_or units at 0 ∷ l)) more ∙ spelled_alone (get_or units at 0) (get_or units (at + 1) 0) (drop (at + 1 + 1) units) e
      ∙ ap (λ l. lone_char (get_or units at 0) ∷ spelled l) (sym more)

  alone_last : length units ≤ at + 1 → spelled (get_or units at 0 ∷ drop (at + 1) units) ≡ lone_char (get_or units at 0) ∷ spelled (drop (at + 1) units)
  alone_last le =
      at_drop_all (λ l. spelled (get_or units at 0 ∷ l)) units (at + 1) le ∙ spelled_last (get_or units at 0)
      ∙ sym (at_drop_all (λ l. lone_char (get_or units at 0) ∷ spelled l) units (at + 1) le)

  pub alone_at : at < length units → ((at + 1 < length units) × (pair_char (get_or units at 0) (get_or units (at + 1) 0) ≡ None)) ⊎ (length units ≤ at + 1)
      → spelled (drop at units) ≡ lone_char (get_or units at 0) ∷ spelled (drop (at + 1) units)
  alone_at lt (inl h) = at_drop_more spelled units at 0 lt ∙ alone_before h.0 h.1
  alone_at lt (inr le) = at_drop_more spelled units at 0 lt ∙ alone_last le
