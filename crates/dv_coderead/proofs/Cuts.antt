-- Texts that are cut at a byte or at an arrow.
use Rattle.std.proofs.Common.{◌≡◌, ℕ, ◌+◌, ◌-◌, ◌<◌, ◌≤◌, Bool, true, false, eqb, List, [], ◌∷◌, ◌++◌, length, get_or, take, drop, Option, Some, None, refl, sym, ap, ◌∙◌, arith}
use Rattle.std.specs.Prelude.{not, ◌&&◌}
use Rattle.std.proofs.lemmas.Bool.{and_parts, and_from, cond-true, cond-false, eq-eqb, ne_eqb}
use Rattle.std.proofs.lemmas.List.{append-nil, append_assoc, at_drop_more, at_drop_all, take_all, take_more, take-append-drop, drop_more, length-drop, drop-drop}
use Rattle.dv_coderead.specs.Words.{begins_with}
use Rattle.dv_coderead.specs.References.{cut_at, cut_at_arrow, with_byte}
use Rattle.dv_coderead.proofs.Lacking.{lacks}

pub not_true : (t : Bool) → not t ≡ true → t ≡ false
not_true true e = absurd (cc)
not_true false e = refl

-- behind a text that lacks the byte
pub cut_lacking : (c : ℕ) (w rest : List ℕ) → lacks c w ≡ true → cut_at c (w ++ c ∷ rest) ≡ Some (w, rest)
unfolding cut_at
cut_lacking c [] rest none = cond-true (eqb c c) _ _ (eq-eqb c c refl)
cut_lacking c (b ∷ w) rest none =
    let p = and_parts _ _ none in
    cond-false (eqb b c) _ _ (not_true (eqb b c) p.0) ∙ ap (with_byte b) (cut_lacking c w rest p.1)

-- the rest of a list, as a range of it
pub rest_range : {X : Type 0} (xs : List X) (n : ℕ) → take (length xs - n) (drop n xs) ≡ drop n xs
rest_range xs n = take_all (length xs - n) (drop n xs) (omega (arith, length-drop n xs))

-- ---- from a place on

-- what stands before the cut, behind this front
abbrev pub joined : List ℕ → Option (List ℕ × List ℕ) → Option (List ℕ × List ℕ)
joined front None = None
joined front (Some p) = Some (front ++ p.0, p.1)

joined_none : (found : Option (List ℕ × List ℕ)) → found ≡ joined [] found
joined_none None = refl
joined_none (Some p) = refl

joined_byte : (front : List ℕ) (b : ℕ) (found : Option (List ℕ × List ℕ)) → joined front (with_byte b found) ≡ joined (front ++ b ∷ []) found
joined_byte front b None = refl
joined_byte front b (Some p) = ap (λ l. Some (l, p.1)) (sym (append_assoc front (b ∷ []) p.0))

module _ (cut : List ℕ → Option (List ℕ × List ℕ)) (w : List ℕ) where
  -- the first cut stands at this place or behind it
  abbrev pub IsBehind : ℕ → Type 0
  IsBehind at = cut w ≡ joined (take at w) (cut (drop at w))

  pub at_start : IsBehind 0
  at_start = joined_none (cut w)

  pub behind_more : (at : ℕ) → at < length w → cut (drop at w) ≡ with_byte (get_or w at 0) (cut (drop (at + 1) w)) → IsBehind at → IsBehind (at + 1)
  behind_more at lt past is =
      is ∙ ap (joined (take at w)) past ∙ joined_byte (take at w) (get_or w at 0) (cut (drop (at + 1) w))
      ∙ ap (λ l. joined l (cut (drop (at + 1) w))) (sym (take_more w at 0 lt))

  pub found_here : (at : ℕ) (rest : List ℕ) → cut (drop at w) ≡ Some ([], rest) → IsBehind at → cut w ≡ Some (take at w, rest)
  found_here at rest here is = is ∙ ap (joined (take at w)) here ∙ ap (λ l. Some (l, rest)) (append-nil (take at w))

  pub found_nowhere : (at : ℕ) → length w ≤ at → cut [] ≡ None → IsBehind at → cut w ≡ None
  found_nowhere at le none is = is ∙ ap (joined (take at w)) (at_drop_all cut w at le ∙ none)

-- ---- one place

module _ (c : ℕ) (w : List ℕ) (at : ℕ) (lt : at < length w) where
  pub byte_here : get_or w at 0 ≡ c → cut_at c (drop at w) ≡ Some ([], drop (at + 1) w)
  unfolding cut_at
  byte_here e = at_drop_more (cut_at c) w at 0 lt ∙ cond-true (eqb (get_or w at 0) c) _ _ (eq-eqb _ _ e)

  pub byte_past : (get_or w at 0 ≡ c → ⊥) → cut_at c (drop at w) ≡ with_byte (get_or w at 0) (cut_at c (drop (at + 1) w))
  unfolding cut_at
  byte_past ne = at_drop_more (cut_at c) w at 0 lt ∙ cond-false (eqb (get_or w at 0) c) _ _ (ne_eqb _ _ ne)

-- the text round a place
pub whole_here : (w : List ℕ) (at : ℕ) → at < length w → (c : ℕ) → get_or w at 0 ≡ c → w ≡ take at w ++ c ∷ drop (at + 1) w
whole_here w at lt c e =
    sym (take-append-drop at w) ∙ ap (λ l. take at w ++ l) (drop_more w at 0 lt) ∙ ap (λ b. take at w ++ b ∷ drop (at + 1) w) e

pub byte_nowhere : (c : ℕ) → cut_at c [] ≡ None
unfolding cut_at
byte_nowhere c = refl

-- ---- an arrow

no_right : (t u : Bool) → u ≡ false → (t && u) ≡ false
no_right true u e = e
no_right false u e = refl

pub arrow_nowhere : cut_at_arrow [] ≡ None
unfolding cut_at_arrow
arrow_nowhere = refl

module _ (w : List ℕ) (at : ℕ) (lt : at < length w) where
  pub arrow_here : at + 1 < length w → get_or w at 0 ≡ 45 → get_or w (at + 1) 0 ≡ 62 → cut_at_arrow (drop at w) ≡ Some ([], drop (at + 2) w)
  unfolding cut_at_arrow
  arrow_here more dash tip =
      let begins : begins_with 62 (drop (at + 1) w) ≡ true = at_drop_more (begins_with 62) w (at + 1) 0 more ∙ eq-eqb _ _ tip in
      let behind : at + 1 + 1 ≡ at + 2 = omega arith in
      at_drop_more cut_at_arrow w at 0 lt
      ∙ cond-true (eqb (get_or w at 0) 45 && begins_with 62 (drop (at + 1) w)) _ _ (and_from _ _ (eq-eqb _ _ dash) begins)
      ∙ ap (λ l. Some ([], l)) (drop-drop 1 (at + 1) w ∙ ap (λ n. drop n w) behind)

  past : (eqb (get_or w at 0) 45 && begins_with 62 (drop (at + 1) w)) ≡ false → cut_at_arrow (drop at w) ≡ with_byte (get_or w at 0) (cut_at_arrow (drop (at + 1) w))
  unfolding cut_at_arrow
  past none = at_drop_more cut_at_arrow w at 0 lt ∙ cond-false (eqb (get_or w at 0) 45 && begins_with 62 (drop (at + 1) w)) _ _ none

  pub no_dash : (get_or w at 0 ≡ 45 → ⊥) → cut_at_arrow (drop at w) ≡ with_byte (get_or w at 0) (cut_at_arrow (drop (at + 1) w))
  no_dash ne = past (ap (λ t. t && begins_with 62 (drop (at + 1) w)) (ne_eqb _ _ ne))

  pub dash_last : length w ≤ at + 1 → cut_at_arrow (drop at w) ≡ with_byte (get_or w at 0) (cut_at_arrow (drop (at + 1) w))
  dash_last le = past (no_right _ _ (at_drop_all (begins_with 62) w (at + 1) le))

  pub no_tip : at + 1 < length w → (get_or w (at + 1) 0 ≡ 62 → ⊥) → cut_at_arrow (drop at w) ≡ with_byte (get_or w at 0) (cut_at_arrow (drop (at + 1) w))
  no_tip more ne = past (no_right _ _ (at_drop_more (begins_with 62) w (at + 1) 0 more ∙ ne_eqb _ _ ne))
