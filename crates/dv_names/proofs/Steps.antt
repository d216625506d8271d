-- How reading goes on over parts of a text.
use Rattle.std.proofs.Common.{◌≡◌, ℕ, suc, ◌+◌, ◌-◌, ◌<◌, ◌≤◌, List, [], ◌∷◌, ◌++◌, length, get_or, take, drop, Option, Some, None, refl, sym, ap, ◌∙◌, arith}
use Rattle.std.specs.Prelude.{slice_range}
use Rattle.std.specs.Option.{option_and_then, option_map_or}
use Rattle.std.proofs.lemmas.List.{at_drop_more, at_drop_all, take-append-drop, drop-drop, append_assoc, append_cancel_right}
use Rattle.std.proofs.lemmas.List.Edits.{between_more, between_none, length-between}
use Rattle.dv_names.specs.declared.error.NameError.{NameError}
use Rattle.dv_names.specs.Grammar.{Mode, step, after, refusal, refused_byte, refused_end}

-- ---- bytes in a row

along : (o : Option Mode) (w v : List ℕ) → ((n : Mode) → after n (w ++ v) ≡ option_and_then (λ k. after k v) (after n w))
    → option_and_then (λ n. after n (w ++ v)) o ≡ option_and_then (λ k. after k v) (option_and_then (λ n. after n w) o)
along None w v h = refl
along (Some n) w v h = h n

pub after-append : (w v : List ℕ) (m : Mode) → after m (w ++ v) ≡ option_and_then (λ k. after k v) (after m w)
after-append [] v m = refl
after-append (b ∷ w) v m = along (step m b) w v (after-append w v)

pub after_both : (w v : List ℕ) (m n : Mode) → after m w ≡ Some n → after m (w ++ v) ≡ after n v
after_both w v m n e = after-append w v m ∙ ap (option_and_then (λ k. after k v)) e

-- ---- a refusal is that of the rest

refusal_along : (o : Option Mode) (stop : Option NameError) (w more : List ℕ) (at : ℕ) (n : Mode)
    → ((k : Mode) → after k w ≡ Some n → refusal k (suc at) (w ++ more) ≡ refusal n (suc at + length w) more)
    → option_and_then (λ k. after k w) o ≡ Some n
    → option_map_or (λ k. refusal k (suc at) (w ++ more)) o stop ≡ refusal n (suc at + length w) more
refusal_along None stop w more at n h e = absurd (cc)
refusal_along (Some k) stop w more at n h e = h k e

pub refusal_behind : (w more : List ℕ) (at : ℕ) (n m : Mode) → after m w ≡ Some n → refusal m at (w ++ more) ≡ refusal n (at + length w) more
unfolding refusal
refusal_behind [] more at n m e =
    let same : m ≡ n = cc in
    let place : at ≡ at + 0 = omega arith in
    ap (λ k. refusal k at more) same ∙ ap (λ i. refusal n i more) place
refusal_behind (b ∷ w) more at n m e =
    let place : suc at + length w ≡ at + suc (length w) = omega arith in
    refusal_along (step m b) (Some (refused_byte m b at)) w more at n (refusal_behind w more (suc at) n) e ∙ ap (λ i. refusal n i more) place

-- ---- places of a text

module _ (text : List ℕ) where
  pub cut : (start end : ℕ) → start ≤ end → drop start text ≡ slice_range text start end ++ drop end text
  cut start end le =
      let e : start + (end - start) ≡ end = omega arith in
      sym (take-append-drop (end - start) (drop start text)) ∙ ap (λ l. take (end - start) (drop start text) ++ l) (drop-drop (end - start) start text ∙ ap (λ i. drop i text) e)

  pub parts : (start at end : ℕ) → start ≤ at → at ≤ end → slice_range text start end ≡ slice_range text start at ++ slice_range text at end
  parts start at end before behind =
      append_cancel_right (slice_range text start end) (slice_range text start at ++ slice_range text at end) (drop end text)
      (sym (cut start end (omega arith)) ∙ cut start at before ∙ ap (λ l. slice_range text start at ++ l) (cut at end behind)
      ∙ sym (append_assoc (slice_range text start at) (slice_range text at end) (drop end text)))

  pub one : (at : ℕ) → at < length text → slice_range text at (at + 1) ≡ get_or text at 0 ∷ []
  one at lt = between_more text at at 0 (omega arith) lt ∙ ap (λ l. l ++ get_or text at 0 ∷ []) (between_none text at)

  pub first_byte : (at end : ℕ) → at < end → end ≤ length text → slice_range text at end ≡ get_or text at 0 ∷ slice_range text (at + 1) end
  first_byte at end lt within =
      parts at (at + 1) end (omega arith) (omega arith) ∙ ap (λ l. l ++ slice_range text (at + 1) end) (one at (omega arith))

  pub after_more : (start at : ℕ) (m n k : Mode) → start ≤ at → at < length text → after m (slice_range text start at) ≡ Some n
      → step n (get_or text at 0) ≡ Some k → after m (slice_range text start (at + 1)) ≡ Some k
  after_more start at m n k le lt e s =
      ap (after m) (between_more text start at 0 le lt) ∙ after_both (slice_range text start at) (get_or text at 0 ∷ []) m n e ∙ ap (option_and_then (λ j. Some j)) s

  pub refusal_from : (start end : ℕ) (m n : Mode) → start ≤ end → end ≤ length text → after m (slice_range text start end) ≡ Some n
      → refusal m start (drop start text) ≡ refusal n end (drop end text)
  refusal_from start end m n le within e =
      let place : start + length (slice_range text start end) ≡ end = omega (arith, length-between text start end within) in
      ap (refusal m start) (cut start end le) ∙ refusal_behind (slice_range text start end) (drop end text) start n m e ∙ ap (λ i. refusal n i (drop end text)) place

  pub refusal_here : (at : ℕ) (n : Mode) → at < length text → step n (get_or text at 0) ≡ None → refusal n at (drop at text) ≡ Some (refused_byte n (get_or text at 0) at)
  unfolding refusal
  refusal_here at n lt s =
      at_drop_more (refusal n at) text at 0 lt ∙ ap (λ o. option_map_or (λ k. refusal k (suc at) (drop (at + 1) text)) o (Some (refused_byte n (get_or text at 0) at))) s

  pub refusal_end : (at : ℕ) (n : Mode) → length text ≤ at → refusal n at (drop at text) ≡ refused_end n at
  unfolding refusal
  refusal_end at n le = at_drop_all (refusal n at) text at le
