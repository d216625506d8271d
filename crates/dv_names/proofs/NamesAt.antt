-- Names at places of a text.
use Rattle.std.proofs.Common.{◌≡◌, ℕ, suc, ◌+◌, ◌-◌, ◌<◌, ◌≤◌, cond, eqb, true, false, List, [], ◌∷◌, ◌++◌, length, get_or, take, drop, Some, Result, Ok, Err, ◌⊎◌, inl, inr, refl, sym, ap, ◌∙◌, arith}
use Rattle.std.specs.Prelude.{slice_range, codes, IsTrue}
use Rattle.std.specs.Option.{option_and_then, option_map_or}
use Rattle.std.specs.List.{list_all}
use Rattle.std.proofs.lemmas.List.{at_drop_more, take-append-drop, append_assoc, drop_more, take_more}
use Rattle.std.proofs.lemmas.List.Edits.{between_more, length-between}
use Rattle.std.proofs.lemmas.Bool.{cond-true, cond-false, eq-eqb, ne_eqb, lt-ltb, and_from, or_left, or_right, cases_lt}
use Rattle.dv_names.specs.declared.error.NameError.{NameError}
use Rattle.dv_names.specs.declared.error.NameError.TheVariants as error
use Rattle.dv_names.specs.Descriptors.{is_name_byte, is_plain_name, is_special_name, is_name}
use Rattle.dv_names.specs.Grammar.{Position, Part, Before, Within, Angle, Special, Name, step, after, refusal}
use Rattle.dv_names.specs.Parts.{EndsWord, EndsSpecial, EndsName}
use Rattle.dv_names.proofs.Steps.{parts, one, first_byte, refusal_from, refusal_here, refusal_end}
use Rattle.dv_names.proofs.Types.{refuses_same}
use Rattle.dv_names.proofs.Classes.{plain_run, special_run, name_run}

word_run : (p : Position) (w rest : List ℕ) → after (Name p (Special (w ++ rest))) w ≡ Some (Name p (Special rest))
word_run p [] rest = refl
word_run p (b ∷ w) rest = ap (option_and_then (λ n. after n w)) (cond-true (eqb b b) _ _ (eq-eqb b b refl)) ∙ word_run p w rest

module _ (text : List ℕ) where
  -- what comes is refused alike where the next byte does the same
  same_part : (p : Position) (v w : Part) (at : ℕ) → (at < length text → step (Name p v) (get_or text at 0) ≡ step (Name p w) (get_or text at 0)) → refusal (Name p v) at (drop at text) ≡ refusal (Name p w) at (drop at text)
  unfolding refusal
  same_part p v w at same =
      elim (cases_lt at (length text)) [
        | inl lt ↦
            at_drop_more (refusal (Name p v) at) text at 0 lt
            ∙ ap (λ o. option_map_or (λ k. refusal k (suc at) (drop (at + 1) text)) o (Some (error.BadDescriptor at))) (same lt)
            ∙ sym (at_drop_more (refusal (Name p w) at) text at 0 lt)
        | inr le ↦ refusal_end text at (Name p v) le ∙ sym (refusal_end text at (Name p w) le)
      ]

  -- ---- a special name

  module _ (start at : ℕ) (word : List ℕ) (before : start ≤ at) (within : at ≤ length text) (so_far : slice_range text start at ≡ take (at - start) word) where
    word_read : (p : Position) → refusal (Name p (Special word)) start (drop start text) ≡ refusal (Name p (Special (drop (at - start) word))) at (drop at text)
    word_read p =
        refusal_from text start at (Name p (Special word)) (Name p (Special (drop (at - start) word))) before within
        (ap (after (Name p (Special word))) so_far ∙ ap (λ l. after (Name p (Special l)) (take (at - start) word)) (sym (take-append-drop (at - start) word))
        ∙ word_run p (take (at - start) word) (drop (at - start) word))

    pub word_more : at < length text → at - start < length word → get_or text at 0 ≡ get_or word (at - start) 0 → slice_range text start (at + 1) ≡ take (at + 1 - start) word
    word_more lt more same =
        let next : at - start + 1 ≡ at + 1 - start = omega arith in
        between_more text start at 0 before lt ∙ (λ i. so_far i ++ same i ∷ []) ∙ sym (take_more word (at - start) 0 more) ∙ ap (λ i. take i word) next

    pub word_stops : at - start < length word → (length text ≤ at) ⊎ ((at < length text) × (get_or text at 0 ≡ get_or word (at - start) 0 → ⊥))
        → (p : Position) → refusal (Name p (Special word)) start (drop start text) ≡ Some (error.BadDescriptor at)
    word_stops more (inl le) p = word_read p ∙ refusal_end text at _ le
    word_stops more (inr h) p =
        let byte = get_or text at 0 in
        let next = get_or word (at - start) 0 in
        word_read p ∙ ap (λ l. refusal (Name p (Special l)) at (drop at text)) (drop_more word (at - start) 0 more)
        ∙ refusal_here text at (Name p (Special (next ∷ drop (at - start + 1) word))) h.0 (cond-false (eqb byte next) _ _ (ne_eqb byte next h.1))

  pub angle_c : (start : ℕ) → start < length text → get_or text start 0 ≡ 99 → (p : Position)
      → refusal (Name p Angle) start (drop start text) ≡ refusal (Name p (Special (codes "clinit>"))) start (drop start text)
  angle_c start lt is p = same_part p Angle (Special (codes "clinit>")) start (λ _. ap (step (Name p Angle)) is ∙ sym (ap (step (Name p (Special (codes "clinit>")))) is))

  pub angle_i : (start : ℕ) → ((start < length text) × (get_or text start 0 ≡ 99 → ⊥)) ⊎ (length text ≤ start) → (p : Position)
      → refusal (Name p Angle) start (drop start text) ≡ refusal (Name p (Special (codes "init>"))) start (drop start text)
  angle_i start (inl h) p =
      let byte = get_or text start 0 in
      same_part p Angle (Special (codes "init>")) start (λ _. ap (cond (eqb byte 105) (Some (Name p (Special (codes "nit>"))))) (cond-false (eqb byte 99) _ _ (ne_eqb byte 99 h.1)))
  angle_i start (inr le) p = same_part p Angle (Special (codes "init>")) start (λ lt. absurd (omega arith))

  pub special_from : (word : List ℕ) (start : ℕ) → 0 < length word → is_special_name (60 ∷ word) ≡ true
      → ((p : Position) → refusal (Name p Angle) start (drop start text) ≡ refusal (Name p (Special word)) start (drop start text))
      → (found : Result ℕ NameError) → EndsWord word text start found → EndsSpecial text start found
  special_from word start some special same (Ok end) read =
      ((omega (arith, ap length read.2, length-between text start end read.0), read.0), ap (λ l. is_special_name (60 ∷ l)) read.2 ∙ special)
  special_from word start some special same (Err e) refused = λ p. refuses_same e _ _ (same p) (refused p)

  -- ---- a name

  -- what is read of a name to its end
  abbrev pub IsNameAt : ℕ → ℕ → Type 0
  IsNameAt start end = IsTrue (is_name (slice_range text start end)) × ((p : Position) → refusal (Name p Before) start (drop start text) ≡ refusal (Name p (Special [])) end (drop end text))

  pub plain_at : (start end : ℕ) → start < end → end ≤ length text → list_all is_name_byte (slice_range text start end) ≡ true
      → (end < length text → is_name_byte (get_or text end 0) ≡ false) → IsNameAt start end
  plain_at start end lt within are most =
      let w = slice_range text start end in
      let some : 0 < length w = omega (arith, length-between text start end within) in (
        or_left (is_plain_name w) (is_special_name w) (and_from _ (list_all is_name_byte w) (lt-ltb 0 (length w) some) are),
        λ p. refusal_from text start end (Name p Before) (Name p Within) (omega arith) within (plain_run p w some are)
            ∙ same_part p Within (Special []) end (λ more. cond-false (is_name_byte (get_or text end 0)) _ _ (most more)),
      )

  pub special_at : (start end : ℕ) → get_or text start 0 ≡ 60 → start + 1 < end → end ≤ length text → is_special_name (60 ∷ slice_range text (start + 1) end) ≡ true → IsNameAt start end
  special_at start end letter lt within is =
      let w = slice_range text start end in
      let spelled = first_byte text start end (omega arith) within ∙ ap (λ b. b ∷ slice_range text (start + 1) end) letter in
      let special = ap is_special_name spelled ∙ is in (
        or_right (is_plain_name w) (is_special_name w) special,
        λ p. refusal_from text start end (Name p Before) (Name p (Special [])) (omega arith) within (special_run p w special),
      )

  pub special_skip : (start : ℕ) → start < length text → get_or text start 0 ≡ 60 → (p : Position) → refusal (Name p Before) start (drop start text) ≡ refusal (Name p Angle) (start + 1) (drop (start + 1) text)
  special_skip start lt letter p =
      refusal_from text start (start + 1) (Name p Before) (Name p Angle) (omega arith) (omega arith) (ap (after (Name p Before)) (one text start lt) ∙ ap (λ b. after (Name p Before) (b ∷ [])) letter)

  pub name_from : (start : ℕ) → start < length text → get_or text start 0 ≡ 60 → (found : Result ℕ NameError) → EndsSpecial text (start + 1) found → EndsName text start found
  name_from start lt letter (Ok end) read =
      let name = special_at start end letter read.0.0 read.0.1 read.1 in
      ((omega (arith, read.0.0), read.0.1), name.0, name.1)
  name_from start lt letter (Err e) refused = λ p. refuses_same e _ _ (special_skip start lt letter p) (refused p)

  pub no_name : (start : ℕ) → (start < length text → is_name_byte (get_or text start 0) ≡ false) → ((start < length text) × (get_or text start 0 ≡ 60 → ⊥)) ⊎ (length text ≤ start)
      → (p : Position) → refusal (Name p Before) start (drop start text) ≡ Some (error.BadDescriptor start)
  no_name start plain (inl h) p =
      let byte = get_or text start 0 in
      refusal_here text start (Name p Before) h.0 (cond-false (is_name_byte byte) _ _ (plain h.0) ∙ cond-false (eqb byte 60) _ _ (ne_eqb byte 60 h.1))
  no_name start plain (inr le) p = refusal_end text start (Name p Before) le

  -- ---- names

  -- the names so far, and that what comes goes on as behind a whole name
  abbrev pub AreNamesAt : ℕ → ℕ → Type 0
  AreNamesAt start end = (p : Position)
      → ((b : ℕ) (more : List ℕ) → is_name_byte b ≡ false → after (Name p Before) (slice_range text start end ++ b ∷ more) ≡ after (Name p (Special [])) (b ∷ more))
      × (refusal (Name p Before) start (drop start text) ≡ refusal (Name p (Special [])) end (drop end text))

  pub first_name : (start end : ℕ) → IsNameAt start end → AreNamesAt start end
  first_name start end is p = ((λ b more other. name_run p (slice_range text start end) more b is.0 other), is.1 p)

  -- a slash behind names
  pub slash_skip : (start at : ℕ) → at < length text → get_or text at 0 ≡ 47 → AreNamesAt start at → (p : Position)
      → refusal (Name p Before) start (drop start text) ≡ refusal (Name p Before) (at + 1) (drop (at + 1) text)
  slash_skip start at lt is names p =
      (names p).1 ∙ refusal_from text at (at + 1) (Name p (Special [])) (Name p Before) (omega arith) (omega arith) (ap (after (Name p (Special []))) (one text at lt) ∙ ap (λ b. after (Name p (Special [])) (b ∷ [])) is)

  pub next_name : (start at end : ℕ) → start < at → at + 1 < end → end ≤ length text → get_or text at 0 ≡ 47 → AreNamesAt start at → IsNameAt (at + 1) end → AreNamesAt start end
  next_name start at end before behind within is names next p =
      let front = slice_range text start at in
      let name = slice_range text (at + 1) end in
      let spelled : slice_range text start end ≡ front ++ 47 ∷ name =
      parts text start at end (omega arith) (omega arith) ∙ ap (λ l. front ++ l) (first_byte text at end (omega arith) within ∙ ap (λ b. b ∷ name) is) in (
        λ b more other. ap (λ l. after (Name p Before) (l ++ b ∷ more)) spelled ∙ ap (after (Name p Before)) (append_assoc front (47 ∷ name) (b ∷ more))
            ∙ (names p).0 47 (name ++ b ∷ more) refl ∙ name_run p name more b next.0 other,
        slash_skip start at (omega arith) is names p ∙ next.1 p,
      )

  pub last_name : (start end : ℕ) → start < end → end < length text → get_or text end 0 ≡ 59 → AreNamesAt start end → (p : Position)
      → after (Name p Before) (slice_range text start (end + 1)) ≡ after (Name p (Special [])) (59 ∷ [])
  last_name start end before lt is names p =
      ap (after (Name p Before)) (parts text start end (end + 1) (omega arith) (omega arith) ∙ ap (λ l. slice_range text start end ++ l) (one text end lt ∙ ap (λ b. b ∷ []) is))
      ∙ (names p).0 59 [] refl

  pub names_stop : (start end : ℕ) → AreNamesAt start end → (end < length text → get_or text end 0 ≡ 47 → ⊥) → (length text ≤ end) ⊎ ((end < length text) × (get_or text end 0 ≡ 59 → ⊥))
      → (p : Position) → refusal (Name p Before) start (drop start text) ≡ Some (error.BadDescriptor end)
  names_stop start end names no_slash (inl le) p = (names p).1 ∙ refusal_end text end (Name p (Special [])) le
  names_stop start end names no_slash (inr h) p =
      let byte = get_or text end 0 in
      (names p).1 ∙ refusal_here text end (Name p (Special [])) h.0 (cond-false (eqb byte 47) _ _ (ne_eqb byte 47 (no_slash h.0)) ∙ cond-false (eqb byte 59) _ _ (ne_eqb byte 59 h.1))
