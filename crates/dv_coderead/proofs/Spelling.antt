-- A text is read as the number that it spells.
use Rattle.std.proofs.Common.{◌≡◌, ℕ, suc, ◌+◌, ◌-◌, ◌<◌, ◌==◌, Bool, true, false, ◌&&◌, List, [], ◌∷◌, ◌++◌, length, take, drop, get_or, Option, Some, None, Err, refl, sym, ap, ◌∙◌, subst, inl, inr, arith, append_assoc, append-nil, length-append}
use Rattle.std.specs.Prelude.{codes, nat_lt, slice_index, if◌then◌else◌}
use Rattle.std.specs.List.{list_all}
use Rattle.std.proofs.Math.Seq.{take-append_seam, drop-cons}
use Rattle.std.proofs.lemmas.Bool.{and_from, and_parts, cases_Bool, cond-true, cond-false, eqb-true, lt-ltb, ltb-true, true≢false}
use Rattle.std.proofs.lemmas.List.{drop_all, get_or_at, length-take-le, take-append-drop}
use Rattle.std.proofs.lemmas.List.Folds.{list_all_at}
use Rattle.dv_defs.specs.declared.faults.LineKind.TheVariants.{Operands}
use Rattle.dv_lex.specs.Numbers.{Number, Spells, IsNumber, when, is_digit, is_suffix, spelling, in_bits}
use Rattle.dv_lex.proofs.Spelled.Texts.{determined, digits_found, no_mark}
use Rattle.dv_coderead.specs.Words.{begins_with, fitting, literal_in, number_in, number_of, without_suffix}

-- ---- the front

-- a text that begins with this byte
begun : (b : ℕ) (w : List ℕ) → begins_with b w ≡ true → w ≡ b ∷ drop 1 w
begun b [] h = absurd (cc)
begun b (c ∷ cs) h = ap (λ x. x ∷ cs) (eqb-true c b h)

-- the text is a sign or none, and what stands behind it
signed : (w : List ℕ) (m : Bool) → begins_with 45 w ≡ m → w ≡ when m (codes "-") ++ (if m then drop 1 w else w)
signed w true h = begun 45 w h
signed w false h = refl

abbrev pub is_based : List ℕ → Bool
is_based u = begins_with 48 u && begins_with 120 (drop 1 u)

-- and that is `0x` or nothing, and the rest
based : (u : List ℕ) (h : Bool) → is_based u ≡ h → u ≡ when h (codes "0x") ++ (if h then drop 2 u else u)
based [] true e = absurd (cc)
based (b ∷ bs) true e =
    let p = and_parts (b == 48) (begins_with 120 bs) e in
    ap (λ x. x ∷ bs) (eqb-true b 48 p.0) ∙ ap (λ l. 48 ∷ l) (begun 120 bs p.1)
based u false e = refl

-- ---- digits and a suffix

-- the digits stand in front of a suffix or of none
record IsCutAt (r digits : List ℕ) : Type 0 where
  whole : r ≡ digits ++ drop (length digits) r
  suffix : is_suffix (drop (length digits) r) ≡ true

abbrev ends_with_suffix : List ℕ → Bool
ends_with_suffix r = nat_lt 0 (length r) && is_suffix (slice_index r (length r - 1) ∷ [])

-- the last element
pub last : (r : List ℕ) (n : ℕ) → n + 1 ≡ length r → drop n r ≡ slice_index r n ∷ []
last r n e = drop-cons r n 0 (omega arith) ∙ ap (λ l. slice_index r n ∷ l) (drop_all (suc n) r (omega arith))

cut_by : (r : List ℕ) (t : Bool) → ends_with_suffix r ≡ t → IsCutAt r (if t then take (length r - 1) r else r)
cut_by r true e =
    let p = and_parts (nat_lt 0 (length r)) (is_suffix (slice_index r (length r - 1) ∷ [])) e in
    let some : 0 < length r = ltb-true 0 (length r) p.0 in
    let size : length (take (length r - 1) r) ≡ length r - 1 = length-take-le (length r - 1) r (omega arith) in
    let tail : drop (length r - 1) r ≡ slice_index r (length r - 1) ∷ [] = last r (length r - 1) (omega arith) in
    record {
      whole = sym (take-append-drop (length r - 1) r) ∙ ap (λ n. take (length r - 1) r ++ drop n r) (sym size);
      suffix = ap (λ n. is_suffix (drop n r)) size ∙ ap is_suffix tail ∙ p.1;
    }
cut_by r false e =
    let none : drop (length r) r ≡ [] = drop_all (length r) r (omega arith) in
    record { whole = sym (append-nil r) ∙ ap (λ l. r ++ l) (sym none); suffix = ap is_suffix none }

cut : (r : List ℕ) → IsCutAt r (without_suffix r)
cut r = cut_by r (ends_with_suffix r) refl

-- digits don't end with a suffix
last_digit : (h : Bool) (ds : List ℕ) (i : ℕ) → list_all (is_digit h) ds ≡ true → i < length ds → is_digit h (get_or ds i 0) ≡ true
last_digit h ds i d lt =
    elim (cases_Bool (is_digit h (get_or ds i 0))) [ inl is ↦ is | inr other ↦ absurd (true≢false (sym d ∙ list_all_at (is_digit h) ds i 0 lt other)) ]

no_suffix : (h : Bool) (ds : List ℕ) → list_all (is_digit h) ds ≡ true → ends_with_suffix ds ≡ false
no_suffix h ds d =
    elim (cases_Bool (ends_with_suffix ds)) [
      | inl is ↦
          let p = and_parts (nat_lt 0 (length ds)) (is_suffix (slice_index ds (length ds - 1) ∷ [])) is in
          let some : 0 < length ds = ltb-true 0 (length ds) p.0 in
          absurd (no_mark h (get_or ds (length ds - 1) 0) (last_digit h ds (length ds - 1) d (omega arith)) p.1)
      | inr other ↦ other
    ]

-- behind digits a suffix is seen
with_suffix : (ds : List ℕ) (b : ℕ) → is_suffix (b ∷ []) ≡ true → without_suffix (ds ++ b ∷ []) ≡ ds
with_suffix ds b s =
    let size : length (ds ++ b ∷ []) - 1 ≡ length ds = omega (arith, length-append ds (b ∷ [])) in
    let some : nat_lt 0 (length (ds ++ b ∷ [])) ≡ true = lt-ltb 0 _ (omega (arith, length-append ds (b ∷ []))) in
    let here : slice_index (ds ++ b ∷ []) (length (ds ++ b ∷ []) - 1) ≡ b = ap (λ n. slice_index (ds ++ b ∷ []) n) size ∙ get_or_at ds b [] 0 (length ds) refl in
    let ends : ends_with_suffix (ds ++ b ∷ []) ≡ true = and_from _ _ some (ap (λ c. is_suffix (c ∷ [])) here ∙ s) in
    cond-true (ends_with_suffix (ds ++ b ∷ [])) _ _ ends ∙ ap (λ n. take n (ds ++ b ∷ [])) size ∙ take-append_seam ds (b ∷ [])

-- where digits and a suffix stand, the digits are found
pub found_by : (h : Bool) (ds w : List ℕ) → list_all (is_digit h) ds ≡ true → is_suffix w ≡ true → without_suffix (ds ++ w) ≡ ds
found_by h ds [] d s = ap without_suffix (append-nil ds) ∙ cond-false (ends_with_suffix ds) _ _ (no_suffix h ds d)
found_by h ds (b ∷ []) d s = with_suffix ds b s
found_by h ds (b ∷ c ∷ cs) d s = absurd (cc)

found : (r : List ℕ) (h : Bool) (ds w : List ℕ) → list_all (is_digit h) ds ≡ true → is_suffix w ≡ true → r ≡ ds ++ w → without_suffix r ≡ ds
found r h ds w d s e = ap without_suffix e ∙ found_by h ds w d s

-- ---- whole texts

abbrev unsigned_of : List ℕ → List ℕ
unsigned_of w = if begins_with 45 w then drop 1 w else w

abbrev rest_of : List ℕ → List ℕ
rest_of w = if is_based (unsigned_of w) then drop 2 (unsigned_of w) else unsigned_of w

-- the number of a text, if its digits are some
abbrev read_of : List ℕ → Number
read_of w = record {
  negative = begins_with 45 w;
  hexadecimal = is_based (unsigned_of w);
  digits = without_suffix (rest_of w);
  suffix = drop (length (without_suffix (rest_of w))) (rest_of w);
}

abbrev has_digits : List ℕ → Bool
has_digits w = nat_lt 0 (length (read_of w).digits) && list_all (is_digit (read_of w).hexadecimal) (read_of w).digits

read_by : (w : List ℕ) → number_in w ≡ (if has_digits w then Some (read_of w) else None)
unfolding number_in
read_by w = refl

read_spells : (w : List ℕ) → has_digits w ≡ true → Spells w (read_of w)
read_spells w e =
    let n = read_of w in
    let p = and_parts (nat_lt 0 (length n.digits)) (list_all (is_digit n.hexadecimal) n.digits) e in
    let behind = cut (rest_of w) in
    let sign = signed w (begins_with 45 w) refl in
    let base = based (unsigned_of w) (is_based (unsigned_of w)) refl in
    let grouped : spelling n ≡ when n.negative (codes "-") ++ (when n.hexadecimal (codes "0x") ++ (n.digits ++ n.suffix)) = simp append_assoc in
    let whole : unsigned_of w ≡ when n.hexadecimal (codes "0x") ++ (n.digits ++ n.suffix) = base ∙ ap (λ l. when n.hexadecimal (codes "0x") ++ l) behind.whole in
    record {
      spelled = sign ∙ ap (λ l. when n.negative (codes "-") ++ l) whole ∙ sym grouped;
      some = ltb-true 0 (length n.digits) p.0;
      digits = p.1;
      suffix = behind.suffix;
    }

-- what is read is spelled
spelled_by : (w : List ℕ) (n : Number) (t : Bool) → has_digits w ≡ t → (if t then Some (read_of w) else None) ≡ Some n → Spells w n
spelled_by w n true is e = let same : read_of w ≡ n = cc in subst (Spells w) same (read_spells w is)
spelled_by w n false is e = absurd (cc)

pub spelled : (w : List ℕ) (n : Number) → number_in w ≡ Some n → Spells w n
spelled w n e = spelled_by w n (has_digits w) refl (sym (read_by w) ∙ e)

-- a text that spells a number has digits
spells_digits : (w : List ℕ) → IsNumber w → has_digits w ≡ true
spells_digits w is =
    let n = read_of w in
    let p = digits_found w (unsigned_of w) (rest_of w) n.digits n.negative n.hexadecimal
    (signed w (begins_with 45 w) refl) (λ r e. ap (begins_with 45) e) (based (unsigned_of w) (is_based (unsigned_of w)) refl) (λ r e. ap is_based e) (found (rest_of w)) is in
    and_from _ _ (lt-ltb 0 (length n.digits) p.0) p.1

-- what is spelled is read
pub read : (w : List ℕ) (n : Number) → Spells w n → number_in w ≡ Some n
read w n s =
    let has = spells_digits w (n, s) in
    read_by w ∙ cond-true (has_digits w) _ _ has ∙ ap Some (determined w (read_of w) n (read_spells w has) s)

-- ---- in so many bits

pub literal_read : (bits : ℕ) (w : List ℕ) (n : Number) → Spells w n → literal_in bits w ≡ fitting (in_bits bits n)
unfolding literal_in
literal_read bits w n s = ap (number_of bits) (read w n s)

-- where no number is spelled
not_read_by : (bits : ℕ) (w : List ℕ) (o : Option Number) → number_in w ≡ o → (IsNumber w → ⊥) → number_of bits o ≡ Err Operands
not_read_by bits w None e never = refl
not_read_by bits w (Some n) e never = absurd (never (n, spelled w n e))

pub literal_not_read : (bits : ℕ) (w : List ℕ) → (IsNumber w → ⊥) → literal_in bits w ≡ Err Operands
unfolding literal_in
literal_not_read bits w never = not_read_by bits w (number_in w) refl never
