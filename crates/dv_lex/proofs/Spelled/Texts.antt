-- What a text that spells a number is made of.
use Rattle.std.proofs.Common.{◌≡◌, ℕ, ◌<◌, Bool, true, false, ◌&&◌, List, [], ◌∷◌, ◌++◌, length, refl, sym, ap, ◌∙◌, arith, append_assoc}
use Rattle.std.specs.Prelude.{codes}
use Rattle.std.specs.List.{list_all}
use Rattle.std.proofs.lemmas.Bool.Decides.{nat_tests}
use Rattle.std.proofs.lemmas.List.{append_cancel_left}
use Rattle.dv_lex.specs.declared.numbers.Parts.{Parts}
use Rattle.dv_lex.specs.Bytes.{is_hexadecimal}
use Rattle.dv_lex.specs.NumberParts.{number_of, HasDigits, IsCut}
use Rattle.dv_lex.specs.Numbers.{Number, Spells, IsNumber, when, is_digit, is_suffix}

-- ---- bytes

-- no digit is a suffix
pub no_mark : (hexadecimal : Bool) (b : ℕ) → is_digit hexadecimal b ≡ true → is_suffix (b ∷ []) ≡ true → ⊥
no_mark true b d s = grind (arith, nat_tests)
no_mark false b d s = grind (arith, nat_tests)

-- nor a minus
no_minus : (hexadecimal : Bool) → is_digit hexadecimal 45 ≡ true → ⊥
no_minus true d = cc
no_minus false d = cc

-- nor an x
no_x : (hexadecimal : Bool) → is_digit hexadecimal 120 ≡ true → ⊥
no_x true d = cc
no_x false d = cc

-- ---- tests and lists

-- what holds both holds each
pub head_true : (p q : Bool) → (p && q) ≡ true → p ≡ true
head_true true q h = refl
head_true false q h = h

pub tail_true : (p q : Bool) → (p && q) ≡ true → q ≡ true
tail_true true q h = h
tail_true false q h = absurd (cc)

pub both : {p q : Bool} → p ≡ true → q ≡ true → (p && q) ≡ true
both {p} {q} h k = rw (h, k) refl

cons_same : {b c : ℕ} {ds es : List ℕ} → b ≡ c → ds ≡ es → b ∷ ds ≡ c ∷ es
cons_same p q = cc

-- a suffix is one byte at most
short : (a b : ℕ) (bs : List ℕ) → is_suffix (a ∷ b ∷ bs) ≡ true → ⊥
short a b bs h = cc

-- where a suffix begins with this byte, it is that byte
one : (b : ℕ) (bs : List ℕ) → is_suffix (b ∷ bs) ≡ true → is_suffix (b ∷ []) ≡ true
one b [] h = h
one b (c ∷ cs) h = absurd (short b c cs h)

-- the same of a text that is a suffix
begun : (b : ℕ) (bs w : List ℕ) → is_suffix w ≡ true → w ≡ b ∷ bs → is_suffix (b ∷ []) ≡ true
begun b bs w s e = one b bs (ap is_suffix (sym e) ∙ s)

-- Two texts that begin with a word or not: if one can tell from the text whether it does, both do or none does.
same_front : (p : List ℕ) (m n : Bool) (u v : List ℕ) → ((r : List ℕ) → when m p ++ u ≡ p ++ r → m ≡ true) → ((r : List ℕ) → v ≡ p ++ r → ⊥)
    → when m p ++ u ≡ when n p ++ v → (m ≡ n) × (u ≡ v)
same_front p true true u v there none e = (refl, append_cancel_left p u v e)
same_front p true false u v there none e = absurd (none u (sym e))
same_front p false true u v there none e = absurd (let f : false ≡ true = there v e in cc)
same_front p false false u v there none e = (refl, e)

-- ---- digits and a suffix

-- digits and a suffix begin with no minus
no_sign : (h : Bool) (ds w r : List ℕ) → list_all (is_digit h) ds ≡ true → is_suffix w ≡ true → ds ++ w ≡ 45 ∷ r → ⊥
no_sign h [] w r d s e = let f = begun 45 r w s e in cc
no_sign h (b ∷ ds) w r d s e = no_minus h (let f : b ≡ 45 = cc in ap (is_digit h) (sym f) ∙ head_true _ _ d)

-- nor with `0x`
no_base : (h : Bool) (ds w r : List ℕ) → list_all (is_digit h) ds ≡ true → is_suffix w ≡ true → ds ++ w ≡ 48 ∷ 120 ∷ r → ⊥
no_base h [] w r d s e = let f = begun 48 (120 ∷ r) w s e in cc
no_base h (b ∷ []) w r d s e = let t : w ≡ 120 ∷ r = cc in let f = begun 120 r w s t in cc
no_base h (b ∷ c ∷ ds) w r d s e = no_x h (let f : c ≡ 120 = cc in ap (is_digit h) (sym f) ∙ head_true _ _ (tail_true _ _ d))

-- where digits end and the suffix begins is seen
same_digits : (h : Bool) (ds w es v : List ℕ) → list_all (is_digit h) ds ≡ true → is_suffix w ≡ true → list_all (is_digit h) es ≡ true → is_suffix v ≡ true
    → ds ++ w ≡ es ++ v → (ds ≡ es) × (w ≡ v)
same_digits h [] w [] v d s f t e = (refl, e)
same_digits h [] w (b ∷ es) v d s f t e = absurd (no_mark h b (head_true _ _ f) (begun b (es ++ v) w s e))
same_digits h (b ∷ ds) w [] v d s f t e = absurd (no_mark h b (head_true _ _ d) (begun b (ds ++ w) v t (sym e)))
same_digits h (b ∷ ds) w (c ∷ es) v d s f t e =
    let tails : ds ++ w ≡ es ++ v = cc in
    let heads : b ≡ c = cc in
    let rest : (ds ≡ es) × (w ≡ v) = same_digits h ds w es v (tail_true _ _ d) s (tail_true _ _ f) t tails in
    (cons_same heads rest.0, rest.1)

-- ---- whole texts

-- a number's text without its sign
unsigned_of : Number → List ℕ
unsigned_of n = when n.hexadecimal (codes "0x") ++ (n.digits ++ n.suffix)

-- the text is a sign or none, and that
whole_of : {text : List ℕ} {n : Number} → Spells text n → text ≡ when n.negative (codes "-") ++ unsigned_of n
unfolding unsigned_of
whole_of s = s.spelled ∙ simp append_assoc

-- a zero is no minus
zero_first : (xs r : List ℕ) → 48 ∷ xs ≡ 45 ∷ r → ⊥
zero_first xs r e = cc

-- `0x` or none, digits and a suffix begin with no sign
based_no_sign : (h : Bool) (ds w r : List ℕ) → list_all (is_digit h) ds ≡ true → is_suffix w ≡ true
    → when h (codes "0x") ++ (ds ++ w) ≡ codes "-" ++ r → ⊥
based_no_sign true ds w r d s e = zero_first (120 ∷ (ds ++ w)) r e
based_no_sign false ds w r d s e = no_sign false ds w r d s e

-- without its sign a number begins with none
no_sign_of : {text : List ℕ} {n : Number} → Spells text n → (r : List ℕ) → unsigned_of n ≡ codes "-" ++ r → ⊥
unfolding unsigned_of
no_sign_of {text} {n} s r e = based_no_sign n.hexadecimal n.digits n.suffix r s.digits s.suffix e

-- behind `0x` stands none
no_base_of : {text : List ℕ} {n : Number} → Spells text n → (r : List ℕ) → n.digits ++ n.suffix ≡ codes "0x" ++ r → ⊥
no_base_of {text} {n} s r e = no_base n.hexadecimal n.digits n.suffix r s.digits s.suffix e

-- What is found by stripping a number's text are its digits.
pub digits_found : (text unsigned rest digits : List ℕ) (negative hexadecimal : Bool)
    → text ≡ when negative (codes "-") ++ unsigned → ((r : List ℕ) → text ≡ codes "-" ++ r → negative ≡ true)
    → unsigned ≡ when hexadecimal (codes "0x") ++ rest → ((r : List ℕ) → unsigned ≡ codes "0x" ++ r → hexadecimal ≡ true)
    → ((h : Bool) (ds w : List ℕ) → list_all (is_digit h) ds ≡ true → is_suffix w ≡ true → rest ≡ ds ++ w → digits ≡ ds)
    → IsNumber text → (0 < length digits) × (list_all (is_digit hexadecimal) digits ≡ true)
unfolding unsigned_of
digits_found text unsigned rest digits m h sign signed base based found (n, s) =
    let front = same_front _ m n.negative unsigned (unsigned_of n) (λ r e. signed r (sign ∙ e)) (no_sign_of s) (sym sign ∙ whole_of s) in
    let next = same_front _ h n.hexadecimal rest (n.digits ++ n.suffix) (λ r e. based r (base ∙ e)) (no_base_of s) (sym base ∙ front.1) in
    let same : digits ≡ n.digits = found n.hexadecimal n.digits n.suffix s.digits s.suffix next.1 in
    rw (same, next.0) (s.some, s.digits)

-- where a text doesn't begin with a word, one can tell whether the word was put before it
told : (p : List ℕ) (m : Bool) (u : List ℕ) → ((r : List ℕ) → u ≡ p ++ r → ⊥) → (r : List ℕ) → when m p ++ u ≡ p ++ r → m ≡ true
told p true u none r e = refl
told p false u none r e = absurd (none r e)

abbrev made : Bool → Bool → List ℕ → List ℕ → Number
made m h ds w = record { negative = m; hexadecimal = h; digits = ds; suffix = w }

-- numbers of the same parts are the same
same_made : {m n h g : Bool} {ds es w v : List ℕ} → m ≡ n → h ≡ g → ds ≡ es → w ≡ v → made m h ds w ≡ made n g es v
same_made p q r s = cc

-- A text spells one number at most.
pub determined : (text : List ℕ) (m n : Number) → Spells text m → Spells text n → m ≡ n
unfolding unsigned_of
determined text m n s t =
    let signs = told _ m.negative (unsigned_of m) (no_sign_of s) in
    let front = same_front _ m.negative n.negative (unsigned_of m) (unsigned_of n) signs (no_sign_of t) (sym (whole_of s) ∙ whole_of t) in
    let bases = told _ m.hexadecimal (m.digits ++ m.suffix) (no_base_of s) in
    let next = same_front _ m.hexadecimal n.hexadecimal (m.digits ++ m.suffix) (n.digits ++ n.suffix) bases (no_base_of t) front.1 in
    let digits : list_all (is_digit n.hexadecimal) m.digits ≡ true = rw next.0 at s.digits in
    let last = same_digits n.hexadecimal m.digits m.suffix n.digits n.suffix digits s.suffix t.digits t.suffix next.1 in
    same_made front.0 next.0 last.0 last.1

-- ---- what is cut

-- the parts of a text, if they have digits, are its number
pub spelled_by_parts : (text : List ℕ) (p : Parts) (cut : IsCut text p) → HasDigits p → Spells text (number_of p cut.0)
spelled_by_parts text p (w, suffix, whole) d = record { spelled = whole; some = d.0; digits = d.1; suffix = suffix }

-- and its only one
pub only_parts : (text : List ℕ) (p : Parts) (cut : IsCut text p) → HasDigits p → (n : Number) → Spells text n → n ≡ number_of p cut.0
only_parts text p cut d n s = determined text n (number_of p cut.0) s (spelled_by_parts text p cut d)

-- digits of either base are hexadecimal ones
digit_is_hexadecimal : (h : Bool) (b : ℕ) → is_digit h b ≡ true → is_hexadecimal b ≡ true
digit_is_hexadecimal true b d = d
digit_is_hexadecimal false b d = grind (arith, nat_tests)

pub digits_are_hexadecimal : (h : Bool) (ds : List ℕ) → list_all (is_digit h) ds ≡ true → list_all is_hexadecimal ds ≡ true
digits_are_hexadecimal h [] d = refl
digits_are_hexadecimal h (b ∷ ds) d = both (digit_is_hexadecimal h b (head_true _ _ d)) (digits_are_hexadecimal h ds (tail_true _ _ d))
