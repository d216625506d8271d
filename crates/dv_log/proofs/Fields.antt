-- The numbers of a schedule's line.
use Rattle.std.proofs.Common.{◌≡◌, ℕ, zero, suc, ◌<◌, ◌≤◌, ◌^◌, Bool, true, false, cond, eqb, leb, ℤ, pos, List, [], ◌∷◌, length, map, get_or, Result, Ok, Err, Option, Some, None, refl, sym, ap, ◌∙◌, arith, inl, inr}
use Rattle.std.specs.Prelude.{◌&&◌, ◌↔◌, ◌⊎◌}
use Rattle.std.specs.Result.{result_ok}
use Rattle.std.proofs.lemmas.Bool.{lt-ltb}
use Rattle.dv_defs.specs.declared.faults.LineError.{LineError}
use Rattle.dv_defs.specs.declared.run.Entry.{Entry}
use Rattle.dv_lex.specs.Lexemes.{Lexeme}
use Rattle.dv_lex.specs.Numbers.{Number, Spells, IsNumber, Means, in_bits, magnitude, negated, signed}
use Rattle.dv_log.specs.Reading.{IsField, IsSomeIn, AreEntry, IsBadLine}
use Rattle.dv_lex.specs.Lines.{line_lexemes, lexemes_in}
use Rattle.dv_lex.specs.declared.token.Token.{Token}
use Rattle.dv_log.proofs.Ways.{tokens_same}

-- ---- in 16 bits a number is itself

kept : (negative hexadecimal le lt w : Bool) (m k : ℕ) (z : ℤ)
    → cond negative (cond le (Some (negated m)) None) (cond lt (Some (pos m)) (cond (hexadecimal && false && w) (Some (negated k)) None)) ≡ Some z
    → cond negative (negated m) (pos m) ≡ z
kept true h true lt w m k z e = cc
kept true h false lt w m k z e = absurd cc
kept false h le true w m k z e = cc
kept false true le false w m k z e = absurd cc
kept false false le false w m k z e = absurd cc

signed_is : (n : Number) (z : ℤ) → in_bits 16 n ≡ Some z → signed n ≡ z
signed_is n z e = kept n.negative n.hexadecimal _ _ _ (magnitude n) _ z e

-- a small number that isn't negative isn't refused
negated_is : (m v : ℕ) → negated m ≡ pos v → m ≡ 0
negated_is zero v e = refl
negated_is (suc m) v e = absurd cc

small : (negative hexadecimal lt w : Bool) (m k v : ℕ)
    → cond negative (cond (leb m 32768) (Some (negated m)) None) (cond lt (Some (pos m)) (cond (hexadecimal && false && w) (Some (negated k)) None)) ≡ None
    → cond negative (negated m) (pos m) ≡ pos v → (m ≡ v → lt ≡ true) → ⊥
small true h lt w m k v e s fits = let z : m ≡ 0 = negated_is m v s in let f = rw z at e in absurd cc
small false h true w m k v e s fits = absurd cc
small false h false w m k v e s fits = let same : m ≡ v = cc in let f : false ≡ true = fits same in absurd cc

not_refused : (n : Number) (v : ℕ) → v < 2 ^ 15 → in_bits 16 n ≡ None → signed n ≡ pos v → ⊥
not_refused n v lt e s = small n.negative n.hexadecimal _ _ (magnitude n) _ v e s (λ same. lt-ltb (magnitude n) 32768 (omega (arith, same)))

-- ---- a field

-- what a call that answers the value means
means_some : (line : ℕ) (r : Result ℤ LineError) (value : ℤ) (found : Option ℤ) → result_ok r ≡ Some value → Means line r found → found ≡ Some value
means_some line (Ok v) value found e h = cc
means_some line (Err x) value found e h = absurd cc

some_or_none : (line : ℕ) (r : Result ℤ LineError) (found : Option ℤ) → Means line r found → (found ≡ None) ⊎ ((value : ℤ) × (result_ok r ≡ Some value) × (found ≡ Some value))
some_or_none line (Ok v) found h = inr (v, refl, h)
some_or_none line (Err x) found h = inl h.1

-- the number of a token, in 16 bits, with what was found in the range
pub field_is : (low high : ℕ) (t : Lexeme) (r : Result ℤ LineError) (found : Option ℕ) → high < 2 ^ 15 → IsNumber t.text → ((n : Number) → Spells t.text n → Means 0 r (in_bits 16 n))
    → ((v : ℕ) → (found ≡ Some v) ↔ IsSomeIn low high (result_ok r) v) → (v : ℕ) → (found ≡ Some v) ↔ IsField low high t v
field_is low high t r found lt number means chosen v = (
  λ e.
      let some = (chosen v).0 e in
      let is = signed_is number.0 some.0 (means_some 0 r some.0 (in_bits 16 number.0) some.1 (means number.0 number.1)) in
      record { number = number.0; spells = number.1; means = rw is some.2 },
  λ f.
      elim (some_or_none 0 r (in_bits 16 f.number) (means f.number f.spells)) [
        | inl none ↦ absurd (not_refused f.number v (omega (arith, f.means.2)) none f.means.0)
        | inr some ↦ (chosen v).1 (some.0, some.1, rw (← signed_is f.number some.0 some.2) f.means)
      ],
)

-- ---- an entry

abbrev pub AreFields : Option ℕ → Option ℕ → Option ℕ → Entry → Type 0
AreFields w t s e = (w ≡ Some e.worker) × (t ≡ Some e.thread) × (s ≡ Some e.steps)

pub three : (ts : List Lexeme) (a b c : Lexeme) (w t s : Option ℕ) (found : Option Entry) → ts ≡ a ∷ b ∷ c ∷ []
    → ((v : ℕ) → (w ≡ Some v) ↔ IsField 0 7 a v) → ((v : ℕ) → (t ≡ Some v) ↔ IsField 0 63 b v) → ((v : ℕ) → (s ≡ Some v) ↔ IsField 1 256 c v)
    → ((e : Entry) → (found ≡ Some e) ↔ AreFields w t s e)
    → (e : Entry) → (found ≡ Some e) ↔ AreEntry ts e
three ts a b c w t s found are worker thread steps whole e = (
  λ h. let f = (whole e).0 h in record {
    first = a;
    second = b;
    third = c;
    three = are;
    worker = (worker e.worker).0 f.0;
    thread = (thread e.thread).0 f.1;
    steps = (steps e.steps).0 f.2;
  },
  λ h.
      let same : a ∷ b ∷ c ∷ [] ≡ h.first ∷ h.second ∷ h.third ∷ [] = sym are ∙ h.three in
      let first : h.first ≡ a = cc in
      let second : h.second ≡ b = cc in
      let third : h.third ≡ c = cc in
      (whole e).1 ((worker e.worker).1 (rw first at h.worker), (thread e.thread).1 (rw second at h.thread), (steps e.steps).1 (rw third at h.steps)),
)

pub map_three : {X Y : Type 0} (f : X → Y) (xs : List X) (d : X) → 3 ≤ length xs → length xs < 4 → map f xs ≡ f (get_or xs 0 d) ∷ f (get_or xs 1 d) ∷ f (get_or xs 2 d) ∷ []
map_three f [] d least most = absurd (omega arith)
map_three f (x ∷ []) d least most = absurd (omega arith)
map_three f (x ∷ y ∷ []) d least most = absurd (omega arith)
map_three f (x ∷ y ∷ z ∷ []) d least most = refl
map_three f (x ∷ y ∷ z ∷ w ∷ xs) d least most = absurd (omega arith)

-- ---- a line that is neither blank nor an entry

some_not_none : (e : Entry) → None ≡ Some e → ⊥
some_not_none e h = cc

pub bad : (line : List ℕ) (ls : List Lexeme) (found : Option Entry) → line_lexemes 0 line ≡ Ok ls → 0 < length ls → found ≡ None → ((e : Entry) → (found ≡ Some e) ↔ AreEntry ls e)
    → IsBadLine line
bad line ls found held some none whole = (
  λ blank. let empty : [] ≡ ls = tokens_same line [] ls blank held in omega (arith, some, ap length empty),
  λ e is.
      let same : is.0 ≡ ls = tokens_same line is.0 ls is.1 held in
      some_not_none e (sym none ∙ (whole e).1 (rw same at is.2)),
)

pub some_tokens : (text : List ℕ) (ts : List Token) (n : ℕ) → n ≡ length ts → eqb n 0 ≡ false → 0 < length (lexemes_in text ts)
some_tokens text [] n e f = absurd (let z : eqb 0 0 ≡ false = rw e at f in cc)
some_tokens text (t ∷ ts) n e f = omega arith
