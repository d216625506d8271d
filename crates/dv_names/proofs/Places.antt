-- A refusal stands where the longest front ends with which a text of the language begins.
use Rattle.std.proofs.Common.{◌≡◌, ℕ, zero, suc, ◌+◌, ◌<◌, ◌≤◌, Bool, true, false, cond, eqb, ltb, List, [], ◌∷◌, ◌++◌, length, get_or, take, Option, Some, None, ◌⊎◌, inl, inr, refl, sym, ap, subst, ◌∙◌, arith}
use Rattle.std.specs.Prelude.{codes, IfSome, ◌==◌}
use Rattle.std.specs.Option.{option_and_then, option_map_or, is_some}
use Rattle.std.specs.List.{list_any}
use Rattle.std.proofs.lemmas.List.{length-append, take_at, get_or_at}
use Rattle.std.proofs.lemmas.Bool.{cond-true, cond-false, eq-eqb, cases_lt, or_cases, or_parts, eqb-true}
use Rattle.dv_names.specs.declared.error.NameError.{NameError}
use Rattle.dv_names.specs.declared.error.NameError.TheVariants as error
use Rattle.dv_names.specs.Descriptors.{is_name_byte}
use Rattle.dv_names.specs.Faults.{IsTypeText, IsProtoText, Begins, IsLongest, IsFloatAt, FailsAt}
use Rattle.dv_names.specs.Grammar.{Position, Alone, Parameter, Returned, Part, Before, Within, Angle, Special, Mode, Open, Parameters, Return, Array, Name, Whole, mode_behind, primitive_of, is_float_letter, takes_type, step, after, refusal, refused_end, refused_byte, type_refusal, proto_refusal, Refuses}
use Rattle.dv_names.proofs.Steps.{after-append, after_both}
use Rattle.dv_names.proofs.Types.{type_run}
use Rattle.dv_names.proofs.Protos.{proto_run}
use Rattle.dv_names.proofs.Fronts.{type_text, proto_text}

-- ---- where reading stops

-- nothing goes on from the mode n with what is left, which stands at the place
abbrev Stuck : Mode → ℕ → List ℕ → NameError → Type 0
Stuck n place [] e = refused_end n place ≡ Some e
Stuck n place (b ∷ rest) e = (step n b ≡ None) × (refused_byte n b place ≡ e)

record Stop (m : Mode) (at : ℕ) (text : List ℕ) (e : NameError) : Type 0 where
  front : List ℕ
  rest : List ℕ
  mode : Mode
  split : text ≡ front ++ rest
  reached : after m front ≡ Some mode
  cause : Stuck mode (at + length front) rest e

stop_by : (m : Mode) (at b : ℕ) (text : List ℕ) (e : NameError) (o : Option Mode) → step m b ≡ o
    → ((k : Mode) → refusal k (suc at) text ≡ Some e → Stop k (suc at) text e)
    → option_map_or (λ k. refusal k (suc at) text) o (Some (refused_byte m b at)) ≡ Some e → Stop m at (b ∷ text) e
stop_by m at b text e None is ih h =
    let same : refused_byte m b at ≡ e = cc in
    let place : at ≡ at + 0 = omega arith in
    record { front = []; rest = b ∷ text; mode = m; split = refl; reached = refl; cause = (is, ap (refused_byte m b) (sym place) ∙ same) }
stop_by m at b text e (Some k) is ih h =
    let r = ih k h in
    let place : suc at + length r.front ≡ at + suc (length r.front) = omega arith in
    record {
      front = b ∷ r.front;
      rest = r.rest;
      mode = r.mode;
      split = ap (λ l. b ∷ l) r.split;
      reached = ap (option_and_then (λ j. after j r.front)) is ∙ r.reached;
      cause = (let P : ℕ → Type 0 = λ i. Stuck r.mode i r.rest e in subst P place r.cause);
    }

stop : (text : List ℕ) (m : Mode) (at : ℕ) (e : NameError) → refusal m at text ≡ Some e → Stop m at text e
unfolding refusal
stop [] m at e h =
    let place : at ≡ at + 0 = omega arith in
    record { front = []; rest = []; mode = m; split = refl; reached = refl; cause = ap (refused_end m) (sym place) ∙ h }
stop (b ∷ text) m at e h = stop_by m at b text e (step m b) refl (λ k. stop text k (suc at) e) h

-- ---- each mode goes on to the whole

finish : Position → List ℕ
finish Alone = []
finish Parameter = 41 ∷ 86 ∷ []
finish Returned = []

-- what may be left of a name
live_name : Part → List ℕ
live_name Before = 97 ∷ []
live_name Within = []
live_name Angle = codes "init>"
live_name (Special rest) = rest

live : Mode → List ℕ
live Open = 40 ∷ 41 ∷ 86 ∷ []
live Parameters = 41 ∷ 86 ∷ []
live Return = 86 ∷ []
live (Array p k) = 73 ∷ finish p
live (Name p w) = live_name w ++ 59 ∷ finish p
live Whole = []

finish_run : (p : Position) → after (mode_behind p) (finish p) ≡ Some Whole
unfolding finish
finish_run Alone = refl
finish_run Parameter = refl
finish_run Returned = refl

special_live : (p : Position) (rest : List ℕ) → after (Name p (Special rest)) (rest ++ 59 ∷ finish p) ≡ Some Whole
special_live p [] = finish_run p
special_live p (b ∷ rest) = ap (option_and_then (λ n. after n (rest ++ 59 ∷ finish p))) (cond-true (eqb b b) _ _ (eq-eqb b b refl)) ∙ special_live p rest

name_live : (p : Position) (w : Part) → after (Name p w) (live_name w ++ 59 ∷ finish p) ≡ Some Whole
unfolding live_name
name_live p Before = finish_run p
name_live p Within = finish_run p
name_live p Angle = finish_run p
name_live p (Special rest) = special_live p rest

live_run : (m : Mode) → after m (live m) ≡ Some Whole
unfolding live
live_run Open = refl
live_run Parameters = refl
live_run Return = refl
live_run (Array p k) = finish_run p
live_run (Name p w) = name_live p w
live_run Whole = refl

-- ---- floats

end_is : (n : Mode) (place : ℕ) (e : NameError) → refused_end n place ≡ Some e → e ≡ error.BadDescriptor place
end_is Open place e h = cc
end_is Parameters place e h = cc
end_is Return place e h = cc
end_is (Array p k) place e h = cc
end_is (Name p w) place e h = cc
end_is Whole place e h = absurd (cc)

float_is : (takes float : Bool) (place q : ℕ) → cond takes (cond float (error.FloatType place) (error.BadDescriptor place)) (error.BadDescriptor place) ≡ error.FloatType q
    → (q ≡ place) × (takes ≡ true) × (float ≡ true)
float_is true true place q h = (cc, refl, refl)
float_is true false place q h = absurd (cc)
float_is false float place q h = absurd (cc)

bad_is : (takes float : Bool) (place q : ℕ) → cond takes (cond float (error.FloatType place) (error.BadDescriptor place)) (error.BadDescriptor place) ≡ error.BadDescriptor q
    → (q ≡ place) × ((takes ≡ false) ⊎ (float ≡ false))
bad_is true true place q h = absurd (cc)
bad_is true false place q h = (cc, inr refl)
bad_is false float place q h = (cc, inl refl)

int_run : (n : Mode) → takes_type n ≡ true → (k : Mode) × (after n (73 ∷ []) ≡ Some k)
int_run Open t = absurd (cc)
int_run Parameters t = (Parameters, refl)
int_run Return t = (Whole, refl)
int_run (Array p k) t = (mode_behind p, refl)
int_run (Name p w) t = absurd (cc)
int_run Whole t = absurd (cc)

-- no I is still to come of a special name
abbrev IsFine : Mode → Type 0
IsFine (Name p (Special rest)) = list_any (λ c. 73 == c) rest ≡ false
IsFine m = Unit {0}

one_of : (t : Bool) (x y : Option Mode) → IfSome x IsFine → IfSome y IsFine → IfSome (cond t x y) IsFine
one_of true x y f g = f
one_of false x y f g = g

behind_fine : (p : Position) → IsFine (mode_behind p)
behind_fine Alone = tt
behind_fine Parameter = tt
behind_fine Returned = tt

type_fine : (p : Position) (n b : ℕ) → IfSome (step (Array p n) b) IsFine
type_fine p n b = one_of (eqb b 91) _ _ (one_of (ltb n 255) _ None tt tt) (one_of (is_some (primitive_of b)) _ _ (behind_fine p) (one_of (eqb b 76) _ None tt tt))

name_fine : (p : Position) (w : Part) (b : ℕ) → IsFine (Name p w) → IfSome (step (Name p w) b) IsFine
name_fine p Before b fine = one_of (is_name_byte b) _ _ tt (one_of (eqb b 60) _ None tt tt)
name_fine p Within b fine = one_of (is_name_byte b) _ _ tt (one_of (eqb b 47) _ _ tt (one_of (eqb b 59) _ None (behind_fine p) tt))
name_fine p Angle b fine = one_of (eqb b 105) _ _ refl (one_of (eqb b 99) _ None refl tt)
name_fine p (Special []) b fine = one_of (eqb b 47) _ _ tt (one_of (eqb b 59) _ None (behind_fine p) tt)
name_fine p (Special (c ∷ rest)) b fine = one_of (eqb b c) _ None (or_parts (eqb 73 c) (list_any (λ z. 73 == z) rest) fine).1 tt

step_fine : (m : Mode) (b : ℕ) → IsFine m → IfSome (step m b) IsFine
step_fine Open b fine = one_of (eqb b 40) _ None tt tt
step_fine Parameters b fine = one_of (eqb b 41) _ _ tt (type_fine Parameter 0 b)
step_fine Return b fine = one_of (eqb b 86) _ _ tt (type_fine Returned 0 b)
step_fine (Array p n) b fine = type_fine p n b
step_fine (Name p w) b fine = name_fine p w b fine
step_fine Whole b fine = tt

fine_by : (o : Option Mode) (text : List ℕ) (n : Mode) → IfSome o IsFine → ((k : Mode) → IsFine k → after k text ≡ Some n → IsFine n) → option_and_then (λ k. after k text) o ≡ Some n → IsFine n
fine_by None text n fine ih e = absurd (cc)
fine_by (Some k) text n fine ih e = ih k fine e

after_fine : (text : List ℕ) (m n : Mode) → IsFine m → after m text ≡ Some n → IsFine n
after_fine [] m n fine e =
    let same : m ≡ n = cc in
    subst IsFine same fine
after_fine (b ∷ text) m n fine e = fine_by (step m b) text n (step_fine m b fine) (λ k. after_fine text k n) e

float_goes : (p : Position) (w : Part) (b : ℕ) → step (Name p w) 70 ≡ Some (Name p Within) → step (Name p w) 68 ≡ Some (Name p Within) → is_float_letter b ≡ true → step (Name p w) b ≡ None → ⊥
float_goes p w b f d float none =
    elim (or_cases (eqb b 70) (eqb b 68) float) [
      | inl e ↦ (let h : Some (Name p Within) ≡ None = sym f ∙ ap (step (Name p w)) (sym (eqb-true b 70 e)) ∙ none in absurd (cc))
      | inr e ↦ (let h : Some (Name p Within) ≡ None = sym d ∙ ap (step (Name p w)) (sym (eqb-true b 68 e)) ∙ none in absurd (cc))
    ]

no_int_name : (p : Position) (w : Part) (k : Mode) (b : ℕ) → IsFine (Name p w) → is_float_letter b ≡ true → step (Name p w) b ≡ None → after (Name p w) (73 ∷ []) ≡ Some k → ⊥
no_int_name p Before k b fine float none run = float_goes p Before b refl refl float none
no_int_name p Within k b fine float none run = float_goes p Within b refl refl float none
no_int_name p Angle k b fine float none run = absurd (cc)
no_int_name p (Special []) k b fine float none run = absurd (cc)
no_int_name p (Special (c ∷ rest)) k b fine float none run =
    let other = (or_parts (eqb 73 c) (list_any (λ z. 73 == z) rest) fine).0 in
    let h : None ≡ Some k = sym (ap (option_and_then (λ n. Some n)) (cond-false (eqb 73 c) (Some (Name p (Special rest))) None other)) ∙ run in
    absurd (cc)

no_int : (n k : Mode) (b : ℕ) → IsFine n → takes_type n ≡ false → is_float_letter b ≡ true → step n b ≡ None → after n (73 ∷ []) ≡ Some k → ⊥
no_int Open k b fine t float none run = absurd (cc)
no_int Parameters k b fine t float none run = absurd (cc)
no_int Return k b fine t float none run = absurd (cc)
no_int (Array p j) k b fine t float none run = absurd (cc)
no_int (Name p w) k b fine t float none run = no_int_name p w k b fine float none run
no_int Whole k b fine t float none run = absurd (cc)

-- ---- a language that is read from a mode to the whole

reached_by : (o : Option Mode) (more : List ℕ) → option_and_then (λ k. after k more) o ≡ Some Whole → (n : Mode) × (o ≡ Some n)
reached_by None more e = absurd (cc)
reached_by (Some n) more e = (n, refl)

past : (front : List ℕ) (b : ℕ) (rest : List ℕ) (n : ℕ) → length front < n → (more : List ℕ) × (take n (front ++ b ∷ rest) ≡ front ++ b ∷ more)
past [] b rest zero lt = absurd (omega arith)
past [] b rest (suc n) lt = (take n rest, refl)
past (c ∷ front) b rest zero lt = absurd (omega arith)
past (c ∷ front) b rest (suc n) lt = let r = past front b rest n (omega arith) in (r.0, ap (λ l. c ∷ l) r.1)

module _ (Is : List ℕ → Type 0) (start : Mode) (fine : IsFine start) (reads : (text : List ℕ) → after start text ≡ Some Whole → Is text) (runs : (text : List ℕ) → Is text → after start text ≡ Some Whole) where
  begins : (front : List ℕ) (n : Mode) → after start front ≡ Some n → Begins Is front
  begins front n e = (live n, reads (front ++ live n) (after_both front (live n) start n e ∙ live_run n))

  reached : (front : List ℕ) → Begins Is front → (n : Mode) × (after start front ≡ Some n)
  reached front h = reached_by (after start front) h.0 (sym (after-append front h.0 start) ∙ runs (front ++ h.0) h.1)

  module _ (text front rest : List ℕ) (mode : Mode) (split : text ≡ front ++ rest) (run : after start front ≡ Some mode) where
    front_is : take (length front) text ≡ front
    front_is = ap (take (length front)) split ∙ take_at front rest (length front) refl

    front_begins : Begins Is (take (length front) text)
    front_begins = let P : List ℕ → Type 0 = λ l. Begins Is l in subst P (sym front_is) (begins front mode run)

    within : length front ≤ length text
    within = omega (arith, ap length split, length-append front rest)

    longest_end : rest ≡ [] → IsLongest Is text (length front)
    longest_end none = record {
      within = within;
      begins = front_begins;
      longest = λ n le h. omega (arith, le, ap length split, length-append front rest, ap length none);
    }

    no_longer : (b : ℕ) (others : List ℕ) → rest ≡ b ∷ others → step mode b ≡ None → (n : ℕ) → length front < n → Begins Is (take n text) → ⊥
    no_longer b others is none n lt h =
        let p = past front b others n lt in
        let taken : take n text ≡ front ++ b ∷ p.0 = ap (take n) (split ∙ ap (λ l. front ++ l) is) ∙ p.1 in
        let r = reached (take n text) h in
        let stopped : None ≡ Some r.0 =
        sym (ap (after start) taken ∙ after_both front (b ∷ p.0) start mode run ∙ ap (option_and_then (λ k. after k p.0)) none) ∙ r.1 in
        absurd (cc)

    longest_byte : (b : ℕ) (others : List ℕ) → rest ≡ b ∷ others → step mode b ≡ None → IsLongest Is text (length front)
    longest_byte b others is none = record {
      within = within;
      begins = front_begins;
      longest = λ n le h. elim (cases_lt (length front) n) [ inl lt ↦ absurd (no_longer b others is none n lt h) | inr le' ↦ le' ];
    }

    byte_is : (b : ℕ) (others : List ℕ) → rest ≡ b ∷ others → get_or text (length front) 0 ≡ b
    byte_is b others is = ap (λ l. get_or l (length front) 0) (split ∙ ap (λ l. front ++ l) is) ∙ get_or_at front b others 0 (length front) refl

    float_at : (b : ℕ) (others : List ℕ) → rest ≡ b ∷ others → takes_type mode ≡ true → is_float_letter b ≡ true → IsFloatAt Is text (length front)
    float_at b others is takes float =
        let r = int_run mode takes in
        let run_on = begins (front ++ 73 ∷ []) r.0 (after_both front (73 ∷ []) start mode run ∙ r.1) in (
          omega (arith, ap length split, length-append front rest, ap length is),
          ap is_float_letter (byte_is b others is) ∙ float,
          (let P : List ℕ → Type 0 = λ l. Begins Is (l ++ 73 ∷ []) in subst P (sym front_is) run_on),
        )

    no_float_at : (b : ℕ) (others : List ℕ) → rest ≡ b ∷ others → step mode b ≡ None → (takes_type mode ≡ false) ⊎ (is_float_letter b ≡ false) → IsFloatAt Is text (length front) → ⊥
    no_float_at b others is none (inl takes) h =
        let r = reached (take (length front) text ++ 73 ∷ []) h.2 in
        let run_on = sym (ap (λ l. after start (l ++ 73 ∷ [])) front_is ∙ after_both front (73 ∷ []) start mode run) ∙ r.1 in
        no_int mode r.0 b (after_fine front start mode fine run) takes (sym (ap is_float_letter (byte_is b others is)) ∙ h.1) none run_on
    no_float_at b others is none (inr float) h =
        let clash : false ≡ true = sym float ∙ sym (ap is_float_letter (byte_is b others is)) ∙ h.1 in
        absurd (cc)

  at_end : (text front : List ℕ) (mode : Mode) (e : NameError) → text ≡ front ++ [] → after start front ≡ Some mode → e ≡ error.BadDescriptor (length front) → FailsAt Is text e
  at_end text front mode e split run is =
      let P : NameError → Type 0 = λ x. FailsAt Is text x in
      subst P (sym is) (longest_end text front [] mode split run refl, λ h. omega (arith, h.0, ap length split, length-append front []))

  at_byte : (text front : List ℕ) (mode : Mode) (b : ℕ) (others : List ℕ) (e : NameError) → text ≡ front ++ b ∷ others → after start front ≡ Some mode → step mode b ≡ None
      → refused_byte mode b (length front) ≡ e → FailsAt Is text e
  at_byte text front mode b others (error.BadDescriptor q) split run none is =
      let h = bad_is (takes_type mode) (is_float_letter b) (length front) q is in
      let P : ℕ → Type 0 = λ i. FailsAt Is text (error.BadDescriptor i) in
      subst P (sym h.0) (longest_byte text front (b ∷ others) mode split run b others refl none, no_float_at text front (b ∷ others) mode split run b others refl none h.1)
  at_byte text front mode b others (error.FloatType q) split run none is =
      let h = float_is (takes_type mode) (is_float_letter b) (length front) q is in
      let P : ℕ → Type 0 = λ i. FailsAt Is text (error.FloatType i) in
      subst P (sym h.0) (longest_byte text front (b ∷ others) mode split run b others refl none, float_at text front (b ∷ others) mode split run b others refl h.1 h.2)
  at_byte text front mode b others error.Memory split run none is = tt

  at_stop : (text front rest : List ℕ) (mode : Mode) (e : NameError) → text ≡ front ++ rest → after start front ≡ Some mode → Stuck mode (0 + length front) rest e → FailsAt Is text e
  at_stop text front [] mode e split run cause =
      let place : 0 + length front ≡ length front = omega arith in
      at_end text front mode e split run (end_is mode (0 + length front) e cause ∙ ap (λ i. error.BadDescriptor i) place)
  at_stop text front (b ∷ rest) mode e split run cause =
      let place : length front ≡ 0 + length front = omega arith in
      at_byte text front mode b rest e split run cause.0 (ap (refused_byte mode b) place ∙ cause.1)

  fails : (text : List ℕ) (e : NameError) → refusal start 0 text ≡ Some e → FailsAt Is text e
  fails text e h = let s = stop text start 0 e h in at_stop text s.front s.rest s.mode e s.split s.reached s.cause

  fails_by : (text : List ℕ) (e : NameError) → Refuses e (refusal start 0 text) → FailsAt Is text e
  fails_by text (error.BadDescriptor n) h = fails text (error.BadDescriptor n) h
  fails_by text (error.FloatType n) h = fails text (error.FloatType n) h
  fails_by text error.Memory h = tt

type_is_read : (text : List ℕ) → IsTypeText text → after (Array Alone 0) text ≡ Some Whole
type_is_read text h = sym (ap (after (Array Alone 0)) h.2) ∙ type_run Alone h.0 h.1

proto_is_read : (text : List ℕ) → IsProtoText text → after Open text ≡ Some Whole
proto_is_read text h = sym (ap (after Open) h.2) ∙ proto_run h.0 h.1

pub type_fails : (text : List ℕ) (e : NameError) → Refuses e (type_refusal text) → FailsAt IsTypeText text e
type_fails text e h = fails_by IsTypeText (Array Alone 0) tt type_text type_is_read text e h

pub proto_fails : (text : List ℕ) (e : NameError) → Refuses e (proto_refusal text) → FailsAt IsProtoText text e
proto_fails text e h = fails_by IsProtoText Open tt proto_text proto_is_read text e h
