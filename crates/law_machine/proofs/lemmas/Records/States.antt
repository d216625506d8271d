-- Records of classes on a stack, and the states of classes that they agree with.
use Rattle.std.proofs.Common.{◌≡◌, ◌≢◌, ◌⊎◌, inl, inr, ℕ, zero, suc, ◌+◌, ◌<◌, ◌≤◌, List, [], ◌∷◌, length, Bool, true, false, refl, sym, ap, ◌∙◌, subst, arith}
use Rattle.std.specs.Prelude.{nat_eq, if◌then◌else◌}
use Rattle.std.proofs.lemmas.Bool.{cases_eq, eq-eqb, ne_eqb}
use Rattle.std.proofs.lemmas.List.{get_or-set_same, get_or-set_other}
use Rattle.dv_defs.specs.Images.{Image}
use Rattle.dv_machine.specs.Level.{Level}
use Rattle.dv_machine.specs.Level as level
use Rattle.dv_machine.specs.Classes.{ClassState, Fresh, InProgress, Ready, Erroneous, Classes, state_at, with_state}
use Rattle.dv_machine.specs.Unwinding.{is_opening}
use Rattle.dv_machine.specs.WellTyped.{records, owed}
use Rattle.law_types.proofs.Facts.{no}

abbrev one_if : Bool → ℕ
one_if b = if b then 1 else 0

-- a state in which nobody initialises
abbrev pub IsIdle : ClassState → Type 0
IsIdle s = (u : ℕ) → owed u s ≡ 0

pub state_other : (cs : Classes) (c d : ℕ) (s : ClassState) → d ≢ c → state_at (with_state cs c s) d ≡ state_at cs d
state_other cs c d s n = get_or-set_other cs c d s Fresh n

pub state_there : (cs : Classes) (c : ℕ) (s : ClassState) → c < length cs → state_at (with_state cs c s) c ≡ s
state_there cs c s l = get_or-set_same cs c s Fresh l

-- a class that is set to an idle state is owed no record, even where it is not there
state_idle : (s : ClassState) → IsIdle s → (cs : Classes) (c u : ℕ) → owed u (state_at (with_state cs c s) c) ≡ 0
state_idle s i [] c u = refl
state_idle s i (x ∷ cs) zero u = i u
state_idle s i (x ∷ cs) (suc c) u = state_idle s i cs c u

owed_is : (w t : ℕ) → w ≡ t → owed t (InProgress w) ≡ 1
owed_is w t e = ap one_if (eq-eqb w t e)

owed_not : (w t : ℕ) → w ≢ t → owed t (InProgress w) ≡ 0
owed_not w t d = ap one_if (ne_eqb w t d)

pub owed_most : (s : ClassState) (t : ℕ) → owed t s ≤ 1
owed_most (InProgress w) t = go (nat_eq w t)
  where
    go : (b : Bool) → one_if b ≤ 1
    go true = omega arith
    go false = omega arith
owed_most Fresh t = omega arith
owed_most Ready t = omega arith
owed_most Erroneous t = omega arith

-- one thread alone owes the record of a class
pub owed_once : (s : ClassState) (t u : ℕ) → u ≢ t → 1 ≤ owed t s → owed u s ≡ 0
owed_once (InProgress w) t u d l = go (cases_eq w t)
  where
    go : (w ≡ t) ⊎ (w ≢ t) → owed u (InProgress w) ≡ 0
    go (inl e) = owed_not w u (λ f. d (sym f ∙ e))
    go (inr e) = let z = owed_not w t e in absurd (omega (arith, z))
owed_once Fresh t u d l = absurd (omega arith)
owed_once Ready t u d l = absurd (omega arith)
owed_once Erroneous t u d l = absurd (omega arith)

pub record_same : (c d : ℕ) (r : Bool) (ls : List Level) → d ≡ c → records d (level.Init (record { 0 = c }) r ∷ ls) ≡ 1 + records d ls
record_same c d r ls e = ap (λ (b : Bool). one_if b + records d ls) (eq-eqb d c e)

pub record_other : (c d : ℕ) (r : Bool) (ls : List Level) → d ≢ c → records d (level.Init (record { 0 = c }) r ∷ ls) ≡ records d ls
record_other c d r ls n = ap (λ (b : Bool). one_if b + records d ls) (ne_eqb d c n) ∙ plus (records d ls)
  where
    plus : (k : ℕ) → 0 + k ≡ k
    plus k = omega arith

-- a record goes away, and its class is idle
pub dropped_mine : (t c : ℕ) (r : Bool) (ls : List Level) (cs : Classes) (s : ClassState) → IsIdle s → (d : ℕ) → records d (level.Init (record { 0 = c }) r ∷ ls) ≡ owed t (state_at cs d) → records d ls ≡ owed t (state_at (with_state cs c s) d)
dropped_mine t c r ls cs s i d e = go (cases_eq d c)
  where
    go : (d ≡ c) ⊎ (d ≢ c) → records d ls ≡ owed t (state_at (with_state cs c s) d)
    go (inl f) =
        let a = record_same c d r ls f in
        let b = owed_most (state_at cs d) t in
        let z : owed t (state_at (with_state cs c s) d) ≡ 0 = subst (λ (k : ℕ). owed t (state_at (with_state cs c s) k) ≡ 0) (sym f) (state_idle s i cs c t) in
        omega (arith, a, b, z, e)
    go (inr f) = sym (record_other c d r ls f) ∙ e ∙ sym (ap (owed t) (state_other cs c d s f))

pub dropped_others : (t c : ℕ) (r : Bool) (ls : List Level) (cs : Classes) (s : ClassState) → IsIdle s → (u d : ℕ) → u ≢ t → records d (level.Init (record { 0 = c }) r ∷ ls) ≡ owed t (state_at cs d) → owed u (state_at (with_state cs c s) d) ≡ owed u (state_at cs d)
dropped_others t c r ls cs s i u d n e = go (cases_eq d c)
  where
    go : (d ≡ c) ⊎ (d ≢ c) → owed u (state_at (with_state cs c s) d) ≡ owed u (state_at cs d)
    go (inl f) =
        let a = record_same c d r ls f in
        let z : owed u (state_at (with_state cs c s) d) ≡ 0 = subst (λ (k : ℕ). owed u (state_at (with_state cs c s) k) ≡ 0) (sym f) (state_idle s i cs c u) in
        let y = owed_once (state_at cs d) t u n (omega (arith, a, e)) in
        z ∙ sym y
    go (inr f) = ap (owed u) (state_other cs c d s f)

-- a record is begun
pub begun_mine : (t c : ℕ) (ls : List Level) (cs : Classes) → c < length cs → state_at cs c ≡ Fresh → (d : ℕ) → records d ls ≡ owed t (state_at cs d) → records d (level.Init (record { 0 = c }) false ∷ ls) ≡ owed t (state_at (with_state cs c (InProgress t)) d)
begun_mine t c ls cs l h d e = go (cases_eq d c)
  where
    go : (d ≡ c) ⊎ (d ≢ c) → records d (level.Init (record { 0 = c }) false ∷ ls) ≡ owed t (state_at (with_state cs c (InProgress t)) d)
    go (inl f) =
        let a = record_same c d false ls f in
        let b : records d ls ≡ 0 = e ∙ ap (owed t) (ap (state_at cs) f ∙ h) in
        let z : owed t (state_at (with_state cs c (InProgress t)) d) ≡ 1 = ap (owed t) (ap (state_at (with_state cs c (InProgress t))) f ∙ state_there cs c (InProgress t) l) ∙ owed_is t t refl in
        omega (arith, a, b, z)
    go (inr f) = record_other c d false ls f ∙ e ∙ sym (ap (owed t) (state_other cs c d (InProgress t) f))

pub begun_others : (t c : ℕ) (cs : Classes) → c < length cs → state_at cs c ≡ Fresh → (u d : ℕ) → u ≢ t → owed u (state_at (with_state cs c (InProgress t)) d) ≡ owed u (state_at cs d)
begun_others t c cs l h u d n = go (cases_eq d c)
  where
    go : (d ≡ c) ⊎ (d ≢ c) → owed u (state_at (with_state cs c (InProgress t)) d) ≡ owed u (state_at cs d)
    go (inl f) = ap (owed u) (ap (state_at (with_state cs c (InProgress t))) f ∙ state_there cs c (InProgress t) l) ∙ owed_not t u (λ e. n (sym e)) ∙ sym (ap (owed u) (ap (state_at cs) f ∙ h))
    go (inr f) = ap (owed u) (state_other cs c d (InProgress t) f)

-- the stack below the opening's record has none
pub opening_records : (image : Image) (t c d : ℕ) (ls : List Level) → is_opening image t c ls ≡ true → records d ls ≡ 0
opening_records image t c d [] e = no e
opening_records image t c d (level.Code f ∷ []) e = refl
opening_records image t c d (level.Code f ∷ l ∷ ls) e = no e
opening_records image t c d (level.Init k r ∷ ls) e = no e
