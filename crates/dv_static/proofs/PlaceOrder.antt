-- Places stand in a total order: by address, then by rule.
use Rattle.std.proofs.Common.{◌≡◌, ◌⊎◌, inl, inr, ◌<◌, Bool, true, false, ◌&&◌, ◌||◌, refl, sym, ap, ◌∙◌, arith}
use Rattle.std.specs.Prelude.{nat_eq, nat_lt}
use borrow.Author.Tests.{ltb-true, ltb-false, eqb-true, eq-eqb, lt-ltb}
use Rattle.dv_defs.specs.declared.faults.Rule.{Rule}
use Rattle.dv_defs.specs.declared.faults.Rule.TheVariants as rule
use Rattle.dv_typing.specs.Accepting.{Place, is_before, is_rule_before}

-- one place comes before another by its address, or at the same address by its rule
abbrev Comes : Place → Place → Type 0
Comes p q = (p.at < q.at) ⊎ ((p.at ≡ q.at) × (is_rule_before p.broken q.broken ≡ true))

parts : (x y r : Bool) → (x || (y && r)) ≡ true → (x ≡ true) ⊎ ((y ≡ true) × (r ≡ true))
parts true y r e = inl refl
parts false true true e = inr (refl, refl)
parts false true false e = absurd (cc)
parts false false r e = absurd (cc)

comes : (p q : Place) → is_before p q ≡ true → Comes p q
comes p q e = go (parts (nat_lt p.at q.at) (nat_eq p.at q.at) (is_rule_before p.broken q.broken) e)
  where
    go : (nat_lt p.at q.at ≡ true) ⊎ ((nat_eq p.at q.at ≡ true) × (is_rule_before p.broken q.broken ≡ true)) → Comes p q
    go (inl a) = inl (ltb-true p.at q.at a)
    go (inr b) = inr (eqb-true p.at q.at b.0, b.1)

either : (x y r : Bool) → y ≡ true → r ≡ true → (x || (y && r)) ≡ true
either true y r e f = refl
either false y r e f = cc

before : (p q : Place) → Comes p q → is_before p q ≡ true
before p q (inl a) = ap (λ x. x || (nat_eq p.at q.at && is_rule_before p.broken q.broken)) (lt-ltb p.at q.at a)
before p q (inr b) = either (nat_lt p.at q.at) (nat_eq p.at q.at) (is_rule_before p.broken q.broken) (eq-eqb p.at q.at b.0) b.1

rule_asym : (r s : Rule) → is_rule_before r s ≡ true → is_rule_before s r ≡ true → ⊥
rule_asym (rule.S m) (rule.S n) e f = let a = ltb-true m n e in let b = ltb-true n m f in omega arith
rule_asym (rule.V m) (rule.V n) e f = let a = ltb-true m n e in let b = ltb-true n m f in omega arith
rule_asym (rule.S m) (rule.V n) e f = absurd (cc)
rule_asym (rule.V m) (rule.S n) e f = absurd (cc)

rule_trans : (r s t : Rule) → is_rule_before r s ≡ true → is_rule_before s t ≡ true → is_rule_before r t ≡ true
rule_trans (rule.S k) (rule.S m) (rule.S n) e f = let a = ltb-true k m e in let b = ltb-true m n f in lt-ltb k n (omega arith)
rule_trans (rule.S k) (rule.S m) (rule.V n) e f = refl
rule_trans (rule.S k) (rule.V m) (rule.V n) e f = refl
rule_trans (rule.V k) (rule.V m) (rule.V n) e f = let a = ltb-true k m e in let b = ltb-true m n f in lt-ltb k n (omega arith)
rule_trans (rule.S k) (rule.V m) (rule.S n) e f = absurd (cc)
rule_trans (rule.V k) (rule.S m) t e f = absurd (cc)
rule_trans (rule.V k) (rule.V m) (rule.S n) e f = absurd (cc)

rule_total : (r s : Rule) → is_rule_before r s ≡ false → is_rule_before s r ≡ false → r ≡ s
rule_total (rule.S m) (rule.S n) e f = let a = ltb-false m n e in let b = ltb-false n m f in let q : m ≡ n = omega arith in ap rule.S q
rule_total (rule.V m) (rule.V n) e f = let a = ltb-false m n e in let b = ltb-false n m f in let q : m ≡ n = omega arith in ap rule.V q
rule_total (rule.S m) (rule.V n) e f = absurd (cc)
rule_total (rule.V m) (rule.S n) e f = absurd (cc)

asym_by : (p q : Place) → Comes p q → Comes q p → ⊥
asym_by p q (inl a) (inl b) = omega arith
asym_by p q (inl a) (inr b) = let e = b.0 in omega arith
asym_by p q (inr a) (inl b) = let e = a.0 in omega arith
asym_by p q (inr a) (inr b) = rule_asym p.broken q.broken a.1 b.1

pub asym : (p q : Place) → is_before p q ≡ true → is_before q p ≡ true → ⊥
asym p q e f = asym_by p q (comes p q e) (comes q p f)

trans_by : (p q r : Place) → Comes p q → Comes q r → Comes p r
trans_by p q r (inl a) (inl b) = inl (omega arith)
trans_by p q r (inl a) (inr b) = let e = b.0 in inl (omega arith)
trans_by p q r (inr a) (inl b) = let e = a.0 in inl (omega arith)
trans_by p q r (inr a) (inr b) = inr (a.0 ∙ b.0, rule_trans p.broken q.broken r.broken a.1 b.1)

pub trans : (p q r : Place) → is_before p q ≡ true → is_before q r ≡ true → is_before p r ≡ true
trans p q r e f = before p r (trans_by p q r (comes p q e) (comes q r f))

no_part : (x y r : Bool) → (x || (y && r)) ≡ false → x ≡ false
no_part true y r e = absurd (cc)
no_part false y r e = refl

no_second : (x y r : Bool) → (x || (y && r)) ≡ false → y ≡ true → r ≡ false
no_second true y r e f = absurd (cc)
no_second false true r e f = e
no_second false false r e f = absurd (cc)

-- neither before the other: they are the same
pub total : (p q : Place) → is_before p q ≡ false → is_before q p ≡ false → p ≡ q
total p q e f =
    let a = ltb-false p.at q.at (no_part (nat_lt p.at q.at) (nat_eq p.at q.at) (is_rule_before p.broken q.broken) e) in
    let b = ltb-false q.at p.at (no_part (nat_lt q.at p.at) (nat_eq q.at p.at) (is_rule_before q.broken p.broken) f) in
    let here : p.at ≡ q.at = omega arith in
    let g = no_second (nat_lt p.at q.at) (nat_eq p.at q.at) (is_rule_before p.broken q.broken) e (eq-eqb p.at q.at here) in
    let h = no_second (nat_lt q.at p.at) (nat_eq q.at p.at) (is_rule_before q.broken p.broken) f (eq-eqb q.at p.at (sym here)) in
    let same = rule_total p.broken q.broken g h in
    λ i. record { at = here i; broken = same i }
