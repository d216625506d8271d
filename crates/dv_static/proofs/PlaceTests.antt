-- What the sort and `==` tell of two places.
use Rattle.std.proofs.Common.{◌≡◌, ℕ, Bool, true, false, ◌&&◌, refl, ap, arith}
use Rattle.std.specs.Prelude.{nat_eq}
use Rattle.std.specs.Ordering.{is_lt, nat_cmp, bool_cmp, ordering_then}
use Rattle.std.proofs.lemmas.Bool.Decides.{nat_tests}
use borrow.Author.Tests.{eqb-true}
use Rattle.dv_defs.specs.declared.faults.Rule.{Rule}
use Rattle.dv_defs.specs.declared.faults.Rule.TheVariants as rule
use Rattle.dv_typing.specs.Accepting.{is_before}
use Rattle.dv_static.specs.declared.places.Place.{Place}
use Rattle.dv_static.specs.declared.places.Order.{Order}
use Rattle.dv_static.specs.contracts.places.PlacePartialEq.TheImpl as of_place
use Rattle.dv_static.specs.Placed.{place_of, order_of}

-- what the sort compares by
abbrev pub is_less : Order → Order → Bool
is_less x y = is_lt (ordering_then (nat_cmp x.address y.address) (ordering_then (bool_cmp x.typing y.typing) (nat_cmp x.number y.number)))

abbrev pub less : Place → Place → Bool
less x y = is_less (order_of x) (order_of y)

same_less : (a b : ℕ) (r s : Rule) → is_less (order_of (record { at = a; rule = r })) (order_of (record { at = b; rule = s })) ≡ is_before (record { at = a; broken = r }) (record { at = b; broken = s })
same_less a b (rule.S m) (rule.S n) = grind (arith, nat_tests)
same_less a b (rule.S m) (rule.V n) = grind (arith, nat_tests)
same_less a b (rule.V m) (rule.S n) = grind (arith, nat_tests)
same_less a b (rule.V m) (rule.V n) = grind (arith, nat_tests)

pub less_is : (p q : Place) → less p q ≡ is_before (place_of p) (place_of q)
less_is p q = same_less p.at q.at p.rule q.rule

-- what `==` tells of two places
abbrev pub same : Place → Place → Bool
same = (of_place.ghosts).eq

both : (x y : Bool) → (x && y) ≡ true → (x ≡ true) × (y ≡ true)
both true true e = (refl, refl)
both true false e = absurd (cc)
both false y e = absurd (cc)

same_by : (a b : ℕ) (r s : Rule) → same (record { at = a; rule = r }) (record { at = b; rule = s }) ≡ true → (a ≡ b) × (r ≡ s)
same_by a b (rule.S m) (rule.S n) e = let k = both (nat_eq a b) (nat_eq m n) e in (eqb-true a b k.0, ap rule.S (eqb-true m n k.1))
same_by a b (rule.S m) (rule.V n) e = let k = both (nat_eq a b) false e in absurd (cc (k.1))
same_by a b (rule.V m) (rule.S n) e = let k = both (nat_eq a b) false e in absurd (cc (k.1))
same_by a b (rule.V m) (rule.V n) e = let k = both (nat_eq a b) (nat_eq m n) e in (eqb-true a b k.0, ap rule.V (eqb-true m n k.1))

pub same_is : (p q : Place) → same p q ≡ true → p ≡ q
same_is p q e = let k = same_by p.at q.at p.rule q.rule e in λ i. record { at = k.0 i; rule = k.1 i }

same_itself_by : (a : ℕ) (r : Rule) → same (record { at = a; rule = r }) (record { at = a; rule = r }) ≡ true
same_itself_by a (rule.S m) = grind (arith, nat_tests)
same_itself_by a (rule.V m) = grind (arith, nat_tests)

pub same_itself : (p : Place) → same p p ≡ true
same_itself p = same_itself_by p.at p.rule
