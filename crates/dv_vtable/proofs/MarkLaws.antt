-- Marks of classes that are set one by one.
use Rattle.std.specs.Prelude.{ℕ, zero, suc, ◌≡◌, ◌<◌, ◌+◌, Bool, true, false, List, [], ◌∷◌, ◌++◌, length, take, nat_eq, if◌then◌else◌}
use Rattle.std.proofs.Common.{refl, ap, sym, ◌∙◌, arith, cond, get_or, set}
use Rattle.std.proofs.lemmas.Bool.Decides.{nat_tests}
use Rattle.std.proofs.lemmas.List.{take_more}
use Rattle.dv_defs.specs.declared.names.ClassId.{ClassId}
use Rattle.dv_defs.specs.Order.{has_number, numbers}
use Rattle.dv_vtable.specs.Choosing.{AreMarked}
use Rattle.dv_hier.specs.Interfaces.{added}
use Rattle.dv_hier.proofs.AddedLaws.{added_append}

-- a mark that is written
pub mark_read : (marks : List Bool) (i d : ℕ) (mark : Bool) → i < length marks → get_or (set marks i mark) d false ≡ cond (nat_eq i d) mark (get_or marks d false)
mark_read [] i d mark within = absurd (omega arith)
mark_read (m ∷ marks) zero zero mark within = refl
mark_read (m ∷ marks) zero (suc d) mark within = let other : nat_eq 0 (suc d) ≡ false = grind (arith, nat_tests) in rw other refl
mark_read (m ∷ marks) (suc i) zero mark within = let other : nat_eq (suc i) 0 ≡ false = grind (arith, nat_tests) in rw other refl
mark_read (m ∷ marks) (suc i) (suc d) mark within =
    let same : nat_eq (suc i) (suc d) ≡ nat_eq i d = grind (arith, nat_tests) in rw same (mark_read marks i d mark (omega arith))

-- ---- numbers of classes

pub numbers_append : (xs ys : List ClassId) → numbers (xs ++ ys) ≡ numbers xs ++ numbers ys
numbers_append [] ys = refl
numbers_append (x ∷ xs) ys = ap (λ ns. x.0 ∷ ns) (numbers_append xs ys)

has_last : (d y : ℕ) (xs : List ℕ) → has_number d (xs ++ y ∷ []) ≡ cond (nat_eq y d) true (has_number d xs)
has_last d y [] = by (nat_eq y d)
  where
    by : (b : Bool) → elim b as (λ _. Bool) [ true ↦ true | false ↦ false ] ≡ cond b true false
    by true = refl
    by false = refl
has_last d y (x ∷ xs) = by (nat_eq x d) (nat_eq y d) (has_last d y xs)
  where
    by : (a b : Bool) → has_number d (xs ++ y ∷ []) ≡ cond b true (has_number d xs)
        → elim a as (λ _. Bool) [ true ↦ true | false ↦ has_number d (xs ++ y ∷ []) ] ≡ cond b true (elim a as (λ _. Bool) [ true ↦ true | false ↦ has_number d xs ])
    by true true rest = refl
    by true false rest = refl
    by false b rest = rest

pub numbers_more : (cs : List ClassId) (i : ℕ) (c : ClassId) → i < length cs → c ≡ get_or cs i c → numbers (take (i + 1) cs) ≡ numbers (take i cs) ++ c.0 ∷ []
numbers_more cs i c within is =
    ap numbers (take_more cs i c within ∙ ap (λ d. take i cs ++ d ∷ []) (sym is)) ∙ numbers_append (take i cs) (c ∷ [])

-- ---- turns of loops

-- one class more is marked
pub marked_more : (cs : List ClassId) (i : ℕ) (c : ClassId) (marks : List Bool) (mark : Bool) (old : ℕ → Bool) → i < length cs → c ≡ get_or cs i c → c.0 < length marks
    → ((d : ℕ) → get_or marks d false ≡ (if has_number d (numbers (take i cs)) then mark else old d))
    → (d : ℕ) → get_or (set marks c.0 mark) d false ≡ (if has_number d (numbers (take (i + 1) cs)) then mark else old d)
marked_more cs i c marks mark old within is inside so_far d =
    mark_read marks c.0 d mark inside
    ∙ (by (nat_eq c.0 d) (has_number d (numbers (take i cs))) (so_far d)
    ∙ ap (λ b. cond b mark (old d)) (sym (ap (has_number d) (numbers_more cs i c within is) ∙ has_last d c.0 (numbers (take i cs)))))
  where
    by : (a b : Bool) → get_or marks d false ≡ cond b mark (old d) → cond a mark (get_or marks d false) ≡ cond (cond a true b) mark (old d)
    by true b at = refl
    by false b at = at

-- a class that has no mark is added
pub unmarked_more : (found : List ClassId) (marks : List Bool) (c : ClassId) → c.0 < length marks → AreMarked marks (numbers found)
    → AreMarked (set marks c.0 true) (numbers (found ++ c ∷ []))
unmarked_more found marks c inside marked d =
    mark_read marks c.0 d true inside
    ∙ (ap (cond (nat_eq c.0 d) true) (marked d)
    ∙ sym (ap (has_number d) (numbers_append found (c ∷ [])) ∙ has_last d c.0 (numbers found)))

added_one : (xs : List ℕ) (y : ℕ) (b : Bool) → has_number y xs ≡ b → added xs (y ∷ []) ≡ cond b xs (xs ++ y ∷ [])
added_one xs y true is = ap (λ b. elim b as (λ _. List ℕ) [ true ↦ xs | false ↦ xs ++ y ∷ [] ]) is
added_one xs y false is = ap (λ b. elim b as (λ _. List ℕ) [ true ↦ xs | false ↦ xs ++ y ∷ [] ]) is

module _ (cs : List ClassId) (i : ℕ) (c : ClassId) (old : List ℕ) (found : List ClassId) (marks : List Bool) (within : i < length cs) (is : c ≡ get_or cs i c)
    (marked : AreMarked marks (numbers found)) (so_far : numbers found ≡ added old (numbers (take i cs))) where
  added_next : (b : Bool) → get_or marks c.0 false ≡ b → added old (numbers (take (i + 1) cs)) ≡ cond b (numbers found) (numbers found ++ c.0 ∷ [])
  added_next b at =
      ap (added old) (numbers_more cs i c within is)
      ∙ (added_append old (numbers (take i cs)) (c.0 ∷ [])
      ∙ (ap (λ xs. added xs (c.0 ∷ [])) (sym so_far) ∙ added_one (numbers found) c.0 b (sym (marked c.0) ∙ at)))

  pub added_new : get_or marks c.0 false ≡ false → numbers (found ++ c ∷ []) ≡ added old (numbers (take (i + 1) cs))
  added_new at = numbers_append found (c ∷ []) ∙ sym (added_next false at)

  pub added_there : get_or marks c.0 false ≡ true → numbers found ≡ added old (numbers (take (i + 1) cs))
  added_there at = sym (added_next true at)
