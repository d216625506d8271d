-- Small facts that many proofs use: contradictions, options, tests by cases, sums.
use Rattle.std.proofs.Common.{◌≡◌, ◌⊎◌, inl, inr, ℕ, suc, Bool, true, false, Option, Some, None, refl, ◌+◌, arith}
use Rattle.std.specs.Prelude.{is_some}

pub no : {A : Type 0} → false ≡ true → A
no e = absurd (cc)

-- ---- options

pub nothing : {A : Type 0} (B : Type 0) (x : A) → None ≡ Some x → B
nothing B x e = absurd (cc)

pub is_there : {A : Type 0} (o : Option A) → is_some o ≡ true → (x : A) × (o ≡ Some x)
is_there (Some x) e = (x, refl)
is_there None e = no e

-- ---- one test, else another

pub either : (a b : Bool) → elim a [ true ↦ true | false ↦ b ] ≡ true → (a ≡ true) ⊎ (b ≡ true)
either true b e = inl refl
either false b e = inr e

pub by_first : (a b : Bool) → a ≡ true → elim a [ true ↦ true | false ↦ b ] ≡ true
by_first true b e = refl
by_first false b e = no e

pub by_second : (a b : Bool) → b ≡ true → elim a [ true ↦ true | false ↦ b ] ≡ true
by_second true b e = refl
by_second false b e = e

-- ---- one test or another, by a third

pub first_chosen : (b c d : Bool) → b ≡ true → c ≡ true → elim b [ true ↦ c | false ↦ d ] ≡ true
first_chosen true c d e u = u
first_chosen false c d e u = no e

pub second_chosen : (b c d : Bool) → b ≡ false → d ≡ true → elim b [ true ↦ c | false ↦ d ] ≡ true
second_chosen true c d e u = absurd (cc)
second_chosen false c d e u = u

-- ---- sums

pub plus_zero : (n : ℕ) → n + 0 ≡ n
plus_zero n = omega arith

pub zero_plus : (n : ℕ) → n ≡ 0 + n
zero_plus n = omega arith

pub plus_suc : (n m : ℕ) → n + suc m ≡ suc n + m
plus_suc n m = omega arith
