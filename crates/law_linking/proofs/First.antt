-- Laws of the first of what a function gives.
use Rattle.std.specs.Prelude.{ℕ, zero, suc, ◌≡◌, ◌<◌, ◌+◌, Bool, true, false, Option, Some, None, ◌⊎◌, option_map}
use Rattle.std.specs.Option.{option_or}
use Rattle.std.proofs.Common.{refl, add-one, arith, ⊎_elim}
use Rattle.dv_defs.specs.First.{first_below, when}

less_or_same : (i n : ℕ) → i < suc n → (i < n) ⊎ (i ≡ n)
less_or_same i n within = grind arith

-- one turn of a loop that found nothing
pub first_below_more : {Y : Type 0} (f : ℕ → Option Y) (i : ℕ) → first_below f i ≡ None → f i ≡ None → first_below f (i + 1) ≡ None
first_below_more f i before here = rw (add-one, before) here

-- neither of two is there
pub or_none : {Y : Type 0} (a b : Option Y) → option_or a b ≡ None → (a ≡ None) × (b ≡ None)
or_none None b h = (refl, h)
or_none (Some y) b h = absurd (cc)

-- the turn of a loop that found something
pub first_below_found : {Y : Type 0} (f : ℕ → Option Y) (n i : ℕ) (y : Y) → first_below f i ≡ None → f i ≡ Some y → i < n → first_below f n ≡ Some y
first_below_found f zero i y before here within = absurd (omega arith)
first_below_found f (suc n) i y before here within =
    ⊎_elim (λ less. rw (first_below_found f n i y before here less) refl) (λ same. rw (← same, before) here) (less_or_same i n within)

-- nothing was found: nothing stands there
pub first_below_none : {Y : Type 0} (f : ℕ → Option Y) (n i : ℕ) → first_below f n ≡ None → i < n → f i ≡ None
first_below_none f zero i none within = absurd (omega arith)
first_below_none f (suc n) i none within =
    let parts = or_none (first_below f n) (f n) none in
    ⊎_elim (λ less. first_below_none f n i parts.0 less) (λ same. rw same parts.1) (less_or_same i n within)

-- a test that found nothing failed
pub when_none : {Y : Type 0} (b : Bool) (y : Y) → when b y ≡ None → b ≡ false
when_none true y h = absurd (cc)
when_none false y h = refl

-- what is made of nothing was nothing
pub map_none : {X Y : Type 0} (f : X → Y) (o : Option X) → option_map f o ≡ None → o ≡ None
map_none f None h = refl
map_none f (Some x) h = absurd (cc)
