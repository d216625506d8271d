-- Small facts of truth values, and of what isn't refused.
use Rattle.std.proofs.Common.{◌≡◌, ℕ, ◌<◌, zero, suc, Bool, true, false, not, ◌&&◌, ◌||◌, ◌⊎◌, inl, inr, nat_eq, Option, Some, None, refl, ap, ◌∙◌, arith}
use Rattle.std.specs.Option.{option_or}
use Rattle.std.proofs.lemmas.Bool.Decides.{nat_tests}
use Rattle.dv_defs.specs.declared.faults.LineKind.{LineKind}
use Rattle.dv_asm.specs.First.{first_line, earlier, when}
use Rattle.dv_asm.specs.Refusals.{refused}

pub both : (p q : Bool) → (p && q) ≡ true → (p ≡ true) × (q ≡ true)
both true q e = (refl, e)
both false q e = absurd (cc)

pub either : (p q : Bool) → (p || q) ≡ true → (p ≡ true) ⊎ (q ≡ true)
either true q e = inl refl
either false q e = inr e

pub neither : (p q : Bool) → (p || q) ≡ false → (p ≡ false) × (q ≡ false)
neither true q e = absurd (cc)
neither false q e = (refl, e)

pub any_left : (p q : Bool) → p ≡ true → (p || q) ≡ true
any_left true q e = refl
any_left false q e = absurd (cc)

pub any_right : (p q : Bool) → q ≡ true → (p || q) ≡ true
any_right true q e = refl
any_right false q e = e

pub not_false : (p : Bool) → not p ≡ false → p ≡ true
not_false true e = refl
not_false false e = absurd (cc)

pub itself : (n : ℕ) → nat_eq n n ≡ true
itself n = grind (arith, nat_tests)

pub none_of : {Y : Type 0} (a b : Option Y) → option_or a b ≡ None → (a ≡ None) × (b ≡ None)
none_of None b none = (refl, none)
none_of (Some y) b none = absurd (cc)

pub refused_none : (k : LineKind) (line : Option ℕ) → refused k line ≡ None → line ≡ None
refused_none k None none = refl
refused_none k (Some line) none = absurd (cc)

-- where a function gives no line below a bound, there is no first one
pub no_line : (f : ℕ → Option ℕ) (n : ℕ) → ((k : ℕ) → k < n → f k ≡ None) → first_line f n ≡ None
no_line f zero none = refl
no_line f (suc n) none = ap (λ o. earlier o (f n)) (no_line f n (λ k within. none k (omega arith))) ∙ none n (omega arith)

pub when_not : {Y : Type 0} (p : Bool) (y : Y) → p ≡ false → when p y ≡ None
when_not p y e = ap (λ c. when c y) e
