-- Threads as they stand after a step.
use Rattle.std.proofs.Common.{◌≡◌, ◌<◌, ℕ, zero, suc, ◌++◌, true, false, nat_eq, length, List, [], ◌∷◌, refl, ap, sym, ◌∙◌, arith}
use Rattle.std.proofs.Math.Dec.{eqb-suc-zero}
use Rattle.std.specs.Prelude.{Some, slice_get, slice_set}
use Rattle.dv_defs.specs.declared.machine.End.TheVariants as end
use Rattle.dv_words.specs.Step.{end_after, end_flying}
use Rattle.dv_defs.specs.declared.machine.End.{End}
use Rattle.dv_words.specs.declared.state.Level.{Level}
use Rattle.dv_words.specs.State.{WordStack, WordThread}
use Rattle.dv_threads.specs.Kept.{zipped}
use Rattle.dv_core.specs.Machines.{ended_at}

-- a thread that stands otherwise
pub zip_ended : (ss : List WordStack) (es : List End) (os : List ℕ) (t : ℕ) (e : End) → zipped ss (slice_set es t e) os ≡ ended_at (zipped ss es os) t (λ ls. e)
zip_ended [] es os t e = refl
zip_ended (s ∷ ss) [] os t e = refl
zip_ended (s ∷ ss) (f ∷ es) [] zero e = refl
zip_ended (s ∷ ss) (f ∷ es) [] (suc t) e = refl
zip_ended (s ∷ ss) (f ∷ es) (o ∷ os) zero e = refl
zip_ended (s ∷ ss) (f ∷ es) (o ∷ os) (suc t) e = ap (λ ts. record { levels = s.levels; end = f; object = o } ∷ ts) (zip_ended ss es os t e)

-- as its levels tell
pub ended_same : (ts : List WordThread) (t : ℕ) (own : WordThread) (e : End) (f : List Level → End) → slice_get ts t ≡ Some own → e ≡ f own.levels → ended_at ts t (λ ls. e) ≡ ended_at ts t f
ended_same [] t own e f has is = refl
ended_same (x ∷ xs) zero own e f has is =
    let same : x ≡ own = cc in
    ap (λ d. record { levels = x.levels; end = d; object = x.object } ∷ xs) (is ∙ ap (λ (y : WordThread). f y.levels) (sym same))
ended_same (x ∷ xs) (suc t) own e f has is = ap (λ ys. x ∷ ys) (ended_same xs t own e f has is)

-- with the levels that a step left, and a thread that it started
pub ended_left : (ts : List WordThread) (t : ℕ) (own : WordThread) (ls : List Level) (f : List Level → End) (more : List WordThread) → slice_get ts t ≡ Some own →
    ended_at (slice_set ts t (record { levels = ls; end = own.end; object = own.object }) ++ more) t f ≡ slice_set ts t (record { levels = ls; end = f ls; object = own.object }) ++ more
ended_left [] t own ls f more has = absurd (cc)
ended_left (x ∷ xs) zero own ls f more has = refl
ended_left (x ∷ xs) (suc t) own ls f more has = ap (λ ys. x ∷ ys) (ended_left xs t own ls f more has)

-- where it stands after a step that left these levels
pub left_there : (ts : List WordThread) (t : ℕ) (own : WordThread) (x : WordThread) (more : List WordThread) → slice_get ts t ≡ Some own → slice_get (slice_set ts t x ++ more) t ≡ Some x
left_there [] t own x more has = absurd (cc)
left_there (y ∷ xs) zero own x more has = refl
left_there (y ∷ xs) (suc t) own x more has = left_there xs t own x more has

-- ---- the stack of a thread

pub stack_there : (ss : List WordStack) (es : List End) (os : List ℕ) (t : ℕ) (s : WordStack) (own : WordThread) → slice_get ss t ≡ Some s → slice_get (zipped ss es os) t ≡ Some own → own.levels ≡ s.levels
stack_there [] es os t s own has is = absurd (cc)
stack_there (x ∷ ss) [] os t s own has is = absurd (cc)
stack_there (x ∷ ss) (e ∷ es) [] t s own has is = absurd (cc)
stack_there (x ∷ ss) (e ∷ es) (o ∷ os) zero s own has is =
    let same : x ≡ s = cc in
    let kept : record { levels = x.levels; end = e; object = o } ≡ own = cc in
    ap (λ (th : WordThread). th.levels) (sym kept) ∙ ap (λ (y : WordStack). y.levels) same
stack_there (x ∷ ss) (e ∷ es) (o ∷ os) (suc t) s own has is = stack_there ss es os t s own has is

pub thread_within : (ss : List WordStack) (es : List End) (os : List ℕ) (t : ℕ) (own : WordThread) → slice_get (zipped ss es os) t ≡ Some own → t < length ss
thread_within [] es os t own is = absurd (cc)
thread_within (x ∷ ss) [] os t own is = absurd (cc)
thread_within (x ∷ ss) (e ∷ es) [] t own is = absurd (cc)
thread_within (x ∷ ss) (e ∷ es) (o ∷ os) zero own is = omega arith
thread_within (x ∷ ss) (e ∷ es) (o ∷ os) (suc t) own is = let less = thread_within ss es os t own is in omega (arith, less)

-- ---- a thread without levels

pub returned : (ls : List Level) → true ≡ nat_eq (length ls) 0 → end.Returned ≡ end_after ls
returned [] none = refl
returned (l ∷ ls) none = let some = eqb-suc-zero (length ls) in absurd (cc)

pub living : (ls : List Level) → false ≡ nat_eq (length ls) 0 → end.Living ≡ end_after ls
living [] some = absurd (cc)
living (l ∷ ls) some = refl

pub died : (o : ℕ) (ls : List Level) → true ≡ nat_eq (length ls) 0 → end.Died o ≡ end_flying o ls
died o [] none = refl
died o (l ∷ ls) none = let some = eqb-suc-zero (length ls) in absurd (cc)

pub flying : (o : ℕ) (ls : List Level) → false ≡ nat_eq (length ls) 0 → end.Flying o ≡ end_flying o ls
flying o [] some = absurd (cc)
flying o (l ∷ ls) some = refl
