-- What the tagged machine read, the words have: one lemma for each kind of read.
use Rattle.std.proofs.Common.{◌≡◌, ℕ, Option, Some, None, Ok, ℤ, sym, subst}
use Rattle.dv_machine.specs.Value.{Value}
use Rattle.dv_machine.specs.Value as v
use Rattle.dv_machine.specs.Pending.{Pending}
use Rattle.dv_machine.specs.Pending as pending
use Rattle.dv_defs.specs.Numbers.{long_of}
use Rattle.dv_machine.specs.State.{Reads, Two, kept_int, kept_object, on_next, read_hi, read_int, read_lo}
use Rattle.dv_machine.specs.Local.{caught_of, pending_int, pending_object}
use Rattle.dv_words.specs.declared.state.Kept.{Kept}
use Rattle.dv_words.specs.declared.state.Kept.TheVariants as kept
use Rattle.dv_words.specs.Standing.{IsResult, IsWord}
use Rattle.dv_words.specs.Words.{int_of}
use Rattle.dv_words.specs.Stacks.{low_word}
use Rattle.dv_words.specs.Local.{caught_word}

pub on_int : {A : Type 0} (y : Value) (w : ℕ) (go : ℤ → Reads A) (g : A) → IsWord w y → on_next (read_int y) go ≡ Ok g → go (int_of w) ≡ Ok g
on_int v.Zero w go g is e = subst (λ (n : ℕ). go (int_of n) ≡ Ok g) (sym is) e
on_int (v.Num n) w go g is e = subst (λ (z : ℤ). go z ≡ Ok g) (sym is) e
on_int y w go g is e = absurd (cc)

pub on_kept_int : {A : Type 0} (P : A → Type 0) (y : Value) (w : ℕ) (go : Value → Reads A) (g : A) → IsWord w y → ((x : Value) → IsWord w x → go x ≡ Ok g → P g) → on_next (kept_int y) go ≡ Ok g → P g
on_kept_int P v.Zero w go g is next e = next v.Zero is e
on_kept_int P (v.Num n) w go g is next e = next (v.Num n) is e
on_kept_int P y w go g is next e = absurd (cc)

pub on_kept_object : {A : Type 0} (P : A → Type 0) (y : Value) (w : ℕ) (go : Value → Reads A) (g : A) → IsWord w y → ((x : Value) → IsWord w x → go x ≡ Ok g → P g) → on_next (kept_object y) go ≡ Ok g → P g
on_kept_object P v.Zero w go g is next e = next v.Zero is e
on_kept_object P (v.Ref o) w go g is next e = next (v.Ref o) is e
on_kept_object P (v.Uninit a o) w go g is next e = next (v.Uninit a o) is e
on_kept_object P (v.UninitThis o) w go g is next e = next (v.UninitThis o) is e
on_kept_object P y w go g is next e = absurd (cc)

abbrev two_of : Value → Value → Reads Two
two_of x y = on_next (read_lo x) (λ lo. on_next (read_hi y) (λ hi. Ok (record { lo = lo; hi = hi })))

pub on_two : {A : Type 0} (x y : Value) (w u : ℕ) (go : Two → Reads A) (g : A) → IsWord w x → IsWord u y → on_next (two_of x y) go ≡ Ok g → go (record { lo = w; hi = u }) ≡ Ok g
on_two (v.Lo n) (v.Hi m) w u go g is js e = rw (is, js) e
on_two (v.Lo n) y w u go g is js e = absurd (cc)
on_two x y w u go g is js e = absurd (cc)

abbrev long_of_two : Value → Value → Reads ℤ
long_of_two x y = on_next (two_of x y) (λ p. Ok (long_of p.lo p.hi))

pub on_long : {A : Type 0} (x y : Value) (w u : ℕ) (go : ℤ → Reads A) (g : A) → IsWord w x → IsWord u y → on_next (long_of_two x y) go ≡ Ok g → go (long_of w u) ≡ Ok g
on_long (v.Lo n) (v.Hi m) w u go g is js e = rw (is, js) e
on_long (v.Lo n) y w u go g is js e = absurd (cc)
on_long x y w u go g is js e = absurd (cc)

pub on_pending_int : {A : Type 0} (P : A → Type 0) (p : Pending) (k : Kept) (go : Value → Reads A) (g : A) → IsResult k p → ((x : Value) → IsWord (low_word k) x → go x ≡ Ok g → P g) → on_next (pending_int p) go ≡ Ok g → P g
on_pending_int P (pending.One v.Zero) (kept.One w) go g is next e = next v.Zero is e
on_pending_int P (pending.One (v.Num n)) (kept.One w) go g is next e = next (v.Num n) is e
on_pending_int P (pending.One x) (kept.Two low high) go g is next e = absurd is
on_pending_int P (pending.One x) kept.None go g is next e = absurd is
on_pending_int P p k go g is next e = absurd (cc)

pub on_pending_object : {A : Type 0} (P : A → Type 0) (p : Pending) (k : Kept) (go : Value → Reads A) (g : A) → IsResult k p → ((x : Value) → IsWord (low_word k) x → go x ≡ Ok g → P g) → on_next (pending_object p) go ≡ Ok g → P g
on_pending_object P (pending.One v.Zero) (kept.One w) go g is next e = next v.Zero is e
on_pending_object P (pending.One (v.Ref o)) (kept.One w) go g is next e = next (v.Ref o) is e
on_pending_object P (pending.One x) (kept.Two low high) go g is next e = absurd is
on_pending_object P (pending.One x) kept.None go g is next e = absurd is
on_pending_object P p k go g is next e = absurd (cc)

pub on_caught : {A : Type 0} (c d : Option ℕ) (go : ℕ → Reads A) (g : A) → d ≡ c → on_next (caught_of c) go ≡ Ok g → go (caught_word d) ≡ Ok g
on_caught (Some o) d go g is e = rw is e
on_caught None d go g is e = absurd (cc)
