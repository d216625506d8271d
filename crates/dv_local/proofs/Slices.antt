-- Local instructions one after another: those of a slice, and more behind them.
use Rattle.std.proofs.Common.{◌≡◌, ◌<◌, ◌≤◌, ◌+◌, ◌-◌, ℕ, zero, suc, Bool, true, false, Option, Some, None, refl, sym, ap, subst, ◌∙◌, arith}
use Rattle.std.specs.Prelude.{nat_lt}
use Rattle.std.proofs.lemmas.Bool.{ltb-false, ltb-true}
use Rattle.dv_defs.specs.Images.{Image}
use Rattle.dv_defs.specs.Op.{is_local}
use Rattle.dv_typing.specs.Statics.{At, fetch}
use Rattle.dv_words.specs.declared.state.Frame.{Frame}
use Rattle.dv_words.specs.Stepping.{KeysRiseAmong, RanLocally, local_here, locals_here, on_frame}

-- the frame between the first ones and the others
pub record IsBetween (image : Image) (a b : ℕ) (s u : Frame) : Type 0 where
  pub mid : Frame
  pub first : locals_here image a s ≡ Some mid
  pub rest : locals_here image b mid ≡ Some u

pub between : (image : Image) (a b : ℕ) (s u : Frame) → locals_here image (a + b) s ≡ Some u → IsBetween image a b s u
between image a zero s u e = let none : a + 0 ≡ a = omega arith in record { mid = u; first = sym (ap (λ n. locals_here image n s) none) ∙ e; rest = refl }
between image a (suc b) s u e =
    let one : a + suc b ≡ suc (a + b) = omega arith in
    by (λ v is. between image a b s v is) (locals_here image (a + b) s) refl (sym (ap (λ n. locals_here image n s) one) ∙ e)
  where
    by : ((v : Frame) → locals_here image (a + b) s ≡ Some v → IsBetween image a b s v) → (o : Option Frame) → locals_here image (a + b) s ≡ o → on_frame o (local_here image) ≡ Some u → IsBetween image a (suc b) s u
    by before None is e = absurd (cc e)
    by before (Some v) is e =
        let b = before v is in
        record { mid = b.mid; first = b.first; rest = ap (λ (o : Option Frame). on_frame o (local_here image)) b.rest ∙ e }

-- the first ones and those behind them
append : (image : Image) (a b : ℕ) (s mid : Frame) → locals_here image a s ≡ Some mid → locals_here image b mid ≡ locals_here image (a + b) s
append image a zero s mid first = let none : a + 0 ≡ a = omega arith in sym (ap (λ n. locals_here image n s) none ∙ first)
append image a (suc b) s mid first =
    let one : a + suc b ≡ suc (a + b) = omega arith in
    ap (λ (o : Option Frame). on_frame o (local_here image)) (append image a b s mid first) ∙ ap (λ n. locals_here image n s) (sym one)

-- keys rise among fewer
keys_first : (image : Image) (n a : ℕ) (s : Frame) → KeysRiseAmong image n s → a ≤ n → KeysRiseAmong image a s
keys_first image n a s keys few = λ j q y l e f. keys j q y (omega (arith, l, few)) e f

keys_rest : (image : Image) (n a b : ℕ) (s mid : Frame) → KeysRiseAmong image n s → a + b ≤ n → locals_here image a s ≡ Some mid → KeysRiseAmong image b mid
keys_rest image n a b s mid keys few first = λ j q y l e f. keys (a + j) q y (omega (arith, l, few)) (sym (append image a j s mid first) ∙ e) f

-- a local run, and another one from where it led
pub ran_on : (image : Image) (n most done : ℕ) (s mid u : Frame) → RanLocally image n n s mid → RanLocally image most done mid u → RanLocally image (n + done) (n + done) s u
ran_on image n most done s mid u first more = record {
  few = omega arith;
  local = λ k v x l keys e found. by k v x l keys (nat_lt k n) refl e found;
  reached = λ keys v e.
      let b = between image n done s v e in
      let ends = first.reached (keys_first image (n + done) n s keys (omega arith)) b.mid b.first in
      let rest = keys_rest image (n + done) n done s b.mid keys (omega arith) b.first in
      more.reached (subst (λ (f : Frame). KeysRiseAmong image done f) (sym ends) rest) v (ap (locals_here image done) ends ∙ b.rest);
  whole = λ l x found. absurd (omega (arith, l));
}
  where
    by : (k : ℕ) (v : Frame) (x : At) → k < n + done → KeysRiseAmong image k s → (t : Bool) → nat_lt k n ≡ t → locals_here image k s ≡ Some v → fetch image v.method.0 v.at ≡ Some x → is_local x.op ≡ true
    by k v x l keys true t e found = first.local k v x (ltb-true k n t) keys e found
    by k v x l keys false t e found =
        let late = ltb-false k n t in
        let split : n + (k - n) ≡ k = omega (arith, late) in
        let b = between image n (k - n) s v (ap (λ j. locals_here image j s) split ∙ e) in
        let ends = first.reached (keys_first image k n s keys late) b.mid b.first in
        let rest = keys_rest image k n (k - n) s b.mid keys (omega (arith, split)) b.first in
        more.local (k - n) v x (omega (arith, l, late)) (subst (λ (f : Frame). KeysRiseAmong image (k - n) f) (sym ends) rest)
        (ap (locals_here image (k - n)) ends ∙ b.rest) found
