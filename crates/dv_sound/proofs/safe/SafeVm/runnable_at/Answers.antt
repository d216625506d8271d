use Rattle.std.proofs.Common.{◌≡◌, ◌<◌, ◌+◌, ℕ, suc, true, false, List, length, sym, ap, ◌∙◌, arith}
use Rattle.std.specs.Prelude.{slice_index_or}
use Rattle.dv_machine.specs.Running.{runnable}
use Rattle.dv_sound.proofs.Runnable.{first_at, from, from_none, held_at, later_at}
use Rattle.dv_sound.proofs.safe.SafeVm.runnable_at.Goals as goal
use Rattle.dv_sound.proofs.safe.SafeVm.runnable_at.Goals.{else-runnable, then-runnable+else-before-eq0}

pub returns-then-before-eq0 : goal.returns-then-before-eq0
returns-then-before-eq0 c main m at =
    let image = c.args.self.now.verified.image in
    let k = c.loop-thread.thread in
    let end = c.threads-thread-end.ensures main m at in
    let less = c.loop-thread-test.true in
    let is : runnable image m k ≡ true = sym (c.runnable.ensures main m at) ∙ c.if-runnable.true in
    sym (first_at image m k (omega (arith, end, less)) is) ∙ ap (λ (place : ℕ). slice_index_or (from image m k) place 0) (sym c.if-before-eq0.true) ∙ c.loop-thread.invariant main m at

pub loop-thread-preserved : goal.loop-thread-preserved
loop-thread-preserved c main m at =
    let image = c.args.self.now.verified.image in
    let k = c.loop-thread.thread in
    let end = c.threads-thread-end.ensures main m at in
    let less = c.loop-thread-test.true in
    let inside : k < length m.threads = omega (arith, end, less) in
    elim c.if-runnable.branch [
      | then-runnable+else-before-eq0 w ↦
          let is : runnable image m k ≡ true = sym (c.runnable.ensures main m at) ∙ w.if-runnable.true in
          let some = w.if-before-eq0.false in
          let now = w.before-is in
          let was : c.loop-thread.before ≡ suc c.if-runnable.before = omega (arith, some, now) in
          sym (later_at image m k inside c.if-runnable.before is) ∙ ap (λ (place : ℕ). slice_index_or (from image m k) place 0) (sym was) ∙ c.loop-thread.invariant main m at
      | else-runnable w ↦
          let is : runnable image m k ≡ false = sym (c.runnable.ensures main m at) ∙ w.if-runnable.false in
          ap (λ (place : ℕ). slice_index_or (from image m (k + 1)) place 0) w.before-is ∙ sym (held_at image m k inside c.loop-thread.before is) ∙ c.loop-thread.invariant main m at
    ]

pub returns : goal.returns
returns c main m at =
    let image = c.args.self.now.verified.image in
    let end = c.threads-thread-end.ensures main m at in
    let over = c.loop-thread-test.false in
    let none = from_none image m c.loop-thread.thread (omega (arith, end, over)) in
    sym (ap (λ (ns : List ℕ). slice_index_or ns c.loop-thread.before 0) none) ∙ c.loop-thread.invariant main m at
