use Rattle.std.proofs.Common.{◌≡◌, Ok, refl, ◌∙◌, subst}
use Rattle.dv_words.specs.Step.{end_flying, flown, moved_on}
use Rattle.dv_words.specs.Steps.{leaves, with_heap}
use Rattle.dv_words.specs.Unwinding.{made_object}
use Rattle.dv_throw.specs.Answers.{ThrowsMade}
use Rattle.dv_core.specs.declared.guest.Guest.{Guest}
use Rattle.dv_core.specs.Guests.{IsOrdered, shared_of}
use Rattle.dv_core.specs.Machines.{machine_of}
use Rattle.dv_core.proofs.Counted.{counts, heap_seen, kept, stands_with, there_left, with_heap_of}
use Rattle.dv_core.proofs.Settles.{lacks, thrown_lacking, thrown_new}
use Rattle.dv_core.proofs.vm.Vm.throw.Goals as goal
use Rattle.dv_core.proofs.vm.Vm.throw.Goals.{in-ThrowRef, in_default}

pub returns-clause-ok : goal.returns-clause-ok
returns-clause-ok c own h x seen at few =
    let i = c.args.image.now in
    let old = c.args.self.now in
    let heap = c.make.new.heap in
    let g : Guest = record { threads = old.guest.threads; heap = heap; classes = old.guest.classes; output = old.guest.output } in
    let t = c.args.thread in
    let object = c.match-made.object in
    let made = made_object i old.guest.heap c.args.named in
    let threw = subst (λ r. ThrowsMade r made old.guest.heap heap) c.in_ok-made.was c.make.ensures in
    let h' = with_heap_of h heap in
    let l = leaves h'.shared (moved_on x own.levels) in
    let left = c.leave_exit_of.ensures old.limits own h' x (heap_seen i old.limits old.guest g t own h seen refl refl refl) (stands_with own h heap x at) in
    let there = there_left g c.leave_exit_of.new.guest t own h' l seen.number seen.there left in
    let flies : machine_of c.fly.new.self ≡ flown (machine_of old) t own object (leaves (with_heap (shared_of old.guest) heap) (moved_on x own.levels)) =
    c.fly.ensures.machine (kept own (moved_on x own.levels)) there few ∙
    (counts g c.leave_exit_of.new.guest old.steps old.stop old.limits old.preallocated t own h' l (end_flying object) seen.number seen.there left ∙
    (λ j. flown (machine_of old) t own object (leaves (with_heap (seen.shared j) heap) (moved_on x own.levels)))) in
    flies ∙ elim c.match-made.branch [
      | in-ThrowRef w ↦
          let is = subst (λ a. ThrowsMade (Ok a) made old.guest.heap heap) w.in-ThrowRef.is threw in
          thrown_new (machine_of old) t own x made heap object is.0 (w.object-is ∙ is.1)
      | in_default w ↦
          let is = lacks c.in_ok-made.made made old.guest.heap heap w.in_default.not-ThrowRef threw in
          thrown_lacking (machine_of old) t own x made heap object is.0 is.1 w.object-is
    ]

pub returns-clause-ordered : goal.returns-clause-ordered
returns-clause-ordered c own h x seen at =
    let i = c.args.image.now in
    let old = c.args.self.now in
    let heap = c.make.new.heap in
    let g : Guest = record { threads = old.guest.threads; heap = heap; classes = old.guest.classes; output = old.guest.output } in
    let left = c.leave_exit_of.ensures old.limits own (with_heap_of h heap) x (heap_seen i old.limits old.guest g c.args.thread own h seen refl refl refl) (stands_with own h heap x at) in
    c.fly.ensures.ordered (subst (λ k. IsOrdered k c.leave_exit_of.new.guest) seen.limits left.ordered)
