use Rattle.std.proofs.Common.{◌∙◌, ◌∷◌, ℕ, List, Ok, Option, Result, map, refl, sym, ap, subst}
use Rattle.std.specs.Prelude.{is_none, not}
use Rattle.std.specs.declared.alloc.AllocError.{AllocError}
use Rattle.dv_defs.specs.declared.run.Next.{Next}
use Rattle.dv_defs.specs.declared.run.Next.TheVariants as next
use Rattle.dv_defs.specs.Op.{Invoke, Op, named_registers}
use Rattle.dv_ops.specs.Meaning.{method_of}
use Rattle.dv_units.specs.Tables.{standard_call}
use Rattle.dv_words.specs.declared.state.Level.TheVariants as level
use Rattle.dv_words.specs.Stacks.{arg_words}
use Rattle.dv_words.specs.Calls as steps
use Rattle.dv_words.specs.Local.{reg_word}
use Rattle.dv_words.specs.Natives as natives
use Rattle.dv_words.specs.Running.{blocked_op}
use Rattle.dv_words.specs.Steps.{left}
use Rattle.dv_machine.specs.State.{Throws}
use Rattle.dv_call.specs.Landings.{done, is_native, landed_of}
use Rattle.dv_core.specs.Machines.{machine_with}
use Rattle.dv_core.specs.Trying.{Tries}
use Rattle.dv_core.proofs.Acts.{led_by}
use Rattle.dv_core.proofs.Invoked.{fits_native, invokes, invokes_free, invokes_words, lands_of, seen_by_calls}
use Rattle.dv_core.proofs.Seen.{is_stack, led_stack, past, read_there, unchanged, unmoved}
use Rattle.dv_core.proofs.Trying.{tries_free}
use Rattle.dv_core.proofs.code.invoke.Goals as goal

pub returns-then-place-len : goal.returns-then-place-len
returns-then-place-len c s e p are own h x seen at fits after = past c.args.image.now c.args.limits.now c.args.guest.now c.args.thread own h seen c.len.result c.len.ensures c.if-place-len.true

pub returns-in-Method : goal.returns-in-Method
returns-in-Method c s e p are own h x seen at fits after =
    let i = c.args.image.now in
    let l = c.args.limits.now in
    let old = c.args.guest.now in
    let stack = c.index.result.now in
    let there = read_there i l old c.args.thread own h seen stack stack c.index.ensures in
    let call = standard_call c.args.call in
    let regs = c.args.regs.now in
    let g = method_of c.args.method in
    let d = steps.invoke h call (named_registers regs) g in
    let top = c.index_mut.result.now in
    let its = read_there i l old c.args.thread own h seen top top c.index_mut.ensures.value in
    let ws : List ℕ = arg_words top regs in
    let m = method_of c.in-Method.landed in
    let k = steps.enter h m ws in
    let landed = landed_of c.land.result in (
      invokes_free i l old c.args.thread own h x seen at call regs g fits stack there landed c.land.ensures (machine_with old s e l p) refl (ap (λ k. is_native (landed_of k)) c.in-Method.is),
      led_by {E = AllocError} (Ok c.enter.result) d k _ _ (invokes i l old c.args.thread own h x seen at call regs g fits stack there (landed_of c.land.result) c.land.ensures top its ∙ ap (λ k. done h ws (landed_of k)) c.in-Method.is)
          (led_stack i l old c.args.thread own h seen _ refl refl {E = AllocError} (Ok c.enter.result) k top c.enter.new.stack its refl refl
          (c.enter.ensures h (is_stack i l old c.args.thread own h seen at.levels top its))),
    )

pub returns-then-is_held_by : goal.returns-then-is_held_by
returns-then-is_held_by c s e p are own h x seen at fits after =
    let i = c.args.image.now in
    let l = c.args.limits.now in
    let old = c.args.guest.now in
    let stack = c.index.result.now in
    let there = read_there i l old c.args.thread own h seen stack stack c.index.ensures in
    let call = standard_call c.args.call in
    let regs = c.args.regs.now in
    let g = method_of c.args.method in
    let top = c.index-in-Native.result.now in
    let its = read_there i l old c.args.thread own h seen top top c.index-in-Native.ensures in
    let lands = lands_of i l old c.args.thread own h x seen at call regs g fits stack there (landed_of c.land.result) c.land.ensures top its ∙ ap landed_of c.in-Native.is in
    let held = c.is_held_by.ensures i s e l p h are (seen_by_calls i l old c.args.thread own h x seen at call regs g fits stack there (landed_of c.land.result) c.land.ensures top its) at.method call lands in
    let o : Op = Invoke call (named_registers regs) g in
    (ap (λ t. is_none (blocked_op h.image (machine_with old s e l p) t h.own h.frame o)) seen.number ∙ (held ∙ ap not c.if-is_held_by.true), unchanged i l old c.args.thread own h seen)

pub returns-else-is_held_by : goal.returns-else-is_held_by
returns-else-is_held_by c s e p are own h x seen at fits after =
    let i = c.args.image.now in
    let l = c.args.limits.now in
    let old = c.args.guest.now in
    let stack = c.index.result.now in
    let there = read_there i l old c.args.thread own h seen stack stack c.index.ensures in
    let call = standard_call c.args.call in
    let regs = c.args.regs.now in
    let g = method_of c.args.method in
    let d = steps.invoke h call (named_registers regs) g in
    let ws : List ℕ = map (reg_word h.frame) (named_registers regs) in
    let n = c.in-Native.native in
    let top = c.index-in-Native.result.now in
    let its = read_there i l old c.args.thread own h seen top top c.index-in-Native.ensures in
    let lands = lands_of i l old c.args.thread own h x seen at call regs g fits stack there (landed_of c.land.result) c.land.ensures top its ∙ ap landed_of c.in-Native.is in
    let free = c.is_held_by.ensures i s e l p h are (seen_by_calls i l old c.args.thread own h x seen at call regs g fits stack there (landed_of c.land.result) c.land.ensures top its) at.method call lands in
    let does = led_by c.run_native.result d (natives.native_step h n ws) _ _ (invokes_words i l old c.args.thread own h x seen at call regs g fits stack there (landed_of c.land.result) c.land.ensures ∙ ap (λ k. done h ws (landed_of k)) c.in-Native.is)
    (c.run_native.ensures own h x seen at fits.room (fits_native i l old c.args.thread own h x seen at call regs g fits stack there (landed_of c.land.result) c.land.ensures n (ap landed_of c.in-Native.is)) after) in
    let b = is_none (blocked_op h.image (machine_with old s e l p) h.thread h.own h.frame (Invoke call (named_registers regs) g)) in
    subst (λ (r : Result (Option Next) AllocError). Tries r b d l old c.run_native.new.guest own h) (sym c.free.ensures)
    (tries_free c.run_native.result b d l old c.run_native.new.guest own h (ap (λ t. is_none (blocked_op h.image (machine_with old s e l p) t h.own h.frame (Invoke call (named_registers regs) g))) seen.number ∙ (free ∙ ap not c.if-is_held_by.false)) does)

pub returns-in-Throws : goal.returns-in-Throws
returns-in-Throws c s e p are own h x seen at fits after =
    let i = c.args.image.now in
    let l = c.args.limits.now in
    let old = c.args.guest.now in
    let stack = c.index.result.now in
    let there = read_there i l old c.args.thread own h seen stack stack c.index.ensures in
    let call = standard_call c.args.call in
    let regs = c.args.regs.now in
    let g = method_of c.args.method in
    let d = steps.invoke h call (named_registers regs) g in
    let ws : List ℕ = arg_words stack regs in
    let n = c.in-Throws.named in (
      invokes_free i l old c.args.thread own h x seen at call regs g fits stack there (landed_of c.land.result) c.land.ensures (machine_with old s e l p) refl (ap (λ k. is_native (landed_of k)) c.in-Throws.is),
      led_by {E = AllocError} (Ok (next.Throw n)) d (Throws n) _ _ (invokes i l old c.args.thread own h x seen at call regs g fits stack there (landed_of c.land.result) c.land.ensures stack there ∙ ap (λ k. done h ws (landed_of k)) c.in-Throws.is)
          (refl, unchanged i l old c.args.thread own h seen),
    )

pub returns-in-Nothing : goal.returns-in-Nothing
returns-in-Nothing c s e p are own h x seen at fits after =
    let i = c.args.image.now in
    let l = c.args.limits.now in
    let old = c.args.guest.now in
    let stack = c.index.result.now in
    let there = read_there i l old c.args.thread own h seen stack stack c.index.ensures in
    let call = standard_call c.args.call in
    let regs = c.args.regs.now in
    let g = method_of c.args.method in
    let d = steps.invoke h call (named_registers regs) g in
    let ws : List ℕ = arg_words stack regs in (
      invokes_free i l old c.args.thread own h x seen at call regs g fits stack there (landed_of c.land.result) c.land.ensures (machine_with old s e l p) refl (ap (λ k. is_native (landed_of k)) c.in-Nothing.is),
      led_by {E = AllocError} (Ok next.On) d (left h.shared (level.Code h.frame ∷ h.rest)) _ _ (invokes i l old c.args.thread own h x seen at call regs g fits stack there (landed_of c.land.result) c.land.ensures stack there ∙ ap (λ k. done h ws (landed_of k)) c.in-Nothing.is)
          (unmoved i l old c.args.thread own h seen at.levels),
    )
