use Rattle.std.proofs.Common.{◌≡◌, ℕ, ◌++◌, List, [], ◌∷◌, Some, sym, ap, ◌∙◌, subst}
use Rattle.dv_defs.specs.declared.machine.End.{End}
use Rattle.dv_defs.specs.declared.machine.End.TheVariants as end
use Rattle.dv_monitor.specs.State.{MonitorState}
use Rattle.dv_words.specs.declared.state.Frame.{Frame}
use Rattle.dv_words.specs.declared.state.Level.{Level}
use Rattle.dv_words.specs.declared.state.Level.TheVariants as level
use Rattle.dv_words.specs.Stacks.{empty, entered, gone, pushed, with_levels}
use Rattle.dv_words.specs.State.{WordStack}
use Rattle.dv_threads.specs.Kept.{LeavesThreads, bounds}
use Rattle.dv_threads.specs.Stacks.{changed_at}
use Rattle.dv_threads.specs.Starting.{IsFirst}
use Rattle.dv_threads.proofs.Begins.{first_is}
use Rattle.dv_threads.proofs.Leaving.{rewritten, started}
use Rattle.dv_threads.proofs.starting.start_with.Goals as goal

pub returns : goal.returns
returns c own h is limits room =
    let old = c.args.threads.now in
    let with_room = c.reserve.new.threads in
    let new = c.add.new.threads in
    let l = c.args.limits.now in
    let o = c.args.object in
    let thread = c.args.thread in
    let s : WordStack = c.in-Ok.stack in
    let f : Frame = entered c.args.method c.args.registers (o ∷ []) in
    let g : Frame → Frame = λ x. gone x c.args.next in
    let made : pushed (empty l.levels l.words) (level.Code f) ≡ Some s = subst (IsFirst (empty l.levels l.words) f) c.in-Ok.is c.in_ok-stack.ensures in
    let stack : s ≡ with_levels (empty l.levels l.words) (level.Code f ∷ []) = first_is l.levels l.words f s made in
    let wrote = rewritten with_room c.go_on.new.stacks c.deref_mut.result.now thread g c.go_on.ensures c.deref_mut.ensures.value in
    let kept = wrote ∙ ap (λ (ss : List WordStack). changed_at ss thread g) c.in_ok-reserve.ensures.stacks in
    let P : List Level → Type 0 = λ ls.
    LeavesThreads old new own h
    (record { levels = level.Code (gone h.frame h.next) ∷ h.rest; shared = h.shared; started = Some (record { levels = ls; end = end.Living; object = o }) }) in
    subst P (ap (λ (z : WordStack). z.levels) stack)
    (started old new thread c.args.next own h is g (gone h.frame h.next) s o (ap (gone h.frame) (sym is.after))
    (c.add.ensures.stacks ∙ ap (λ (ss : List WordStack). ss ++ s ∷ []) kept)
    (c.add.ensures.ends ∙ ap (λ (es : List End). es ++ end.Living ∷ []) c.in_ok-reserve.ensures.ends)
    (c.add.ensures.objects ∙ ap (λ (os : List ℕ). os ++ o ∷ []) c.in_ok-reserve.ensures.objects)
    (ap (λ (m : MonitorState). m.monitors) (c.add.ensures.monitors ∙ c.in_ok-reserve.ensures.monitors))
    (ap bounds stack ∙ (λ j. ((sym limits j).levels, (sym limits j).words))))
