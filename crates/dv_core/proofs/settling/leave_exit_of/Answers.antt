use Rattle.std.proofs.Common.{◌≡◌, refl, ◌∙◌, ap, sym}
use Rattle.std.specs.Prelude.{Some, None}
use Rattle.dv_words.specs.State.{WordStack}
use Rattle.dv_words.specs.Stacks.{first}
use Rattle.dv_frames.specs.Tops.{head_of}
use Rattle.dv_words.specs.Step.{moved_on}
use Rattle.dv_words.specs.Steps.{leaves}
use Rattle.dv_core.proofs.Settled.{stack_there}
use Rattle.dv_core.proofs.Seen.{has_bounds, is_stack, past, read_there, wrote}
use Rattle.dv_core.proofs.settling.leave_exit_of.Goals as goal

pub returns-then-place-len : goal.returns-then-place-len
returns-then-place-len c l own h x seen at = past c.args.image.now l c.args.guest.now c.args.thread own h seen c.len.result c.len.ensures c.if-place-len.true

pub returns : goal.returns
returns c l own h None seen at =
    let i = c.args.image.now in
    let old = c.args.guest.now in
    let stack = c.index_mut.result.now in
    let there = read_there i l old c.args.thread own h seen stack stack c.index_mut.ensures.value in
    let levels : own.levels ≡ stack.levels = stack_there old.threads.stacks.items old.threads.ends.items old.threads.objects.items c.args.thread stack own there seen.there in
    let did = c.leave_exit.ensures.other (ap (λ ls. head_of (first ls)) (sym levels ∙ at.2)) in
    wrote i l old c.args.thread own h seen _ refl refl c.leave_exit.new.stack (leaves h.shared own.levels) refl
    (ap (λ (s : WordStack). (s.most_levels, s.most_words)) did ∙ has_bounds i l old c.args.thread own h seen stack there)
    (ap (λ (s : WordStack). s.levels) did ∙ sym levels) seen.shared refl
returns c l own h (Some x) seen at =
    let i = c.args.image.now in
    let old = c.args.guest.now in
    let stack = c.index_mut.result.now in
    let there = read_there i l old c.args.thread own h seen stack stack c.index_mut.ensures.value in
    let did = c.leave_exit.ensures.code own h x seen.image (is_stack i l old c.args.thread own h seen at.levels stack there) at in
    wrote i l old c.args.thread own h seen _ refl refl c.leave_exit.new.stack (leaves h.shared (moved_on (Some x) own.levels)) refl
    (ap (λ (s : WordStack). (s.most_levels, s.most_words)) did ∙ has_bounds i l old c.args.thread own h seen stack there)
    (ap (λ (s : WordStack). s.levels) did) seen.shared refl
