use Rattle.std.proofs.Common.{◌≡◌, ◌∙◌, List, map, sym, ap}
use Rattle.dv_defs.specs.Op.{named_registers}
use Rattle.dv_ops.specs.Meaning.{method_of}
use Rattle.dv_units.specs.Tables.{standard_call}
use Rattle.dv_words.specs.Stacks.{arg_words, top_regs}
use Rattle.dv_words.specs.Words.{word_at}
use Rattle.dv_words.specs.declared.state.Level.{Level}
use Rattle.dv_words.specs.Local.{reg_word}
use Rattle.dv_call.specs.Landings.{called_in, first_of}
use Rattle.dv_call.proofs.Called.{from_seen}
use Rattle.dv_core.specs.Machines.{machine_with}
use Rattle.dv_core.specs.Watching.{blocked_landed}
use Rattle.dv_core.proofs.Waits.{invoke_waits}
use Rattle.dv_core.proofs.waiting.blocked_invoke.Goals as goal

pub returns : goal.returns
returns c s e l p h are seen own numbered =
    let image = c.args.image.now in
    let heap = c.args.guest.now.heap in
    let g = method_of c.args.method in
    let call = standard_call c.args.call in
    let m = machine_with c.args.guest.now s e l p in
    let ks = named_registers c.args.regs.now in
    let o = c.in_ok-object.object in
    let words : arg_words c.args.stack.now c.args.regs.now ≡ map (reg_word h.frame) ks = ap (λ (ls : List Level). map (word_at (top_regs ls)) ks) seen.is_stack.levels in
    c.blocked_landed.ensures s e l p are ∙
    (ap (blocked_landed m c.args.thread o)
    (c.land-landed.ensures h seen own numbered ∙ (sym (from_seen image heap c.args.stack.now h call g (arg_words c.args.stack.now c.args.regs.now) seen) ∙ ap (called_in image heap h.own call g) words)) ∙
    invoke_waits image m c.args.thread h.own h.frame call g ks o (sym (c.if-is_in.ensures)) (c.in_ok-object.ensures ∙ ap first_of words))
