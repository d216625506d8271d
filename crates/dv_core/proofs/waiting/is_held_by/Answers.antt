use Rattle.std.proofs.Common.{◌≡◌, ◌∙◌, List, map, sym, ap}
use Rattle.std.specs.Prelude.{is_none, not}
use Rattle.dv_defs.specs.Op.{named_registers}
use Rattle.dv_ops.specs.Meaning.{method_of}
use Rattle.dv_words.specs.declared.state.Level.{Level}
use Rattle.dv_words.specs.Local.{reg_word}
use Rattle.dv_words.specs.Stacks.{arg_words, top_regs}
use Rattle.dv_words.specs.Words.{word_at}
use Rattle.dv_call.specs.Landings.{Runs, called_in, first_of}
use Rattle.dv_core.specs.Machines.{machine_with}
use Rattle.dv_core.proofs.Waits.{not_none, static_free, unreceived, waits_by}
use Rattle.dv_core.proofs.waiting.is_held_by.Goals as goal

pub returns-then-is_in : goal.returns-then-is_in
returns-then-is_in c i s e l p h are seen own k lands =
    ap is_none (static_free h.image (machine_with c.args.guest.now s e l p) c.args.thread h.own h.frame k (method_of c.args.method) (named_registers c.args.regs.now) (sym c.if-is_in.ensures))

pub returns-in-Some : goal.returns-in-Some
returns-in-Some c i s e l p h are seen own k lands =
    let g = method_of c.args.method in
    let m = machine_with c.args.guest.now s e l p in
    let ks = named_registers c.args.regs.now in
    let words : arg_words c.args.stack.now c.args.regs.now ≡ map (reg_word h.frame) ks = ap (λ (ls : List Level). map (word_at (top_regs ls)) ks) seen.is_stack.levels in
    let o = c.in-Some.object in
    let first = sym c.in-Some.is ∙ (c.receiver.ensures ∙ ap first_of words) in
    let called = (λ j. called_in h.image (sym seen.same_heap j) h.own k g (sym words j)) ∙ lands in
    let held = waits_by h.image m c.args.thread h.own h.frame k g ks (Runs c.args.native) (sym c.if-is_in.ensures) called o first in
    ap is_none (sym held ∙ sym (c.blocked_native.ensures s e l p are)) ∙ not_none c.blocked_native.result ∙ ap not (sym c.is_some.ensures)

pub returns-in-None : goal.returns-in-None
returns-in-None c i s e l p h are seen own k lands =
    let g = method_of c.args.method in
    let m = machine_with c.args.guest.now s e l p in
    let ks = named_registers c.args.regs.now in
    let words : arg_words c.args.stack.now c.args.regs.now ≡ map (reg_word h.frame) ks = ap (λ (ls : List Level). map (word_at (top_regs ls)) ks) seen.is_stack.levels in
    ap is_none (unreceived h.image m c.args.thread h.own h.frame k g ks (sym c.in-None.is ∙ (c.receiver.ensures ∙ ap first_of words)))
