use Rattle.std.proofs.Common.{◌∙◌}
use Rattle.dv_vtable.proofs.MethodNumbers.{numbered_more}
use Rattle.dv_vtable.proofs.numbering.add_methods.Goals as goal

pub loop-place-preserved : goal.loop-place-preserved
loop-place-preserved c =
    numbered_more c.args.id c.loop-place.place c.of.result c.of-in-loop-place.result c.of-in-loop-place-2.result
    c.args.methods.now.items c.loop-place.methods.items c.push.new.self.items
    (c.of.ensures ∙ c.new.ensures.items) (c.of-in-loop-place.ensures ∙ c.new-in-loop-place.ensures.items) (c.of-in-loop-place-2.ensures ∙ c.new-in-loop-place-2.ensures.items)
    c.loop-place.invariant c.in_ok-push.ensures.items
