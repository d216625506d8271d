use Rattle.std.proofs.Common.{◌∙◌, sym}
use Rattle.dv_heap.proofs.Kept.{kind_seen, kept_written}
use Rattle.dv_heap.proofs.heap.Heap.put.Goals as goal

pub invariant_of-self : goal.invariant_of-self
invariant_of-self c =
    kept_written c.self.inside.objects c.set_word.new.self c.self.inside.interned.entries c.self.inside.class_objects.entries c.args.object c.args.slot c.args.word c.self.invariant c.requires.there.positive
    (λ e. c.requires.no_string (sym (kind_seen c.self.inside.objects c.self.inside.statics c.self.inside.interned.entries c.self.inside.class_objects.entries c.self.inside.used c.self.inside.limit c.args.self.now c.args.object c.self.view_is) ∙ e)) c.set_word.ensures
