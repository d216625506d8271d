use Rattle.dv_heap.proofs.Kept.{static_written}
use Rattle.dv_heap.proofs.heap.Heap.static_put.Goals as goal

pub returns : goal.returns
returns c =
    static_written c.self.inside.objects c.self.inside.statics c.set_word.new.self c.self.inside.interned.entries c.self.inside.class_objects.entries c.self.inside.used c.self.inside.limit c.args.self.now c.args.field.0 c.args.half c.args.word c.self.view_is c.set_word.ensures
