use Rattle.dv_words.specs.Heaps.{alloc_object, cost_of_object}
use Rattle.dv_heap.specs.Answers.{newest_of}
use Rattle.dv_words.specs.Mem.{put_object}
use Rattle.dv_mem.specs.Tops.{seen}
use Rattle.dv_mem.proofs.Making.{made_goes}
use Rattle.dv_mem.proofs.made.new_instance.Goals as goal

pub returns : goal.returns
returns c =
    let made = alloc_object c.args.image.now c.args.heap.now c.args.class.0 in
    let go = put_object (seen c.args.image.now c.args.stack.now c.args.heap.now c.args.next) c.args.a in
    made_goes c.put_made.result made go c.args.stack.now c.args.heap.now c.put_made.new.stack c.alloc_object-made.new.self
    (c.put_made.ensures c.args.image.now (newest_of made) (cost_of_object c.args.image.now c.args.class.0) c.args.heap.now c.alloc_object-made.new.self
    c.alloc_object-made.ensures)
