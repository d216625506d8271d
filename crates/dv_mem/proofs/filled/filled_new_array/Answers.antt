use Rattle.std.proofs.Common.{◌<◌, ◌+◌, arith}
use Rattle.std.specs.Prelude.{length}
use Rattle.dv_words.specs.Heaps.{words_of_object}
use Rattle.dv_mem.proofs.Making.{array_made, is_there, other_kind}
use Rattle.dv_mem.proofs.filled.filled_new_array.Goals as goal

pub returns-else-takes_words : goal.returns-else-takes_words
returns-else-takes_words c image same =
    let fresh = array_made c.args.heap.now c.args.ty.now c.count-length.result c.in-Ok.array c.alloc_array.new.self same c.in-Ok.ensures in
    let few : length (words_of_object c.alloc_array.new.self c.in-Ok.array) < 0 + c.count-length.result =
    c.takes_words.ensures.lacking c.if-takes_words.false fresh.positive (is_there c.alloc_array.new.self c.in-Ok.array _ fresh.kind) (other_kind c.alloc_array.new.self c.in-Ok.array c.args.ty.now fresh.kind) in
    absurd (omega (arith, few, fresh.size))
