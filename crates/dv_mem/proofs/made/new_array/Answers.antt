use Rattle.std.proofs.Common.{◌≡◌, ◌∙◌, ℤ, pos, sym, subst, ap}
use Rattle.dv_words.specs.Heaps.{alloc_array, cost_of_array}
use Rattle.dv_words.specs.Words.{int_of}
use Rattle.dv_heap.specs.Answers.{newest_of}
use Rattle.dv_words.specs.Mem.{new_array, put_object}
use Rattle.dv_words.specs.Stepping.{Answered}
use Rattle.dv_mem.specs.Tops.{seen}
use Rattle.dv_mem.proofs.Making.{count_is, made_goes}
use Rattle.dv_mem.proofs.made.new_array.Goals as goal

pub returns : goal.returns
returns c image =
    let here = seen image c.args.stack.now c.args.heap.now c.args.next in
    let made = alloc_array c.args.heap.now c.args.ty.now c.in-Some.length in
    let size : int_of c.word.result ≡ pos c.in-Some.length = count_is (int_of c.word.result) c.in-Some.length c.in-Some.ensures in
    let P : ℤ → Type 0 = λ n. Answered c.put_made.result (new_array here c.args.a c.args.ty.now n) c.args.stack.now c.args.heap.now c.put_made.new.stack c.alloc_array-made.new.self in
    subst P (sym size ∙ ap int_of c.word.ensures)
    (made_goes c.put_made.result made (put_object here c.args.a) c.args.stack.now c.args.heap.now c.put_made.new.stack c.alloc_array-made.new.self
    (c.put_made.ensures image (newest_of made) (cost_of_array c.args.ty.now c.in-Some.length) c.args.heap.now c.alloc_array-made.new.self
    c.alloc_array-made.ensures))
