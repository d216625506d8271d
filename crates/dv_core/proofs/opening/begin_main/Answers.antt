use Rattle.std.proofs.Common.{ap, ◌∙◌}
use Rattle.std.specs.Option.{option_to_list}
use Rattle.dv_ops.specs.Meaning.{method_of}
use Rattle.dv_words.specs.State.{WordHeap}
use Rattle.dv_core.proofs.Opened.{is_opening, one_ordered}
use Rattle.dv_core.proofs.Uncounted.{main_uncounted}
use Rattle.dv_core.proofs.opening.begin_main.Goals as goal

pub returns-clause-opened : goal.returns-clause-opened
returns-clause-opened c idle has takes room =
    let image = c.args.image.now in
    let m = method_of c.args.main.now in
    let main = c.in_ok-array.ensures.heap idle.heap takes in
    let uncounted = ap (λ (h : WordHeap). h.limit) main ∙ main_uncounted image m in
    is_opening image m c.args.limits.now c.fill_heap.new.heap c.preallocate.new.heap c.in_ok-made.made c.in_ok-array.array c.args.guest.now.classes c.begin_class-born.new.classes c.begin_class-born.result c.add_thread.new.threads c.args.guest.now.output.items c.in_ok-stack.stack
    main (c.in_ok-made.ensures.heap uncounted) (c.in_ok-made.ensures.numbers uncounted)
    c.in_ok-array.ensures.args idle.classes c.begin_class-born.ensures.born c.begin_class-born.ensures.states c.in_ok-stack.ensures.stack
    (c.in_ok-add_thread.ensures idle.threads) idle.output has room c.in_ok-stack.ensures.few

pub returns-clause-ordered : goal.returns-clause-ordered
returns-clause-ordered c idle =
    let alone = c.in_ok-add_thread.ensures idle.threads in
    record {
      aligned = alone.aligned;
      bounded = one_ordered c.add_thread.new.threads.stacks.items c.in_ok-stack.stack c.args.limits.now (method_of c.args.main.now) (option_to_list c.in_ok-array.array) c.begin_class-born.result alone.stacks c.in_ok-stack.ensures.stack;
    }
