use Rattle.std.proofs.Common.{◌≡◌, ◌∙◌, ◌<◌, ℕ, suc, ◌+◌, List, length, get_or, map, take, ap, sym, arith}
use Rattle.dv_defs.specs.Op.{named_registers}
use Rattle.dv_words.specs.Heaps.{with_word}
use Rattle.dv_words.specs.Local.{reg_word}
use Rattle.dv_words.specs.Mem.{stored}
use Rattle.dv_mem.specs.Tops.{top_frame}
use Rattle.dv_mem.proofs.Storing.{get_map, has_stored, length_map, no_string_stored, take_all, word_stored}
use Rattle.dv_mem.proofs.filled.fill.Goals as goal

pub put-requires-clause-there : goal.put-requires-clause-there
put-requires-clause-there c =
    let words = map (reg_word (top_frame c.args.stack.now)) (named_registers c.args.regs.now) in
    has_stored c.args.heap.now c.loop-k.heap c.args.array (length (named_registers c.args.regs.now)) c.loop-k.k (take c.loop-k.k words) c.requires.there c.loop-k.invariant
    (omega (arith, c.loop-k-test.true, c.count-k-end.ensures.count))

pub put-requires-clause-no_string : goal.put-requires-clause-no_string
put-requires-clause-no_string c =
    let words = map (reg_word (top_frame c.args.stack.now)) (named_registers c.args.regs.now) in
    no_string_stored c.args.heap.now c.loop-k.heap c.args.array 0 (take c.loop-k.k words) c.requires.no_string c.loop-k.invariant

pub loop-k-preserved : goal.loop-k-preserved
loop-k-preserved c =
    let regs = named_registers c.args.regs.now in
    let word = reg_word (top_frame c.args.stack.now) in
    let below : c.loop-k.k < length regs = omega (arith, c.loop-k-test.true, c.count-k-end.ensures.count) in
    let within : c.loop-k.k < length (map word regs) = omega (arith, below, length_map word regs) in
    let same : c.word_at.result ≡ get_or (map word regs) c.loop-k.k 0 = c.word_at.ensures ∙ ap word c.register.ensures ∙ sym (get_map word regs c.loop-k.k below) in
    let next : suc c.loop-k.k ≡ c.loop-k.k + 1 = omega arith in
    c.put.ensures ∙ ap (λ h. with_word h c.args.array c.loop-k.k c.word_at.result) c.loop-k.invariant ∙
    word_stored c.args.heap.now c.args.array (map word regs) c.loop-k.k c.word_at.result within same ∙
    ap (λ (n : ℕ). stored c.args.heap.now c.args.array 0 (take n (map word regs))) next

pub returns : goal.returns
returns c =
    let regs = named_registers c.args.regs.now in
    let word = reg_word (top_frame c.args.stack.now) in
    let all : c.loop-k.k ≡ length (map word regs) = omega (arith, c.loop-k-test.false, c.loop-k.auto.k-end, c.count-k-end.ensures.count, length_map word regs) in
    c.loop-k.invariant ∙ ap (λ (ws : List ℕ). stored c.args.heap.now c.args.array 0 ws) (take_all (map word regs) c.loop-k.k all)
