use Rattle.std.proofs.Common.{◌≡◌, ◌<◌, length, refl, ap, sym, ◌∙◌, arith}
use Rattle.std.specs.Prelude.{slice_index}
use Rattle.std.proofs.lemmas.Option.{same_Some}
use Rattle.dv_image.proofs.Reading.{read_at}
use Rattle.dv_words.specs.Stacks.{arg_words, top_regs}
use Rattle.dv_words.specs.State.{WordStack}
use Rattle.dv_words.specs.Words.{word_at}
use Rattle.dv_words.specs.Natives.{arg}
use Rattle.dv_threads.proofs.Leaving.{got_within}
use Rattle.dv_threads.proofs.Operands.{first_named}
use Rattle.dv_threads.proofs.natives.first_word.Goals as goal

pub returns-in-Some : goal.returns-in-Some
returns-in-Some c s has =
    let regs = c.args.regs.now in
    let stack = c.in-Some.stack.now in
    let read = c.in-Some.ensures.lookup in
    let there = read_at c.args.stacks.now c.args.stacks.now c.args.thread stack refl read.0 read.1 in
    let same : stack ≡ s = same_Some stack s (sym there ∙ has) in
    let word : c.word.result ≡ word_at (top_regs stack.levels) (slice_index regs.first 0) = cc in
    let long : 0 < length regs.first = omega (arith, c.type_inv.regs) in
    word ∙ (sym (first_named (top_regs stack.levels) regs c.if-regs-eq0.false long) ∙ ap (λ (z : WordStack). arg (arg_words z regs) 0) same)

pub returns-in-None : goal.returns-in-None
returns-in-None c s has =
    let within = got_within c.args.stacks.now c.args.thread s has in
    absurd (omega (arith, within, c.in-None.ensures.lookup.3))
