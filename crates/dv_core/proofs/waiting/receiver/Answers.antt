use Rattle.std.proofs.Common.{◌<◌, ◌≡◌, ◌∙◌, ℕ, length, Some, sym, ap, arith, rules}
use Rattle.dv_words.specs.Stacks.{top_regs}
use Rattle.dv_words.specs.Words.{word_at}
use Rattle.dv_call.proofs.Called.{first_word}
use Rattle.dv_core.proofs.waiting.receiver.Goals as goal

pub returns : goal.returns
returns c =
    let some : 0 < c.args.regs.now.count = omega (arith, c.if-regs-eq0.false) in
    let five : length c.args.regs.now.first ≡ 5 = search rules in
    ap Some (c.word.ensures ∙ ap (λ (k : ℕ). word_at (top_regs c.args.stack.now.levels) k) c.from.ensures) ∙
    sym (first_word (top_regs c.args.stack.now.levels) c.args.regs.now some five)
