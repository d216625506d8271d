use Rattle.std.proofs.Common.{arith}
use Rattle.std.proofs.lemmas.List.{at_drop_all}
use Rattle.dv_defs.specs.Types.{words_of_all}
use Rattle.dv_coderead.proofs.body.argument_words.Goals as goal

pub returns : goal.returns
returns c =
    let none = at_drop_all words_of_all c.items-ty-items.result.now c.loop-ty.ty-index c.loop-ty-test.false in
    omega (arith, c.loop-ty.invariant.all, none)
