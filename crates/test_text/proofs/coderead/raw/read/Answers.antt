use Rattle.std.proofs.Common.{◌-◌, ◌^◌, ◌<◌, length, arith}
use Rattle.dv_coderead.proofs.Numbered.{have_next}
use Rattle.test_text.proofs.coderead.raw.read.Goals as goal

pub read_raw-requires-clause-tokens : goal.read_raw-requires-clause-tokens
read_raw-requires-clause-tokens g c = rw c.items.ensures c.in_ok-good.ensures.tokens

pub read_raw-requires-clause-numbers : goal.read_raw-requires-clause-numbers
read_raw-requires-clause-numbers g c =
    let few : length c.args.text.now < 2 ^ 32 - 1 = omega arith in
    rw c.items.ensures (have_next c.args.text.now c.in_ok-good.good c.in_ok-good.ensures.exact few)
