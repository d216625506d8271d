use Rattle.std.proofs.Common.{◌-◌, ◌^◌, ◌<◌, length, arith}
use Rattle.dv_coderead.proofs.Numbered.{have_next}
use Rattle.test_text.proofs.coderead.bodies.read.Goals as goal

pub read_body-requires-clause-tokens : goal.read_body-requires-clause-tokens
read_body-requires-clause-tokens g c = rw c.items.ensures c.in_ok-good.ensures.tokens

pub read_body-requires-clause-numbers : goal.read_body-requires-clause-numbers
read_body-requires-clause-numbers g c =
    let few : length c.as_bytes-text.result.now < 2 ^ 32 - 1 = omega arith in
    rw c.items.ensures (have_next c.as_bytes-text.result.now c.in_ok-good.good c.in_ok-good.ensures.exact few)
