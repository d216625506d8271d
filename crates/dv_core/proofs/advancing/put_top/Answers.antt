use Rattle.std.proofs.lemmas.Grind.{elements}
use Rattle.std.proofs.Common.{◌<◌, length, arith}
use Rattle.dv_core.proofs.Advanced.{set_bounds}
use Rattle.dv_core.proofs.Seen.{got_there}
use Rattle.dv_core.proofs.advancing.put_top.Goals as goal

pub returns-clause-bounds : goal.returns-clause-bounds
returns-clause-bounds c =
    let stacks = c.args.stacks.now in
    let t = c.args.thread in
    let stack = c.index_mut.result.now in
    let within : t < length stacks.items = omega (arith, c.if-place-len.false, c.len.ensures, stacks.ok.0) in
    set_bounds stacks.items t stack c.put_on.new.stack (got_there stacks.items t stack stack within c.index_mut.ensures.value) c.put_on.ensures.bounds

pub returns-clause-takes : goal.returns-clause-takes
returns-clause-takes c = grind (arith, elements)

pub returns-clause-put : goal.returns-clause-put
returns-clause-put c = grind (arith, elements)

pub returns-then-place-len-clause-takes : goal.returns-then-place-len-clause-takes
returns-then-place-len-clause-takes c = grind (arith, elements)
