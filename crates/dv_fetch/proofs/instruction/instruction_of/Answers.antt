use Rattle.dv_fetch.proofs.Found.{some_code}
use Rattle.dv_fetch.proofs.instruction.instruction_of.Goals as goal

pub returns-in_default-coded_at : goal.returns-in_default-coded_at
returns-in_default-coded_at c own h x same is at = some_code c.args.image.now c.args.stack.now own h x same is at c.in-Some.head c.in-Some.ensures c.in_default-coded_at.ensures

pub returns : goal.returns
returns c own h x same is at = c.instruction_in.ensures c.args.stack.now own h x same is at c.in-Some.ensures c.in-Some-coded_at.ensures
