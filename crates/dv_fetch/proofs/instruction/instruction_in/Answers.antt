use Rattle.std.proofs.Common.{refl}
use Rattle.dv_ops.specs.Meaning.{code_of}
use Rattle.dv_fetch.proofs.Found.{spelled}
use Rattle.dv_fetch.proofs.instruction.instruction_in.Goals as goal

pub returns-in-Some : goal.returns-in-Some
returns-in-Some c stack own h x same is at has coded =
    spelled c.args.image.now stack own h x same is at c.args.head has (code_of c.args.code.now) coded c.in-Some.found c.in-Some.ensures refl
