-- What the inference of a method's types goes by.
use Rattle.std.specs.Prelude.{◌≡◌, length}
use Rattle.dv_defs.specs.Images.{Image}
use Rattle.dv_defs.specs.Op.{Code}
use Rattle.dv_typing.specs.Transfer.{entry_state}
use Rattle.dv_bases.specs.Bases.{Names}
use Rattle.dv_bases.specs.States.{AreWords, state_of}
use Rattle.dv_effects.specs.Made.{IsOwn}
use Rattle.dv_plan.specs.declared.plan.Plan.{Plan}
use Rattle.law_blocks.specs.Blocks.{AreBefore}
use Rattle.dv_plan.specs.Marks.{before_by}
use Rattle.dv_plan.specs.Hops.{AreHops}
use Rattle.dv_plan.specs.Ways.{AreWays}
use Rattle.dv_plan.specs.Steps.{AreStepsTo}

-- the state on entry, the method's class, the steps, the ways on and the handlers are those of the method
pub record IsPlan (image : Image) (names : Names) (code : Code) (p : Plan) : Type 0 where
  pub entry_words : AreWords names p.entry
  pub entry_state : state_of names p.entry ≡ entry_state image code.method code.body.registers
  pub own : IsOwn names code p.own
  pub steps : AreStepsTo image names code (length code.body.units) p.steps.items
  pub ways : AreWays image code (length code.body.units) p.ways.items
  pub hops : AreHops names code.body (length code.body.tries) p.hops.items
  pub before : AreBefore image code (before_by p.marks.items)
