-- A method's body with the names by which its types are numbered, and what leads to its addresses.
use Rattle.dv_bases.specs.Bases.{Names}
use Rattle.dv_defs.specs.Op.{Code}
use Rattle.std.specs.Prelude.{List}
use Rattle.dv_plan.specs.declared.marks.Mark.{Mark}

pub record NamedCode : Type 0 where
  pub names : Names
  pub code : Code
  pub marks : List Mark
