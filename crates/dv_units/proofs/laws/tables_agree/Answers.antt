use Rattle.dv_units.proofs.Opcodes.{formats_agree, families_agree, floats_agree}
use Rattle.dv_units.proofs.Operations.{throws_agree, locals_agree}
use Rattle.dv_units.proofs.laws.tables_agree.Goals as goal

pub returns : goal.returns
returns c = record { formats = formats_agree; families = families_agree; floats = floats_agree; throws = throws_agree; locals = locals_agree }
