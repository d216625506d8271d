use Rattle.std.proofs.Common.{arith}
use Rattle.dv_defs.specs.Common.{array_of}
use Rattle.dv_defs.specs.Names.{string_name}
use Rattle.dv_defs.specs.Types.{of_class}
use Rattle.dv_resolve.proofs.MainLaws.{several_types, some_types}
use Rattle.dv_resolve.proofs.main_method.has_parameters.Goals as goal

pub returns-in_default-2 : goal.returns-in_default-2
returns-in_default-2 c = let is = c.in_default.is-0 in rw is (several_types c.args.params.now (array_of (of_class string_name)) (omega arith))

pub returns-in_default-3 : goal.returns-in_default-3
returns-in_default-3 c = let is = c.in_default.is-0 in rw is (some_types c.args.params.now (omega arith))
