-- What the returns demand.
use Rattle.std.specs.Prelude.{ℕ, ◌&&◌, not}
use Rattle.dv_defs.specs.declared.faults.Rule.TheVariants as rule
use Rattle.dv_typing.specs.declared.typing.RegState.{RegState}
use Rattle.dv_typing.specs.Demands.{Demand, first, demand, is_void, result_width, same_width, this_initialised, value_returned}
use Rattle.dv_defs.specs.Images.{Image}
use Rattle.dv_defs.specs.Parts.{Width}
use Rattle.dv_defs.specs.Pools.{Method}

abbrev pub return_void_for : Method → RegState → Demand
return_void_for m s = first (demand (is_void m.def.proto.ret) (rule.V 13)) (this_initialised m s)

abbrev pub return_for : Image → Method → Width → ℕ → RegState → Demand
return_for image m x a s =
    first (demand (not (is_void m.def.proto.ret) && same_width x (result_width m.def.proto.ret)) (rule.V 13))
    (first (this_initialised m s) (value_returned image s.regs a m.def.proto.ret))
