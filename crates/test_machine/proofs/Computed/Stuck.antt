-- Examples: where the machine is stuck.
use Rattle.std.specs.Prelude.{refl}
use Rattle.std.specs.Fmt.{digits}
use Rattle.dv_defs.specs.Formats.{format_at, is_float}
use Rattle.dv_defs.specs.Pools.{class_named, method_at, field_at, nearest, initialiser}
use Rattle.dv_defs.specs.Selecting.{selected}
use Rattle.dv_defs.specs.Order.{sub, instance, assignable, fits}
use Rattle.dv_defs.specs.Op.{code_at}
use Rattle.dv_typing.specs.Statics.{fetch}
use Rattle.dv_typing.specs.Transfer.{write_type, write_two}
use Rattle.dv_typing.specs.Flow.{handlers_at}
use Rattle.dv_defs.specs.Common.{common_super}
use Rattle.dv_typing.specs.Accepting.{static_places}
use Rattle.dv_machine.specs.Calls.{dispatch}
use Rattle.test_machine.specs.Stuck.{StuckReasons}

pub stuck_reasons : StuckReasons
unfolding digits class_named method_at field_at nearest selected initialiser sub instance assignable fits code_at fetch handlers_at dispatch format_at write_type write_two common_super static_places is_float
stuck_reasons = record { undefined_is_stuck = refl; broken_is_stuck = refl; half_is_stuck = refl; uninitialised_is_stuck = refl; reference_is_stuck = refl; number_is_stuck = refl; mixing_is_stuck = refl; resultless_is_stuck = refl; uncaught_is_stuck = refl; falls_off_is_stuck = refl; twice_is_stuck = refl }
