-- Examples: class initialisation.
use Rattle.std.specs.Prelude.{refl}
use Rattle.std.specs.Fmt.{digits}
use Rattle.dv_defs.specs.Formats.{format_at, is_float}
use Rattle.dv_defs.specs.Pools.{class_named, method_at, field_at, nearest, initialiser}
use Rattle.dv_defs.specs.Selecting.{selected}
use Rattle.dv_defs.specs.Order.{sub, instance, assignable, fits}
use Rattle.dv_defs.specs.Op.{code_at}
use Rattle.dv_typing.specs.Statics.{fetch}
use Rattle.dv_typing.specs.Transfer.{write_type, write_two}
use Rattle.dv_typing.specs.Flow.{handlers_at}
use Rattle.dv_defs.specs.Common.{common_super}
use Rattle.dv_typing.specs.Accepting.{static_places}
use Rattle.dv_machine.specs.Calls.{dispatch}
use Rattle.test_machine.specs.Classes.{Initialising, crossing, failing}
use Rattle.test_machine.proofs.Computed.Checking.{accepted_by}

pub initialising : Initialising
unfolding digits class_named method_at field_at nearest selected initialiser sub instance assignable fits code_at fetch handlers_at dispatch format_at write_type write_two common_super static_places is_float
initialising = record { each_waits_for_the_other = refl; one_goes_first = refl; stops_early = refl; past_the_end = refl; not_runnable = refl; not_there = refl; crossing_is_accepted = accepted_by crossing refl; initialiser_throws = refl; failing_is_accepted = accepted_by failing refl; superclass_goes_first = refl; main_never_runs = refl }
