-- Examples: threads and monitors.
use Rattle.std.specs.Prelude.{refl}
use Rattle.std.specs.Fmt.{digits}
use Rattle.dv_defs.specs.Formats.{format_at, is_float}
use Rattle.dv_defs.specs.Pools.{class_named, method_at, field_at, nearest, initialiser}
use Rattle.dv_defs.specs.Selecting.{selected}
use Rattle.dv_defs.specs.Order.{sub, instance, assignable, fits}
use Rattle.dv_defs.specs.Op.{code_at}
use Rattle.dv_typing.specs.Statics.{fetch}
use Rattle.dv_typing.specs.Transfer.{write_type, write_two}
use Rattle.dv_typing.specs.Flow.{handlers_at}
use Rattle.dv_defs.specs.Common.{common_super}
use Rattle.dv_typing.specs.Accepting.{static_places}
use Rattle.dv_machine.specs.Calls.{dispatch}
use Rattle.test_machine.specs.Threads.{Threads, boxing, summing, waiting_program}
use Rattle.test_machine.proofs.Computed.Checking.{accepted_by}

pub threads : Threads
unfolding digits class_named method_at field_at nearest selected initialiser sub instance assignable fits code_at fetch handlers_at dispatch format_at write_type write_two common_super static_places is_float
threads = record { waiting_is_accepted = accepted_by waiting_program refl; wait_keeps_the_count = refl; wait_without_the_monitor = refl; waits_forever = refl; joins_an_ended_thread = refl; joins_itself = refl; holds_what_the_other_enters = refl; producer_and_consumer = refl; boxing_is_accepted = accepted_by boxing refl; threads_sum_up = refl; summing_is_accepted = accepted_by summing refl }
