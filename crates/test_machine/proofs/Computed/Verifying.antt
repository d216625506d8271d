-- Examples: what the verifier accepts and refuses, with address and rule.
use Rattle.std.specs.Prelude.{refl}
use Rattle.std.specs.Fmt.{digits}
use Rattle.dv_defs.specs.Formats.{format_at, is_float}
use Rattle.dv_defs.specs.Pools.{class_named, method_at, field_at, nearest, initialiser}
use Rattle.dv_defs.specs.Selecting.{selected}
use Rattle.dv_defs.specs.Order.{sub, instance, assignable, fits}
use Rattle.dv_defs.specs.Op.{code_at}
use Rattle.dv_typing.specs.Statics.{fetch}
use Rattle.dv_typing.specs.Transfer.{write_type, write_two}
use Rattle.dv_typing.specs.Flow.{handlers_at}
use Rattle.dv_defs.specs.Common.{common_super}
use Rattle.dv_typing.specs.Accepting.{static_places}
use Rattle.dv_machine.specs.Calls.{dispatch}
use Rattle.test_machine.specs.Verifying.{Verifying, boot_alone, inner, null_and_zero, one_a_turn, written}
use Rattle.test_machine.proofs.Computed.Checking.{accepted_by}

pub verifying : Verifying
unfolding digits class_named method_at field_at nearest selected initialiser sub instance assignable fits code_at fetch handlers_at dispatch format_at write_type write_two common_super static_places is_float
verifying = record { boot_bodies = accepted_by boot_alone refl; merge_of_unwritten = refl; merge_of_written = accepted_by written refl; written_runs = refl; half_overwritten = refl; zero_is_both = accepted_by null_and_zero refl; null_is_no_instance = refl; computed_zero_is_an_int = refl; two_of_one_new_instance = refl; one_object_a_turn = accepted_by one_a_turn refl; one_object_a_turn_runs = refl; own_field_before_super = accepted_by inner refl; no_call_before_super = refl }
