-- Examples: objects, calls and strings.
use Rattle.std.specs.Prelude.{refl}
use Rattle.std.specs.Fmt.{digits}
use Rattle.dv_defs.specs.Formats.{format_at, is_float}
use Rattle.dv_defs.specs.Pools.{class_named, method_at, field_at, nearest, initialiser}
use Rattle.dv_defs.specs.Selecting.{selected}
use Rattle.dv_defs.specs.Order.{sub, instance, assignable, fits}
use Rattle.dv_defs.specs.Op.{code_at}
use Rattle.dv_typing.specs.Statics.{fetch}
use Rattle.dv_typing.specs.Transfer.{write_type, write_two}
use Rattle.dv_typing.specs.Flow.{handlers_at}
use Rattle.dv_defs.specs.Common.{common_super}
use Rattle.dv_typing.specs.Accepting.{static_places}
use Rattle.dv_machine.specs.Calls.{dispatch}
use Rattle.test_machine.specs.Objects.{Objects, arrays, calling, texts}
use Rattle.test_machine.proofs.Computed.Checking.{accepted_by}

pub objects : Objects
unfolding digits class_named method_at field_at nearest selected initialiser sub instance assignable fits code_at fetch handlers_at dispatch format_at write_type write_two common_super static_places is_float
objects = record { calls_find_the_nearest = refl; interface_is_lacking = refl; method_is_lacking = refl; receiver_is_null = refl; fields_keep_low_bits = refl; cast_fails = refl; calling_is_accepted = accepted_by calling refl; arrays_are_accepted = accepted_by arrays refl; elements_and_index = refl; fill_is_too_long = refl; store_is_tested = refl; size_is_negative = refl; null_goes_first = refl; booleans_keep_one_bit = refl; texts_are_accepted = accepted_by texts refl; builder_and_stream = refl; literals_are_one = refl; units_as_bytes = refl }
