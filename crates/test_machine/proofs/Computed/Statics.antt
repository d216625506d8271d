-- Examples: the static rules, each by a raw body that breaks it.
use Rattle.std.specs.Prelude.{refl}
use Rattle.std.specs.Fmt.{digits}
use Rattle.dv_defs.specs.Formats.{format_at, is_float}
use Rattle.dv_defs.specs.Pools.{class_named, method_at, field_at, nearest, initialiser}
use Rattle.dv_defs.specs.Selecting.{selected}
use Rattle.dv_defs.specs.Order.{sub, instance, assignable, fits}
use Rattle.dv_defs.specs.Op.{code_at}
use Rattle.dv_typing.specs.Statics.{fetch}
use Rattle.dv_typing.specs.Transfer.{write_type, write_two}
use Rattle.dv_typing.specs.Flow.{handlers_at}
use Rattle.dv_defs.specs.Common.{common_super}
use Rattle.dv_typing.specs.Accepting.{static_places}
use Rattle.dv_machine.specs.Calls.{dispatch}
use Rattle.test_machine.specs.Statics.{StaticRules}

pub static_rules : StaticRules
unfolding digits class_named method_at field_at nearest selected initialiser sub instance assignable fits code_at fetch handlers_at dispatch format_at write_type write_two common_super static_places is_float
static_rules = record { static_middle = refl; static_payload_flow = refl; static_unused = refl; static_cut = refl; static_short_payload = refl; static_ragged_nop = refl; static_float = refl; static_begins_payload = refl; static_stays = refl; static_stays_far = refl; static_no_payload = refl; static_other_payload = refl; static_odd_payload = refl; static_switch_middle = refl; static_equal_keys = refl; static_falling_keys = refl; static_last_key = refl; static_register = refl; static_half_outside = refl; static_few = refl; static_no_string = refl; static_no_long_field = refl; static_instance_form = refl; static_suffix = refl; static_not_virtual = refl; static_initialiser = refl; static_virtual_interface = refl; static_super_interface = refl; static_super_array = refl; static_words = refl; static_interface = refl; static_array = refl; static_primitive = refl; static_no_array = refl; static_chars = refl; static_cast = refl; static_empty_try = refl; static_overlap = refl; static_ends_inside = refl; static_no_handler_there = refl; static_no_throwable = refl; static_all_not_last = refl; static_several = refl }
