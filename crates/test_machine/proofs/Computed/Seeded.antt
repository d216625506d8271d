-- Examples: turns and seeded runs.
use Rattle.std.specs.Prelude.{refl}
use Rattle.std.specs.Fmt.{digits}
use Rattle.rand_core.specs.Pcg32Seed.{pcg32_seed}
use Rattle.rand_core.specs.Steps.{word_bytes, u32_at}
use Rattle.rand_pcg.specs.Lcg.{state_after}
use Rattle.dv_defs.specs.Formats.{format_at, is_float}
use Rattle.dv_defs.specs.Pools.{class_named, method_at, field_at, nearest, initialiser}
use Rattle.dv_defs.specs.Selecting.{selected}
use Rattle.dv_defs.specs.Order.{sub, instance, assignable, fits}
use Rattle.dv_defs.specs.Op.{code_at}
use Rattle.dv_typing.specs.Statics.{fetch}
use Rattle.dv_typing.specs.Transfer.{write_type, write_two}
use Rattle.dv_typing.specs.Flow.{handlers_at}
use Rattle.dv_defs.specs.Common.{common_super}
use Rattle.dv_typing.specs.Accepting.{static_places}
use Rattle.dv_machine.specs.Calls.{dispatch}
use Rattle.test_machine.specs.Seeded.{SeededRuns}

pub seeded_runs : SeededRuns
unfolding digits class_named method_at field_at nearest selected initialiser sub instance assignable fits code_at fetch handlers_at dispatch format_at write_type write_two common_super static_places is_float state_after pcg32_seed word_bytes u32_at
seeded_runs = record { turns_of_one_thread = refl; whole_in_one_turn = refl; lowest_first = refl; words_of_zero = refl; seed_zero = refl; second_first = refl }
