-- The words of a seed, and the schedule that they pick: those of the generator Pcg32 (PCG XSH RR 64/32) that is made of a number
-- by `seed_from_u64`, as the crates rand_pcg and rand_core specify them.
use Rattle.std.specs.Prelude.{ℕ, List}
use Rattle.rand_core.specs.Pcg32Seed.{pcg32_seed}
use Rattle.rand_pcg.specs.Lcg.{Lcg, advance}
use Rattle.rand_pcg.specs.Pcg.{multiplier_64, output_xsh_rr, pcg32_of_seed}
use Rattle.dv_defs.specs.Images.{Image}
use Rattle.dv_defs.specs.declared.run.Limits.{Limits}
use Rattle.dv_defs.specs.declared.run.Entry.{Entry}
use Rattle.dv_defs.specs.Pools.{Method}
use Rattle.dv_machine.specs.State.{Reads}
use Rattle.dv_machine.specs.Replaying.{seeded_log}

-- the generator of a number
abbrev pub generator_of : ℕ → Lcg
generator_of seed = pcg32_of_seed (pcg32_seed 16 seed)

-- the word at a place, from 0 on, which is made of the generator's state there
abbrev pub word_of : ℕ → ℕ → ℕ
word_of seed k = output_xsh_rr (advance 64 multiplier_64 k (generator_of seed)).state

-- the schedule of a run with a seed
abbrev pub log_of_seed : Image → Method → Limits → ℕ → Reads (List Entry)
log_of_seed image main limits seed = seeded_log (word_of seed) image main limits
