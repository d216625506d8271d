use Rattle.std.proofs.Common.{◌≡◌, map, take}
use Rattle.dv_bases.specs.Bases.{word_type}
use Rattle.dv_bases.proofs.states.register_types.Given as goal

abbrev pub invariant-loop-word : goal.invariant-loop-word
invariant-loop-word l = l.types.items ≡ map (word_type l.bases) (take l.word-index l.words)
