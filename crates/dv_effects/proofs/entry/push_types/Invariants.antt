use Rattle.std.proofs.Common.{◌++◌, take}
use Rattle.dv_typing.specs.RegTypes.{Types, all_types}
use Rattle.dv_bases.specs.Bases.{IsWider}
use Rattle.dv_effects.specs.Said.{SayAll}
use Rattle.dv_effects.proofs.entry.push_types.Given as goal

abbrev pub invariant-loop-ty : goal.invariant-loop-ty
invariant-loop-ty l =
    record {
      wider : IsWider l.initial.bases l.bases;
      told : (ts : Types) → SayAll l.initial.bases l.initial.words.items ts → SayAll l.bases l.words.items (ts ++ all_types (take l.ty-index l.params));
    }
