use Rattle.std.proofs.Common.{ℕ}
use Rattle.std.specs.Prelude.{All}
use Rattle.dv_defs.specs.Images.{Image}
use Rattle.dv_defs.specs.Op.{Code}
use Rattle.law_levels.specs.Levels.{IsBounded}
use Rattle.dv_levels.specs.Takes.{IsLevel}
use Rattle.dv_levels.proofs.search.to_targets.Given as goal

abbrev pub invariant-loop-to : goal.invariant-loop-to
invariant-loop-to l =
    (image : Image) (code : Code) (first own : ℕ) → All (λ to. IsBounded image code first own to l.register l.fewer) l.targets →
    All (IsLevel image code first own) l.initial.open.items → All (IsLevel image code first own) l.open.items
