use Rattle.std.proofs.Common.{ℕ}
use Rattle.std.specs.Prelude.{All}
use Rattle.dv_defs.specs.Images.{Image}
use Rattle.dv_defs.specs.Op.{Code}
use Rattle.dv_plan.specs.declared.hops.Hop.{Hop}
use Rattle.law_levels.specs.Levels.{IsBounded}
use Rattle.dv_levels.specs.Takes.{IsLevel}
use Rattle.dv_levels.proofs.search.to_handlers.Given as goal

abbrev pub invariant-loop-hop : goal.invariant-loop-hop
invariant-loop-hop l =
    (image : Image) (code : Code) (first own : ℕ) → All (λ (hop : Hop). IsBounded image code first own hop.to l.level.register l.level.fewer) l.hops →
    All (IsLevel image code first own) l.initial.open.items → All (IsLevel image code first own) l.open.items
