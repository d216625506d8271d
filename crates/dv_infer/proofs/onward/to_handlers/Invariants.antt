use Rattle.std.proofs.Common.{◌≡◌, map, take}
use Rattle.dv_bases.specs.States.{state_of}
use Rattle.dv_infer.specs.Along.{to_handler}
use Rattle.dv_infer.proofs.onward.to_handlers.Given as goal

abbrev pub invariant-loop-hop : goal.invariant-loop-hop
invariant-loop-hop l = l.onwards ≡ map (to_handler l.bases (state_of l.bases l.words)) (take l.hop-index l.hops)
