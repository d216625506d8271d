use Rattle.std.proofs.Common.{◌≡◌, drop, map}
use Rattle.dv_plan.specs.Marks.{headed}
use Rattle.dv_plan.proofs.marks.head_hops.Given as goal

abbrev pub invariant-loop-hop : goal.invariant-loop-hop
invariant-loop-hop l = headed l.marks.items (map (λ h. h.to) (drop l.hop-index l.hops)) ≡ headed l.initial.marks.items (map (λ h. h.to) l.hops)
