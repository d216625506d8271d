use Rattle.std.proofs.Common.{◌≡◌, ◌<◌, ◌-◌, ◌++◌, length, All}
use Rattle.std.specs.Prelude.{IfSome}
use Rattle.dv_defs.specs.Order.{numbers}
use Rattle.dv_defs.specs.Pools.{class_number}
use Rattle.dv_hier.specs.Slots.{walked, superclasses}
use Rattle.dv_hier.proofs.slots.superclasses.Given as goal

abbrev pub invariant-loop : goal.invariant-loop
invariant-loop l =
    (numbers l.chain.items ++ walked l.infos (length l.infos - l.counter) (class_number l.above) ≡ superclasses l.infos l.class)
    × (All (λ c. c.0 < length l.infos) l.chain.items)
    × (IfSome l.above (λ c. c.0 < length l.infos))
