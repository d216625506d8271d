use Rattle.std.proofs.Common.{◌≡◌, ◌<◌, ◌-◌, ◌++◌, length, All}
use Rattle.std.specs.Prelude.{IfSome}
use Rattle.dv_defs.specs.Order.{numbers}
use Rattle.dv_defs.specs.Pools.{class_number}
use Rattle.dv_hier.specs.Slots.{walked}
use Rattle.dv_vtable.specs.Chains.{chain_of}
use Rattle.dv_vtable.proofs.chains.chain_of.Given as goal

abbrev pub invariant-loop : goal.invariant-loop
invariant-loop l =
    (numbers l.chain.items ++ walked l.infos (length l.infos - l.counter) (class_number l.above) ≡ chain_of l.infos l.fn.class.0)
    × (All (λ c. c.0 < length l.infos) l.chain.items)
    × (IfSome l.above (λ c. c.0 < length l.infos))
