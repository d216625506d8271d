-- How far the targets of a switch are from it.
use Rattle.std.specs.Prelude.{Bool, true, false, List, [], ℤ}
use Rattle.dv_defs.specs.declared.code.Payload.{Payload}
use Rattle.dv_defs.specs.declared.code.Payload.TheVariants as payload
use Rattle.dv_defs.specs.Op.{Op, Switch}

-- in the order of its cases
abbrev pub distances : Payload → List ℤ
distances (payload.Packed first targets) = targets
distances (payload.Sparse keys targets) = targets
distances (payload.Data width bytes) = []

-- a switch
abbrev pub is_switch : Op → Bool
is_switch (Switch a cases) = true
is_switch op = false
