-- Parts of what an invoke demands.
use Rattle.std.specs.Prelude.{ℕ, suc, true, false, Option, Some, None, nat_eq}
use Rattle.dv_defs.specs.declared.faults.Rule.TheVariants as rule
use Rattle.dv_typing.specs.Demands.{Demand, first, demand, long, receiver_for, ref_to, super_for}
use Rattle.dv_defs.specs.Images.{Image}
use Rattle.dv_defs.specs.Parts.{Call}
use Rattle.dv_defs.specs.Pools.{Method, is_constructor, own_type}
use Rattle.dv_typing.specs.RegTypes.{Types, type_at}

-- a long in a register and the next one that is named
abbrev pub long_arg_for : Types → ℕ → Option ℕ → Demand
long_arg_for ts k None = Some (rule.S 15)
long_arg_for ts k (Some j) = first (long ts k) (demand (nat_eq j (suc k)) (rule.V 3))

-- an object to initialise, or one of the method's class
abbrev pub object_for : Image → Method → Types → Call → ℕ → Method → Demand
object_for image own ts c k m =
    elim (is_constructor m) [
      | true ↦ receiver_for image own m (type_at ts k)
      | false ↦ first (ref_to image ts k (own_type image m)) (super_for image own ts k c)
    ]
