-- What is asked of the pools of a body, pass by pass.
use Rattle.std.specs.Prelude.{ℕ, Bool, false, ◌&&◌, not, Option, Some, None, nat_eq}
use Rattle.dv_defs.specs.declared.code.Body.{Body}
use Rattle.dv_defs.specs.declared.faults.LinkKind.{LinkKind}
use Rattle.dv_defs.specs.declared.flags.Flag.TheVariants as flag
use Rattle.dv_defs.specs.First.{first_in}
use Rattle.dv_defs.specs.Flags.{has_flag}
use Rattle.dv_defs.specs.Images.{Image}
use Rattle.dv_defs.specs.LinkFaults.{no_class_in_pools, no_field, no_method, private_in_pools}
use Rattle.dv_resolve.specs.declared.members.Member.{Member}
use Rattle.dv_resolve.specs.declared.pools.Pass.{Pass}
use Rattle.dv_resolve.specs.declared.pools.Pass.TheVariants as pass

-- what a pass finds in a body of the class at a place
abbrev pub fault_by : Image → ℕ → Pass → Body → Option LinkKind
fault_by image place pass.Classes b = no_class_in_pools image b
fault_by image place pass.Fields b = first_in (no_field image) b.fields
fault_by image place pass.Methods b = first_in (no_method image) b.methods
fault_by image place pass.Access b = private_in_pools image place b

-- a private member of another class than the one at a place
abbrev pub is_foreign_private : ℕ → Option Member → Bool
is_foreign_private place None = false
is_foreign_private place (Some m) = has_flag m.flags flag.Private && not (nat_eq m.class.0 place)
