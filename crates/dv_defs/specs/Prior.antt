-- Which classes are initialised before a class (JLS 12.4.1, 12.4.2 step 7).
use Rattle.std.specs.Prelude.{ℕ, zero, suc, Bool, true, false, ◌&&◌, not, List, [], ◌∷◌, ◌++◌, length, filter, flat_map, slice_get, bytes_eq, option_to_list}
use Rattle.std.specs.List.{list_any}
use Rattle.dv_defs.specs.declared.class.MethodDef.{MethodDef}
use Rattle.dv_defs.specs.declared.flags.Flag.TheVariants as flag
use Rattle.dv_defs.specs.Flags.{has_flag}
use Rattle.dv_defs.specs.Images.{Image}
use Rattle.dv_defs.specs.Names.{init_name}
use Rattle.dv_defs.specs.Pools.{methods_of, parent_at, is_interface}
use Rattle.dv_defs.specs.LookUp.{interfaces_at, once}

-- of an interface: an instance method that is neither abstract nor private nor a constructor
abbrev pub is_default : MethodDef → Bool
is_default m =
    not (has_flag m.flags flag.Static) && not (has_flag m.flags flag.Abstract) && not (has_flag m.flags flag.Private)
    && not (bytes_eq m.name init_name)

abbrev pub declares_default : Image → ℕ → Bool
declares_default image c = list_any is_default (methods_of (slice_get image.classes c))

-- what stands above a class, by the same rule for each in order, and then the class; cut off after so many steps
abbrev pub downward : (ℕ → List ℕ) → ℕ → ℕ → List ℕ
downward above zero c = []
downward above (suc n) c = flat_map (downward above n) (above c) ++ (c ∷ [])

-- the interfaces that a class names and those above them, each behind those that it extends
abbrev pub interfaces_before : Image → ℕ → List ℕ
interfaces_before image c = once (flat_map (downward (interfaces_at image) (length image.classes)) (interfaces_at image c))

-- the superclass, then the superinterfaces that declare a default method; before an interface nothing is initialised
abbrev pub prior_at : Image → ℕ → List ℕ
prior_at image c =
    elim (is_interface image c) [
      | true ↦ []
      | false ↦ option_to_list (parent_at image c) ++ filter (declares_default image) (interfaces_before image c)
    ]
