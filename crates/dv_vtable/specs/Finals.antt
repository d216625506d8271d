-- Which methods of the superclasses may not be overridden.
use Rattle.std.specs.Prelude.{ℕ, Bool, ◌&&◌, List, bytes_eq, nat_eq, slice_get}
use Rattle.std.specs.List.{list_any}
use Rattle.dv_defs.specs.declared.names.MethodId.{MethodId}
use Rattle.dv_defs.specs.declared.class.MethodDef.{MethodDef}
use Rattle.dv_defs.specs.declared.image.ClassInfo.{ClassInfo}
use Rattle.dv_defs.specs.Names.{init_name}
use Rattle.dv_defs.specs.Pools.{methods_of}
use Rattle.dv_defs.specs.LinkFaults.{is_final}
use Rattle.dv_hier.specs.Slots.{superclasses}
use Rattle.dv_vtable.specs.Chains.{Key}
use Rattle.dv_vtable.specs.Numbered.{has_key, key_number, numbers_of}

-- one of the methods is final and has the key
abbrev pub has_final : Key → List MethodDef → Bool
has_final k ms = list_any (λ n. is_final n && has_key k n) ms

abbrev pub class_has_final : List ClassInfo → Key → ℕ → Bool
class_has_final cs k d = has_final k (methods_of (slice_get cs d))

-- a superclass of the class has one
abbrev pub final_above : List ClassInfo → ℕ → Key → Bool
final_above cs c k = list_any (class_has_final cs k) (superclasses cs c)

-- no method of the name overrides another
abbrev pub is_constructor : Key → Bool
is_constructor k = bytes_eq k.name init_name

-- an entry has the number of the key
abbrev pub has_entry : List MethodDef → List (ℕ × MethodId) → Key → Bool
has_entry all es k = list_any (nat_eq (key_number all k)) (numbers_of es)
