-- The methods of classes and their superclasses by key, told of the classes alone.
use Rattle.std.specs.Prelude.{ℕ, suc, Bool, true, false, ◌&&◌, not, List, [], ◌∷◌, length, take, sum_by, Some, slice_get, bytes_eq, if◌then◌else◌}
use Rattle.dv_defs.specs.declared.names.Proto.{Proto}
use Rattle.dv_defs.specs.declared.names.ClassId.{ClassId}
use Rattle.dv_defs.specs.declared.names.MethodId.{MethodId}
use Rattle.dv_defs.specs.declared.class.MethodDef.{MethodDef}
use Rattle.dv_defs.specs.declared.image.ClassInfo.{ClassInfo}
use Rattle.dv_defs.specs.declared.image.Select.{Select}
use Rattle.dv_defs.specs.declared.flags.Flag.TheVariants as flag
use Rattle.dv_defs.specs.Flags.{has_flag}
use Rattle.dv_defs.specs.Names.{init_name}
use Rattle.dv_defs.specs.Types.{same_proto}
use Rattle.dv_defs.specs.Pools.{methods_of}
use Rattle.dv_hier.specs.Slots.{walked}
use Rattle.dv_vtable.specs.declared.keys.MethodKey.{MethodKey}

-- ---- keys

-- a method's name and prototype
pub record Key : Type 0 where
  pub name : List ℕ
  pub proto : Proto

abbrev pub same_key : Key → Key → Bool
same_key k q = bytes_eq q.name k.name && same_proto q.proto k.proto

abbrev pub key_in : MethodDef → Key
key_in m = record { name = m.name; proto = m.proto }

-- what a map's key tells
abbrev pub key_told : MethodKey → Key
key_told k = record { name = k.name.now; proto = k.proto.now }

-- ---- entries

-- the entries with a key's value: a key that is there keeps its place, and a new one goes last
abbrev pub insert_entry : {K V : Type 0} → (K → K → Bool) → List (K × V) → K → V → List (K × V)
insert_entry eq [] k v = (k, v) ∷ []
insert_entry eq (e ∷ es) k v = if eq k e.0 then (e.0, v) ∷ es else e ∷ insert_entry eq es k v

-- ---- one class

-- an instance method that is neither private nor a constructor
abbrev pub is_in_tables : MethodDef → Bool
is_in_tables m =
    not (has_flag m.flags flag.Static) && not (has_flag m.flags flag.Private)
    && not (not (has_flag m.flags flag.Static) && bytes_eq m.name init_name)

abbrev pub method_number : ℕ → MethodId
method_number n = record { 0 = n }

-- the entries after the methods of a class, which are numbered from one on
abbrev pub entered : List (Key × MethodId) → ℕ → List MethodDef → List (Key × MethodId)
entered es id [] = es
entered es id (m ∷ ms) =
    entered (elim (is_in_tables m) [ true ↦ insert_entry same_key es (key_in m) (method_number id) | false ↦ es ]) (suc id) ms

-- ---- with the classes above

-- the number of a class's first method
abbrev pub first_method : List ClassInfo → ℕ → ℕ
first_method cs i = sum_by (λ c. length c.def.methods) (take i cs)

abbrev pub entered_class : List ClassInfo → List (Key × MethodId) → ℕ → List (Key × MethodId)
entered_class cs es c = entered es (first_method cs c) (methods_of (slice_get cs c))

-- of classes, nearest first: the farthest one's methods are entered first
abbrev pub entered_chain : List ClassInfo → List (Key × MethodId) → List ℕ → List (Key × MethodId)
entered_chain cs es [] = es
entered_chain cs es (c ∷ chain) = entered_class cs (entered_chain cs es chain) c

-- a class and its superclasses, nearest first
abbrev pub chain_of : List ClassInfo → ℕ → List ℕ
chain_of cs c = walked cs (length cs) (Some c)

-- a class with this table and these classes that are initialised before it
abbrev pub info_with : (ClassInfo × List Select) × List ClassId → ClassInfo
info_with p = record { def = p.0.0.def; parent = p.0.0.parent; interfaces = p.0.0.interfaces; slots = p.0.0.slots; table = p.0.1; prior = p.1 }
