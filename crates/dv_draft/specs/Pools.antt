-- The pools of a body: what its instructions name, and the types of its handlers, in first-seen order.
use Rattle.std.specs.Prelude.{ℕ, Bool, List, [], ◌∷◌, ◌++◌, bytes_eq, position, unwrap_or, Option, Some, None}
use Rattle.dv_defs.specs.declared.names.Ty.{Ty}
use Rattle.dv_defs.specs.declared.names.FieldRef.{FieldRef}
use Rattle.dv_defs.specs.declared.names.MethodRef.{MethodRef}
use Rattle.dv_defs.specs.Entries.{with_entry}
use Rattle.dv_defs.specs.Types.{ty_eq, field_eq, method_eq}
use Rattle.dv_draft.specs.declared.draft.Item.{Item}
use Rattle.dv_draft.specs.declared.draft.What.{What}
use Rattle.dv_draft.specs.declared.draft.What.TheVariants as what
use Rattle.dv_draft.specs.declared.draft.PoolRef.{PoolRef}
use Rattle.dv_draft.specs.declared.draft.PoolRef.TheVariants as pool
use Rattle.dv_draft.specs.declared.pools.Pools.{Pools}

abbrev pub with_entry_if_any : {X : Type 0} → (X → X → Bool) → List X → Option X → List X
with_entry_if_any eq xs None = xs
with_entry_if_any eq xs (Some x) = with_entry eq xs x

-- the entries, and then those that the items of a list name, each once
abbrev pub with_entries : {X Y : Type 0} → (X → X → Bool) → (Y → Option X) → List X → List Y → List X
with_entries eq entry_of xs [] = xs
with_entries eq entry_of xs (y ∷ ys) = with_entries eq entry_of (with_entry_if_any eq xs (entry_of y)) ys

abbrev pub pool_ref : What → PoolRef
pool_ref (what.Op op) = op.pool
pool_ref w = pool.None

abbrev pub chars_in : PoolRef → Option (List ℕ)
chars_in (pool.Str chars) = Some chars
chars_in entry = None

abbrev pub type_in : PoolRef → Option Ty
type_in (pool.OfType ty) = Some ty
type_in entry = None

abbrev pub field_in : PoolRef → Option FieldRef
field_in (pool.Field field) = Some field
field_in entry = None

abbrev pub method_in : PoolRef → Option MethodRef
method_in (pool.Method method) = Some method
method_in entry = None

-- what an item names of each kind
abbrev pub chars_of : Item → Option (List ℕ)
chars_of item = chars_in (pool_ref item.what)

abbrev pub type_of : Item → Option Ty
type_of item = type_in (pool_ref item.what)

abbrev pub field_of : Item → Option FieldRef
field_of item = field_in (pool_ref item.what)

abbrev pub method_of : Item → Option MethodRef
method_of item = method_in (pool_ref item.what)

abbrev pub no_pools : Pools
no_pools = record { strings = []; types = []; fields = []; methods = [] }

-- the pools with what an instruction names
abbrev pub with_ref : Pools → PoolRef → Pools
with_ref pools entry = record {
  strings = with_entry_if_any bytes_eq pools.strings (chars_in entry);
  types = with_entry_if_any ty_eq pools.types (type_in entry);
  fields = with_entry_if_any field_eq pools.fields (field_in entry);
  methods = with_entry_if_any method_eq pools.methods (method_in entry);
}

-- the place of an entry in its pool; 0 where none is named
abbrev pub index_of : Pools → PoolRef → ℕ
index_of pools pool.None = 0
index_of pools (pool.Str chars) = unwrap_or (position (bytes_eq chars) pools.strings) 0
index_of pools (pool.OfType ty) = unwrap_or (position (ty_eq ty) pools.types) 0
index_of pools (pool.Field field) = unwrap_or (position (field_eq field) pools.fields) 0
index_of pools (pool.Method method) = unwrap_or (position (method_eq method) pools.methods) 0

-- what the instructions name
unfoldable pub pools_of : List Item → Pools
pools_of items = record {
  strings = with_entries bytes_eq chars_of [] items;
  types = with_entries ty_eq type_of [] items;
  fields = with_entries field_eq field_of [] items;
  methods = with_entries method_eq method_of [] items;
}
