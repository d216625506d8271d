-- Methods by the numbers of their keys.
use Rattle.std.specs.Prelude.{◌≡◌, ℕ, suc, Bool, List, [], ◌∷◌, length, map, Option, Some, None, nat_eq, slice_get, if◌then◌else◌}
use Rattle.std.specs.List.{range_with_len, flat_map, position_or_len}
use Rattle.dv_defs.specs.declared.names.MethodId.{MethodId}
use Rattle.dv_defs.specs.declared.class.MethodDef.{MethodDef}
use Rattle.dv_defs.specs.declared.image.ClassInfo.{ClassInfo}
use Rattle.dv_vtable.specs.Chains.{Key, same_key, key_in, is_in_tables, insert_entry, method_number, first_method}

-- ---- the numbers of keys

-- all methods, class by class
abbrev pub all_methods : List ClassInfo → List MethodDef
all_methods cs = flat_map (λ c. c.def.methods) cs

abbrev pub has_key : Key → MethodDef → Bool
has_key k m = same_key k (key_in m)

-- that of the first method which has the key
abbrev pub key_number : List MethodDef → Key → ℕ
key_number ms k = position_or_len (has_key k) ms

-- the number of a method's key, where a call on an object may land on the method
abbrev pub number_in : List MethodDef → MethodDef → Option ℕ
number_in all m = if is_in_tables m then Some (key_number all (key_in m)) else None

abbrev pub numbers_in : List MethodDef → List MethodDef → List (Option ℕ)
numbers_in all ms = map (number_in all) ms

-- and of any
abbrev pub key_numbers_in : List MethodDef → List MethodDef → List ℕ
key_numbers_in all ms = map (λ m. key_number all (key_in m)) ms

-- the numbers of the classes' first methods, those of the keys of all methods, and of those on which a call may land
pub record AreNumbers (cs : List ClassInfo) (fs ns : List ℕ) (ks : List (Option ℕ)) : Type 0 where
  pub firsts : fs ≡ map (first_method cs) (range_with_len 0 (length cs))
  pub numbers : ns ≡ key_numbers_in (all_methods cs) (all_methods cs)
  pub keys : ks ≡ numbers_in (all_methods cs) (all_methods cs)

-- ---- entries by number

-- what a table is seen as: its entries, and the count of the numbers that it takes
pub record TableValue : Type 0 where
  pub entries : List (ℕ × MethodId)
  pub count : ℕ

abbrev pub numbers_of : {V : Type 0} → List (ℕ × V) → List ℕ
numbers_of es = map (λ e. e.0) es

-- what stands for each of the numbers is its place among them
abbrev pub HavePlaces : List ℕ → List ℕ → Type 0
HavePlaces ns places = (i n : ℕ) → slice_get ns i ≡ Some n → slice_get places n ≡ Some i

-- the entries after methods whose keys have these numbers. The methods are numbered from one on
abbrev pub entered_numbers : List (ℕ × MethodId) → ℕ → List (Option ℕ) → List (ℕ × MethodId)
entered_numbers es id [] = es
entered_numbers es id (k ∷ ks) =
    entered_numbers (elim k [ Some n ↦ insert_entry nat_eq es n (method_number id) | None ↦ es ]) (suc id) ks

-- entries of keys by the numbers of these
abbrev pub numbered : {V : Type 0} → List MethodDef → List (Key × V) → List (ℕ × V)
numbered all es = map (λ e. (key_number all e.0, e.1)) es
