-- What is known while the keys of methods get their numbers.
use Rattle.std.specs.Prelude.{◌≡◌, ◌+◌, ℕ, List, length, take, position, Option, Some, slice_get}
use Rattle.std.specs.BTreeMap.{BTreeMap, get}
use Rattle.dv_defs.specs.declared.class.MethodDef.{MethodDef}
use Rattle.dv_vtable.specs.declared.keys.MethodKey.{MethodKey}
use Rattle.dv_vtable.specs.Chains.{key_told}
use Rattle.dv_vtable.specs.Keys.{key_cmp}
use Rattle.dv_vtable.specs.Numbered.{has_key, key_numbers_in, numbers_in}

-- what is known of each key is the first of these methods that has it
abbrev pub AreFirst : List MethodDef → BTreeMap MethodKey ℕ → Type 0
AreFirst ms known = (k : MethodKey) → get key_cmp known k ≡ position (has_key (key_told k)) ms

-- as many of all methods as there are numbers have theirs
pub record AreNumbered (all : List MethodDef) (known : BTreeMap MethodKey ℕ) (ns : List ℕ) (ks : List (Option ℕ)) : Type 0 where
  pub first : AreFirst (take (length ks) all) known
  pub numbers : ns ≡ key_numbers_in all (take (length ks) all)
  pub keys : ks ≡ numbers_in all (take (length ks) all)

-- the methods stand among all, from a place on
abbrev pub StandAt : List MethodDef → ℕ → List MethodDef → Type 0
StandAt all from ms = (i : ℕ) (m : MethodDef) → slice_get ms i ≡ Some m → slice_get all (from + i) ≡ Some m
