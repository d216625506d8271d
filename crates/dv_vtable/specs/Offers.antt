-- Methods that interfaces offer, by the numbers of their keys.
use Rattle.std.specs.Prelude.{ℕ, suc, Bool, true, false, List, [], ◌∷◌, ◌++◌, Option, Some, None, nat_eq, if◌then◌else◌}
use Rattle.std.specs.List.{list_any}
use Rattle.dv_defs.specs.declared.names.MethodId.{MethodId}
use Rattle.dv_defs.specs.Images.{Image}
use Rattle.dv_defs.specs.Pools.{Method}
use Rattle.dv_defs.specs.Linked.{key_of}
use Rattle.dv_vtable.specs.Chains.{method_number}

-- what offers are seen as: the number of each key with its methods, and the count of the numbers
pub record OffersValue : Type 0 where
  pub entries : List (ℕ × List MethodId)
  pub count : ℕ

-- the first methods of numbers, each with those that came after it
abbrev pub offers_in : List (ℕ × MethodId) → List (List MethodId) → List (ℕ × List MethodId)
offers_in [] os = []
offers_in (e ∷ es) [] = []
offers_in (e ∷ es) (o ∷ os) = (e.0, e.1 ∷ o) ∷ offers_in es os

-- with one more: it stands behind those of its number, and a new number goes last
abbrev pub offer_entry : {K V : Type 0} → (K → K → Bool) → List (K × List V) → K → V → List (K × List V)
offer_entry eq [] k v = (k, v ∷ []) ∷ []
offer_entry eq (e ∷ es) k v = if eq k e.0 then (e.0, e.1 ++ v ∷ []) ∷ es else e ∷ offer_entry eq es k v

-- with methods whose keys have these numbers, but for those that a chain has. The methods are numbered from one on
abbrev pub offered_numbers : List ℕ → List (ℕ × List MethodId) → ℕ → List (Option ℕ) → List (ℕ × List MethodId)
offered_numbers has es id [] = es
offered_numbers has es id (k ∷ ks) =
    offered_numbers has
    (elim k [ None ↦ es | Some n ↦ elim (list_any (nat_eq n) has) [ true ↦ es | false ↦ offer_entry nat_eq es n (method_number id) ] ]) (suc id) ks

-- with methods, but for the keys whose numbers a chain has
abbrev pub offered_to : Image → List ℕ → List (ℕ × List MethodId) → List Method → List (ℕ × List MethodId)
offered_to image has es [] = es
offered_to image has es (m ∷ ms) =
    offered_to image has
    (elim (list_any (nat_eq (key_of image m)) has) [ true ↦ es | false ↦ offer_entry nat_eq es (key_of image m) (method_number m.id) ]) ms
