-- The methods by key that a class and its superclasses have, told of the classes alone: a class's methods are put into the entries of the
-- classes above it.
use Rattle.std.specs.Prelude.{All, ℕ, suc, ◌≡◌, Bool, true, false, ◌&&◌, not, List, [], ◌∷◌, filter, Option, Some, None, slice_get, bytes_eq}
use Rattle.std.specs.List.{list_any, find}
use Rattle.std.proofs.Common.{refl, ap, sym, subst, ◌∙◌, arith}
use Rattle.std.proofs.lemmas.List.Elements.{recursion_from_All, All-append, All-filter, filter_passes}
use Rattle.std.proofs.lemmas.Slice.Eq.{bytes_eq-Decides}
use Rattle.dv_defs.specs.declared.names.MethodId.{MethodId}
use Rattle.dv_defs.specs.declared.class.MethodDef.{MethodDef}
use Rattle.dv_defs.specs.declared.image.ClassInfo.{ClassInfo}
use Rattle.dv_defs.specs.Images.{Image}
use Rattle.dv_defs.specs.Names.{init_name}
use Rattle.dv_defs.specs.Types.{same_proto}
use Rattle.dv_defs.specs.Pools.{Method, methods_of, is_static, is_private, is_virtual_of, first_of_classes}
use Rattle.dv_defs.specs.Linked.{callable_along}
use Rattle.dv_defs.specs.Selecting.{is_callable, callable_of_class}
use Rattle.law_linking.proofs.Members.{HasMethods, own_from, own_methods, method_of, methods_of_class, declared_by_own}
use Rattle.dv_vtable.specs.Chains.{insert_entry, Key, same_key, key_in, is_in_tables, method_number, entered, first_method, entered_chain}
use Rattle.dv_vtable.proofs.Inserting.{neither, like, is_new, IsApart, apart_more, put, after, entries, put_is, apart_filtered, found_filtered}
use Rattle.dv_vtable.proofs.SameKeys.{key_laws}

abbrev pub key_of : Method → Key
key_of m = key_in m.def

abbrev pub id_of : Method → MethodId
id_of m = method_number m.id

-- what a method's key leads to in entries
abbrev pub method_entries : (Method → MethodId) → List Method → List (Key × MethodId)
method_entries v ms = entries same_key key_of id_of v ms

abbrev pub IsApartBy : {X : Type 0} → (X → Key) → List X → Type 0
IsApartBy key xs = IsApart same_key key xs

-- ---- what a test for a call picks

abbrev AreCallable : List Method → Type 0
AreCallable ms = All (λ m. is_callable m ≡ true) ms

pub name_by : (s p i : Bool) → (not s && not p && not (not s && i)) ≡ true → i ≡ false
name_by true p i callable = absurd (cc)
name_by false true i callable = absurd (cc)
name_by false false true callable = absurd (cc)
name_by false false false callable = refl

picks_by : (s p b q i : Bool) → (b ≡ true → i ≡ false) → (not s && not p && b && q) ≡ ((not s && not p && not (not s && i)) && (b && q))
picks_by true p b q i other = refl
picks_by false true b q i other = refl
picks_by false false false q true other = refl
picks_by false false false q false other = refl
picks_by false false true q true other = let wrong = other refl in absurd (cc)
picks_by false false true q false other = refl

-- for a callable method's key it picks just the callable methods of the key
picks : (m : Method) → is_callable m ≡ true → (n : Method)
    → is_virtual_of m.def.name m.def.proto n ≡ (is_callable n && like same_key key_of m n)
picks m callable n =
    let plain = name_by (is_static m) (is_private m) (bytes_eq m.def.name init_name) callable in
    picks_by (is_static n) (is_private n) (bytes_eq n.def.name m.def.name) (same_proto n.def.proto m.def.proto) (bytes_eq n.def.name init_name)
    (λ same. let is = (bytes_eq-Decides n.def.name m.def.name).0 same in ap (λ name. bytes_eq name init_name) is ∙ plain)

-- where a call of a method's key lands, from the first of classes on
abbrev pub landing : Image → List ℕ → Method → MethodId
landing image cs m =
    record { 0 = elim (first_of_classes image cs (is_virtual_of m.def.name m.def.proto)) [ None ↦ m.id | Some n ↦ n.id ] }

abbrev nearer : Option Method → Option Method → Option Method
nearer here above = elim here [ Some n ↦ Some n | None ↦ above ]

abbrev landed : Option Method → Method → MethodId
landed found m = record { 0 = elim found [ None ↦ m.id | Some n ↦ n.id ] }

land_by : (here : Option Method) (above : Option Method) (m : Method)
    → landed (nearer here above) m ≡ elim here as (λ _. MethodId) [ None ↦ landed above m | Some n ↦ id_of n ]
land_by None above m = refl
land_by (Some n) above m = refl

lands : (image : Image) → HasMethods image → (c : ℕ) (cs : List ℕ) (m : Method) → is_callable m ≡ true
    → after same_key key_of id_of (callable_of_class image c) (landing image cs) m ≡ landing image (c ∷ cs) m
lands image is c cs m callable =
    let own = declared_by_own image is c (is_virtual_of m.def.name m.def.proto)
    ∙ (found_filtered (is_virtual_of m.def.name m.def.proto) is_callable (like same_key key_of m) (picks m callable) (own_methods image c)
    ∙ ap (find (like same_key key_of m)) (sym (methods_of_class image is is_callable c))) in
    sym (land_by (find (like same_key key_of m) (callable_of_class image c)) (first_of_classes image cs (is_virtual_of m.def.name m.def.proto)) m)
    ∙ ap (λ here. landed (nearer here (first_of_classes image cs (is_virtual_of m.def.name m.def.proto))) m) (sym own)

all_callable : (image : Image) → HasMethods image → (cs : List ℕ) → AreCallable (callable_along image cs)
all_callable image is [] = λ k d within. absurd (omega arith)
all_callable image is (c ∷ cs) =
    let own : AreCallable (callable_of_class image c) =
    subst AreCallable (sym (methods_of_class image is is_callable c)) (filter_passes is_callable (own_methods image c)) in
    All-append (λ m. is_callable m ≡ true) (callable_along image cs) (filter (is_new same_key key_of (callable_along image cs)) (callable_of_class image c))
    (all_callable image is cs)
    (All-filter (is_new same_key key_of (callable_along image cs)) (λ m. is_callable m ≡ true) (callable_of_class image c) own)

entries_same : (v w : Method → MethodId) → ((m : Method) → is_callable m ≡ true → v m ≡ w m) → (ms : List Method) → AreCallable ms
    → method_entries v ms ≡ method_entries w ms
entries_same v w same [] callable = refl
entries_same v w same (m ∷ ms) callable =
    let parts = recursion_from_All (λ x. is_callable x ≡ true) (m ∷ ms) callable in
    let here = same m parts.0 in
    let rest = entries_same v w same ms (λ k d within. callable (suc k) d (omega arith)) in
    λ j. (key_of m, here j) ∷ rest j

-- ---- the entries of chains

entered_are : (i k id : ℕ) (ms : List MethodDef) (es : List (Key × MethodId))
    → entered es id ms ≡ put same_key key_of id_of es (filter is_callable (own_from method_of i k id ms))
entered_are i k id [] es = refl
entered_are i k id (m ∷ ms) es = go (is_in_tables m) refl (λ fs. entered_are i (suc k) (suc id) ms fs)
  where
    go : (b : Bool) → is_in_tables m ≡ b
        → ((fs : List (Key × MethodId)) → entered fs (suc id) ms ≡ put same_key key_of id_of fs (filter is_callable (own_from method_of i (suc k) (suc id) ms)))
        → entered es id (m ∷ ms) ≡ put same_key key_of id_of es (filter is_callable (own_from method_of i k id (m ∷ ms)))
    go true e rest = rw e (rest (insert_entry same_key es (key_in m) (method_number id)))
    go false e rest = rw e (rest es)

-- no class has two methods of one key
abbrev pub AreApart : List ClassInfo → Type 0
AreApart cs = (c : ℕ) → IsApartBy key_in (methods_of (slice_get cs c))

none_from : (i k id : ℕ) (ms : List MethodDef) (m : Method) → list_any (λ n. same_key (key_of m) (key_in n)) ms ≡ false
    → list_any (like same_key key_of m) (own_from method_of i k id ms) ≡ false
none_from i k id [] m none = refl
none_from i k id (n ∷ ms) m none =
    let parts = neither (same_key (key_of m) (key_in n)) (list_any (λ x. same_key (key_of m) (key_in x)) ms) none in
    rw parts.0 (none_from i (suc k) (suc id) ms m parts.1)

apart_from : (i k id : ℕ) (ms : List MethodDef) → IsApartBy key_in ms → IsApartBy key_of (own_from method_of i k id ms)
apart_from i k id [] apart = tt
apart_from i k id (m ∷ ms) apart = (none_from i (suc k) (suc id) ms (method_of i k id m) apart.0, apart_from i (suc k) (suc id) ms apart.1)

apart_of_class : (image : Image) → HasMethods image → AreApart image.classes → (c : ℕ) → IsApartBy key_of (callable_of_class image c)
apart_of_class image is apart c =
    subst (IsApartBy key_of) (sym (methods_of_class image is is_callable c))
    (apart_filtered same_key key_of is_callable (own_methods image c)
    (apart_from c 0 (first_method image.classes c) (methods_of (slice_get image.classes c)) (apart c)))

apart_along : (image : Image) → HasMethods image → AreApart image.classes → (cs : List ℕ) → IsApartBy key_of (callable_along image cs)
apart_along image is apart [] = tt
apart_along image is apart (c ∷ cs) =
    apart_more same_key key_laws key_of (callable_of_class image c) (callable_along image cs) (apart_along image is apart cs) (apart_of_class image is apart c)

-- the entries of a chain: of each callable method, in order, the key with where a call of it lands
pub chain_entries : (image : Image) → HasMethods image → AreApart image.classes → (cs : List ℕ)
    → entered_chain image.classes [] cs ≡ method_entries (landing image cs) (callable_along image cs)
chain_entries image is apart [] = refl
chain_entries image is apart (c ∷ cs) =
    let above = chain_entries image is apart cs in
    let own = entered_are c 0 (first_method image.classes c) (methods_of (slice_get image.classes c)) (entered_chain image.classes [] cs) in
    let put_in = put_is same_key key_laws key_of id_of (callable_of_class image c) (callable_along image cs) (landing image cs)
    (apart_along image is apart cs) (apart_of_class image is apart c) in
    own ∙ (ap (put same_key key_of id_of (entered_chain image.classes [] cs)) (sym (methods_of_class image is is_callable c))
    ∙ (ap (λ es. put same_key key_of id_of es (callable_of_class image c)) above
    ∙ (put_in
    ∙ entries_same (after same_key key_of id_of (callable_of_class image c) (landing image cs)) (landing image (c ∷ cs))
    (lands image is c cs) (callable_along image (c ∷ cs)) (all_callable image is (c ∷ cs)))))
