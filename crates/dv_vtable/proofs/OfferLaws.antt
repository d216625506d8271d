-- What interfaces offer beside the methods of a class and its superclasses, by key.
use Rattle.std.specs.Prelude.{ℕ, suc, ◌≡◌, All, Bool, true, false, ◌&&◌, ◌||◌, not, List, [], ◌∷◌, ◌++◌, map, filter, flat_map, nat_eq, slice_get}
use Rattle.std.specs.List.{list_any}
use Rattle.std.proofs.Common.{refl, ap, sym, ◌∙◌, cond}
use Rattle.std.proofs.lemmas.Bool.{and_parts}
use Rattle.std.proofs.lemmas.List.Elements.{All-nil, All-head, All-tail, All-append, All-filter, filter_passes}
use Rattle.dv_defs.specs.declared.class.MethodDef.{MethodDef}
use Rattle.dv_defs.specs.declared.names.MethodId.{MethodId}
use Rattle.dv_defs.specs.Images.{Image}
use Rattle.dv_defs.specs.LookUp.{once, superinterfaces}
use Rattle.dv_defs.specs.Pools.{Method, methods_of, supers}
use Rattle.dv_defs.specs.Selecting.{all_methods, callable_of_class, is_callable, offered}
use Rattle.dv_defs.specs.Linked.{callable_along, first_of_each, is_new, key_of, overrides}
use Rattle.law_linking.proofs.Members.{HasMethods, own_from, method_of, methods_of_class}
use Rattle.law_linking.proofs.TableLaws.{IsOwn, all_own}
use Rattle.dv_vtable.specs.Chains.{Key, first_method, is_in_tables, key_in, method_number, same_key}
use Rattle.dv_vtable.specs.Numbered as by_class
use Rattle.dv_vtable.specs.Numbered.{numbered, numbers_of}
use Rattle.dv_vtable.specs.Offers.{offer_entry, offered_numbers, offered_to}
use Rattle.dv_vtable.specs.Rows.{chain_at, offers_at}
use Rattle.dv_vtable.proofs.CallableLaws as callable
use Rattle.dv_vtable.proofs.Grouping.{firsts, grouped, grouped_is}
use Rattle.dv_vtable.proofs.KeyNumbers.{key_of_is, numbers_agree, own_key}
use Rattle.dv_vtable.proofs.NumberLaws.{IsAmong, numbers_tell}
use Rattle.dv_vtable.proofs.SameKeys.{key_laws}

-- ---- callable methods

-- an image has the method at its number, and a call may land on it
pub record IsFit (image : Image) (m : Method) : Type 0 where
  pub own : IsOwn image m
  pub callable : is_callable m ≡ true

pub fit_of_class : (image : Image) (c : ℕ) → All (IsFit image) (callable_of_class image c)
fit_of_class image c = λ k d within.
    record {
      own = All-filter (λ m. nat_eq m.info.class.0 c && is_callable m) (IsOwn image) (all_methods image) (all_own image) k d within;
      callable = (and_parts _ _ (filter_passes (λ m. nat_eq m.info.class.0 c && is_callable m) (all_methods image) k d within)).1;
    }

pub fit_along : (image : Image) (cs : List ℕ) → All (IsFit image) (callable_along image cs)
fit_along image [] = All-nil (IsFit image)
fit_along image (c ∷ cs) =
    All-append (IsFit image) (callable_along image cs) (filter (is_new (callable_along image cs)) (callable_of_class image c)) (fit_along image cs)
    (All-filter (is_new (callable_along image cs)) (IsFit image) (callable_of_class image c) (fit_of_class image c))

fit_flat : (image : Image) (cs : List ℕ) → All (IsFit image) (flat_map (callable_of_class image) cs)
fit_flat image [] = All-nil (IsFit image)
fit_flat image (c ∷ cs) = All-append (IsFit image) (callable_of_class image c) (flat_map (callable_of_class image) cs) (fit_of_class image c) (fit_flat image cs)

pub fit_offered : (image : Image) (c : ℕ) → All (IsFit image) (offered image c)
fit_offered image c = fit_flat image (once (superinterfaces image c))

-- ---- by number as by key

any_numbers : (image : Image) → HasMethods image → (m : Method) → IsOwn image m → (ms : List Method)
    → list_any (nat_eq (key_of image m)) (map (key_of image) ms) ≡ list_any (overrides m) ms
any_numbers image has m own [] = refl
any_numbers image has m own (n ∷ ms) = λ j. numbers_agree image has m n own j || any_numbers image has m own ms j

offered_number : (all : List MethodDef) (es : List (Key × List MethodId)) (k : Key) (v : MethodId) → IsAmong all k
    → offer_entry nat_eq (numbered all es) (by_class.key_number all k) v ≡ numbered all (offer_entry same_key es k v)
offered_number all [] k v among = refl
offered_number all (e ∷ es) k v among = go (same_key k e.0) refl (offered_number all es k v among)
  where
    go : (b : Bool) → same_key k e.0 ≡ b
        → offer_entry nat_eq (numbered all es) (by_class.key_number all k) v ≡ numbered all (offer_entry same_key es k v)
        → offer_entry nat_eq (numbered all (e ∷ es)) (by_class.key_number all k) v ≡ numbered all (offer_entry same_key (e ∷ es) k v)
    go true is rest = rw (numbers_tell all k e.0 among, is) refl
    go false is rest = rw (numbers_tell all k e.0 among, is) (ap (λ fs. (by_class.key_number all e.0, e.1) ∷ fs) rest)

abbrev new_key : List Method → Method → Bool
new_key along m = is_new along m

-- those of new keys are put into the lists of their keys
offered_by_key : (image : Image) → HasMethods image → (along ms : List Method) → All (IsFit image) ms → (es : List (Key × List MethodId))
    → offered_to image (map (key_of image) along) (numbered (by_class.all_methods image.classes) es) ms
    ≡ numbered (by_class.all_methods image.classes) (grouped same_key callable.key_of callable.id_of es (filter (new_key along) ms))
offered_by_key image has along [] fit es = refl
offered_by_key image has along (m ∷ ms) fit es =
    let all : List MethodDef = by_class.all_methods image.classes in
    let here : IsFit image m = All-head (IsFit image) m ms fit in
    let rest = offered_by_key image has along ms (All-tail (IsFit image) m ms fit) in
    let put : offer_entry nat_eq (numbered all es) (key_of image m) (method_number m.id) ≡ numbered all (offer_entry same_key es (key_in m.def) (method_number m.id)) =
    ap (λ n. offer_entry nat_eq (numbered all es) n (method_number m.id)) (key_of_is image has m)
    ∙ offered_number all es (key_in m.def) (method_number m.id) (own_key image has m here.own) in
    ap (λ b. offered_to image (map (key_of image) along)
    (elim b as (λ _. List (ℕ × List MethodId)) [ true ↦ numbered all es | false ↦ offer_entry nat_eq (numbered all es) (key_of image m) (method_number m.id) ]) ms)
    (any_numbers image has m here.own along)
    ∙ go (list_any (overrides m) along) (rest es)
    (ap (λ fs. offered_to image (map (key_of image) along) fs ms) put ∙ rest (offer_entry same_key es (key_in m.def) (method_number m.id)))
  where
    go : (b : Bool)
        → offered_to image (map (key_of image) along) (numbered (by_class.all_methods image.classes) es) ms
        ≡ numbered (by_class.all_methods image.classes) (grouped same_key callable.key_of callable.id_of es (filter (new_key along) ms))
        → offered_to image (map (key_of image) along) (offer_entry nat_eq (numbered (by_class.all_methods image.classes) es) (key_of image m) (method_number m.id)) ms
        ≡ numbered (by_class.all_methods image.classes)
        (grouped same_key callable.key_of callable.id_of (offer_entry same_key es (key_in m.def) (method_number m.id)) (filter (new_key along) ms))
        → offered_to image (map (key_of image) along)
        (elim b as (λ _. List (ℕ × List MethodId)) [
          | true ↦ numbered (by_class.all_methods image.classes) es
          | false ↦ offer_entry nat_eq (numbered (by_class.all_methods image.classes) es) (key_of image m) (method_number m.id)
        ]) ms
        ≡ numbered (by_class.all_methods image.classes)
        (grouped same_key callable.key_of callable.id_of es (cond (not b) (m ∷ filter (new_key along) ms) (filter (new_key along) ms)))
    go true there new = there
    go false there new = new

-- ---- the lists

same_firsts : (ms : List Method) → firsts same_key callable.key_of ms ≡ first_of_each ms
same_firsts [] = refl
same_firsts (m ∷ ms) = ap (λ ns. m ∷ filter (λ n. not (overrides m n)) ns) (same_firsts ms)

-- a method with those that override it among some
abbrev pub offer_of : Image → List Method → Method → ℕ × List MethodId
offer_of image ms m = (key_of image m, map callable.id_of (filter (overrides m) ms))

numbered_groups : (image : Image) → HasMethods image → (ms ns : List Method)
    → numbered (by_class.all_methods image.classes) (map {B = Key × List MethodId} (λ m. (key_in m.def, map callable.id_of (filter (overrides m) ms))) ns) ≡ map (offer_of image ms) ns
numbered_groups image has ms [] = refl
numbered_groups image has ms (n ∷ ns) =
    let here = sym (key_of_is image has n) in
    let rest = numbered_groups image has ms ns in
    λ j. (here j, map callable.id_of (filter (overrides n) ms)) ∷ rest j

numbers_along : (image : Image) (c : ℕ) (ms : List Method) (ids : Method → MethodId) → numbers_of (map {B = ℕ × MethodId} (λ m. (key_of image m, ids m)) ms) ≡ map (key_of image) ms
numbers_along image c [] ids = refl
numbers_along image c (m ∷ ms) ids = ap (λ ns. key_of image m ∷ ns) (numbers_along image c ms ids)

pub chain_numbers : (image : Image) (c : ℕ) → numbers_of (chain_at image c) ≡ map (key_of image) (callable_along image (supers image c))
chain_numbers image c = numbers_along image c (callable_along image (supers image c)) _

-- what interfaces offer of keys that a class and its superclasses don't have
abbrev pub news : Image → ℕ → List Method
news image c = filter (is_new (callable_along image (supers image c))) (offered image c)

-- of each such key, the methods in order
pub offers_are : (image : Image) → HasMethods image → (c : ℕ) → offers_at image c ≡ map (offer_of image (news image c)) (first_of_each (news image c))
offers_are image has c =
    let all : List MethodDef = by_class.all_methods image.classes in
    let along : List Method = callable_along image (supers image c) in
    ap (λ ns. offered_to image ns [] (offered image c)) (chain_numbers image c)
    ∙ (offered_by_key image has along (offered image c) (fit_offered image c) []
    ∙ (ap (numbered all) (grouped_is same_key key_laws callable.key_of callable.id_of (news image c))
    ∙ (ap (λ ms. numbered all (map {B = Key × List MethodId} (λ m. (key_in m.def, map callable.id_of (filter (overrides m) (news image c)))) ms)) (same_firsts (news image c))
    ∙ numbered_groups image has (news image c) (first_of_each (news image c)))))

numbers_offered : (image : Image) (ms ns : List Method) → numbers_of (map (offer_of image ms) ns) ≡ map (key_of image) ns
numbers_offered image ms [] = refl
numbers_offered image ms (n ∷ ns) = ap (λ ks. key_of image n ∷ ks) (numbers_offered image ms ns)

pub offer_numbers : (image : Image) → HasMethods image → (c : ℕ) → numbers_of (offers_at image c) ≡ map (key_of image) (first_of_each (news image c))
offer_numbers image has c =
    ap (λ es. numbers_of es) (offers_are image has c) ∙ numbers_offered image (news image c) (first_of_each (news image c))

-- ---- those of one interface

abbrev offered_one : List ℕ → List (ℕ × List MethodId) → ℕ → MethodId → List (ℕ × List MethodId)
offered_one ns es n id = elim (list_any (nat_eq n) ns) [ true ↦ es | false ↦ offer_entry nat_eq es n id ]

offered_own : (image : Image) → HasMethods image → (ns : List ℕ) (i k id : ℕ) (ms : List MethodDef) (es : List (ℕ × List MethodId))
    → offered_numbers ns es id (by_class.numbers_in (by_class.all_methods image.classes) ms) ≡ offered_to image ns es (filter is_callable (own_from method_of i k id ms))
offered_own image has ns i k id [] es = refl
offered_own image has ns i k id (m ∷ ms) es = go (is_in_tables m) refl (offered_own image has ns i (suc k) (suc id) ms)
  where
    go : (b : Bool) → is_in_tables m ≡ b
        → ((fs : List (ℕ × List MethodId)) → offered_numbers ns fs (suc id) (by_class.numbers_in (by_class.all_methods image.classes) ms)
        ≡ offered_to image ns fs (filter is_callable (own_from method_of i (suc k) (suc id) ms)))
        → offered_numbers ns es id (by_class.numbers_in (by_class.all_methods image.classes) (m ∷ ms))
        ≡ offered_to image ns es (filter is_callable (own_from method_of i k id (m ∷ ms)))
    go true is rest =
        rw is
        (ap (λ n. offered_numbers ns (offered_one ns es n (method_number id)) (suc id) (by_class.numbers_in (by_class.all_methods image.classes) ms))
        (sym (key_of_is image has (method_of i k id m)))
        ∙ rest (offered_one ns es (key_of image (method_of i k id m)) (method_number id)))
    go false is rest = rw is (rest es)

pub offered_of_class : (image : Image) → HasMethods image → (ns : List ℕ) (c : ℕ) (ms : List MethodDef) (es : List (ℕ × List MethodId))
    → ms ≡ methods_of (slice_get image.classes c)
    → offered_numbers ns es (first_method image.classes c) (by_class.numbers_in (by_class.all_methods image.classes) ms) ≡ offered_to image ns es (callable_of_class image c)
offered_of_class image has ns c ms es are =
    offered_own image has ns c 0 (first_method image.classes c) ms es
    ∙ (ap (λ ds. offered_to image ns es (filter is_callable (own_from method_of c 0 (first_method image.classes c) ds))) are
    ∙ ap (offered_to image ns es) (sym (methods_of_class image has is_callable c)))

pub offered_more : (image : Image) (ns : List ℕ) (es : List (ℕ × List MethodId)) (ms more : List Method)
    → offered_to image ns es (ms ++ more) ≡ offered_to image ns (offered_to image ns es ms) more
offered_more image ns es [] more = refl
offered_more image ns es (m ∷ ms) more = offered_more image ns (offered_one ns es (key_of image m) (method_number m.id)) ms more
