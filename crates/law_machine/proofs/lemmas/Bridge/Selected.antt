-- What a selection finds, of any image; and with it what all look-ups find.
use Rattle.std.proofs.Common.{◌≡◌, ℕ, List, [], ◌∷◌, Bool, true, false, not, Option, Some, None, refl, sym, ap, ◌∙◌, subst}
use Rattle.std.specs.Prelude.{◌&&◌, All, filter, flat_map, nat_eq, bytes_eq, if◌then◌else◌}
use Rattle.std.proofs.lemmas.Bool.{eqb-true, and_parts, not-true}
use Rattle.std.proofs.lemmas.List.Elements.{All-nil, All-append, All-filter, All-head, filter_passes}
use Rattle.dv_defs.specs.declared.names.Proto.{Proto}
use Rattle.dv_defs.specs.declared.names.MethodId.{MethodId}
use Rattle.dv_defs.specs.declared.image.Select.{Select}
use Rattle.dv_defs.specs.declared.image.Select.TheVariants as select
use Rattle.dv_defs.specs.Images.{Image}
use Rattle.dv_defs.specs.Names.{init_name}
use Rattle.dv_defs.specs.Types.{same_proto}
use Rattle.dv_defs.specs.Pools.{Method, method_at, nearest, supers, is_static, is_private, is_constructor, is_abstract}
use Rattle.dv_defs.specs.Order.{has_number}
use Rattle.dv_defs.specs.LookUp.{superinterfaces, once, is_method_of}
use Rattle.dv_defs.specs.Selecting.{is_callable, all_methods, callable_of_class, offered, offered_as, is_overridden, most_specific, only, chosen, itself, selected}
use Rattle.dv_machine.specs.Accepted.{IsSelected}
use Rattle.law_machine.specs.Laws.{LookUpsFind}
use Rattle.law_types.proofs.Equal.{names_are}
use Rattle.law_linking.proofs.Reach.{number_first, number_later}
use Rattle.law_linking.proofs.Upward.{has_left, has_right}
use Rattle.law_linking.proofs.OnceNumbers.{has_once}
use Rattle.law_linking.proofs.TableLaws.{IsOwn, all_own}
use Rattle.law_flow.proofs.MethodCode.{method_id}
use Rattle.law_machine.proofs.lemmas.Bridge.LookUps.{field_id, initialiser_is, nearest_is, proto_is}

-- the method of a number is one that a call selects
abbrev Selects : Image → ℕ → List ℕ → Proto → MethodId → Type 0
Selects image c name p id = (m : Method) × (method_at image id.0 ≡ Some m) × IsSelected image c name p m

-- ---- what interfaces offer

-- an instance method of one of these classes
record IsOffered (image : Image) (cs : List ℕ) (m : Method) : Type 0 where
  there : method_at image m.id ≡ Some m
  instance : is_static m ≡ false
  among : has_number m.info.class.0 cs ≡ true

callable_is : (image : Image) (cs : List ℕ) (d : ℕ) → has_number d cs ≡ true → (m : Method) → IsOwn image m → (nat_eq m.info.class.0 d && is_callable m) ≡ true → IsOffered image cs m
callable_is image cs d there m own kept =
    let of_class = and_parts (nat_eq m.info.class.0 d) (is_callable m) kept in
    let callable = and_parts (not (is_static m) && not (is_private m)) (not (is_constructor m)) of_class.1 in
    let instance = and_parts (not (is_static m)) (not (is_private m)) callable.0 in
    record { there = own; instance = not-true (is_static m) instance.0; among = subst (λ k. has_number k cs ≡ true) (sym (eqb-true m.info.class.0 d of_class.0)) there }

class_offers : (image : Image) (cs : List ℕ) (d : ℕ) → has_number d cs ≡ true → All (IsOffered image cs) (callable_of_class image d)
class_offers image cs d there =
    let kept : Method → Bool = λ m. nat_eq m.info.class.0 d && is_callable m in
    λ k x l. callable_is image cs d there _ (All-filter kept (IsOwn image) (all_methods image) (all_own image) k x l) (filter_passes kept (all_methods image) k x l)

classes_offer : (image : Image) (cs ds : List ℕ) → ((d : ℕ) → has_number d ds ≡ true → has_number d cs ≡ true) → All (IsOffered image cs) (flat_map (callable_of_class image) ds)
classes_offer image cs [] within = All-nil (IsOffered image cs)
classes_offer image cs (d ∷ ds) within =
    All-append (IsOffered image cs) (callable_of_class image d) (flat_map (callable_of_class image) ds)
    (class_offers image cs d (within d (number_first d ds)))
    (classes_offer image cs ds (λ e there. within e (number_later e d ds there)))

offered_is : (image : Image) (c : ℕ) → All (IsOffered image (superinterfaces image c)) (offered image c)
offered_is image c = classes_offer image (superinterfaces image c) (once (superinterfaces image c)) (λ d there. sym (has_once d (superinterfaces image c)) ∙ there)

-- ---- the only one of some methods

-- what is kept of those has what they have, and passes the test
all_kept : (P : Method → Type 0) (test : Method → Bool) (ms : List Method) → All P ms → All (λ m. P m × (test m ≡ true)) (filter test ms)
all_kept P test ms all = λ k x l. (All-filter test P ms all k x l, filter_passes test ms k x l)

only_is : (P : Method → Type 0) (ms : List Method) (id : MethodId) → All P ms → only ms ≡ select.Found id → (m : Method) × (m.id ≡ id.0) × P m
only_is P [] id all e = absurd (cc)
only_is P (m ∷ []) id all e =
    let made : MethodId = record { 0 = m.id } in
    let same : made ≡ id = cc in
    (m, ap (λ (i : MethodId). i.0) same, All-head P m [] all)
only_is P (m ∷ n ∷ ms) id all e = absurd (cc)

chosen_is : (image : Image) (P : Method → Type 0) (ms : List Method) (id : MethodId) → All P ms → chosen image ms ≡ select.Found id → (m : Method) × (m.id ≡ id.0) × (P m × (not (is_abstract m) ≡ true))
chosen_is image P ms id all e =
    only_is (λ m. P m × (not (is_abstract m) ≡ true)) (filter (λ m. not (is_abstract m)) (most_specific image ms)) id
    (all_kept P (λ m. not (is_abstract m)) (most_specific image ms) (All-filter (λ m. not (is_overridden image ms m)) P ms all)) e

-- ---- selection

module _ (image : Image) (c : ℕ) (name : List ℕ) (p : Proto) (id : MethodId) where
  from_interfaces : chosen image (offered_as image c name p) ≡ select.Found id → Selects image c name p id
  from_interfaces e =
      let all = all_kept (IsOffered image (superinterfaces image c)) (is_method_of name p) (offered image c) (offered_is image c) in
      let (m, is, has) = chosen_is image (λ m. IsOffered image (superinterfaces image c) m × (is_method_of name p m ≡ true)) (offered_as image c name p) id all e in
      let key = and_parts (bytes_eq m.def.name name) (same_proto m.def.proto p) has.0.1 in (
        m,
        subst (λ k. method_at image k ≡ Some m) is has.0.0.there,
        record {
          named = names_are m.def.name name key.0;
          proto = proto_is m.def.proto p key.1;
          instance = has.0.0.instance;
          concrete = not-true (is_abstract m) has.1;
          among = has_right m.info.class.0 (supers image c) (superinterfaces image c) has.0.0.among;
        },
      )

  from_nearest : (m : Method) → nearest image c name p ≡ Some m → (b : Bool) → is_abstract m ≡ b → (if b then select.Abstract else select.Found (record { 0 = m.id })) ≡ select.Found id → Selects image c name p id
  from_nearest m near true concrete e = absurd (cc)
  from_nearest m near false concrete e =
      let made : MethodId = record { 0 = m.id } in
      let same : made ≡ id = cc in
      let is = nearest_is image c name p m near in (
        m,
        subst (λ (i : MethodId). method_at image i.0 ≡ Some m) same is.0,
        record { named = is.1; proto = is.2; instance = is.3; concrete = concrete; among = has_left m.info.class.0 (supers image c) (superinterfaces image c) is.4 },
      )

  by_nearest : (o : Option Method) → nearest image c name p ≡ o → (elim o as (λ w. Select) [ Some m ↦ itself m | None ↦ chosen image (offered_as image c name p) ]) ≡ select.Found id → Selects image c name p id
  by_nearest None near e = from_interfaces e
  by_nearest (Some m) near e = from_nearest m near (is_abstract m) refl e

  by_name : (b : Bool) → (elim b as (λ w. Select) [ true ↦ select.Abstract | false ↦ elim (nearest image c name p) [ Some m ↦ itself m | None ↦ chosen image (offered_as image c name p) ] ]) ≡ select.Found id → Selects image c name p id
  by_name true e = absurd (cc)
  by_name false e = by_nearest (nearest image c name p) refl e

  selected_is : selected image c name p ≡ select.Found id → Selects image c name p id
  unfolding selected
  selected_is e = by_name (bytes_eq name init_name) e

-- ---- all look-ups

pub look_ups_find : LookUpsFind
look_ups_find image = record { methods = method_id image; fields = field_id image; initialisers = initialiser_is image; selected_is = selected_is image }
