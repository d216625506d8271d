-- The numbers of names and prototypes that are kept beside an image: by method, and by the places of tables.
use Rattle.std.specs.Prelude.{ℕ, zero, suc, ◌≡◌, ◌<◌, ◌≤◌, ◌++◌, List, [], length, map, filter, flat_map, Option, Some, None, slice_get, slice_index_or, option_map}
use Rattle.std.specs.List.{range_with_len}
use Rattle.std.proofs.Common.{refl, ap, sym, ◌∙◌, arith, ⊎_elim}
use Rattle.std.proofs.lemmas.List.{get_or_past}
use Rattle.std.proofs.lemmas.List.FromFn.{get_or-map-range_with_len, length-map-range_with_len}
use Rattle.std.proofs.lemmas.Option.{slice_get-map, slice_get_past}
use Rattle.dv_defs.specs.declared.class.MethodDef.{MethodDef}
use Rattle.dv_defs.specs.declared.image.ClassInfo.{ClassInfo}
use Rattle.dv_defs.specs.Images.{Image}
use Rattle.dv_defs.specs.LookUp.{interfaces_above, interfaces_at, once, upward}
use Rattle.dv_defs.specs.Pools.{Method, method_at, methods_of, parent_at, supers, walk}
use Rattle.dv_defs.specs.Selecting.{callable_of_class, is_callable, offered}
use Rattle.dv_defs.specs.Linked.{callable_along, first_of_each, is_new, key_of, keyed_at}
use Rattle.law_linking.specs.Stripped.{method_stripped}
use Rattle.law_linking.proofs.AlikeImages.{AreAlike, alike_method_at}
use Rattle.law_linking.proofs.AlikeTables.{alike_key_number, alike_place_keys}
use Rattle.law_linking.proofs.Members.{HasMethods, method_of, methods_of_class, own_from}
use Rattle.law_linking.proofs.Reach.{less_or_not}
use Rattle.law_linking.proofs.Upward.{interfaces_beyond, parent_beyond}
use Rattle.dv_vtable.specs.Chains.{first_method, key_in}
use Rattle.dv_vtable.specs.Numbered.{all_methods, key_number, key_numbers_in}
use Rattle.dv_vtable.specs.Tables.{AreKeyed}
use Rattle.dv_vtable.proofs.KeyNumbers.{def_at, key_of_is}

-- ---- methods

pub keys_told : (image : Image) (cs : List ClassInfo) → image.classes ≡ cs → HasMethods image → (keys : List ℕ) → keys ≡ key_numbers_in (all_methods cs) (all_methods cs)
    → (n : ℕ) (m : Method) → method_at image n ≡ Some m → slice_get keys n ≡ Some (key_of image m)
keys_told image cs is has keys are n m at =
    let number : MethodDef → ℕ = λ d. key_number (all_methods cs) (key_in d) in
    let own : slice_get (all_methods cs) n ≡ Some m.def = ap (λ ds. slice_get (all_methods ds) n) (sym is) ∙ def_at image has n m at in
    ap (λ ks. slice_get ks n) are
    ∙ (slice_get-map number (all_methods cs) n
    ∙ (ap (option_map number) own
    ∙ ap Some (ap (λ ds. key_number (all_methods ds) (key_in m.def)) (sym is) ∙ sym (key_of_is image has m))))

-- ---- places of tables

none_callable : (image : Image) → HasMethods image → (c : ℕ) → length image.classes ≤ c → callable_of_class image c ≡ []
none_callable image has c beyond =
    methods_of_class image has is_callable c
    ∙ ap (λ o. filter is_callable (own_from method_of c 0 (first_method image.classes c) (methods_of o))) (slice_get_past image.classes c beyond)

none_along : (image : Image) → HasMethods image → (c n : ℕ) → length image.classes ≤ c → callable_along image (walk image n (Some c)) ≡ []
none_along image has c zero beyond = refl
none_along image has c (suc n) beyond =
    let above : callable_along image (walk image n (parent_at image c)) ≡ [] = ap (λ o. callable_along image (walk image n o)) (parent_beyond image c beyond) ∙ top n in
    (λ j. above j ++ filter (is_new (above j)) (none_callable image has c beyond j))
  where
    top : (n : ℕ) → callable_along image (walk image n None) ≡ []
    top zero = refl
    top (suc n) = refl

none_above : (image : Image) (c n : ℕ) → length image.classes ≤ c → flat_map (interfaces_above image) (walk image n (Some c)) ≡ []
none_above image c zero beyond = refl
none_above image c (suc n) beyond =
    (λ j. flat_map (upward (interfaces_at image) (length image.classes)) (interfaces_beyond image c beyond j)
    ++ flat_map (interfaces_above image) (walk image n (parent_beyond image c beyond j)))
    ∙ top n
  where
    top : (n : ℕ) → flat_map (interfaces_above image) (walk image n None) ≡ []
    top zero = refl
    top (suc n) = refl

-- a number that is no class's has no places
none_keyed : (image : Image) → HasMethods image → (c : ℕ) → length image.classes ≤ c → keyed_at image c ≡ []
none_keyed image has c beyond =
    let along : callable_along image (supers image c) ≡ [] = none_along image has c (length image.classes) beyond in
    let offers : offered image c ≡ [] = ap (λ cs. flat_map (callable_of_class image) (once cs)) (none_above image c (length image.classes) beyond) in
    λ j. along j ++ first_of_each (filter (is_new (along j)) (offers j))

pub places_told : (image : Image) (n : ℕ) → length image.classes ≡ n → HasMethods image → (places : List (List ℕ))
    → places ≡ map (λ c. map (key_of image) (keyed_at image c)) (range_with_len 0 n) → (c : ℕ) → slice_index_or places c [] ≡ map (key_of image) (keyed_at image c)
places_told image n many has places are c = ⊎_elim within beyond (less_or_not c n)
  where
    keys : ℕ → List ℕ
    keys d = map (key_of image) (keyed_at image d)

    within : c < n → slice_index_or places c [] ≡ map (key_of image) (keyed_at image c)
    within less = ap (λ ps. slice_index_or ps c []) are ∙ get_or-map-range_with_len (λ d. map (key_of image) (keyed_at image d)) 0 n c c [] less (omega arith)

    beyond : n ≤ c → slice_index_or places c [] ≡ map (key_of image) (keyed_at image c)
    beyond over =
        let short : length places ≤ c =
        omega (arith, ap (λ (ps : List (List ℕ)). length ps) are, length-map-range_with_len (λ d. map (key_of image) (keyed_at image d)) 0 n, over) in
        get_or_past places c [] short ∙ ap (map (key_of image)) (sym (none_keyed image has c (omega (arith, many, over))))

-- ---- images that are alike

pub keyed_alike : (a b : Image) → AreAlike a b → (keys : List ℕ) (places : List (List ℕ)) → AreKeyed keys places a → AreKeyed keys places b
keyed_alike a b alike keys places keyed = record {
  keys_are = λ n m at. by n m (method_at a n) refl (alike_method_at a b alike n ∙ ap (option_map method_stripped) at);
  places_are = λ c. keyed.places_are c ∙ alike_place_keys a b alike c;
}
  where
    by : (n : ℕ) (m : Method) (o : Option Method) → method_at a n ≡ o → option_map method_stripped o ≡ Some (method_stripped m) → slice_get keys n ≡ Some (key_of b m)
    by n m None at same = absurd (cc)
    by n m (Some k) at same =
        let like : method_stripped k ≡ method_stripped m = cc in
        keyed.keys_are n k at ∙ ap Some (ap (λ (x : Method). key_of a x) like ∙ alike_key_number a b alike m.def.name m.def.proto)
