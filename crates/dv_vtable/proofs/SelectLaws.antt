-- What calls select by the keys of a class, of its superclasses and of the interfaces above these.
use Rattle.std.specs.Prelude.{ℕ, ◌≡◌, All, Bool, true, false, not, List, [], ◌∷◌, ◌++◌, map, filter, Option, Some, None, is_some, bytes_eq}
use Rattle.std.specs.List.{cons_option, list_any}
use Rattle.std.proofs.Common.{refl, ap, sym, ◌∙◌, cond, get_or}
use Rattle.std.proofs.lemmas.Bool.{not-true}
use Rattle.std.proofs.lemmas.List.{map-append}
use Rattle.std.proofs.lemmas.List.Elements.{All-nil, All-cons, All-head, All-tail, All-filter, filter_passes}
use Rattle.std.proofs.lemmas.List.Folds.{list_any_at}
use Rattle.dv_defs.specs.declared.names.MethodId.{MethodId}
use Rattle.dv_defs.specs.declared.image.Select.{Select}
use Rattle.dv_defs.specs.declared.image.Select.TheVariants as select
use Rattle.dv_defs.specs.Images.{Image}
use Rattle.dv_defs.specs.Names.{init_name}
use Rattle.dv_defs.specs.Pools.{Method, method_at, nearest, supers}
use Rattle.dv_defs.specs.Selecting.{chosen, is_callable, itself, offered, offered_as, selected}
use Rattle.dv_defs.specs.Linked.{callable_along, entry, first_of_each, is_new, key_of, keyed_at, overrides, table_at}
use Rattle.law_linking.proofs.Members.{HasMethods}
use Rattle.law_linking.proofs.TableLaws.{IsOwn, along_agrees, nearest_has}
use Rattle.dv_vtable.specs.Chains.{key_in}
use Rattle.dv_vtable.specs.Choosing.{methods_at}
use Rattle.dv_vtable.specs.Numbered.{numbers_of}
use Rattle.dv_vtable.specs.Rows.{chain_at, chosen_row, itself_row, nearest_id, offers_at}
use Rattle.dv_vtable.specs.Sources.{itself_at}
use Rattle.dv_vtable.proofs.CallableLaws.{id_of, name_by}
use Rattle.dv_vtable.proofs.OfferLaws.{IsFit, chain_numbers, fit_along, fit_offered, news, offer_numbers, offer_of, offers_are}
use Rattle.dv_vtable.proofs.SameKeys.{key_laws}

-- ---- lists

mapped_same : {X Y : Type 0} (f g : X → Y) (xs : List X) → All (λ x. f x ≡ g x) xs → map f xs ≡ map g xs
mapped_same f g [] same = refl
mapped_same f g (x ∷ xs) same = λ j. All-head (λ x. f x ≡ g x) x xs same j ∷ mapped_same f g xs (All-tail (λ x. f x ≡ g x) x xs same) j

-- the methods of the numbers of methods
pub own_numbers : (image : Image) (ms : List Method) → All (IsOwn image) ms → methods_at image (map id_of ms) ≡ ms
own_numbers image [] own = refl
own_numbers image (m ∷ ms) own =
    (λ j. cons_option (All-head (IsOwn image) m ms own j) (methods_at image (map id_of ms)))
    ∙ ap (λ ns. m ∷ ns) (own_numbers image ms (All-tail (IsOwn image) m ms own))

-- ---- by a method's name and prototype

-- none of these is a constructor's
plain_name : (m : Method) → is_callable m ≡ true → bytes_eq m.def.name init_name ≡ false
plain_name m callable = name_by _ _ _ callable

abbrev found_or : Option Method → Select → Select
found_or o none = elim o as (λ _. Select) [ Some m ↦ itself m | None ↦ none ]

selected_plain : (image : Image) (c : ℕ) (m : Method) → is_callable m ≡ true
    → entry image c m ≡ found_or (nearest image c m.def.name m.def.proto) (chosen image (offered_as image c m.def.name m.def.proto))
unfolding selected
selected_plain image c m callable =
    ap (λ b. elim b as (λ _. Select)
    [ true ↦ select.Abstract | false ↦ found_or (nearest image c m.def.name m.def.proto) (chosen image (offered_as image c m.def.name m.def.proto)) ])
    (plain_name m callable)

-- a look-up by it finds a method just where the class or a superclass has its key
nearest_agrees : (image : Image) (c : ℕ) (m : Method) → is_callable m ≡ true
    → list_any (overrides m) (callable_along image (supers image c)) ≡ is_some (nearest image c m.def.name m.def.proto)
unfolding nearest
nearest_agrees image c m callable = along_agrees image m.def.name m.def.proto (plain_name m callable) (supers image c)

-- ---- keys of the class and its superclasses

chain_entry : (image : Image) (c : ℕ) (m : Method) → IsFit image m → list_any (overrides m) (callable_along image (supers image c)) ≡ true
    → entry image c m ≡ itself_at image (nearest_id image c m)
chain_entry image c m fit there = by (nearest image c m.def.name m.def.proto) refl (sym (nearest_agrees image c m fit.callable) ∙ there)
  where
    at : Option Method → Select
    at o = itself_at image (record { 0 = elim o as (λ _. ℕ) [ None ↦ m.id | Some n ↦ n.id ] })

    by : (o : Option Method) → nearest image c m.def.name m.def.proto ≡ o → is_some (nearest image c m.def.name m.def.proto) ≡ true
        → entry image c m ≡ itself_at image (nearest_id image c m)
    by None is some = absurd (let none : is_some (nearest image c m.def.name m.def.proto) ≡ false = ap is_some is in cc)
    by (Some n) is some =
        let own : method_at image n.id ≡ Some n = (nearest_has image c m.def.name m.def.proto n is).0 in
        selected_plain image c m fit.callable
        ∙ (ap (λ o. found_or o (chosen image (offered_as image c m.def.name m.def.proto))) is
        ∙ (ap (λ o. elim o as (λ _. Select) [ None ↦ select.Abstract | Some m ↦ itself m ]) (sym own)
        ∙ ap (λ (o : Option Method). itself_at image (record { 0 = elim o as (λ _. ℕ) [ None ↦ m.id | Some n ↦ n.id ] })) (sym is)))

itself_mapped : (image : Image) (key : Method → ℕ) (id : Method → MethodId) (ms : List Method)
    → itself_row image (map {B = ℕ × MethodId} (λ m. (key m, id m)) ms) ≡ map (λ m. itself_at image (id m)) ms
itself_mapped image key id [] = refl
itself_mapped image key id (m ∷ ms) = ap (λ ss. itself_at image (id m) ∷ ss) (itself_mapped image key id ms)

chain_selects : (image : Image) (c : ℕ) → map (entry image c) (callable_along image (supers image c)) ≡ itself_row image (chain_at image c)
chain_selects image c =
    let along : List Method = callable_along image (supers image c) in
    mapped_same (entry image c) (λ m. itself_at image (nearest_id image c m)) along
    (λ k d within. chain_entry image c (get_or along k d) (fit_along image (supers image c) k d within)
    (list_any_at (overrides (get_or along k d)) along k d within (key_laws.refl (key_in (get_or along k d).def))))
    ∙ sym (itself_mapped image (key_of image) (nearest_id image c) along)

-- ---- keys of interfaces alone

kept_tests : {X : Type 0} (p q : X → Bool) → ((x : X) → p x ≡ true → q x ≡ true) → (xs : List X) → filter p (filter q xs) ≡ filter p xs
kept_tests p q gives [] = refl
kept_tests p q gives (x ∷ xs) = by (q x) refl (p x) refl (kept_tests p q gives xs)
  where
    by : (b : Bool) → q x ≡ b → (a : Bool) → p x ≡ a → filter p (filter q xs) ≡ filter p xs
        → filter p (cond b (x ∷ filter q xs) (filter q xs)) ≡ cond a (x ∷ filter p xs) (filter p xs)
    by true e a f rest = ap (λ c. cond c (x ∷ filter p (filter q xs)) (filter p (filter q xs))) f ∙ both a rest
      where
        both : (a : Bool) → filter p (filter q xs) ≡ filter p xs → cond a (x ∷ filter p (filter q xs)) (filter p (filter q xs)) ≡ cond a (x ∷ filter p xs) (filter p xs)
        both true rest = ap (λ ys. x ∷ ys) rest
        both false rest = rest
    by false e true f rest = absurd (let wrong = gives x f in cc)
    by false e false f rest = rest

-- methods of one name and prototype are new alike
new_alike : (along : List Method) (m n : Method) → is_new along m ≡ true → overrides m n ≡ true → is_new along n ≡ true
new_alike along m n new same = ap (λ p. not (list_any p along)) (sym (λ j x. key_laws.congr (key_in m.def) (key_in n.def) (key_in x.def) same j)) ∙ new

offer_select : (image : Image) (c : ℕ) (m : Method) → IsFit image m → is_new (callable_along image (supers image c)) m ≡ true
    → entry image c m ≡ chosen image (methods_at image (offer_of image (news image c) m).1)
offer_select image c m fit new =
    let along : List Method = callable_along image (supers image c) in
    let none : is_some (nearest image c m.def.name m.def.proto) ≡ false = sym (nearest_agrees image c m fit.callable) ∙ not-true (list_any (overrides m) along) new in
    let own : All (IsOwn image) (filter (overrides m) (news image c)) =
    All-filter (overrides m) (IsOwn image) (news image c) (All-filter (is_new along) (IsOwn image) (offered image c) (λ k d within. (fit_offered image c k d within).own)) in
    let group : methods_at image (map id_of (filter (overrides m) (news image c))) ≡ offered_as image c m.def.name m.def.proto =
    own_numbers image (filter (overrides m) (news image c)) own
    ∙ kept_tests (overrides m) (is_new along) (λ n same. new_alike along m n new same) (offered image c) in
    selected_plain image c m fit.callable
    ∙ (ap (λ o. found_or o (chosen image (offered_as image c m.def.name m.def.proto))) (none_of (nearest image c m.def.name m.def.proto) none)
    ∙ ap (chosen image) (sym group))
  where
    none_of : (o : Option Method) → is_some o ≡ false → o ≡ None
    none_of None e = refl
    none_of (Some n) e = absurd (cc)

chosen_mapped : (image : Image) (of : Method → ℕ × List MethodId) (ms : List Method)
    → chosen_row image (map of ms) ≡ map (λ m. chosen image (methods_at image (of m).1)) ms
chosen_mapped image of [] = refl
chosen_mapped image of (m ∷ ms) = ap (λ ss. chosen image (methods_at image (of m).1) ∷ ss) (chosen_mapped image of ms)

first_kept : (P : Method → Type 0) (ms : List Method) → All P ms → All P (first_of_each ms)
first_kept P [] all = All-nil P
first_kept P (m ∷ ms) all =
    All-cons P m (filter (λ n. not (overrides m n)) (first_of_each ms)) (All-head P m ms all)
    (All-filter (λ n. not (overrides m n)) P (first_of_each ms) (first_kept P ms (All-tail P m ms all)))

offer_selects : (image : Image) → HasMethods image → (c : ℕ) → map (entry image c) (first_of_each (news image c)) ≡ chosen_row image (offers_at image c)
offer_selects image has c =
    let along : List Method = callable_along image (supers image c) in
    let fit : All (IsFit image) (first_of_each (news image c)) =
    first_kept (IsFit image) (news image c) (All-filter (is_new along) (IsFit image) (offered image c) (fit_offered image c)) in
    let new : All (λ m. is_new along m ≡ true) (first_of_each (news image c)) =
    first_kept (λ m. is_new along m ≡ true) (news image c) (filter_passes (is_new along) (offered image c)) in
    mapped_same (entry image c) (λ m. chosen image (methods_at image (offer_of image (news image c) m).1)) (first_of_each (news image c))
    (λ k d within. offer_select image c (get_or (first_of_each (news image c)) k d) (fit k d within) (new k d within))
    ∙ (sym (chosen_mapped image (offer_of image (news image c)) (first_of_each (news image c)))
    ∙ ap (chosen_row image) (sym (offers_are image has c)))

-- ---- the whole table

pub row_selects : (image : Image) → HasMethods image → (c : ℕ) → itself_row image (chain_at image c) ++ chosen_row image (offers_at image c) ≡ table_at image c
row_selects image has c =
    (λ j. sym (chain_selects image c) j ++ sym (offer_selects image has c) j)
    ∙ sym (map-append (entry image c) (callable_along image (supers image c)) (first_of_each (news image c)))

pub row_numbers : (image : Image) → HasMethods image → (c : ℕ) → numbers_of (chain_at image c) ++ numbers_of (offers_at image c) ≡ map (key_of image) (keyed_at image c)
row_numbers image has c =
    (λ j. chain_numbers image c j ++ offer_numbers image has c j)
    ∙ sym (map-append (key_of image) (callable_along image (supers image c)) (first_of_each (news image c)))
