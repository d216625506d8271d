-- Where a field is found: in each class of the walk up and in the interfaces above that class.
use Rattle.std.specs.Prelude.{ℕ, zero, suc, ◌≡◌, ◌<◌, ◌≤◌, Bool, true, false, ◌&&◌, List, [], ◌∷◌, ◌++◌, length, flat_map, Option, Some, None, nat_eq, slice_get, option_to_list}
use Rattle.std.specs.Option.{option_or}
use Rattle.std.proofs.Common.{refl, sym, ap, ◌∙◌, ⊎_elim, arith}
use Rattle.std.proofs.lemmas.Bool.{eqb-true}
use Rattle.std.proofs.lemmas.Grind.{flat_map-append}
use Rattle.dv_defs.specs.declared.names.Ty.{Ty}
use Rattle.dv_defs.specs.declared.class.FieldDef.{FieldDef}
use Rattle.dv_defs.specs.declared.image.FieldInfo.{FieldInfo}
use Rattle.dv_defs.specs.Images.{Image}
use Rattle.dv_defs.specs.First.{first_in}
use Rattle.dv_defs.specs.Pools.{Field, parent_at, walk, supers, is_interface, fields_of, with_field}
use Rattle.dv_defs.specs.Order.{has_number, above}
use Rattle.dv_defs.specs.LookUp.{upward, interfaces_at, interfaces_first, interfaces_above, once, pick_field, is_field_of, field_declared, field_found}
use Rattle.law_linking.specs.Ordered.{IsOrdered}
use Rattle.law_linking.proofs.Reach.{above_in, less_or_not}
use Rattle.law_linking.proofs.ReachPlaces.{place, place_bounded, place_rises}
use Rattle.law_linking.proofs.OnceNumbers.{first_in_once}
use Rattle.law_linking.proofs.Upward.{first_in_append, first_in_flat, classes_stand, parent_is_above, parent_beyond, interfaces_beyond, walk_alone, upward_alone}

-- ---- a class without fields declares none

abbrev pub field_or : (Field → Bool) → Option Field → Option Field → Option Field
field_or good rest o = elim o [ None ↦ rest | Some f ↦ elim (good f) [ true ↦ Some f | false ↦ rest ] ]

abbrev when_or : Bool → Field → Option Field → Option Field
when_or b f rest = elim b [ true ↦ Some f | false ↦ rest ]

-- of a class without fields, what has a definition is another's
picked_other : (info : FieldInfo) (id c : ℕ) (good : Field → Bool) (o : Option FieldDef) (rest : Option Field) → (nat_eq info.class.0 c ≡ true → o ≡ None) → rest ≡ None
    → field_or (λ f. nat_eq f.info.class.0 c && good f) rest (with_field id info o) ≡ None
picked_other info id c good None rest own none = none
picked_other info id c good (Some def) rest own none = by (record { id = id; info = info; def = def }) (nat_eq info.class.0 c) own
  where
    by : (f : Field) (b : Bool) → (b ≡ true → Some def ≡ None) → when_or (b && good f) f rest ≡ None
    by f true own = let bare : Some def ≡ None = own refl in absurd (cc)
    by f false own = none

picks_none : (image : Image) (c : ℕ) (good : Field → Bool) → fields_of (slice_get image.classes c) ≡ [] → (is : List FieldInfo) (id : ℕ) → pick_field image is id (λ f. nat_eq f.info.class.0 c && good f) ≡ None
picks_none image c good bare [] id = refl
picks_none image c good bare (i ∷ is) id =
    picked_other i id c good (slice_get (fields_of (slice_get image.classes i.class.0)) i.place) (pick_field image is (suc id) (λ f. nat_eq f.info.class.0 c && good f))
    (λ same. ap (λ n. slice_get (fields_of (slice_get image.classes n)) i.place) (eqb-true i.class.0 c same) ∙ ap (λ (fs : List FieldDef). slice_get fs i.place) bare)
    (picks_none image c good bare is (suc id))

pub declares_none : (image : Image) (name : List ℕ) (t : Ty) (c : ℕ) → fields_of (slice_get image.classes c) ≡ [] → field_declared image name t c ≡ None
declares_none image name t c bare = picks_none image c (is_field_of name t) bare image.fields 0

-- ---- the visits of Object in between add nothing

or_nothing : {Y : Type 0} (o : Option Y) → option_or o None ≡ o
or_nothing None = refl
or_nothing (Some y) = refl

first_of_one : {Y : Type 0} (f : ℕ → Option Y) (g : ℕ → List ℕ) (p : ℕ) → first_in f (flat_map g (p ∷ [])) ≡ first_in f (g p)
first_of_one f g p = first_in_append f (g p) [] ∙ or_nothing (first_in f (g p))

module _ {Y : Type 0} (image : Image) (ordered : IsOrdered image) (f : ℕ → Option Y) (bare : f ordered.object ≡ None) where
  top_gives_none : (n : ℕ) → first_in f (upward (interfaces_first image) n ordered.object) ≡ None
  top_gives_none zero = refl
  top_gives_none (suc n) =
      ap (option_or (f ordered.object))
      (ap (λ (cs : List ℕ). first_in f (flat_map (upward (interfaces_first image) n) (cs ++ option_to_list (parent_at image ordered.object)))) ordered.object_interfaces ∙
      ap (λ (o : Option ℕ). first_in f (flat_map (upward (interfaces_first image) n) (option_to_list o))) ordered.object_parent) ∙
      (or_nothing (f ordered.object) ∙ bare)

  -- what is above a class, in its interfaces and then in its superclass
  split_above : (g : ℕ → List ℕ) (c : ℕ) (o : Option ℕ) → parent_at image c ≡ o → first_in f (flat_map g (interfaces_first image c)) ≡ option_or (first_in f (flat_map g (interfaces_at image c))) (first_in f (flat_map g (option_to_list o)))
  split_above g c o is =
      ap (first_in f) (flat_map-append g (interfaces_at image c) (option_to_list (parent_at image c))) ∙
      (first_in_append f (flat_map g (interfaces_at image c)) (flat_map g (option_to_list (parent_at image c))) ∙
      ap (λ (p : Option ℕ). option_or (first_in f (flat_map g (interfaces_at image c))) (first_in f (flat_map g (option_to_list p)))) is)

  interface_gives : (n d : ℕ) → is_interface image d ≡ true → first_in f (upward (interfaces_first image) n d) ≡ first_in f (upward (interfaces_at image) n d)
  interface_gives zero d is = refl
  interface_gives (suc n) d is =
      ap (option_or (f d))
      (split_above (upward (interfaces_first image) n) d (Some ordered.object) (ordered.of_interfaces d is) ∙
      (ap (option_or (first_in f (flat_map (upward (interfaces_first image) n) (interfaces_at image d))))
      (first_of_one f (upward (interfaces_first image) n) ordered.object ∙ top_gives_none n) ∙
      (or_nothing (first_in f (flat_map (upward (interfaces_first image) n) (interfaces_at image d))) ∙
      first_in_flat f (upward (interfaces_first image) n) (upward (interfaces_at image) n) (interfaces_at image d)
      (λ e there. interface_gives n e (ordered.interfaces d e there)))))

  -- a class's own, and its interfaces'
  abbrev along : ℕ → List ℕ
  along s = s ∷ once (interfaces_above image s)

  above_gives : (c : ℕ) → first_in f (flat_map (upward (interfaces_first image) (length image.classes)) (interfaces_at image c)) ≡ first_in f (once (interfaces_above image c))
  above_gives c =
      first_in_flat f (upward (interfaces_first image) (length image.classes)) (upward (interfaces_at image) (length image.classes)) (interfaces_at image c)
      (λ e there. interface_gives (length image.classes) e (ordered.interfaces c e there)) ∙
      sym (first_in_once f (interfaces_above image c))

  pub found_along : (m c : ℕ) → c < length image.classes → place image c < m → first_in f (upward (interfaces_first image) (length image.classes) c) ≡ first_in f (flat_map along (walk image m (Some c)))
  found_along zero c within more = absurd (omega arith)
  found_along (suc m) c within more =
      sym (ap (first_in f) (classes_stand image ordered.range ordered.acyclic c within)) ∙
      (ap (option_or (f c))
      (split_above (upward (interfaces_first image) (length image.classes)) c (parent_at image c) refl ∙
      (ap (λ o. option_or o (first_in f (flat_map (upward (interfaces_first image) (length image.classes)) (option_to_list (parent_at image c))))) (above_gives c) ∙
      ap (option_or (first_in f (once (interfaces_above image c))))
      (by (parent_at image c) m
      (λ p is.
      let there : has_number p (above image c) ≡ true = parent_is_above image c p is in
      let less = place_rises image ordered.range ordered.acyclic c p there in
      found_along m p (above_in image ordered.range c p there) (omega arith))))) ∙
      sym (ap (option_or (f c)) (first_in_append f (once (interfaces_above image c)) (flat_map along (walk image m (parent_at image c))))))
    where
      by : (o : Option ℕ) (m : ℕ) → ((p : ℕ) → o ≡ Some p → first_in f (upward (interfaces_first image) (length image.classes) p) ≡ first_in f (flat_map along (walk image m (Some p)))) → first_in f (flat_map (upward (interfaces_first image) (length image.classes)) (option_to_list o)) ≡ first_in f (flat_map along (walk image m o))
      by None zero rest = refl
      by None (suc m) rest = refl
      by (Some p) m rest = first_of_one f (upward (interfaces_first image) (length image.classes)) p ∙ rest p refl

-- a class's fields come first, then those of its interfaces, then those of its superclass with the interfaces of that, and so on
pub field_found_along : (image : Image) → IsOrdered image → (c : ℕ) → c < length image.classes → (name : List ℕ) (t : Ty) → field_found image c name t ≡ first_in (field_declared image name t) (flat_map (λ s. s ∷ once (interfaces_above image s)) (supers image c))
unfolding field_found
field_found_along image ordered c within name t =
    found_along image ordered (field_declared image name t) (declares_none image name t ordered.object ordered.object_fields) (length image.classes) c within
    (place_bounded image ordered.acyclic c within)

-- and so is what a number that is no class's declares
pub field_found_anywhere : (image : Image) → IsOrdered image → (c : ℕ) (name : List ℕ) (t : Ty) → field_found image c name t ≡ first_in (field_declared image name t) (flat_map (λ s. s ∷ once (interfaces_above image s)) (supers image c))
unfolding field_found
field_found_anywhere image ordered c name t =
    ⊎_elim (λ within. field_found_along image ordered c within name t) beyond (less_or_not c (length image.classes))
  where
    beyond : length image.classes ≤ c → field_found image c name t ≡ first_in (field_declared image name t) (flat_map (λ s. s ∷ once (interfaces_above image s)) (supers image c))
    beyond out =
        let some : 0 < length image.classes = omega (arith, ordered.object_in) in
        let alone : supers image c ≡ c ∷ [] = walk_alone image (length image.classes) c some (parent_beyond image c out) in
        ap (first_in (field_declared image name t))
        (upward_alone (interfaces_first image) (length image.classes) c some
        (ap (λ (o : Option ℕ). interfaces_at image c ++ option_to_list o) (parent_beyond image c out) ∙ ap (λ (cs : List ℕ). cs ++ []) (interfaces_beyond image c out)) ∙
        sym (ap (flat_map (λ s. s ∷ once (interfaces_above image s))) alone ∙
        ap (λ (cs : List ℕ). (c ∷ once (flat_map (upward (interfaces_at image) (length image.classes)) cs)) ++ []) (interfaces_beyond image c out)))
