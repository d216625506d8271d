-- An object that has an instance field is of a class, and has the field's cells.
use Rattle.std.proofs.Common.{◌≡◌, ◌⊎◌, inl, inr, ℕ, zero, suc, ◌+◌, ◌<◌, ◌≤◌, List, [], length, Bool, true, false, Option, Some, None, refl, sym, ap, ◌∙◌, subst, arith}
use Rattle.std.specs.Prelude.{slice_get, bytes_eq}
use Rattle.std.proofs.lemmas.Bool.{cases_lt, or_parts, both_ways, ltb-true}
use Rattle.std.proofs.lemmas.Option.{slice_get_past, same_Some}
use Rattle.dv_defs.specs.declared.names.Base.TheVariants as base
use Rattle.dv_defs.specs.declared.names.Ty.{Ty}
use Rattle.dv_defs.specs.Images.{Image}
use Rattle.dv_machine.specs.Kind.{Kind}
use Rattle.dv_machine.specs.Kind as kind
use Rattle.dv_defs.specs.Names.{object_name, string_name, class_name}
use Rattle.dv_defs.specs.Types.{of_class, is_array, is_reference, words_of}
use Rattle.dv_defs.specs.Pools.{Field, field_at, is_static_field, is_interface, class_type, class_named, declared_name, name_at, parent_at}
use Rattle.dv_defs.specs.Order.{has_number, under_class, implements, instance, fits, reaches, above, interfaces_of, is_interface_type}
use Rattle.dv_typing.specs.RegTypes.{type_at, reg_types}
use Rattle.dv_machine.specs.Heap.{kind_type, class_cells}
use Rattle.dv_machine.specs.Conforming.{is_string_or_class, is_proper}
use Rattle.dv_machine.specs.WellTyped.{Typings}
use Rattle.dv_machine.specs.Accepted.{Accepted}
use Rattle.law_types.proofs.Facts.{no}
use Rattle.law_types.proofs.Equal.{names_equal, of_one_name}
use Rattle.law_types.proofs.Types.{type_is, flat_under, AreUnder, IsUnder}
use Rattle.law_types.proofs.Walks.{named_is, named_inside, above_is, reach_is, object_reaches}
use Rattle.law_types.proofs.Interfaces.{above_interface}
use Rattle.law_machine.proofs.lemmas.Common.Members.{class_of_field}

same_base : (a b : List ℕ) → base.Class a ≡ base.Class b → a ≡ b
same_base a b e = cc

module _ (image : Image) (T : Typings) (acc : Accepted image T) (n : ℕ) (x : Field) (has : field_at image n ≡ Some x) (placed : is_static_field x ≡ false) (concrete : is_interface image x.info.class.0 ≡ false) where
  in_image : x.info.class.0 < length image.classes
  in_image = class_of_field image n x has

  apart : (bytes_eq (name_at image x.info.class.0) object_name ≡ false) × (is_string_or_class (name_at image x.info.class.0) ≡ false)
  apart = or_parts _ _ (acc.boot.no_fields n x has placed)

  no_object : name_at image x.info.class.0 ≡ object_name → ⊥
  no_object e = both_ways _ apart.0 (names_equal _ _ e)

  -- what fits the class is an instance of it
  fits_instance : (t : Ty) → fits image t (class_type image x.info.class.0) ≡ true → instance image t (class_type image x.info.class.0) ≡ true
  unfolding fits
  fits_instance t e = subst (λ (b : Bool). ◌≡◌ {A = Bool} (elim b [ true ↦ is_reference t | false ↦ instance image t (class_type image x.info.class.0) ]) true) closed e
    where
      closed : is_interface_type image (class_type image x.info.class.0) ≡ false
      closed = ap (λ (o : Option ℕ). elim o as (λ z. Bool) [ None ↦ false | Some c ↦ is_interface image c ]) (acc.hierarchy.once x.info.class.0 in_image) ∙ concrete

  -- no class above String or Class declares it
  climbs : (k c : ℕ) → is_string_or_class (name_at image c) ≡ true → reaches image (suc k) x.info.class.0 c ≡ true → ⊥
  climbs k c s r = go (reach_is image k x.info.class.0 c r)
    where
      up : (p : ℕ) → has_number p (above image c) ≡ true → reaches image k x.info.class.0 p ≡ true → (parent_at image c ≡ Some p) ⊎ (has_number p (interfaces_of (slice_get image.classes c)) ≡ true) → ⊥
      up p i q (inl e) =
          let object = acc.boot.alone c p s e in
          let found : class_named image object_name ≡ Some p = subst (λ (y : List ℕ). class_named image y ≡ Some p) object (acc.hierarchy.once p (acc.hierarchy.inside c p i)) in
          no_object (ap (name_at image) (sym (object_reaches image acc.hierarchy k p x.info.class.0 found q)) ∙ object)
      up p i q (inr e) = by_interface (above_interface image acc.hierarchy k p x.info.class.0 (acc.hierarchy.superinterfaces c p e) q)
        where
          by_interface : (is_interface image x.info.class.0 ≡ true) ⊎ (name_at image x.info.class.0 ≡ object_name) → ⊥
          by_interface (inl w) = both_ways _ concrete w
          by_interface (inr w) = no_object w

      go : (c ≡ x.info.class.0) ⊎ ((p : ℕ) × (has_number p (above image c) ≡ true) × (reaches image k x.info.class.0 p ≡ true)) → ⊥
      go (inl e) = both_ways _ apart.1 (subst (λ (y : ℕ). is_string_or_class (name_at image y) ≡ true) e s)
      go (inr p) = up p.0 p.1 p.2 (above_is (parent_at image c) (interfaces_of (slice_get image.classes c)) p.0 p.1)

  -- nothing of a name that no class has, of Object's or of a boot class without cells
  named_under : (name : List ℕ) → instance image (of_class name) (class_type image x.info.class.0) ≡ true → (name ≡ name_at image x.info.class.0 → ⊥) → ((low : ℕ) → class_named image name ≡ Some low → implements image low x.info.class.0 ≡ true → ⊥) → ⊥
  unfolding instance
  named_under name e differ under = go (type_is image (implements image) (of_class name) (class_type image x.info.class.0) e)
    where
      tested : (a : AreUnder image (implements image) (base.Class name) (name_at image x.info.class.0)) → ⊥
      tested a =
          let same = same_base name a.name a.is_class in
          let high : a.high ≡ x.info.class.0 = same_Some a.high x.info.class.0 (sym a.has_high ∙ acc.hierarchy.once x.info.class.0 in_image) in
          under a.low (ap (class_named image) same ∙ a.has_low) (subst (λ (c : ℕ). implements image a.low c ≡ true) high a.tested)

      go : (of_class name ≡ class_type image x.info.class.0) ⊎ IsUnder image (implements image) (of_class name) (class_type image x.info.class.0) → ⊥
      go (inl q) = differ (of_one_name name (name_at image x.info.class.0) q)
      go (inr u) = flat (flat_under image (implements image) u.more (base.Class name) u.name (omega (arith, u.dims)) u.tested)
        where
          own : u.name ≡ name_at image x.info.class.0
          own = sym (same_base (name_at image x.info.class.0) u.name u.is_class)

          flat : (u.name ≡ object_name) ⊎ AreUnder image (implements image) (base.Class name) u.name → ⊥
          flat (inl q) = no_object (sym own ∙ q)
          flat (inr a) = tested (subst (λ (y : List ℕ). AreUnder image (implements image) (base.Class name) y) own a)

  -- no object of String or of Class
  no_boot : (name : List ℕ) → is_string_or_class name ≡ true → instance image (of_class name) (class_type image x.info.class.0) ≡ true → ⊥
  no_boot name s e = named_under name e (λ q. both_ways _ apart.1 (subst (λ (y : List ℕ). is_string_or_class y ≡ true) q s)) (λ low f r. climbs (length image.classes) low (subst (λ (y : List ℕ). is_string_or_class y ≡ true) (sym (named_is image name low f)) s) r)

  -- no object of a class that is not there
  no_nameless : instance image (of_class []) (class_type image x.info.class.0) ≡ true → ⊥
  no_nameless e = named_under [] e (λ q. acc.hierarchy.named x.info.class.0 in_image (sym q)) (λ low f r. acc.hierarchy.named low (named_inside image [] low f) (named_is image [] low f))

  no_array : (t : Ty) → is_array t ≡ true → instance image t (class_type image x.info.class.0) ≡ true → ⊥
  unfolding instance
  no_array t a e = go (type_is image (implements image) t (class_type image x.info.class.0) e)
    where
      flat : (k : ℕ) (name : List ℕ) → t.dims ≡ k + 0 → base.Class (name_at image x.info.class.0) ≡ base.Class name → under_class image (implements image) k t.base name ≡ true → ⊥
      flat zero name d c u = let l = ltb-true 0 t.dims a in absurd (omega (arith, d, l))
      flat (suc k) name d c u = both_ways _ apart.0 (subst (λ (y : List ℕ). bytes_eq y object_name ≡ true) (sym (same_base (name_at image x.info.class.0) name c)) u)

      go : (t ≡ class_type image x.info.class.0) ⊎ IsUnder image (implements image) t (class_type image x.info.class.0) → ⊥
      go (inl q) = no (subst (λ (y : Ty). is_array y ≡ true) q a)
      go (inr u) = flat u.more u.name u.dims u.is_class u.tested

  -- so the object is of a class that is there, under the one that declares the field
  pub record HasField (k : Kind) : Type 0 where
    pub class : ℕ
    pub is_object : k ≡ kind.Object (record { 0 = class })
    pub inside : class < length image.classes
    pub under : instance image (class_type image class) (class_type image x.info.class.0) ≡ true

  pub class_field : (c : ℕ) → instance image (class_type image c) (class_type image x.info.class.0) ≡ true → HasField (kind.Object (record { 0 = c }))
  class_field c e = go (cases_lt c (length image.classes))
    where
      go : (c < length image.classes) ⊎ (length image.classes ≤ c) → HasField (kind.Object (record { 0 = c }))
      go (inl l) = record { class = c; is_object = refl; inside = l; under = e }
      go (inr g) = absurd (no_nameless (subst (λ (y : List ℕ). instance image (of_class y) (class_type image x.info.class.0) ≡ true) (ap declared_name (slice_get_past image.classes c g)) e))

  pub object_field : (k : Kind) → is_proper image k ≡ true → fits image (kind_type image k) (class_type image x.info.class.0) ≡ true → HasField k
  object_field (kind.Object c) p e = class_field c.0 (fits_instance _ e)
  object_field (kind.Array t) p e = absurd (no_array t p (fits_instance _ e))
  object_field (kind.Str s) p e = absurd (no_boot string_name refl (fits_instance _ e))
  object_field (kind.ClassOf t) p e = absurd (no_boot class_name refl (fits_instance _ e))

  -- its cells are of the field's type
  pub field_place : (k : Kind) (h : HasField k) (j : ℕ) → j < words_of x.def.ty → type_at (class_cells image h.class) (x.info.slot + j) ≡ type_at (reg_types x.def.ty) j
  field_place k h j l = acc.slots.at h.class n x has placed concrete h.inside h.under j l
