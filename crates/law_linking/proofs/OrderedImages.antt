-- What an image that linking gives keeps of its phases: they found nothing, and its classes are in order.
use Rattle.std.specs.Prelude.{ℕ, ◌≡◌, ◌<◌, Bool, List, [], ◌∷◌, length, map, Option, Some, None, Ok, All}
use Rattle.std.specs.Option.{option_or}
use Rattle.std.specs.List.{enumerate_from}
use Rattle.std.proofs.Common.{refl, sym, ap, subst, ◌∙◌}
use Rattle.std.proofs.lemmas.List.Elements.{All-nil, All-cons, All-head, All-tail}
use Rattle.dv_defs.specs.declared.class.ClassDef.{ClassDef}
use Rattle.dv_defs.specs.declared.image.ClassInfo.{ClassInfo}
use Rattle.dv_defs.specs.Images.{Image}
use Rattle.dv_defs.specs.Names.{object_name}
use Rattle.dv_defs.specs.Order.{has_number, above, any_of, implements}
use Rattle.dv_defs.specs.Numbering.{numbered}
use Rattle.dv_defs.specs.LinkFaults.{Found}
use Rattle.dv_defs.specs.Linked.{method_with_pools, field_with_slot, slotted, tabled, resolved, first_phases, method_phase, pool_phase, unless_found, linked, defs, IsImage}
use Rattle.law_linking.specs.Stripped.{class_stripped, IsInRange, AreInRange}
use Rattle.law_linking.specs.Ordered.{IsOrdered}
use Rattle.law_linking.proofs.First.{or_none}
use Rattle.law_linking.proofs.AlikeImages.{AreAlike, alike_back, alike_tabled, alike_linked, alike_length, alike_class_named, alike_parent_at, alike_fields_of, alike_interfaces, alike_is_interface, alike_above, alike_implements}
use Rattle.law_linking.proofs.AlikeFaults.{alike_with_pools}
use Rattle.law_linking.proofs.FromPhases.{phases_ordered}

-- ---- what linking gives where it gives an image

unless_ok : {Y : Type 0} (o : Option Found) (y z : Y) → unless_found o y ≡ Ok z → (o ≡ None) × (y ≡ z)
unless_ok None y z h = (refl, cc)
unless_ok (Some fault) y z h = absurd (cc)

-- no phase finds a fault
abbrev pub HasNoFault : List ClassDef → ℕ → Type 0
HasNoFault cs boot = (first_phases cs boot ≡ None) × (method_phase cs boot ≡ None) × (pool_phase cs boot ≡ None)

linked_ok : (cs : List ClassDef) (boot : ℕ) (image : Image) → linked cs boot ≡ Ok image → HasNoFault cs boot × (resolved (tabled (slotted (numbered cs boot))) ≡ image)
unfolding linked
linked_ok cs boot image e =
    let both = unless_ok (option_or (first_phases cs boot) (option_or (method_phase cs boot) (pool_phase cs boot))) (resolved (tabled (slotted (numbered cs boot)))) image e in
    let first = or_none (first_phases cs boot) (option_or (method_phase cs boot) (pool_phase cs boot)) both.0 in
    let rest = or_none (method_phase cs boot) (pool_phase cs boot) first.1 in
    ((first.0, rest.0, rest.1), both.1)

-- the numbered classes of an image's definitions
abbrev pub own_numbered : Image → Image
own_numbered image = numbered (defs image.classes) image.boot

pub image_phases : (image : Image) → IsImage image → (first_phases (defs image.classes) image.boot ≡ None) × (method_phase (defs image.classes) image.boot ≡ None) × (pool_phase (defs image.classes) image.boot ≡ None)
image_phases image is = (linked_ok (defs image.classes) image.boot image is.is_linked).0

-- the image is what linking makes of the numbered classes
pub image_is : (image : Image) → IsImage image → resolved (tabled (slotted (own_numbered image))) ≡ image
image_is image is = (linked_ok (defs image.classes) image.boot image is.is_linked).1

pub image_alike : (image : Image) → IsImage image → AreAlike image (own_numbered image)
image_alike image is =
    subst (λ made. AreAlike made (own_numbered image)) (image_is image is) (alike_linked (defs image.classes) image.boot)

-- ---- its members

methods_made : (base : Image) → (resolved (tabled (slotted base))).methods ≡ map (method_with_pools (tabled (slotted base))) base.methods
unfolding resolved tabled slotted
methods_made base = refl

fields_made : (base : Image) → (resolved (tabled (slotted base))).fields ≡ map (field_with_slot base) (enumerate_from 0 base.fields)
unfolding resolved tabled slotted
fields_made base = refl

-- the methods are the numbered ones with their pools
pub image_methods : (image : Image) → IsImage image → image.methods ≡ map (method_with_pools (own_numbered image)) (own_numbered image).methods
image_methods image is =
    sym (ap (λ (made : Image). made.methods) (image_is image is)) ∙ methods_made (own_numbered image) ∙
    (λ j. map (λ i. alike_with_pools (tabled (slotted (own_numbered image))) (own_numbered image) (alike_tabled (defs image.classes) image.boot) i j) (own_numbered image).methods)

-- and so they are with the pools that the image itself gives
pub image_methods_own : (image : Image) → IsImage image → image.methods ≡ map (method_with_pools image) (own_numbered image).methods
image_methods_own image is =
    image_methods image is ∙
    sym (λ j. map (λ i. alike_with_pools image (own_numbered image) (image_alike image is) i j) (own_numbered image).methods)

-- the fields are the numbered ones with their cells
pub image_fields : (image : Image) → IsImage image → image.fields ≡ map (field_with_slot (own_numbered image)) (enumerate_from 0 (own_numbered image).fields)
image_fields image is = sym (ap (λ (made : Image). made.fields) (image_is image is)) ∙ fields_made (own_numbered image)

-- ---- its classes are in order

in_range_of : (n : ℕ) (cs : List ClassInfo) → All (IsInRange n) (map class_stripped cs) → All (IsInRange n) cs
in_range_of n [] all = All-nil (IsInRange n)
in_range_of n (c ∷ cs) all =
    let here : IsInRange n (class_stripped c) = All-head (IsInRange n) (class_stripped c) (map class_stripped cs) all in
    All-cons (IsInRange n) c cs (record { parent = here.parent; interfaces = here.interfaces }) (in_range_of n cs (All-tail (IsInRange n) (class_stripped c) (map class_stripped cs) all))

stripped_in_range : (n : ℕ) (cs : List ClassInfo) → All (IsInRange n) cs → All (IsInRange n) (map class_stripped cs)
stripped_in_range n [] all = All-nil (IsInRange n)
stripped_in_range n (c ∷ cs) all =
    let here : IsInRange n c = All-head (IsInRange n) c cs all in
    All-cons (IsInRange n) (class_stripped c) (map class_stripped cs) (record { parent = here.parent; interfaces = here.interfaces }) (stripped_in_range n cs (All-tail (IsInRange n) c cs all))

pub range_alike : (a b : Image) → AreAlike a b → AreInRange a.classes → AreInRange b.classes
range_alike a b alike range =
    let kept : All (IsInRange (length a.classes)) (map class_stripped a.classes) = stripped_in_range (length a.classes) a.classes range in
    let moved : All (IsInRange (length a.classes)) (map class_stripped b.classes) =
    subst (λ (image : Image). All (IsInRange (length a.classes)) image.classes) alike kept in
    let counted : All (IsInRange (length b.classes)) (map class_stripped b.classes) =
    subst (λ n. All (IsInRange n) (map class_stripped b.classes)) (alike_length a b alike) moved in
    in_range_of (length b.classes) b.classes counted

any_alike : (p q : ℕ → Bool) → ((d : ℕ) → p d ≡ q d) → (cs : List ℕ) → any_of p cs ≡ any_of q cs
any_alike p q same cs = λ j. any_of (λ d. same d j) cs

pub ordered_alike : (a b : Image) → AreAlike a b → IsOrdered a → IsOrdered b
ordered_alike a b alike ordered =
    record {
      range = range_alike a b alike ordered.range;
      acyclic = λ c within.
          sym (any_alike (λ d. implements a d c) (λ d. implements b d c) (λ d. alike_implements a b alike d c) (above a c) ∙ ap (any_of (λ d. implements b d c)) (alike_above a b alike c)) ∙
          ordered.acyclic c (subst (λ n. c < n) (sym (alike_length a b alike)) within);
      object = ordered.object;
      object_named = sym (alike_class_named a b alike object_name) ∙ ordered.object_named;
      object_in = subst (λ n. ordered.object < n) (alike_length a b alike) ordered.object_in;
      object_parent = sym (alike_parent_at a b alike ordered.object) ∙ ordered.object_parent;
      object_interfaces = sym (alike_interfaces a b alike ordered.object) ∙ ordered.object_interfaces;
      object_fields = sym (alike_fields_of a b alike ordered.object) ∙ ordered.object_fields;
      parents = λ c within none. ordered.parents c (subst (λ n. c < n) (sym (alike_length a b alike)) within) (alike_parent_at a b alike c ∙ none);
      interfaces = λ c d has. sym (alike_is_interface a b alike d) ∙ ordered.interfaces c d (ap (has_number d) (alike_interfaces a b alike c) ∙ has);
      of_interfaces = λ d interface. sym (alike_parent_at a b alike d) ∙ ordered.of_interfaces d (alike_is_interface a b alike d ∙ interface);
    }

pub image_ordered : (image : Image) → IsImage image → IsOrdered image
image_ordered image is =
    ordered_alike (own_numbered image) image (alike_back image (own_numbered image) (image_alike image is))
    (phases_ordered (defs image.classes) image.boot (image_phases image is).0)
