-- The classes of a linked image are a hierarchy.
use Rattle.std.specs.Prelude.{ℕ, zero, suc, ◌≡◌, ◌≢◌, ◌<◌, true, List, [], ◌∷◌, length, get_or, Some, slice_get, bytes_eq, option_map}
use Rattle.std.proofs.Common.{refl, sym, ap, ◌∙◌, arith}
use Rattle.std.proofs.lemmas.Slice.Eq.{bytes_eq-Decides}
use Rattle.std.proofs.lemmas.Option.{slice_get-map}
use Rattle.std.proofs.lemmas.List.Quantifiers.{position-Some}
use Rattle.dv_defs.specs.declared.class.ClassDef.{ClassDef}
use Rattle.dv_defs.specs.declared.image.ClassInfo.{ClassInfo}
use Rattle.dv_defs.specs.Images.{Image}
use Rattle.dv_defs.specs.Names.{object_name}
use Rattle.dv_defs.specs.Pools.{class_named, declared_name, name_at, parent_at, is_interface}
use Rattle.dv_defs.specs.Numbering.{declared, numbered, names_of}
use Rattle.dv_defs.specs.Linked.{IsImage, defs}
use Rattle.law_types.specs.Hierarchy.{IsHierarchy}
use Rattle.law_linking.specs.Ordered.{IsOrdered}
use Rattle.law_linking.proofs.Names.{named_is_position}
use Rattle.law_linking.proofs.Reach.{above_in}
use Rattle.law_linking.proofs.ReachPlaces.{place, place_bounded, place_rises}
use Rattle.law_linking.proofs.FromFaults.{no_first_fault, named_same, named_at}
use Rattle.law_linking.proofs.AlikeImages.{alike_class_named}
use Rattle.law_linking.proofs.OrderedImages.{image_ordered, image_phases, image_alike}
use Rattle.law_flow.specs.Laws.{LinkedClassesAreHierarchies}
use Rattle.law_flow.proofs.Each.{all_at}

info_at : (cs : List ClassInfo) (c : ℕ) → c < length cs → (info : ClassInfo) × (slice_get cs c ≡ Some info)
info_at [] c within = absurd (omega arith)
info_at (info ∷ cs) zero within = (info, refl)
info_at (info ∷ cs) (suc c) within = info_at cs c (omega arith)

def_at : (cs : List ClassInfo) (c : ℕ) (info : ClassInfo) → slice_get cs c ≡ Some info → slice_get (defs cs) c ≡ Some info.def
def_at cs c info at =
    slice_get-map (λ (i : ClassInfo). i.def) cs c ∙ ap (option_map (λ (i : ClassInfo). i.def)) at

name_or : (cs : List ClassInfo) (c : ℕ) → get_or (names_of cs) c [] ≡ declared_name (slice_get cs c)
name_or [] c = refl
name_or (info ∷ cs) zero = refl
name_or (info ∷ cs) (suc c) = name_or cs c

-- the class of a name has that name
has_name : (image : Image) (name : List ℕ) (c : ℕ) → class_named image name ≡ Some c → name_at image c ≡ name
has_name image name c named =
    let found = position-Some (bytes_eq name) (names_of image.classes) c [] (sym (named_is_position image name) ∙ named) in
    sym ((bytes_eq-Decides name (get_or (names_of image.classes) c [])).0 found.1 ∙ name_or image.classes c)

module _ (image : Image) (is : IsImage image) where
  abbrev own : Image
  own = numbered (defs image.classes) image.boot

  named_declared : (name : List ℕ) → class_named image name ≡ class_named (declared (defs image.classes) image.boot) name
  named_declared name =
      alike_class_named image own (image_alike image is) name ∙ named_same (defs image.classes) image.boot name

  told_once : (c : ℕ) → c < length image.classes → class_named image (name_at image c) ≡ Some c
  told_once c within =
      let there = info_at image.classes c within in
      let no = no_first_fault (defs image.classes) image.boot (image_phases image is).0 in
      ap (λ o. class_named image (declared_name o)) there.1 ∙
      (named_declared there.0.def.name ∙
      named_at (defs image.classes) image.boot no.twice c there.0.def (def_at image.classes c there.0 there.1))

  has_a_name : (c : ℕ) → c < length image.classes → name_at image c ≢ []
  has_a_name c within nameless =
      let there = info_at image.classes c within in
      all_at (λ (def : ClassDef). def.name ≢ []) (defs image.classes) c there.0.def (def_at image.classes c there.0 there.1) is.named
      (sym (ap declared_name there.1) ∙ nameless)

  object_is : (o : IsOrdered image) → name_at image o.object ≡ object_name
  object_is o = has_name image object_name o.object o.object_named

  over_interface : (o : IsOrdered image) (c p : ℕ) → is_interface image c ≡ true → parent_at image c ≡ Some p → name_at image p ≡ object_name
  over_interface o c p interface parent =
      let known : parent_at image c ≡ Some o.object = o.of_interfaces c interface in
      let same : p ≡ o.object = cc in
      ap (name_at image) same ∙ object_is o

  hierarchy_by : IsOrdered image → IsHierarchy image
  hierarchy_by o =
      record {
        place = place image;
        bounded = place_bounded image o.acyclic;
        inside = above_in image o.range;
        rises = place_rises image o.range o.acyclic;
        once = told_once;
        named = has_a_name;
        root = λ c within none. ap (name_at image) (o.parents c within none) ∙ object_is o;
        interfaces = over_interface o;
        superinterfaces = o.interfaces;
      }

pub image_hierarchy : (image : Image) → IsImage image → IsHierarchy image
image_hierarchy image is = hierarchy_by image is (image_ordered image is)

-- and Object is there
pub linked_classes_are_hierarchies : LinkedClassesAreHierarchies
linked_classes_are_hierarchies image is =
    let ordered = image_ordered image is in
    (hierarchy_by image is ordered, (ordered.object, ordered.object_named))
