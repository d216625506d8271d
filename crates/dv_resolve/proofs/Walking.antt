-- The class in which a look-up begins, and what it finds along its order.
use Rattle.std.specs.Prelude.{ℕ, suc, ◌≡◌, ◌<◌, ◌≤◌, ◌+◌, Bool, true, false, List, [], ◌∷◌, length, drop, get_or, Option, Some, None, option_and_then, bytes_eq}
use Rattle.std.specs.Option.{option_or}
use Rattle.std.proofs.Common.{refl, ap, sym, ◌∙◌, arith, add-one}
use Rattle.std.proofs.Math.Seq.{drop-cons}
use Rattle.std.proofs.lemmas.List.{drop_all}
use Rattle.dv_defs.specs.declared.image.ClassInfo.{ClassInfo}
use Rattle.dv_defs.specs.declared.names.ClassId.{ClassId}
use Rattle.dv_defs.specs.declared.names.FieldRef.{FieldRef}
use Rattle.dv_defs.specs.declared.names.MethodRef.{MethodRef}
use Rattle.dv_defs.specs.declared.names.Proto.{Proto}
use Rattle.dv_defs.specs.declared.names.Ty.{Ty}
use Rattle.dv_defs.specs.First.{first_in}
use Rattle.dv_defs.specs.Images.{Image}
use Rattle.dv_defs.specs.LookUp.{class_referred, field_found, field_named, is_method_of, method_classes, method_found, method_named}
use Rattle.dv_defs.specs.Names.{object_name}
use Rattle.dv_defs.specs.Pools.{Method, class_named, class_number, declared_by, find_from, first_of_classes}
use Rattle.dv_defs.specs.Types.{class_in, is_array}
use Rattle.dv_resolve.specs.Members.{declares}

-- ---- the class of a name

pub named_from : (image : Image) (cs : List ClassInfo) (name : List ℕ) → image.classes ≡ cs → find_from cs 0 name ≡ class_named image name
unfolding class_named
named_from image cs name same = ap (λ (xs : List ClassInfo). find_from xs 0 name) (sym same)

named_cut : (cs : List ClassInfo) (i : ℕ) (c : ClassInfo) (name : List ℕ) (b : Bool) → i < length cs → c ≡ get_or cs i c → bytes_eq c.def.name name ≡ b
    → find_from (drop i cs) i name ≡ elim b as (λ _. Option ℕ) [ true ↦ Some i | false ↦ find_from (drop (i + 1) cs) (i + 1) name ]
named_cut cs i c name b within is same =
    let rest : find_from (drop (suc i) cs) (suc i) name ≡ find_from (drop (i + 1) cs) (i + 1) name = rw add-one refl in
    rw (drop-cons cs i c within, ← is)
    ((λ j. elim (same j) as (λ _. Option ℕ) [ true ↦ Some i | false ↦ rest j ]))

pub named_here : (cs : List ClassInfo) (i : ℕ) (c : ClassInfo) (name : List ℕ) (aim : Option ℕ) → i < length cs → c ≡ get_or cs i c → bytes_eq c.def.name name ≡ true → find_from (drop i cs) i name ≡ aim → Some i ≡ aim
named_here cs i c name aim within is same before = sym (named_cut cs i c name true within is same) ∙ before

pub named_later : (cs : List ClassInfo) (i : ℕ) (c : ClassInfo) (name : List ℕ) (aim : Option ℕ) → i < length cs → c ≡ get_or cs i c → bytes_eq c.def.name name ≡ false → find_from (drop i cs) i name ≡ aim → find_from (drop (i + 1) cs) (i + 1) name ≡ aim
named_later cs i c name aim within is other before = sym (named_cut cs i c name false within is other) ∙ before

pub named_nowhere : (cs : List ClassInfo) (i : ℕ) (name : List ℕ) (aim : Option ℕ) → length cs ≤ i → find_from (drop i cs) i name ≡ aim → None ≡ aim
named_nowhere cs i name aim all before = sym (ap (λ (xs : List ClassInfo). find_from xs i name) (drop_all i cs all)) ∙ before

found_in : (cs : List ClassInfo) (k : ℕ) (name : List ℕ) (c : ℕ) → find_from cs k name ≡ Some c → c < k + length cs
found_in [] k name c found = absurd (cc)
found_in (d ∷ cs) k name c found = by (bytes_eq d.def.name name) found (found_in cs (suc k) name c)
  where
    by : (b : Bool) → (elim b as (λ _. Option ℕ) [ true ↦ Some k | false ↦ find_from cs (suc k) name ]) ≡ Some c → (find_from cs (suc k) name ≡ Some c → c < suc k + length cs) → c < k + suc (length cs)
    by true here rest = let same : k ≡ c = cc in omega arith
    by false later rest = let within : c < suc k + length cs = rest later in omega arith

named_in : (image : Image) (name : List ℕ) (c : ℕ) → class_named image name ≡ Some c → c < length image.classes
unfolding class_named
named_in image name c found = let within : c < 0 + length image.classes = found_in image.classes 0 name c found in omega arith

-- it is a class of the image
pub referred_in : (image : Image) (t : Ty) (c : ℕ) → class_referred image t ≡ Some c → c < length image.classes
referred_in image t c = by (is_array t) (class_in t.base)
  where
    by : (b : Bool) (o : Option (List ℕ)) → (elim b as (λ _. Option ℕ) [ true ↦ class_named image object_name | false ↦ option_and_then (class_named image) o ]) ≡ Some c → c < length image.classes
    by true o found = named_in image object_name c found
    by false (Some name) found = named_in image name c found
    by false None found = absurd (cc)

-- ---- searches among lists of classes

first_is : (image : Image) (cs : List ℕ) (good : Method → Bool) → first_of_classes image cs good ≡ first_in (declares image good) cs
first_is image [] good = refl
first_is image (c ∷ cs) good = by (declared_by image c good) (first_is image cs good)
  where
    by : (o : Option Method) → first_of_classes image cs good ≡ first_in (declares image good) cs → (elim o as (λ _. Option Method) [ Some m ↦ Some m | None ↦ first_of_classes image cs good ]) ≡ option_or o (first_in (declares image good) cs)
    by None rest = rest
    by (Some m) rest = refl

-- ---- a method by a reference

-- what a search along the order of a class's look-up finds
pub method_in_order : (image : Image) (c : ℕ) (name : List ℕ) (proto : Proto) → first_in (declares image (is_method_of name proto)) (method_classes image c) ≡ method_found image c name proto
unfolding method_found
method_in_order image c name proto = sym (first_is image (method_classes image c) (is_method_of name proto))

within_named : (image : Image) (t : Ty) (at : Option ClassId) (class : ClassId) → class_number at ≡ class_referred image t → at ≡ Some class → class_referred image t ≡ Some class.0
within_named image t at class refers is = sym refers ∙ ap class_number is

pub class_within : (image : Image) (t : Ty) (at : Option ClassId) (class : ClassId) → class_number at ≡ class_referred image t → at ≡ Some class → class.0 < length image.classes
class_within image t at class refers is = referred_in image t class.0 (within_named image t at class refers is)

pub method_by_class : (image : Image) (r : MethodRef) (at : Option ClassId) (class : ClassId) → class_number at ≡ class_referred image r.class → at ≡ Some class → method_found image class.0 r.name r.proto ≡ method_named image r
method_by_class image r at class refers is = ap (option_and_then (λ c. method_found image c r.name r.proto)) (sym (within_named image r.class at class refers is))

-- ---- a field by a reference

pub field_by_class : (image : Image) (r : FieldRef) (at : Option ClassId) (class : ClassId) → class_number at ≡ class_referred image r.class → at ≡ Some class → field_found image class.0 r.name r.ty ≡ field_named image r
field_by_class image r at class refers is = ap (option_and_then (λ c. field_found image c r.name r.ty)) (sym (within_named image r.class at class refers is))
