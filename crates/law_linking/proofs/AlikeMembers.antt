-- What an image says of its methods and fields it says without slots, tables and resolved pools.
use Rattle.std.specs.Prelude.{ℕ, suc, ◌≡◌, Bool, true, false, ◌&&◌, List, [], ◌∷◌, map, Option, Some, None, Result, Ok, Err, slice_get, nat_eq, option_map, option_and_then}
use Rattle.std.specs.Option.{option_or}
use Rattle.std.proofs.Common.{refl, ap, ◌∙◌}
use Rattle.std.proofs.lemmas.Option.{slice_get-map}
use Rattle.dv_defs.specs.declared.names.Ty.{Ty}
use Rattle.dv_defs.specs.declared.names.Proto.{Proto}
use Rattle.dv_defs.specs.declared.names.FieldRef.{FieldRef}
use Rattle.dv_defs.specs.declared.names.MethodRef.{MethodRef}
use Rattle.dv_defs.specs.declared.class.MethodDef.{MethodDef}
use Rattle.dv_defs.specs.declared.class.FieldDef.{FieldDef}
use Rattle.dv_defs.specs.declared.image.MethodInfo.{MethodInfo}
use Rattle.dv_defs.specs.declared.image.FieldInfo.{FieldInfo}
use Rattle.dv_defs.specs.declared.faults.LinkKind.TheVariants as kind
use Rattle.dv_defs.specs.Images.{Image}
use Rattle.dv_defs.specs.First.{first_in}
use Rattle.dv_defs.specs.Names.{object_name}
use Rattle.dv_defs.specs.Types.{is_array, class_in}
use Rattle.dv_defs.specs.LinkFaults.{Found, found}
use Rattle.dv_defs.specs.Pools.{Method, Field, class_named, methods_of, fields_of, with_def, with_info, method_at, with_field, with_field_info, field_at, pick, declared_by, first_of_classes, is_virtual_of, nearest, supers, is_initialiser, initialiser, no_arguments}
use Rattle.dv_defs.specs.LookUp.{pick_field, is_field_of, field_declared, field_classes, field_found, is_method_of, method_classes, method_found, class_referred, field_named, method_named}
use Rattle.dv_defs.specs.Linked.{is_main_with, with_arguments, main_of, main_found}
use Rattle.law_linking.specs.Stripped.{method_info_stripped, field_info_stripped, stripped, method_stripped, field_stripped}
use Rattle.law_linking.proofs.Alike.{stripped_methods_of, stripped_fields_of, stripped_class_named, stripped_supers, stripped_method_classes, stripped_field_classes}

-- ---- methods by number

def_kept : (id : ℕ) (info : MethodInfo) (o : Option MethodDef) → with_def id (method_info_stripped info) o ≡ option_map method_stripped (with_def id info o)
def_kept id info None = refl
def_kept id info (Some def) = refl

pub stripped_with_info : (image : Image) (id : ℕ) (o : Option MethodInfo) → with_info (stripped image) id (option_map method_info_stripped o) ≡ option_map method_stripped (with_info image id o)
stripped_with_info image id None = refl
stripped_with_info image id (Some info) =
    ap (λ ms. with_def id (method_info_stripped info) (slice_get ms info.place)) (stripped_methods_of image info.class.0) ∙
    def_kept id info (slice_get (methods_of (slice_get image.classes info.class.0)) info.place)

pub stripped_method_at : (image : Image) (id : ℕ) → method_at (stripped image) id ≡ option_map method_stripped (method_at image id)
unfolding method_at
stripped_method_at image id =
    ap (with_info (stripped image) id) (slice_get-map method_info_stripped image.methods id) ∙
    stripped_with_info image id (slice_get image.methods id)

-- ---- the first method that a test picks

-- a test that slots, tables and pools don't change
abbrev pub KeepsMethods : (Method → Bool) → Type 0
KeepsMethods good = (m : Method) → good (method_stripped m) ≡ good m

abbrev method_or : (Method → Bool) → Option Method → Option Method → Option Method
method_or good rest o = elim o [ None ↦ rest | Some m ↦ elim (good m) [ true ↦ Some m | false ↦ rest ] ]

method_chosen : (b : Bool) (m : Method) (rest kept : Option Method) → rest ≡ option_map method_stripped kept
    → elim b [ true ↦ Some (method_stripped m) | false ↦ rest ] ≡ option_map method_stripped (elim b [ true ↦ Some m | false ↦ kept ])
method_chosen true m rest kept same = refl
method_chosen false m rest kept same = same

method_or_kept : (good : Method → Bool) → KeepsMethods good → (o rest kept : Option Method) → rest ≡ option_map method_stripped kept
    → method_or good rest (option_map method_stripped o) ≡ option_map method_stripped (method_or good kept o)
method_or_kept good keeps None rest kept same = same
method_or_kept good keeps (Some m) rest kept same =
    ap (λ b. elim b [ true ↦ Some (method_stripped m) | false ↦ rest ]) (keeps m) ∙ method_chosen (good m) m rest kept same

pub stripped_pick : (image : Image) (good : Method → Bool) → KeepsMethods good → (is : List MethodInfo) (id : ℕ) → pick (stripped image) (map method_info_stripped is) id good ≡ option_map method_stripped (pick image is id good)
stripped_pick image good keeps [] id = refl
stripped_pick image good keeps (i ∷ is) id =
    ap (method_or good (pick (stripped image) (map method_info_stripped is) (suc id) good)) (stripped_with_info image id (Some i)) ∙
    method_or_kept good keeps (with_info image id (Some i)) (pick (stripped image) (map method_info_stripped is) (suc id) good) (pick image is (suc id) good)
    (stripped_pick image good keeps is (suc id))

pub stripped_declared_by : (image : Image) (c : ℕ) (good : Method → Bool) → KeepsMethods good → declared_by (stripped image) c good ≡ option_map method_stripped (declared_by image c good)
stripped_declared_by image c good keeps =
    stripped_pick image (λ m. nat_eq m.info.class.0 c && good m) (λ m. ap (λ b. nat_eq m.info.class.0 c && b) (keeps m)) image.methods 0

abbrev method_else : Option Method → Option Method → Option Method
method_else rest o = elim o [ Some m ↦ Some m | None ↦ rest ]

method_else_kept : (o rest kept : Option Method) → rest ≡ option_map method_stripped kept
    → method_else rest (option_map method_stripped o) ≡ option_map method_stripped (method_else kept o)
method_else_kept None rest kept same = same
method_else_kept (Some m) rest kept same = refl

pub stripped_first_of_classes : (image : Image) (good : Method → Bool) → KeepsMethods good → (cs : List ℕ) → first_of_classes (stripped image) cs good ≡ option_map method_stripped (first_of_classes image cs good)
stripped_first_of_classes image good keeps [] = refl
stripped_first_of_classes image good keeps (c ∷ cs) =
    ap (method_else (first_of_classes (stripped image) cs good)) (stripped_declared_by image c good keeps) ∙
    method_else_kept (declared_by image c good) (first_of_classes (stripped image) cs good) (first_of_classes image cs good)
    (stripped_first_of_classes image good keeps cs)

pub stripped_nearest : (image : Image) (c : ℕ) (name : List ℕ) (p : Proto) → nearest (stripped image) c name p ≡ option_map method_stripped (nearest image c name p)
unfolding nearest
stripped_nearest image c name p =
    ap (λ cs. first_of_classes (stripped image) cs (is_virtual_of name p)) (stripped_supers image c) ∙
    stripped_first_of_classes image (is_virtual_of name p) (λ m. refl) (supers image c)

pub stripped_method_found : (image : Image) (c : ℕ) (name : List ℕ) (p : Proto) → method_found (stripped image) c name p ≡ option_map method_stripped (method_found image c name p)
unfolding method_found
stripped_method_found image c name p =
    ap (λ cs. first_of_classes (stripped image) cs (is_method_of name p)) (stripped_method_classes image c) ∙
    stripped_first_of_classes image (is_method_of name p) (λ m. refl) (method_classes image c)

pub stripped_initialiser : (image : Image) (c : ℕ) → initialiser (stripped image) c ≡ option_map method_stripped (initialiser image c)
unfolding initialiser
stripped_initialiser image c = stripped_declared_by image c is_initialiser (λ m. refl)

-- ---- fields

field_def_kept : (id : ℕ) (info : FieldInfo) (o : Option FieldDef) → with_field id (field_info_stripped info) o ≡ option_map field_stripped (with_field id info o)
field_def_kept id info None = refl
field_def_kept id info (Some def) = refl

pub stripped_with_field_info : (image : Image) (id : ℕ) (o : Option FieldInfo) → with_field_info (stripped image) id (option_map field_info_stripped o) ≡ option_map field_stripped (with_field_info image id o)
stripped_with_field_info image id None = refl
stripped_with_field_info image id (Some info) =
    ap (λ fs. with_field id (field_info_stripped info) (slice_get fs info.place)) (stripped_fields_of image info.class.0) ∙
    field_def_kept id info (slice_get (fields_of (slice_get image.classes info.class.0)) info.place)

pub stripped_field_at : (image : Image) (id : ℕ) → field_at (stripped image) id ≡ option_map field_stripped (field_at image id)
unfolding field_at
stripped_field_at image id =
    ap (with_field_info (stripped image) id) (slice_get-map field_info_stripped image.fields id) ∙
    stripped_with_field_info image id (slice_get image.fields id)

abbrev pub KeepsFields : (Field → Bool) → Type 0
KeepsFields good = (f : Field) → good (field_stripped f) ≡ good f

abbrev field_or : (Field → Bool) → Option Field → Option Field → Option Field
field_or good rest o = elim o [ None ↦ rest | Some f ↦ elim (good f) [ true ↦ Some f | false ↦ rest ] ]

field_chosen : (b : Bool) (f : Field) (rest kept : Option Field) → rest ≡ option_map field_stripped kept
    → elim b [ true ↦ Some (field_stripped f) | false ↦ rest ] ≡ option_map field_stripped (elim b [ true ↦ Some f | false ↦ kept ])
field_chosen true f rest kept same = refl
field_chosen false f rest kept same = same

field_or_kept : (good : Field → Bool) → KeepsFields good → (o rest kept : Option Field) → rest ≡ option_map field_stripped kept
    → field_or good rest (option_map field_stripped o) ≡ option_map field_stripped (field_or good kept o)
field_or_kept good keeps None rest kept same = same
field_or_kept good keeps (Some f) rest kept same =
    ap (λ b. elim b [ true ↦ Some (field_stripped f) | false ↦ rest ]) (keeps f) ∙ field_chosen (good f) f rest kept same

pub stripped_pick_field : (image : Image) (good : Field → Bool) → KeepsFields good → (is : List FieldInfo) (id : ℕ) → pick_field (stripped image) (map field_info_stripped is) id good ≡ option_map field_stripped (pick_field image is id good)
stripped_pick_field image good keeps [] id = refl
stripped_pick_field image good keeps (i ∷ is) id =
    ap (field_or good (pick_field (stripped image) (map field_info_stripped is) (suc id) good)) (stripped_with_field_info image id (Some i)) ∙
    field_or_kept good keeps (with_field_info image id (Some i)) (pick_field (stripped image) (map field_info_stripped is) (suc id) good) (pick_field image is (suc id) good)
    (stripped_pick_field image good keeps is (suc id))

pub stripped_field_declared : (image : Image) (name : List ℕ) (t : Ty) (c : ℕ) → field_declared (stripped image) name t c ≡ option_map field_stripped (field_declared image name t c)
stripped_field_declared image name t c =
    stripped_pick_field image (λ f. nat_eq f.info.class.0 c && is_field_of name t f) (λ f. refl) image.fields 0

or_kept : {X Y : Type 0} (f : X → Y) (o p : Option X) → option_or (option_map f o) (option_map f p) ≡ option_map f (option_or o p)
or_kept f None p = refl
or_kept f (Some x) p = refl

first_in_kept : {X Y Z : Type 0} (f : Y → Z) (g : X → Option Z) (h : X → Option Y) → ((x : X) → g x ≡ option_map f (h x)) → (xs : List X) → first_in g xs ≡ option_map f (first_in h xs)
first_in_kept f g h same [] = refl
first_in_kept f g h same (x ∷ xs) =
    ap (λ o. option_or o (first_in g xs)) (same x) ∙
    ap (option_or (option_map f (h x))) (first_in_kept f g h same xs) ∙
    or_kept f (h x) (first_in h xs)

pub stripped_field_found : (image : Image) (c : ℕ) (name : List ℕ) (t : Ty) → field_found (stripped image) c name t ≡ option_map field_stripped (field_found image c name t)
unfolding field_found
stripped_field_found image c name t =
    ap (first_in (field_declared (stripped image) name t)) (stripped_field_classes image c) ∙
    first_in_kept field_stripped (field_declared (stripped image) name t) (field_declared image name t) (stripped_field_declared image name t) (field_classes image c)

-- ---- references

abbrev referred_by : (List ℕ → Option ℕ) → Ty → Option ℕ
referred_by named t = elim (is_array t) [ true ↦ named object_name | false ↦ option_and_then named (class_in t.base) ]

pub stripped_class_referred : (image : Image) (t : Ty) → class_referred (stripped image) t ≡ class_referred image t
stripped_class_referred image t = ap (λ named. referred_by named t) (λ j name. stripped_class_named image name j)

then_kept : {X Y : Type 0} (f : X → Y) (g : ℕ → Option Y) (h : ℕ → Option X) → ((c : ℕ) → g c ≡ option_map f (h c)) → (o : Option ℕ) → option_and_then g o ≡ option_map f (option_and_then h o)
then_kept f g h same None = refl
then_kept f g h same (Some c) = same c

pub stripped_field_named : (image : Image) (r : FieldRef) → field_named (stripped image) r ≡ option_map field_stripped (field_named image r)
stripped_field_named image r =
    ap (option_and_then (λ c. field_found (stripped image) c r.name r.ty)) (stripped_class_referred image r.class) ∙
    then_kept field_stripped (λ c. field_found (stripped image) c r.name r.ty) (λ c. field_found image c r.name r.ty) (λ c. stripped_field_found image c r.name r.ty) (class_referred image r.class)

pub stripped_method_named : (image : Image) (r : MethodRef) → method_named (stripped image) r ≡ option_map method_stripped (method_named image r)
stripped_method_named image r =
    ap (option_and_then (λ c. method_found (stripped image) c r.name r.proto)) (stripped_class_referred image r.class) ∙
    then_kept method_stripped (λ c. method_found (stripped image) c r.name r.proto) (λ c. method_found image c r.name r.proto) (λ c. stripped_method_found image c r.name r.proto) (class_referred image r.class)

-- ---- the main method

pub stripped_main_of : (image : Image) (c : ℕ) → main_of (stripped image) c ≡ option_map method_stripped (main_of image c)
stripped_main_of image c =
    ap (λ o. option_or o (declared_by (stripped image) c (is_main_with no_arguments))) (stripped_declared_by image c (is_main_with with_arguments) (λ m. refl)) ∙
    ap (option_or (option_map method_stripped (declared_by image c (is_main_with with_arguments)))) (stripped_declared_by image c (is_main_with no_arguments) (λ m. refl)) ∙
    or_kept method_stripped (declared_by image c (is_main_with with_arguments)) (declared_by image c (is_main_with no_arguments))

abbrev pub found_stripped : Result Method Found → Result Method Found
found_stripped (Ok m) = Ok (method_stripped m)
found_stripped (Err fault) = Err fault

abbrev main_or : List ℕ → Option Method → Result Method Found
main_or name o = elim o [ None ↦ Err (found name kind.NoMain) | Some m ↦ Ok m ]

abbrev main_in : (ℕ → Option Method) → List ℕ → Option ℕ → Result Method Found
main_in main name c = elim c [ None ↦ Err (found name (kind.NoClass name)) | Some d ↦ main_or name (main d) ]

main_or_kept : (name : List ℕ) (o : Option Method) → main_or name (option_map method_stripped o) ≡ found_stripped (main_or name o)
main_or_kept name None = refl
main_or_kept name (Some m) = refl

main_in_kept : (image : Image) (name : List ℕ) (c : Option ℕ) → main_in (main_of (stripped image)) name c ≡ found_stripped (main_in (main_of image) name c)
main_in_kept image name None = refl
main_in_kept image name (Some c) = ap (main_or name) (stripped_main_of image c) ∙ main_or_kept name (main_of image c)

pub stripped_main_found : (image : Image) (name : List ℕ) → main_found (stripped image) name ≡ found_stripped (main_found image name)
unfolding main_found
stripped_main_found image name =
    ap (main_in (main_of (stripped image)) name) (stripped_class_named image name) ∙ main_in_kept image name (class_named image name)
