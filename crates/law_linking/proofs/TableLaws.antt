-- The table of a class has what a look-up by name and prototype lands on.
use Rattle.std.specs.Prelude.{ℕ, zero, suc, ◌≡◌, ◌≤◌, ◌+◌, Bool, true, false, ◌&&◌, ◌||◌, not, List, [], ◌∷◌, length, map, filter, filter_map, find, sum_by, All, Option, Some, None, is_some, slice_get, nat_eq, bytes_eq}
use Rattle.std.specs.List.{list_any, cons_option, range_with_len, enumerate_from}
use Rattle.std.proofs.Common.{refl, ap, sym, subst, ◌∙◌, arith, cond}
use Rattle.std.proofs.lemmas.Bool.{and_parts, eqb-true}
use Rattle.std.proofs.lemmas.List.{length-map}
use Rattle.std.proofs.lemmas.List.Elements.{All-nil, All-cons, All-head, All-tail}
use Rattle.std.proofs.lemmas.List.Folds.{list_any-append}
use Rattle.std.proofs.lemmas.List.Sums.{sum_by-cons}
use Rattle.std.proofs.lemmas.Map.Views.{any-filter_same}
use Rattle.std.proofs.lemmas.Slice.Eq.{bytes_eq-Decides}
use Rattle.dv_defs.specs.declared.names.Base.{Base}
use Rattle.dv_defs.specs.declared.names.Base.TheVariants as base
use Rattle.dv_defs.specs.declared.names.Ty.{Ty}
use Rattle.dv_defs.specs.declared.names.Proto.{Proto}
use Rattle.dv_defs.specs.declared.class.ClassDef.{ClassDef}
use Rattle.dv_defs.specs.declared.class.MethodDef.{MethodDef}
use Rattle.dv_defs.specs.declared.image.ClassInfo.{ClassInfo}
use Rattle.dv_defs.specs.declared.image.MethodInfo.{MethodInfo}
use Rattle.dv_defs.specs.Images.{Image}
use Rattle.dv_defs.specs.Names.{init_name}
use Rattle.dv_defs.specs.Types.{base_eq, ty_eq, same_types, same_result, same_proto}
use Rattle.dv_defs.specs.Pools.{Method, method_at, methods_of, with_def, with_info, is_static, is_private, declared_by, is_virtual_of, first_of_classes, nearest, parent_of, walk, supers}
use Rattle.dv_defs.specs.Numbering.{class_numbered, declared, numbered}
use Rattle.dv_defs.specs.LookUp.{is_method_of}
use Rattle.dv_defs.specs.Order.{numbers}
use Rattle.dv_defs.specs.Prior.{prior_at}
use Rattle.dv_defs.specs.Selecting.{is_callable, all_methods, callable_of_class}
use Rattle.dv_defs.specs.Linked.{is_new, callable_along, table_at, priors_at, class_with_table, slotted, tabled, resolved, defs, IsImage}
use Rattle.law_linking.specs.Stripped.{method_info_stripped}
use Rattle.law_linking.proofs.Bounds.{few_methods}
use Rattle.law_linking.proofs.Members.{declared_by_is, numbered_methods, method_count}
use Rattle.law_linking.proofs.AlikeImages.{AreAlike, alike_by, alike_slotted}
use Rattle.law_linking.proofs.AlikeTables.{alike_table_at}
use Rattle.law_linking.proofs.AlikePriors.{alike_prior}
use Rattle.law_linking.proofs.ImageMembers.{image_passes}
use Rattle.law_linking.proofs.OrderedImages.{own_numbered, image_is, image_alike}

-- ---- prototypes that are the same are equal

base_is : (a b : Base) → base_eq a b ≡ true → a ≡ b
base_is base.Z base.Z e = refl
base_is base.B base.B e = refl
base_is base.C base.C e = refl
base_is base.S base.S e = refl
base_is base.I base.I e = refl
base_is base.J base.J e = refl
base_is (base.Class x) (base.Class y) e = ap base.Class ((bytes_eq-Decides x y).0 e)
base_is a b e = absurd (cc)

type_is : (a b : Ty) → ty_eq a b ≡ true → a ≡ b
type_is a b e =
    let parts = and_parts (nat_eq a.dims b.dims) (base_eq a.base b.base) e in
    let dims = eqb-true a.dims b.dims parts.0 in
    let bases = base_is a.base b.base parts.1 in
    λ j. record { dims = dims j; base = bases j }

types_are : (ts us : List Ty) → same_types ts us ≡ true → ts ≡ us
types_are [] [] e = refl
types_are (t ∷ ts) (u ∷ us) e =
    let parts = and_parts (ty_eq t u) (same_types ts us) e in
    λ j. type_is t u parts.0 j ∷ types_are ts us parts.1 j
types_are ts us e = absurd (cc)

result_is : (s t : Option Ty) → same_result s t ≡ true → s ≡ t
result_is None None e = refl
result_is (Some s) (Some t) e = ap Some (type_is s t e)
result_is s t e = absurd (cc)

pub proto_is : (p q : Proto) → same_proto p q ≡ true → p ≡ q
proto_is p q e =
    let parts = and_parts (same_types p.params q.params) (same_result p.ret q.ret) e in
    let params = types_are p.params q.params parts.0 in
    let ret = result_is p.ret q.ret parts.1 in
    λ j. record { params = params j; ret = ret j }

pub name_is : (xs ys : List ℕ) → bytes_eq xs ys ≡ true → xs ≡ ys
name_is xs ys e = (bytes_eq-Decides xs ys).0 e

-- ---- lists

pub find_any : {X : Type 0} (test : X → Bool) (xs : List X) → is_some (find test xs) ≡ list_any test xs
find_any test [] = refl
find_any {X} test (x ∷ xs) = here (test x) (find_any test xs)
  where
    here : (b : Bool) → is_some (find test xs) ≡ list_any test xs → is_some (cond b (Some x) (find test xs)) ≡ (b || list_any test xs)
    here true rest = refl
    here false rest = rest

any_filtered : {X : Type 0} (p q : X → Bool) (xs : List X) → list_any p (filter q xs) ≡ list_any (λ x. q x && p x) xs
any_filtered p q [] = refl
any_filtered {X} p q (x ∷ xs) = here (q x) (any_filtered p q xs)
  where
    here : (b : Bool) → list_any p (filter q xs) ≡ list_any (λ x. q x && p x) xs → list_any p (cond b (x ∷ filter q xs) (filter q xs)) ≡ ((b && p x) || list_any (λ x. q x && p x) xs)
    here true rest = ap (λ b. p x || b) rest
    here false rest = rest

-- what is found passes the test, and has what each item has
pub find_has : {X : Type 0} (P : X → Type 0) (test : X → Bool) (xs : List X) → All P xs → (x : X) → find test xs ≡ Some x → P x × (test x ≡ true)
find_has P test [] all x is = absurd (cc)
find_has {X} P test (y ∷ xs) all x is = here (test y) refl (find_has P test xs (All-tail P y xs all) x)
  where
    here : (b : Bool) → test y ≡ b → (find test xs ≡ Some x → P x × (test x ≡ true)) → P x × (test x ≡ true)
    here true e rest =
        let same : y ≡ x = (let found : cond (test y) (Some y) (find test xs) ≡ Some x = is in let first = rw e at found in cc) in
        (subst P same (All-head P y xs all), ap test (sym same) ∙ e)
    here false e rest = rest (let found : cond (test y) (Some y) (find test xs) ≡ Some x = is in rw e at found)

all_given : {X Y : Type 0} (P : Y → Type 0) (f : X → Option Y) → ((x : X) (y : Y) → f x ≡ Some y → P y) → (xs : List X) → All P (filter_map f xs)
all_given P f gives [] = All-nil P
all_given {X} {Y} P f gives (x ∷ xs) = here (f x) refl (all_given P f gives xs)
  where
    here : (o : Option Y) → f x ≡ o → All P (filter_map f xs) → All P (cons_option o (filter_map f xs))
    here None e rest = rest
    here (Some y) e rest = All-cons P y (filter_map f xs) (gives x y e) rest

pub none_of : {X : Type 0} (o : Option X) → is_some o ≡ false → o ≡ None
none_of None e = refl
none_of (Some x) e = absurd (cc)

pub some_of : {X : Type 0} (o : Option X) → is_some o ≡ true → (x : X) × (o ≡ Some x)
some_of None e = absurd (cc)
some_of (Some x) e = (x, refl)

-- ---- methods of a name and prototype

or_not : (a b : Bool) → (a || (not a && b)) ≡ (b || a)
or_not true true = refl
or_not true false = refl
or_not false true = refl
or_not false false = refl

picks_by : (here s p i n q : Bool) → (n ≡ true → i ≡ false) → ((here && (not s && not p && not (not s && i))) && (n && q)) ≡ (here && (not s && not p && n && q))
picks_by false s p i n q other = refl
picks_by true true p i n q other = refl
picks_by true false true i n q other = refl
picks_by true false false true false q other = refl
picks_by true false false true true q other = let wrong = other refl in absurd (cc)
picks_by true false false false n q other = refl

-- among a class's own methods, where the name is no constructor's
own_agree : (image : Image) (name : List ℕ) (proto : Proto) → bytes_eq name init_name ≡ false → (c : ℕ)
    → list_any (is_method_of name proto) (callable_of_class image c) ≡ is_some (declared_by image c (is_virtual_of name proto))
own_agree image name proto plain c =
    any_filtered (is_method_of name proto) (λ m. nat_eq m.info.class.0 c && is_callable m) (all_methods image) ∙
    ((λ j. list_any (λ m. picked m j) (all_methods image)) ∙
    (sym (find_any (λ m. nat_eq m.info.class.0 c && is_virtual_of name proto m) (all_methods image)) ∙
    ap (λ (o : Option Method). is_some o) (sym (declared_by_is image c (is_virtual_of name proto)))))
  where
    picked : (m : Method) → ((nat_eq m.info.class.0 c && is_callable m) && is_method_of name proto m) ≡ (nat_eq m.info.class.0 c && is_virtual_of name proto m)
    picked m =
        picks_by (nat_eq m.info.class.0 c) (is_static m) (is_private m) (bytes_eq m.def.name init_name) (bytes_eq m.def.name name) (same_proto m.def.proto proto)
        (λ same. ap (λ n. bytes_eq n init_name) (name_is m.def.name name same) ∙ plain)

-- a method of this name and prototype is new just where none of those has them
pub new_by : (name : List ℕ) (proto : Proto) (ms : List Method) (m : Method) → is_method_of name proto m ≡ true → is_new ms m ≡ not (list_any (is_method_of name proto) ms)
new_by name proto ms m has =
    let parts = and_parts (bytes_eq m.def.name name) (same_proto m.def.proto proto) has in
    let named = name_is m.def.name name parts.0 in
    let typed = proto_is m.def.proto proto parts.1 in
    λ j. not (list_any (is_method_of (named j) (typed j)) ms)

some_or : (o p : Option Method) → is_some (elim o as (λ _. Option Method) [ Some m ↦ Some m | None ↦ p ]) ≡ (is_some o || is_some p)
some_or None p = refl
some_or (Some m) p = refl

-- of a class and its superclasses some callable method has a name and prototype just where a look-up finds one
pub along_agrees : (image : Image) (name : List ℕ) (proto : Proto) → bytes_eq name init_name ≡ false → (cs : List ℕ)
    → list_any (is_method_of name proto) (callable_along image cs) ≡ is_some (first_of_classes image cs (is_virtual_of name proto))
along_agrees image name proto plain [] = refl
along_agrees image name proto plain (c ∷ cs) =
    let above = callable_along image cs in
    let own = callable_of_class image c in
    let key = is_method_of name proto in
    list_any-append key above (filter (is_new above) own) ∙
    (ap (λ b. list_any key above || b) (any-filter_same key (is_new above) (not (list_any key above)) (new_by name proto above) own) ∙
    (or_not (list_any key above) (list_any key own) ∙
    ((λ j. own_agree image name proto plain c j || along_agrees image name proto plain cs j) ∙
    sym (some_or (declared_by image c (is_virtual_of name proto)) (first_of_classes image cs (is_virtual_of name proto))))))

-- ---- a method that is found leads to itself by its number

abbrev pub IsOwn : Image → Method → Type 0
IsOwn image m = method_at image m.id ≡ Some m

def_id : (id : ℕ) (info : MethodInfo) (o : Option MethodDef) (m : Method) → with_def id info o ≡ Some m → m.id ≡ id
def_id id info None m is = absurd (cc)
def_id id info (Some def) m is = ap (λ (n : Method). n.id) (let same : record { id = id; info = info; def = def } ≡ m = cc in sym same)

info_id : (image : Image) (id : ℕ) (o : Option MethodInfo) (m : Method) → with_info image id o ≡ Some m → m.id ≡ id
info_id image id None m is = absurd (cc)
info_id image id (Some info) m is = def_id id info (slice_get (methods_of (slice_get image.classes info.class.0)) info.place) m is

pub method_own : (image : Image) (id : ℕ) (m : Method) → method_at image id ≡ Some m → IsOwn image m
unfolding method_at
method_own image id m is =
    let same = info_id image id (slice_get image.methods id) m is in
    ap (λ k. with_info image k (slice_get image.methods k)) same ∙ is

pub all_own : (image : Image) → All (IsOwn image) (all_methods image)
all_own image = all_given (IsOwn image) (method_at image) (method_own image) (range_with_len 0 (length image.methods))

declared_has : (image : Image) (c : ℕ) (good : Method → Bool) (m : Method) → declared_by image c good ≡ Some m
    → IsOwn image m × ((nat_eq m.info.class.0 c && good m) ≡ true)
declared_has image c good m is =
    find_has (IsOwn image) (λ n. nat_eq n.info.class.0 c && good n) (all_methods image) (all_own image) m (sym (declared_by_is image c good) ∙ is)

first_has : (image : Image) (cs : List ℕ) (good : Method → Bool) (m : Method) → first_of_classes image cs good ≡ Some m → IsOwn image m × (good m ≡ true)
first_has image [] good m is = absurd (cc)
first_has image (c ∷ cs) good m is = here (declared_by image c good) refl is (first_has image cs good m)
  where
    here : (o : Option Method) → declared_by image c good ≡ o
        → elim o as (λ _. Option Method) [ Some n ↦ Some n | None ↦ first_of_classes image cs good ] ≡ Some m
        → (first_of_classes image cs good ≡ Some m → IsOwn image m × (good m ≡ true)) → IsOwn image m × (good m ≡ true)
    here None e found rest = rest found
    here (Some n) e found rest =
        let parts = declared_has image c good m (e ∙ found) in
        (parts.0, (and_parts (nat_eq m.info.class.0 c) (good m) parts.1).1)

virtual_key : (s p n q : Bool) → (not s && not p && n && q) ≡ true → (n ≡ true) × (q ≡ true)
virtual_key true p n q e = absurd (cc)
virtual_key false true n q e = absurd (cc)
virtual_key false false n q e = and_parts n q e

-- what is found has the name and prototype
pub nearest_has : (image : Image) (c : ℕ) (name : List ℕ) (proto : Proto) (m : Method) → nearest image c name proto ≡ Some m
    → IsOwn image m × ((m.def.name ≡ name) × (m.def.proto ≡ proto))
unfolding nearest
nearest_has image c name proto m is =
    let parts = first_has image (supers image c) (is_virtual_of name proto) m is in
    let keys = virtual_key (is_static m) (is_private m) (bytes_eq m.def.name name) (same_proto m.def.proto proto) parts.1 in
    (parts.0, (name_is m.def.name name keys.0, proto_is m.def.proto proto keys.1))

-- ---- where there is no such class

def_there : (id : ℕ) (info : MethodInfo) (o : Option MethodDef) (m : Method) → with_def id info o ≡ Some m → (m.info ≡ info) × (o ≡ Some m.def)
def_there id info None m is = absurd (cc)
def_there id info (Some def) m is =
    let same : record { id = id; info = info; def = def } ≡ m = cc in
    (ap (λ (n : Method). n.info) (sym same), ap (λ (n : Method). Some n.def) same)

class_of_def : (o : Option ClassInfo) (k : ℕ) (d : MethodDef) → slice_get (methods_of o) k ≡ Some d → o ≡ None → {X : Type 0} → X
class_of_def None k d there none = absurd (cc)
class_of_def (Some c) k d there none = absurd (cc)

info_there : (image : Image) (id : ℕ) (o : Option MethodInfo) (m : Method) → with_info image id o ≡ Some m → slice_get (methods_of (slice_get image.classes m.info.class.0)) m.info.place ≡ Some m.def
info_there image id None m is = absurd (cc)
info_there image id (Some info) m is =
    let parts = def_there id info (slice_get (methods_of (slice_get image.classes info.class.0)) info.place) m is in
    ap (λ (i : MethodInfo). slice_get (methods_of (slice_get image.classes i.class.0)) i.place) parts.0 ∙ parts.1

-- a method's definition stands in its class at its place
pub own_there : (image : Image) (m : Method) → IsOwn image m → slice_get (methods_of (slice_get image.classes m.info.class.0)) m.info.place ≡ Some m.def
unfolding method_at
own_there image m own = info_there image m.id (slice_get image.methods m.id) m own

no_class_declares : (image : Image) (c : ℕ) (good : Method → Bool) → slice_get image.classes c ≡ None → declared_by image c good ≡ None
no_class_declares image c good none = here (declared_by image c good) refl
  where
    here : (o : Option Method) → declared_by image c good ≡ o → o ≡ None
    here None e = refl
    here (Some m) e =
        let parts = declared_has image c good m e in
        let of_class = eqb-true m.info.class.0 c (and_parts (nat_eq m.info.class.0 c) (good m) parts.1).0 in
        class_of_def (slice_get image.classes m.info.class.0) m.info.place m.def (own_there image m parts.0) (ap (λ k. slice_get image.classes k) of_class ∙ none)

walk_alone : (image : Image) (n c : ℕ) (good : Method → Bool) → slice_get image.classes c ≡ None → first_of_classes image (walk image n (Some c)) good ≡ None
walk_alone image zero c good none = refl
walk_alone image (suc n) c good none =
    (λ j. elim (no_class_declares image c good none j) as (λ _. Option Method) [ Some m ↦ Some m | None ↦ first_of_classes image (walk image n (parent_of (none j))) good ]) ∙
    on_top n
  where
    on_top : (k : ℕ) → first_of_classes image (walk image k None) good ≡ None
    on_top zero = refl
    on_top (suc k) = refl

-- a look-up from a class that isn't there finds nothing
pub nearest_outside : (image : Image) (c : ℕ) (name : List ℕ) (proto : Proto) → slice_get image.classes c ≡ None → nearest image c name proto ≡ None
unfolding nearest
nearest_outside image c name proto none = walk_alone image (length image.classes) c (is_virtual_of name proto) none

-- ---- the tables of an image

as_slotted : (image : Image) → IsImage image → AreAlike (slotted (own_numbered image)) image
as_slotted image is = alike_slotted (defs image.classes) image.boot ∙ sym (image_alike image is)

classes_made : (before : Image) → (resolved (tabled before)).classes ≡ map (class_with_table before) (enumerate_from 0 before.classes)
unfolding resolved tabled
classes_made before = refl

table_placed : (before : Image) (cs : List ClassInfo) (a c : ℕ) (info : ClassInfo) → slice_get (map (class_with_table before) (enumerate_from a cs)) c ≡ Some info → info.table ≡ table_at before (a + c)
table_placed before [] a c info there = absurd (cc)
table_placed before (d ∷ cs) a zero info there =
    let z : a + 0 ≡ a = omega arith in
    let same : class_with_table before (a, d) ≡ info = cc in
    rw z (ap (λ (i : ClassInfo). i.table) (sym same))
table_placed before (d ∷ cs) a (suc c) info there =
    let e : a + suc c ≡ (a + 1) + c = omega arith in
    rw e (table_placed before cs (a + 1) c info there)

-- a class has the table of the image that it stands in
pub image_table : (image : Image) → IsImage image → (c : ℕ) (info : ClassInfo) → slice_get image.classes c ≡ Some info → info.table ≡ table_at image c
image_table image is c info there =
    let made : image.classes ≡ map (class_with_table (slotted (own_numbered image))) (enumerate_from 0 (slotted (own_numbered image)).classes) =
    sym (ap (λ (i : Image). i.classes) (image_is image is)) ∙ classes_made (slotted (own_numbered image)) in
    let placed = table_placed (slotted (own_numbered image)) (slotted (own_numbered image)).classes 0 c info (sym (ap (λ cs. slice_get cs c) made) ∙ there) in
    let z : 0 + c ≡ c = omega arith in
    rw z at placed ∙ alike_table_at (slotted (own_numbered image)) image (as_slotted image is) c

-- and the classes that are initialised before it
priors_placed : (before : Image) (cs : List ClassInfo) (a c : ℕ) (info : ClassInfo) → slice_get (map (class_with_table before) (enumerate_from a cs)) c ≡ Some info → info.prior ≡ priors_at before (a + c)
priors_placed before [] a c info there = absurd (cc)
priors_placed before (d ∷ cs) a zero info there =
    let z : a + 0 ≡ a = omega arith in
    let same : class_with_table before (a, d) ≡ info = cc in
    rw z (ap (λ (i : ClassInfo). i.prior) (sym same))
priors_placed before (d ∷ cs) a (suc c) info there =
    let e : a + suc c ≡ (a + 1) + c = omega arith in
    rw e (priors_placed before cs (a + 1) c info there)

numbers_made : (ds : List ℕ) → numbers (map (λ d. record { 0 = d }) ds) ≡ ds
numbers_made [] = refl
numbers_made (d ∷ ds) = ap (λ es. d ∷ es) (numbers_made ds)

pub image_prior : (image : Image) → IsImage image → (c : ℕ) (info : ClassInfo) → slice_get image.classes c ≡ Some info → numbers info.prior ≡ prior_at image c
image_prior image is c info there =
    let made : image.classes ≡ map (class_with_table (slotted (own_numbered image))) (enumerate_from 0 (slotted (own_numbered image)).classes) =
    sym (ap (λ (i : Image). i.classes) (image_is image is)) ∙ classes_made (slotted (own_numbered image)) in
    let placed = priors_placed (slotted (own_numbered image)) (slotted (own_numbered image)).classes 0 c info (sym (ap (λ cs. slice_get cs c) made) ∙ there) in
    let z : 0 + c ≡ c = omega arith in
    ap numbers (rw z at placed) ∙ (numbers_made (prior_at (slotted (own_numbered image)) c) ∙ alike_prior (slotted (own_numbered image)) image (as_slotted image is) c)

-- ---- how many methods an image has

methods_defined : (cs : List ClassInfo) → sum_by (λ c. length c.def.methods) cs ≡ sum_by (λ c. length c.methods) (defs cs)
methods_defined [] = refl
methods_defined (c ∷ cs) =
    sum_by-cons (λ c. length c.def.methods) c cs ∙
    (ap (λ n. length c.def.methods + n) (methods_defined cs) ∙ sym (sum_by-cons (λ c. length c.methods) c.def (defs cs)))

defs_kept : (image : Image) (cs : List ClassDef) → defs (map (class_numbered image) cs) ≡ cs
defs_kept image [] = refl
defs_kept image (c ∷ cs) = ap (λ ds. c ∷ ds) (defs_kept image cs)

numbered_count : (cs : List ClassDef) (boot : ℕ) → length (numbered cs boot).methods ≡ sum_by (λ c. length c.methods) cs
unfolding numbered
numbered_count cs boot =
    method_count (numbered cs boot) (numbered_methods cs boot) ∙
    (methods_defined (map (class_numbered (declared cs boot)) cs) ∙ ap (sum_by (λ c. length c.methods)) (defs_kept (declared cs boot) cs))

-- an image's methods have numbers of 32 bits
pub image_few_methods : (image : Image) → IsImage image → length image.methods ≤ 19618
image_few_methods image is =
    let alike = alike_by (λ (i : Image). length i.methods) (λ i. length-map i.methods method_info_stripped) image (own_numbered image) (image_alike image is) in
    let passed = image_passes image is in
    subst (λ n. n ≤ 19618) (sym (alike ∙ numbered_count (defs image.classes) image.boot)) (few_methods (defs image.classes) image.boot passed.0 passed.1 passed.2)
