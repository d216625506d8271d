-- What the table of a class has for a name and a prototype is what a call selects, and methods of one number have the same name and prototype.
use Rattle.std.specs.Prelude.{ℕ, zero, suc, ◌≡◌, ◌<◌, ◌≤◌, ◌+◌, ◌++◌, Bool, true, false, ◌&&◌, ◌||◌, not, List, [], ◌∷◌, length, cond, filter, filter_map, flat_map, find, All, Option, Some, None, is_some, slice_get, slice_index_or, nat_eq, bytes_eq, option_map, unwrap_or}
use Rattle.std.specs.List.{list_any, cons_option, range_with_len, position_or_len}
use Rattle.std.proofs.Common.{refl, ap, sym, ◌∙◌, arith}
use Rattle.std.proofs.lemmas.Bool.{and_parts}
use Rattle.std.proofs.lemmas.List.{length-map}
use Rattle.std.proofs.lemmas.List.Elements.{All-nil, All-cons, All-head, All-tail, All-append, All-filter}
use Rattle.std.proofs.lemmas.List.Folds.{find_at, list_any-append, list_any_none}
use Rattle.std.proofs.lemmas.List.FromFn.{length-range_with_len, get_or-range_with_len}
use Rattle.std.proofs.lemmas.Map.Views.{any-filter_same}
use Rattle.std.proofs.lemmas.Option.{slice_get-map, slice_get_within, slice_get_read, unwrap_or-slice_get}
use Rattle.std.proofs.lemmas.Slice.Eq.{bytes_eq-Decides}
use Rattle.dv_defs.specs.declared.names.Base.{Base}
use Rattle.dv_defs.specs.declared.names.Base.TheVariants as base
use Rattle.dv_defs.specs.declared.names.Ty.{Ty}
use Rattle.dv_defs.specs.declared.names.Proto.{Proto}
use Rattle.dv_defs.specs.declared.image.MethodInfo.{MethodInfo}
use Rattle.dv_defs.specs.declared.image.Select.{Select}
use Rattle.dv_defs.specs.declared.image.Select.TheVariants as select
use Rattle.dv_defs.specs.Images.{Image}
use Rattle.dv_defs.specs.Names.{init_name}
use Rattle.dv_defs.specs.Types.{base_eq, ty_eq, same_types, same_result, same_proto}
use Rattle.dv_defs.specs.Pools.{Method, method_at, with_info, nearest, parent_of, supers, walk}
use Rattle.dv_defs.specs.LookUp.{interfaces_at, interfaces_above, superinterfaces, once, upward, is_method_of}
use Rattle.dv_defs.specs.Order.{interfaces_of}
use Rattle.dv_defs.specs.Selecting.{is_callable, all_methods, callable_of_class, offered, offered_as, chosen, itself, selected}
use Rattle.dv_defs.specs.Linked.{overrides, is_new, callable_along, first_of_each, keyed_at, table_at, entry, key_of, defs, IsImage}
use Rattle.law_linking.specs.Stripped.{method_stripped, method_info_stripped}
use Rattle.law_linking.proofs.Members.{numbered_methods, methods_each}
use Rattle.law_linking.proofs.AlikeImages.{alike_by}
use Rattle.law_linking.proofs.AlikeTables.{stripped_all}
use Rattle.law_linking.proofs.OrderedImages.{own_numbered, image_alike}
use Rattle.law_linking.proofs.TableLaws.{name_is, proto_is, find_any, find_has, none_of, some_of, new_by, along_agrees, IsOwn, all_own, nearest_outside}

-- ---- lists

or_parts : (a b : Bool) → (a || b) ≡ false → (a ≡ false) × (b ≡ false)
or_parts true b e = absurd (cc)
or_parts false b e = (refl, e)

-- a test that finds nothing keeps nothing
none_kept : {X : Type 0} (test : X → Bool) (xs : List X) → list_any test xs ≡ false → filter test xs ≡ []
none_kept test [] none = refl
none_kept test (x ∷ xs) none =
    let parts = or_parts (test x) (list_any test xs) none in
    ap (λ b. cond b (x ∷ filter test xs) (filter test xs)) parts.0 ∙ none_kept test xs parts.1

-- what passes a test stands at the first place
placed : {X : Type 0} (P : X → Type 0) (test : X → Bool) (xs : List X) → All P xs → list_any test xs ≡ true
    → (x : X) × (slice_get xs (position_or_len test xs) ≡ Some x) × P x × (test x ≡ true)
placed P test xs all some =
    let there = some_of (find test xs) (find_any test xs ∙ some) in
    let has = find_has P test xs all there.0 there.1 in
    (there.0, sym (find_at test xs) ∙ there.1, has.0, has.1)

-- and where nothing passes, nothing stands there
unplaced : {X : Type 0} (test : X → Bool) (xs : List X) → list_any test xs ≡ false → slice_get xs (position_or_len test xs) ≡ None
unplaced test xs none = sym (find_at test xs) ∙ none_of (find test xs) (find_any test xs ∙ none)

given : {X : Type 0} (test : X → Bool) (f : ℕ → Option X) (a n k : ℕ) (x : X) → f (a + k) ≡ Some x → k < n → test x ≡ true → list_any test (filter_map f (range_with_len a n)) ≡ true
given test f a zero k x is within passes = absurd (omega arith)
given test f a (suc n) zero x is within passes =
    let z : a + 0 ≡ a = omega arith in
    ap (λ o. list_any test (cons_option o (filter_map f (range_with_len (a + 1) n)))) (ap f (sym z) ∙ is) ∙
    ap (λ b. b || list_any test (filter_map f (range_with_len (a + 1) n))) passes
given {X} test f a (suc n) (suc k) x is within passes =
    let e : (a + 1) + k ≡ a + suc k = omega arith in
    let less : k < n = omega arith in
    by (f a) (given test f (a + 1) n k x (ap f e ∙ is) less passes)
  where
    by : (o : Option X) → list_any test (filter_map f (range_with_len (a + 1) n)) ≡ true → list_any test (cons_option o (filter_map f (range_with_len (a + 1) n))) ≡ true
    by None rest = rest
    by (Some y) rest = ap (λ b. test y || b) rest ∙ either (test y)
      where
        either : (b : Bool) → (b || true) ≡ true
        either true = refl
        either false = refl

-- ---- names and prototypes

base_same : (a : Base) → base_eq a a ≡ true
base_same base.Z = refl
base_same base.B = refl
base_same base.C = refl
base_same base.S = refl
base_same base.I = refl
base_same base.J = refl
base_same (base.Class x) = (bytes_eq-Decides x x).1 refl

dims_same : (n : ℕ) → nat_eq n n ≡ true
dims_same n = grind arith

type_same : (t : Ty) → ty_eq t t ≡ true
type_same t = λ j. dims_same t.dims j && base_same t.base j

types_same : (ts : List Ty) → same_types ts ts ≡ true
types_same [] = refl
types_same (t ∷ ts) = λ j. type_same t j && types_same ts j

result_same : (t : Option Ty) → same_result t t ≡ true
result_same None = refl
result_same (Some t) = type_same t

proto_same : (p : Proto) → same_proto p p ≡ true
proto_same p = λ j. types_same p.params j && result_same p.ret j

-- a method has its own name and prototype
itself_has : (m : Method) → is_method_of m.def.name m.def.proto m ≡ true
itself_has m = λ j. (bytes_eq-Decides m.def.name m.def.name).1 refl j && proto_same m.def.proto j

-- what is_method_of tells
pub method_has : (name : List ℕ) (proto : Proto) (m : Method) → is_method_of name proto m ≡ true → (m.def.name ≡ name) × (m.def.proto ≡ proto)
method_has name proto m has =
    let parts = and_parts (bytes_eq m.def.name name) (same_proto m.def.proto proto) has in
    (name_is m.def.name name parts.0, proto_is m.def.proto proto parts.1)

-- ---- the methods of a table are methods of the image

flat_all : (P : Method → Type 0) (f : ℕ → List Method) → ((c : ℕ) → All P (f c)) → (cs : List ℕ) → All P (flat_map f cs)
flat_all P f each [] = All-nil P
flat_all P f each (c ∷ cs) = All-append P (f c) (flat_map f cs) (each c) (flat_all P f each cs)

callable_all : (P : Method → Type 0) (image : Image) → All P (all_methods image) → (c : ℕ) → All P (callable_of_class image c)
callable_all P image all c = All-filter (λ m. nat_eq m.info.class.0 c && is_callable m) P (all_methods image) all

along_all : (P : Method → Type 0) (image : Image) → All P (all_methods image) → (cs : List ℕ) → All P (callable_along image cs)
along_all P image all [] = All-nil P
along_all P image all (c ∷ cs) =
    All-append P (callable_along image cs) (filter (is_new (callable_along image cs)) (callable_of_class image c))
    (along_all P image all cs)
    (All-filter (is_new (callable_along image cs)) P (callable_of_class image c) (callable_all P image all c))

first_all : (P : Method → Type 0) (ms : List Method) → All P ms → All P (first_of_each ms)
first_all P [] all = All-nil P
first_all P (m ∷ ms) all =
    All-cons P m (filter (λ n. not (overrides m n)) (first_of_each ms)) (All-head P m ms all)
    (All-filter (λ n. not (overrides m n)) P (first_of_each ms) (first_all P ms (All-tail P m ms all)))

keyed_all : (P : Method → Type 0) (image : Image) → All P (all_methods image) → (c : ℕ) → All P (keyed_at image c)
keyed_all P image all c =
    let along = callable_along image (supers image c) in
    let new = filter (is_new along) (offered image c) in
    All-append P along (first_of_each new)
    (along_all P image all (supers image c))
    (first_all P new (All-filter (is_new along) P (offered image c) (flat_all P (callable_of_class image) (callable_all P image all) (once (superinterfaces image c)))))

pub keyed_own : (image : Image) (c : ℕ) → All (IsOwn image) (keyed_at image c)
keyed_own image c = keyed_all (IsOwn image) image (all_own image) c

-- ---- a method of a table that has a name and a prototype

same_entry : (image : Image) (c : ℕ) (name : List ℕ) (proto : Proto) (m : Method) → is_method_of name proto m ≡ true → entry image c m ≡ selected image c name proto
same_entry image c name proto m has =
    let keys = method_has name proto m has in
    λ j. selected image c (keys.0 j) (keys.1 j)

-- the table has at its place what a call selects
pub keyed_selects : (image : Image) (c : ℕ) (name : List ℕ) (proto : Proto) (p : ℕ) (m : Method) → slice_get (keyed_at image c) p ≡ Some m → is_method_of name proto m ≡ true
    → slice_get (table_at image c) p ≡ Some (selected image c name proto)
keyed_selects image c name proto p m at has =
    slice_get-map (entry image c) (keyed_at image c) p ∙ (ap (option_map (entry image c)) at ∙ ap Some (same_entry image c name proto m has))

-- ---- where a table has no such method

other_kept : (name : List ℕ) (proto : Proto) (m n : Method) → is_method_of name proto m ≡ false → is_method_of name proto n ≡ true → not (overrides m n) ≡ true
other_kept name proto m n lacks has = by (overrides m n) refl
  where
    by : (b : Bool) → overrides m n ≡ b → not b ≡ true
    by true same =
        let keys = method_has m.def.name m.def.proto n same in
        let too : is_method_of name proto m ≡ true = sym (λ j. bytes_eq (keys.0 j) name && same_proto (keys.1 j) proto) ∙ has in
        absurd (cc)
    by false same = refl

-- each name and prototype is kept once
first_any : (name : List ℕ) (proto : Proto) (ms : List Method) → list_any (is_method_of name proto) (first_of_each ms) ≡ list_any (is_method_of name proto) ms
first_any name proto [] = refl
first_any name proto (m ∷ ms) = by (is_method_of name proto m) refl (first_any name proto ms)
  where
    kept : List Method
    kept = filter (λ n. not (overrides m n)) (first_of_each ms)

    by : (b : Bool) → is_method_of name proto m ≡ b → list_any (is_method_of name proto) (first_of_each ms) ≡ list_any (is_method_of name proto) ms
        → (is_method_of name proto m || list_any (is_method_of name proto) kept) ≡ (is_method_of name proto m || list_any (is_method_of name proto) ms)
    by true e rest = ap (λ b. b || list_any (is_method_of name proto) kept) e ∙ sym (ap (λ b. b || list_any (is_method_of name proto) ms) e)
    by false e rest =
        ap (λ b. is_method_of name proto m || b)
        (any-filter_same (is_method_of name proto) (λ n. not (overrides m n)) true (λ n. other_kept name proto m n e) (first_of_each ms) ∙ rest)

-- nothing is selected that could be run
pub unkeyed_abstract : (image : Image) (c : ℕ) (name : List ℕ) (proto : Proto) → list_any (is_method_of name proto) (keyed_at image c) ≡ false → selected image c name proto ≡ select.Abstract
unfolding nearest selected
unkeyed_abstract image c name proto none = by (bytes_eq name init_name) refl
  where
    key : Method → Bool
    key = is_method_of name proto

    along : List Method
    along = callable_along image (supers image c)

    parts : (list_any key along ≡ false) × (list_any key (first_of_each (filter (is_new along) (offered image c))) ≡ false)
    parts = or_parts (list_any key along) (list_any key (first_of_each (filter (is_new along) (offered image c)))) (sym (list_any-append key along (first_of_each (filter (is_new along) (offered image c)))) ∙ none)

    new : list_any key (filter (is_new along) (offered image c)) ≡ list_any key (offered image c)
    new = any-filter_same key (is_new along) true (λ m has. new_by name proto along m has ∙ ap not parts.0) (offered image c)

    none_offered : offered_as image c name proto ≡ []
    none_offered = none_kept key (offered image c) (sym new ∙ (sym (first_any name proto (filter (is_new along) (offered image c))) ∙ parts.1))

    by : (b : Bool) → bytes_eq name init_name ≡ b
        → elim b as (λ _. Select) [ true ↦ select.Abstract | false ↦ elim (nearest image c name proto) as (λ _. Select) [ Some m ↦ itself m | None ↦ chosen image (offered_as image c name proto) ] ] ≡ select.Abstract
    by true e = refl
    by false e =
        ap (λ (o : Option Method). elim o as (λ _. Select) [ Some m ↦ itself m | None ↦ chosen image (offered_as image c name proto) ])
        (none_of (nearest image c name proto) (sym (along_agrees image name proto e (supers image c)) ∙ parts.0)) ∙
        ap (chosen image) none_offered

-- so of a name and prototype that no method of the image has
pub unnamed_abstract : (image : Image) (c : ℕ) (name : List ℕ) (proto : Proto) → list_any (is_method_of name proto) (all_methods image) ≡ false → selected image c name proto ≡ select.Abstract
unnamed_abstract image c name proto none =
    unkeyed_abstract image c name proto (list_any_none (is_method_of name proto) (keyed_at image c) (keyed_all (λ m. is_method_of name proto m ≡ false) image (none_has (all_methods image) none) c))
  where
    none_has : (ms : List Method) → list_any (is_method_of name proto) ms ≡ false → All (λ m. is_method_of name proto m ≡ false) ms
    none_has [] none = All-nil (λ m. is_method_of name proto m ≡ false)
    none_has (m ∷ ms) none =
        let parts = or_parts (is_method_of name proto m) (list_any (is_method_of name proto) ms) none in
        All-cons (λ m. is_method_of name proto m ≡ false) m ms parts.0 (none_has ms parts.1)

-- ---- the table whole

-- at the place of a name and prototype a table has what a call selects
pub table_selects : (image : Image) (c : ℕ) (name : List ℕ) (proto : Proto) → slice_index_or (table_at image c) (position_or_len (is_method_of name proto) (keyed_at image c)) select.Abstract ≡ selected image c name proto
table_selects image c name proto = by (list_any key methods) refl
  where
    key : Method → Bool
    key = is_method_of name proto

    methods : List Method
    methods = keyed_at image c

    p : ℕ
    p = position_or_len key methods

    by : (b : Bool) → list_any key methods ≡ b → slice_index_or (table_at image c) p select.Abstract ≡ selected image c name proto
    by true e =
        let there = placed (IsOwn image) key methods (keyed_own image c) e in
        sym (unwrap_or-slice_get (table_at image c) p select.Abstract) ∙
        ap (λ o. unwrap_or o select.Abstract) (keyed_selects image c name proto p there.0 there.1 there.3)
    by false e =
        sym (unwrap_or-slice_get (table_at image c) p select.Abstract) ∙
        (ap (λ o. unwrap_or o select.Abstract) (slice_get-map (entry image c) methods p ∙ ap (option_map (entry image c)) (unplaced key methods e)) ∙
        sym (unkeyed_abstract image c name proto e))

-- ---- the numbers of names and prototypes

number_within : (image : Image) (n : ℕ) (m : Method) → method_at image n ≡ Some m → n < length image.methods
unfolding method_at
number_within image n m is = by (slice_get image.methods n) refl is
  where
    by : (o : Option MethodInfo) → slice_get image.methods n ≡ o → with_info image n o ≡ Some m → n < length image.methods
    by None e there = absurd (cc)
    by (Some info) e there = slice_get_within image.methods n info e

-- the image has a method of a method's name and prototype
own_found : (image : Image) (m : Method) → IsOwn image m → list_any (is_method_of m.def.name m.def.proto) (all_methods image) ≡ true
own_found image m own =
    let z : 0 + m.id ≡ m.id = omega arith in
    given (is_method_of m.def.name m.def.proto) (method_at image) 0 (length image.methods) m.id m (ap (method_at image) z ∙ own) (number_within image m.id m own) (itself_has m)

-- two methods of one number have the same name and prototype
pub same_key : (image : Image) (m n : Method) → IsOwn image m → IsOwn image n → key_of image m ≡ key_of image n → is_method_of n.def.name n.def.proto m ≡ true
same_key image m n own other same =
    let first = placed (IsOwn image) (is_method_of m.def.name m.def.proto) (all_methods image) (all_own image) (own_found image m own) in
    let second = placed (IsOwn image) (is_method_of n.def.name n.def.proto) (all_methods image) (all_own image) (own_found image n other) in
    let one : first.0 ≡ second.0 = (let both : Some first.0 ≡ Some second.0 = sym first.1 ∙ (ap (slice_get (all_methods image)) same ∙ second.1) in cc) in
    let keys = method_has m.def.name m.def.proto first.0 first.3 in
    let has : is_method_of n.def.name n.def.proto first.0 ≡ true = ap (is_method_of n.def.name n.def.proto) one ∙ second.3 in
    sym (λ j. bytes_eq (keys.0 j) n.def.name && same_proto (keys.1 j) n.def.proto) ∙ has

-- ---- each number below their count is that of a method

few_given : {X Y : Type 0} (f : X → Option Y) (xs : List X) → length (filter_map f xs) ≤ length xs
few_given f [] = omega arith
few_given {X} {Y} f (x ∷ xs) = by (f x) (few_given f xs)
  where
    by : (o : Option Y) → length (filter_map f xs) ≤ length xs → length (cons_option o (filter_map f xs)) ≤ suc (length xs)
    by None rest = omega arith
    by (Some y) rest = omega arith

each_given : {X Y : Type 0} (f : X → Option Y) (xs : List X) → length (filter_map f xs) ≡ length xs → (k : ℕ) (x : X) → slice_get xs k ≡ Some x → is_some (f x) ≡ true
each_given f [] all k x at = absurd (cc)
each_given {X} {Y} f (y ∷ ys) all k x at = by (f y) refl all k at (λ more j there. each_given f ys more j x there)
  where
    by : (o : Option Y) → f y ≡ o → length (cons_option o (filter_map f ys)) ≡ suc (length ys) → (k : ℕ) → slice_get (y ∷ ys) k ≡ Some x
        → (length (filter_map f ys) ≡ length ys → (j : ℕ) → slice_get ys j ≡ Some x → is_some (f x) ≡ true) → is_some (f x) ≡ true
    by None e all k at rest = let few : length (filter_map f ys) ≤ length ys = few_given f ys in absurd (omega arith)
    by (Some z) e all zero at rest = let same : y ≡ x = cc in ap (λ w. is_some (f w)) (sym same) ∙ ap is_some e
    by (Some z) e all (suc j) at rest = rest (omega arith) j at

methods_long : (image : Image) → IsImage image → length (all_methods image) ≡ length image.methods
methods_long image is =
    alike_by (λ i. length (all_methods i)) (λ i. ap length (stripped_all i) ∙ length-map (all_methods i) method_stripped) image (own_numbered image) (image_alike image is) ∙
    (methods_each (own_numbered image) (numbered_methods (defs image.classes) image.boot) ∙
    sym (alike_by (λ (i : Image). length i.methods) (λ i. length-map i.methods method_info_stripped) image (own_numbered image) (image_alike image is)))

pub method_there : (image : Image) → IsImage image → (n : ℕ) → n < length image.methods → (m : Method) × (method_at image n ≡ Some m)
method_there image is n within =
    some_of (method_at image n)
    (each_given (method_at image) (range_with_len 0 (length image.methods)) (methods_long image is ∙ sym (length-range_with_len 0 (length image.methods))) n n
    (slice_get_read (range_with_len 0 (length image.methods)) (length image.methods) n n (sym (length-range_with_len 0 (length image.methods))) within
    (let z : 0 + n ≡ n = omega arith in sym (get_or-range_with_len 0 (length image.methods) n n within ∙ z))))

-- ---- where there is no such class

supers_outside : (image : Image) (n c : ℕ) → slice_get image.classes c ≡ None → flat_map (interfaces_above image) (walk image n (Some c)) ≡ []
supers_outside image zero c none = refl
supers_outside image (suc n) c none =
    (λ j. flat_map (upward (interfaces_at image) (length image.classes)) (interfaces_of (none j)) ++ flat_map (interfaces_above image) (walk image n (parent_of (none j)))) ∙ on_top n
  where
    on_top : (k : ℕ) → flat_map (interfaces_above image) (walk image k None) ≡ []
    on_top zero = refl
    on_top (suc k) = refl

-- nothing is selected there
pub selected_outside : (image : Image) (c : ℕ) (name : List ℕ) (proto : Proto) → slice_get image.classes c ≡ None → selected image c name proto ≡ select.Abstract
unfolding selected
selected_outside image c name proto none = by (bytes_eq name init_name)
  where
    by : (b : Bool) → elim b as (λ _. Select) [ true ↦ select.Abstract | false ↦ elim (nearest image c name proto) as (λ _. Select) [ Some m ↦ itself m | None ↦ chosen image (offered_as image c name proto) ] ] ≡ select.Abstract
    by true = refl
    by false =
        ap (λ (o : Option Method). elim o as (λ _. Select) [ Some m ↦ itself m | None ↦ chosen image (offered_as image c name proto) ]) (nearest_outside image c name proto none) ∙
        ap (λ cs. chosen image (filter (is_method_of name proto) (flat_map (callable_of_class image) (once cs)))) (supers_outside image (length image.classes) c none)
