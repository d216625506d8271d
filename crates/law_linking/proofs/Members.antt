-- Laws of members by number: the members of a class stand together, from the number of the earlier classes' members on.
use Rattle.std.specs.Prelude.{ℕ, zero, suc, ◌≡◌, ◌<◌, ◌+◌, Bool, true, false, ◌&&◌, List, [], ◌∷◌, ◌++◌, length, map, take, filter, filter_map, find, sum_by, Option, Some, None, slice_get, slice_index_or, nat_eq}
use Rattle.std.specs.List.{range_with_len, cons_option, enumerate_from}
use Rattle.std.proofs.Common.{refl, ap, sym, ◌∙◌, arith}
use Rattle.std.proofs.lemmas.List.{append-nil}
use Rattle.std.proofs.lemmas.Bool.Decides.{nat_tests}
use Rattle.std.proofs.lemmas.List.Elements.{filter-append, filter_map-append}
use Rattle.std.proofs.lemmas.List.{length-append}
use Rattle.std.proofs.lemmas.List.Sums.{sum_by-cons}
use Rattle.dv_defs.specs.declared.class.ClassDef.{ClassDef}
use Rattle.dv_defs.specs.declared.class.FieldDef.{FieldDef}
use Rattle.dv_defs.specs.declared.class.MethodDef.{MethodDef}
use Rattle.dv_defs.specs.declared.image.ClassInfo.{ClassInfo}
use Rattle.dv_defs.specs.declared.image.FieldInfo.{FieldInfo}
use Rattle.dv_defs.specs.declared.image.MethodInfo.{MethodInfo}
use Rattle.dv_defs.specs.Images.{Image}
use Rattle.dv_defs.specs.Pools.{Method, Field, method_at, field_at, methods_of, fields_of, pick, declared_by, with_info}
use Rattle.dv_defs.specs.Numbering.{class_id, class_numbered, declared, numbered, all_methods_declared, all_fields_declared}
use Rattle.dv_defs.specs.Selecting.{all_methods}
use Rattle.dv_defs.specs.Linked.{all_fields, defs, class_with_slots, class_with_table, slotted, tabled}

-- ---- lists

get_left : {X : Type 0} (xs ys : List X) (j : ℕ) → j < length xs → slice_get (xs ++ ys) j ≡ slice_get xs j
get_left [] ys j within = absurd (omega arith)
get_left (x ∷ xs) ys zero within = refl
get_left (x ∷ xs) ys (suc j) within = get_left xs ys j (omega arith)

get_right : {X : Type 0} (xs ys : List X) (n j : ℕ) → n ≡ length xs + j → slice_get (xs ++ ys) n ≡ slice_get ys j
get_right [] ys n j is = let e : n ≡ j = omega arith in rw e refl
get_right (x ∷ xs) ys n j is = let e : n ≡ suc (length xs + j) = omega arith in rw e (get_right xs ys (length xs + j) j refl)

get_within : {X : Type 0} (xs : List X) (j : ℕ) (x : X) → slice_get xs j ≡ Some x → j < length xs
get_within [] j x is = absurd (cc)
get_within (y ∷ xs) zero x is = omega arith
get_within (y ∷ xs) (suc j) x is = let h : j < length xs = get_within xs j x is in omega arith

range_split : (a n m : ℕ) → range_with_len a (n + m) ≡ range_with_len a n ++ range_with_len (a + n) m
range_split a zero m = let e : a + 0 ≡ a = omega arith in let z : 0 + m ≡ m = omega arith in rw (e, z) refl
range_split a (suc n) m =
    let e : suc n + m ≡ suc (n + m) = omega arith in
    let f : a + suc n ≡ (a + 1) + n = omega arith in
    rw (e, f) (ap (λ xs. a ∷ xs) (range_split (a + 1) n m))

-- what a function gives of the numbers from one on is a list, if it gives the list's items one by one
pub by_number : {X : Type 0} (f : ℕ → Option X) (xs : List X) (a : ℕ)
    → ((k : ℕ) (x : X) → slice_get xs k ≡ Some x → f (a + k) ≡ Some x)
    → filter_map f (range_with_len a (length xs)) ≡ xs
by_number f [] a same = refl
by_number f (x ∷ xs) a same =
    let z : a + 0 ≡ a = omega arith in
    let here : f a ≡ Some x = rw z at (same 0 x refl) in
    let rest : filter_map f (range_with_len (a + 1) (length xs)) ≡ xs =
    by_number f xs (a + 1) (λ k y is. let e : (a + 1) + k ≡ a + suc k = omega arith in rw e (same (suc k) y is)) in
    rw (here, rest) refl

-- ---- members of any kind, in lists by class

-- what is made of a class's members: of each with the class, its place there and its number
abbrev pub own_from : {M X : Type 0} → (ℕ → ℕ → ℕ → M → X) → ℕ → ℕ → ℕ → List M → List X
own_from make i k id [] = []
own_from make i k id (m ∷ ms) = make i k id m ∷ own_from make i (suc k) (suc id) ms

-- of classes numbered from one on
abbrev pub all_from : {M X : Type 0} → (ℕ → ℕ → ℕ → M → X) → ℕ → ℕ → List (List M) → List X
all_from make i id [] = []
all_from make i id (ms ∷ mss) = own_from make i 0 id ms ++ all_from make (suc i) (id + length ms) mss

-- how many members the classes before one have
abbrev pub before : {M : Type 0} → List (List M) → ℕ → ℕ
before [] c = 0
before (ms ∷ mss) zero = 0
before (ms ∷ mss) (suc c) = length ms + before mss c

abbrev pub count : {M : Type 0} → List (List M) → ℕ
count [] = 0
count (ms ∷ mss) = length ms + count mss

own_get : {M X : Type 0} (make : ℕ → ℕ → ℕ → M → X) (i k id : ℕ) (ms : List M) (j : ℕ) (m : M)
    → slice_get ms j ≡ Some m → slice_get (own_from make i k id ms) j ≡ Some (make i (k + j) (id + j) m)
own_get make i k id [] j m is = absurd (cc)
own_get make i k id (n ∷ ms) zero m is =
    let same : n ≡ m = cc in
    let e : k + 0 ≡ k = omega arith in let f : id + 0 ≡ id = omega arith in rw (e, f, same) refl
own_get make i k id (n ∷ ms) (suc j) m is =
    let e : k + suc j ≡ suc k + j = omega arith in let f : id + suc j ≡ suc id + j = omega arith in
    rw (e, f) (own_get make i (suc k) (suc id) ms j m is)

own_length : {M X : Type 0} (make : ℕ → ℕ → ℕ → M → X) (i k id : ℕ) (ms : List M) → length (own_from make i k id ms) ≡ length ms
own_length make i k id [] = refl
own_length make i k id (m ∷ ms) = ap (λ n. suc n) (own_length make i (suc k) (suc id) ms)

own_get_back : {M X : Type 0} (make : ℕ → ℕ → ℕ → M → X) (i k id : ℕ) (ms : List M) (j : ℕ) (x : X)
    → slice_get (own_from make i k id ms) j ≡ Some x → (m : M) × ((slice_get ms j ≡ Some m) × (x ≡ make i (k + j) (id + j) m))
own_get_back make i k id [] j x is = absurd (cc)
own_get_back make i k id (n ∷ ms) zero x is =
    let e : k + 0 ≡ k = omega arith in let f : id + 0 ≡ id = omega arith in (n, (refl, rw (e, f) cc))
own_get_back make i k id (n ∷ ms) (suc j) x is =
    let e : k + suc j ≡ suc k + j = omega arith in let f : id + suc j ≡ suc id + j = omega arith in
    let h = own_get_back make i (suc k) (suc id) ms j x is in (h.0, (h.1.0, rw (e, f) h.1.1))

-- member k of class c has the number of the earlier classes' members, and k
pub all_get : {M X : Type 0} (make : ℕ → ℕ → ℕ → M → X) (mss : List (List M)) (i id c k : ℕ) (ms : List M) (m : M)
    → slice_get mss c ≡ Some ms → slice_get ms k ≡ Some m
    → slice_get (all_from make i id mss) (before mss c + k) ≡ Some (make (i + c) k (id + (before mss c + k)) m)
all_get make [] i id c k ms m class there = absurd (cc)
all_get make (ns ∷ mss) i id zero k ms m class there =
    let same : ns ≡ ms = cc in
    let at : slice_get ns k ≡ Some m = rw same there in
    let within : k < length (own_from make i 0 id ns) = omega (arith, own_length make i 0 id ns, get_within ns k m at) in
    let e : 0 + k ≡ k = omega arith in let f : i + 0 ≡ i = omega arith in
    rw (e, f, get_left (own_from make i 0 id ns) (all_from make (suc i) (id + length ns) mss) k within)
    (rw e at (own_get make i 0 id ns k m at))
all_get make (ns ∷ mss) i id (suc c) k ms m class there =
    let e : (length ns + before mss c) + k ≡ length (own_from make i 0 id ns) + (before mss c + k) = omega (arith, own_length make i 0 id ns) in
    let f : i + suc c ≡ suc i + c = omega arith in
    let g : id + ((length ns + before mss c) + k) ≡ (id + length ns) + (before mss c + k) = omega arith in
    rw (g, f, get_right (own_from make i 0 id ns) (all_from make (suc i) (id + length ns) mss) ((length ns + before mss c) + k) (before mss c + k) e)
    (all_get make mss (suc i) (id + length ns) c k ms m class there)

-- a function that gives each class's members, by number, gives all of them
pub all_are : {M X : Type 0} (f : ℕ → Option X) (make : ℕ → ℕ → ℕ → M → X) (mss : List (List M)) (i id : ℕ)
    → ((c k : ℕ) (ms : List M) (m : M) → slice_get mss c ≡ Some ms → slice_get ms k ≡ Some m
    → f (id + (before mss c + k)) ≡ Some (make (i + c) k (id + (before mss c + k)) m))
    → filter_map f (range_with_len id (count mss)) ≡ all_from make i id mss
all_are f make [] i id gives = refl
all_are f make (ns ∷ mss) i id gives =
    let first : filter_map f (range_with_len id (length ns)) ≡ own_from make i 0 id ns =
    rw (own_length make i 0 id ns) at (by_number f (own_from make i 0 id ns) id (λ k x is.
    let back = own_get_back make i 0 id ns k x is in
    let e : 0 + k ≡ k = omega arith in
    let z : i + 0 ≡ i = omega arith in
    let given = rw (e, z) at (gives 0 k ns back.0 refl back.1.0) in
    let made : x ≡ make i k (id + k) back.0 = rw e at back.1.1 in
    rw made given)) in
    let rest : filter_map f (range_with_len (id + length ns) (count mss)) ≡ all_from make (suc i) (id + length ns) mss =
    all_are f make mss (suc i) (id + length ns) (λ c k ms m class there.
    let e : (id + length ns) + (before mss c + k) ≡ id + ((length ns + before mss c) + k) = omega arith in
    let g : suc i + c ≡ i + suc c = omega arith in
    rw (e, g) (gives (suc c) k ms m class there)) in
    rw (range_split id (length ns) (count mss), filter_map-append) (rw (first, rest) refl)

-- ---- those of one class

own_other : {M X : Type 0} (make : ℕ → ℕ → ℕ → M → X) (class_of : X → ℕ) (test : X → Bool)
    → ((i k id : ℕ) (m : M) → class_of (make i k id m) ≡ i)
    → (c i k id : ℕ) (ms : List M) → nat_eq i c ≡ false → filter (λ x. nat_eq (class_of x) c && test x) (own_from make i k id ms) ≡ []
own_other make class_of test is c i k id [] other = refl
own_other make class_of test is c i k id (m ∷ ms) other =
    rw (is i k id m, other) (own_other make class_of test is c i (suc k) (suc id) ms other)

own_same : {M X : Type 0} (make : ℕ → ℕ → ℕ → M → X) (class_of : X → ℕ) (test : X → Bool)
    → ((i k id : ℕ) (m : M) → class_of (make i k id m) ≡ i)
    → (c i k id : ℕ) (ms : List M) → nat_eq i c ≡ true
    → filter (λ x. nat_eq (class_of x) c && test x) (own_from make i k id ms) ≡ filter test (own_from make i k id ms)
own_same make class_of test is c i k id [] same = refl
own_same make class_of test is c i k id (m ∷ ms) same =
    rw (is i k id m, same, own_same make class_of test is c i (suc k) (suc id) ms same) refl

all_later : {M X : Type 0} (make : ℕ → ℕ → ℕ → M → X) (class_of : X → ℕ) (test : X → Bool)
    → ((i k id : ℕ) (m : M) → class_of (make i k id m) ≡ i)
    → (c i id : ℕ) (mss : List (List M)) → c < i → filter (λ x. nat_eq (class_of x) c && test x) (all_from make i id mss) ≡ []
all_later make class_of test is c i id [] later = refl
all_later make class_of test is c i id (ms ∷ mss) later =
    let other : nat_eq i c ≡ false = grind (arith, nat_tests) in
    let here = own_other make class_of test is c i 0 id ms other in
    let rest = all_later make class_of test is c (suc i) (id + length ms) mss (omega arith) in
    rw (filter-append, here, rest) refl

-- of all members just a class's own are left
pub all_of_class : {M X : Type 0} (make : ℕ → ℕ → ℕ → M → X) (class_of : X → ℕ) (test : X → Bool)
    → ((i k id : ℕ) (m : M) → class_of (make i k id m) ≡ i)
    → (mss : List (List M)) (i id c : ℕ)
    → filter (λ x. nat_eq (class_of x) (i + c) && test x) (all_from make i id mss)
    ≡ filter test (own_from make (i + c) 0 (id + before mss c) (slice_index_or mss c []))
all_of_class make class_of test is [] i id c = refl
all_of_class make class_of test is (ms ∷ mss) i id zero =
    let e : i + 0 ≡ i = omega arith in
    let f : id + 0 ≡ id = omega arith in
    let same : nat_eq i i ≡ true = grind (arith, nat_tests) in
    let here = own_same make class_of test is i i 0 id ms same in
    let rest = all_later make class_of test is i (suc i) (id + length ms) mss (omega arith) in
    rw (e, f, filter-append, here, rest) (append-nil _)
all_of_class make class_of test is (ms ∷ mss) i id (suc c) =
    let other : nat_eq i (i + suc c) ≡ false = grind (arith, nat_tests) in
    let here = own_other make class_of test is (i + suc c) i 0 id ms other in
    let e : i + suc c ≡ suc i + c = omega arith in
    let f : id + (length ms + before mss c) ≡ (id + length ms) + before mss c = omega arith in
    rw (filter-append, here, e, f) (all_of_class make class_of test is mss (suc i) (id + length ms) c)

-- ---- an image whose members are numbered as they are declared

abbrev pub HasMethods : Image → Type 0
HasMethods image = image.methods ≡ all_methods_declared 0 (defs image.classes)

abbrev pub HasFields : Image → Type 0
HasFields image = image.fields ≡ all_fields_declared 0 (defs image.classes)

defs_numbered : (image : Image) (cs : List ClassDef) → defs (map (class_numbered image) cs) ≡ cs
defs_numbered image [] = refl
defs_numbered image (c ∷ cs) = ap (λ ds. c ∷ ds) (defs_numbered image cs)

pub numbered_methods : (cs : List ClassDef) (boot : ℕ) → HasMethods (numbered cs boot)
unfolding numbered
numbered_methods cs boot = ap (all_methods_declared 0) (sym (defs_numbered (declared cs boot) cs))

pub numbered_fields : (cs : List ClassDef) (boot : ℕ) → HasFields (numbered cs boot)
unfolding numbered
numbered_fields cs boot = ap (all_fields_declared 0) (sym (defs_numbered (declared cs boot) cs))

defs_slotted : (image : Image) (a : ℕ) (cs : List ClassInfo) → defs (map (class_with_slots image) (enumerate_from a cs)) ≡ defs cs
defs_slotted image a [] = refl
defs_slotted image a (c ∷ cs) = ap (λ ds. c.def ∷ ds) (defs_slotted image (a + 1) cs)

defs_tabled : (image : Image) (a : ℕ) (cs : List ClassInfo) → defs (map (class_with_table image) (enumerate_from a cs)) ≡ defs cs
defs_tabled image a [] = refl
defs_tabled image a (c ∷ cs) = ap (λ ds. c.def ∷ ds) (defs_tabled image (a + 1) cs)

-- slots leave the methods as they are
pub slotted_methods : (image : Image) → HasMethods image → HasMethods (slotted image)
unfolding slotted
slotted_methods image has = has ∙ ap (all_methods_declared 0) (sym (defs_slotted image 0 image.classes))

-- and so do tables
pub tabled_methods : (image : Image) → HasMethods image → HasMethods (tabled image)
unfolding tabled
tabled_methods image has = has ∙ ap (all_methods_declared 0) (sym (defs_tabled image 0 image.classes))

own_numbered : {M X : Type 0} (make : ℕ → ℕ → X) (i k id : ℕ) (ms : List M)
    → map (make i) (range_with_len k (length ms)) ≡ own_from (λ j l x m. make j l) i k id ms
own_numbered make i k id [] = refl
own_numbered make i k id (m ∷ ms) = let e : k + 1 ≡ suc k = omega arith in rw e (ap (λ xs. make i k ∷ xs) (own_numbered make i (suc k) (suc id) ms))

all_length : {M X : Type 0} (make : ℕ → ℕ → ℕ → M → X) (i id : ℕ) (mss : List (List M)) → length (all_from make i id mss) ≡ count mss
all_length make i id [] = refl
all_length make i id (ms ∷ mss) =
    rw (length-append, own_length make i 0 id ms, all_length make (suc i) (id + length ms) mss) refl

-- ---- fields

-- the number of a class's first field: how many fields the earlier classes have
abbrev pub first_field : List ClassInfo → ℕ → ℕ
first_field cs i = sum_by (λ c. length c.def.fields) (take i cs)

-- a field of a class, by the class, its place there and its number
abbrev pub field_of : ℕ → ℕ → ℕ → FieldDef → Field
field_of i k id f = record { id = id; info = record { class = class_id i; place = k; slot = 0 }; def = f }

abbrev pub own_fields : Image → ℕ → List Field
own_fields image i = own_from field_of i 0 (first_field image.classes i) (fields_of (slice_get image.classes i))

abbrev pub field_info : ℕ → ℕ → FieldInfo
field_info i k = record { class = class_id i; place = k; slot = 0 }

abbrev pub field_lists : List ClassInfo → List (List FieldDef)
field_lists cs = map (λ c. c.def.fields) cs

fields_before : (cs : List ClassInfo) (i : ℕ) → before (field_lists cs) i ≡ first_field cs i
fields_before [] zero = refl
fields_before [] (suc i) = refl
fields_before (c ∷ cs) zero = refl
fields_before (c ∷ cs) (suc i) = rw (sum_by-cons (λ d. length d.def.fields) c (take i cs)) (ap (λ n. length c.def.fields + n) (fields_before cs i))

fields_from : (i id : ℕ) (cs : List ClassInfo)
    → all_fields_declared i (defs cs) ≡ all_from (λ j k x m. field_info j k) i id (field_lists cs)
fields_from i id [] = refl
fields_from i id (c ∷ cs) =
    rw (own_numbered field_info i 0 id c.def.fields, fields_from (suc i) (id + length c.def.fields) cs) refl

field_list_at : (cs : List ClassInfo) (i : ℕ) → slice_index_or (field_lists cs) i [] ≡ fields_of (slice_get cs i)
field_list_at [] i = refl
field_list_at (c ∷ cs) zero = refl
field_list_at (c ∷ cs) (suc i) = field_list_at cs i

field_list_is : (cs : List ClassInfo) (i : ℕ) (fs : List FieldDef) → slice_get (field_lists cs) i ≡ Some fs → fields_of (slice_get cs i) ≡ fs
field_list_is [] i fs is = absurd (cc)
field_list_is (c ∷ cs) zero fs is = cc
field_list_is (c ∷ cs) (suc i) fs is = field_list_is cs i fs is

field_list_there : (cs : List ClassInfo) (i : ℕ) (c : ClassInfo) → slice_get cs i ≡ Some c → slice_get (field_lists cs) i ≡ Some c.def.fields
field_list_there [] i c is = absurd (cc)
field_list_there (d ∷ cs) zero c is = let same : d ≡ c = cc in rw same refl
field_list_there (d ∷ cs) (suc i) c is = field_list_there cs i c is

field_in_lists : (image : Image) → HasFields image → (i k : ℕ) (fs : List FieldDef) (f : FieldDef)
    → slice_get (field_lists image.classes) i ≡ Some fs → slice_get fs k ≡ Some f
    → field_at image (before (field_lists image.classes) i + k) ≡ Some (field_of i k (before (field_lists image.classes) i + k) f)
unfolding field_at
field_in_lists image is i k fs f class there =
    let e : 0 + i ≡ i = omega arith in
    let info = rw e at (all_get (λ j l x m. field_info j l) (field_lists image.classes) 0 0 i k fs f class there) in
    rw (is, fields_from 0 0 image.classes, info, field_list_is image.classes i fs class, there) refl

-- field k of class i has the number of the earlier classes' fields, and k
pub field_numbered : (image : Image) → HasFields image → (i k : ℕ) (c : ClassInfo) (f : FieldDef)
    → slice_get image.classes i ≡ Some c → slice_get c.def.fields k ≡ Some f
    → field_at image (first_field image.classes i + k) ≡ Some (field_of i k (first_field image.classes i + k) f)
field_numbered image is i k c f class there =
    rw (← fields_before image.classes i)
    (field_in_lists image is i k c.def.fields f (field_list_there image.classes i c class) there)

-- what stands at that number
pub field_info_numbered : (image : Image) → HasFields image → (i k : ℕ) (c : ClassInfo) (f : FieldDef)
    → slice_get image.classes i ≡ Some c → slice_get c.def.fields k ≡ Some f
    → slice_get image.fields (first_field image.classes i + k) ≡ Some (field_info i k)
field_info_numbered image is i k c f class there =
    let e : 0 + i ≡ i = omega arith in
    let info = rw e at (all_get (λ j l x m. field_info j l) (field_lists image.classes) 0 0 i k c.def.fields f (field_list_there image.classes i c class) there) in
    rw (is, fields_from 0 0 image.classes, ← fields_before image.classes i) info

fields_counted : (cs : List ClassInfo) → count (field_lists cs) ≡ sum_by (λ c. length c.def.fields) cs
fields_counted [] = refl
fields_counted (c ∷ cs) = rw (sum_by-cons (λ d. length d.def.fields) c cs) (ap (λ n. length c.def.fields + n) (fields_counted cs))

-- all fields are those of the classes
pub field_count : (image : Image) → HasFields image → length image.fields ≡ sum_by (λ c. length c.def.fields) image.classes
field_count image is =
    rw (is, fields_from 0 0 image.classes, all_length (λ j k x m. field_info j k) 0 0 (field_lists image.classes)) (fields_counted image.classes)

fields_all : (image : Image) → HasFields image → all_fields image ≡ all_from field_of 0 0 (field_lists image.classes)
fields_all image is =
    let len : length image.fields ≡ count (field_lists image.classes) =
    rw (is, fields_from 0 0 image.classes) (all_length (λ j k x m. field_info j k) 0 0 (field_lists image.classes)) in
    rw len
    (all_are (field_at image) field_of (field_lists image.classes) 0 0
    (λ i k fs f class there.
    let e : 0 + (before (field_lists image.classes) i + k) ≡ before (field_lists image.classes) i + k = omega arith in
    let z : 0 + i ≡ i = omega arith in
    rw (e, z) (field_in_lists image is i k fs f class there)))

-- of all fields just a class's own are left, in their order
pub fields_of_class : (image : Image) → HasFields image → (test : Field → Bool) (i : ℕ)
    → filter (λ f. nat_eq f.info.class.0 i && test f) (all_fields image) ≡ filter test (own_fields image i)
fields_of_class image is test i =
    let e : 0 + i ≡ i = omega arith in
    let z : 0 + before (field_lists image.classes) i ≡ before (field_lists image.classes) i = omega arith in
    rw (fields_all image is)
    (rw (e, z, field_list_at image.classes i, fields_before image.classes i) at
    (all_of_class field_of (λ f. f.info.class.0) test (λ j k id m. refl) (field_lists image.classes) 0 0 i))

-- ---- methods

-- the number of a class's first method: how many methods the earlier classes have
abbrev pub first_method : List ClassInfo → ℕ → ℕ
first_method cs i = sum_by (λ c. length c.def.methods) (take i cs)

-- a method of a class, by the class, its place there and its number
abbrev pub method_of : ℕ → ℕ → ℕ → MethodDef → Method
method_of i k id m = record { id = id; info = record { class = class_id i; place = k; types = []; fields = []; methods = [] }; def = m }

abbrev pub own_methods : Image → ℕ → List Method
own_methods image i = own_from method_of i 0 (first_method image.classes i) (methods_of (slice_get image.classes i))

abbrev pub method_info : ℕ → ℕ → MethodInfo
method_info i k = record { class = class_id i; place = k; types = []; fields = []; methods = [] }

abbrev pub method_lists : List ClassInfo → List (List MethodDef)
method_lists cs = map (λ c. c.def.methods) cs

methods_before : (cs : List ClassInfo) (i : ℕ) → before (method_lists cs) i ≡ first_method cs i
methods_before [] zero = refl
methods_before [] (suc i) = refl
methods_before (c ∷ cs) zero = refl
methods_before (c ∷ cs) (suc i) = rw (sum_by-cons (λ d. length d.def.methods) c (take i cs)) (ap (λ n. length c.def.methods + n) (methods_before cs i))

methods_from : (i id : ℕ) (cs : List ClassInfo)
    → all_methods_declared i (defs cs) ≡ all_from (λ j k x m. method_info j k) i id (method_lists cs)
methods_from i id [] = refl
methods_from i id (c ∷ cs) =
    rw (own_numbered method_info i 0 id c.def.methods, methods_from (suc i) (id + length c.def.methods) cs) refl

method_list_at : (cs : List ClassInfo) (i : ℕ) → slice_index_or (method_lists cs) i [] ≡ methods_of (slice_get cs i)
method_list_at [] i = refl
method_list_at (c ∷ cs) zero = refl
method_list_at (c ∷ cs) (suc i) = method_list_at cs i

method_list_is : (cs : List ClassInfo) (i : ℕ) (ms : List MethodDef) → slice_get (method_lists cs) i ≡ Some ms → methods_of (slice_get cs i) ≡ ms
method_list_is [] i ms is = absurd (cc)
method_list_is (c ∷ cs) zero ms is = cc
method_list_is (c ∷ cs) (suc i) ms is = method_list_is cs i ms is

method_list_there : (cs : List ClassInfo) (i : ℕ) (c : ClassInfo) → slice_get cs i ≡ Some c → slice_get (method_lists cs) i ≡ Some c.def.methods
method_list_there [] i c is = absurd (cc)
method_list_there (d ∷ cs) zero c is = let same : d ≡ c = cc in rw same refl
method_list_there (d ∷ cs) (suc i) c is = method_list_there cs i c is

method_in_lists : (image : Image) → HasMethods image → (i k : ℕ) (ms : List MethodDef) (m : MethodDef)
    → slice_get (method_lists image.classes) i ≡ Some ms → slice_get ms k ≡ Some m
    → method_at image (before (method_lists image.classes) i + k) ≡ Some (method_of i k (before (method_lists image.classes) i + k) m)
unfolding method_at
method_in_lists image is i k ms m class there =
    let e : 0 + i ≡ i = omega arith in
    let info = rw e at (all_get (λ j l x m. method_info j l) (method_lists image.classes) 0 0 i k ms m class there) in
    rw (is, methods_from 0 0 image.classes, info, method_list_is image.classes i ms class, there) refl

-- method k of class i has the number of the earlier classes' methods, and k
pub method_numbered : (image : Image) → HasMethods image → (i k : ℕ) (c : ClassInfo) (m : MethodDef)
    → slice_get image.classes i ≡ Some c → slice_get c.def.methods k ≡ Some m
    → method_at image (first_method image.classes i + k) ≡ Some (method_of i k (first_method image.classes i + k) m)
method_numbered image is i k c m class there =
    rw (← methods_before image.classes i)
    (method_in_lists image is i k c.def.methods m (method_list_there image.classes i c class) there)

-- what stands at that number
pub method_info_numbered : (image : Image) → HasMethods image → (i k : ℕ) (c : ClassInfo) (m : MethodDef)
    → slice_get image.classes i ≡ Some c → slice_get c.def.methods k ≡ Some m
    → slice_get image.methods (first_method image.classes i + k) ≡ Some (method_info i k)
method_info_numbered image is i k c m class there =
    let e : 0 + i ≡ i = omega arith in
    let info = rw e at (all_get (λ j l x m. method_info j l) (method_lists image.classes) 0 0 i k c.def.methods m (method_list_there image.classes i c class) there) in
    rw (is, methods_from 0 0 image.classes, ← methods_before image.classes i) info

methods_counted : (cs : List ClassInfo) → count (method_lists cs) ≡ sum_by (λ c. length c.def.methods) cs
methods_counted [] = refl
methods_counted (c ∷ cs) = rw (sum_by-cons (λ d. length d.def.methods) c cs) (ap (λ n. length c.def.methods + n) (methods_counted cs))

-- all methods are those of the classes
pub method_count : (image : Image) → HasMethods image → length image.methods ≡ sum_by (λ c. length c.def.methods) image.classes
method_count image is =
    rw (is, methods_from 0 0 image.classes, all_length (λ j k x m. method_info j k) 0 0 (method_lists image.classes)) (methods_counted image.classes)

methods_all : (image : Image) → HasMethods image → all_methods image ≡ all_from method_of 0 0 (method_lists image.classes)
methods_all image is =
    let len : length image.methods ≡ count (method_lists image.classes) =
    rw (is, methods_from 0 0 image.classes) (all_length (λ j k x m. method_info j k) 0 0 (method_lists image.classes)) in
    rw len
    (all_are (method_at image) method_of (method_lists image.classes) 0 0
    (λ i k ms m class there.
    let e : 0 + (before (method_lists image.classes) i + k) ≡ before (method_lists image.classes) i + k = omega arith in
    let z : 0 + i ≡ i = omega arith in
    rw (e, z) (method_in_lists image is i k ms m class there)))

-- each number is that of a method
pub methods_each : (image : Image) → HasMethods image → length (all_methods image) ≡ length image.methods
methods_each image is =
    rw (methods_all image is, is, methods_from 0 0 image.classes, all_length method_of 0 0 (method_lists image.classes))
    (sym (all_length (λ j k x m. method_info j k) 0 0 (method_lists image.classes)))

-- of all methods just a class's own are left, in their order
pub methods_of_class : (image : Image) → HasMethods image → (test : Method → Bool) (i : ℕ)
    → filter (λ m. nat_eq m.info.class.0 i && test m) (all_methods image) ≡ filter test (own_methods image i)
methods_of_class image is test i =
    let e : 0 + i ≡ i = omega arith in
    let z : 0 + before (method_lists image.classes) i ≡ before (method_lists image.classes) i = omega arith in
    rw (methods_all image is)
    (rw (e, z, method_list_at image.classes i, methods_before image.classes i) at
    (all_of_class method_of (λ m. m.info.class.0) test (λ j k id m. refl) (method_lists image.classes) 0 0 i))

-- ---- what a class declares itself

pick_step : (good : Method → Bool) (rest : Option Method) (ms : List Method) (o : Option Method) → rest ≡ find good ms
    → elim o [ None ↦ rest | Some m ↦ elim (good m) [ true ↦ Some m | false ↦ rest ] ] ≡ find good (cons_option o ms)
pick_step good rest ms None same = same
pick_step good rest ms (Some m) same = go (good m) refl
  where
    go : (b : Bool) → good m ≡ b → elim (good m) [ true ↦ Some m | false ↦ rest ] ≡ find good (m ∷ ms)
    go true e = rw e refl
    go false e = rw e same

pick_is : (image : Image) (is : List MethodInfo) (id : ℕ) (good : Method → Bool)
    → ((k : ℕ) → method_at image (id + k) ≡ with_info image (id + k) (slice_get is k))
    → pick image is id good ≡ find good (filter_map (method_at image) (range_with_len id (length is)))
pick_is image [] id good at = refl
pick_is image (i ∷ is) id good at =
    let z : id + 0 ≡ id = omega arith in
    let here : method_at image id ≡ with_info image id (Some i) = rw z at (at 0) in
    let e : id + 1 ≡ suc id = omega arith in
    let rest : pick image is (suc id) good ≡ find good (filter_map (method_at image) (range_with_len (id + 1) (length is))) =
    rw e (pick_is image is (suc id) good (λ k. let f : suc id + k ≡ id + suc k = omega arith in rw f (at (suc k)))) in
    rw here (pick_step good (pick image is (suc id) good) (filter_map (method_at image) (range_with_len (id + 1) (length is))) (with_info image id (Some i)) rest)

find_is : {X : Type 0} (test : X → Bool) (xs : List X) → find test xs ≡ slice_get (filter test xs) 0
find_is test [] = refl
find_is test (x ∷ xs) = go (test x) refl (find_is test xs)
  where
    go : (b : Bool) → test x ≡ b → find test xs ≡ slice_get (filter test xs) 0 → find test (x ∷ xs) ≡ slice_get (filter test (x ∷ xs)) 0
    go true e rest = rw e refl
    go false e rest = rw e rest

-- the first method that a class declares and a test picks, of any image
pub declared_by_is : (image : Image) (c : ℕ) (good : Method → Bool)
    → declared_by image c good ≡ find (λ m. nat_eq m.info.class.0 c && good m) (all_methods image)
unfolding method_at
declared_by_is image c good =
    pick_is image image.methods 0 (λ m. nat_eq m.info.class.0 c && good m) (λ k. let z : 0 + k ≡ k = omega arith in rw z refl)

-- and where methods are numbered
pub declared_by_own : (image : Image) → HasMethods image → (i : ℕ) (good : Method → Bool)
    → declared_by image i good ≡ find good (own_methods image i)
declared_by_own image is i good =
    rw (declared_by_is image i good, find_is (λ m. nat_eq m.info.class.0 i && good m) (all_methods image), methods_of_class image is good i)
    (sym (find_is good (own_methods image i)))
