-- The first member of all classes that a key picks is the one that the key's class declares.
use Rattle.std.specs.Prelude.{ℕ, zero, suc, ◌≡◌, ◌<◌, ◌+◌, Bool, true, false, ◌&&◌, List, [], ◌∷◌, length, take, filter, filter_map, find, sum_by, Option, Some, None, option_map, slice_get, bytes_eq, nat_eq, if◌then◌else◌}
use Rattle.std.specs.List.{range_with_len, cons_option}
use Rattle.std.specs.Option.{option_or}
use Rattle.std.proofs.Common.{refl, ap, sym, ◌∙◌, arith}
use Rattle.std.proofs.lemmas.Bool.Decides.{nat_tests}
use Rattle.std.proofs.lemmas.List.Sums.{sum_by-cons}
use Rattle.dv_defs.specs.declared.image.ClassInfo.{ClassInfo}
use Rattle.dv_defs.specs.declared.image.FieldInfo.{FieldInfo}
use Rattle.dv_defs.specs.declared.class.FieldDef.{FieldDef}
use Rattle.dv_defs.specs.declared.class.MethodDef.{MethodDef}
use Rattle.dv_defs.specs.Images.{Image}
use Rattle.dv_defs.specs.Linked.{all_fields}
use Rattle.dv_defs.specs.LookUp.{pick_field, field_declared, is_field_of, is_method_of}
use Rattle.dv_defs.specs.Types.{same_proto, ty_eq}
use Rattle.dv_defs.specs.Numbering.{class_id}
use Rattle.dv_defs.specs.Pools.{Field, declared_by, field_at, fields_of, methods_of, with_field_info}
use Rattle.law_linking.proofs.Members.{HasFields, HasMethods, own_from, own_fields, field_of, method_of, fields_of_class, declared_by_own, first_field, first_method}
use Rattle.dv_resolve.specs.declared.members.Member.{Member}
use Rattle.dv_resolve.specs.declared.members.MethodKey.{MethodKey}
use Rattle.dv_resolve.specs.declared.members.FieldKey.{FieldKey}
use Rattle.dv_resolve.specs.Firsts.{first_own, first_from, first_methods_from, first_fields_from}
use Rattle.dv_resolve.specs.Members.{of_method, of_field}

-- ---- the class of a key

-- a test of the members of one class
abbrev only : {M : Type 0} → ℕ → (M → Bool) → ℕ → M → Bool
only d test c m = nat_eq c d && test m

abbrev members_of : {M : Type 0} → (ClassInfo → List M) → Option ClassInfo → List M
members_of members None = []
members_of members (Some c) = members c

own_other : {M : Type 0} (d : ℕ) (test : M → Bool) (flags : M → ℕ) (c id : ℕ) (ms : List M) → nat_eq c d ≡ false → first_own (only d test) flags c id ms ≡ None
own_other d test flags c id [] other = refl
own_other d test flags c id (m ∷ ms) other = rw other (own_other d test flags c (suc id) ms other)

later : {M : Type 0} (members : ClassInfo → List M) (d : ℕ) (test : M → Bool) (flags : M → ℕ) (i id : ℕ) (cs : List ClassInfo) → d < i → first_from members (only d test) flags i id cs ≡ None
later members d test flags i id [] after = refl
later members d test flags i id (c ∷ cs) after =
    let other : nat_eq i d ≡ false = grind (arith, nat_tests) in
    rw (own_other d test flags i id (members c) other) (later members d test flags (suc i) (id + length (members c)) cs (omega arith))

or_nothing : {X : Type 0} (o p : Option X) → p ≡ None → option_or o p ≡ o
or_nothing None p none = none
or_nothing (Some x) p none = refl

at_class : {M : Type 0} (members : ClassInfo → List M) (d : ℕ) (test : M → Bool) (flags : M → ℕ) (i id j : ℕ) (cs : List ClassInfo) → d ≡ i + j
    → first_from members (only d test) flags i id cs ≡ first_own (only d test) flags d (id + sum_by (λ c. length (members c)) (take j cs)) (members_of members (slice_get cs j))
at_class members d test flags i id j [] is = refl
at_class members d test flags i id zero (c ∷ cs) is =
    let same : d ≡ i = omega arith in
    let e : id + 0 ≡ id = omega arith in
    or_nothing (first_own (only d test) flags i id (members c)) _ (later members d test flags (suc i) (id + length (members c)) cs (omega arith))
    ∙ (λ p. first_own (only d test) flags (sym same p) (sym e p) (members c))
at_class members d test flags i id (suc j) (c ∷ cs) is =
    let other : nat_eq i d ≡ false = grind (arith, nat_tests) in
    let e : (id + length (members c)) + sum_by (λ c. length (members c)) (take j cs) ≡ id + sum_by (λ c. length (members c)) (take (suc j) (c ∷ cs)) =
    omega (arith, sum_by-cons (λ c. length (members c)) c (take j cs)) in
    rw (own_other d test flags i id (members c) other)
    (at_class members d test flags (suc i) (id + length (members c)) j cs (omega arith)
    ∙ ap (λ n. first_own (only d test) flags d n (members_of members (slice_get cs j))) e)

-- ---- what the class declares

same_class : (d : ℕ) (b : Bool) → (nat_eq d d && b) ≡ b
same_class d b = let e : nat_eq d d ≡ true = grind (arith, nat_tests) in rw e refl

own_first : {M X : Type 0} (make : ℕ → ℕ → ℕ → M → X) (of : X → Member) (good : X → Bool) (test : M → Bool) (flags : M → ℕ) (d k id : ℕ) (ms : List M)
    → ((k id : ℕ) (m : M) → good (make d k id m) ≡ test m)
    → ((k id : ℕ) (m : M) → of (make d k id m) ≡ record { id = id; class = class_id d; flags = flags m })
    → first_own (only d test) flags d id ms ≡ option_map of (find good (own_from make d k id ms))
own_first make of good test flags d k id [] tests makes = refl
own_first {X = X} make of good test flags d k id (m ∷ ms) tests makes =
    rw (same_class d (test m)) (rw (← tests k id m) (go (good x) refl (own_first make of good test flags d (suc k) (suc id) ms tests makes)))
  where
    x : X
    x = make d k id m

    go : (b : Bool) → good (make d k id m) ≡ b → first_own (only d test) flags d (suc id) ms ≡ option_map of (find good (own_from make d (suc k) (suc id) ms))
        → (if b then Some (record { id = id; class = class_id d; flags = flags m }) else first_own (only d test) flags d (suc id) ms) ≡ option_map of (find good (make d k id m ∷ own_from make d (suc k) (suc id) ms))
    go true e rest = rw (e, makes k id m) refl
    go false e rest = rw e rest

methods_at : (o : Option ClassInfo) → members_of (λ c. c.def.methods) o ≡ methods_of o
methods_at None = refl
methods_at (Some c) = refl

fields_at : (o : Option ClassInfo) → members_of (λ c. c.def.fields) o ≡ fields_of o
fields_at None = refl
fields_at (Some c) = refl

pub keyed_method : (image : Image) → HasMethods image → (k : MethodKey)
    → first_methods_from k 0 0 image.classes ≡ option_map of_method (declared_by image k.class.0 (is_method_of k.name.now k.proto.now))
keyed_method image has k =
    let c = k.class.0 in
    let name = k.name.now in
    let proto = k.proto.now in
    let test : MethodDef → Bool = λ m. bytes_eq m.name name && same_proto m.proto proto in
    let z : 0 + first_method image.classes c ≡ first_method image.classes c = omega arith in
    at_class (λ i. i.def.methods) c test (λ m. m.flags) 0 0 c image.classes (omega arith)
    ∙ ((λ p. first_own (only c test) (λ m. m.flags) c (z p) (methods_at (slice_get image.classes c) p))
    ∙ (own_first method_of of_method (is_method_of name proto) test (λ m. m.flags) c 0 (first_method image.classes c) (methods_of (slice_get image.classes c)) (λ j id m. refl) (λ j id m. refl)
    ∙ ap (option_map of_method) (sym (declared_by_own image has c (is_method_of name proto)))))

-- ---- the field that a class declares

pick_step : (good : Field → Bool) (rest : Option Field) (fs : List Field) (o : Option Field) → rest ≡ find good fs
    → elim o [ None ↦ rest | Some f ↦ elim (good f) [ true ↦ Some f | false ↦ rest ] ] ≡ find good (cons_option o fs)
pick_step good rest fs None same = same
pick_step good rest fs (Some f) same = go (good f) refl
  where
    go : (b : Bool) → good f ≡ b → elim (good f) [ true ↦ Some f | false ↦ rest ] ≡ find good (f ∷ fs)
    go true e = rw e refl
    go false e = rw e same

pick_is : (image : Image) (is : List FieldInfo) (id : ℕ) (good : Field → Bool)
    → ((k : ℕ) → field_at image (id + k) ≡ with_field_info image (id + k) (slice_get is k))
    → pick_field image is id good ≡ find good (filter_map (field_at image) (range_with_len id (length is)))
pick_is image [] id good at = refl
pick_is image (i ∷ is) id good at =
    let z : id + 0 ≡ id = omega arith in
    let here : field_at image id ≡ with_field_info image id (Some i) = rw z at (at 0) in
    let e : id + 1 ≡ suc id = omega arith in
    let rest : pick_field image is (suc id) good ≡ find good (filter_map (field_at image) (range_with_len (id + 1) (length is))) =
    rw e (pick_is image is (suc id) good (λ k. let f : suc id + k ≡ id + suc k = omega arith in rw f (at (suc k)))) in
    rw here (pick_step good (pick_field image is (suc id) good) (filter_map (field_at image) (range_with_len (id + 1) (length is))) (with_field_info image id (Some i)) rest)

find_is : {X : Type 0} (test : X → Bool) (xs : List X) → find test xs ≡ slice_get (filter test xs) 0
find_is test [] = refl
find_is test (x ∷ xs) = go (test x) refl (find_is test xs)
  where
    go : (b : Bool) → test x ≡ b → find test xs ≡ slice_get (filter test xs) 0 → find test (x ∷ xs) ≡ slice_get (filter test (x ∷ xs)) 0
    go true e rest = rw e refl
    go false e rest = rw e rest

picked : (image : Image) (good : Field → Bool) → pick_field image image.fields 0 good ≡ find good (all_fields image)
unfolding field_at
picked image good = pick_is image image.fields 0 good (λ k. let z : 0 + k ≡ k = omega arith in rw z refl)

-- the first of the class's own fields
declared_own : (image : Image) → HasFields image → (name : List ℕ) (t : _) (c : ℕ) → field_declared image name t c ≡ find (is_field_of name t) (own_fields image c)
declared_own image has name t c =
    let good : Field → Bool = λ f. nat_eq f.info.class.0 c && is_field_of name t f in
    rw (picked image good, find_is good (all_fields image), fields_of_class image has (is_field_of name t) c)
    (sym (find_is (is_field_of name t) (own_fields image c)))

pub keyed_field : (image : Image) → HasFields image → (k : FieldKey)
    → first_fields_from k 0 0 image.classes ≡ option_map of_field (field_declared image k.name.now k.ty.now k.class.0)
keyed_field image has k =
    let c = k.class.0 in
    let name = k.name.now in
    let ty = k.ty.now in
    let test : FieldDef → Bool = λ f. bytes_eq f.name name && ty_eq f.ty ty in
    let z : 0 + first_field image.classes c ≡ first_field image.classes c = omega arith in
    at_class (λ i. i.def.fields) c test (λ f. f.flags) 0 0 c image.classes (omega arith)
    ∙ ((λ p. first_own (only c test) (λ f. f.flags) c (z p) (fields_at (slice_get image.classes c) p))
    ∙ (own_first field_of of_field (is_field_of name ty) test (λ f. f.flags) c 0 (first_field image.classes c) (fields_of (slice_get image.classes c)) (λ j id f. refl) (λ j id f. refl)
    ∙ ap (option_map of_field) (sym (declared_own image has name ty c))))
