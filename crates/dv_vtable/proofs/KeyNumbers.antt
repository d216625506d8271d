-- The numbers of names and prototypes that an image has are those of its classes' methods in their order.
use Rattle.std.specs.Prelude.{ℕ, zero, suc, ◌≡◌, ◌<◌, ◌≤◌, ◌+◌, Bool, List, [], ◌∷◌, ◌++◌, length, map, sum_by, filter_map, Option, Some, None, nat_eq, slice_get, option_map}
use Rattle.std.specs.List.{cons_option, position_or_len, range_with_len}
use Rattle.std.proofs.Common.{refl, ap, sym, ◌∙◌, arith, cond, not}
use Rattle.std.proofs.lemmas.List.{map-append, length-append}
use Rattle.std.proofs.lemmas.List.Sums.{sum_by-cons}
use Rattle.std.proofs.lemmas.Option.{slice_get_within, slice_get-map}
use Rattle.dv_defs.specs.declared.class.MethodDef.{MethodDef}
use Rattle.dv_defs.specs.declared.image.ClassInfo.{ClassInfo}
use Rattle.dv_defs.specs.declared.image.MethodInfo.{MethodInfo}
use Rattle.dv_defs.specs.declared.names.Proto.{Proto}
use Rattle.dv_defs.specs.Images.{Image}
use Rattle.dv_defs.specs.Pools.{Method, method_at, with_info}
use Rattle.dv_defs.specs.Selecting.{all_methods}
use Rattle.dv_defs.specs.Linked.{key_number, key_of, overrides}
use Rattle.law_linking.proofs.Members.{HasMethods, own_from, all_from, all_are, before, count, method_of, method_lists, method_numbered, method_count}
use Rattle.law_linking.proofs.TableLaws.{IsOwn}
use Rattle.dv_vtable.specs.Chains.{first_method, key_in}
use Rattle.dv_vtable.specs.Numbered as by_class
use Rattle.dv_vtable.proofs.NumberLaws.{IsAmong, method_among, numbers_tell}

-- ---- all methods

lists_before : (cs : List ClassInfo) (i : ℕ) → before (method_lists cs) i ≡ first_method cs i
lists_before [] zero = refl
lists_before [] (suc i) = refl
lists_before (c ∷ cs) zero = refl
lists_before (c ∷ cs) (suc i) = rw (sum_by-cons (λ d. length d.def.methods) c _) (ap (λ n. length c.def.methods + n) (lists_before cs i))

lists_count : (cs : List ClassInfo) → count (method_lists cs) ≡ sum_by (λ c. length c.def.methods) cs
lists_count [] = refl
lists_count (c ∷ cs) = rw (sum_by-cons (λ d. length d.def.methods) c cs) (ap (λ n. length c.def.methods + n) (lists_count cs))

list_there : (cs : List ClassInfo) (i : ℕ) (ms : List MethodDef) → slice_get (method_lists cs) i ≡ Some ms
    → (c : ClassInfo) × ((slice_get cs i ≡ Some c) × (c.def.methods ≡ ms))
list_there [] i ms is = absurd (cc)
list_there (c ∷ cs) zero ms is = (c, (refl, cc))
list_there (c ∷ cs) (suc i) ms is = list_there cs i ms is

all_listed : (image : Image) → HasMethods image → all_methods image ≡ all_from method_of 0 0 (method_lists image.classes)
all_listed image is =
    let many : length image.methods ≡ count (method_lists image.classes) = method_count image is ∙ sym (lists_count image.classes) in
    ap (λ n. filter_map (method_at image) (range_with_len 0 n)) many
    ∙ all_are (method_at image) method_of (method_lists image.classes) 0 0
    (λ c k ms m class there.
    let at = list_there image.classes c ms class in
    let own : slice_get at.0.def.methods k ≡ Some m = ap (λ ns. slice_get ns k) at.1.1 ∙ there in
    let number : before (method_lists image.classes) c ≡ first_method image.classes c = lists_before image.classes c in
    let z : 0 + (before (method_lists image.classes) c + k) ≡ first_method image.classes c + k = omega (arith, number) in
    let e : 0 + c ≡ c = omega arith in
    rw (z, e) (method_numbered image is c k at.0 m at.1.0 own))

own_defs : (i k id : ℕ) (ms : List MethodDef) → map (λ m. m.def) (own_from method_of i k id ms) ≡ ms
own_defs i k id [] = refl
own_defs i k id (m ∷ ms) = ap (λ ns. m ∷ ns) (own_defs i (suc k) (suc id) ms)

listed_defs : (i id : ℕ) (cs : List ClassInfo) → map (λ m. m.def) (all_from method_of i id (method_lists cs)) ≡ by_class.all_methods cs
listed_defs i id [] = refl
listed_defs i id (c ∷ cs) =
    map-append (λ (m : Method). m.def) (own_from method_of i 0 id c.def.methods) (all_from method_of (suc i) (id + length c.def.methods) (method_lists cs))
    ∙ (λ j. own_defs i 0 id c.def.methods j ++ listed_defs (suc i) (id + length c.def.methods) cs j)

pub all_defs : (image : Image) → HasMethods image → map (λ m. m.def) (all_methods image) ≡ by_class.all_methods image.classes
all_defs image is = ap (map (λ (m : Method). m.def)) (all_listed image is) ∙ listed_defs 0 0 image.classes

-- ---- numbers

position_made : {X Y : Type 0} (f : X → Y) (p : Y → Bool) (xs : List X) → position_or_len (λ x. p (f x)) xs ≡ position_or_len p (map f xs)
position_made f p [] = refl
position_made f p (x ∷ xs) = ap (λ n. cond (not (p (f x))) (1 + n) 0) (position_made f p xs)

pub number_is : (image : Image) → HasMethods image → (name : List ℕ) (proto : Proto)
    → key_number image name proto ≡ by_class.key_number (by_class.all_methods image.classes) (record { name = name; proto = proto })
number_is image is name proto =
    position_made (λ (m : Method). m.def) (by_class.has_key (record { name = name; proto = proto })) (all_methods image)
    ∙ ap (position_or_len (by_class.has_key (record { name = name; proto = proto }))) (all_defs image is)

pub key_of_is : (image : Image) → HasMethods image → (m : Method) → key_of image m ≡ by_class.key_number (by_class.all_methods image.classes) (key_in m.def)
key_of_is image is m = number_is image is m.def.name m.def.proto

-- ---- the method of a number

short : {X : Type 0} (f : ℕ → Option X) (a n : ℕ) → length (filter_map f (range_with_len a n)) ≤ n
short f a zero = omega arith
short {X} f a (suc n) = by (f a) (short f (a + 1) n)
  where
    by : (o : Option X) → length (filter_map f (range_with_len (a + 1) n)) ≤ n → length (cons_option o (filter_map f (range_with_len (a + 1) n))) ≤ suc n
    by None few = omega (arith, few)
    by (Some x) few = omega (arith, few)

-- where a function gives something of each number, these stand at the numbers
each_there : {X : Type 0} (f : ℕ → Option X) (a n : ℕ) → length (filter_map f (range_with_len a n)) ≡ n → (k : ℕ) → k < n
    → slice_get (filter_map f (range_with_len a n)) k ≡ f (a + k)
each_there f a zero all k within = absurd (omega arith)
each_there {X} f a (suc n) all k within = by (f a) refl (each_there f (a + 1) n) all k within
  where
    by : (o : Option X) → f a ≡ o
        → (length (filter_map f (range_with_len (a + 1) n)) ≡ n → (j : ℕ) → j < n → slice_get (filter_map f (range_with_len (a + 1) n)) j ≡ f ((a + 1) + j))
        → length (cons_option o (filter_map f (range_with_len (a + 1) n))) ≡ suc n → (k : ℕ) → k < suc n
        → slice_get (cons_option o (filter_map f (range_with_len (a + 1) n))) k ≡ f (a + k)
    by None is rest all k within = absurd (omega (arith, all, short f (a + 1) n))
    by (Some x) is rest all zero within = sym is ∙ ap f (omega arith)
    by (Some x) is rest all (suc k) within = rest (omega (arith, all)) k (omega arith) ∙ ap f (omega arith)

own_length : (i k id : ℕ) (ms : List MethodDef) → length (own_from method_of i k id ms) ≡ length ms
own_length i k id [] = refl
own_length i k id (m ∷ ms) = ap suc (own_length i (suc k) (suc id) ms)

listed_length : (i id : ℕ) (mss : List (List MethodDef)) → length (all_from method_of i id mss) ≡ count mss
listed_length i id [] = refl
listed_length i id (ms ∷ mss) =
    length-append (own_from method_of i 0 id ms) (all_from method_of (suc i) (id + length ms) mss)
    ∙ (λ j. own_length i 0 id ms j + listed_length (suc i) (id + length ms) mss j)

all_there : (image : Image) → HasMethods image → length (all_methods image) ≡ length image.methods
all_there image is =
    ap (λ (ms : List Method). length ms) (all_listed image is)
    ∙ (listed_length 0 0 (method_lists image.classes) ∙ (lists_count image.classes ∙ sym (method_count image is)))

info_there : (image : Image) (n : ℕ) (m : Method) → method_at image n ≡ Some m → n < length image.methods
unfolding method_at
info_there image n m is = by (slice_get image.methods n) refl is
  where
    by : (o : Option MethodInfo) → slice_get image.methods n ≡ o → with_info image n o ≡ Some m → n < length image.methods
    by None at is = absurd (cc)
    by (Some info) at is = slice_get_within image.methods n info at

-- a method stands among all at its number
pub def_at : (image : Image) → HasMethods image → (n : ℕ) (m : Method) → method_at image n ≡ Some m → slice_get (by_class.all_methods image.classes) n ≡ Some m.def
def_at image has n m is =
    let within = info_there image n m is in
    let z : 0 + n ≡ n = omega arith in
    ap (λ ds. slice_get ds n) (sym (all_defs image has))
    ∙ (slice_get-map (λ (m : Method). m.def) (all_methods image) n
    ∙ ap (option_map (λ (m : Method). m.def)) (each_there (method_at image) 0 (length image.methods) (all_there image has) n within ∙ (ap (method_at image) z ∙ is)))

-- ---- which methods have one number

pub own_key : (image : Image) → HasMethods image → (m : Method) → IsOwn image m → IsAmong (by_class.all_methods image.classes) (key_in m.def)
own_key image has m own = method_among (by_class.all_methods image.classes) m.id m.def (def_at image has m.id m own)

-- those that have one name and prototype
pub numbers_agree : (image : Image) → HasMethods image → (m n : Method) → IsOwn image m → nat_eq (key_of image m) (key_of image n) ≡ overrides m n
numbers_agree image has m n own =
    (λ j. nat_eq (key_of_is image has m j) (key_of_is image has n j))
    ∙ numbers_tell (by_class.all_methods image.classes) (key_in m.def) (key_in n.def) (own_key image has m own)
