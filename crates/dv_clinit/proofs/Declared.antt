-- The initialiser of a class, sought among an image's methods.
use Rattle.std.proofs.Common.{◌≡◌, ◌≢◌, ◌<◌, ◌≤◌, ◌+◌, ◌-◌, ℕ, zero, suc, Bool, true, false, ◌&&◌, List, [], ◌∷◌, length, get_or, drop, Option, Some, None, refl, sym, ap, ◌∙◌, arith}
use Rattle.std.specs.Prelude.{is_some, nat_eq, not, slice_get, if◌then◌else◌}
use Rattle.std.specs.List.Sorted.{IsNonDecreasingBy}
use Rattle.std.proofs.Math.Seq.{drop-cons}
use Rattle.std.proofs.lemmas.Bool.{eq-eqb}
use Rattle.std.proofs.lemmas.Bool.Decides.{nat_tests}
use Rattle.std.proofs.lemmas.List.{drop_all, get_or_default}
use Rattle.std.proofs.lemmas.Option.{get_or_from_slice_get, slice_get-get_or, slice_get_read, slice_get_within}
use Rattle.dv_defs.specs.declared.class.MethodDef.{MethodDef}
use Rattle.dv_defs.specs.declared.image.ClassInfo.{ClassInfo}
use Rattle.dv_defs.specs.declared.image.MethodInfo.{MethodInfo}
use Rattle.dv_defs.specs.Images.{Image}
use Rattle.dv_defs.specs.Pools.{Method, initialiser, is_initialiser, method_at, methods_of, pick, with_def, with_info}
use Rattle.dv_clinit.specs.Initialisers.{BeginsAt, declaring_class, if_initialiser, initialiser_at}

-- ---- one method

-- the first method that passes: this one, or one of the rest
abbrev or_rest : (Method → Bool) → Option Method → Option Method → Option Method
or_rest good None rest = rest
or_rest good (Some m) rest = elim (good m) as (λ _. Option Method) [ true ↦ Some m | false ↦ rest ]

abbrev is_of : ℕ → Method → Bool
is_of c m = nat_eq m.info.class.0 c && is_initialiser m

-- the method of a number and of the class that it tells
record IsMethodOf (info : MethodInfo) (o : Option Method) : Type 0 where
  told : (m : Method) → o ≡ Some m → m.info ≡ info

def_told : (id : ℕ) (info : MethodInfo) (def : Option MethodDef) → IsMethodOf info (with_def id info def)
def_told id info None = record { told = λ m e. absurd (cc) }
def_told id info (Some def) = record { told = λ m e. let same : record { id = id; info = info; def = def } ≡ m = cc in sym (ap (λ (x : Method). x.info) same) }

info_told : (image : Image) (id : ℕ) (info : MethodInfo) → IsMethodOf info (with_info image id (Some info))
info_told image id info = def_told id info (slice_get (methods_of (slice_get image.classes info.class.0)) info.place)

-- a method that isn't of the class is passed over
rest_by_class : (c : ℕ) (info : MethodInfo) (o rest : Option Method) → IsMethodOf info o → declaring_class info ≢ c → or_rest (is_of c) o rest ≡ rest
rest_by_class c info None rest is other = refl
rest_by_class c info (Some m) rest is other =
    let same : declaring_class m.info ≡ declaring_class info = ap declaring_class (is.told m refl) in
    let differs : nat_eq m.info.class.0 c ≡ false = grind (arith, nat_tests) in
    ap (λ b. elim (b && is_initialiser m) as (λ _. Option Method) [ true ↦ Some m | false ↦ rest ]) differs

rest_unless : (b : Bool) (m : Method) (rest : Option Method) → b ≡ false → elim b as (λ _. Option Method) [ true ↦ Some m | false ↦ rest ] ≡ rest
rest_unless true m rest fails = absurd (cc)
rest_unless false m rest fails = refl

and_false : (a b : Bool) → b ≡ false → (a && b) ≡ false
and_false true b fails = fails
and_false false b fails = refl

if_none : (b : Bool) (m : Method) → (if b then Some m else None) ≡ None → b ≡ false
if_none true m none = absurd (cc)
if_none false m none = refl

if_some : (b : Bool) (m n : Method) → (if b then Some m else None) ≡ Some n → (b ≡ true) × (m ≡ n)
if_some true m n some = (refl, cc)
if_some false m n some = absurd (cc)

-- and so is one that is no initialiser
rest_by_test : (c : ℕ) (o rest : Option Method) → if_initialiser o ≡ None → or_rest (is_of c) o rest ≡ rest
rest_by_test c None rest none = refl
rest_by_test c (Some m) rest none =
    rest_unless (is_of c m) m rest (and_false (nat_eq m.info.class.0 c) (is_initialiser m) (if_none (is_initialiser m) m none))

taken : (b : Bool) (m : Method) (rest : Option Method) → b ≡ true → elim b as (λ _. Option Method) [ true ↦ Some m | false ↦ rest ] ≡ Some m
taken true m rest passes = refl
taken false m rest passes = absurd (cc)

-- an initialiser of the class is taken
here_by_test : (c : ℕ) (info : MethodInfo) (o rest : Option Method) (m : Method) → IsMethodOf info o → declaring_class info ≡ c → if_initialiser o ≡ Some m → or_rest (is_of c) o rest ≡ Some m
here_by_test c info None rest m is same some = absurd (cc)
here_by_test c info (Some n) rest m is same some =
    let both = if_some (is_initialiser n) n m some in
    let class : declaring_class n.info ≡ c = ap declaring_class (is.told n refl) ∙ same in
    let own : nat_eq n.info.class.0 c ≡ true = eq-eqb n.info.class.0 c class in
    taken (is_of c n) n rest (ap (λ b. b && is_initialiser n) own ∙ both.0) ∙ ap Some both.1

some_rest : (good : Method → Bool) (o rest : Option Method) → is_some rest ≡ true → is_some (or_rest good o rest) ≡ true
some_rest good None rest some = some
some_rest good (Some m) rest some = by (good m)
  where
    by : (b : Bool) → is_some (elim b as (λ _. Option Method) [ true ↦ Some m | false ↦ rest ]) ≡ true
    by true = refl
    by false = some

-- ---- all methods

-- the search from a place on
abbrev pub found_from : Image → ℕ → ℕ → Option Method
found_from image c id = pick image (drop id image.methods) id (λ m. nat_eq m.info.class.0 c && is_initialiser m)

pick_cons : (image : Image) (info : MethodInfo) (infos : List MethodInfo) (id : ℕ) (good : Method → Bool) → pick image (info ∷ infos) id good ≡ or_rest good (with_info image id (Some info)) (pick image infos (suc id) good)
pick_cons image info infos id good = by (with_info image id (Some info))
  where
    by : (o : Option Method) → elim o as (λ _. Option Method) [ None ↦ pick image infos (suc id) good | Some m ↦ elim (good m) as (λ _. Option Method) [ true ↦ Some m | false ↦ pick image infos (suc id) good ] ] ≡ or_rest good o (pick image infos (suc id) good)
    by None = refl
    by (Some m) = refl

from_here : (image : Image) (c id : ℕ) (info : MethodInfo) → id < length image.methods → info ≡ get_or image.methods id info → found_from image c id ≡ or_rest (is_of c) (with_info image id (Some info)) (found_from image c (suc id))
from_here image c id info within is =
    ap (λ infos. pick image infos id (is_of c)) (drop-cons image.methods id info within) ∙
    (ap (λ x. pick image (x ∷ drop (suc id) image.methods) id (is_of c)) (sym is) ∙
    pick_cons image info (drop (suc id) image.methods) id (is_of c))

numbered_here : (image : Image) (id : ℕ) (info : MethodInfo) → id < length image.methods → info ≡ get_or image.methods id info → initialiser_at image id ≡ if_initialiser (with_info image id (Some info))
unfolding method_at
numbered_here image id info within is =
    ap (λ o. if_initialiser (with_info image id o)) (slice_get-get_or image.methods id info within ∙ ap Some (sym is))

pub other_class : (image : Image) (c id : ℕ) (info : MethodInfo) → id < length image.methods → info ≡ get_or image.methods id info → declaring_class info ≢ c → found_from image c id ≡ found_from image c (suc id)
other_class image c id info within is other =
    from_here image c id info within is ∙
    rest_by_class c info (with_info image id (Some info)) (found_from image c (suc id)) (info_told image id info) other

pub no_initialiser : (image : Image) (c id : ℕ) (info : MethodInfo) → id < length image.methods → info ≡ get_or image.methods id info → initialiser_at image id ≡ None → found_from image c id ≡ found_from image c (suc id)
no_initialiser image c id info within is none =
    from_here image c id info within is ∙
    rest_by_test c (with_info image id (Some info)) (found_from image c (suc id)) (sym (numbered_here image id info within is) ∙ none)

pub its_initialiser : (image : Image) (c id : ℕ) (info : MethodInfo) (m : Method) → id < length image.methods → info ≡ get_or image.methods id info → declaring_class info ≡ c → initialiser_at image id ≡ Some m → found_from image c id ≡ Some m
its_initialiser image c id info m within is same some =
    from_here image c id info within is ∙
    here_by_test c info (with_info image id (Some info)) (found_from image c (suc id)) m (info_told image id info) same (sym (numbered_here image id info within is) ∙ some)

pub found_past : (image : Image) (c id : ℕ) → length image.methods ≤ id → found_from image c id ≡ None
found_past image c id past = ap (λ infos. pick image infos id (is_of c)) (drop_all id image.methods past)

pub sought : (image : Image) (c : ℕ) → initialiser image c ≡ found_from image c 0
unfolding initialiser
sought image c = refl

-- ---- along the methods

item_at : (ms : List MethodInfo) (k : ℕ) → k < length ms → (info : MethodInfo) × (info ≡ get_or ms k info)
item_at [] k within = absurd (omega arith)
item_at (m ∷ ms) zero within = (m, refl)
item_at (m ∷ ms) (suc k) within = item_at ms k (omega arith)

passed_over : (image : Image) (c n : ℕ) → n ≤ length image.methods → ((k : ℕ) (d : MethodInfo) → k < n → declaring_class (get_or image.methods k d) ≢ c) → found_from image c 0 ≡ found_from image c n
passed_over image c zero within others = refl
passed_over image c (suc n) within others =
    let there = item_at image.methods n (omega arith) in
    let other : declaring_class there.0 ≢ c = λ same. others n there.0 (omega arith) (sym (ap declaring_class there.1) ∙ same) in
    passed_over image c n (omega arith) (λ k d less. others k d (omega arith)) ∙
    other_class image c n there.0 (omega arith) there.1 other

-- the search may begin where the methods of the class do
pub sought_at : (image : Image) (ms : List MethodInfo) → ms ≡ image.methods → (c k : ℕ) → k ≤ length ms → BeginsAt ms c k → initialiser image c ≡ found_from image c k
sought_at image ms are c k within begins =
    let others : (j : ℕ) (d : MethodInfo) → j < k → declaring_class (get_or image.methods j d) ≢ c =
    λ j d less same. (let below = begins.before j d less in omega (arith, below, ap (λ infos. declaring_class (get_or infos j d)) are, same)) in
    sought image c ∙ passed_over image c k (omega (arith, ap length are)) others

none_after : (image : Image) (c n id : ℕ) → id + n ≡ length image.methods → ((k : ℕ) (d : MethodInfo) → id ≤ k → k < length image.methods → declaring_class (get_or image.methods k d) ≢ c) → found_from image c id ≡ None
none_after image c zero id all others = found_past image c id (omega arith)
none_after image c (suc n) id all others =
    let there = item_at image.methods id (omega arith) in
    let other : declaring_class there.0 ≢ c = λ same. others id there.0 (omega arith) (omega arith) (sym (ap declaring_class there.1) ∙ same) in
    other_class image c id there.0 (omega arith) there.1 other ∙
    none_after image c n (suc id) (omega arith) (λ k d more within. others k d (omega arith) within)

differs_by_test : (a c : ℕ) → true ≡ not (nat_eq a c) → a ≢ c
differs_by_test a c test = grind (arith, nat_tests)

pub same_by_test : (a c : ℕ) → false ≡ not (nat_eq a c) → a ≡ c
same_by_test a c test = grind (arith, nat_tests)

-- and end where a method is of another class
pub no_more : (image : Image) (ms : List MethodInfo) → ms ≡ image.methods → IsNonDecreasingBy declaring_class ms → (c first id : ℕ) → BeginsAt ms c first → first ≤ id → id < length ms
    → (d : MethodInfo) → true ≡ not (nat_eq (declaring_class (get_or ms id d)) c) → found_from image c id ≡ None
no_more image ms are rise c first id begins after within d test =
    let other : declaring_class (get_or ms id d) ≢ c = differs_by_test (declaring_class (get_or ms id d)) c test in
    let least : c ≤ declaring_class (get_or ms id d) = begins.from id d after within in
    let there = item_at ms id within in
    let same : declaring_class there.0 ≡ declaring_class (get_or ms id d) = read_alike there.0 d there.1 in
    let others : (k : ℕ) (e : MethodInfo) → id ≤ k → k < length image.methods → declaring_class (get_or image.methods k e) ≢ c =
    λ k e more inside is.
    (let here : declaring_class (get_or ms id e) ≡ declaring_class (get_or ms id d) = reads_alike e d in
    omega (arith, other, least, here, rise id k e more (omega (arith, ap length are)), ap (λ infos. declaring_class (get_or infos k e)) are, is)) in
    none_after image c (length image.methods - id) id (omega (arith, ap length are)) others
  where
    read_alike : (x d : MethodInfo) → x ≡ get_or ms id x → declaring_class x ≡ declaring_class (get_or ms id d)
    read_alike x d is = ap declaring_class (is ∙ get_or_default ms id x d within)

    reads_alike : (e d : MethodInfo) → declaring_class (get_or ms id e) ≡ declaring_class (get_or ms id d)
    reads_alike e d = ap declaring_class (get_or_default ms id e d within)

-- a step that finds nothing
pub go_on : (image : Image) (ms : List MethodInfo) → ms ≡ image.methods → (c id : ℕ) → id < length ms → initialiser_at image id ≡ None → found_from image c id ≡ found_from image c (id + 1)
go_on image ms are c id within none =
    let inside : id < length image.methods = omega (arith, ap length are) in
    let there = item_at image.methods id inside in
    let more : suc id ≡ id + 1 = omega arith in
    no_initialiser image c id there.0 inside there.1 none ∙ ap (found_from image c) more

-- and one that finds it
pub is_here : (image : Image) (ms : List MethodInfo) → ms ≡ image.methods → (c id : ℕ) → id < length ms
    → (d : MethodInfo) → declaring_class (get_or ms id d) ≡ c → (m : Method) → initialiser_at image id ≡ Some m → found_from image c id ≡ Some m
is_here image ms are c id within d same m some =
    let inside : id < length image.methods = omega (arith, ap length are) in
    let there = item_at image.methods id inside in
    let own : declaring_class there.0 ≡ c =
    ap declaring_class (there.1 ∙ get_or_default image.methods id there.0 d inside) ∙ (sym (ap (λ infos. declaring_class (get_or infos id d)) are) ∙ same) in
    its_initialiser image c id there.0 m inside there.1 own some

-- ---- what is told of an initialiser

def_there : (id : ℕ) (info : MethodInfo) (def : Option MethodDef) (m : Method) → if_initialiser (with_def id info def) ≡ Some m → m.info ≡ info
def_there id info None m some = absurd (cc)
def_there id info (Some def) m some =
    let both = if_some (is_initialiser (record { id = id; info = info; def = def })) (record { id = id; info = info; def = def }) m some in
    sym (ap (λ (x : Method). x.info) both.1)

get_within : (cs : List ClassInfo) (c : ℕ) → slice_get cs c ≢ None → c < length cs
get_within [] c there = absurd (there refl)
get_within (x ∷ cs) zero there = omega arith
get_within (x ∷ cs) (suc c) there = let rest = get_within cs c there in omega arith

no_class : (image : Image) (id : ℕ) (info : MethodInfo) → slice_get image.classes info.class.0 ≡ None → with_info image id (Some info) ≡ None
no_class image id info none =
    ap (λ o. with_def id info (slice_get (methods_of o) info.place)) none

of_number : (image : Image) (id : ℕ) (o : Option MethodInfo) (m : Method) → if_initialiser (with_info image id o) ≡ Some m → (m.info.class.0 < length image.classes) × (o ≡ Some m.info)
of_number image id None m some = absurd (cc)
of_number image id (Some info) m some =
    let same : m.info ≡ info = def_there id info (slice_get (methods_of (slice_get image.classes info.class.0)) info.place) m some in
    let inside : info.class.0 < length image.classes =
    get_within image.classes info.class.0 (λ none. let nothing : if_initialiser (with_info image id (Some info)) ≡ None = ap if_initialiser (no_class image id info none) in absurd (cc)) in
    (omega (arith, inside, ap declaring_class same), ap Some (sym same))

-- its class is one of the image
pub class_inside : (image : Image) (id : ℕ) (m : Method) → initialiser_at image id ≡ Some m → m.info.class.0 < length image.classes
unfolding method_at
class_inside image id m some = (of_number image id (slice_get image.methods id) m some).0

its_info : (image : Image) (id : ℕ) (m : Method) → initialiser_at image id ≡ Some m → slice_get image.methods id ≡ Some m.info
unfolding method_at
its_info image id m some = (of_number image id (slice_get image.methods id) m some).1

some_before : (image : Image) (c n : ℕ) → n ≤ length image.methods → is_some (found_from image c n) ≡ true → is_some (found_from image c 0) ≡ true
some_before image c zero within some = some
some_before image c (suc n) within some =
    let there = item_at image.methods n (omega arith) in
    some_before image c n (omega arith)
    (ap is_some (from_here image c n there.0 (omega arith) there.1) ∙ some_rest (is_of c) (with_info image n (Some there.0)) (found_from image c (suc n)) some)

is_there : (o : Option Method) → is_some o ≡ true → (m : Method) × (o ≡ Some m)
is_there None some = absurd (cc)
is_there (Some m) some = (m, refl)

-- its class declares one
pub declares : (image : Image) (id : ℕ) (m : Method) → initialiser_at image id ≡ Some m → (n : Method) × (initialiser image m.info.class.0 ≡ Some n)
declares image id m some =
    let c : ℕ = m.info.class.0 in
    let info = its_info image id m some in
    let inside : id < length image.methods = slice_get_within image.methods id m.info info in
    let here : found_from image c id ≡ Some m =
    is_here image image.methods refl c id inside m.info (ap declaring_class (get_or_from_slice_get image.methods id m.info m.info info)) m some in
    let first = is_there (found_from image c 0) (some_before image c id (omega arith) (ap is_some here)) in
    (first.0, sought image c ∙ first.1)

-- a class of which no method is the initialiser declares none
none_of_them : (image : Image) (c n id : ℕ) → id + n ≡ length image.methods → ((k : ℕ) (m : Method) → k < length image.methods → initialiser_at image k ≡ Some m → m.info.class.0 ≢ c) → found_from image c id ≡ None
none_of_them image c zero id all others = found_past image c id (omega arith)
none_of_them image c (suc n) id all others =
    let inside : id < length image.methods = omega arith in
    let there = item_at image.methods id inside in
    by (initialiser_at image id) refl there.0 inside there.1 ∙ none_of_them image c n (suc id) (omega arith) others
  where
    by : (o : Option Method) → initialiser_at image id ≡ o → (info : MethodInfo) → id < length image.methods → info ≡ get_or image.methods id info → found_from image c id ≡ found_from image c (suc id)
    by None none info inside is = no_initialiser image c id info inside is none
    by (Some m) some info inside is =
        let told : slice_get image.methods id ≡ Some info = slice_get_read image.methods (length image.methods) id info refl inside is in
        let both : Some m.info ≡ Some info = sym (its_info image id m some) ∙ told in
        let same : m.info ≡ info = cc in
        other_class image c id info inside is (λ own. others id m inside some (ap declaring_class same ∙ own))

pub declares_none : (image : Image) (c : ℕ) → ((k : ℕ) (m : Method) → k < length image.methods → initialiser_at image k ≡ Some m → m.info.class.0 ≢ c) → initialiser image c ≡ None
declares_none image c others = sought image c ∙ none_of_them image c (length image.methods) 0 (omega arith) others
