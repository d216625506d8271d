-- Keys get the numbers of the first methods that have them.
use Rattle.std.proofs.Common.{◌≡◌, ◌+◌, ◌<◌, ◌≤◌, ℕ, zero, suc, Bool, true, false, cond, List, [], ◌∷◌, ◌++◌, length, map, take, drop, get_or, position, Option, Some, None, refl, sym, ap, subst, ◌∙◌, arith}
use Rattle.std.specs.Prelude.{nat_eq, nat_lt, slice_get, sum_by}
use Rattle.std.specs.List.{flat_map, position_or_len}
use Rattle.std.specs.BTreeMap.{BTreeMap, get}
use Rattle.std.specs.Ordering.{is_eq}
use Rattle.std.proofs.lemmas.Bool.Decides.{nat_tests}
use Rattle.std.proofs.lemmas.List.{take_more, take_all, take-map, drop_more, map-append, length-map, length-take-le, length_push}
use Rattle.std.proofs.lemmas.List.Concat.{length-flat_map, get_or-flat_map}
use Rattle.std.proofs.lemmas.List.Folds.{position_or_len_push}
use Rattle.std.proofs.lemmas.List.Sums.{prefix_len-le-length}
use Rattle.std.proofs.lemmas.Option.{slice_get_within, get_or_from_slice_get, slice_get_read}
use Rattle.dv_defs.specs.declared.class.MethodDef.{MethodDef}
use Rattle.dv_defs.specs.declared.image.ClassInfo.{ClassInfo}
use Rattle.dv_defs.specs.Pools.{methods_of}
use Rattle.dv_hier.proofs.Twice.{first_here, first_before}
use Rattle.dv_vtable.specs.declared.keys.MethodKey.{MethodKey}
use Rattle.dv_vtable.specs.Chains.{Key, key_in, key_told, first_method}
use Rattle.dv_vtable.specs.Firsts.{AreFirst, AreNumbered, StandAt}
use Rattle.dv_vtable.specs.Keys.{key_cmp}
use Rattle.dv_vtable.specs.Numbered.{all_methods, has_key, key_number, key_numbers_in, number_in, numbers_in}
use Rattle.dv_vtable.proofs.KeyLemmas.{equal_by_order, key_like}
use Rattle.dv_vtable.proofs.MethodNumbers.{first_more, first_within}
use Rattle.dv_vtable.proofs.NumberLaws.{number_at}
use Rattle.dv_vtable.proofs.SameKeys.{key_is, key_laws}

-- ---- one more method

place_if : ℕ → ℕ → Option ℕ
place_if place len = cond (nat_lt place len) (Some place) None

one_more : (place len : ℕ) (passes : Bool) → place ≤ len → place_if (cond (nat_eq place len) (len + cond passes 0 1) place) (len + 1) ≡ cond (nat_lt place len) (Some place) (cond passes (Some len) None)
unfolding place_if
one_more place len true h = grind (arith, nat_tests)
one_more place len false h = grind (arith, nat_tests)

-- the first of the methods and one more
position_more : (p : MethodDef → Bool) (all : List MethodDef) (i : ℕ) (m : MethodDef) → slice_get all i ≡ Some m
    → position p (take (i + 1) all) ≡ elim (position p (take i all)) as (λ _. Option ℕ) [ Some k ↦ Some k | None ↦ cond (p m) (Some i) None ]
unfolding place_if
position_more p all i m at =
    let within : i < length all = slice_get_within all i m at in
    let before : List MethodDef = take i all in
    let len : length before ≡ i = length-take-le i all (omega (arith, within)) in
    let more : take (i + 1) all ≡ before ++ m ∷ [] = take_more all i m within ∙ ap (λ n. before ++ n ∷ []) (get_or_from_slice_get all i m m at) in
    let place : ℕ = position_or_len p before in
    let pushed : position p (before ++ m ∷ []) ≡ place_if (cond (nat_eq place (length before)) (length before + cond (p m) 0 1) place) (length before + 1) =
    λ j. place_if (position_or_len_push p before m j) (length_push before m j) in
    ap (position p) more
    ∙ (pushed
    ∙ (one_more place (length before) (p m) (prefix_len-le-length _ before)
    ∙ (ap (λ n. cond (nat_lt place (length before)) (Some place) (cond (p m) (Some n) None)) len
    ∙ settled (nat_lt place (length before)) place (cond (p m) (Some i) None))))
  where
    settled : (b : Bool) (place : ℕ) (other : Option ℕ) → cond b (Some place) other ≡ elim (cond b (Some place) None) as (λ _. Option ℕ) [ Some k ↦ Some k | None ↦ other ]
    settled true place other = refl
    settled false place other = refl

-- ---- the map

-- the key of a method is known: it is an earlier one's
pub known_number : (all : List MethodDef) (known : BTreeMap MethodKey ℕ) (k : MethodKey) (m : MethodDef) (i first : ℕ) → k.name.now ≡ m.name → k.proto.now ≡ m.proto
    → slice_get all i ≡ Some m → AreFirst (take i all) known → get key_cmp known k ≡ Some first
    → (first ≡ key_number all (key_in m)) × AreFirst (take (i + 1) all) known
known_number all known k m i first name proto at are found =
    let told : key_told k ≡ key_in m = λ j. record { name = name j; proto = proto j } in
    let there : position (has_key (key_in m)) (take i all) ≡ Some first =
    ap (λ q. position (has_key q) (take i all)) (sym told) ∙ (sym (are k) ∙ found) in
    let within : i < length all = slice_get_within all i m at in
    let whole = first_before (has_key (key_in m)) all i first m there (omega (arith, within)) in (
      sym (number_at all (key_in m) first whole.0).0,
      λ q. are q ∙ sym (position_more (has_key (key_told q)) all i m at ∙ stays (key_told q) (has_key (key_told q) m) refl there),
    )
  where
    stays : (q : Key) (b : Bool) → has_key q m ≡ b → position (has_key (key_in m)) (take i all) ≡ Some first
        → elim (position (has_key q) (take i all)) as (λ _. Option ℕ) [ Some k ↦ Some k | None ↦ cond (has_key q m) (Some i) None ] ≡ position (has_key q) (take i all)
    stays q true is there =
        let same : q ≡ key_in m = key_is q (key_in m) is in
        rw (same, there) refl
    stays q false is there =
        (λ j. elim (position (has_key q) (take i all)) as (λ _. Option ℕ) [ Some k ↦ Some k | None ↦ cond (is j) (Some i) None ])
        ∙ itself (position (has_key q) (take i all))
      where
        itself : (o : Option ℕ) → elim o as (λ _. Option ℕ) [ Some k ↦ Some k | None ↦ None ] ≡ o
        itself (Some k) = refl
        itself None = refl

-- it isn't: the method is the first that has it
pub new_number : (all : List MethodDef) (known new : BTreeMap MethodKey ℕ) (k : MethodKey) (m : MethodDef) (i : ℕ) → k.name.now ≡ m.name → k.proto.now ≡ m.proto
    → slice_get all i ≡ Some m → AreFirst (take i all) known → get key_cmp known k ≡ None
    → ((q : MethodKey) → get key_cmp new q ≡ cond (is_eq (key_cmp k q)) (Some i) (get key_cmp known q))
    → (i ≡ key_number all (key_in m)) × AreFirst (take (i + 1) all) new
new_number all known new k m i name proto at are none put =
    let told : key_told k ≡ key_in m = λ j. record { name = name j; proto = proto j } in
    let absent : position (has_key (key_in m)) (take i all) ≡ None =
    ap (λ q. position (has_key q) (take i all)) (sym told) ∙ (sym (are k) ∙ none) in
    let within : i < length all = slice_get_within all i m at in
    let here : has_key (key_in m) (get_or all i m) ≡ true = ap (has_key (key_in m)) (get_or_from_slice_get all i m m at) ∙ key_laws.refl (key_in m) in (
      sym (number_at all (key_in m) i (first_here (has_key (key_in m)) all i m absent within here)).0,
      λ q. put q ∙ ((λ j. cond ((sym (equal_by_order k q) ∙ key_like k q m name proto) j) (Some i) (are q j))
          ∙ sym (position_more (has_key (key_told q)) all i m at ∙ stays (key_told q) (has_key (key_told q) m) refl absent)),
    )
  where
    stays : (q : Key) (b : Bool) → has_key q m ≡ b → position (has_key (key_in m)) (take i all) ≡ None
        → elim (position (has_key q) (take i all)) as (λ _. Option ℕ) [ Some k ↦ Some k | None ↦ cond (has_key q m) (Some i) None ]
        ≡ cond (has_key q m) (Some i) (position (has_key q) (take i all))
    stays q true is absent =
        let same : q ≡ key_in m = key_is q (key_in m) is in
        let gone : position (has_key q) (take i all) ≡ None = rw same absent in
        rw (gone, is) refl
    stays q false is absent =
        (λ j. elim (position (has_key q) (take i all)) as (λ _. Option ℕ) [ Some k ↦ Some k | None ↦ cond (is j) (Some i) None ])
        ∙ (itself (position (has_key q) (take i all)) ∙ sym (λ j. cond (is j) (Some i) (position (has_key q) (take i all))))
      where
        itself : (o : Option ℕ) → elim o as (λ _. Option ℕ) [ Some k ↦ Some k | None ↦ None ] ≡ o
        itself (Some k) = refl
        itself None = refl

-- ---- the lists of numbers

-- the turn of a loop over methods
pub numbered_next : (all : List MethodDef) (known : BTreeMap MethodKey ℕ) (ns more_ns : List ℕ) (ks new : List (Option ℕ)) (m : MethodDef) → slice_get all (length ks) ≡ Some m
    → AreFirst (take (length ks + 1) all) known → ns ≡ key_numbers_in all (take (length ks) all) → ks ≡ numbers_in all (take (length ks) all)
    → more_ns ≡ ns ++ key_number all (key_in m) ∷ [] → new ≡ ks ++ number_in all m ∷ []
    → AreNumbered all known more_ns new
numbered_next all known ns more_ns ks new m at first numbers_so_far so_far numbers_pushed pushed =
    let within : length ks < length all = slice_get_within all (length ks) m at in
    let more : take (length ks + 1) all ≡ take (length ks) all ++ m ∷ [] =
    take_more all (length ks) m within ∙ ap (λ n. take (length ks) all ++ n ∷ []) (get_or_from_slice_get all (length ks) m m at) in
    let len : length new ≡ length ks + 1 = ap (λ (xs : List (Option ℕ)). length xs) pushed ∙ length_push ks (number_in all m) in
    let keys : new ≡ numbers_in all (take (length ks + 1) all) =
    pushed ∙ (ap (λ xs. xs ++ number_in all m ∷ []) so_far
    ∙ (sym (map-append (number_in all) (take (length ks) all) (m ∷ [])) ∙ ap (numbers_in all) (sym more))) in
    let numbers : more_ns ≡ key_numbers_in all (take (length ks + 1) all) =
    numbers_pushed ∙ (ap (λ xs. xs ++ key_number all (key_in m) ∷ []) numbers_so_far
    ∙ (sym (map-append (λ n. key_number all (key_in n)) (take (length ks) all) (m ∷ [])) ∙ ap (key_numbers_in all) (sym more))) in
    record {
      first = rw len first;
      numbers = rw len numbers;
      keys = rw len keys;
    }

-- ---- all classes

pub all_count : (cs : List ClassInfo) → length (all_methods cs) ≡ sum_by (λ d. length d.def.methods) cs
all_count cs = length-flat_map (λ (d : ClassInfo). d.def.methods) cs

-- the methods of a class stand among all
pub methods_stand : (cs : List ClassInfo) (c : ℕ) (info : ClassInfo) → slice_get cs c ≡ Some info → StandAt (all_methods cs) (first_method cs c) info.def.methods
methods_stand cs c info at i m there =
    let within : c < length cs = slice_get_within cs c info at in
    let own : get_or cs c info ≡ info = get_or_from_slice_get cs c info info at in
    let inside : i < length info.def.methods = slice_get_within info.def.methods i m there in
    let first : length (flat_map (λ (d : ClassInfo). d.def.methods) (take c cs)) ≡ first_method cs c =
    length-flat_map (λ (d : ClassInfo). d.def.methods) (take c cs) in
    let got : get_or (all_methods cs) (first_method cs c + i) m ≡ m =
    ap (λ n. get_or (all_methods cs) (n + i) m) (sym first)
    ∙ (get_or-flat_map (λ (d : ClassInfo). d.def.methods) cs c i info m within (rw own inside)
    ∙ (ap (λ (d : ClassInfo). get_or d.def.methods i m) own ∙ get_or_from_slice_get info.def.methods i m m there)) in
    let room : first_method cs c + i < length (all_methods cs) = omega (arith, inside, all_count cs, first_within cs c info at) in
    slice_get_read (all_methods cs) (length (all_methods cs)) (first_method cs c + i) m refl room (sym got)

-- the turn of a loop over classes
pub next_stand : (cs : List ClassInfo) (c n : ℕ) (info : ClassInfo) (items : List MethodDef) → c < length cs → info ≡ get_or cs c info → items ≡ info.def.methods → n ≡ first_method cs c
    → StandAt (all_methods cs) n items
next_stand cs c n info items within is same first =
    subst (λ ms. StandAt (all_methods cs) n ms) (sym same)
    (subst (λ k. StandAt (all_methods cs) k info.def.methods) (sym first) (methods_stand cs c info (slice_get_read cs (length cs) c info refl within is)))

pub next_count : (cs : List ClassInfo) (c n new : ℕ) (info : ClassInfo) (items : List MethodDef) → c < length cs → info ≡ get_or cs c info → items ≡ info.def.methods → n ≡ first_method cs c
    → new ≡ n + length items → new ≡ first_method cs (c + 1)
next_count cs c n new info items within is same first more =
    more ∙ ((λ j. first j + length (same j)) ∙ sym (first_more cs c info (slice_get_read cs (length cs) c info refl within is)))

pub all_taken : (cs : List ClassInfo) (c n : ℕ) → length cs ≤ c → n ≡ first_method cs c → take n (all_methods cs) ≡ all_methods cs
all_taken cs c n over many =
    let whole : first_method cs c ≡ sum_by (λ (d : ClassInfo). length d.def.methods) cs = ap (sum_by (λ (d : ClassInfo). length d.def.methods)) (take_all c cs over) in
    let all : length (all_methods cs) ≤ n = omega (arith, all_count cs, many, whole) in
    take_all n (all_methods cs) all

-- ---- the numbers of a class

drop_map : {X Y : Type 0} (f : X → Y) (n : ℕ) (xs : List X) → drop n (map f xs) ≡ map f (drop n xs)
drop_map f zero xs = refl
drop_map f (suc n) [] = refl
drop_map f (suc n) (x ∷ xs) = drop_map f n xs

stood : (all ms : List MethodDef) (from : ℕ) → StandAt all from ms → take (length ms) (drop from all) ≡ ms
stood all [] from stand = refl
stood all (m ∷ ms) from stand =
    let at : slice_get all from ≡ Some m = ap (slice_get all) (omega arith) ∙ stand 0 m refl in
    let here : drop from all ≡ m ∷ drop (from + 1) all =
    drop_more all from m (slice_get_within all from m at) ∙ ap (λ n. n ∷ drop (from + 1) all) (get_or_from_slice_get all from m m at) in
    let rest : take (length ms) (drop (from + 1) all) ≡ ms =
    stood all ms (from + 1) (λ i n there. ap (slice_get all) (omega arith) ∙ stand (suc i) n there) in
    ap (take (suc (length ms))) here ∙ ap (λ ns. m ∷ ns) rest

pub own_room : (cs : List ClassInfo) (ks : List (Option ℕ)) (c first count : ℕ) (info : ClassInfo) → slice_get cs c ≡ Some info
    → ks ≡ numbers_in (all_methods cs) (all_methods cs) → first ≡ first_method cs c → count ≡ length info.def.methods → first + count ≤ length ks
own_room cs ks c first count info at are is many =
    let all : length ks ≡ length (all_methods cs) = ap (λ (xs : List (Option ℕ)). length xs) are ∙ length-map (all_methods cs) (number_in (all_methods cs)) in
    omega (arith, all, all_count cs, first_within cs c info at, is, many)

pub own_numbers : (cs : List ClassInfo) (ks : List (Option ℕ)) (c first count : ℕ) (info : ClassInfo) → slice_get cs c ≡ Some info
    → ks ≡ numbers_in (all_methods cs) (all_methods cs) → first ≡ first_method cs c → count ≡ length info.def.methods
    → take count (drop first ks) ≡ numbers_in (all_methods cs) (methods_of (slice_get cs c))
own_numbers cs ks c first count info at are is many =
    let all = all_methods cs in
    (λ j. take (many j) (drop (is j) (are j)))
    ∙ (ap (take (length info.def.methods)) (drop_map (number_in all) (first_method cs c) all)
    ∙ (take-map (number_in all) (length info.def.methods) (drop (first_method cs c) all)
    ∙ (ap (numbers_in all) (stood all info.def.methods (first_method cs c) (methods_stand cs c info at))
    ∙ ap (λ o. numbers_in all (methods_of o)) (sym at))))
