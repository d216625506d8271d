-- What is initialised before a class, as it is gathered.
use Rattle.std.specs.Prelude.{◌≡◌, ℕ, zero, suc, ◌+◌, ◌-◌, ◌<◌, ◌≤◌, Bool, true, false, List, [], ◌∷◌, ◌++◌, length, take, drop, get_or, map, filter, flat_map, All, Option, Some, is_some, position, option_to_list}
use Rattle.std.specs.List.{list_all, list_any, range_with_len}
use Rattle.std.proofs.Common.{refl, sym, ap, subst, ◌∙◌, ⊎_elim, cond, arith, append_assoc}
use Rattle.std.proofs.lemmas.List.{drop_all, length-map, map-append, take_all, take_more}
use Rattle.std.proofs.lemmas.List.Elements.{All-head, All-tail}
use Rattle.std.proofs.lemmas.List.FromFn.{map-range_with_len_more}
use Rattle.std.proofs.lemmas.Option.{slice_get-get_or, slice_get_read}
use Rattle.dv_defs.specs.declared.names.ClassId.{ClassId}
use Rattle.dv_defs.specs.declared.flags.Flag.TheVariants as flag
use Rattle.dv_defs.specs.declared.image.ClassInfo.{ClassInfo}
use Rattle.dv_defs.specs.Entries.{with_entry}
use Rattle.dv_defs.specs.Flags.{has_flag}
use Rattle.dv_defs.specs.Images.{Image}
use Rattle.dv_defs.specs.Linked.{priors_at}
use Rattle.dv_defs.specs.LookUp.{interfaces_at, once}
use Rattle.dv_defs.specs.Order.{has_number, interfaces_of, numbers}
use Rattle.dv_defs.specs.Pools.{class_number, flags_of, parent_of}
use Rattle.dv_defs.specs.Prior.{is_default, declares_default, downward, prior_at}
use Rattle.law_linking.specs.Ordered.{IsOrdered}
use Rattle.law_linking.specs.Stripped.{AreInRange}
use Rattle.law_linking.proofs.Reach.{number_cases, above_in}
use Rattle.law_linking.proofs.ReachPlaces.{place, place_bounded, place_rises}
use Rattle.law_linking.proofs.Upward.{interface_is_above}
use Rattle.dv_hier.specs.Interfaces.{added}
use Rattle.dv_hier.specs.Upwards.{bare, is_marked}
use Rattle.dv_hier.proofs.AddedLaws.{added_append, once_added}
use Rattle.dv_hier.proofs.AncestorLaws.{has_at}
use Rattle.dv_hier.proofs.RoundLaws.{id_eq, has_by_entry, left_numbers, one_added}
use Rattle.dv_hier.proofs.Twice.{some_place}
use Rattle.dv_vtable.specs.Priors.{IsClosed, declarers, ends_in}
use Rattle.dv_vtable.proofs.DownwardLaws.{all_has, ends_by, all_gives, added_there, added_cases, added_keeps, added_takes, down_keeps, down_closed}

-- the interfaces that a class names
abbrev pub up : List ClassInfo → ℕ → List ℕ
up infos = interfaces_at (bare infos)

pub up_in : (infos : List ClassInfo) → AreInRange infos → (c d : ℕ) → has_number d (up infos c) ≡ true → d < length infos
up_in infos range c d there = above_in (bare infos) range c d (interface_is_above (bare infos) c d there)

-- what is read of a class
pub own_is : (infos : List ClassInfo) (c : ℕ) (info : ClassInfo) (own : List ClassId) → c < length infos → own ≡ (get_or infos c info).interfaces → numbers own ≡ up infos c
own_is infos c info own within read = ap numbers read ∙ sym (ap interfaces_of (slice_get-get_or infos c info within))

pub own_range : (infos : List ClassInfo) (c : ℕ) (info : ClassInfo) (own : List ClassId) → AreInRange infos → c < length infos → own ≡ (get_or infos c info).interfaces → All (λ i. i.0 < length infos) own
own_range infos c info own range within read =
    subst (λ (ids : List ClassId). All (λ i. i.0 < length infos) ids) (sym read) (range c info within).interfaces

-- ---- interfaces that are added

-- a closed list with an interface and those above it
closed_more : (infos : List ClassInfo) (xs : List ℕ) (n c : ℕ) → AreInRange infos → IsClosed infos xs → c < length infos → ends_in (up infos) n c ≡ true → IsClosed infos (added xs (downward (up infos) n c))
closed_more infos xs n c range closed within ends = record {
  range = λ e has.
      ⊎_elim (closed.range e) (λ new. down_keeps (up infos) (λ d. d < length infos) (λ d f less there. up_in infos range d f there) n c e within new)
      (added_cases e (downward (up infos) n c) xs has);
  above = λ e d has there.
      ⊎_elim
      (λ old. added_keeps d (downward (up infos) n c) xs (closed.above e d old there))
      (λ new. added_takes d (downward (up infos) n c) xs (down_closed (up infos) n c e d ends new there))
      (added_cases e (downward (up infos) n c) xs has);
}

-- what is there before an interface is added, and what is left to add gives the whole
pub record IsAdding (infos : List ClassInfo) (steps : ℕ) (first pool whole left : List ClassId) : Type 0 where
  pub closed : IsClosed infos (numbers pool)
  pub rest : added (numbers pool) (flat_map (downward (up infos) steps) (numbers left)) ≡ added (numbers first) (flat_map (downward (up infos) steps) (numbers whole))

one_less : (infos : List ClassInfo) (steps : ℕ) (pool : List ℕ) (is : List ClassId) (k : ℕ) (d : ClassId) → k < length is
    → added pool (flat_map (downward (up infos) steps) (numbers (drop k is)))
    ≡ added (added pool (downward (up infos) steps (get_or is k d).0)) (flat_map (downward (up infos) steps) (numbers (drop (k + 1) is)))
one_less infos steps pool is k d within =
    ap (λ (ns : List ℕ). added pool (flat_map (downward (up infos) steps) ns)) (left_numbers is k d within) ∙
    added_append pool (downward (up infos) steps (get_or is k d).0) (flat_map (downward (up infos) steps) (numbers (drop (k + 1) is)))

-- an interface is there where its place is
pub there_by : (pool : List ClassId) (id : ClassId) (place : Option ℕ) → place ≡ position (id_eq id) pool → is_some place ≡ true → has_number id.0 (numbers pool) ≡ true
there_by pool id place is some = sym (has_by_entry id pool) ∙ (sym (some_place (id_eq id) pool) ∙ (ap is_some (sym is) ∙ some))

-- one that is there
pub adding_there : (infos : List ClassInfo) (steps : ℕ) (first pool is : List ClassId) (k : ℕ) (d : ClassId) → k < length is → has_number (get_or is k d).0 (numbers pool) ≡ true
    → IsAdding infos steps first pool is (drop k is) → IsAdding infos steps first pool is (drop (k + 1) is)
adding_there infos steps first pool is k d within has before = record {
  closed = before.closed;
  rest =
      sym (ap (λ (ns : List ℕ). added ns (flat_map (downward (up infos) steps) (numbers (drop (k + 1) is))))
      (added_there (downward (up infos) steps (get_or is k d).0) (numbers pool)
      (λ e new. down_keeps (up infos) (λ c. has_number c (numbers pool) ≡ true) before.closed.above steps (get_or is k d).0 e has new))) ∙
      (sym (one_less infos steps (numbers pool) is k d within) ∙ before.rest);
}

-- one that is added behind those that it extends
pub adding_new : (infos : List ClassInfo) (steps less : ℕ) (first pool next new is above : List ClassId) (k : ℕ) (d : ClassId) → k < length is → AreInRange infos → (get_or is k d).0 < length infos
    → ends_in (up infos) steps (get_or is k d).0 ≡ true → less ≡ steps - 1 → numbers above ≡ up infos (get_or is k d).0
    → numbers next ≡ added (numbers pool) (flat_map (downward (up infos) less) (numbers above)) → new ≡ with_entry id_eq next (get_or is k d)
    → IsAdding infos steps first pool is (drop k is) → IsAdding infos steps first new is (drop (k + 1) is)
adding_new infos zero less first pool next new is above k d within range inside ends fewer own made put before = absurd (cc)
adding_new infos (suc n) less first pool next new is above k d within range inside ends fewer own made put before =
    let same : less ≡ n = omega (arith, fewer) in
    let all : numbers new ≡ added (numbers pool) (downward (up infos) (suc n) (get_or is k d).0) =
    one_added (get_or is k d ∷ []) 0 d next new (added (numbers next) ((get_or is k d).0 ∷ [])) (omega arith) put refl ∙
    (ap (λ (ns : List ℕ). added ns ((get_or is k d).0 ∷ [])) (made ∙ (λ j. added (numbers pool) (flat_map (downward (up infos) (same j)) (own j)))) ∙
    sym (added_append (numbers pool) (flat_map (downward (up infos) n) (up infos (get_or is k d).0)) ((get_or is k d).0 ∷ []))) in
    record {
      closed = subst (IsClosed infos) (sym all) (closed_more infos (numbers pool) (suc n) (get_or is k d).0 range before.closed inside ends);
      rest =
          ap (λ (ns : List ℕ). added ns (flat_map (downward (up infos) (suc n)) (numbers (drop (k + 1) is)))) all ∙
          (sym (one_less infos (suc n) (numbers pool) is k d within) ∙ before.rest);
    }

-- each has been added
pub adding_done : (infos : List ClassInfo) (steps : ℕ) (first pool is : List ClassId) (k : ℕ) → length is ≤ k → IsAdding infos steps first pool is (drop k is)
    → numbers pool ≡ added (numbers first) (flat_map (downward (up infos) steps) (numbers is))
adding_done infos steps first pool is k past before =
    sym (ap (λ (ns : List ClassId). added (numbers pool) (flat_map (downward (up infos) steps) (numbers ns))) (drop_all k is past)) ∙ before.rest

-- from each class up there are fewer than there are classes
range_of : (n : ℕ) (is : List ClassId) → All (λ i. i.0 < n) is → (d : ℕ) → has_number d (numbers is) ≡ true → d < n
range_of n [] range d there = absurd (cc)
range_of n (i ∷ is) range d there =
    ⊎_elim
    (λ same. subst (λ x. x < n) same (All-head (λ (c : ClassId). c.0 < n) i is range))
    (λ later. range_of n is (All-tail (λ (c : ClassId). c.0 < n) i is range) d later)
    (number_cases d i.0 (numbers is) there)

pub ends_all : (infos : List ClassInfo) (is : List ClassId) → IsOrdered (bare infos) → All (λ i. i.0 < length infos) is → list_all (ends_in (up infos) (length infos)) (numbers is) ≡ true
ends_all infos is ordered range =
    all_has (ends_in (up infos) (length infos)) (numbers is)
    (λ d there.
    ends_by (up infos) (place (bare infos)) (λ c e above. place_rises (bare infos) ordered.range ordered.acyclic c e (interface_is_above (bare infos) c e above)) (length infos) d
    (place_bounded (bare infos) ordered.acyclic d (range_of (length infos) is range d there)))

-- from an interface up there are so few
pub ends_here : (infos : List ClassInfo) (steps k : ℕ) (is : List ClassId) (d : ClassId) → k < length is → list_all (ends_in (up infos) steps) (numbers is) ≡ true → ends_in (up infos) steps (get_or is k d).0 ≡ true
ends_here infos steps k is d within all = all_gives (ends_in (up infos) steps) (numbers is) all (get_or is k d).0 (has_at is k d within)

-- so a step is left, and from those above it there are fewer
pub a_step : (infos : List ClassInfo) (steps c : ℕ) → ends_in (up infos) steps c ≡ true → 1 ≤ steps
a_step infos zero c ends = absurd (cc)
a_step infos (suc n) c ends = omega arith

pub ends_above : (infos : List ClassInfo) (steps less c : ℕ) (above : List ClassId) → less ≡ steps - 1 → numbers above ≡ up infos c → ends_in (up infos) steps c ≡ true → list_all (ends_in (up infos) less) (numbers above) ≡ true
ends_above infos zero less c above fewer own ends = absurd (cc)
ends_above infos (suc n) less c above fewer own ends =
    let same : less ≡ n = omega (arith, fewer) in
    (λ j. list_all (ends_in (up infos) (same j)) (own j)) ∙ ends

-- a pool to which all have been added
pub all_before : (infos : List ClassInfo) (steps : ℕ) (first pool before is : List ClassId) → first ≡ [] → numbers pool ≡ added (numbers first) (flat_map (downward (up infos) steps) (numbers is)) → before ≡ pool
    → numbers before ≡ once (flat_map (downward (up infos) steps) (numbers is))
all_before infos steps first pool before is none made same =
    ap numbers same ∙ (made ∙ (ap (λ (ids : List ClassId). added (numbers ids) (flat_map (downward (up infos) steps) (numbers is))) none ∙ once_added (flat_map (downward (up infos) steps) (numbers is))))

pub nothing_closed : (infos : List ClassInfo) (first : List ClassId) → first ≡ [] → IsClosed infos (numbers first)
nothing_closed infos first none = subst (λ (ids : List ClassId). IsClosed infos (numbers ids)) (sym none) (record { range = λ c there. absurd (cc); above = λ c d there above. absurd (cc) })

pub closed_range : (infos : List ClassInfo) (pool before : List ClassId) → IsClosed infos (numbers pool) → before ≡ pool → All (λ i. i.0 < length infos) before
closed_range infos pool before closed same =
    subst (λ (ids : List ClassId). All (λ i. i.0 < length infos) ids) (sym same) (λ k d within. closed.range (get_or pool k d).0 (has_at pool k d within))

-- ---- the list of a class

numbers_both : (xs ys : List ClassId) → numbers (xs ++ ys) ≡ numbers xs ++ numbers ys
numbers_both [] ys = refl
numbers_both (x ∷ xs) ys = ap (λ ns. x.0 ∷ ns) (numbers_both xs ys)

pub parent_last : (before new : List ClassId) (parent : Option ClassId) (id : ClassId) → parent ≡ Some id → new ≡ before ++ id ∷ [] → numbers new ≡ numbers before ++ option_to_list (class_number parent)
parent_last before new parent id is made = ap numbers made ∙ (numbers_both before (id ∷ []) ∙ sym (ap (λ (o : Option ClassId). numbers before ++ option_to_list (class_number o)) is))

-- one class more of those that declare a default method
one_left : (marks : List Bool) (is : List ClassId) (k : ℕ) (d : ClassId) (b : Bool) → k < length is → is_marked marks (get_or is k d).0 ≡ b
    → filter (is_marked marks) (numbers (drop k is)) ≡ cond b ((get_or is k d).0 ∷ filter (is_marked marks) (numbers (drop (k + 1) is))) (filter (is_marked marks) (numbers (drop (k + 1) is)))
one_left marks is k d b within marked =
    ap (filter (is_marked marks)) (left_numbers is k d within) ∙
    ap (λ (x : Bool). cond x ((get_or is k d).0 ∷ filter (is_marked marks) (numbers (drop (k + 1) is))) (filter (is_marked marks) (numbers (drop (k + 1) is)))) marked

pub declarer_more : (marks : List Bool) (before new is : List ClassId) (k : ℕ) (d : ClassId) (whole : List ℕ) → k < length is → is_marked marks (get_or is k d).0 ≡ true → new ≡ before ++ get_or is k d ∷ []
    → numbers before ++ filter (is_marked marks) (numbers (drop k is)) ≡ whole → numbers new ++ filter (is_marked marks) (numbers (drop (k + 1) is)) ≡ whole
declarer_more marks before new is k d whole within marked made kept =
    let rest : List ℕ = filter (is_marked marks) (numbers (drop (k + 1) is)) in
    ap (λ (ns : List ℕ). ns ++ rest) (ap numbers made ∙ numbers_both before (get_or is k d ∷ [])) ∙
    (append_assoc (numbers before) ((get_or is k d).0 ∷ []) rest ∙
    (sym (ap (λ (ns : List ℕ). numbers before ++ ns) (one_left marks is k d true within marked)) ∙ kept))

pub other_more : (marks : List Bool) (before is : List ClassId) (k : ℕ) (d : ClassId) (whole : List ℕ) → k < length is → is_marked marks (get_or is k d).0 ≡ false
    → numbers before ++ filter (is_marked marks) (numbers (drop k is)) ≡ whole → numbers before ++ filter (is_marked marks) (numbers (drop (k + 1) is)) ≡ whole
other_more marks before is k d whole within unmarked kept =
    sym (ap (λ (ns : List ℕ). numbers before ++ ns) (one_left marks is k d false within unmarked)) ∙ kept

-- what is known of the first classes
pub declarers_more : (infos : List ClassInfo) (i : ℕ) (info : ClassInfo) (declares : Bool) (old new : List Bool) → i < length infos → info ≡ get_or infos i info → declares ≡ list_any is_default info.def.methods
    → old ≡ declarers (take i infos) → new ≡ old ++ declares ∷ [] → new ≡ declarers (take (i + 1) infos)
declarers_more infos i info declares old new within read is before made =
    made ∙ ((λ j. before j ++ (is ∙ ap (λ (c : ClassInfo). list_any is_default c.def.methods) read) j ∷ []) ∙
    sym (ap declarers (take_more infos i info within) ∙ map-append (λ (c : ClassInfo). list_any is_default c.def.methods) (take i infos) (get_or infos i info ∷ [])))

pub declarers_all : (infos : List ClassInfo) (i : ℕ) (made : List Bool) → length infos ≤ i → made ≡ declarers (take i infos) → made ≡ declarers infos
declarers_all infos i made past before = before ∙ ap declarers (take_all i infos past)

pub declarers_range : (infos : List ClassInfo) (declares : List Bool) (before own : List ClassId) → declares ≡ declarers infos → own ≡ before → All (λ i. i.0 < length infos) before → All (λ i. i.0 < length declares) own
declarers_range infos declares before own is same range =
    let many : length infos ≡ length declares = sym (ap length is ∙ length-map infos (λ (c : ClassInfo). list_any is_default c.def.methods)) in
    subst (λ (ids : List ClassId). All (λ i. i.0 < length declares) ids) (sym same) (subst (λ n. All (λ (i : ClassId). i.0 < n) before) many range)

marks_are : (infos : List ClassInfo) (d : ℕ) → is_marked (declarers infos) d ≡ declares_default (bare infos) d
marks_are [] d = refl
marks_are (i ∷ is) zero = refl
marks_are (i ∷ is) (suc d) = marks_are is d

filter_same : (p q : ℕ → Bool) (xs : List ℕ) → ((x : ℕ) → p x ≡ q x) → filter p xs ≡ filter q xs
filter_same p q xs same = (λ j. filter (λ x. same x j) xs)

made_again : (ids : List ClassId) → ids ≡ map (λ p. record { 0 = p }) (numbers ids)
made_again [] = refl
made_again (i ∷ is) = ap (λ (ids : List ClassId). i ∷ ids) (made_again is)

-- what a class says
abbrev prior_of : List ClassInfo → Option ClassInfo → List ℕ
prior_of infos o =
    elim (has_flag (flags_of o) flag.Interface) as (λ _. List ℕ) [
      | true ↦ []
      | false ↦ option_to_list (parent_of o) ++ filter (declares_default (bare infos)) (once (flat_map (downward (up infos) (length infos)) (interfaces_of o)))
    ]

-- before an interface nothing
pub none_before : (infos : List ClassInfo) (class : ℕ) (info : ClassInfo) (first : List ClassId) → class < length infos → info ≡ get_or infos class info → has_flag info.def.flags flag.Interface ≡ true
    → first ≡ [] → first ≡ priors_at (bare infos) class
none_before infos class info first within is interface none =
    let rest : List ℕ = option_to_list (class_number info.parent) ++ filter (declares_default (bare infos)) (once (flat_map (downward (up infos) (length infos)) (numbers info.interfaces))) in
    let aim : prior_at (bare infos) class ≡ [] =
    ap (prior_of infos) (slice_get_read infos (length infos) class info refl within is) ∙ ap (λ (b : Bool). elim b as (λ _. List ℕ) [ true ↦ [] | false ↦ rest ]) interface in
    none ∙ sym (ap (λ (ns : List ℕ). map (λ p. record { 0 = p }) ns) aim)

pub priors_are : (infos : List ClassInfo) (declares : List Bool) (class : ℕ) (info : ClassInfo) (own before first more all : List ClassId) → class < length infos → info ≡ get_or infos class info
    → has_flag info.def.flags flag.Interface ≡ false → own ≡ info.interfaces → numbers before ≡ once (flat_map (downward (up infos) (length infos)) (numbers own)) → first ≡ []
    → numbers more ≡ numbers first ++ option_to_list (class_number info.parent) → numbers all ≡ numbers more ++ filter (is_marked declares) (numbers before)
    → declares ≡ declarers infos → all ≡ priors_at (bare infos) class
priors_are infos declares class info own before first more all within is not_interface read listed none parent gathered marks =
    let found : List ℕ = once (flat_map (downward (up infos) (length infos)) (numbers info.interfaces)) in
    let kept : List ℕ = filter (declares_default (bare infos)) found in
    let made : numbers all ≡ option_to_list (class_number info.parent) ++ kept =
    gathered ∙
    ((λ j. (parent ∙ ap (λ (ids : List ClassId). numbers ids ++ option_to_list (class_number info.parent)) none) j
    ++ filter (is_marked (marks j)) ((listed ∙ ap (λ (ids : List ClassId). once (flat_map (downward (up infos) (length infos)) (numbers ids))) read) j)) ∙
    ap (λ (ns : List ℕ). option_to_list (class_number info.parent) ++ ns) (filter_same (is_marked (declarers infos)) (declares_default (bare infos)) found (marks_are infos))) in
    let aim : prior_at (bare infos) class ≡ option_to_list (class_number info.parent) ++ kept =
    ap (prior_of infos) (slice_get_read infos (length infos) class info refl within is) ∙
    ap (λ (b : Bool). elim b as (λ _. List ℕ) [ true ↦ [] | false ↦ option_to_list (class_number info.parent) ++ kept ]) not_interface in
    made_again all ∙ ap (λ (ns : List ℕ). map (λ p. record { 0 = p }) ns) (made ∙ sym aim)

-- ---- the lists of all classes

pub priors_more : (infos : List ClassInfo) (n : ℕ) (prior made : List ClassId) (lists new : List (List ClassId)) → prior ≡ priors_at (bare infos) n → made ≡ prior
    → lists ≡ map (priors_at (bare infos)) (range_with_len 0 n) → new ≡ lists ++ made ∷ [] → new ≡ map (priors_at (bare infos)) (range_with_len 0 (n + 1))
priors_more infos n prior made lists new is same so_far put =
    put ∙ ((λ j. so_far j ++ (same ∙ is) j ∷ []) ∙ sym (map-range_with_len_more (priors_at (bare infos)) 0 n n (omega arith)))

pub priors_done : (image : Image) (infos : List ClassInfo) (n : ℕ) (lists : List (List ClassId)) → image.classes ≡ infos → n ≡ length infos
    → lists ≡ map (priors_at (bare infos)) (range_with_len 0 n) → lists ≡ map (priors_at image) (range_with_len 0 (length infos))
priors_done image infos n lists classes whole made =
    made ∙ (ap (λ m. map (priors_at (bare infos)) (range_with_len 0 m)) whole ∙ ap (λ (cs : List ClassInfo). map (priors_at (bare cs)) (range_with_len 0 (length infos))) (sym classes))
