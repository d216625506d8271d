-- One more interface, one more class, one more round of lists.
use Rattle.std.proofs.Common.{◌≡◌, ◌+◌, ◌<◌, ◌≤◌, ℕ, zero, suc, Bool, true, false, ◌&&◌, ◌||◌, List, [], ◌∷◌, ◌++◌, length, take, drop, get_or, set, map, flat_map, position, is_some, not, Option, Some, None, option_map, refl, sym, ap, subst, ◌∙◌, ⊎_elim, arith}
use Rattle.std.specs.Prelude.{nat_eq, nat_lt, slice_get}
use Rattle.std.specs.List.{list_any}
use Rattle.std.proofs.lemmas.List.{drop_more, take_more, take_all, map-append, length-map, length-set, get_or-map, get_or_past, get_or-set_same}
use Rattle.std.proofs.lemmas.Option.{slice_get_read, slice_get_past, slice_get-get_or, slice_get-map}
use Rattle.dv_defs.specs.declared.names.ClassId.{ClassId}
use Rattle.dv_defs.specs.declared.image.ClassInfo.{ClassInfo}
use Rattle.dv_defs.specs.contracts.names.ClassIdPartialEq.TheImpl as of_id
use Rattle.dv_defs.specs.Entries.{with_entry}
use Rattle.dv_defs.specs.Images.{Image}
use Rattle.dv_defs.specs.Order.{has_number, numbers, interfaces_of}
use Rattle.dv_defs.specs.LookUp.{upward, interfaces_at, interfaces_above, once}
use Rattle.dv_hier.proofs.Twice.{some_place}
use Rattle.law_linking.specs.Ordered.{IsOrdered}
use Rattle.law_linking.proofs.Reach.{number_first, number_later, above_in, less_or_not}
use Rattle.law_linking.proofs.ReachPlaces.{place, place_bounded, place_rises}
use Rattle.dv_hier.specs.Interfaces.{added, Lists, has_list, is_listed, are_ready, listed_in, list_of, listed, AreRight, unlisted, or_empty}
use Rattle.dv_hier.proofs.AddedLaws.{added_append}
use Rattle.dv_hier.proofs.InterfaceLaws.{listed_right, all_kept, interface_above}

-- ---- a pool with one more class

abbrev pub id_eq : ClassId → ClassId → Bool
id_eq = (of_id.ghosts).eq

numbers_last : (xs : List ClassId) (x : ClassId) → numbers (xs ++ x ∷ []) ≡ numbers xs ++ x.0 ∷ []
numbers_last [] x = refl
numbers_last (y ∷ ys) x = ap (λ ns. y.0 ∷ ns) (numbers_last ys x)

pub has_by_entry : (x : ClassId) (xs : List ClassId) → list_any (id_eq x) xs ≡ has_number x.0 (numbers xs)
has_by_entry x [] = refl
has_by_entry x (y ∷ ys) = here (id_eq x y) (nat_eq y.0 x.0) (grind arith) (has_by_entry x ys)
  where
    here : (a b : Bool) → a ≡ b → list_any (id_eq x) ys ≡ has_number x.0 (numbers ys) → (a || list_any (id_eq x) ys) ≡ elim b as (λ _. Bool) [ true ↦ true | false ↦ has_number x.0 (numbers ys) ]
    here true true same rest = refl
    here true false same rest = absurd (cc)
    here false true same rest = absurd (cc)
    here false false same rest = rest

entry_step : (xs : List ClassId) (x : ClassId) (ys : List ℕ) → added (numbers (with_entry id_eq xs x)) ys ≡ added (numbers xs) (x.0 ∷ ys)
entry_step xs x ys = here (position (id_eq x) xs) (has_number x.0 (numbers xs)) (some_place (id_eq x) xs ∙ has_by_entry x xs)
  where
    here : (o : Option ℕ) (b : Bool) → is_some o ≡ b
        → added (numbers (elim o as (λ _. List ClassId) [ None ↦ xs ++ x ∷ [] | Some k ↦ xs ])) ys ≡ elim b as (λ _. List ℕ) [ true ↦ added (numbers xs) ys | false ↦ added (numbers xs ++ x.0 ∷ []) ys ]
    here None true same = absurd (cc)
    here None false same = ap (λ ns. added ns ys) (numbers_last xs x)
    here (Some k) true same = refl
    here (Some k) false same = absurd (cc)

-- what is left of a list of classes, by numbers
pub left_numbers : (cs : List ClassId) (i : ℕ) (d : ClassId) → i < length cs → numbers (drop i cs) ≡ (get_or cs i d).0 ∷ numbers (drop (i + 1) cs)
left_numbers cs i d within = ap numbers (drop_more cs i d within)

pub one_added : (cs : List ClassId) (i : ℕ) (d : ClassId) (pool new : List ClassId) (whole : List ℕ) → i < length cs → new ≡ with_entry id_eq pool (get_or cs i d) → added (numbers pool) (numbers (drop i cs)) ≡ whole → added (numbers new) (numbers (drop (i + 1) cs)) ≡ whole
one_added cs i d pool new whole within made before =
    ap (λ (p : List ClassId). added (numbers p) (numbers (drop (i + 1) cs))) made ∙ (entry_step pool (get_or cs i d) (numbers (drop (i + 1) cs)) ∙
    (sym (ap (added (numbers pool)) (left_numbers cs i d within)) ∙ before))

-- a pool with a class and those that are listed for it
pub one_listed : (lists : Lists) (cs : List ClassId) (i : ℕ) (d : ClassId) (pool new : List ClassId) (next whole : List ℕ) → i < length cs → new ≡ with_entry id_eq pool (get_or cs i d) → next ≡ added (numbers new) (list_of lists (get_or cs i d).0)
    → added (numbers pool) (flat_map (λ c. c ∷ list_of lists c) (numbers (drop i cs))) ≡ whole → added next (flat_map (λ c. c ∷ list_of lists c) (numbers (drop (i + 1) cs))) ≡ whole
one_listed lists cs i d pool new next whole within made more before =
    let rest : List ℕ = flat_map (λ c. c ∷ list_of lists c) (numbers (drop (i + 1) cs)) in
    let own : List ℕ = list_of lists (get_or cs i d).0 in
    ap (λ (ns : List ℕ). added ns rest) more ∙ (sym (added_append (numbers new) own rest) ∙
    (ap (λ (p : List ClassId). added (numbers p) (own ++ rest)) made ∙ (entry_step pool (get_or cs i d) (own ++ rest) ∙
    (sym (ap (λ (ns : List ℕ). added (numbers pool) (flat_map (λ c. c ∷ list_of lists c) ns)) (left_numbers cs i d within)) ∙ before))))

pub one_ready : (lists : Lists) (cs : List ClassId) (i : ℕ) (d : ClassId) (b : Bool) → i < length cs → is_listed lists (get_or cs i d).0 ≡ b → are_ready lists (numbers (drop i cs)) ≡ (b && are_ready lists (numbers (drop (i + 1) cs)))
one_ready lists cs i d b within has = ap (are_ready lists) (left_numbers cs i d within) ∙ ap (λ (x : Bool). x && are_ready lists (numbers (drop (i + 1) cs))) has

-- what a read past the end of a list gives
abbrev pub nobody : ClassId
nobody = record { 0 = 0 }

-- nothing is found past the end
pub absent_at : {X : Type 0} (lists : Lists) (c : ℕ) (o : Option X) → is_some o ≡ nat_lt c (length lists) → o ≡ None → is_listed lists c ≡ false
absent_at {X} lists c o found is = ap has_list (slice_get_past lists c (let past : nat_lt c (length lists) ≡ false = sym found ∙ ap is_some is in grind (arith, past)))

-- what is found at a place
pub found_at : (lists : Lists) (c : ℕ) (o : Option (List ClassId)) → c < length lists → o ≡ get_or lists c o → slice_get lists c ≡ Some o
found_at lists c o within is = slice_get_read lists (length lists) c o refl within is

-- a class is listed where a list is found
pub listed_at : (lists : Lists) (c : ℕ) (o : Option (List ClassId)) → c < length lists → o ≡ get_or lists c o → is_listed lists c ≡ is_some o
listed_at lists c o within is = ap has_list (found_at lists c o within is) ∙ here o
  where
    here : (o : Option (List ClassId)) → has_list (Some o) ≡ is_some o
    here None = refl
    here (Some ids) = refl

-- ---- no lists

pub one_unlisted : (infos : List ClassInfo) (i : ℕ) (d : ClassInfo) (lists next : Lists) → i < length infos → lists ≡ map unlisted (take i infos) → next ≡ lists ++ None ∷ [] → next ≡ map unlisted (take (i + 1) infos)
one_unlisted infos i d lists next within before made =
    made ∙ (ap (λ (ls : Lists). ls ++ None ∷ []) before ∙ sym (ap (map unlisted) (take_more infos i d within) ∙ map-append unlisted (take i infos) (get_or infos i d ∷ [])))

pub all_unlisted : (infos : List ClassInfo) (i : ℕ) (lists : Lists) → length infos ≤ i → lists ≡ map unlisted (take i infos) → lists ≡ map unlisted infos
all_unlisted infos i lists past before = before ∙ ap (map unlisted) (take_all i infos past)

-- ---- a class's list is put

by_last : {Y : Type 0} (c k : ℕ) → c < k + 1 → (c < k → Y) → (k ≡ c → Y) → Y
by_last c k less before last = ⊎_elim before (λ no. last (omega (arith, less, no))) (less_or_not c k)

slice_other : {X : Type 0} (xs : List X) (i j : ℕ) (y : X) → nat_eq i j ≡ false → slice_get (set xs i y) j ≡ slice_get xs j
slice_other [] i j y other = refl
slice_other (x ∷ xs) zero zero y other = absurd (cc)
slice_other (x ∷ xs) zero (suc j) y other = refl
slice_other (x ∷ xs) (suc i) zero y other = refl
slice_other (x ∷ xs) (suc i) (suc j) y other = slice_other xs i j y (grind (arith, other))

slice_same : {X : Type 0} (xs : List X) (i : ℕ) (y : X) → i < length xs → slice_get (set xs i y) i ≡ Some y
slice_same xs i y within =
    slice_get_read (set xs i y) (length (set xs i y)) i y refl (omega (arith, within, length-set xs i y)) (sym (get_or-set_same xs i y y within))

-- what a round over the classes has kept and done, before a class
pub record IsRound (infos : List ClassInfo) (first lists : Lists) (whole : Bool) (class : ℕ) : Type 0 where
  pub same : length lists ≡ length infos
  pub right : (image : Image) → image.classes ≡ infos → IsOrdered image → AreRight image first → AreRight image lists
  pub kept : (c : ℕ) → is_listed first c ≡ true → is_listed lists c ≡ true
  pub ready : (c : ℕ) → c < class → are_ready first (interfaces_of (slice_get infos c)) ≡ true → is_listed lists c ≡ true
  pub all : whole ≡ true → (c : ℕ) → c < class → is_listed lists c ≡ true

pub round_start : (infos : List ClassInfo) (lists : Lists) → length lists ≡ length infos → IsRound infos lists lists true 0
round_start infos lists same = record {
  same = same;
  right = λ image is o right. right;
  kept = λ c has. has;
  ready = λ c less has. absurd (omega (arith, less));
  all = λ w c less. absurd (omega (arith, less));
}

-- the class has its list already
pub round_listed : (infos : List ClassInfo) (first lists : Lists) (whole : Bool) (k : ℕ) → IsRound infos first lists whole k → is_listed lists k ≡ true → IsRound infos first lists whole (k + 1)
round_listed infos first lists whole k r has = record {
  same = r.same;
  right = r.right;
  kept = r.kept;
  ready = λ c less ready. by_last c k less (λ before. r.ready c before ready) (λ e. subst (λ x. is_listed lists x ≡ true) e has);
  all = λ w c less. by_last c k less (λ before. r.all w c before) (λ e. subst (λ x. is_listed lists x ≡ true) e has);
}

-- the class stays without a list
pub round_open : (infos : List ClassInfo) (first lists : Lists) (whole : Bool) (k : ℕ) → IsRound infos first lists whole k → are_ready lists (interfaces_of (slice_get infos k)) ≡ false → IsRound infos first lists false (k + 1)
round_open infos first lists whole k r lacks = record {
  same = r.same;
  right = r.right;
  kept = r.kept;
  ready = λ c less ready. by_last c k less (λ before. r.ready c before ready)
      (λ e. absurd (let has : are_ready lists (interfaces_of (slice_get infos k)) ≡ true = all_kept first lists r.kept (interfaces_of (slice_get infos k)) (subst (λ x. are_ready first (interfaces_of (slice_get infos x)) ≡ true) (sym e) ready) in cc));
  all = λ w. absurd (cc);
}

-- the class gets its list
pub round_put : (infos : List ClassInfo) (first lists new : Lists) (whole : Bool) (k : ℕ) (own : List ClassId) (is : List ℕ) → IsRound infos first lists whole k → k < length infos → new ≡ set lists k (Some own) → numbers own ≡ listed lists is → is ≡ interfaces_of (slice_get infos k) → are_ready lists is ≡ true → IsRound infos first new whole (k + 1)
round_put infos first lists new whole k own is r within made list given ready = record {
  same = ap length made ∙ (length-set lists k (Some own) ∙ r.same);
  right = λ image classes o right c has. right_at image classes o right c has (nat_eq k c) refl;
  kept = λ c has. kept_at c (r.kept c has) (nat_eq k c) refl;
  ready = λ c less ready. by_last c k less (λ before. kept_at c (r.ready c before ready) (nat_eq k c) refl) (λ e. subst (λ x. is_listed new x ≡ true) e here);
  all = λ w c less. by_last c k less (λ before. kept_at c (r.all w c before) (nat_eq k c) refl) (λ e. subst (λ x. is_listed new x ≡ true) e here);
}
  where
    at : slice_get new k ≡ Some (Some own)
    at = ap (λ (ls : Lists). slice_get ls k) made ∙ slice_same lists k (Some own) (omega (arith, within, r.same))

    other : (c : ℕ) → nat_eq k c ≡ false → slice_get new c ≡ slice_get lists c
    other c differs = ap (λ (ls : Lists). slice_get ls c) made ∙ slice_other lists k c (Some own) differs

    here : is_listed new k ≡ true
    here = ap has_list at

    kept_at : (c : ℕ) → is_listed lists c ≡ true → (b : Bool) → nat_eq k c ≡ b → is_listed new c ≡ true
    kept_at c has true same = let e : k ≡ c = grind (arith, same) in subst (λ x. is_listed new x ≡ true) e here
    kept_at c has false differs = ap has_list (other c differs) ∙ has

    right_at : (image : Image) → image.classes ≡ infos → IsOrdered image → AreRight image first → (c : ℕ) → is_listed new c ≡ true → (b : Bool) → nat_eq k c ≡ b → list_of new c ≡ once (interfaces_above image c)
    right_at image classes o right c has true same =
        let e : k ≡ c = grind (arith, same) in
        subst (λ x. list_of new x ≡ once (interfaces_above image x)) e
        (ap listed_in at ∙ (list ∙ listed_right image o lists (r.right image classes o right) k is (given ∙ ap (λ (cs : List ClassInfo). interfaces_of (slice_get cs k)) (sym classes)) ready))
    right_at image classes o right c has false differs =
        ap listed_in (other c differs) ∙ r.right image classes o right c (sym (ap has_list (other c differs)) ∙ has)

-- ---- rounds

ready_all : (lists : Lists) (cs : List ℕ) → ((d : ℕ) → has_number d cs ≡ true → is_listed lists d ≡ true) → are_ready lists cs ≡ true
ready_all lists [] each = refl
ready_all lists (c ∷ cs) each = (λ j. each c (number_first c cs) j && ready_all lists cs (λ d has. each d (number_later d c cs has)) j)

-- after so many rounds: the lists are right, and each class with a lower place has one
pub record AreFilled (infos : List ClassInfo) (lists : Lists) (rounds : ℕ) : Type 0 where
  pub same : length lists ≡ length infos
  pub right : (image : Image) → image.classes ≡ infos → IsOrdered image → AreRight image lists
  pub reached : (image : Image) → image.classes ≡ infos → IsOrdered image → (c : ℕ) → c < length infos → place image c < rounds → is_listed lists c ≡ true

pub filled_start : (infos : List ClassInfo) (lists : Lists) → lists ≡ map unlisted infos → AreFilled infos lists 0
filled_start infos lists made = record {
  same = ap length made ∙ length-map infos unlisted;
  right = λ image is o c has. absurd (let lacks : is_listed lists c ≡ false = none c in cc);
  reached = λ image is o c within less. absurd (omega (arith, less));
}
  where
    none_in : (o : Option ClassInfo) → has_list (option_map unlisted o) ≡ false
    none_in None = refl
    none_in (Some i) = refl

    none : (c : ℕ) → is_listed lists c ≡ false
    none c = ap (λ (ls : Lists). is_listed ls c) made ∙ (ap has_list (slice_get-map unlisted infos c) ∙ none_in (slice_get infos c))

pub filled_more : (infos : List ClassInfo) (lists new : Lists) (k : ℕ) → AreFilled infos lists k → length new ≡ length infos
    → ((image : Image) → image.classes ≡ infos → IsOrdered image → AreRight image lists → AreRight image new)
    → ((c : ℕ) → c < length infos → are_ready lists (interfaces_of (slice_get infos c)) ≡ true → is_listed new c ≡ true)
    → AreFilled infos new (k + 1)
filled_more infos lists new k f same right ready = record {
  same = same;
  right = λ image is o. right image is o (f.right image is o);
  reached = λ image is o c within less.
      ready c within (subst (λ (cs : List ClassInfo). are_ready lists (interfaces_of (slice_get cs c)) ≡ true) is (ready_all lists (interfaces_at image c) (λ d has.
      let up = interface_above image c d has in
      let rises = place_rises image o.range o.acyclic c d up in
      let inside = above_in image o.range c d up in
      f.reached image is o d (omega (arith, inside, ap length is)) (omega (arith, rises, less)))));
}

pub filled_whole : (infos : List ClassInfo) (lists : Lists) (k : ℕ) → AreFilled infos lists k → length infos ≤ k → (image : Image) → image.classes ≡ infos → IsOrdered image → (c : ℕ) → c < length infos → is_listed lists c ≡ true
filled_whole infos lists k f past image is o c within =
    let count = ap length is in
    let bounded = place_bounded image o.acyclic c (omega (arith, within, count)) in
    f.reached image is o c within (omega (arith, bounded, past, count))

pub as_many : (infos : List ClassInfo) (lists : Lists) (done : List (List ClassId)) → length lists ≡ length infos → done ≡ map or_empty lists → length done ≡ length infos
as_many infos lists done same made = ap length made ∙ (length-map lists or_empty ∙ same)

-- the lists of all classes
pub all_right : (infos : List ClassInfo) (lists : Lists) (done : List (List ClassId)) (image : Image) → image.classes ≡ infos → length lists ≡ length infos → AreRight image lists → ((c : ℕ) → c < length infos → is_listed lists c ≡ true) → done ≡ map or_empty lists
    → (c : ℕ) → numbers (get_or done c []) ≡ once (interfaces_above image c)
all_right infos lists done image is same right whole made c = ⊎_elim inside outside (less_or_not c (length infos))
  where
    or_listed : (o : Option (List ClassId)) → numbers (or_empty o) ≡ listed_in (Some o)
    or_listed None = refl
    or_listed (Some ids) = refl

    inside : c < length infos → numbers (get_or done c []) ≡ once (interfaces_above image c)
    inside within =
        let less : c < length lists = omega (arith, within, same) in
        ap (λ (ds : List (List ClassId)). numbers (get_or ds c [])) made ∙ (ap numbers (get_or-map or_empty lists c None [] less) ∙
        (or_listed (get_or lists c None) ∙ (sym (ap listed_in (slice_get-get_or lists c None less)) ∙ right c (whole c within))))

    outside : length infos ≤ c → numbers (get_or done c []) ≡ once (interfaces_above image c)
    outside past =
        ap (λ (ds : List (List ClassId)). numbers (get_or ds c [])) made ∙
        (ap numbers (get_or_past (map or_empty lists) c [] (omega (arith, past, same, length-map lists or_empty))) ∙
        sym (ap (λ (o : Option ClassInfo). once (flat_map (upward (interfaces_at image) (length image.classes)) (interfaces_of o))) (slice_get_past image.classes c (omega (arith, past, ap length is)))))

-- ---- the three ways of a turn

interfaces_read : (infos : List ClassInfo) (k : ℕ) (info : ClassInfo) (is : List ClassId) → k < length infos → is ≡ (get_or infos k info).interfaces → numbers is ≡ interfaces_of (slice_get infos k)
interfaces_read infos k info is within own = ap numbers own ∙ sym (ap interfaces_of (slice_get-get_or infos k info within))

pub turn_put : (infos : List ClassInfo) (first lists asked read new : Lists) (whole next told : Bool) (k : ℕ) (info : ClassInfo) (own is : List ClassId) → IsRound infos first lists whole k → k < length infos → is ≡ (get_or infos k info).interfaces
    → asked ≡ lists → told ≡ are_ready asked (numbers is) → told ≡ true → read ≡ lists → numbers own ≡ listed read (numbers is) → new ≡ set lists k (Some own) → next ≡ whole → IsRound infos first new next (k + 1)
turn_put infos first lists asked read new whole next told k info own is r within given same answer true_is other list made kept =
    subst (λ (b : Bool). IsRound infos first new b (k + 1)) (sym kept)
    (round_put infos first lists new whole k own (numbers is) r within made (list ∙ ap (λ (ls : Lists). listed ls (numbers is)) other) (interfaces_read infos k info is within given)
    (sym (ap (λ (ls : Lists). are_ready ls (numbers is)) same) ∙ (sym answer ∙ true_is)))

pub turn_open : (infos : List ClassInfo) (first lists asked new : Lists) (whole next told : Bool) (k : ℕ) (info : ClassInfo) (is : List ClassId) → IsRound infos first lists whole k → k < length infos → is ≡ (get_or infos k info).interfaces
    → asked ≡ lists → told ≡ are_ready asked (numbers is) → told ≡ false → new ≡ lists → next ≡ false → IsRound infos first new next (k + 1)
turn_open infos first lists asked new whole next told k info is r within given same answer false_is kept none =
    subst (λ (ls : Lists). IsRound infos first ls next (k + 1)) (sym {A = Lists} kept) (subst (λ (b : Bool). IsRound infos first lists b (k + 1)) (sym none)
    (round_open infos first lists whole k r
    (ap (are_ready lists) (sym (interfaces_read infos k info is within given)) ∙ (sym (ap (λ (ls : Lists). are_ready ls (numbers is)) same) ∙ (sym answer ∙ false_is)))))

pub turn_listed : (infos : List ClassInfo) (first lists new : Lists) (whole next lacks : Bool) (k : ℕ) (o : Option (List ClassId)) → IsRound infos first lists whole k → k < length infos → o ≡ get_or lists k o
    → is_some o ≡ not lacks → lacks ≡ false → new ≡ lists → next ≡ whole → IsRound infos first new next (k + 1)
turn_listed infos first lists new whole next lacks k o r within at found has kept same =
    subst (λ (ls : Lists). IsRound infos first ls next (k + 1)) (sym {A = Lists} kept) (subst (λ (b : Bool). IsRound infos first lists b (k + 1)) (sym same)
    (round_listed infos first lists whole k r (listed_at lists k o (omega (arith, within, r.same)) at ∙ (found ∙ ap not has))))
