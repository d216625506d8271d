-- What is marked as above a class, and that it is what stands above it.
use Rattle.std.specs.Prelude.{ℕ, zero, suc, ◌≡◌, ◌+◌, ◌<◌, ◌≤◌, ◌||◌, Bool, true, false, List, [], ◌∷◌, ◌++◌, length, flat_map, Option, Some, None, IfSome, All, nat_eq, slice_get, slice_index_or}
use Rattle.std.proofs.Common.{refl, sym, ap, subst, ◌∙◌, ⊎_elim, arith, get_or, set, replicate, take}
use Rattle.std.proofs.lemmas.List.{length-set, length-append, take_more, get_or_default, get_or_past, get_or_append_left}
use Rattle.std.proofs.lemmas.List.Elements.{All-get_or}
use Rattle.std.proofs.Math.Seq.{get_or-append_seam}
use Rattle.std.proofs.lemmas.Option.{slice_get_read}
use Rattle.dv_defs.specs.declared.names.ClassId.{ClassId}
use Rattle.dv_defs.specs.declared.image.ClassInfo.{ClassInfo}
use Rattle.dv_defs.specs.Images.{Image}
use Rattle.dv_defs.specs.Pools.{class_number, parent_of, parent_at, walk}
use Rattle.dv_defs.specs.Order.{has_number, numbers, above, any_of, reaches, implements}
use Rattle.dv_defs.specs.LookUp.{upward, interfaces_at, interfaces_above, once}
use Rattle.law_linking.specs.Ordered.{IsOrdered}
use Rattle.law_linking.specs.Stripped.{IsInRange, AreInRange}
use Rattle.law_linking.proofs.Implemented.{implements_is}
use Rattle.law_linking.proofs.OnceNumbers.{or_else, has_once}
use Rattle.law_linking.proofs.Reach.{less_or_not, above_in, number_first, number_later, number_cases}
use Rattle.law_linking.proofs.Upward.{above_beyond, flat_gives, interface_is_above}
use Rattle.dv_hier.specs.Ancestors.{listed_at, with_interfaces, HasMarked}
use Rattle.dv_hier.specs.Slots.{walked}
use Rattle.dv_hier.specs.Upwards.{bare, is_marked}
use Rattle.dv_hier.proofs.Cells.{walked_none}
use Rattle.dv_hier.proofs.UpwardsLaws.{has_both, numbers_both, marked_set, unmarked_all, both_marked}

-- ---- marks

or_nothing : (b : Bool) → b ≡ (b || false)
or_nothing true = refl
or_nothing false = refl

marked_none : (marks : List Bool) → HasMarked [] marks marks
marked_none marks = record { many = refl; marked = λ d. or_nothing (is_marked marks d) }

marked_one : (marks : List Bool) (c : ℕ) → c < length marks → HasMarked (c ∷ []) marks (set marks c true)
marked_one marks c within = record { many = length-set marks c true; marked = λ d. marked_set marks c d within }

-- one after the other
marked_then : (xs ys : List ℕ) (a b c : List Bool) → HasMarked xs a b → HasMarked ys b c → HasMarked (xs ++ ys) a c
marked_then xs ys a b c first then = record {
  many = then.many ∙ first.many;
  marked = λ d.
      both_marked (is_marked a d) (has_number d xs) (has_number d ys) (is_marked b d) (is_marked c d) (first.marked d) (then.marked d) ∙
      ap (λ h. is_marked a d || h) (sym (has_both d xs ys));
}

-- one class more of a list
pub marked_more : (ids : List ClassId) (i : ℕ) (id : ClassId) (a b : List Bool) → i < length ids → (get_or ids i id).0 < length b → HasMarked (numbers (take i ids)) a b → HasMarked (numbers (take (i + 1) ids)) a (set b (get_or ids i id).0 true)
marked_more ids i id a b within inside so_far =
    subst (λ xs. HasMarked xs a (set b (get_or ids i id).0 true)) (sym (ap numbers (take_more ids i id within) ∙ numbers_both (take i ids) (get_or ids i id ∷ [])))
    (marked_then (numbers (take i ids)) ((get_or ids i id).0 ∷ []) a b (set b (get_or ids i id).0 true) so_far (marked_one b (get_or ids i id).0 inside))

-- ---- a walk up the superclasses

-- where the rest of the walk is marked too, the whole is
pub record IsWalk (infos : List ClassInfo) (interfaces : List (List ClassId)) (whole : List ℕ) (start row : List Bool) (left : ℕ) (at : Option ClassId) : Type 0 where
  pub many : length row ≡ length infos
  pub inside : IfSome at (λ c. c.0 < length infos)
  pub rest : (new : List Bool) → HasMarked (with_interfaces interfaces (walked infos left (class_number at))) row new → HasMarked whole start new

pub walk_begins : (infos : List ClassInfo) (interfaces : List (List ClassId)) (row : List Bool) (left : ℕ) (class : ClassId) → length row ≡ length infos → class.0 < length infos → left ≡ length infos
    → IsWalk infos interfaces (with_interfaces interfaces (walked infos (length infos) (Some class.0))) row row left (Some class)
walk_begins infos interfaces row left class many within whole = record {
  many = many;
  inside = within;
  rest = λ new marked. subst (λ n. HasMarked (with_interfaces interfaces (walked infos n (Some class.0))) row new) whole marked;
}

pub walk_in : (infos : List ClassInfo) (interfaces : List (List ClassId)) (whole : List ℕ) (start row : List Bool) (left : ℕ) (at : Option ClassId) (id : ClassId) → at ≡ Some id → IsWalk infos interfaces whole start row left at → id.0 < length infos
walk_in infos interfaces whole start row left at id is before = subst (λ (o : Option ClassId). IfSome o (λ c. c.0 < length infos)) is before.inside

parent_in : (infos : List ClassInfo) (c : ℕ) (info : ClassInfo) → AreInRange infos → c < length infos → info ≡ get_or infos c info → IfSome info.parent (λ p. p.0 < length infos)
parent_in infos c info range within read =
    let inside : IsInRange (length infos) (get_or infos c info) = All-get_or (IsInRange (length infos)) infos c info within range in
    subst (λ (i : ClassInfo). IfSome i.parent (λ p. p.0 < length infos)) (sym read) inside.parent

-- the interfaces that are listed for a class stand in the row
pub own_in : (interfaces : List (List ClassId)) (n m i : ℕ) (read own : List ClassId) → All (All (λ id. id.0 < n)) interfaces → i < length interfaces → read ≡ get_or interfaces i read → own ≡ read → m ≡ n → All (λ id. id.0 < m) own
own_in interfaces n m i read own range within there is many =
    subst (λ (ids : List ClassId). All (λ id. id.0 < m) ids) (sym is)
    (subst (λ k. All (λ (id : ClassId). id.0 < k) read) (sym many)
    (subst (λ (ids : List ClassId). All (λ id. id.0 < n) ids) (sym there) (All-get_or (All (λ id. id.0 < n)) interfaces i read within range)))

-- a class of the walk, and the interfaces that are listed for it
pub walk_more : (infos : List ClassInfo) (interfaces : List (List ClassId)) (whole : List ℕ) (start row next : List Bool) (more left : ℕ) (at : Option ClassId) (id : ClassId) (info : ClassInfo) (own : List ClassId)
    → AreInRange infos → length interfaces ≡ length infos → more ≡ left + 1 → at ≡ Some id → info ≡ get_or infos id.0 info → own ≡ get_or interfaces id.0 own
    → IsWalk infos interfaces whole start row more at → HasMarked (numbers own) (set row id.0 true) next
    → IsWalk infos interfaces whole start next left info.parent
walk_more infos interfaces whole start row next zero left at id info own range many steps is read listed before marked = absurd (omega (arith, steps))
walk_more infos interfaces whole start row next (suc n) left at id info own range many steps is read listed before marked =
    let within = walk_in infos interfaces whole start row (suc n) at id is before in
    let less : left ≡ n = omega (arith, steps) in
    let there = slice_get_read infos (length infos) id.0 info refl within read in
    let here : own ≡ get_or interfaces id.0 [] = listed ∙ get_or_default interfaces id.0 own [] (omega (arith, within, many)) in
    let first : HasMarked (id.0 ∷ listed_at interfaces id.0) row next =
    marked_then (id.0 ∷ []) (listed_at interfaces id.0) row (set row id.0 true) next (marked_one row id.0 (omega (arith, within, before.many)))
    (subst (λ (ids : List ClassId). HasMarked (numbers ids) (set row id.0 true) next) here marked) in
    record {
      many = marked.many ∙ (length-set row id.0 true ∙ before.many);
      inside = parent_in infos id.0 info range within read;
      rest = λ new then. before.rest new
          (subst (λ (o : Option ClassId). HasMarked (with_interfaces interfaces (walked infos (suc n) (class_number o))) row new) (sym is)
          (marked_then (id.0 ∷ listed_at interfaces id.0) (with_interfaces interfaces (walked infos n (parent_of (slice_get infos id.0)))) row next new first
          (subst (λ (o : Option ClassInfo). HasMarked (with_interfaces interfaces (walked infos n (parent_of o))) next new) (sym there)
          (subst (λ m. HasMarked (with_interfaces interfaces (walked infos m (class_number info.parent))) next new) less then))));
    }

-- no class is left
pub walk_ends : (infos : List ClassInfo) (interfaces : List (List ClassId)) (whole : List ℕ) (start row : List Bool) (left : ℕ) (at : Option ClassId) → at ≡ None → IsWalk infos interfaces whole start row left at → HasMarked whole start row
walk_ends infos interfaces whole start row left at none before =
    before.rest row
    (subst (λ (o : Option ClassId). HasMarked (with_interfaces interfaces (walked infos left (class_number o))) row row) (sym none)
    (subst (λ cs. HasMarked (with_interfaces interfaces cs) row row) (sym (walked_none infos left)) (marked_none row)))

-- and no step
pub walk_done : (infos : List ClassInfo) (interfaces : List (List ClassId)) (whole : List ℕ) (start row : List Bool) (left : ℕ) (at : Option ClassId) → left ≤ 0 → IsWalk infos interfaces whole start row left at → HasMarked whole start row
walk_done infos interfaces whole start row zero at over before = before.rest row (marked_none row)
walk_done infos interfaces whole start row (suc n) at over before = absurd (omega (arith, over))

-- ---- what is marked is what stands above

walk_is : (image : Image) (n : ℕ) (o : Option ℕ) → walked image.classes n o ≡ walk image n o
walk_is image zero o = refl
walk_is image (suc n) None = refl
walk_is image (suc n) (Some c) = ap (λ cs. c ∷ cs) (walk_is image n (parent_at image c))

module _ (image : Image) (interfaces : List (List ClassId)) (are : (c : ℕ) → numbers (slice_index_or interfaces c []) ≡ once (interfaces_above image c)) where
  listed_is : (d c : ℕ) → has_number d (listed_at interfaces c) ≡ has_number d (interfaces_above image c)
  listed_is d c = ap (has_number d) (are c) ∙ has_once d (interfaces_above image c)

  -- of the classes of a walk and the interfaces that are listed for them
  has_over : (d : ℕ) (cs : List ℕ) → has_number d (with_interfaces interfaces cs) ≡ (has_number d cs || has_number d (flat_map (interfaces_above image) cs))
  has_over d [] = refl
  has_over d (c ∷ cs) =
      ap (or_else (nat_eq c d)) (has_both d (listed_at interfaces c) (with_interfaces interfaces cs) ∙ (λ j. listed_is d c j || has_over d cs j)) ∙
      (by (nat_eq c d) (has_number d (interfaces_above image c)) (has_number d cs) (has_number d (flat_map (interfaces_above image) cs)) ∙
      ap (λ b. or_else (nat_eq c d) (has_number d cs) || b) (sym (has_both d (interfaces_above image c) (flat_map (interfaces_above image) cs))))
    where
      by : (e a h f : Bool) → or_else e (a || (h || f)) ≡ (or_else e h || (a || f))
      by true a h f = refl
      by false true true f = refl
      by false true false f = refl
      by false false true f = refl
      by false false false f = refl

  marked_is : IsOrdered image → (c d : ℕ) → c < length image.classes → has_number d (with_interfaces interfaces (walked image.classes (length image.classes) (Some c))) ≡ implements image c d
  marked_is ordered c d within =
      ap (λ cs. has_number d (with_interfaces interfaces cs)) (walk_is image (length image.classes) (Some c)) ∙
      (has_over d (walk image (length image.classes) (Some c)) ∙ sym (implements_is image ordered c d within))

-- ---- the listed interfaces are classes

pub has_at : (ids : List ClassId) (k : ℕ) (d : ClassId) → k < length ids → has_number (get_or ids k d).0 (numbers ids) ≡ true
has_at [] k d within = absurd (omega (arith, within))
has_at (id ∷ ids) zero d within = number_first id.0 (numbers ids)
has_at (id ∷ ids) (suc k) d within = number_later (get_or ids k d).0 id.0 (numbers ids) (has_at ids k d (omega (arith, within)))

upward_in : (image : Image) → AreInRange image.classes → (n c d : ℕ) → c < length image.classes → has_number d (upward (interfaces_at image) n c) ≡ true → d < length image.classes
upward_in image range zero c d within has = absurd (cc)
upward_in image range (suc n) c d within has =
    ⊎_elim
    (λ same. subst (λ x. x < length image.classes) same within)
    (λ later. flat_gives (upward (interfaces_at image) n) d (interfaces_at image c)
    (λ e there more. upward_in image range n e d (above_in image range c e (interface_is_above image c e there)) more) later)
    (number_cases d c (flat_map (upward (interfaces_at image) n) (interfaces_at image c)) has)

interfaces_in : (image : Image) → AreInRange image.classes → (c d : ℕ) → has_number d (interfaces_above image c) ≡ true → d < length image.classes
interfaces_in image range c d has =
    flat_gives (upward (interfaces_at image) (length image.classes)) d (interfaces_at image c)
    (λ e there more. upward_in image range (length image.classes) e d (above_in image range c e (interface_is_above image c e there)) more) has

-- by class, the interfaces above it
abbrev pub AreInterfaces : List ClassInfo → List (List ClassId) → Type 0
AreInterfaces infos interfaces = (c : ℕ) → numbers (slice_index_or interfaces c []) ≡ once (interfaces_above (bare infos) c)

pub listed_in_range : (infos : List ClassInfo) (interfaces : List (List ClassId)) → AreInRange infos → AreInterfaces infos interfaces → All (All (λ id. id.0 < length infos)) interfaces
listed_in_range infos interfaces range are c none within k id inside =
    let own : get_or interfaces c none ≡ get_or interfaces c [] = get_or_default interfaces c none [] within in
    let d : ℕ = (get_or (get_or interfaces c none) k id).0 in
    interfaces_in (bare infos) range c d
    (sym (has_once d (interfaces_above (bare infos) c)) ∙
    (ap (has_number d) (sym (are c)) ∙
    (ap (λ (ids : List ClassId). has_number d (numbers ids)) (sym own) ∙ has_at (get_or interfaces c none) k id inside)))

-- ---- rows

-- a row in which nothing was marked before
pub row_is : (infos : List ClassInfo) (interfaces : List (List ClassId)) (c : ℕ) (start row : List Bool) → IsOrdered (bare infos) → AreInterfaces infos interfaces → c < length infos → start ≡ replicate (length infos) false
    → HasMarked (with_interfaces interfaces (walked infos (length infos) (Some c))) start row → (d : ℕ) → is_marked row d ≡ implements (bare infos) c d
row_is infos interfaces c start row ordered are within unmarked marked d =
    marked.marked d ∙
    (ap (λ b. b || has_number d (with_interfaces interfaces (walked infos (length infos) (Some c)))) (ap (λ (ms : List Bool). is_marked ms d) unmarked ∙ unmarked_all (length infos) d) ∙
    marked_is (bare infos) interfaces are ordered c d within)

-- the rows of the first so many classes
abbrev pub AreRows : List ClassInfo → List (List Bool) → ℕ → Type 0
AreRows infos rows n = (length rows ≡ n) × ((c d : ℕ) → c < n → is_marked (slice_index_or rows c []) d ≡ implements (bare infos) c d)

pub rows_more : (infos : List ClassInfo) (rows new : List (List Bool)) (row : List Bool) (n : ℕ) → AreRows infos rows n → ((d : ℕ) → is_marked row d ≡ implements (bare infos) n d) → new ≡ rows ++ row ∷ [] → AreRows infos new (n + 1)
rows_more infos rows new row n before is made =
    (ap length made ∙ (length-append rows (row ∷ []) ∙ ap (λ m. m + 1) before.0), λ c d less. ⊎_elim (earlier c d) (last c d less) (less_or_not c n))
  where
    earlier : (c d : ℕ) → c < n → is_marked (slice_index_or new c []) d ≡ implements (bare infos) c d
    earlier c d less =
        ap (λ (ms : List Bool). is_marked ms d) (ap (λ (rs : List (List Bool)). get_or rs c []) made ∙ get_or_append_left rows (row ∷ []) [] c (omega (arith, less, before.0))) ∙
        before.1 c d less

    last : (c d : ℕ) → c < n + 1 → n ≤ c → is_marked (slice_index_or new c []) d ≡ implements (bare infos) c d
    last c d less past =
        let same : c ≡ length rows = omega (arith, less, past, before.0) in
        let here : n ≡ c = omega (arith, less, past) in
        ap (λ (ms : List Bool). is_marked ms d) (ap (λ (rs : List (List Bool)). get_or rs c []) made ∙ (ap (λ k. get_or (rows ++ row ∷ []) k []) same ∙ get_or-append_seam rows row [] [])) ∙
        (is d ∙ ap (λ k. implements (bare infos) k d) here)

-- the rows of all classes; a number that is no class's is above none but itself
pub rows_are : (infos : List ClassInfo) (rows : List (List Bool)) (n : ℕ) → length infos ≤ n → AreRows infos rows n → (c d : ℕ) → (nat_eq c d || slice_index_or (slice_index_or rows c []) d false) ≡ implements (bare infos) c d
rows_are infos rows n whole rows_of c d = ⊎_elim inside outside (less_or_not c n)
  where
    itself : (e b : Bool) → (e || or_else e b) ≡ or_else e b
    itself true b = refl
    itself false b = refl

    or_is : (e : Bool) → (e || false) ≡ or_else e false
    or_is true = refl
    or_is false = refl

    inside : c < n → (nat_eq c d || slice_index_or (slice_index_or rows c []) d false) ≡ implements (bare infos) c d
    inside less =
        ap (λ b. nat_eq c d || b) (rows_of.1 c d less) ∙ itself (nat_eq c d) (any_of (reaches (bare infos) (length infos) d) (above (bare infos) c))

    outside : n ≤ c → (nat_eq c d || slice_index_or (slice_index_or rows c []) d false) ≡ implements (bare infos) c d
    outside past =
        ap (λ (ms : List Bool). nat_eq c d || slice_index_or ms d false) (get_or_past rows c [] (omega (arith, past, rows_of.0))) ∙
        (or_is (nat_eq c d) ∙
        sym (ap (λ cs. or_else (nat_eq c d) (any_of (reaches (bare infos) (length infos) d) cs)) (above_beyond (bare infos) c (omega (arith, past, whole)))))
