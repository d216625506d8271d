-- How many classes and members there are where the first phases find nothing.
use Rattle.std.proofs.Common.{◌≡◌, ◌+◌, ◌*◌, ◌<◌, ◌≤◌, ℕ, zero, suc, Bool, true, false, not, cond, ◌&&◌, ◌||◌, List, [], ◌∷◌, length, take, drop, map, get_or, Some, None, refl, sym, ap, subst, ◌∙◌, arith}
use Rattle.std.specs.Prelude.{nat_eq, nat_lt, bytes_eq, position, slice_get, sum_by, filter, find, option_map, unwrap_or}
use Rattle.std.specs.List.{position_or_len, list_any}
use Rattle.std.proofs.lemmas.Slice.Eq.{bytes_eq-Decides}
use Rattle.std.proofs.lemmas.Bool.{and_from, and_parts, eqb-true, ltb-false, not-true, not-false, or_parts}
use Rattle.std.proofs.lemmas.Option.{get_or_from_slice_get, slice_get-map}
use Rattle.std.proofs.lemmas.List.{length-map, length-append, take-map, take-append-drop}
use Rattle.std.proofs.lemmas.List.Sums.{sum_by-cons, sum_by-take-drop}
use Rattle.std.proofs.lemmas.List.Folds.{find_at}
use Rattle.std.proofs.Math.Seq.{take-length}
use Rattle.dv_defs.specs.declared.class.ClassDef.{ClassDef}
use Rattle.dv_defs.specs.declared.class.FieldDef.{FieldDef}
use Rattle.dv_defs.specs.declared.class.MethodDef.{MethodDef}
use Rattle.dv_defs.specs.declared.faults.LinkKind.TheVariants as kind
use Rattle.dv_defs.specs.declared.faults.Which.{Which}
use Rattle.dv_defs.specs.declared.faults.Which.TheVariants as which
use Rattle.dv_defs.specs.First.{first_in}
use Rattle.dv_defs.specs.declared.boot.TheConstants.{BOOT_FIELDS, BOOT_METHODS}
use Rattle.dv_defs.specs.Boot.{Row, word, rows, flags_are, parent_is, names_are, class_rows, is_row_of, is_in_table, has_row, class_is, fields_are, methods_are, field_is, method_is, field_rows, method_rows}
use Rattle.dv_defs.specs.LinkFaults.{LinkTest, found, fault_at, tested, first_fault_by, boot_fault, limit_fault, past, past_limits, is_twice, is_number, is_foreign, row_lacks, not_there}
use Rattle.dv_defs.specs.Pools.{class_named}
use Rattle.dv_defs.specs.Numbering.{declared}
use Rattle.law_linking.specs.Stripped.{def_names}
use Rattle.law_linking.proofs.First.{first_below_none, or_none, when_none, map_none}
use Rattle.law_linking.proofs.Names.{bytes_eq_sym, declared_is_position}
use Rattle.law_linking.proofs.Once.{is_among, once, all_among, no_more, OwnPlaces, once_by}

-- ---- one class by one

-- a test that finds nothing in any class finds nothing in each
pub fails_nowhere : (test : LinkTest) (cs : List ClassDef) → first_fault_by test cs ≡ None → (i : ℕ) (c : ClassDef) → slice_get cs i ≡ Some c → i < length cs → test i c ≡ None
fails_nowhere test cs none i c at within =
    let here : tested test i (Some c) ≡ None = sym (ap (tested test i) at) ∙ first_below_none (fault_at test cs) (length cs) i none within in
    map_none (found c.name) (test i c) here

class_at : (cs : List ClassDef) (i : ℕ) → i < length cs → (c : ClassDef) × (slice_get cs i ≡ Some c)
class_at [] i within = absurd (omega arith)
class_at (c ∷ cs) zero within = (c, refl)
class_at (c ∷ cs) (suc i) within = class_at cs i (omega arith)

-- ---- the program's

not_past : (limit n : ℕ) (w : Which) → past limit n w ≡ None → n ≤ limit
not_past limit n w none = ltb-false limit n (when_none (nat_lt limit n) (kind.Limit w) none)

pub record IsFew (ps : List ClassDef) : Type 0 where
  pub classes : length ps ≤ 1024
  pub methods : sum_by (λ c. length c.methods) ps ≤ 16384
  pub fields : sum_by (λ c. length c.fields) ps ≤ 16384

few_by : (ps : List ClassDef) → past_limits ps ≡ None → IsFew ps
few_by ps none =
    let first = or_none (past 1024 (length ps) which.Classes) _ none in
    let second = or_none (past 16384 (sum_by (λ c. length c.methods) ps) which.Methods) _ first.1 in
    let third = or_none (past 16384 (sum_by (λ c. length c.fields) ps) which.Fields) _ second.1 in
    record {
      classes = not_past 1024 (length ps) which.Classes first.0;
      methods = not_past 16384 (sum_by (λ c. length c.methods) ps) which.Methods second.0;
      fields = not_past 16384 (sum_by (λ c. length c.fields) ps) which.Fields third.0;
    }

few_in : (ps : List ClassDef) → first_fault_by (λ i c. past_limits (take (suc i) ps)) ps ≡ None → IsFew ps
few_in [] none = record { classes = omega arith; methods = omega arith; fields = omega arith }
few_in (p ∷ ps) none =
    let last = class_at (p ∷ ps) (length ps) (omega arith) in
    few_by (p ∷ ps)
    (subst (λ qs. past_limits qs ≡ None) (take-length (p ∷ ps))
    (fails_nowhere (λ i c. past_limits (take (suc i) (p ∷ ps))) (p ∷ ps) none (length ps) last.0 last.1 (omega arith)))

pub program_is_few : (cs : List ClassDef) (boot : ℕ) → limit_fault cs boot ≡ None → IsFew (drop boot cs)
unfolding limit_fault
program_is_few cs boot none = few_in (drop boot cs) none

-- ---- names

place_is : (i place count : ℕ) → not (is_number i (cond (nat_lt place count) (Some place) None)) ≡ false → place ≡ i
place_is i place count e = by (nat_lt place count) e
  where
    same : (b : Bool) → nat_eq i place ≡ b → not b ≡ false → place ≡ i
    same true s h = sym (eqb-true i place s)
    same false s h = absurd (cc)

    by : (b : Bool) → not (is_number i (cond b (Some place) None)) ≡ false → place ≡ i
    by true h = same (nat_eq i place) refl h
    by false h = absurd (cc)

pub own_places : (cs : List ClassDef) (boot : ℕ) → first_fault_by (is_twice (declared cs boot)) cs ≡ None → OwnPlaces (def_names cs)
own_places cs boot none i within =
    let long : length (def_names cs) ≡ length cs = length-map cs (λ c. c.name) in
    let here = class_at cs i (omega (arith, long)) in
    let name : List ℕ = here.0.name in
    let named : get_or (def_names cs) i [] ≡ name =
    get_or_from_slice_get (def_names cs) i name [] (slice_get-map (λ c. c.name) cs i ∙ ap (option_map (λ (c : ClassDef). c.name)) here.1) in
    let fails : is_twice (declared cs boot) i here.0 ≡ None = fails_nowhere (is_twice (declared cs boot)) cs none i here.0 here.1 (omega (arith, long)) in
    let told : not (is_number i (class_named (declared cs boot) name)) ≡ false = when_none (not (is_number i (class_named (declared cs boot) name))) kind.ClassTwice fails in
    let placed : not (is_number i (position (bytes_eq name) (def_names cs))) ≡ false = subst (λ o. not (is_number i o) ≡ false) (declared_is_position cs boot name) told in
    ap (λ n. position_or_len (bytes_eq n) (def_names cs)) named ∙ place_is i (position_or_len (bytes_eq name) (def_names cs)) (length (def_names cs)) placed

pub names_once : (cs : List ClassDef) (boot : ℕ) → first_fault_by (is_twice (declared cs boot)) cs ≡ None → once (def_names cs) ≡ true
names_once cs boot none = once_by (def_names cs) (own_places cs boot none)

among_front : (n : List ℕ) (k : ℕ) (ns : List (List ℕ)) → is_among n ns ≡ false → is_among n (take k ns) ≡ false
among_front n zero ns none = refl
among_front n (suc k) [] none = refl
among_front n (suc k) (m ∷ ns) none = by (among_front n k ns) (bytes_eq n m) none
  where
    by : (is_among n ns ≡ false → is_among n (take k ns) ≡ false) → (b : Bool) → (b || is_among n ns) ≡ false → (b || is_among n (take k ns)) ≡ false
    by rest true h = h
    by rest false h = rest h

once_front : (k : ℕ) (ns : List (List ℕ)) → once ns ≡ true → once (take k ns) ≡ true
once_front zero ns each = refl
once_front (suc k) [] each = refl
once_front (suc k) (n ∷ ns) each =
    let parts = and_parts (not (is_among n ns)) (once ns) each in
    and_from (not (is_among n (take k ns))) (once (take k ns)) (ap not (among_front n k ns (not-true (is_among n ns) parts.0)))
    (once_front k ns parts.1)

-- ---- the boot classes are among those of the table

row_names : List (List ℕ)
row_names = map (λ row. word row 0) class_rows

table_length : length row_names ≡ 33
unfolding row_names
table_length = refl

among_rows : (name : List ℕ) (rows : List Row) → list_any (is_row_of name) rows ≡ true → is_among name (map (λ row. word row 0) rows) ≡ true
among_rows name [] there = there
among_rows name (row ∷ rows) there = by (among_rows name rows) (bytes_eq (word row 0) name) (bytes_eq_sym name (word row 0)) there
  where
    by : (list_any (is_row_of name) rows ≡ true → is_among name (map (λ row. word row 0) rows) ≡ true) → (b : Bool) → bytes_eq name (word row 0) ≡ b → (b || list_any (is_row_of name) rows) ≡ true → (bytes_eq name (word row 0) || is_among name (map (λ row. word row 0) rows)) ≡ true
    by rest true e h = ap (λ c. c || is_among name (map (λ row. word row 0) rows)) e
    by rest false e h = ap (λ c. c || is_among name (map (λ row. word row 0) rows)) e ∙ rest h

all_known : (bs : List ClassDef) → first_in is_foreign bs ≡ None → all_among (def_names bs) row_names ≡ true
unfolding row_names
all_known [] none = refl
all_known (b ∷ bs) none =
    let parts = or_none (is_foreign b) (first_in is_foreign bs) none in
    let known : is_in_table b.name ≡ true = not-false (is_in_table b.name) (when_none (not (is_in_table b.name)) (not_there b.name) parts.0) in
    and_from (is_among b.name row_names) (all_among (def_names bs) row_names) (among_rows b.name class_rows known) (all_known bs parts.1)

-- no more than 33 of them
few_boots : (cs : List ClassDef) (boot : ℕ) → boot_fault cs boot ≡ None → first_fault_by (is_twice (declared cs boot)) cs ≡ None → length (take boot cs) ≤ 33
unfolding boot_fault
few_boots cs boot fits twice =
    let foreign = (or_none (first_in (row_lacks (take boot cs)) class_rows) (first_in is_foreign (take boot cs)) fits).1 in
    let each : once (def_names (take boot cs)) ≡ true = subst (λ ns. once ns ≡ true) (take-map (λ c. c.name) boot cs) (once_front boot (def_names cs) (names_once cs boot twice)) in
    omega (arith, no_more (def_names (take boot cs)) row_names each (all_known (take boot cs) foreign), table_length, length-map (take boot cs) (λ c. c.name))

cut : (boot : ℕ) (cs : List ClassDef) → length cs ≡ length (take boot cs) + length (drop boot cs)
cut boot cs = sym (ap length (take-append-drop boot cs)) ∙ length-append (take boot cs) (drop boot cs)

pub few_classes : (cs : List ClassDef) (boot : ℕ) → boot_fault cs boot ≡ None → limit_fault cs boot ≡ None → first_fault_by (is_twice (declared cs boot)) cs ≡ None → length cs ≤ 1057
few_classes cs boot fits limits twice =
    omega (arith, few_boots cs boot fits twice, (program_is_few cs boot limits).classes, cut boot cs)

-- ---- their members

-- a row of a class's name, which the class is like
found_row : (bs : List ClassDef) (name : List ℕ) (rows : List Row) → first_in (row_lacks bs) rows ≡ None → list_any (is_row_of name) rows ≡ true → (row : Row) × (bytes_eq (word row 0) name ≡ true) × (has_row bs row ≡ true)
found_row bs name [] none there = absurd (cc)
found_row bs name (row ∷ rows) none there =
    let parts = or_none (row_lacks bs row) (first_in (row_lacks bs) rows) none in
    by (found_row bs name rows parts.1) (not-false (has_row bs row) (when_none (not (has_row bs row)) (not_there (word row 0)) parts.0)) (bytes_eq (word row 0) name) refl there
  where
    by : (list_any (is_row_of name) rows ≡ true → (row : Row) × (bytes_eq (word row 0) name ≡ true) × (has_row bs row ≡ true)) → has_row bs row ≡ true → (b : Bool) → bytes_eq (word row 0) name ≡ b → (b || list_any (is_row_of name) rows) ≡ true → (row : Row) × (bytes_eq (word row 0) name ≡ true) × (has_row bs row ≡ true)
    by rest has true e h = (row, e, has)
    by rest has false e h = rest h

-- the first of a name is the class itself
is_found : (bs : List ClassDef) (i : ℕ) (b : ClassDef) (name : List ℕ) → OwnPlaces (def_names bs) → slice_get bs i ≡ Some b → i < length bs → bytes_eq name b.name ≡ true → find (λ c. bytes_eq c.name name) bs ≡ Some b
is_found bs i b name own at within same =
    let is : name ≡ b.name = (bytes_eq-Decides name b.name).0 same in
    let here : get_or (def_names bs) i [] ≡ b.name =
    get_or_from_slice_get (def_names bs) i b.name [] (slice_get-map (λ c. c.name) bs i ∙ ap (option_map (λ (c : ClassDef). c.name)) at) in
    let placed : position_or_len (bytes_eq b.name) (def_names bs) ≡ i =
    sym (ap (λ n. position_or_len (bytes_eq n) (def_names bs)) here) ∙ own i (omega (arith, within, length-map bs (λ c. c.name))) in
    find_at (λ c. bytes_eq c.name name) bs ∙
    ap (slice_get bs) (places bs ∙ (ap (λ n. position_or_len (bytes_eq n) (def_names bs)) is ∙ placed)) ∙
    at
  where
    places : (cs : List ClassDef) → position_or_len (λ c. bytes_eq c.name name) cs ≡ position_or_len (bytes_eq name) (def_names cs)
    places [] = refl
    places (c ∷ cs) = λ j. cond (not (bytes_eq_sym c.name name j)) (1 + places cs j) 0

own_by_once : (ns : List (List ℕ)) → once ns ≡ true → OwnPlaces ns
own_by_once [] each i within = absurd (omega arith)
own_by_once (n ∷ ns) each zero within = ap (λ b. cond (not b) (1 + position_or_len (bytes_eq n) ns) 0) ((bytes_eq-Decides n n).1 refl)
own_by_once (n ∷ ns) each (suc i) within =
    let parts = and_parts (not (is_among n ns)) (once ns) each in
    let other : bytes_eq (get_or ns i []) n ≡ false = bytes_eq_sym (get_or ns i []) n ∙ differs ns i (not-true (is_among n ns) parts.0) (omega arith) in
    let behind : position_or_len (bytes_eq (get_or ns i [])) ns ≡ i = own_by_once ns parts.1 i (omega arith) in
    ap (λ b. cond (not b) (1 + position_or_len (bytes_eq (get_or ns i [])) ns) 0) other ∙ omega (arith, behind)
  where
    differs : (ms : List (List ℕ)) (j : ℕ) → is_among n ms ≡ false → j < length ms → bytes_eq n (get_or ms j []) ≡ false
    differs [] j none in_range = absurd (omega arith)
    differs (m ∷ ms) zero none in_range = (or_parts (bytes_eq n m) (is_among n ms) none).0
    differs (m ∷ ms) (suc j) none in_range = differs ms j (or_parts (bytes_eq n m) (is_among n ms) none).1 (omega arith)

-- a boot class is like its row
pub like_row : (cs : List ClassDef) (boot : ℕ) → boot_fault cs boot ≡ None → first_fault_by (is_twice (declared cs boot)) cs ≡ None → (i : ℕ) (b : ClassDef) → slice_get (take boot cs) i ≡ Some b → i < length (take boot cs) → (row : Row) × (class_is row b ≡ true)
unfolding boot_fault
like_row cs boot fits twice i b at within =
    let parts = or_none (first_in (row_lacks (take boot cs)) class_rows) (first_in is_foreign (take boot cs)) fits in
    let each : once (def_names (take boot cs)) ≡ true = subst (λ ns. once ns ≡ true) (take-map (λ c. c.name) boot cs) (once_front boot (def_names cs) (names_once cs boot twice)) in
    let known : is_in_table b.name ≡ true = not-false (is_in_table b.name) (when_none (not (is_in_table b.name)) (not_there b.name) (fails_in (take boot cs) i b parts.1 at)) in
    let row = found_row (take boot cs) b.name class_rows parts.0 known in
    (row.0, by row.0 (is_found (take boot cs) i b (word row.0 0) (own_by_once (def_names (take boot cs)) each) at within row.1) row.2)
  where
    fails_in : (bs : List ClassDef) (j : ℕ) (d : ClassDef) → first_in is_foreign bs ≡ None → slice_get bs j ≡ Some d → is_foreign d ≡ None
    fails_in [] j d none here = absurd (cc)
    fails_in (c ∷ bs) zero d none here = let same : c ≡ d = ap (λ o. unwrap_or o c) here in subst (λ e. is_foreign e ≡ None) same (or_none (is_foreign c) (first_in is_foreign bs) none).0
    fails_in (c ∷ bs) (suc j) d none here = fails_in bs j d (or_none (is_foreign c) (first_in is_foreign bs) none).1 here

    by : (row : Row) → find (λ c. bytes_eq c.name (word row 0)) (take boot cs) ≡ Some b → has_row (take boot cs) row ≡ true → class_is row b ≡ true
    by row e h = sym (ap (λ o. elim o [ None ↦ false | Some c ↦ class_is row c ]) e) ∙ h

fields_fit : (rows : List Row) (fs : List FieldDef) → fields_are rows fs ≡ true → length fs ≡ length rows
fields_fit [] [] h = refl
fields_fit [] (f ∷ fs) h = absurd (cc)
fields_fit (r ∷ rs) [] h = absurd (cc)
fields_fit (r ∷ rs) (f ∷ fs) h = ap suc (fields_fit rs fs (and_parts (field_is r f) (fields_are rs fs) h).1)

methods_fit : (rows : List Row) (ms : List MethodDef) → methods_are rows ms ≡ true → length ms ≡ length rows
methods_fit [] [] h = refl
methods_fit [] (m ∷ ms) h = absurd (cc)
methods_fit (r ∷ rs) [] h = absurd (cc)
methods_fit (r ∷ rs) (m ∷ ms) h = ap suc (methods_fit rs ms (and_parts (method_is r m) (methods_are rs ms) h).1)

filter_few : {X : Type 0} (p : X → Bool) (xs : List X) → length (filter p xs) ≤ length xs
filter_few p [] = omega arith
filter_few p (x ∷ xs) = by (p x) (filter_few p xs)
  where
    by : (b : Bool) → length (filter p xs) ≤ length xs → length (cond b (x ∷ filter p xs) (filter p xs)) ≤ suc (length xs)
    by true h = omega (arith, h)
    by false h = omega (arith, h)

-- of a sum of parts, none above a bound
sum_few : {X : Type 0} (f : X → ℕ) (k : ℕ) (xs : List X) → ((i : ℕ) (x : X) → slice_get xs i ≡ Some x → i < length xs → f x ≤ k) → sum_by f xs ≤ k * length xs
sum_few f k [] each = omega arith
sum_few f k (x ∷ xs) each =
    let rest : sum_by f xs ≤ k * length xs = sum_few f k xs (λ i y at within. each (suc i) y at (omega arith)) in
    let here : f x ≤ k = each zero x refl (omega arith) in
    let more : k * suc (length xs) ≡ k * length xs + k = grind arith in
    omega (arith, sum_by-cons f x xs, rest, here, more)

last_two : (p q r fields methods : Bool) → (p && q && r && fields && methods) ≡ true → (fields ≡ true) × (methods ≡ true)
last_two true true true true methods h = (refl, h)
last_two true true true false methods h = absurd (cc)
last_two true true false fields methods h = absurd (cc)
last_two true false r fields methods h = absurd (cc)
last_two false q r fields methods h = absurd (cc)

members_of : (row : Row) (b : ClassDef) → class_is row b ≡ true → (fields_are (field_rows (word row 0)) b.fields ≡ true) × (methods_are (method_rows (word row 0)) b.methods ≡ true)
members_of row b is =
    last_two (flags_are (word row 1) b.flags) (parent_is (word row 2) b.parent) (names_are (drop 3 row) b.interfaces)
    (fields_are (field_rows (word row 0)) b.fields) (methods_are (method_rows (word row 0)) b.methods) is

field_table : length (rows BOOT_FIELDS.now) ≡ 5
field_table = refl

method_table : length (rows BOOT_METHODS.now) ≡ 98
method_table = refl

module _ (cs : List ClassDef) (boot : ℕ) (fits : boot_fault cs boot ≡ None) (limits : limit_fault cs boot ≡ None) (twice : first_fault_by (is_twice (declared cs boot)) cs ≡ None) where
  boot_fields : (i : ℕ) (b : ClassDef) → slice_get (take boot cs) i ≡ Some b → i < length (take boot cs) → length b.fields ≤ 5
  boot_fields i b at within =
      let like = like_row cs boot fits twice i b at within in
      let known : List Row = field_rows (word like.0 0) in
      omega (arith, fields_fit known b.fields (members_of like.0 b like.1).0, filter_few (is_row_of (word like.0 0)) (rows BOOT_FIELDS.now), field_table)

  boot_methods : (i : ℕ) (b : ClassDef) → slice_get (take boot cs) i ≡ Some b → i < length (take boot cs) → length b.methods ≤ 98
  boot_methods i b at within =
      let like = like_row cs boot fits twice i b at within in
      let known : List Row = method_rows (word like.0 0) in
      omega (arith, methods_fit known b.methods (members_of like.0 b like.1).1, filter_few (is_row_of (word like.0 0)) (rows BOOT_METHODS.now), method_table)

  pub few_fields : sum_by (λ c. length c.fields) cs ≤ 16549
  few_fields =
      omega (arith, sum_few (λ c. length c.fields) 5 (take boot cs) boot_fields, few_boots cs boot fits twice, (program_is_few cs boot limits).fields, sum_by-take-drop (λ c. length c.fields) cs boot)

  pub few_methods : sum_by (λ c. length c.methods) cs ≤ 19618
  few_methods =
      omega (arith, sum_few (λ c. length c.methods) 98 (take boot cs) boot_methods, few_boots cs boot fits twice, (program_is_few cs boot limits).methods, sum_by-take-drop (λ c. length c.methods) cs boot)
