-- Laws of the table of boot classes.
use Rattle.std.specs.Prelude.{ℕ, zero, suc, ◌≡◌, ◌≤◌, ◌-◌, ◌⊎◌, Option, Some, None, nat_lt, Bool, true, false, ◌&&◌, not, List, [], ◌∷◌, length, map, filter, find, option_map, Result, Ok, Err, take, drop, min, nat_eq, bytes_eq}
use Rattle.std.specs.List.{list_all, zip, position_or_len}
use Rattle.std.specs.Option.{unwrap_or, option_or}
use Rattle.std.specs.Result.{IsErrAnd}
use Rattle.std.proofs.lemmas.List.{take_rest, take_all, drop_all, drop-map}
use Rattle.std.proofs.lemmas.List.Sums.{prefix_len-le-length}
use Rattle.std.proofs.Common.{refl, ◌∙◌, sym, ap, subst, arith, Bor, cond, ⊎_elim}
use Rattle.dv_defs.specs.declared.names.Ty.{Ty}
use Rattle.dv_defs.specs.Types.{base_eq, ty_eq, of_base}
use Rattle.dv_defs.specs.declared.class.FieldDef.{FieldDef}
use Rattle.dv_defs.specs.declared.class.MethodDef.{MethodDef}
use Rattle.dv_defs.specs.Boot.{Row, word, base_in, type_in, names_are, types_are, field_is, fields_are, method_is, methods_are}
use Rattle.dv_defs.specs.declared.class.ClassDef.{ClassDef}
use Rattle.dv_defs.specs.First.{first_in}
use Rattle.dv_defs.specs.LinkFaults.{Found, Fails, Checks, boot_fault}
use Rattle.dv_defs.specs.declared.faults.LinkError.{LinkError}
use Rattle.dv_defs.specs.declared.faults.LinkError.TheVariants as error
use Rattle.dv_hier.specs.Tables.{class_table, field_table, method_table, class_is_by, has_row_by, row_lacks_by, is_foreign_by}

-- ---- types

abbrev pub is_no_bracket : ℕ → Bool
is_no_bracket b = not (nat_eq b 91)

abbrev pub brackets : List ℕ → ℕ
brackets w = position_or_len is_no_bracket w

abbrev told_by : List ℕ → ℕ → Ty
told_by w n = record { dims = n; base = base_in (drop n w) }

abbrev told : List ℕ → Ty
told w = told_by w (brackets w)

abbrev one_more : Ty → Ty
one_more t = record { dims = suc t.dims; base = t.base }

type_in_step : (o : Bool) (b : ℕ) (bs : List ℕ) → nat_eq b 91 ≡ o → type_in bs ≡ told bs → type_in (b ∷ bs) ≡ told (b ∷ bs)
type_in_step true b bs e before =
    let more : brackets (b ∷ bs) ≡ suc (brackets bs) = rw e (omega arith) in
    let head : type_in (b ∷ bs) ≡ one_more (type_in bs) = ap (λ (x : Bool). elim x as (λ _. Ty) [ true ↦ one_more (type_in bs) | false ↦ of_base (base_in (b ∷ bs)) ]) e in
    head ∙ ap one_more before ∙ sym (ap (told_by (b ∷ bs)) more)
type_in_step false b bs e before =
    let none : brackets (b ∷ bs) ≡ 0 = rw e refl in
    let head : type_in (b ∷ bs) ≡ of_base (base_in (b ∷ bs)) = ap (λ (x : Bool). elim x as (λ _. Ty) [ true ↦ one_more (type_in bs) | false ↦ of_base (base_in (b ∷ bs)) ]) e in
    head ∙ sym (ap (told_by (b ∷ bs)) none)

type_in_told : (w : List ℕ) → type_in w ≡ told w
type_in_told [] = refl
type_in_told (b ∷ bs) = type_in_step (nat_eq b 91) b bs refl (type_in_told bs)

pub type_in_parts : (w : List ℕ) (t : Ty) → ty_eq (type_in w) t ≡ nat_eq (brackets w) t.dims && base_eq (base_in (drop (brackets w) w)) t.base
type_in_parts w t = rw type_in_told refl

-- how many brackets a word begins with, as `position` finds it
place_or_step : (b : Bool) (p : ℕ → Bool) (w : List ℕ) (r : Option ℕ) (n : ℕ) → nat_lt (position_or_len p w) (length w) ≡ b → r ≡ cond b (Some (position_or_len p w)) None → n ≡ unwrap_or r (length w) → n ≡ position_or_len p w
place_or_step true p w r n e found is = rw found at is
place_or_step false p w r n e found is =
    let within : position_or_len p w ≤ length w = prefix_len-le-length _ w in
    let all : n ≡ length w = rw found at is in
    grind (arith, e)

pub place_or : (p : ℕ → Bool) (w : List ℕ) (r : Option ℕ) (n : ℕ) → r ≡ cond (nat_lt (position_or_len p w) (length w)) (Some (position_or_len p w)) None → n ≡ unwrap_or r (length w) → n ≡ position_or_len p w
place_or p w r n found is = place_or_step (nat_lt (position_or_len p w) (length w)) p w r n refl found is

nat_eq_same : (n : ℕ) → nat_eq n n ≡ true
nat_eq_same n = grind arith

-- the base is that of what stands after the brackets
pub type_then : (w : List ℕ) (t : Ty) (n : ℕ) (r : Bool) → n ≡ brackets w → n ≡ t.dims → r ≡ base_eq (base_in (take (length w - n) (drop n w))) t.base → r ≡ ty_eq (type_in w) t
type_then w t n r is same base =
    let here : r ≡ base_eq (base_in (drop n w)) t.base = rw (take_rest w n) at base in
    here ∙ sym (type_in_parts w t ∙ rw (← is, same, nat_eq_same t.dims) refl)

-- ---- words

or_above : (a b : ℕ) → (a ≤ b) ⊎ (b ≤ a)
or_above a b = grind arith

drop_min : {X : Type 0} (ws : List X) (place from : ℕ) → from ≡ min place (length ws) → drop from ws ≡ drop place ws
drop_min ws place from k =
    ⊎_elim
    (λ below. let e : from ≡ place = omega arith in ap (λ n. drop n ws) e)
    (λ above. let a : length ws ≤ from = omega arith in rw (drop_all from ws a, drop_all place ws above) refl)
    (or_above place (length ws))

-- the words from a place on, which may be behind the last one
pub words_end : (ws : List (Bor (List ℕ))) (all : List (List ℕ)) (place from : ℕ) → all ≡ map (λ w. w.now) ws → from ≡ min place (length ws) → map (λ w. w.now) (take (length ws - from) (drop from ws)) ≡ drop place all
words_end ws all place from e k = rw (e, take_rest ws from, drop_min ws place from k, drop-map) refl

-- ---- lists that are compared item by item

pub types_are_zip : (ws : List (Bor (List ℕ))) (ts : List Ty) → types_are (map (λ w. w.now) ws) ts ≡ nat_eq (length ws) (length ts) && list_all (λ p. ty_eq (type_in p.0.now) p.1) (zip ws ts)
types_are_zip [] [] = refl
types_are_zip [] (t ∷ ts) = grind arith
types_are_zip (w ∷ ws) [] = grind arith
types_are_zip (w ∷ ws) (t ∷ ts) = grind (arith, types_are_zip ws ts)

pub names_are_zip : (ws : List (Bor (List ℕ))) (ns : List (List ℕ)) → names_are (map (λ w. w.now) ws) ns ≡ nat_eq (length ws) (length ns) && list_all (λ p. bytes_eq p.0.now p.1) (zip ws ns)
names_are_zip [] [] = refl
names_are_zip [] (t ∷ ts) = grind arith
names_are_zip (w ∷ ws) [] = grind arith
names_are_zip (w ∷ ws) (t ∷ ts) = grind (arith, names_are_zip ws ts)

-- of as many words as types
pub types_then : (ws : List (Bor (List ℕ))) (ts : List Ty) (r : Bool) → length ws ≡ length ts → r ≡ list_all (λ p. ty_eq (type_in p.0.now) p.1) (zip ws ts) → r ≡ types_are (map (λ w. w.now) ws) ts
types_then ws ts r same is = is ∙ sym (types_are_zip ws ts ∙ rw (same, nat_eq_same (length ts)) refl)

pub names_then : (ws : List (Bor (List ℕ))) (ns : List (List ℕ)) (r : Bool) → length ws ≡ length ns → r ≡ list_all (λ p. bytes_eq p.0.now p.1) (zip ws ns) → r ≡ names_are (map (λ w. w.now) ws) ns
names_then ws ns r same is = is ∙ sym (names_are_zip ws ns ∙ rw (same, nat_eq_same (length ns)) refl)

-- ---- rows that are compared one by one

-- items that are alike, one by one, and none is left over
abbrev pub same_by : {X Y : Type 0} → (X → Y → Bool) → List X → List Y → Bool
same_by f [] [] = true
same_by f (x ∷ xs) (y ∷ ys) = f x y && same_by f xs ys
same_by f xs ys = false

pub fields_are_same : (rs : List Row) (fs : List FieldDef) → fields_are rs fs ≡ same_by field_is rs fs
fields_are_same [] [] = refl
fields_are_same [] (f ∷ fs) = refl
fields_are_same (r ∷ rs) [] = refl
fields_are_same (r ∷ rs) (f ∷ fs) = rw (fields_are_same rs fs) refl

pub methods_are_same : (rs : List Row) (ms : List MethodDef) → methods_are rs ms ≡ same_by method_is rs ms
methods_are_same [] [] = refl
methods_are_same [] (m ∷ ms) = refl
methods_are_same (r ∷ rs) [] = refl
methods_are_same (r ∷ rs) (m ∷ ms) = rw (methods_are_same rs ms) refl

-- what is left to compare, from a row on and from an item on
abbrev pub left_by : {X Y : Type 0} → (X → Y → Bool) → (X → Bool) → List X → List Y → ℕ → ℕ → Bool
left_by f p xs ys i k = same_by f (filter p (drop i xs)) (drop k ys)

none_left : {X Y : Type 0} (f : X → Y → Bool) (ys : List Y) (k : ℕ) → k ≤ length ys → same_by f [] (drop k ys) ≡ nat_eq k (length ys)
none_left f [] zero within = refl
none_left f [] (suc k) within = absurd (omega arith)
none_left f (y ∷ ys) zero within = grind arith
none_left f (y ∷ ys) (suc k) within = none_left f ys k (omega arith) ∙ grind arith

-- with no row left, no item may be left
pub left_end : {X Y : Type 0} (f : X → Y → Bool) (p : X → Bool) (xs : List X) (ys : List Y) (i k : ℕ) → length xs ≤ i → k ≤ length ys → left_by f p xs ys i k ≡ nat_eq k (length ys)
left_end f p xs ys i k over within = rw (drop_all i xs over) (none_left f ys k within)

-- ---- the phase

-- a class of the row's name was found
pub row_found : (fields methods : List Row) (cs : List ClassDef) (row : Row) (o : Option (Bor ClassDef)) (c : Bor ClassDef) (r : Bool) → option_map (λ x. x.now) o ≡ find (λ x. bytes_eq x.name (word row 0)) cs → o ≡ Some c → r ≡ class_is_by fields methods row c.now → r ≡ has_row_by fields methods cs row
row_found fields methods cs row o c r found is same =
    let e : find (λ x. bytes_eq x.name (word row 0)) cs ≡ Some c.now = sym found ∙ rw is refl in
    same ∙ sym (ap (λ (x : Option ClassDef). elim x as (λ _. Bool) [ None ↦ false | Some d ↦ class_is_by fields methods row d ]) e)

pub row_not_found : (fields methods : List Row) (cs : List ClassDef) (row : Row) (o : Option (Bor ClassDef)) → option_map (λ x. x.now) o ≡ find (λ x. bytes_eq x.name (word row 0)) cs → o ≡ None → false ≡ has_row_by fields methods cs row
row_not_found fields methods cs row o found is =
    let e : find (λ x. bytes_eq x.name (word row 0)) cs ≡ None = sym found ∙ rw is refl in
    sym (ap (λ (x : Option ClassDef). elim x as (λ _. Bool) [ None ↦ false | Some d ↦ class_is_by fields methods row d ]) e)

-- as many items as there are, and no more than a bound
pub take_min : {X : Type 0} (xs : List X) (n k : ℕ) → k ≡ min (length xs) n → take k xs ≡ take n xs
take_min xs n k is =
    ⊎_elim
    (λ below. let e : k ≡ n = omega arith in ap (λ m. take m xs) e)
    (λ above. let a : length xs ≤ k = omega arith in rw (take_all k xs a, take_all n xs above) refl)
    (or_above n (length xs))

-- what the phase finds, with its tables by name
boot_fault_is : (cs : List ClassDef) (boot : ℕ) → boot_fault cs boot ≡ option_or (first_in (row_lacks_by field_table method_table (take boot cs)) class_table) (first_in (is_foreign_by class_table) (take boot cs))
unfolding boot_fault class_table field_table method_table
boot_fault_is cs boot = refl

-- the rows of a table are those of the boot classes, and the classes are the first ones
pub record AreBoot (cs given : List ClassDef) (boot : ℕ) (classes fields methods : List Row) : Type 0 where
  pub first : given ≡ take boot cs
  pub class_rows : classes ≡ class_table
  pub field_rows : fields ≡ field_table
  pub method_rows : methods ≡ method_table

boot_fault_by : (cs given : List ClassDef) (boot : ℕ) (classes fields methods : List Row) → AreBoot cs given boot classes fields methods → boot_fault cs boot ≡ option_or (first_in (row_lacks_by fields methods given) classes) (first_in (is_foreign_by classes) given)
boot_fault_by cs given boot classes fields methods h = boot_fault_is cs boot ∙ rw (h.first, h.class_rows, h.field_rows, h.method_rows) refl

fails_first : (e : LinkError) (a b : Option Found) → Fails e a → Fails e (option_or a b)
fails_first error.Memory a b h = tt
fails_first (error.At class k) a b h = rw h refl

row_fails : (cs given : List ClassDef) (boot : ℕ) (classes fields methods : List Row) (e : LinkError) → AreBoot cs given boot classes fields methods → Fails e (first_in (row_lacks_by fields methods given) classes) → Fails e (boot_fault cs boot)
row_fails cs given boot classes fields methods e h fails =
    subst (λ (x : Option Found). Fails e x) (sym (boot_fault_by cs given boot classes fields methods h)) (fails_first e _ _ fails)

error_checks : {Y : Type 0} (r : Result Y LinkError) (e : LinkError) (fault : Option Found) → IsErrAnd r (λ d. d ≡ e) → Fails e fault → Checks r fault
error_checks (Ok y) e fault same fails = absurd same
error_checks (Err d) e fault same fails = subst (λ (x : LinkError). Fails x fault) (sym same) fails

-- a row lacks
pub row_checks : {Y : Type 0} (cs given : List ClassDef) (boot : ℕ) (classes fields methods : List Row) (r : Result Y LinkError) (e : LinkError) → AreBoot cs given boot classes fields methods → IsErrAnd r (λ d. d ≡ e) → Fails e (first_in (row_lacks_by fields methods given) classes) → Checks r (boot_fault cs boot)
row_checks cs given boot classes fields methods r e h same fails =
    error_checks r e (boot_fault cs boot) same (row_fails cs given boot classes fields methods e h fails)

-- no row lacks: the phase finds what the second half does
pub foreign_checks : {Y : Type 0} (cs given : List ClassDef) (boot : ℕ) (classes fields methods : List Row) (r : Result Y LinkError) → AreBoot cs given boot classes fields methods → first_in (row_lacks_by fields methods given) classes ≡ None → Checks r (first_in (is_foreign_by classes) given) → Checks r (boot_fault cs boot)
foreign_checks cs given boot classes fields methods r h none checks =
    let e : boot_fault cs boot ≡ first_in (is_foreign_by classes) given = boot_fault_by cs given boot classes fields methods h ∙ rw none refl in
    subst (λ (x : Option Found). Checks r x) (sym e) checks
