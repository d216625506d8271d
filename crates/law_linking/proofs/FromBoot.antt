-- Class Object stands among the classes where the boot classes are those of the table: alone, with no interface and no field.
use Rattle.std.proofs.Common.{◌≡◌, ◌<◌, ℕ, zero, suc, Bool, true, false, not, ◌&&◌, cond, List, [], ◌∷◌, length, take, drop, get_or, Option, Some, None, refl, subst, arith}
use Rattle.std.specs.Prelude.{bytes_eq, slice_get, find, codes}
use Rattle.std.specs.List.{list_all}
use Rattle.std.proofs.lemmas.Bool.{and_parts, not-true, not-false}
use Rattle.std.proofs.lemmas.Slice.Eq.{bytes_eq-Decides}
use Rattle.dv_defs.specs.declared.class.ClassDef.{ClassDef}
use Rattle.dv_defs.specs.declared.class.FieldDef.{FieldDef}
use Rattle.dv_defs.specs.declared.flags.Flag.{Flag}
use Rattle.dv_defs.specs.declared.flags.Flag.TheVariants as flag
use Rattle.dv_defs.specs.First.{first_in}
use Rattle.dv_defs.specs.Flags.{has_flag}
use Rattle.dv_defs.specs.Names.{object_name}
use Rattle.dv_defs.specs.Boot.{Row, word, tells_flag, both_or_none, class_rows, flags_are, parent_is, names_are, fields_are, methods_are, field_rows, method_rows, class_is, has_row}
use Rattle.dv_defs.specs.LinkFaults.{boot_fault, row_lacks, is_foreign, not_there}
use Rattle.law_linking.proofs.First.{or_none, when_none}

-- ---- the first row

-- a row with no flag, no superclass and no interface
root_row : Row
root_row = object_name ∷ codes "-" ∷ codes "-" ∷ []

-- the table begins with it
table_first : get_or class_rows 0 [] ≡ root_row
unfolding root_row
table_first = refl

table_some : 0 < length class_rows
table_some = omega (arith, count)
  where
    count : length class_rows ≡ 33
    count = refl

first_there : (bs : List ClassDef) (rows : List Row) → 0 < length rows → first_in (row_lacks bs) rows ≡ None → has_row bs (get_or rows 0 []) ≡ true
first_there bs [] some none = absurd (omega arith)
first_there bs (row ∷ rows) some none =
    not-false (has_row bs row) (when_none (not (has_row bs row)) (not_there (word row 0)) (or_none (row_lacks bs row) (first_in (row_lacks bs) rows) none).0)

root_there : (cs : List ClassDef) (boot : ℕ) → boot_fault cs boot ≡ None → has_row (take boot cs) root_row ≡ true
unfolding boot_fault
root_there cs boot none =
    let parts = or_none (first_in (row_lacks (take boot cs)) class_rows) (first_in is_foreign (take boot cs)) none in
    subst (λ row. has_row (take boot cs) row ≡ true) table_first (first_there (take boot cs) class_rows table_some parts.0)

-- ---- the class of the row

-- what is found stands somewhere and passes
record IsFoundAt (p : ClassDef → Bool) (cs : List ClassDef) (c : ClassDef) : Type 0 where
  place : ℕ
  at : slice_get cs place ≡ Some c
  passes : p c ≡ true

found_at : (p : ClassDef → Bool) (cs : List ClassDef) (c : ClassDef) → find p cs ≡ Some c → IsFoundAt p cs c
found_at p [] c h = absurd (cc)
found_at p (d ∷ ds) c h = by (p d) refl (λ later. found_at p ds c later) h
  where
    by : (b : Bool) → p d ≡ b → (find p ds ≡ Some c → IsFoundAt p ds c) → cond b (Some d) (find p ds) ≡ Some c → IsFoundAt p (d ∷ ds) c
    by true e rest same = let here : d ≡ c = cc in record { place = 0; at = same; passes = subst (λ x. p x ≡ true) here e }
    by false e rest later = let there = rest later in record { place = suc there.place; at = there.at; passes = there.passes }

front_at : (cs : List ClassDef) (k i : ℕ) (c : ClassDef) → slice_get (take k cs) i ≡ Some c → slice_get cs i ≡ Some c
front_at cs zero i c h = absurd (cc)
front_at [] (suc k) i c h = h
front_at (d ∷ ds) (suc k) zero c h = h
front_at (d ∷ ds) (suc k) (suc i) c h = front_at ds k i c h

-- a class is as a row has it, but for its methods
record IsLike (row : Row) (c : ClassDef) : Type 0 where
  flags : flags_are (word row 1) c.flags ≡ true
  parent : parent_is (word row 2) c.parent ≡ true
  interfaces : names_are (drop 3 row) c.interfaces ≡ true
  fields : fields_are (field_rows (word row 0)) c.fields ≡ true

five : (p q r s t : Bool) → (p && q && r && s && t) ≡ true → (p ≡ true) × (q ≡ true) × (r ≡ true) × (s ≡ true)
five true true true true t h = (refl, refl, refl, refl)
five true true true false t h = absurd (cc)
five true true false s t h = absurd (cc)
five true false r s t h = absurd (cc)
five false q r s t h = absurd (cc)

like_by : (row : Row) (c : ClassDef) → class_is row c ≡ true → IsLike row c
like_by row c is =
    let parts = five (flags_are (word row 1) c.flags) (parent_is (word row 2) c.parent) (names_are (drop 3 row) c.interfaces) (fields_are (field_rows (word row 0)) c.fields) (methods_are (method_rows (word row 0)) c.methods) is in
    record { flags = parts.0; parent = parts.1; interfaces = parts.2; fields = parts.3 }

-- there is a class of a row's name that is as the row has it
record HasLike (row : Row) (cs : List ClassDef) : Type 0 where
  class : ClassDef
  place : ℕ
  at : slice_get cs place ≡ Some class
  named : bytes_eq class.name (word row 0) ≡ true
  like : IsLike row class

like_there : (row : Row) (bs : List ClassDef) → has_row bs row ≡ true → HasLike row bs
like_there row bs has = by (find (λ c. bytes_eq c.name (word row 0)) bs) refl has
  where
    by : (o : Option ClassDef) → find (λ c. bytes_eq c.name (word row 0)) bs ≡ o → elim o [ None ↦ false | Some c ↦ class_is row c ] ≡ true → HasLike row bs
    by None e h = absurd (cc)
    by (Some c) e h =
        let there = found_at (λ c. bytes_eq c.name (word row 0)) bs c e in
        record { class = c; place = there.place; at = there.at; named = there.passes; like = like_by row c h }

-- ---- what the words of the first row say

no_parent : (o : Option (List ℕ)) → parent_is (codes "-") o ≡ true → o ≡ None
no_parent None h = refl
no_parent (Some name) h = absurd (cc)

no_names : (names : List (List ℕ)) → names_are [] names ≡ true → names ≡ []
no_names [] h = refl
no_names (n ∷ ns) h = absurd (cc)

no_fields : (rows : List Row) (fs : List FieldDef) → rows ≡ [] → fields_are rows fs ≡ true → fs ≡ []
no_fields [] [] none h = refl
no_fields [] (f ∷ fs) none h = absurd (cc)
no_fields (r ∷ rs) fs none h = absurd (cc)

root_fields : field_rows object_name ≡ []
root_fields = refl

fifth : (p : Flag → Bool) (a b c d e : Flag) (rest : List Flag) → list_all p (a ∷ b ∷ c ∷ d ∷ e ∷ rest) ≡ true → p e ≡ true
fifth p a b c d e rest all =
    let first = and_parts (p a) (list_all p (b ∷ c ∷ d ∷ e ∷ rest)) all in
    let second = and_parts (p b) (list_all p (c ∷ d ∷ e ∷ rest)) first.1 in
    let third = and_parts (p c) (list_all p (d ∷ e ∷ rest)) second.1 in
    let fourth = and_parts (p d) (list_all p (e ∷ rest)) third.1 in
    (and_parts (p e) (list_all p rest) fourth.1).0

no_interface : (flags : ℕ) → flags_are (codes "-") flags ≡ true → has_flag flags flag.Interface ≡ false
no_interface flags are =
    not-true (has_flag flags flag.Interface)
    (fifth (λ f. both_or_none (tells_flag (codes "-") f) (has_flag flags f)) flag.Static flag.Final flag.Private flag.Native flag.Interface (flag.Abstract ∷ flag.Volatile ∷ []) are)

-- class Object, with nothing above it and without fields
pub record HasObject (cs : List ClassDef) : Type 0 where
  pub class : ClassDef
  pub place : ℕ
  pub at : slice_get cs place ≡ Some class
  pub named : class.name ≡ object_name
  pub flags : has_flag class.flags flag.Interface ≡ false
  pub parent : class.parent ≡ None
  pub interfaces : class.interfaces ≡ []
  pub fields : class.fields ≡ []

pub object_there : (cs : List ClassDef) (boot : ℕ) → boot_fault cs boot ≡ None → HasObject cs
unfolding root_row
object_there cs boot none =
    let there = like_there root_row (take boot cs) (root_there cs boot none) in
    record {
      class = there.class;
      place = there.place;
      at = front_at cs boot there.place there.class there.at;
      named = (bytes_eq-Decides there.class.name object_name).0 there.named;
      flags = no_interface there.class.flags there.like.flags;
      parent = no_parent there.class.parent there.like.parent;
      interfaces = no_names there.class.interfaces there.like.interfaces;
      fields = no_fields (field_rows object_name) there.class.fields root_fields there.like.fields;
    }
