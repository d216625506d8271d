-- In a linked image there is a class for each row of the table of boot classes, as the row has it.
use Rattle.std.proofs.Common.{◌≡◌, ℕ, zero, suc, Bool, true, false, not, cond, ◌&&◌, List, [], ◌∷◌, take, drop, Option, Some, None, refl, sym, ap, subst, ◌∙◌}
use Rattle.std.specs.Prelude.{bytes_eq, slice_get, find, option_map, option_and_then}
use Rattle.std.specs.List.{list_any}
use Rattle.std.proofs.lemmas.Bool.{and_parts, not-false, or_parts}
use Rattle.std.proofs.lemmas.Slice.Eq.{bytes_eq-Decides}
use Rattle.std.proofs.lemmas.Option.{slice_get-map}
use Rattle.dv_defs.specs.declared.class.ClassDef.{ClassDef}
use Rattle.dv_defs.specs.declared.class.FieldDef.{FieldDef}
use Rattle.dv_defs.specs.declared.class.MethodDef.{MethodDef}
use Rattle.dv_defs.specs.declared.image.ClassInfo.{ClassInfo}
use Rattle.dv_defs.specs.declared.image.MethodInfo.{MethodInfo}
use Rattle.dv_defs.specs.declared.image.FieldInfo.{FieldInfo}
use Rattle.dv_defs.specs.Images.{Image}
use Rattle.dv_defs.specs.First.{first_in}
use Rattle.dv_defs.specs.Pools.{Method, Field, class_named, class_number, parent_at, method_at, field_at, with_info, with_def, with_field_info, with_field, methods_of, fields_of}
use Rattle.dv_defs.specs.Numbering.{class_id, declared, numbered}
use Rattle.dv_defs.specs.Boot.{Row, word, class_rows, flags_are, parent_is, names_are, field_is, fields_are, method_is, methods_are, field_rows, method_rows, class_is, has_row}
use Rattle.dv_defs.specs.LinkFaults.{boot_fault, row_lacks, is_foreign, not_there}
use Rattle.dv_defs.specs.Linked.{IsImage, defs}
use Rattle.law_linking.proofs.First.{or_none, when_none}
use Rattle.law_linking.proofs.FromFaults.{HasNoFirstFault, no_first_fault, named_at, named_same, parent_numbered}
use Rattle.law_linking.proofs.AlikeImages.{alike_class_named, alike_parent_at}
use Rattle.law_linking.proofs.OrderedImages.{image_phases, image_alike}

-- ---- a row's class among the definitions

rows_there : (bs : List ClassDef) (rows : List Row) (k : ℕ) (row : Row) → first_in (row_lacks bs) rows ≡ None → slice_get rows k ≡ Some row → has_row bs row ≡ true
rows_there bs [] k row none at = absurd (cc)
rows_there bs (r ∷ rows) zero row none at =
    let same : r ≡ row = cc in
    subst (λ x. has_row bs x ≡ true) same
    (not-false (has_row bs r) (when_none (not (has_row bs r)) (not_there (word r 0)) (or_none (row_lacks bs r) (first_in (row_lacks bs) rows) none).0))
rows_there bs (r ∷ rows) (suc k) row none at = rows_there bs rows k row (or_none (row_lacks bs r) (first_in (row_lacks bs) rows) none).1 at

row_kept : (cs : List ClassDef) (boot k : ℕ) (row : Row) → boot_fault cs boot ≡ None → slice_get class_rows k ≡ Some row → has_row (take boot cs) row ≡ true
unfolding boot_fault
row_kept cs boot k row none at =
    rows_there (take boot cs) class_rows k row (or_none (first_in (row_lacks (take boot cs)) class_rows) (first_in is_foreign (take boot cs)) none).0 at

-- what is found stands somewhere and passes
record IsFoundAt (p : ClassDef → Bool) (cs : List ClassDef) (c : ClassDef) : Type 0 where
  place : ℕ
  at : slice_get cs place ≡ Some c
  passes : p c ≡ true

found_at : (p : ClassDef → Bool) (cs : List ClassDef) (c : ClassDef) → find p cs ≡ Some c → IsFoundAt p cs c
found_at p [] c h = absurd (cc)
found_at p (d ∷ ds) c h = by (p d) refl (λ later. found_at p ds c later) h
  where
    by : (b : Bool) → p d ≡ b → (find p ds ≡ Some c → IsFoundAt p ds c) → cond b (Some d) (find p ds) ≡ Some c → IsFoundAt p (d ∷ ds) c
    by true e rest same = let here : d ≡ c = cc in record { place = 0; at = same; passes = subst (λ x. p x ≡ true) here e }
    by false e rest later = let there = rest later in record { place = suc there.place; at = there.at; passes = there.passes }

front_at : (cs : List ClassDef) (k i : ℕ) (c : ClassDef) → slice_get (take k cs) i ≡ Some c → slice_get cs i ≡ Some c
front_at cs zero i c h = absurd (cc)
front_at [] (suc k) i c h = h
front_at (d ∷ ds) (suc k) zero c h = h
front_at (d ∷ ds) (suc k) (suc i) c h = front_at ds k i c h

-- there is a class of a row's name that is as the row has it
record HasLike (row : Row) (cs : List ClassDef) : Type 0 where
  class : ClassDef
  place : ℕ
  at : slice_get cs place ≡ Some class
  named : bytes_eq class.name (word row 0) ≡ true
  like : class_is row class ≡ true

like_there : (row : Row) (bs : List ClassDef) → has_row bs row ≡ true → HasLike row bs
like_there row bs has = by (find (λ c. bytes_eq c.name (word row 0)) bs) refl has
  where
    by : (o : Option ClassDef) → find (λ c. bytes_eq c.name (word row 0)) bs ≡ o → elim o [ None ↦ false | Some c ↦ class_is row c ] ≡ true → HasLike row bs
    by None e h = absurd (cc)
    by (Some c) e h =
        let there = found_at (λ c. bytes_eq c.name (word row 0)) bs c e in
        record { class = c; place = there.place; at = there.at; named = there.passes; like = h }

-- ---- a row's class in the image

info_of : (cs : List ClassInfo) (i : ℕ) (d : ClassDef) → slice_get (defs cs) i ≡ Some d → (c : ClassInfo) × (slice_get cs i ≡ Some c) × (c.def ≡ d)
info_of [] i d h = absurd (cc)
info_of (c ∷ cs) zero d h = let same : c.def ≡ d = cc in (c, refl, same)
info_of (c ∷ cs) (suc i) d h = info_of cs i d h

pub def_of : (cs : List ClassInfo) (i : ℕ) (c : ClassInfo) → slice_get cs i ≡ Some c → slice_get (defs cs) i ≡ Some c.def
def_of cs i c at = slice_get-map (λ (d : ClassInfo). d.def) cs i ∙ ap (option_map (λ (d : ClassInfo). d.def)) at

-- a class is as a row has it
pub record IsAs (row : Row) (c : ClassDef) : Type 0 where
  pub flags : flags_are (word row 1) c.flags ≡ true
  pub parent : parent_is (word row 2) c.parent ≡ true
  pub interfaces : names_are (drop 3 row) c.interfaces ≡ true
  pub fields : fields_are (field_rows (word row 0)) c.fields ≡ true
  pub methods : methods_are (method_rows (word row 0)) c.methods ≡ true

five : (p q r s t : Bool) → (p && q && r && s && t) ≡ true → (p ≡ true) × (q ≡ true) × (r ≡ true) × (s ≡ true) × (t ≡ true)
five true true true true true h = (refl, refl, refl, refl, refl)
five true true true true false h = absurd (cc)
five true true true false t h = absurd (cc)
five true true false s t h = absurd (cc)
five true false r s t h = absurd (cc)
five false q r s t h = absurd (cc)

as_by : (row : Row) (c : ClassDef) → class_is row c ≡ true → IsAs row c
as_by row c is =
    let parts = five (flags_are (word row 1) c.flags) (parent_is (word row 2) c.parent) (names_are (drop 3 row) c.interfaces) (fields_are (field_rows (word row 0)) c.fields) (methods_are (method_rows (word row 0)) c.methods) is in
    record { flags = parts.0; parent = parts.1; interfaces = parts.2; fields = parts.3; methods = parts.4 }

-- the class of a row, by its number
pub record HasRow (image : Image) (row : Row) : Type 0 where
  pub number : ℕ
  pub class : ClassInfo
  pub at : slice_get image.classes number ≡ Some class
  pub name : class.def.name ≡ word row 0
  pub named : class_named image (word row 0) ≡ Some number
  pub as_row : IsAs row class.def

module _ (image : Image) (is : IsImage image) where
  no_fault : HasNoFirstFault (defs image.classes) image.boot
  no_fault = no_first_fault (defs image.classes) image.boot (image_phases image is).0

  -- names mean what they meant among the definitions
  named_declared : (name : List ℕ) → class_named image name ≡ class_named (declared (defs image.classes) image.boot) name
  named_declared name =
      alike_class_named image (numbered (defs image.classes) image.boot) (image_alike image is) name ∙
      named_same (defs image.classes) image.boot name

  -- each class is found under its own name
  pub named_own : (i : ℕ) (c : ClassInfo) → slice_get image.classes i ≡ Some c → class_named image c.def.name ≡ Some i
  named_own i c at =
      named_declared c.def.name ∙
      named_at (defs image.classes) image.boot no_fault.twice i c.def (def_of image.classes i c at)

  pub row_there : (k : ℕ) (row : Row) → slice_get class_rows k ≡ Some row → HasRow image row
  row_there k row at =
      let like = like_there row (take image.boot (defs image.classes)) (row_kept (defs image.classes) image.boot k row no_fault.boots at) in
      let stands : slice_get (defs image.classes) like.place ≡ Some like.class = front_at (defs image.classes) image.boot like.place like.class like.at in
      let info = info_of image.classes like.place like.class stands in
      let name : info.0.def.name ≡ word row 0 = ap (λ (d : ClassDef). d.name) info.2 ∙ (bytes_eq-Decides like.class.name (word row 0)).0 like.named in
      record {
        number = like.place;
        class = info.0;
        at = info.1;
        name = name;
        named = subst (λ n. class_named image n ≡ Some like.place) name (named_own like.place info.0 info.1);
        as_row = subst (IsAs row) (sym info.2) (as_by row like.class like.like);
      }

  -- a class of a row's name is the row's
  pub row_class : (row : Row) (has : HasRow image row) (i : ℕ) (c : ClassInfo) → slice_get image.classes i ≡ Some c → c.def.name ≡ word row 0 → (i ≡ has.number) × (c ≡ has.class)
  row_class row has i c at name =
      let own : class_named image (word row 0) ≡ Some i = subst (λ n. class_named image n ≡ Some i) name (named_own i c at) in
      let other : class_named image (word row 0) ≡ Some has.number = has.named in
      let both : Some i ≡ Some has.number = sym own ∙ other in
      let same : i ≡ has.number = cc in
      let twice : Some c ≡ Some has.class = sym at ∙ (ap (slice_get image.classes) same ∙ has.at) in
      let is_class : c ≡ has.class = cc in
      (same, is_class)

  -- the superclass that a class names
  pub parent_by : (i : ℕ) (c : ClassInfo) → slice_get image.classes i ≡ Some c → (name : List ℕ) (p : ℕ) → c.def.parent ≡ Some name → class_named image name ≡ Some p → parent_at image i ≡ Some p
  parent_by i c at name p parent named =
      alike_parent_at image (numbered (defs image.classes) image.boot) (image_alike image is) i ∙
      parent_numbered (defs image.classes) image.boot i c.def (def_of image.classes i c at) ∙
      ap (λ o. class_number (option_map class_id (option_and_then (class_named (declared (defs image.classes) image.boot)) o))) parent ∙
      ap (λ o. class_number (option_map class_id o)) (sym (named_declared name) ∙ named)

-- ---- members by their rows

-- each method of a class is as a row of it has it
pub method_row : (rows : List Row) (ms : List MethodDef) (k : ℕ) (m : MethodDef) → methods_are rows ms ≡ true → slice_get ms k ≡ Some m → (row : Row) × (slice_get rows k ≡ Some row) × (method_is row m ≡ true)
method_row [] [] k m are at = absurd (cc)
method_row [] (n ∷ ms) k m are at = absurd (cc)
method_row (r ∷ rows) [] k m are at = absurd (cc)
method_row (r ∷ rows) (n ∷ ms) zero m are at =
    let same : n ≡ m = cc in
    (r, refl, subst (λ x. method_is r x ≡ true) same (and_parts (method_is r n) (methods_are rows ms) are).0)
method_row (r ∷ rows) (n ∷ ms) (suc k) m are at = method_row rows ms k m (and_parts (method_is r n) (methods_are rows ms) are).1 at

-- and each field
pub field_row : (rows : List Row) (fs : List FieldDef) (k : ℕ) (f : FieldDef) → fields_are rows fs ≡ true → slice_get fs k ≡ Some f → (row : Row) × (slice_get rows k ≡ Some row) × (field_is row f ≡ true)
field_row [] [] k f are at = absurd (cc)
field_row [] (g ∷ fs) k f are at = absurd (cc)
field_row (r ∷ rows) [] k f are at = absurd (cc)
field_row (r ∷ rows) (g ∷ fs) zero f are at =
    let same : g ≡ f = cc in
    (r, refl, subst (λ x. field_is r x ≡ true) same (and_parts (field_is r g) (fields_are rows fs) are).0)
field_row (r ∷ rows) (g ∷ fs) (suc k) f are at = field_row rows fs k f (and_parts (field_is r g) (fields_are rows fs) are).1 at

-- a test that no row passes fails at each
pub not_any : (p : Row → Bool) (rows : List Row) (k : ℕ) (row : Row) → list_any p rows ≡ false → slice_get rows k ≡ Some row → p row ≡ false
not_any p [] k row none at = absurd (cc)
not_any p (r ∷ rows) zero row none at =
    let same : r ≡ row = cc in subst (λ x. p x ≡ false) same (or_parts (p r) (list_any p rows) none).0
not_any p (r ∷ rows) (suc k) row none at = not_any p rows k row (or_parts (p r) (list_any p rows) none).1 at

-- ---- a member stands in its class

pub record MethodIn (image : Image) (m : Method) : Type 0 where
  pub class : ClassInfo
  pub class_at : slice_get image.classes m.info.class.0 ≡ Some class
  pub there : slice_get class.def.methods m.info.place ≡ Some m.def

pub method_in : (image : Image) (n : ℕ) (m : Method) → method_at image n ≡ Some m → MethodIn image m
unfolding method_at
method_in image n m e = by (slice_get image.methods n) e
  where
    at_place : (info : MethodInfo) (c : ClassInfo) → slice_get image.classes info.class.0 ≡ Some c → (o : Option MethodDef) → slice_get c.def.methods info.place ≡ o → with_def n info o ≡ Some m → MethodIn image m
    at_place info c class None d h = absurd (cc)
    at_place info c class (Some def) d h =
        let made : Method = record { id = n; info = info; def = def } in
        let same : made ≡ m = cc in
        let here : MethodIn image made = record { class = c; class_at = class; there = d } in
        subst (MethodIn image) same here

    at_class : (info : MethodInfo) (o : Option ClassInfo) → slice_get image.classes info.class.0 ≡ o → with_def n info (slice_get (methods_of o) info.place) ≡ Some m → MethodIn image m
    at_class info None class h = absurd (cc)
    at_class info (Some c) class h = at_place info c class (slice_get c.def.methods info.place) refl h

    by : (o : Option MethodInfo) → with_info image n o ≡ Some m → MethodIn image m
    by None h = absurd (cc)
    by (Some info) h = at_class info (slice_get image.classes info.class.0) refl h

pub record FieldIn (image : Image) (n : ℕ) (f : Field) : Type 0 where
  pub class : ClassInfo
  pub class_at : slice_get image.classes f.info.class.0 ≡ Some class
  pub there : slice_get class.def.fields f.info.place ≡ Some f.def
  pub info_at : slice_get image.fields n ≡ Some f.info
  pub id_is : f.id ≡ n

pub field_in : (image : Image) (n : ℕ) (f : Field) → field_at image n ≡ Some f → FieldIn image n f
unfolding field_at
field_in image n f e = by (slice_get image.fields n) refl e
  where
    at_place : (info : FieldInfo) → slice_get image.fields n ≡ Some info → (c : ClassInfo) → slice_get image.classes info.class.0 ≡ Some c → (o : Option FieldDef) → slice_get c.def.fields info.place ≡ o → with_field n info o ≡ Some f → FieldIn image n f
    at_place info i c class None d h = absurd (cc)
    at_place info i c class (Some def) d h =
        let made : Field = record { id = n; info = info; def = def } in
        let same : made ≡ f = cc in
        let here : FieldIn image n made = record { class = c; class_at = class; there = d; info_at = i; id_is = refl } in
        subst (FieldIn image n) same here

    at_class : (info : FieldInfo) → slice_get image.fields n ≡ Some info → (o : Option ClassInfo) → slice_get image.classes info.class.0 ≡ o → with_field n info (slice_get (fields_of o) info.place) ≡ Some f → FieldIn image n f
    at_class info i None class h = absurd (cc)
    at_class info i (Some c) class h = at_place info i c class (slice_get c.def.fields info.place) refl h

    by : (o : Option FieldInfo) → slice_get image.fields n ≡ o → with_field_info image n o ≡ Some f → FieldIn image n f
    by None i h = absurd (cc)
    by (Some info) i h = at_class info i (slice_get image.classes info.class.0) refl h
