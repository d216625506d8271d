-- An entry of a pool is told by the shape of its text.
use Rattle.std.proofs.Common.{◌≡◌, ℕ, zero, suc, true, eqb, List, [], ◌∷◌, ◌++◌, replicate, Some, None, Ok, refl, ap, ◌∙◌}
use Rattle.std.specs.Prelude.{not, ◌&&◌, codes, is_some}
use Rattle.std.specs.List.{flat_map, join_with_byte}
use Rattle.std.proofs.lemmas.Bool.{and_parts, cond-false, cond-true, not-true}
use Rattle.dv_defs.specs.declared.names.Base.{Base}
use Rattle.dv_defs.specs.declared.names.Base.TheVariants as base
use Rattle.dv_defs.specs.declared.names.Ty.{Ty}
use Rattle.dv_defs.specs.declared.names.FieldRef.{FieldRef}
use Rattle.dv_defs.specs.declared.names.MethodRef.{MethodRef}
use Rattle.dv_names.specs.Descriptors.{base_text, descriptor, prototype, return_text, IsBase, IsType}
use Rattle.dv_names.specs.Written.{field_text, method_text}
use Rattle.dv_draft.specs.declared.draft.PoolRef.TheVariants as pool
use Rattle.dv_coderead.specs.Laws.{TypesAreRead, FieldsAreRead, MethodsAreRead}
use Rattle.dv_coderead.specs.Operands.{as_entry}
use Rattle.dv_coderead.specs.Pieces.{AWord, AString}
use Rattle.dv_coderead.specs.RawLines.{by_arrow, entry_by_shape}
use Rattle.dv_coderead.specs.References.{cut_at, cut_at_arrow, with_byte}
use Rattle.dv_coderead.specs.Words.{begins_with}
use Rattle.dv_coderead.proofs.Arrows.{arrowless, cut_arrowless, type_arrowless}
use Rattle.dv_coderead.proofs.Cuts.{cut_lacking}
use Rattle.dv_coderead.proofs.Lacking.{lacks, lacks_append, name_lacks, names_lack}
use Rattle.dv_coderead.proofs.Printed.{field_split, method_split}
use Rattle.law_listing.specs.Listable.{IsFieldText, IsMethodText, IsTypeText}

-- ---- arrows

uncut_arrowless : (w : List ℕ) → arrowless w ≡ true → cut_at_arrow w ≡ None
unfolding cut_at_arrow
uncut_arrowless [] none = refl
uncut_arrowless (b ∷ w) none =
    let p = and_parts _ _ none in
    cond-false (eqb b 45 && begins_with 62 w) _ _ (not-true (eqb b 45 && begins_with 62 w) p.0) ∙ ap (with_byte b) (uncut_arrowless w p.1)

-- ---- parentheses

base_lacks : (b : Base) → IsBase b → lacks 40 (base_text b) ≡ true
base_lacks base.Z is = refl
base_lacks base.B is = refl
base_lacks base.C is = refl
base_lacks base.S is = refl
base_lacks base.I is = refl
base_lacks base.J is = refl
base_lacks (base.Class name) is =
    ap (lacks 40) is.spelled ∙ lacks_append 40 (join_with_byte 47 (is.first ∷ is.others)) (59 ∷ []) (names_lack 40 refl refl refl refl (is.first ∷ is.others) is.are_names) refl

dims_lack : (n : ℕ) (w : List ℕ) → lacks 40 w ≡ true → lacks 40 (replicate n 91 ++ w) ≡ true
dims_lack zero w is = is
dims_lack (suc n) w is = dims_lack n w is

type_lacks : (t : Ty) → IsType t → lacks 40 (descriptor t) ≡ true
type_lacks t is = dims_lack t.dims (base_text t.base) (base_lacks t.base is.1)

-- a text that lacks the byte isn't cut at it
uncut : (w : List ℕ) → lacks 40 w ≡ true → cut_at 40 w ≡ None
unfolding cut_at
uncut [] none = refl
uncut (b ∷ w) none =
    let p = and_parts (not (eqb b 40)) (lacks 40 w) none in
    cond-false (eqb b 40) _ _ (not-true (eqb b 40) p.0) ∙ ap (with_byte b) (uncut w p.1)

-- ---- entries

by_shape : (w : List ℕ) → entry_by_shape (AWord w) ≡ by_arrow w (cut_at_arrow w)
unfolding entry_by_shape
by_shape w = refl

pub string_entry : (units : List ℕ) → entry_by_shape (AString units) ≡ Ok (pool.Str units)
unfolding entry_by_shape
string_entry units = refl

pub type_entry : TypesAreRead → (t : Ty) → IsTypeText t → entry_by_shape (AWord (descriptor t)) ≡ Ok (pool.OfType t)
type_entry types t is =
    by_shape (descriptor t) ∙ ap (by_arrow (descriptor t)) (uncut_arrowless (descriptor t) (type_arrowless t is.0)) ∙ ap (as_entry pool.OfType) (types t is.0)

pub field_entry : FieldsAreRead → (f : FieldRef) → IsFieldText f → entry_by_shape (AWord (field_text f)) ≡ Ok (pool.Field f)
field_entry fields f is =
    let member = f.name ++ 58 ∷ descriptor f.ty in
    let cut = ap cut_at_arrow (field_split (descriptor f.class) (codes "->") f.name (codes ":") (descriptor f.ty))
    ∙ cut_arrowless (descriptor f.class) member (type_arrowless f.class is.0.0) in
    let none : cut_at 40 member ≡ None = uncut member (lacks_append 40 f.name (58 ∷ descriptor f.ty) (name_lacks 40 refl refl refl f.name is.0.1) (type_lacks f.ty is.0.2)) in
    by_shape (field_text f) ∙ ap (by_arrow (field_text f)) cut
    ∙ cond-false (is_some (cut_at 40 member)) _ _ (ap is_some none) ∙ ap (as_entry pool.Field) (fields f is.0 is.1)

pub method_entry : MethodsAreRead → (m : MethodRef) → IsMethodText m → entry_by_shape (AWord (method_text m)) ≡ Ok (pool.Method m)
method_entry methods m is =
    let behind = flat_map descriptor m.proto.params ++ 41 ∷ return_text m.proto.ret in
    let member = m.name ++ 40 ∷ behind in
    let cut = ap cut_at_arrow (method_split (descriptor m.class) (codes "->") m.name (prototype m.proto))
    ∙ cut_arrowless (descriptor m.class) member (type_arrowless m.class is.0.0) in
    let some : cut_at 40 member ≡ Some (m.name, behind) = cut_lacking 40 m.name behind (name_lacks 40 refl refl refl m.name is.0.1) in
    by_shape (method_text m) ∙ ap (by_arrow (method_text m)) cut
    ∙ cond-true (is_some (cut_at 40 member)) _ _ (ap is_some some) ∙ ap (as_entry pool.Method) (methods m is.0 is.1)
