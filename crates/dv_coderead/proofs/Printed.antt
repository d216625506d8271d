-- The text of a reference is read as that reference.
use Rattle.std.proofs.Common.{◌≡◌, ℕ, List, ◌∷◌, ◌++◌, Ok, refl, ap, ◌∙◌}
use Rattle.std.specs.Prelude.{IsTrue, codes}
use Rattle.std.specs.List.{flat_map}
use Rattle.std.proofs.lemmas.Bool.{cond-true}
use Rattle.std.proofs.lemmas.List.{append_assoc}
use Rattle.dv_defs.specs.declared.names.Ty.{Ty}
use Rattle.dv_defs.specs.declared.names.Proto.{Proto}
use Rattle.dv_defs.specs.declared.names.FieldRef.{FieldRef}
use Rattle.dv_defs.specs.declared.names.MethodRef.{MethodRef}
use Rattle.dv_defs.specs.Types.{is_reference}
use Rattle.dv_names.specs.Descriptors.{descriptor, prototype, return_text, is_name, IsType, IsProto}
use Rattle.dv_names.specs.Written.{field_text, method_text}
use Rattle.dv_names.proofs.Protos.{type_none, proto_none}
use Rattle.dv_lex.specs.Laws.Names.{IsFieldRef, IsMethodRef}
use Rattle.dv_coderead.specs.References.{type_in, proto_in, reference_type_in, only_reference, arrow_parts, found_parts, member_name, field_in, method_in}
use Rattle.dv_coderead.proofs.Readings.{reads_next}
use Rattle.dv_coderead.proofs.Lacking.{name_lacks}
use Rattle.dv_coderead.proofs.Cuts.{cut_lacking}
use Rattle.dv_coderead.proofs.Arrows.{cut_arrowless, type_arrowless}
use Rattle.dv_coderead.proofs.Descriptors.{type_read, proto_read}
use Rattle.dv_coderead.proofs.Members.{field_parts, method_parts, of_field, of_method, opened, reads_member}

pub printed_type : (t : Ty) → IsType t → type_in (descriptor t) ≡ Ok t
printed_type t is = type_read (descriptor t) t (type_none t (descriptor t) is refl) is refl

pub printed_proto : (p : Proto) → IsProto p → proto_in (prototype p) ≡ Ok p
printed_proto p is = proto_read (prototype p) p (proto_none p (prototype p) is refl) is refl

-- ---- the parts of a reference

printed_class : (t : Ty) → IsType t → IsTrue (is_reference t) → reference_type_in (descriptor t) ≡ Ok t
printed_class t is refers = reads_next (type_in (descriptor t)) only_reference t t (printed_type t is) (cond-true (is_reference t) _ _ refers)

printed_arrow : (t : Ty) (rest : List ℕ) → IsType t → arrow_parts (descriptor t ++ 45 ∷ 62 ∷ rest) ≡ Ok (descriptor t, rest)
printed_arrow t rest is = ap found_parts (cut_arrowless (descriptor t) rest (type_arrowless t is))

printed_name : (name : List ℕ) → IsTrue (is_name name) → member_name name ≡ Ok name
printed_name name is = cond-true (is_name name) _ _ is

-- ---- references

pub field_split : (class arrow name colon ty : List ℕ) → class ++ arrow ++ name ++ colon ++ ty ≡ class ++ (arrow ++ (name ++ (colon ++ ty)))
field_split class arrow name colon ty = simp append_assoc

pub method_split : (class arrow name proto : List ℕ) → class ++ arrow ++ name ++ proto ≡ class ++ (arrow ++ (name ++ proto))
method_split class arrow name proto = simp append_assoc

pub printed_field : (f : FieldRef) → IsFieldRef f → IsTrue (is_reference f.class) → field_in (field_text f) ≡ Ok f
printed_field f is refers =
    let member = f.name ++ 58 ∷ descriptor f.ty in
    let text = descriptor f.class ++ 45 ∷ 62 ∷ member in
    ap field_in (field_split (descriptor f.class) (codes "->") f.name (codes ":") (descriptor f.ty)) ∙ field_parts text
    ∙ reads_member 58 type_in of_field text (descriptor f.class, member) (printed_arrow f.class member is.0) f.class (printed_class f.class is.0 refers)
    (f.name, descriptor f.ty) (ap found_parts (cut_lacking 58 f.name (descriptor f.ty) (name_lacks 58 refl refl refl f.name is.1)))
    f.name (printed_name f.name is.1) f.ty (printed_type f.ty is.2)

pub printed_method : (m : MethodRef) → IsMethodRef m → IsTrue (is_reference m.class) → method_in (method_text m) ≡ Ok m
printed_method m is refers =
    let behind = flat_map descriptor m.proto.params ++ 41 ∷ return_text m.proto.ret in
    let member = m.name ++ 40 ∷ behind in
    let text = descriptor m.class ++ 45 ∷ 62 ∷ member in
    ap method_in (method_split (descriptor m.class) (codes "->") m.name (prototype m.proto)) ∙ method_parts text
    ∙ reads_member 40 opened of_method text (descriptor m.class, member) (printed_arrow m.class member is.0) m.class (printed_class m.class is.0 refers)
    (m.name, behind) (ap found_parts (cut_lacking 40 m.name behind (name_lacks 40 refl refl refl m.name is.1)))
    m.name (printed_name m.name is.1) m.proto (printed_proto m.proto is.2)
