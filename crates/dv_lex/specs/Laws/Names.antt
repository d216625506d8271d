-- The words that descriptors, references and labels are.
use Rattle.std.specs.Prelude.{ℕ, ◌<◌, IsTrue, List, ◌∷◌, length}
use Rattle.std.specs.List.{list_all}
use Rattle.dv_defs.specs.declared.names.Ty.{Ty}
use Rattle.dv_defs.specs.declared.names.Proto.{Proto}
use Rattle.dv_defs.specs.declared.names.FieldRef.{FieldRef}
use Rattle.dv_defs.specs.declared.names.MethodRef.{MethodRef}
use Rattle.dv_names.specs.Descriptors.{descriptor, prototype, is_name, IsType, IsProto}
use Rattle.dv_names.specs.Written.{field_text, method_text}
use Rattle.dv_lex.specs.Bytes.{is_plain}

-- a text that is one token wherever no plain byte follows it: a word
abbrev pub IsWord : List ℕ → Type 0
IsWord w = (0 < length w) × IsTrue (list_all is_plain w)

abbrev pub IsFieldRef : FieldRef → Type 0
IsFieldRef f = IsType f.class × IsTrue (is_name f.name) × IsType f.ty

abbrev pub IsMethodRef : MethodRef → Type 0
IsMethodRef m = IsType m.class × IsTrue (is_name m.name) × IsProto m.proto

abbrev pub DescriptorsAreWords : Type 0
DescriptorsAreWords = (t : Ty) → IsType t → IsWord (descriptor t)

abbrev pub PrototypesAreWords : Type 0
PrototypesAreWords = (p : Proto) → IsProto p → IsWord (prototype p)

abbrev pub FieldsAreWords : Type 0
FieldsAreWords = (f : FieldRef) → IsFieldRef f → IsWord (field_text f)

abbrev pub MethodsAreWords : Type 0
MethodsAreWords = (m : MethodRef) → IsMethodRef m → IsWord (method_text m)

abbrev pub NamesAreWords : Type 0
NamesAreWords = (name : List ℕ) → IsTrue (is_name name) → IsWord name

-- a label: a colon and its name
abbrev pub LabelsAreWords : Type 0
LabelsAreWords = (name : List ℕ) → IsTrue (is_name name) → IsWord (58 ∷ name)
