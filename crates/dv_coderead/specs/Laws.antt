-- The laws of single words, and of references.
use Rattle.std.specs.Prelude.{◌≡◌, ◌↔◌, ℕ, IsTrue, List, Some, Ok}
use Rattle.dv_defs.specs.declared.names.Ty.{Ty}
use Rattle.dv_defs.specs.declared.names.Proto.{Proto}
use Rattle.dv_defs.specs.declared.names.FieldRef.{FieldRef}
use Rattle.dv_defs.specs.declared.names.MethodRef.{MethodRef}
use Rattle.dv_defs.specs.Types.{is_reference}
use Rattle.dv_names.specs.Descriptors.{descriptor, prototype, IsType, IsProto}
use Rattle.dv_names.specs.Written.{field_text, method_text}
use Rattle.dv_lex.specs.Literals.{IsString}
use Rattle.dv_lex.specs.Numbers.{Number, Spells}
use Rattle.dv_lex.specs.Laws.Names.{IsFieldRef, IsMethodRef}
use Rattle.dv_coderead.specs.Words.{number_in, string_of}
use Rattle.dv_coderead.specs.References.{type_in, proto_in, field_in, method_in}

-- ---- words

-- A text is read as the number that it spells, and as no other.
abbrev pub NumbersAreSpelled : Type 0
NumbersAreSpelled = (text : List ℕ) (n : Number) → (number_in text ≡ Some n) ↔ Spells text n

-- A string literal is read as the units that it is written with.
abbrev pub StringsAreWritten : Type 0
StringsAreWritten = (units text : List ℕ) → IsString units text → string_of text ≡ units

-- ---- the text of a type, a prototype or a reference is read as just that

abbrev pub TypesAreRead : Type 0
TypesAreRead = (t : Ty) → IsType t → type_in (descriptor t) ≡ Ok t

abbrev pub PrototypesAreRead : Type 0
PrototypesAreRead = (p : Proto) → IsProto p → proto_in (prototype p) ≡ Ok p

-- of a class or an array
abbrev pub FieldsAreRead : Type 0
FieldsAreRead = (f : FieldRef) → IsFieldRef f → IsTrue (is_reference f.class) → field_in (field_text f) ≡ Ok f

abbrev pub MethodsAreRead : Type 0
MethodsAreRead = (m : MethodRef) → IsMethodRef m → IsTrue (is_reference m.class) → method_in (method_text m) ≡ Ok m
