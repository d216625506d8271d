-- The listing of a class.
use Rattle.std.specs.Prelude.{ℕ, List, [], ◌∷◌, ◌++◌, codes, Option, Some, None, if◌then◌else◌}
use Rattle.std.specs.Fmt.{signed_decimal}
use Rattle.std.specs.List.{flat_map}
use Rattle.dv_defs.specs.declared.flags.Flag.{Flag}
use Rattle.dv_defs.specs.declared.flags.Flag.TheVariants as flag
use Rattle.dv_defs.specs.declared.class.Init.{Init}
use Rattle.dv_defs.specs.declared.class.Init.TheVariants as init
use Rattle.dv_defs.specs.declared.class.MethodDef.{MethodDef}
use Rattle.dv_defs.specs.declared.class.ClassDef.{ClassDef}
use Rattle.dv_defs.specs.Body.{BodyValue}
use Rattle.dv_defs.specs.Field.{FieldValue}
use Rattle.dv_defs.specs.Flags.{has_flag}
use Rattle.dv_names.specs.Descriptors.{descriptor, prototype}
use Rattle.dv_names.specs.Written.{string_text}
use Rattle.dv_print.specs.Drafting.{draft_of}
use Rattle.dv_print.specs.Draft.{draft_text}
use Rattle.dv_print.specs.Raw.{raw_text}

-- the flags in the order in which they are printed
abbrev pub all_flags : List Flag
all_flags =
    flag.Public ∷ flag.Private ∷ flag.Protected ∷ flag.Static ∷ flag.Final ∷ flag.Synchronized ∷ flag.Volatile ∷
    flag.Bridge ∷ flag.Transient ∷ flag.Varargs ∷ flag.Native ∷ flag.Interface ∷ flag.Abstract ∷ flag.Strictfp ∷
    flag.Synthetic ∷ flag.Annotation ∷ flag.Enum ∷ flag.Constructor ∷ flag.DeclaredSynchronized ∷ []

abbrev pub flag_word : Flag → List ℕ
flag_word flag.Public = codes "public"
flag_word flag.Private = codes "private"
flag_word flag.Protected = codes "protected"
flag_word flag.Static = codes "static"
flag_word flag.Final = codes "final"
flag_word flag.Synchronized = codes "synchronized"
flag_word flag.Volatile = codes "volatile"
flag_word flag.Bridge = codes "bridge"
flag_word flag.Transient = codes "transient"
flag_word flag.Varargs = codes "varargs"
flag_word flag.Native = codes "native"
flag_word flag.Interface = codes "interface"
flag_word flag.Abstract = codes "abstract"
flag_word flag.Strictfp = codes "strictfp"
flag_word flag.Synthetic = codes "synthetic"
flag_word flag.Annotation = codes "annotation"
flag_word flag.Enum = codes "enum"
flag_word flag.Constructor = codes "constructor"
flag_word flag.DeclaredSynchronized = codes "declared-synchronized"

-- a flag with a blank behind it, where it is among flags
abbrev pub flag_text : ℕ → Flag → List ℕ
flag_text flags f = if has_flag flags f then flag_word f ++ codes " " else []

abbrev pub flags_text : ℕ → List ℕ
flags_text flags = flat_map (flag_text flags) all_flags

abbrev pub superclass_line : Option (List ℕ) → List ℕ
superclass_line None = []
superclass_line (Some name) = codes ".super " ++ name ++ codes "\n"

abbrev pub interface_line : List ℕ → List ℕ
interface_line name = codes ".implements " ++ name ++ codes "\n"

-- the value that a field is defined with
abbrev pub value_text : Init → List ℕ
value_text init.Absent = []
value_text (init.Num n) = codes " = " ++ signed_decimal n
value_text (init.Str chars) = codes " = " ++ string_text chars
value_text init.Null = codes " = null"

abbrev pub field_line : FieldValue → List ℕ
field_line f = codes ".field " ++ flags_text f.flags ++ f.name ++ codes ":" ++ descriptor f.ty ++ value_text f.init ++ codes "\n"

abbrev pub body_text : BodyValue → List ℕ
body_text b = if b.raw then raw_text b else draft_text (draft_of b)

abbrev pub body_text_if_any : Option BodyValue → List ℕ
body_text_if_any None = []
body_text_if_any (Some b) = body_text b

abbrev pub method_lines : MethodDef → List ℕ
method_lines m =
    codes ".method " ++ flags_text m.flags ++ m.name ++ prototype m.proto ++ codes "\n" ++
    body_text_if_any m.body ++
    codes ".end method\n"

abbrev pub class_line : ClassDef → List ℕ
class_line c = codes ".class " ++ flags_text c.flags ++ c.name ++ codes "\n"

-- the class, its superclass and interfaces, its fields and its methods
unfoldable pub class_text : ClassDef → List ℕ
class_text c =
    class_line c ++ superclass_line c.parent ++ flat_map interface_line c.interfaces ++
    flat_map field_line c.fields ++ flat_map method_lines c.methods
