-- What the lines of a class say, outside its methods, each judged by where it stands.
use Rattle.std.specs.Prelude.{◌≡◌, ℕ, ◌+◌, ◌^◌, ◌&&◌, not, IsTrue, ℤ, pos, Bool, true, false, List, [], ◌∷◌, codes, bytes_eq, Option, Some, None, Result, Ok, Err, ◌==◌, if◌then◌else◌}
use Rattle.dv_defs.specs.declared.class.Init.{Init}
use Rattle.dv_defs.specs.declared.class.Init.TheVariants as init
use Rattle.dv_defs.specs.declared.faults.LineKind.{LineKind}
use Rattle.dv_defs.specs.declared.faults.LineKind.TheVariants as kind
use Rattle.dv_defs.specs.declared.flags.Flag.{Flag}
use Rattle.dv_defs.specs.declared.flags.Flag.TheVariants as flag
use Rattle.dv_defs.specs.declared.names.Base.{Base}
use Rattle.dv_defs.specs.declared.names.Base.TheVariants as base
use Rattle.dv_defs.specs.declared.names.Ty.{Ty}
use Rattle.dv_defs.specs.Field.{FieldValue, value_fits}
use Rattle.dv_defs.specs.Flags.{bit_of, has_flag}
use Rattle.dv_defs.specs.Names.{object_name}
use Rattle.dv_lex.specs.Numbers.{Number, in_bits, signed}
use Rattle.dv_coderead.specs.declared.head.Directive.{Directive}
use Rattle.dv_coderead.specs.declared.head.Directive.TheVariants as directive
use Rattle.dv_coderead.specs.declared.head.Head.{Head}
use Rattle.dv_coderead.specs.declared.head.Head.TheVariants as head
use Rattle.dv_coderead.specs.Giving.{◌>>=◌}
use Rattle.dv_coderead.specs.Pieces.{Piece, AWord, AMark, AString, ACharacter}
use Rattle.dv_coderead.specs.Words.{fitting, number_in}
use Rattle.dv_coderead.specs.References.{type_in, class_in, proto_in, cut_at, found_parts, member_name}
use Rattle.dv_coderead.specs.Operands.{Part, word_at, alone, after_first, ended}
use Rattle.dv_coderead.specs.Heads.{head_of}
use Rattle.dv_classread.specs.declared.class_line.Signature.{Signature}
use Rattle.dv_classread.specs.declared.class_line.ClassHead.{ClassHead}
use Rattle.dv_classread.specs.declared.class_line.Standing.{Standing}
use Rattle.dv_classread.specs.declared.class_line.Standing.TheVariants as standing
use Rattle.dv_classread.specs.declared.class_line.ClassLine.{ClassLine}
use Rattle.dv_classread.specs.declared.class_line.ClassLine.TheVariants as line

-- ---- flags

-- the flag of a word, of those from `annotation` on
abbrev pub flag_from_annotation : List ℕ → Option Flag
flag_from_annotation w =
    if bytes_eq w (codes "annotation") then Some flag.Annotation
    else if bytes_eq w (codes "enum") then Some flag.Enum
    else if bytes_eq w (codes "constructor") then Some flag.Constructor
    else if bytes_eq w (codes "declared-synchronized") then Some flag.DeclaredSynchronized
    else None

-- the flag of a word, of those from `native` on
abbrev pub flag_from_native : List ℕ → Option Flag
flag_from_native w =
    if bytes_eq w (codes "native") then Some flag.Native
    else if bytes_eq w (codes "interface") then Some flag.Interface
    else if bytes_eq w (codes "abstract") then Some flag.Abstract
    else if bytes_eq w (codes "strictfp") then Some flag.Strictfp
    else if bytes_eq w (codes "synthetic") then Some flag.Synthetic
    else flag_from_annotation w

-- the flag of a word, of those from `synchronized` on
abbrev pub flag_from_synchronized : List ℕ → Option Flag
flag_from_synchronized w =
    if bytes_eq w (codes "synchronized") then Some flag.Synchronized
    else if bytes_eq w (codes "volatile") then Some flag.Volatile
    else if bytes_eq w (codes "bridge") then Some flag.Bridge
    else if bytes_eq w (codes "transient") then Some flag.Transient
    else if bytes_eq w (codes "varargs") then Some flag.Varargs
    else flag_from_native w

-- the flag of a word
unfoldable pub flag_of : List ℕ → Option Flag
flag_of w =
    if bytes_eq w (codes "public") then Some flag.Public
    else if bytes_eq w (codes "private") then Some flag.Private
    else if bytes_eq w (codes "protected") then Some flag.Protected
    else if bytes_eq w (codes "static") then Some flag.Static
    else if bytes_eq w (codes "final") then Some flag.Final
    else flag_from_synchronized w

-- a flag more, which may stand once; or the flags are told, and these pieces stand behind them
abbrev pub with_flag : ℕ → Option Flag → Part ℕ → Part ℕ → Part ℕ
with_flag flags None told more = told
with_flag flags (Some f) told more = if has_flag flags f then Err kind.Repeated else more

abbrev pub and_bit : ℕ → Option Flag → ℕ
and_bit flags None = flags
and_bit flags (Some f) = flags + 2 ^ bit_of f

-- the flags that stand in front, beside these
unfoldable pub flags_at : ℕ → List Piece → Part ℕ
flags_at flags (AWord w ∷ ps) = with_flag flags (flag_of w) (Ok (flags, AWord w ∷ ps)) (flags_at (and_bit flags (flag_of w)) ps)
flags_at flags ps = Ok (flags, ps)

-- ---- classes

-- the descriptor of a class, and of no other type
abbrev pub name_of : Base → Result (List ℕ) LineKind
name_of (base.Class name) = Ok name
name_of b = Err kind.BadDescriptor

abbrev pub class_name : List ℕ → Result (List ℕ) LineKind
class_name w = class_in w >>= λ class. name_of class.base

unfoldable pub class_name_line : List Piece → Result (List ℕ) LineKind
class_name_line ps = alone (word_at class_name ps)

-- flags, and the class
unfoldable pub class_head_line : ℕ → List Piece → Result ClassHead LineKind
class_head_line n ps = do
  flags ← flags_at 0 ps
  name ← class_name_line flags.1
  Ok (record { flags = flags.0; name = name; line = n })

-- ---- fields

-- a value that the type of the field holds
abbrev pub fitting_value : Ty → Init → Result Init LineKind
fitting_value t i = if value_fits i t then Ok i else Err kind.NumberRange

-- a number as one of this type: of 32 bits for an int, of 64 bits for a long, by its own value for any other
abbrev pub number_as : Base → Number → Option ℤ
number_as base.I n = in_bits 32 n
number_as base.J n = in_bits 64 n
number_as b n = Some (signed n)

abbrev pub number_value : Ty → Option Number → Result Init LineKind
number_value t None = Err kind.Operands
number_value t (Some n) = fitting (number_as t.base n) >>= λ z. fitting_value t (init.Num z)

abbrev pub is_true : List ℕ → Bool
is_true w = bytes_eq w (codes "true")

abbrev pub is_false : List ℕ → Bool
is_false w = bytes_eq w (codes "false")

abbrev pub is_boolean_base : Base → Bool
is_boolean_base base.Z = true
is_boolean_base b = false

-- `true` and `false` are values of booleans alone
abbrev pub is_boolean : Ty → Bool
is_boolean t = (t.dims == 0) && is_boolean_base t.base

abbrev pub boolean_value : Ty → ℕ → Result Init LineKind
boolean_value t n = if is_boolean t then Ok (init.Num (pos n)) else Err kind.NumberRange

unfoldable pub word_value : Ty → List ℕ → Result Init LineKind
word_value t w =
    if is_true w then boolean_value t 1
    else if is_false w then boolean_value t 0
    else if bytes_eq w (codes "null") then fitting_value t init.Null
    else number_value t (number_in w)

-- the value of a field: a number, a boolean, a character, a string or null
unfoldable pub value_in : Ty → Piece → Result Init LineKind
value_in t (AWord w) = word_value t w
value_in t (ACharacter u) = fitting_value t (init.Num (pos u))
value_in t (AString units) = fitting_value t (init.Str units)
value_in t (AMark b) = Err kind.Operands

abbrev pub value_alone : Ty → List Piece → Result Init LineKind
value_alone t [] = Err kind.Operands
value_alone t (p ∷ ps) = value_in t p >>= λ i. ended ps >>= λ nothing. Ok i

-- a value stands on a static field alone, behind a `=`
abbrev pub init_line : Bool → Ty → List Piece → Result Init LineKind
init_line is_static t [] = Ok init.Absent
init_line is_static t (AMark b ∷ ps) = if (b == 61) && is_static then value_alone t ps else Err kind.Operands
init_line is_static t ps = Err kind.Operands

abbrev pub NameAndType : Type 0
NameAndType = List ℕ × Ty

-- a name, a colon and a type
unfoldable pub name_and_type : List ℕ → Result NameAndType LineKind
name_and_type w = do
  parts ← found_parts (cut_at 58 w)
  name ← member_name parts.0
  ty ← type_in parts.1
  Ok (name, ty)

unfoldable pub field_line : List Piece → Result FieldValue LineKind
field_line ps = do
  flags ← flags_at 0 ps
  field ← word_at name_and_type flags.1
  value ← init_line (has_flag flags.0 flag.Static) field.0.1 field.1
  Ok (record { name = field.0.0; ty = field.0.1; flags = flags.0; init = value })

-- ---- methods

-- a name and a prototype, which begins with its parenthesis
unfoldable pub name_and_proto : ℕ → List ℕ → Result Signature LineKind
name_and_proto flags w = do
  parts ← found_parts (cut_at 40 w)
  name ← member_name parts.0
  proto ← proto_in (40 ∷ parts.1)
  Ok (record { name = name; proto = proto; flags = flags })

unfoldable pub signature_line : List Piece → Result Signature LineKind
signature_line ps = do
  flags ← flags_at 0 ps
  alone (word_at (name_and_proto flags.0) flags.1)

-- ---- lines

abbrev pub said : {A : Type 0} → (A → ClassLine) → Result A LineKind → Result ClassLine LineKind
said f (Ok x) = Ok (f x)
said f (Err k) = Err k

-- a line that may not stand here
abbrev pub directive_refusal : Directive → LineKind
directive_refusal directive.OtherEnd = kind.Operands
directive_refusal directive.Other = kind.UnknownDirective
directive_refusal d = kind.Misplaced

abbrev pub refusal_of : Head → LineKind
refusal_of (head.Directive d) = directive_refusal d
refusal_of head.Float = kind.FloatInsn
refusal_of head.Other = kind.UnknownInsn
refusal_of h = kind.Misplaced

-- a superclass stands once, but in Object
abbrev pub superclass_line : Bool → Bool → List Piece → Result ClassLine LineKind
superclass_line is_object has_super ps =
    if is_object then Err kind.Misplaced
    else if has_super then Err kind.Repeated
    else said line.Super (class_name_line ps)

-- a class has its superclass before the next one begins, but Object
abbrev pub lacks_super : Standing → Bool
lacks_super standing.Outside = false
lacks_super (standing.Inside is_object has_super) = not is_object && not has_super

abbrev pub next_class_line : Standing → ℕ → List Piece → Result ClassLine LineKind
next_class_line s n ps = if lacks_super s then Err kind.Missing else said line.Class (class_head_line n ps)

abbrev pub inside_line : Bool → Bool → Directive → List Piece → Result ClassLine LineKind
inside_line is_object has_super directive.Super ps = superclass_line is_object has_super ps
inside_line is_object has_super directive.Implements ps = said line.Implements (class_name_line ps)
inside_line is_object has_super directive.Field ps = said line.Field (field_line ps)
inside_line is_object has_super directive.Method ps = said line.Method (signature_line ps)
inside_line is_object has_super d ps = Err (directive_refusal d)

-- a source may stand before the first class too
abbrev pub by_directive : Standing → ℕ → Directive → List Piece → Result ClassLine LineKind
by_directive s n directive.Class ps = next_class_line s n ps
by_directive s n directive.Source ps = Ok line.Source
by_directive standing.Outside n d ps = Err (directive_refusal d)
by_directive (standing.Inside is_object has_super) n d ps = inside_line is_object has_super d ps

abbrev pub by_head : Standing → ℕ → Head → List Piece → Result ClassLine LineKind
by_head s n (head.Directive d) ps = by_directive s n d (after_first ps)
by_head s n h ps = Err (refusal_of h)

-- what the line of this number says that stands there
unfoldable pub class_line : Standing → ℕ → List Piece → Result ClassLine LineKind
class_line s n ps = by_head s n (head_of ps) ps

-- where the line behind it stands
abbrev pub is_object_name : List ℕ → Bool
is_object_name w = bytes_eq w object_name

abbrev pub with_super : Standing → Standing
with_super standing.Outside = standing.Outside
with_super (standing.Inside is_object has_super) = standing.Inside is_object true

abbrev pub stands_next : Standing → ClassLine → Standing
stands_next s (line.Class c) = standing.Inside (is_object_name c.name) false
stands_next s (line.Super name) = with_super s
stands_next s l = s

-- ---- what calls keep

-- a value that may stand in a field, static or not, of this type
abbrev pub StandsIn : Bool → Ty → Init → Type 0
StandsIn is_static t init.Absent = Unit {0}
StandsIn is_static t i = (is_static ≡ true) × IsTrue (value_fits i t)
