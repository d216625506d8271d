-- The pieces that stand on the lines of a class, outside the bodies of its methods, and what these lines say.
use Rattle.std.specs.Prelude.{◌≡◌, ℕ, ◌^◌, ◌<◌, Bool, false, IsTrue, IsUtf8, List, [], ◌∷◌, ◌++◌, codes, Some, Ok, if◌then◌else◌}
use Rattle.std.specs.Fmt.{signed_decimal}
use Rattle.std.specs.List.{flat_map}
use Rattle.dv_defs.specs.declared.class.ClassDef.{ClassDef}
use Rattle.dv_defs.specs.declared.class.Init.{Init}
use Rattle.dv_defs.specs.declared.class.Init.TheVariants as init
use Rattle.dv_defs.specs.declared.class.MethodDef.{MethodDef}
use Rattle.dv_defs.specs.declared.flags.Flag.{Flag}
use Rattle.dv_defs.specs.declared.names.Proto.{Proto}
use Rattle.dv_defs.specs.Field.{FieldValue, may_stand}
use Rattle.dv_defs.specs.Flags.{has_flag}
use Rattle.dv_names.specs.Descriptors.{descriptor, prototype, IsClassName, IsProto}
use Rattle.dv_print.specs.Listing.{all_flags, flag_word, flags_text, class_line as class_text, superclass_line as superclass_text, interface_line as interface_text, field_line as field_text}
use Rattle.dv_coderead.specs.declared.head.Directive.TheVariants.{EndMethod}
use Rattle.dv_coderead.specs.declared.head.Head.TheVariants.{Directive}
use Rattle.dv_coderead.specs.Heads.{head_of}
use Rattle.dv_coderead.specs.Pieces.{Piece, AWord, AMark, AString}
use Rattle.dv_classread.specs.declared.class_line.Standing.{Standing}
use Rattle.dv_classread.specs.declared.class_line.Standing.TheVariants.{Inside}
use Rattle.dv_classread.specs.declared.class_line.ClassLine.TheVariants as line
use Rattle.dv_classread.specs.ClassLines.{class_line, lacks_super}
use Rattle.law_listing.specs.Printed.{HaveLines}
use Rattle.law_listing.specs.Listable.{AreStringUnits, IsNameText, IsTypeText}

-- ---- what can be printed

-- flags of which each has a word
abbrev pub HasKnownFlags : ℕ → Type 0
HasKnownFlags flags = flags < 2 ^ 19

-- the descriptor of a class, in UTF-8
abbrev pub IsClassText : List ℕ → Type 0
IsClassText name = IsClassName name × IsUtf8 name

abbrev pub IsProtoText : Proto → Type 0
IsProtoText p = IsProto p × IsUtf8 (prototype p)

abbrev pub IsInitText : Init → Type 0
IsInitText (init.Str units) = AreStringUnits units
IsInitText i = Unit {0}

pub record IsListedField (f : FieldValue) : Type 0 where
  pub name : IsNameText f.name
  pub ty : IsTypeText f.ty
  pub flags : HasKnownFlags f.flags
  pub init : IsInitText f.init
  pub stands : IsTrue (may_stand f.init f.ty f.flags)

pub record IsListedSignature (m : MethodDef) : Type 0 where
  pub name : IsNameText m.name
  pub proto : IsProtoText m.proto
  pub flags : HasKnownFlags m.flags

-- ---- pieces

abbrev pub flag_piece : ℕ → Flag → List Piece
flag_piece flags f = if has_flag flags f then AWord (flag_word f) ∷ [] else []

abbrev pub flag_pieces : ℕ → List Piece
flag_pieces flags = flat_map (flag_piece flags) all_flags

abbrev pub class_pieces : ClassDef → List Piece
class_pieces c = AWord (codes ".class") ∷ (flag_pieces c.flags ++ AWord c.name ∷ [])

abbrev pub superclass_pieces : List ℕ → List Piece
superclass_pieces name = AWord (codes ".super") ∷ AWord name ∷ []

abbrev pub interface_pieces : List ℕ → List Piece
interface_pieces name = AWord (codes ".implements") ∷ AWord name ∷ []

-- the value of a field, behind its type
abbrev pub value_pieces : Init → List Piece
value_pieces init.Absent = []
value_pieces (init.Num n) = AMark 61 ∷ AWord (signed_decimal n) ∷ []
value_pieces (init.Str chars) = AMark 61 ∷ AString chars ∷ []
value_pieces init.Null = AMark 61 ∷ AWord (codes "null") ∷ []

abbrev pub field_pieces : FieldValue → List Piece
field_pieces f = AWord (codes ".field") ∷ (flag_pieces f.flags ++ AWord (f.name ++ codes ":" ++ descriptor f.ty) ∷ value_pieces f.init)

-- how a method begins
abbrev pub method_header : MethodDef → List ℕ
method_header m = codes ".method " ++ flags_text m.flags ++ m.name ++ prototype m.proto ++ codes "\n"

abbrev pub method_pieces : MethodDef → List Piece
method_pieces m = AWord (codes ".method") ∷ (flag_pieces m.flags ++ AWord (m.name ++ prototype m.proto) ∷ [])

abbrev pub end_method_pieces : List Piece
end_method_pieces = AWord (codes ".end") ∷ AWord (codes "method") ∷ []

-- ---- what the lines hold

abbrev pub ClassLinesStand : Type 0
ClassLinesStand = (c : ClassDef) → IsClassText c.name → HaveLines (class_text c) (class_pieces c ∷ [])

abbrev pub SuperclassLinesStand : Type 0
SuperclassLinesStand = (name : List ℕ) → IsClassText name → HaveLines (superclass_text (Some name)) (superclass_pieces name ∷ [])

abbrev pub InterfaceLinesStand : Type 0
InterfaceLinesStand = (name : List ℕ) → IsClassText name → HaveLines (interface_text name) (interface_pieces name ∷ [])

abbrev pub FieldLinesStand : Type 0
FieldLinesStand = (f : FieldValue) → IsListedField f → HaveLines (field_text f) (field_pieces f ∷ [])

abbrev pub MethodHeadersStand : Type 0
MethodHeadersStand = (m : MethodDef) → IsListedSignature m → HaveLines (method_header m) (method_pieces m ∷ [])

abbrev pub MethodEndsStand : Type 0
MethodEndsStand = HaveLines (codes ".end method\n") (end_method_pieces ∷ [])

-- ---- what the lines say

-- a class begins outside of classes, or where the class before has its superclass or is Object
abbrev pub ClassLinesAreRead : Type 0
ClassLinesAreRead =
    (c : ClassDef) (s : Standing) (n : ℕ) → IsClassText c.name → HasKnownFlags c.flags → lacks_super s ≡ false
    → class_line s n (class_pieces c) ≡ Ok (line.Class (record { name = c.name; flags = c.flags; line = n }))

-- a superclass stands in another class than Object that has none yet
abbrev pub SuperclassLinesAreRead : Type 0
SuperclassLinesAreRead = (name : List ℕ) (n : ℕ) → IsClassText name → class_line (Inside false false) n (superclass_pieces name) ≡ Ok (line.Super name)

abbrev pub InterfaceLinesAreRead : Type 0
InterfaceLinesAreRead =
    (name : List ℕ) (is_object has_super : Bool) (n : ℕ) → IsClassText name → class_line (Inside is_object has_super) n (interface_pieces name) ≡ Ok (line.Implements name)

abbrev pub FieldLinesAreRead : Type 0
FieldLinesAreRead =
    (f : FieldValue) (is_object has_super : Bool) (n : ℕ) → IsListedField f → class_line (Inside is_object has_super) n (field_pieces f) ≡ Ok (line.Field f)

abbrev pub MethodHeadersAreRead : Type 0
MethodHeadersAreRead =
    (m : MethodDef) (is_object has_super : Bool) (n : ℕ) → IsListedSignature m
    → class_line (Inside is_object has_super) n (method_pieces m) ≡ Ok (line.Method (record { name = m.name; proto = m.proto; flags = m.flags }))

abbrev pub MethodEndsAreRead : Type 0
MethodEndsAreRead = head_of end_method_pieces ≡ Directive EndMethod
