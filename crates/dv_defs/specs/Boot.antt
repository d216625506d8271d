-- The boot classes as a table, and whether classes are those of it.
use Rattle.std.specs.Prelude.{ℕ, suc, Bool, true, false, ◌&&◌, not, List, [], ◌∷◌, drop, map, filter, find, Option, Some, None, slice_index_or, nat_eq, bytes_eq, codes, if◌then◌else◌}
use Rattle.std.specs.List.{list_any, list_all, slice_split}
use Rattle.dv_defs.specs.declared.boot.TheConstants.{BOOT_CLASSES, BOOT_FIELDS, BOOT_METHODS}
use Rattle.dv_defs.specs.declared.names.Base.{Base}
use Rattle.dv_defs.specs.declared.names.Base.TheVariants as base
use Rattle.dv_defs.specs.declared.names.Ty.{Ty}
use Rattle.dv_defs.specs.declared.class.ClassDef.{ClassDef}
use Rattle.dv_defs.specs.declared.class.FieldDef.{FieldDef}
use Rattle.dv_defs.specs.declared.class.MethodDef.{MethodDef}
use Rattle.dv_defs.specs.declared.flags.Flag.{Flag}
use Rattle.dv_defs.specs.declared.flags.Flag.TheVariants as flag
use Rattle.dv_defs.specs.Flags.{has_flag}
use Rattle.dv_defs.specs.Types.{of_base, of_class, ty_eq}

-- ---- the table

-- the words of a line
abbrev pub Row : Type 0
Row = List (List ℕ)

abbrev pub words : List ℕ → Row
words line = slice_split (λ b. nat_eq b 32) line

abbrev pub rows : List ℕ → List Row
rows text = map words (slice_split (λ b. nat_eq b 10) text)

abbrev pub word : Row → ℕ → List ℕ
word row k = slice_index_or row k []

abbrev pub class_rows : List Row
class_rows = rows BOOT_CLASSES.now

-- the rows of a class
abbrev pub is_row_of : List ℕ → Row → Bool
is_row_of class row = bytes_eq (word row 0) class

abbrev pub field_rows : List ℕ → List Row
field_rows class = filter (is_row_of class) (rows BOOT_FIELDS.now)

abbrev pub method_rows : List ℕ → List Row
method_rows class = filter (is_row_of class) (rows BOOT_METHODS.now)

-- ---- what a word says

-- the flags that have an effect; all others are for tools alone
abbrev pub effective : List Flag
effective = flag.Static ∷ flag.Final ∷ flag.Private ∷ flag.Native ∷ flag.Interface ∷ flag.Abstract ∷ flag.Volatile ∷ []

abbrev pub flag_name : Flag → List ℕ
flag_name flag.Static = codes "static"
flag_name flag.Final = codes "final"
flag_name flag.Private = codes "private"
flag_name flag.Native = codes "native"
flag_name flag.Interface = codes "interface"
flag_name flag.Abstract = codes "abstract"
flag_name flag.Volatile = codes "volatile"
flag_name f = []

-- a flag is told, in a word with a plus between flags
abbrev pub tells_flag : List ℕ → Flag → Bool
tells_flag w f = list_any (bytes_eq (flag_name f)) (slice_split (λ b. nat_eq b 43) w)

abbrev pub both_or_none : Bool → Bool → Bool
both_or_none a b = if a then b else not b

-- of the flags that have an effect just those are there that the word tells
abbrev pub flags_are : List ℕ → ℕ → Bool
flags_are w flags = list_all (λ f. both_or_none (tells_flag w f) (has_flag flags f)) effective

abbrev pub base_in : List ℕ → Base
base_in w =
    if bytes_eq w (codes "Z") then base.Z
    else if bytes_eq w (codes "B") then base.B
    else if bytes_eq w (codes "C") then base.C
    else if bytes_eq w (codes "S") then base.S
    else if bytes_eq w (codes "I") then base.I
    else if bytes_eq w (codes "J") then base.J
    else base.Class w

-- the type that a word names: a bracket for each dimension, and the base
abbrev pub type_in : List ℕ → Ty
type_in [] = of_class []
type_in (b ∷ bs) =
    elim (nat_eq b 91) [ true ↦ record { dims = suc (type_in bs).dims; base = (type_in bs).base } | false ↦ of_base (base_in (b ∷ bs)) ]

-- no result is a V
abbrev pub result_is : List ℕ → Option Ty → Bool
result_is w None = bytes_eq w (codes "V")
result_is w (Some t) = not (bytes_eq w (codes "V")) && ty_eq (type_in w) t

abbrev pub types_are : Row → List Ty → Bool
types_are [] [] = true
types_are (w ∷ ws) (t ∷ ts) = ty_eq (type_in w) t && types_are ws ts
types_are ws ts = false

-- no superclass is a dash
abbrev pub parent_is : List ℕ → Option (List ℕ) → Bool
parent_is w None = bytes_eq w (codes "-")
parent_is w (Some name) = not (bytes_eq w (codes "-")) && bytes_eq w name

abbrev pub names_are : Row → List (List ℕ) → Bool
names_are [] [] = true
names_are (w ∷ ws) (n ∷ ns) = bytes_eq w n && names_are ws ns
names_are ws ns = false

-- ---- a class of the table

abbrev pub field_is : Row → FieldDef → Bool
field_is row f = flags_are (word row 1) f.flags && bytes_eq (word row 2) f.name && ty_eq (type_in (word row 3)) f.ty

abbrev pub fields_are : List Row → List FieldDef → Bool
fields_are [] [] = true
fields_are (row ∷ rs) (f ∷ fs) = field_is row f && fields_are rs fs
fields_are rs fs = false

abbrev pub method_is : Row → MethodDef → Bool
method_is row m =
    flags_are (word row 1) m.flags && bytes_eq (word row 2) m.name && result_is (word row 3) m.proto.ret &&
    types_are (drop 4 row) m.proto.params

abbrev pub methods_are : List Row → List MethodDef → Bool
methods_are [] [] = true
methods_are (row ∷ rs) (m ∷ ms) = method_is row m && methods_are rs ms
methods_are rs ms = false

-- bodies aren't compared, nor are the values of fields
abbrev pub class_is : Row → ClassDef → Bool
class_is row c =
    flags_are (word row 1) c.flags && parent_is (word row 2) c.parent && names_are (drop 3 row) c.interfaces &&
    fields_are (field_rows (word row 0)) c.fields && methods_are (method_rows (word row 0)) c.methods

-- the first class of the row's name is as the row has it
abbrev pub has_row : List ClassDef → Row → Bool
has_row cs row = elim (find (λ c. bytes_eq c.name (word row 0)) cs) [ None ↦ false | Some c ↦ class_is row c ]

abbrev pub is_in_table : List ℕ → Bool
is_in_table name = list_any (is_row_of name) class_rows
