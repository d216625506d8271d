-- The words of fields, by their declarations.
use Rattle.std.specs.Prelude.{ℕ, List, [], Option, Some, None, slice_get}
use Rattle.dv_defs.specs.Field.{FieldValue}
use Rattle.dv_defs.specs.declared.image.FieldInfo.{FieldInfo}
use Rattle.dv_defs.specs.Images.{Image}
use Rattle.dv_defs.specs.Pools.{fields_of}
use Rattle.dv_defs.specs.Types.{words_of}
use Rattle.dv_machine.specs.Opening.{first_cells}
use Rattle.dv_words.specs.Erasure.{erased_values}

-- how a field is declared
abbrev pub declared_as : Image → FieldInfo → Option FieldValue
declared_as image info = slice_get (fields_of (slice_get image.classes info.class.0)) info.place

-- the first words of a static field; an instance field has none
abbrev pub first_words : Option FieldValue → List ℕ
first_words None = []
first_words (Some x) = erased_values (first_cells x)

-- how many words a value of the field has
abbrev pub value_words : Option FieldValue → ℕ
value_words None = 0
value_words (Some x) = words_of x.ty
