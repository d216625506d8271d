-- The place of a field in its class, and its number.
use Rattle.std.specs.Prelude.{ℕ, suc, ◌+◌, Bool, true, false, ◌&&◌, List, [], ◌∷◌, length, take, sum_by, Option, Some, None, slice_get, bytes_eq, option_map}
use Rattle.dv_defs.specs.declared.names.Ty.{Ty}
use Rattle.dv_defs.specs.declared.names.FieldId.{FieldId}
use Rattle.dv_defs.specs.declared.class.FieldDef.{FieldDef}
use Rattle.dv_defs.specs.Images.{Image}
use Rattle.dv_defs.specs.Pools.{Field, fields_of}
use Rattle.dv_defs.specs.Types.{ty_eq}

abbrev pub is_like : List ℕ → Ty → FieldDef → Bool
is_like name t f = bytes_eq f.name name && ty_eq f.ty t

abbrev pub place_or : Bool → ℕ → Option ℕ → Option ℕ
place_or here k rest = elim here [ true ↦ Some k | false ↦ rest ]

-- the first of these fields that is like the one that is sought, by its place
abbrev pub place_from : (FieldDef → Bool) → List FieldDef → ℕ → Option ℕ
place_from like [] k = None
place_from like (f ∷ fs) k = place_or (like f) k (place_from like fs (suc k))

abbrev pub place_in_class : Image → ℕ → List ℕ → Ty → Option ℕ
place_in_class image c name t = place_from (is_like name t) (fields_of (slice_get image.classes c)) 0

-- how many fields a class declares
abbrev pub field_count_at : Image → ℕ → ℕ
field_count_at image c = length (fields_of (slice_get image.classes c))

-- the number of the field at a place of a class: fields are numbered class by class
unfoldable pub number_at : Image → ℕ → ℕ → ℕ
number_at image c k = sum_by (λ i. length i.def.fields) (take c image.classes) + k

abbrev pub id_of : Option Field → Option FieldId
id_of f = option_map (λ g. record { 0 = g.id }) f
