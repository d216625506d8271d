-- The heap as a value, with what each call makes of it.
use Rattle.std.specs.Prelude.{ℕ, zero, suc, pred, ◌+◌, ◌*◌, ◌/◌, ◌++◌, Bool, true, false, List, [], ◌∷◌, length, map, Option, Some, None, slice_get, slice_set, slice_index_or, nat_le, bytes_eq}
use Rattle.dv_defs.specs.declared.names.Ty.{Ty}
use Rattle.dv_defs.specs.declared.names.FieldId.{FieldId}
use Rattle.dv_machine.specs.Value.{Value}
use Rattle.dv_machine.specs.Value as v
use Rattle.dv_machine.specs.Kind.{Kind}
use Rattle.dv_machine.specs.Kind as kind
use Rattle.dv_typing.specs.declared.typing.RegType.{RegType}
use Rattle.dv_typing.specs.declared.typing.RegType.TheVariants as ty
use Rattle.dv_defs.specs.Images.{Image}
use Rattle.dv_defs.specs.declared.image.ClassInfo.{ClassInfo}
use Rattle.dv_defs.specs.Names.{string_name, class_name}
use Rattle.dv_defs.specs.Types.{of_class, ty_eq, component, words_of}
use Rattle.dv_typing.specs.RegTypes.{reg_types}
use Rattle.dv_defs.specs.Pools.{Field, field_at, class_type}

abbrev pub Cells : Type 0
Cells = List Value

pub record Heap : Type 0 where
  -- of the objects 1, 2, 3 ..
  pub kinds : List Kind
  pub cells : List Cells
  -- by field; an instance field has no cells
  pub statics : List Cells
  -- the interned strings and the Class objects
  pub interned : List ℕ
  pub class_objects : List ℕ
  pub used : ℕ
  -- none while nothing is counted
  pub limit : Option ℕ

abbrev pub kind_of : Heap → ℕ → Option Kind
kind_of h zero = None
kind_of h (suc o) = slice_get h.kinds o

abbrev pub kind_type : Image → Kind → Ty
kind_type image (kind.Object c) = class_type image c.0
kind_type image (kind.Array t) = t
kind_type image (kind.Str s) = of_class string_name
kind_type image (kind.ClassOf t) = of_class class_name

-- the types of an object's cells: a long has two
abbrev pub type_of_field : Option Field → List RegType
type_of_field None = []
type_of_field (Some x) = reg_types x.def.ty

-- `slots` has each field once; its cells stand one after another
abbrev pub slot_types : Image → List FieldId → List RegType
slot_types image [] = []
slot_types image (x ∷ xs) = type_of_field (field_at image x.0) ++ slot_types image xs

abbrev pub slots_of : Option ClassInfo → List FieldId
slots_of None = []
slots_of (Some c) = c.slots

abbrev pub class_cells : Image → ℕ → List RegType
class_cells image c = slot_types image (slots_of (slice_get image.classes c))

abbrev pub zero_cell : RegType → Value
zero_cell ty.LongLo = v.Lo 0
zero_cell ty.LongHi = v.Hi 0
zero_cell t = v.Zero

abbrev pub fresh_cells : List RegType → Cells
fresh_cells ts = map zero_cell ts

abbrev pub copies : ℕ → Cells → Cells
copies zero vs = []
copies (suc n) vs = vs ++ copies n vs

abbrev pub fresh_elements : Ty → ℕ → Cells
fresh_elements t n = copies n (fresh_cells (reg_types (component t)))

abbrev pub has_room : Heap → ℕ → Bool
has_room h n = within h.limit (h.used + n)
  where
    within : Option ℕ → ℕ → Bool
    within None n = true
    within (Some limit) n = nat_le n limit

abbrev pub counted : Heap → ℕ → ℕ
counted h n = more h.limit
  where
    more : Option ℕ → ℕ
    more None = h.used
    more (Some limit) = h.used + n

-- the heap with one object more; its number is the length of the new list of kinds
abbrev pub grown : Heap → Kind → Cells → ℕ → Heap
grown h k cells cost =
    record {
      kinds = h.kinds ++ k ∷ [];
      cells = h.cells ++ cells ∷ [];
      statics = h.statics;
      interned = h.interned;
      class_objects = h.class_objects;
      used = counted h cost;
      limit = h.limit;
    }

abbrev pub newest : Heap → ℕ
newest h = length h.kinds

-- none where it is full
abbrev pub grown_within : Heap → Kind → Cells → ℕ → Option Heap
grown_within h k cells cost = elim (has_room h cost) [ true ↦ Some (grown h k cells cost) | false ↦ None ]

abbrev pub alloc_object : Image → Heap → ℕ → Option Heap
alloc_object image h c =
    grown_within h (kind.Object (record { 0 = c })) (fresh_cells (class_cells image c))
    (2 + length (class_cells image c))

-- the cost is tested before the cells are made
abbrev pub alloc_array : Heap → Ty → ℕ → Option Heap
alloc_array h t n =
    elim (has_room h (2 + n * words_of (component t))) [
      | true ↦ Some (grown h (kind.Array t) (fresh_elements t n) (2 + n * words_of (component t)))
      | false ↦ None
    ]

abbrev pub alloc_string : Heap → List ℕ → Option Heap
alloc_string h s = grown_within h (kind.Str s) [] (2 + length s)

abbrev pub is_text : Option Kind → List ℕ → Bool
is_text (Some (kind.Str s)) t = bytes_eq s t
is_text k t = false

abbrev pub is_class_of : Option Kind → Ty → Bool
is_class_of (Some (kind.ClassOf s)) t = ty_eq s t
is_class_of k t = false

abbrev pub found_among : (ℕ → Bool) → List ℕ → Option ℕ
found_among test [] = None
found_among test (o ∷ os) = elim (test o) [ true ↦ Some o | false ↦ found_among test os ]

-- an object with the heap that has it
pub record Got : Type 0 where
  pub object : ℕ
  pub heap : Heap

abbrev pub newest_of : Option Heap → Option Got
newest_of None = None
newest_of (Some h) = Some (record { object = newest h; heap = h })

abbrev pub with_interned : Option Heap → Option Got
with_interned None = None
with_interned (Some h) = Some (record { object = newest h; heap = record h { interned = h.interned ++ newest h ∷ [] } })

abbrev pub with_class_object : Option Heap → Option Got
with_class_object None = None
with_class_object (Some h) = Some (record { object = newest h; heap = record h { class_objects = h.class_objects ++ newest h ∷ [] } })

abbrev pub intern : Heap → List ℕ → Option Got
intern h s =
    elim (found_among (λ o. is_text (kind_of h o) s) h.interned) [
      | Some o ↦ Some (record { object = o; heap = h })
      | None ↦ with_interned (alloc_string h s)
    ]

abbrev pub class_object : Heap → Ty → Option Got
class_object h t =
    elim (found_among (λ o. is_class_of (kind_of h o) t) h.class_objects) [
      | Some o ↦ Some (record { object = o; heap = h })
      | None ↦ with_class_object (grown_within h (kind.ClassOf t) [] 2)
    ]

abbrev pub cells_at : Heap → ℕ → Cells
cells_at h o = slice_index_or h.cells (pred o) []

abbrev pub cell_at : Heap → ℕ → ℕ → Value
cell_at h o k = slice_index_or (cells_at h o) k v.Undef

abbrev pub with_cell : Heap → ℕ → ℕ → Value → Heap
with_cell h o k x = record h { cells = slice_set h.cells (pred o) (slice_set (cells_at h o) k x) }

abbrev pub static_at : Heap → ℕ → ℕ → Value
static_at h f half = slice_index_or (slice_index_or h.statics f []) half v.Undef

abbrev pub with_static : Heap → ℕ → ℕ → Value → Heap
with_static h f half x = record h { statics = slice_set h.statics f (slice_set (slice_index_or h.statics f []) half x) }

-- how many elements an array has, or units a string
abbrev pub length_of : Heap → ℕ → ℕ
length_of h o = counted_by (kind_of h o)
  where
    counted_by : Option Kind → ℕ
    counted_by (Some (kind.Array t)) = length (cells_at h o) / words_of (component t)
    counted_by (Some (kind.Str s)) = length s
    counted_by k = length (cells_at h o)
