-- The cells of objects, told of the classes alone.
use Rattle.std.specs.Prelude.{◌≡◌, ℕ, zero, suc, ◌+◌, ◌-◌, Bool, true, false, ◌&&◌, not, List, [], ◌∷◌, ◌++◌, length, map, take, sum_by, Option, Some, None, slice_get}
use Rattle.std.specs.List.{range_with_len}
use Rattle.dv_defs.specs.declared.names.FieldId.{FieldId}
use Rattle.dv_defs.specs.declared.class.ClassDef.{ClassDef}
use Rattle.dv_defs.specs.declared.class.FieldDef.{FieldDef}
use Rattle.dv_defs.specs.declared.image.ClassInfo.{ClassInfo}
use Rattle.dv_defs.specs.declared.image.FieldInfo.{FieldInfo}
use Rattle.dv_defs.specs.declared.flags.Flag.TheVariants as flag
use Rattle.dv_defs.specs.Flags.{has_flag}
use Rattle.dv_defs.specs.Types.{words_of}
use Rattle.dv_defs.specs.Pools.{parent_of}
use Rattle.dv_defs.specs.Order.{has_number}
use Rattle.dv_defs.specs.Numbering.{class_id}

-- ---- one class

abbrev pub has_cell : ClassDef → FieldDef → Bool
has_cell c f = not (has_flag f.flags flag.Static) && not (has_flag c.flags flag.Interface)

-- the cells of fields that are numbered from one on
abbrev pub cells_from : ClassDef → ℕ → List FieldDef → List FieldId
cells_from c id [] = []
cells_from c id (f ∷ fs) =
    elim (has_cell c f) [ true ↦ record { 0 = id } ∷ cells_from c (suc id) fs | false ↦ cells_from c (suc id) fs ]

abbrev pub cell_words : ClassDef → FieldDef → ℕ
cell_words c f = elim (has_cell c f) [ true ↦ words_of f.ty | false ↦ 0 ]

abbrev pub words_in : ClassDef → List FieldDef → ℕ
words_in c [] = 0
words_in c (f ∷ fs) = cell_words c f + words_in c fs

abbrev pub slot_after : ClassDef → ℕ → FieldDef → ℕ
slot_after c words f = elim (has_cell c f) [ true ↦ words | false ↦ 0 ]

-- the fields of class i from a place on, with their slots after so many words
abbrev pub infos_from : ClassDef → ℕ → ℕ → ℕ → List FieldDef → List FieldInfo
infos_from c i place words [] = []
infos_from c i place words (f ∷ fs) =
    record { class = class_id i; place = place; slot = slot_after c words f } ∷ infos_from c i (suc place) (words + cell_words c f) fs

-- ---- with the classes above

-- the number of a class's first field
abbrev pub first_field : List ClassInfo → ℕ → ℕ
first_field cs i = sum_by (λ c. length c.def.fields) (take i cs)

abbrev pub walked : List ClassInfo → ℕ → Option ℕ → List ℕ
walked cs zero c = []
walked cs (suc n) None = []
walked cs (suc n) (Some c) = c ∷ walked cs n (parent_of (slice_get cs c))

-- the superclasses of a class, nearest first
abbrev pub superclasses : List ClassInfo → ℕ → List ℕ
superclasses cs c = walked cs (length cs - 1) (parent_of (slice_get cs c))

abbrev pub cells_in : ℕ → Option ClassInfo → List FieldId
cells_in id None = []
cells_in id (Some c) = cells_from c.def id c.def.fields

abbrev pub own_cells : List ClassInfo → ℕ → List FieldId
own_cells cs c = cells_in (first_field cs c) (slice_get cs c)

abbrev pub words_of_class : Option ClassInfo → ℕ
words_of_class None = 0
words_of_class (Some c) = words_in c.def c.def.fields

-- of classes, nearest first
abbrev pub chain_cells : List ClassInfo → List ℕ → List FieldId
chain_cells cs [] = []
chain_cells cs (c ∷ chain) = chain_cells cs chain ++ own_cells cs c

abbrev pub chain_words : List ClassInfo → List ℕ → ℕ
chain_words cs [] = 0
chain_words cs (c ∷ chain) = chain_words cs chain + words_of_class (slice_get cs c)

abbrev pub object_cells : List ClassInfo → ℕ → List FieldId
object_cells cs c = chain_cells cs (superclasses cs c) ++ own_cells cs c

abbrev pub infos_in : ℕ → ℕ → Option ClassInfo → List FieldInfo
infos_in i words None = []
infos_in i words (Some c) = infos_from c.def i 0 words c.def.fields

abbrev pub own_infos : List ClassInfo → ℕ → List FieldInfo
own_infos cs i = infos_in i (chain_words cs (superclasses cs i)) (slice_get cs i)

-- of the first so many classes
abbrev pub infos_below : List ClassInfo → ℕ → List FieldInfo
infos_below cs zero = []
infos_below cs (suc n) = infos_below cs n ++ own_infos cs n

abbrev pub slots_below : List ClassInfo → ℕ → List (List FieldId)
slots_below cs n = map (object_cells cs) (range_with_len 0 n)

abbrev pub total_words : List ClassInfo → ℕ
total_words cs = sum_by (λ c. words_in c.def c.def.fields) cs

-- no class is among its superclasses
abbrev pub IsAcyclic : List ClassInfo → Type 0
IsAcyclic cs = (c : ℕ) → has_number c (superclasses cs c) ≡ false

abbrev pub info_with : ClassInfo × List FieldId → ClassInfo
info_with p = record { def = p.0.def; parent = p.0.parent; interfaces = p.0.interfaces; slots = p.1; table = p.0.table; prior = p.0.prior }
