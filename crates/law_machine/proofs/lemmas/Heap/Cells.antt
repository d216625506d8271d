-- The cells of objects: their types, how many there are, and that new ones fit.
use Rattle.std.proofs.Common.{◌≡◌, ℕ, zero, suc, ◌*◌, ◌/◌, List, [], ◌∷◌, ◌++◌, length, Bool, true, false, Option, Some, None, refl, sym, ap, ◌∙◌, subst, arith}
use Rattle.std.specs.Prelude.{slice_get}
use Rattle.std.proofs.lemmas.List.{length-map, length-append, map-append}
use Rattle.dv_defs.specs.declared.names.Ty.{Ty}
use Rattle.dv_defs.specs.declared.names.FieldId.{FieldId}
use Rattle.dv_defs.specs.Images.{Image}
use Rattle.dv_machine.specs.Kind.{Kind}
use Rattle.dv_machine.specs.Kind as kind
use Rattle.dv_typing.specs.declared.typing.RegType.{RegType}
use Rattle.dv_typing.specs.declared.typing.RegType.TheVariants as ty
use Rattle.dv_defs.specs.Types.{component, is_long, is_reference, words_of}
use Rattle.dv_defs.specs.Pools.{Field, field_at}
use Rattle.dv_typing.specs.RegTypes.{Types, reg_types, single_type}
use Rattle.dv_machine.specs.Heap.{Heap, Cells, kind_of, type_of_field, slot_types, slots_of, class_cells, zero_cell, fresh_cells, fresh_elements, cells_at, length_of}
use Rattle.dv_machine.specs.Conforming.{Conforms, RegsConform}
use Rattle.dv_machine.specs.WellTyped.{nobody, element_types, cell_types, CellsFit}
use Rattle.law_machine.specs.Premises.{KeepsKinds}
use Rattle.law_machine.proofs.lemmas.Growth.Kinds.{conforms_grown}

-- ---- the types of cells

-- a type that a field or an element has
abbrev pub IsCell : RegType → Type 0
IsCell ty.Int = Unit {0}
IsCell ty.LongLo = Unit {0}
IsCell ty.LongHi = Unit {0}
IsCell (ty.Class t) = Unit {0}
IsCell t = ⊥

abbrev pub AreCells : Types → Type 0
AreCells [] = Unit {0}
AreCells (t ∷ ts) = IsCell t × AreCells ts

cells_append : (ts us : Types) → AreCells ts → AreCells us → AreCells (ts ++ us)
cells_append [] us a b = b
cells_append (t ∷ ts) us a b = (a.0, cells_append ts us a.1 b)

pub reg_cells : (t : Ty) → AreCells (reg_types t)
reg_cells t = go (is_long t)
  where
    one : (b : Bool) → IsCell (elim b [ true ↦ ty.Class t | false ↦ ty.Int ])
    one true = tt
    one false = tt

    go : (b : Bool) → AreCells (elim b [ true ↦ ty.LongLo ∷ ty.LongHi ∷ [] | false ↦ single_type t ∷ [] ])
    go true = (tt, (tt, tt))
    go false = (one (is_reference t), tt)

field_cells : (f : Option Field) → AreCells (type_of_field f)
field_cells None = tt
field_cells (Some f) = reg_cells f.def.ty

slot_cells : (image : Image) (xs : List FieldId) → AreCells (slot_types image xs)
slot_cells image [] = tt
slot_cells image (x ∷ xs) = cells_append (type_of_field (field_at image x.0)) (slot_types image xs) (field_cells (field_at image x.0)) (slot_cells image xs)

pub class_are_cells : (image : Image) (c : ℕ) → AreCells (class_cells image c)
class_are_cells image c = slot_cells image (slots_of (slice_get image.classes c))

pub element_cells : (n : ℕ) (t : Ty) → AreCells (element_types n t)
element_cells zero t = tt
element_cells (suc n) t = cells_append (reg_types t) (element_types n t) (reg_cells t) (element_cells n t)

-- ---- new cells

zero_conforms : (image : Image) (heap : Heap) (t : RegType) → IsCell t → Conforms image heap nobody (zero_cell t) t
zero_conforms image heap ty.Int c = tt
zero_conforms image heap ty.LongLo c = tt
zero_conforms image heap ty.LongHi c = tt
zero_conforms image heap (ty.Class t) c = tt
zero_conforms image heap t c = absurd c

fresh_conform : (image : Image) (heap : Heap) (ts : Types) → AreCells ts → RegsConform image heap nobody (fresh_cells ts) ts
fresh_conform image heap [] c k = tt
fresh_conform image heap (t ∷ ts) c zero = zero_conforms image heap t c.0
fresh_conform image heap (t ∷ ts) c (suc k) = fresh_conform image heap ts c.1 k

pub fresh_fit : (image : Image) (heap : Heap) (ts : Types) → AreCells ts → CellsFit image heap (fresh_cells ts) ts
fresh_fit image heap ts c = record { count = length-map ts zero_cell; each = fresh_conform image heap ts c }

-- the cells of a new array are those of its elements' types
pub fresh_elements_are : (t : Ty) (n : ℕ) → fresh_elements t n ≡ fresh_cells (element_types n (component t))
fresh_elements_are t zero = refl
fresh_elements_are t (suc n) = ap (λ (xs : Cells). fresh_cells (reg_types (component t)) ++ xs) (fresh_elements_are t n) ∙ sym (map-append zero_cell (reg_types (component t)) (element_types n (component t)))

-- ---- how many cells

pub reg_count : (t : Ty) → length (reg_types t) ≡ words_of t
reg_count t = go (is_long t)
  where
    go : (b : Bool) → length {A = RegType} (elim b [ true ↦ ty.LongLo ∷ ty.LongHi ∷ [] | false ↦ single_type t ∷ [] ]) ≡ elim b [ true ↦ 2 | false ↦ 1 ]
    go true = refl
    go false = refl

element_count : (n : ℕ) (t : Ty) → length (element_types n t) ≡ n * words_of t
element_count zero t = omega arith
element_count (suc n) t =
    let a = length-append (reg_types t) (element_types n t) in
    let b = reg_count t in
    let c = element_count n t in
    omega (arith, a, b, c)

pub elements_divided : (n : ℕ) (t : Ty) → length (element_types n t) / words_of t ≡ n
elements_divided n t = ap (λ k. k / words_of t) (element_count n t) ∙ go (is_long t)
  where
    go : (b : Bool) → let w : ℕ = elim b [ true ↦ 2 | false ↦ 1 ] in (n * w) / w ≡ n
    go true = omega arith
    go false = omega arith

length_array : (h : Heap) (o : ℕ) (t : Ty) → kind_of h o ≡ Some (kind.Array t) → length_of h o ≡ length (cells_at h o) / words_of (component t)
length_array h o t e = rw (e, length_of) refl

-- the types of an object's cells are determined by its kind and by how many cells there are
pub same_cell_types : (image : Image) (h h' : Heap) (o o' : ℕ) (k : Kind) → kind_of h o ≡ Some k → kind_of h' o' ≡ Some k → length (cells_at h o) ≡ length (cells_at h' o') → cell_types image (length_of h o) k ≡ cell_types image (length_of h' o') k
same_cell_types image h h' o o' (kind.Object c) e f l = refl
same_cell_types image h h' o o' (kind.Array t) e f l = ap (λ n. element_types n (component t)) (length_array h o t e ∙ ap (λ n. n / words_of (component t)) l ∙ sym (length_array h' o' t f))
same_cell_types image h h' o o' (kind.Str s) e f l = refl
same_cell_types image h h' o o' (kind.ClassOf t) e f l = refl

pub array_length : (h : Heap) (o n : ℕ) (t : Ty) → kind_of h o ≡ Some (kind.Array t) → cells_at h o ≡ fresh_elements t n → length_of h o ≡ n
array_length h o n t e c = length_array h o t e ∙ ap (λ k. k / words_of (component t)) (ap length (c ∙ fresh_elements_are t n) ∙ length-map (element_types n (component t)) zero_cell) ∙ elements_divided n (component t)

-- ---- cells that fit

pub fit_grown : (image : Image) (before after : Heap) (xs : Cells) (ts : Types) → KeepsKinds before after → CellsFit image before xs ts → CellsFit image after xs ts
fit_grown image before after xs ts g f = record { count = f.count; each = λ k. conforms_grown image before after g nobody _ _ (f.each k) }

pub fit_same : (image : Image) (heap : Heap) (xs ys : Cells) (ts us : Types) → xs ≡ ys → ts ≡ us → CellsFit image heap xs ts → CellsFit image heap ys us
fit_same image heap xs ys ts us e f c = subst (λ (zs : Cells). CellsFit image heap zs us) e (subst (λ (vs : Types). CellsFit image heap xs vs) f c)
