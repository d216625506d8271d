-- The words of fields, one field after another.
use Rattle.std.proofs.Common.{◌≡◌, ℕ, zero, suc, ◌+◌, ◌<◌, ◌++◌, Option, Some, None, List, [], ◌∷◌, length, take, get_or, map, refl, sym, ap, ◌∙◌, arith, length-append}
use Rattle.std.specs.Prelude.{slice_get, slice_index_or}
use Rattle.std.proofs.lemmas.List.{take_more, map-append, length-take}
use Rattle.dv_defs.specs.declared.names.FieldId.{FieldId}
use Rattle.dv_defs.specs.declared.image.FieldInfo.{FieldInfo}
use Rattle.dv_defs.specs.Field.{FieldValue}
use Rattle.dv_defs.specs.Images.{Image}
use Rattle.dv_defs.specs.Pools.{field_at, with_field, with_field_info}
use Rattle.dv_machine.specs.Heap.{Cells, slot_types, type_of_field}
use Rattle.dv_machine.specs.Opening.{field_cells, cells_of}
use Rattle.dv_words.specs.Erasure.{erased_values}
use Rattle.dv_heap.specs.Blocks.{Block}
use Rattle.dv_heap.specs.Fields.{declared_as, first_words}
use Rattle.dv_heap.specs.Objects.{words_by}

-- ---- the fields of an object

slots_push : (image : Image) (fs : List FieldId) (f : FieldId) → length (slot_types image (fs ++ f ∷ [])) ≡ length (slot_types image fs) + length (slot_types image (f ∷ []))
slots_push image [] f = omega arith
slots_push image (x ∷ fs) f =
    let e = slots_push image fs f in
    let first = type_of_field (field_at image x.0) in
    omega (arith, e, length-append first (slot_types image (fs ++ f ∷ [])), length-append first (slot_types image fs))

pub slots_more : (image : Image) (fs : List FieldId) (i : ℕ) (f d : FieldId) (words n : ℕ) → i < length fs → f ≡ slice_index_or fs i d → words ≡ length (slot_types image (take i fs)) → n ≡ words + length (slot_types image (f ∷ [])) → n ≡ length (slot_types image (take (i + 1) fs))
slots_more image fs i f d words n l e w m =
    let more : take (i + 1) fs ≡ take i fs ++ f ∷ [] = take_more fs i d l ∙ ap (λ (x : FieldId). take i fs ++ x ∷ []) (sym e) in
    m ∙ ap (λ (k : ℕ). k + length (slot_types image (f ∷ []))) w ∙ sym (slots_push image (take i fs) f) ∙ ap (λ (xs : List FieldId). length (slot_types image xs)) (sym more)

-- ---- the static fields of an image

cells_push : (image : Image) (is : List FieldInfo) (x : FieldInfo) (k : ℕ) → field_cells image (is ++ x ∷ []) k ≡ field_cells image is k ++ cells_of (field_at image (k + length is)) ∷ []
cells_push image [] x k = ap (λ (n : ℕ). cells_of (field_at image n) ∷ []) (omega arith)
cells_push image (i ∷ is) x k =
    let e : suc k + length is ≡ k + suc (length is) = omega arith in
    ap (λ (xs : List Cells). cells_of (field_at image k) ∷ xs) (cells_push image is x (suc k) ∙ ap (λ (n : ℕ). field_cells image is (suc k) ++ cells_of (field_at image n) ∷ []) e)

is_item : (is : List FieldInfo) (i : ℕ) (d : FieldInfo) → i < length is → slice_get is i ≡ Some (get_or is i d)
is_item [] i d l = absurd (omega (arith, l))
is_item (x ∷ is) zero d l = refl
is_item (x ∷ is) (suc i) d l = is_item is i d (omega (arith, l))

of_def : (id : ℕ) (info : FieldInfo) (x : Option FieldValue) → erased_values (cells_of (with_field id info x)) ≡ first_words x
of_def id info None = refl
of_def id info (Some x) = refl

words_of_field : (image : Image) (i : ℕ) (d : FieldInfo) → i < length image.fields → erased_values (cells_of (field_at image i)) ≡ first_words (declared_as image (get_or image.fields i d))
unfolding field_at
words_of_field image i d l =
    ap (λ (x : Option FieldInfo). erased_values (cells_of (with_field_info image i x))) (is_item image.fields i d l)
    ∙ of_def i (get_or image.fields i d) (declared_as image (get_or image.fields i d))

statics_more : (image : Image) (i : ℕ) (d : FieldInfo) (x : Option FieldValue) (bs bs' : List Block) → i < length image.fields → x ≡ declared_as image (get_or image.fields i d) → bs' ≡ bs ++ record { tag = 0; words = first_words x } ∷ [] → map words_by bs ≡ map erased_values (field_cells image (take i image.fields) 0) → map words_by bs' ≡ map erased_values (field_cells image (take (i + 1) image.fields) 0)
statics_more image i d x bs bs' l e f g =
    let b : Block = record { tag = 0; words = first_words x } in
    let is : List FieldInfo = take i image.fields in
    let count : 0 + length is ≡ i = omega (arith, length-take i image.fields, l) in
    let last : erased_values (cells_of (field_at image (0 + length is))) ≡ first_words x = ap (λ (n : ℕ). erased_values (cells_of (field_at image n))) count ∙ words_of_field image i d l ∙ ap first_words (sym e) in
    ap (map words_by) f ∙ map-append words_by bs (b ∷ [])
    ∙ (λ j. g j ++ sym last j ∷ [])
    ∙ sym (map-append erased_values (field_cells image is 0) (cells_of (field_at image (0 + length is)) ∷ []))
    ∙ ap (map erased_values) (sym (cells_push image is (get_or image.fields i d) 0))
    ∙ ap (λ (xs : List FieldInfo). map erased_values (field_cells image xs 0)) (sym (take_more image.fields i d l))

-- the fields as a slice
pub statics_on : (image : Image) (fs : List FieldInfo) (i : ℕ) (d : FieldInfo) (x : Option FieldValue) (bs bs' : List Block) → fs ≡ image.fields → i < length fs → x ≡ declared_as image (get_or fs i d) → bs' ≡ bs ++ record { tag = 0; words = first_words x } ∷ [] → map words_by bs ≡ map erased_values (field_cells image (take i image.fields) 0) → map words_by bs' ≡ map erased_values (field_cells image (take (i + 1) image.fields) 0)
statics_on image fs i d x bs bs' s l e f g =
    statics_more image i d x bs bs' (omega (arith, l, ap length s)) (e ∙ ap (λ (is : List FieldInfo). declared_as image (get_or is i d)) s) f g
