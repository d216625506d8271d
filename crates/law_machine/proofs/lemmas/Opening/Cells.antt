-- The first cells of static fields fit.
use Rattle.std.proofs.Common.{◌≡◌, ℕ, zero, suc, ◌+◌, ◌<◌, List, [], ◌∷◌, length, Bool, true, false, ◌&&◌, ◌||◌, Option, Some, None, refl, sym, ap, ◌∙◌, subst, arith}
use Rattle.std.specs.Prelude.{ℤ, pos, negsuc, slice_get, slice_index_or, nat_eq, nat_lt, if◌then◌else◌}
use Rattle.std.proofs.lemmas.Bool.{and_parts, eqb-true}
use Rattle.std.proofs.lemmas.Option.{slice_get_within}
use Rattle.dv_defs.specs.declared.names.Base.{Base}
use Rattle.dv_defs.specs.declared.names.Base.TheVariants as base
use Rattle.dv_defs.specs.declared.names.Ty.{Ty}
use Rattle.dv_defs.specs.Images.{Image}
use Rattle.dv_defs.specs.declared.image.FieldInfo.{FieldInfo}
use Rattle.dv_defs.specs.declared.class.Init.{Init}
use Rattle.dv_defs.specs.declared.class.Init.TheVariants as init
use Rattle.dv_defs.specs.declared.flags.Flag.TheVariants as flag
use Rattle.dv_machine.specs.Value as v
use Rattle.dv_typing.specs.declared.typing.RegType.{RegType}
use Rattle.dv_typing.specs.declared.typing.RegType.TheVariants as ty
use Rattle.dv_defs.specs.Flags.{has_flag}
use Rattle.dv_defs.specs.Field.{may_stand, number_fits}
use Rattle.dv_defs.specs.Types.{is_long, is_reference}
use Rattle.dv_defs.specs.Pools.{Field, field_at, with_field_info}
use Rattle.dv_typing.specs.RegTypes.{Types, type_at, reg_types, single_type}
use Rattle.dv_machine.specs.Heap.{Heap, Cells}
use Rattle.dv_defs.specs.Numbers.{lo_of, hi_of}
use Rattle.dv_machine.specs.Local.{const_value}
use Rattle.dv_machine.specs.Opening.{number_cells, first_cells, field_cells, cells_of}
use Rattle.dv_machine.specs.Conforming.{Conforms}
use Rattle.dv_machine.specs.WellTyped.{nobody, CellsFit}
use Rattle.law_types.proofs.Facts.{no, zero_plus, plus_suc}
use Rattle.law_machine.proofs.lemmas.Heap.Cells.{reg_cells, fresh_fit}

-- ---- the first cells of static fields

number_conforms : (image : Image) (heap : Heap) (n : ℤ) → Conforms image heap nobody (const_value n) ty.Int
number_conforms image heap (pos zero) = tt
number_conforms image heap (pos (suc n)) = tt
number_conforms image heap (negsuc n) = tt

-- what holds a number is a primitive type
number_type : (image : Image) (heap : Heap) (dims : ℕ) (b : Base) (n : ℤ) → (nat_eq dims 0 && number_fits b n) ≡ true → is_reference (record { dims = dims; base = b }) ≡ false
number_type image heap dims b n e = go b (and_parts (nat_eq dims 0) (number_fits b n) e)
  where
    flat : nat_eq dims 0 ≡ true → nat_lt 0 dims ≡ false
    flat e = subst (λ (k : ℕ). nat_lt 0 k ≡ false) (sym (eqb-true dims 0 e)) refl

    go : (b : Base) → (nat_eq dims 0 ≡ true) × (number_fits b n ≡ true) → is_reference (record { dims = dims; base = b }) ≡ false
    go base.Z p = ap (λ (x : Bool). x || false) (flat p.0)
    go base.B p = ap (λ (x : Bool). x || false) (flat p.0)
    go base.C p = ap (λ (x : Bool). x || false) (flat p.0)
    go base.S p = ap (λ (x : Bool). x || false) (flat p.0)
    go base.I p = ap (λ (x : Bool). x || false) (flat p.0)
    go base.J p = ap (λ (x : Bool). x || false) (flat p.0)
    go (base.Class name) p = no p.1

number_fit : (image : Image) (heap : Heap) (t : Ty) (n : ℤ) → is_reference t ≡ false → CellsFit image heap (number_cells t n) (reg_types t)
number_fit image heap t n r = go (is_long t)
  where
    long : (k : ℕ) (lo hi : ℕ) → Conforms image heap nobody (slice_index_or (v.Lo lo ∷ v.Hi hi ∷ []) k v.Undef) (type_at (ty.LongLo ∷ ty.LongHi ∷ []) k)
    long zero lo hi = tt
    long (suc zero) lo hi = tt
    long (suc (suc k)) lo hi = tt

    short : (k : ℕ) → Conforms image heap nobody (slice_index_or (const_value n ∷ []) k v.Undef) (type_at (ty.Int ∷ []) k)
    short zero = number_conforms image heap n
    short (suc k) = tt

    single : single_type t ≡ ty.Int
    single = ap (λ (b : Bool). elim b as (λ x. RegType) [ true ↦ ty.Class t | false ↦ ty.Int ]) r

    go : (b : Bool) → CellsFit image heap (if b then v.Lo (lo_of n) ∷ v.Hi (hi_of n) ∷ [] else const_value n ∷ []) (elim b as (λ x. Types) [ true ↦ ty.LongLo ∷ ty.LongHi ∷ [] | false ↦ single_type t ∷ [] ])
    go true = record { count = refl; each = λ k. long k _ _ }
    go false = record { count = refl; each = subst (λ (u : RegType). (k : ℕ) → Conforms image heap nobody (slice_index_or (const_value n ∷ []) k v.Undef) (type_at (u ∷ []) k)) (sym single) short }

-- by the value that the field is declared with
pub first_fit : (image : Image) (heap : Heap) (name : List ℕ) (t : Ty) (flags : ℕ) (i : Init) → may_stand i t flags ≡ true → has_flag flags flag.Static ≡ true → CellsFit image heap (first_cells (record { name = name; ty = t; flags = flags; init = i })) (reg_types t)
first_fit image heap name t flags init.Absent m e = rw (e, first_cells) (fresh_fit image heap (reg_types t) (reg_cells t))
first_fit image heap name t flags (init.Num n) m e = rw (e, first_cells) (number_fit image heap t n (number_type image heap t.dims t.base n (and_parts _ _ m).1))
first_fit image heap name t flags (init.Str s) m e = rw (e, first_cells) (fresh_fit image heap (reg_types t) (reg_cells t))
first_fit image heap name t flags init.Null m e = rw (e, first_cells) (fresh_fit image heap (reg_types t) (reg_cells t))

pub field_within : (image : Image) (x : ℕ) (f : Field) → field_at image x ≡ Some f → x < length image.fields
unfolding field_at
field_within image x f e = go (slice_get image.fields x) refl e
  where
    go : (o : Option FieldInfo) → slice_get image.fields x ≡ o → with_field_info image x o ≡ Some f → x < length image.fields
    go None g e = absurd (cc)
    go (Some i) g e = slice_get_within image.fields x i g

abbrev pub cells_of_field : Image → ℕ → Cells
cells_of_field image k = cells_of (field_at image k)

pub field_cells_at : (image : Image) (is : List FieldInfo) (k x : ℕ) → x < length is → slice_index_or (field_cells image is k) x [] ≡ cells_of_field image (x + k)
field_cells_at image [] k x l = absurd (omega arith)
field_cells_at image (i ∷ is) k zero l = ap (cells_of_field image) (zero_plus k)
field_cells_at image (i ∷ is) k (suc x) l = field_cells_at image is (suc k) x (omega (arith, l)) ∙ ap (cells_of_field image) (plus_suc x k)
