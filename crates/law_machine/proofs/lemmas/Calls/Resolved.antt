-- What the instruction at an address names is there.
use Rattle.std.proofs.Common.{◌≡◌, ℕ, ◌+◌, ◌<◌, List, [], ◌∷◌, length, Bool, true, false, Option, Some, None, refl, subst}
use Rattle.std.specs.Prelude.{Ok, Err, slice_get}
use Rattle.dv_defs.specs.declared.names.Base.{Base}
use Rattle.dv_defs.specs.declared.names.Ty.{Ty}
use Rattle.dv_defs.specs.declared.names.FieldId.{FieldId}
use Rattle.dv_defs.specs.declared.names.MethodId.{MethodId}
use Rattle.dv_defs.specs.declared.code.Insn.{Insn}
use Rattle.dv_defs.specs.declared.code.Payload.{Payload}
use Rattle.dv_defs.specs.declared.code.Payload.TheVariants as payload
use Rattle.dv_defs.specs.Images.{Image}
use Rattle.dv_defs.specs.Parts.{Width, Bin, is_division, is_shift}
use Rattle.dv_defs.specs.Families.{Family, family_at}
use Rattle.dv_defs.specs.Types.{is_array, class_in}
use Rattle.dv_defs.specs.Pools.{Method, Field, method_at, field_at, class_named}
use Rattle.dv_defs.specs.Tiling.{Tile, tile_at, insn_in}
use Rattle.dv_defs.specs.Op.{Op, Invoke, FieldGet, FieldPut, StaticGet, StaticPut, IntDivide, IntOp, LongDivide, LongShift, LongOp, New, Arg, Code, code_at, Resolved, on_pool, resolved_field, resolved_method, move_op, result_op, packed_op, sparse_op, fill_op, class_of_base, new_op, resolve, resolve_by, op_of}
use Rattle.dv_typing.specs.Statics.{At, at_of, sound_at, at_tile, fetch_in, fetch, insn_rules}
use Rattle.law_types.proofs.Walks.{named_inside}
use Rattle.dv_defs.specs.declared.faults.Rule.{Rule}
use Rattle.dv_defs.specs.declared.faults.Rule.TheVariants as rule

-- the method, the field or the class is the image's
abbrev pub IsNamed : Image → Op → Type 0
IsNamed image (Invoke c ks g) = (n : ℕ) × (method_at image n ≡ Some g)
IsNamed image (FieldGet s a b x) = (n : ℕ) × (field_at image n ≡ Some x)
IsNamed image (FieldPut s a b x) = (n : ℕ) × (field_at image n ≡ Some x)
IsNamed image (StaticGet s a x) = (n : ℕ) × (field_at image n ≡ Some x)
IsNamed image (StaticPut s a x) = (n : ℕ) × (field_at image n ≡ Some x)
IsNamed image (New a c) = c < length image.classes
IsNamed image op = Unit {0}

abbrev IsResolved : Image → Resolved → Type 0
IsResolved image (Ok op) = IsNamed image op
IsResolved image (Err rule) = Unit {0}

abbrev IsNamedAt : Image → Option At → Type 0
IsNamedAt image None = Unit {0}
IsNamedAt image (Some x) = IsNamed image x.op

module _ (image : Image) where
  of_pool : {A : Type 0} (o : Option A) (go : A → Resolved) → ((x : A) → IsResolved image (go x)) → IsResolved image (on_pool o go)
  of_pool None go h = tt
  of_pool (Some x) go h = h x

  -- a field or a method of a pool
  of_field : (f : Option FieldId) (go : Field → Op) → ((n : ℕ) (x : Field) → field_at image n ≡ Some x → IsNamed image (go x)) → IsResolved image (on_pool (resolved_field image f) (λ x. Ok (go x)))
  of_field None go h = tt
  of_field (Some f) go h = found (field_at image f.0) refl
    where
      found : (o : Option Field) → field_at image f.0 ≡ o → IsResolved image (on_pool o (λ x. Ok (go x)))
      found None e = tt
      found (Some x) e = h f.0 x e

  of_method : (m : Option MethodId) (go : Method → Op) → ((n : ℕ) (g : Method) → method_at image n ≡ Some g → IsNamed image (go g)) → IsResolved image (on_pool (resolved_method image m) (λ g. Ok (go g)))
  of_method None go h = tt
  of_method (Some m) go h = found (method_at image m.0) refl
    where
      found : (o : Option Method) → method_at image m.0 ≡ o → IsResolved image (on_pool o (λ g. Ok (go g)))
      found None e = tt
      found (Some g) e = h m.0 g e

  of_move : (x : Width) (a b : ℕ) → IsNamed image (move_op x a b)
  of_move Width.Narrow a b = tt
  of_move Width.Wide a b = tt
  of_move Width.Reference a b = tt

  of_result : (x : Width) (a : ℕ) → IsNamed image (result_op x a)
  of_result Width.Narrow a = tt
  of_result Width.Wide a = tt
  of_result Width.Reference a = tt

  of_int : (b : Bool) (o : Bin) (a k : ℕ) (c : Arg) → IsNamed image (elim b as (λ w. Op) [ true ↦ IntDivide o a k c | false ↦ IntOp o a k c ])
  of_int true o a k c = tt
  of_int false o a k c = tt

  of_long : (b d : Bool) (o : Bin) (a k c : ℕ) → IsNamed image (elim b as (λ w. Op) [ true ↦ LongDivide o a k c | false ↦ elim d as (λ w. Op) [ true ↦ LongShift o a k c | false ↦ LongOp o a k c ] ])
  of_long true d o a k c = tt
  of_long false true o a k c = tt
  of_long false false o a k c = tt

  of_packed : (at a : ℕ) (p : Option Payload) → IsResolved image (packed_op at a p)
  of_packed at a (Some (payload.Packed k ts)) = tt
  of_packed at a p = tt

  of_sparse : (at a : ℕ) (p : Option Payload) → IsResolved image (sparse_op at a p)
  of_sparse at a (Some (payload.Sparse ks ts)) = tt
  of_sparse at a p = tt

  of_fill : (a : ℕ) (p : Option Payload) → IsResolved image (fill_op a p)
  of_fill a (Some (payload.Data width bytes)) = tt
  of_fill a p = tt

  base_there : (b : Base) (c : ℕ) → class_of_base image b ≡ Some c → c < length image.classes
  base_there b c e = found (class_in b) e
    where
      found : (o : Option (List ℕ)) → ◌≡◌ {A = Option ℕ} (elim o as (λ w. Option ℕ) [ None ↦ None | Some name ↦ class_named image name ]) (Some c) → c < length image.classes
      found None e = absurd (cc)
      found (Some name) e = named_inside image name c e

  of_new : (a : ℕ) (t : Ty) → IsResolved image (new_op image a t)
  of_new a t = by_test (is_array t) (class_of_base image t.base) refl
    where
      by_test : (b : Bool) (o : Option ℕ) → class_of_base image t.base ≡ o → IsResolved image (elim b as (λ w. Resolved) [ true ↦ Err (rule.S 16) | false ↦ elim o as (λ w. Resolved) [ None ↦ Err (rule.S 16) | Some c ↦ Ok (New a c) ] ])
      by_test true o e = tt
      by_test false None e = tt
      by_test false (Some c) e = base_there t.base c e

  resolved : (code : Code) (at : ℕ) (i : Insn) (f : Family) → IsResolved image (resolve image code at i f)
  resolved code at i (Family.Move x) = of_move x _ _
  resolved code at i (Family.MoveResult x) = of_result x _
  resolved code at i Family.ConstString = of_pool (slice_get code.body.strings i.index) _ (λ s. tt)
  resolved code at i Family.ConstClass = of_pool (slice_get code.method.info.types i.index) _ (λ t. tt)
  resolved code at i Family.CheckCast = of_pool (slice_get code.method.info.types i.index) _ (λ t. tt)
  resolved code at i Family.InstanceOf = of_pool (slice_get code.method.info.types i.index) _ (λ t. tt)
  resolved code at i Family.NewInstance = of_pool (slice_get code.method.info.types i.index) _ (of_new _)
  resolved code at i Family.NewArray = of_pool (slice_get code.method.info.types i.index) _ (λ t. tt)
  resolved code at i Family.FilledNewArray = of_pool (slice_get code.method.info.types i.index) _ (λ t. tt)
  resolved code at i Family.FillArrayData = of_fill _ _
  resolved code at i Family.PackedSwitch = of_packed _ _ _
  resolved code at i Family.SparseSwitch = of_sparse _ _ _
  resolved code at i (Family.FieldGet s) = of_field (slice_get code.method.info.fields i.index) _ (λ n x e. (n, e))
  resolved code at i (Family.FieldPut s) = of_field (slice_get code.method.info.fields i.index) _ (λ n x e. (n, e))
  resolved code at i (Family.StaticGet s) = of_field (slice_get code.method.info.fields i.index) _ (λ n x e. (n, e))
  resolved code at i (Family.StaticPut s) = of_field (slice_get code.method.info.fields i.index) _ (λ n x e. (n, e))
  resolved code at i (Family.Invoke c) = of_method (slice_get code.method.info.methods i.index) _ (λ n g e. (n, e))
  resolved code at i (Family.IntBinary o) = of_int (is_division o) o _ _ _
  resolved code at i (Family.LongBinary o) = of_long (is_division o) (is_shift o) o _ _ _
  resolved code at i (Family.IntTwo o) = of_int (is_division o) o _ _ _
  resolved code at i (Family.LongTwo o) = of_long (is_division o) (is_shift o) o _ _ _
  resolved code at i (Family.IntLiteral o) = of_int (is_division o) o _ _ _
  resolved code at i f = tt

  by_family : (code : Code) (at : ℕ) (i : Insn) (f : Option Family) → IsResolved image (resolve_by image code at i f)
  by_family code at i None = tt
  by_family code at i (Some f) = resolved code at i f

  placed_at : (next : ℕ) (r : Resolved) → IsResolved image r → IsNamedAt image (at_of next r)
  placed_at next (Err rule) h = tt
  placed_at next (Ok op) h = h

  unless_broken : (rules : List Rule) (next : ℕ) (r : Resolved) → IsResolved image r → IsNamedAt image (elim rules as (λ w. Option At) [ [] ↦ at_of next r | x ∷ xs ↦ None ])
  unless_broken [] next r h = placed_at next r h
  unless_broken (x ∷ xs) next r h = tt

  in_tile : (code : Code) (t : Option Tile) → IsNamedAt image (at_tile image code t)
  in_tile code None = tt
  in_tile code (Some t) = in_item (insn_in t.item)
    where
      in_item : (o : Option Insn) → IsNamedAt image (elim o as (λ w. Option At) [ None ↦ None | Some i ↦ sound_at image code t.at (t.at + t.size) i ])
      in_item None = tt
      in_item (Some i) = unless_broken (insn_rules image code t.at i) (t.at + t.size) (op_of image code t.at i) (by_family code t.at i (family_at i.op))

  in_code : (at : ℕ) (code : Option Code) → IsNamedAt image (fetch_in image at code)
  in_code at None = tt
  in_code at (Some code) = in_tile code (tile_at code.tiles at)

  fetched : (n at : ℕ) → IsNamedAt image (fetch image n at)
  unfolding fetch
  fetched n at = in_code at (code_at image n)

pub is_named : (image : Image) (n at : ℕ) (x : At) → fetch image n at ≡ Some x → IsNamed image x.op
is_named image n at x e = subst (IsNamedAt image) e (fetched image n at)
