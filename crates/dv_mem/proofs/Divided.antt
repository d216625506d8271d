-- What is fetched as a division is one.
use Rattle.std.proofs.Common.{◌≡◌, ℕ, ◌+◌, List, [], ◌∷◌, Bool, true, false, Option, Some, None, refl, subst}
use Rattle.std.specs.Prelude.{Ok, Err, slice_get}
use Rattle.dv_defs.specs.declared.code.Insn.{Insn}
use Rattle.dv_defs.specs.declared.code.Payload.{Payload}
use Rattle.dv_defs.specs.declared.code.Payload.TheVariants as payload
use Rattle.dv_defs.specs.declared.faults.Rule.{Rule}
use Rattle.dv_defs.specs.declared.faults.Rule.TheVariants as rule
use Rattle.dv_defs.specs.declared.names.Ty.{Ty}
use Rattle.dv_defs.specs.Families.{Family, family_at}
use Rattle.dv_defs.specs.Images.{Image}
use Rattle.dv_defs.specs.Op.{Arg, Code, IntDivide, IntOp, LongDivide, LongOp, LongShift, New, Op, Resolved, class_of_base, code_at, fill_op, int_op, long_op, move_op, new_op, on_pool, op_of, packed_op, resolve, resolve_by, resolved_field, resolved_method, result_op, sparse_op}
use Rattle.dv_defs.specs.Parts.{Bin, Width, is_division, is_shift}
use Rattle.dv_typing.specs.Statics.{At, at_of, at_tile, fetch, fetch_in, insn_rules, sound_at}
use Rattle.dv_defs.specs.Tiling.{Tile, insn_in, tile_at}
use Rattle.dv_defs.specs.Types.{is_array}

abbrev pub IsDivided : Op → Type 0
IsDivided (IntDivide o a b c) = is_division o ≡ true
IsDivided (LongDivide o a b c) = is_division o ≡ true
IsDivided op = Unit {0}

abbrev DividesIn : Resolved → Type 0
DividesIn (Ok op) = IsDivided op
DividesIn (Err broken) = Unit {0}

abbrev DividesAt : Option At → Type 0
DividesAt None = Unit {0}
DividesAt (Some x) = IsDivided x.op

of_pool : {A : Type 0} (o : Option A) (go : A → Resolved) → ((x : A) → DividesIn (go x)) → DividesIn (on_pool o go)
of_pool None go all = tt
of_pool (Some x) go all = all x

of_move : (x : Width) (a b : ℕ) → IsDivided (move_op x a b)
of_move Width.Narrow a b = tt
of_move Width.Wide a b = tt
of_move Width.Reference a b = tt

of_result : (x : Width) (a : ℕ) → IsDivided (result_op x a)
of_result Width.Narrow a = tt
of_result Width.Wide a = tt
of_result Width.Reference a = tt

of_int : (o : Bin) (a b : ℕ) (c : Arg) → IsDivided (int_op o a b c)
of_int o a b c = by (is_division o) refl
  where
    by : (d : Bool) → is_division o ≡ d → IsDivided (elim d as (λ z. Op) [ true ↦ IntDivide o a b c | false ↦ IntOp o a b c ])
    by true is = is
    by false is = tt

of_long : (o : Bin) (a b c : ℕ) → IsDivided (long_op o a b c)
of_long o a b c = by (is_division o) (is_shift o) refl
  where
    by : (d s : Bool) → is_division o ≡ d → IsDivided (elim d as (λ z. Op) [ true ↦ LongDivide o a b c | false ↦ elim s as (λ z. Op) [ true ↦ LongShift o a b c | false ↦ LongOp o a b c ] ])
    by true s is = is
    by false true is = tt
    by false false is = tt

of_packed : (at a : ℕ) (p : Option Payload) → DividesIn (packed_op at a p)
of_packed at a (Some (payload.Packed k ts)) = tt
of_packed at a p = tt

of_sparse : (at a : ℕ) (p : Option Payload) → DividesIn (sparse_op at a p)
of_sparse at a (Some (payload.Sparse ks ts)) = tt
of_sparse at a p = tt

of_fill : (a : ℕ) (p : Option Payload) → DividesIn (fill_op a p)
of_fill a (Some (payload.Data width bytes)) = tt
of_fill a p = tt

module _ (image : Image) where
  of_new : (a : ℕ) (t : Ty) → DividesIn (new_op image a t)
  of_new a t = by (is_array t) (class_of_base image t.base)
    where
      by : (b : Bool) (o : Option ℕ) → DividesIn (elim b as (λ z. Resolved) [ true ↦ Err (rule.S 16) | false ↦ elim o as (λ z. Resolved) [ None ↦ Err (rule.S 16) | Some c ↦ Ok (New a c) ] ])
      by true o = tt
      by false None = tt
      by false (Some c) = tt

  resolved : (code : Code) (at : ℕ) (i : Insn) (f : Family) → DividesIn (resolve image code at i f)
  resolved code at i (Family.Move x) = of_move x _ _
  resolved code at i (Family.MoveResult x) = of_result x _
  resolved code at i Family.ConstString = of_pool (slice_get code.body.strings i.index) _ (λ s. tt)
  resolved code at i Family.ConstClass = of_pool (slice_get code.method.info.types i.index) _ (λ t. tt)
  resolved code at i Family.CheckCast = of_pool (slice_get code.method.info.types i.index) _ (λ t. tt)
  resolved code at i Family.InstanceOf = of_pool (slice_get code.method.info.types i.index) _ (λ t. tt)
  resolved code at i Family.NewInstance = of_pool (slice_get code.method.info.types i.index) _ (of_new _)
  resolved code at i Family.NewArray = of_pool (slice_get code.method.info.types i.index) _ (λ t. tt)
  resolved code at i Family.FilledNewArray = of_pool (slice_get code.method.info.types i.index) _ (λ t. tt)
  resolved code at i Family.FillArrayData = of_fill _ _
  resolved code at i Family.PackedSwitch = of_packed _ _ _
  resolved code at i Family.SparseSwitch = of_sparse _ _ _
  resolved code at i (Family.FieldGet s) = of_pool (resolved_field image (slice_get code.method.info.fields i.index)) _ (λ x. tt)
  resolved code at i (Family.FieldPut s) = of_pool (resolved_field image (slice_get code.method.info.fields i.index)) _ (λ x. tt)
  resolved code at i (Family.StaticGet s) = of_pool (resolved_field image (slice_get code.method.info.fields i.index)) _ (λ x. tt)
  resolved code at i (Family.StaticPut s) = of_pool (resolved_field image (slice_get code.method.info.fields i.index)) _ (λ x. tt)
  resolved code at i (Family.Invoke c) = of_pool (resolved_method image (slice_get code.method.info.methods i.index)) _ (λ g. tt)
  resolved code at i (Family.IntBinary o) = of_int o _ _ _
  resolved code at i (Family.LongBinary o) = of_long o _ _ _
  resolved code at i (Family.IntTwo o) = of_int o _ _ _
  resolved code at i (Family.LongTwo o) = of_long o _ _ _
  resolved code at i (Family.IntLiteral o) = of_int o _ _ _
  resolved code at i f = tt

  by_family : (code : Code) (at : ℕ) (i : Insn) (f : Option Family) → DividesIn (resolve_by image code at i f)
  by_family code at i None = tt
  by_family code at i (Some f) = resolved code at i f

  placed_at : (next : ℕ) (r : Resolved) → DividesIn r → DividesAt (at_of next r)
  placed_at next (Err broken) is = tt
  placed_at next (Ok op) is = is

  unless_broken : (rules : List Rule) (next : ℕ) (r : Resolved) → DividesIn r → DividesAt (elim rules as (λ z. Option At) [ [] ↦ at_of next r | x ∷ xs ↦ None ])
  unless_broken [] next r is = placed_at next r is
  unless_broken (x ∷ xs) next r is = tt

  in_tile : (code : Code) (t : Option Tile) → DividesAt (at_tile image code t)
  in_tile code None = tt
  in_tile code (Some t) = in_item (insn_in t.item)
    where
      in_item : (o : Option Insn) → DividesAt (elim o as (λ z. Option At) [ None ↦ None | Some i ↦ sound_at image code t.at (t.at + t.size) i ])
      in_item None = tt
      in_item (Some i) = unless_broken (insn_rules image code t.at i) (t.at + t.size) (op_of image code t.at i) (by_family code t.at i (family_at i.op))

  in_code : (at : ℕ) (code : Option Code) → DividesAt (fetch_in image at code)
  in_code at None = tt
  in_code at (Some code) = in_tile code (tile_at code.tiles at)

  fetched : (n at : ℕ) → DividesAt (fetch image n at)
  unfolding fetch
  fetched n at = in_code at (code_at image n)

pub is_divided : (image : Image) (n at : ℕ) (x : At) → fetch image n at ≡ Some x → IsDivided x.op
is_divided image n at x e = subst DividesAt e (fetched image n at)
