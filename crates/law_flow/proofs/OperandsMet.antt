-- The types that an instruction brings in are among those that its method can meet.
use Rattle.std.proofs.Common.{◌≡◌, ◌≤◌, ℕ, Bool, true, false, Option, Some, None, refl, subst}
use Rattle.std.specs.Prelude.{Ok, Err, slice_get}
use Rattle.dv_defs.specs.declared.names.Ty.{Ty}
use Rattle.dv_defs.specs.declared.names.FieldId.{FieldId}
use Rattle.dv_defs.specs.declared.names.MethodId.{MethodId}
use Rattle.dv_defs.specs.declared.code.Insn.{Insn}
use Rattle.dv_defs.specs.declared.code.Payload.{Payload}
use Rattle.dv_defs.specs.declared.code.Payload.TheVariants as payload
use Rattle.dv_defs.specs.declared.faults.Rule.TheVariants as rule
use Rattle.dv_defs.specs.Images.{Image}
use Rattle.dv_defs.specs.Parts.{Width, Bin, is_division, is_shift}
use Rattle.dv_defs.specs.Families.{Family, family_at}
use Rattle.dv_defs.specs.Types.{is_array}
use Rattle.dv_defs.specs.Pools.{Method, Field, method_at, field_at}
use Rattle.dv_defs.specs.Op.{Op, Cast, New, NewArray, Filled, FieldGet, StaticGet, Invoke, IntDivide, IntOp, LongDivide, LongShift, LongOp, Arg, Code, Resolved, on_pool, resolved_field, resolved_method, move_op, result_op, packed_op, sparse_op, fill_op, class_of_base, new_op, resolve, resolve_by, op_of}
use Rattle.law_flow.specs.Fitting.{dims_met}
use Rattle.law_flow.proofs.DimsMet.{pool_met, field_met, result_met}

-- what an operation brings in has at most so many dimensions
abbrev pub OperandsMet : Image → Code → Op → Type 0
OperandsMet image code (Cast a t) = t.dims ≤ dims_met image code
OperandsMet image code (NewArray a b t) = t.dims ≤ dims_met image code
OperandsMet image code (Filled rs t) = t.dims ≤ dims_met image code
OperandsMet image code (FieldGet s a b x) = x.def.ty.dims ≤ dims_met image code
OperandsMet image code (StaticGet s a x) = x.def.ty.dims ≤ dims_met image code
OperandsMet image code (Invoke c ks g) = (t : Ty) → g.def.proto.ret ≡ Some t → t.dims ≤ dims_met image code
OperandsMet image code op = Unit {0}

abbrev ResolvedMet : Image → Code → Resolved → Type 0
ResolvedMet image code (Ok op) = OperandsMet image code op
ResolvedMet image code (Err rule) = Unit {0}

module _ (image : Image) (code : Code) where
  of_pool : {A : Type 0} (o : Option A) (go : A → Resolved) → ((x : A) → o ≡ Some x → ResolvedMet image code (go x)) → ResolvedMet image code (on_pool o go)
  of_pool None go h = tt
  of_pool (Some x) go h = h x refl

  of_field : (f : Option FieldId) (go : Field → Op) → ((x : Field) → x.def.ty.dims ≤ dims_met image code → OperandsMet image code (go x)) → ResolvedMet image code (on_pool (resolved_field image f) (λ x. Ok (go x)))
  of_field None go h = tt
  of_field (Some f) go h = found (field_at image f.0) refl
    where
      found : (o : Option Field) → field_at image f.0 ≡ o → ResolvedMet image code (on_pool o (λ x. Ok (go x)))
      found None e = tt
      found (Some x) e = h x (field_met image code f.0 x e)

  of_method : (m : Option MethodId) (go : Method → Op) → ((g : Method) → ((t : Ty) → g.def.proto.ret ≡ Some t → t.dims ≤ dims_met image code) → OperandsMet image code (go g)) → ResolvedMet image code (on_pool (resolved_method image m) (λ g. Ok (go g)))
  of_method None go h = tt
  of_method (Some m) go h = found (method_at image m.0) refl
    where
      found : (o : Option Method) → method_at image m.0 ≡ o → ResolvedMet image code (on_pool o (λ g. Ok (go g)))
      found None e = tt
      found (Some g) e = h g (λ t r. result_met image code m.0 g t e r)

  of_move : (x : Width) (a b : ℕ) → OperandsMet image code (move_op x a b)
  of_move Width.Narrow a b = tt
  of_move Width.Wide a b = tt
  of_move Width.Reference a b = tt

  of_result : (x : Width) (a : ℕ) → OperandsMet image code (result_op x a)
  of_result Width.Narrow a = tt
  of_result Width.Wide a = tt
  of_result Width.Reference a = tt

  of_int : (b : Bool) (o : Bin) (a k : ℕ) (c : Arg) → OperandsMet image code (elim b as (λ w. Op) [ true ↦ IntDivide o a k c | false ↦ IntOp o a k c ])
  of_int true o a k c = tt
  of_int false o a k c = tt

  of_long : (b d : Bool) (o : Bin) (a k c : ℕ) → OperandsMet image code (elim b as (λ w. Op) [ true ↦ LongDivide o a k c | false ↦ elim d as (λ w. Op) [ true ↦ LongShift o a k c | false ↦ LongOp o a k c ] ])
  of_long true d o a k c = tt
  of_long false true o a k c = tt
  of_long false false o a k c = tt

  of_packed : (at a : ℕ) (p : Option Payload) → ResolvedMet image code (packed_op at a p)
  of_packed at a (Some (payload.Packed k ts)) = tt
  of_packed at a p = tt

  of_sparse : (at a : ℕ) (p : Option Payload) → ResolvedMet image code (sparse_op at a p)
  of_sparse at a (Some (payload.Sparse ks ts)) = tt
  of_sparse at a p = tt

  of_fill : (a : ℕ) (p : Option Payload) → ResolvedMet image code (fill_op a p)
  of_fill a (Some (payload.Data width bytes)) = tt
  of_fill a p = tt

  of_new : (a : ℕ) (t : Ty) → ResolvedMet image code (new_op image a t)
  of_new a t = by_test (is_array t) (class_of_base image t.base)
    where
      by_test : (b : Bool) (o : Option ℕ) → ResolvedMet image code (elim b as (λ w. Resolved) [ true ↦ Err (rule.S 16) | false ↦ elim o as (λ w. Resolved) [ None ↦ Err (rule.S 16) | Some c ↦ Ok (New a c) ] ])
      by_test true o = tt
      by_test false None = tt
      by_test false (Some c) = tt

  resolved : (at : ℕ) (i : Insn) (f : Family) → ResolvedMet image code (resolve image code at i f)
  resolved at i (Family.Move x) = of_move x _ _
  resolved at i (Family.MoveResult x) = of_result x _
  resolved at i Family.ConstString = of_pool (slice_get code.body.strings i.index) _ (λ s e. tt)
  resolved at i Family.ConstClass = of_pool (slice_get code.method.info.types i.index) _ (λ t e. tt)
  resolved at i Family.CheckCast = of_pool (slice_get code.method.info.types i.index) _ (λ t e. pool_met image code i.index t e)
  resolved at i Family.InstanceOf = of_pool (slice_get code.method.info.types i.index) _ (λ t e. tt)
  resolved at i Family.NewInstance = of_pool (slice_get code.method.info.types i.index) _ (λ t e. of_new _ t)
  resolved at i Family.NewArray = of_pool (slice_get code.method.info.types i.index) _ (λ t e. pool_met image code i.index t e)
  resolved at i Family.FilledNewArray = of_pool (slice_get code.method.info.types i.index) _ (λ t e. pool_met image code i.index t e)
  resolved at i Family.FillArrayData = of_fill _ _
  resolved at i Family.PackedSwitch = of_packed _ _ _
  resolved at i Family.SparseSwitch = of_sparse _ _ _
  resolved at i (Family.FieldGet s) = of_field (slice_get code.method.info.fields i.index) _ (λ x l. l)
  resolved at i (Family.FieldPut s) = of_field (slice_get code.method.info.fields i.index) _ (λ x l. tt)
  resolved at i (Family.StaticGet s) = of_field (slice_get code.method.info.fields i.index) _ (λ x l. l)
  resolved at i (Family.StaticPut s) = of_field (slice_get code.method.info.fields i.index) _ (λ x l. tt)
  resolved at i (Family.Invoke c) = of_method (slice_get code.method.info.methods i.index) _ (λ g l. l)
  resolved at i (Family.IntBinary o) = of_int (is_division o) o _ _ _
  resolved at i (Family.LongBinary o) = of_long (is_division o) (is_shift o) o _ _ _
  resolved at i (Family.IntTwo o) = of_int (is_division o) o _ _ _
  resolved at i (Family.LongTwo o) = of_long (is_division o) (is_shift o) o _ _ _
  resolved at i (Family.IntLiteral o) = of_int (is_division o) o _ _ _
  resolved at i f = tt

  by_family : (at : ℕ) (i : Insn) (f : Option Family) → ResolvedMet image code (resolve_by image code at i f)
  by_family at i None = tt
  by_family at i (Some f) = resolved at i f

  pub operands_met : (at : ℕ) (i : Insn) (op : Op) → op_of image code at i ≡ Ok op → OperandsMet image code op
  operands_met at i op e = subst (ResolvedMet image code) e (by_family at i (family_at i.op))
