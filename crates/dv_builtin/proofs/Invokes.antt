-- An invoke that is resolved passes the registers that its instruction names.
use Rattle.std.proofs.Common.{◌≡◌, ℕ, List, Bool, true, false, Option, Some, None, refl, subst}
use Rattle.std.specs.Prelude.{Ok, Err, slice_get}
use Rattle.dv_defs.specs.declared.code.Insn.{Insn}
use Rattle.dv_defs.specs.declared.code.Payload.{Payload}
use Rattle.dv_defs.specs.declared.code.Payload.TheVariants as payload
use Rattle.dv_defs.specs.declared.faults.Rule.TheVariants as rule
use Rattle.dv_defs.specs.Images.{Image}
use Rattle.dv_defs.specs.Numbers.{jump}
use Rattle.dv_defs.specs.Parts.{Width, Bin, Call, is_division, is_shift}
use Rattle.dv_defs.specs.Pools.{Method}
use Rattle.dv_defs.specs.Types.{is_array}
use Rattle.dv_defs.specs.Families.{Family, family_at}
use Rattle.dv_defs.specs.Tiling.{payload_at}
use Rattle.dv_defs.specs.Op.{Op, Arg, Code, Resolved, Invoke, IntDivide, IntOp, LongDivide, LongShift, LongOp, New, reg, named_registers, resolved_field, resolved_method, on_pool, move_op, result_op, packed_op, sparse_op, fill_op, class_of_base, new_op, resolve, resolve_by, op_of}

module _ (i : Insn) where
  abbrev Passes : Op → Type 0
  Passes (Invoke c ks m) = ks ≡ named_registers i.regs
  Passes op = Unit {0}

  abbrev AllPass : Resolved → Type 0
  AllPass (Ok op) = Passes op
  AllPass (Err broken) = Unit {0}

  -- ---- the operations of one family

  pooled : {A : Type 0} (entry : Option A) (go : A → Resolved) → ((x : A) → AllPass (go x)) → AllPass (on_pool entry go)
  pooled None go h = tt
  pooled (Some x) go h = h x

  of_move : (x : Width) (a b : ℕ) → Passes (move_op x a b)
  of_move Width.Narrow a b = tt
  of_move Width.Wide a b = tt
  of_move Width.Reference a b = tt

  of_result : (x : Width) (a : ℕ) → Passes (result_op x a)
  of_result Width.Narrow a = tt
  of_result Width.Wide a = tt
  of_result Width.Reference a = tt

  of_int : (divides : Bool) (o : Bin) (a b : ℕ) (c : Arg) → Passes (elim divides [ true ↦ IntDivide o a b c | false ↦ IntOp o a b c ])
  of_int true o a b c = tt
  of_int false o a b c = tt

  of_long : (divides shifts : Bool) (o : Bin) (a b c : ℕ) → Passes (elim divides [ true ↦ LongDivide o a b c | false ↦ elim shifts [ true ↦ LongShift o a b c | false ↦ LongOp o a b c ] ])
  of_long true shifts o a b c = tt
  of_long false true o a b c = tt
  of_long false false o a b c = tt

  of_packed : (at a : ℕ) (p : Option Payload) → AllPass (packed_op at a p)
  of_packed at a (Some (payload.Packed k ts)) = tt
  of_packed at a p = tt

  of_sparse : (at a : ℕ) (p : Option Payload) → AllPass (sparse_op at a p)
  of_sparse at a (Some (payload.Sparse ks ts)) = tt
  of_sparse at a p = tt

  of_fill : (a : ℕ) (p : Option Payload) → AllPass (fill_op a p)
  of_fill a (Some (payload.Data width bytes)) = tt
  of_fill a p = tt

  of_new : (array : Bool) (class : Option ℕ) (a : ℕ) → AllPass (elim array [ true ↦ Err (rule.S 16) | false ↦ elim class [ None ↦ Err (rule.S 16) | Some c ↦ Ok (New a c) ] ])
  of_new true class a = tt
  of_new false None a = tt
  of_new false (Some c) a = tt

  -- ---- each family

  passes : (image : Image) (code : Code) (at : ℕ) (f : Family) → AllPass (resolve image code at i f)
  passes image code at (Family.Move x) = of_move x _ _
  passes image code at (Family.MoveResult x) = of_result x _
  passes image code at Family.ConstString = pooled (slice_get code.body.strings i.index) _ (λ s. tt)
  passes image code at Family.ConstClass = pooled (slice_get code.method.info.types i.index) _ (λ t. tt)
  passes image code at Family.CheckCast = pooled (slice_get code.method.info.types i.index) _ (λ t. tt)
  passes image code at Family.InstanceOf = pooled (slice_get code.method.info.types i.index) _ (λ t. tt)
  passes image code at Family.NewInstance = pooled (slice_get code.method.info.types i.index) (new_op image (reg i 0)) (λ t. of_new (is_array t) (class_of_base image t.base) (reg i 0))
  passes image code at Family.NewArray = pooled (slice_get code.method.info.types i.index) _ (λ t. tt)
  passes image code at Family.FilledNewArray = pooled (slice_get code.method.info.types i.index) _ (λ t. tt)
  passes image code at Family.FillArrayData = of_fill (reg i 0) (payload_at code.tiles (jump at i.off))
  passes image code at Family.PackedSwitch = of_packed at (reg i 0) (payload_at code.tiles (jump at i.off))
  passes image code at Family.SparseSwitch = of_sparse at (reg i 0) (payload_at code.tiles (jump at i.off))
  passes image code at (Family.FieldGet s) = pooled (resolved_field image (slice_get code.method.info.fields i.index)) _ (λ x. tt)
  passes image code at (Family.FieldPut s) = pooled (resolved_field image (slice_get code.method.info.fields i.index)) _ (λ x. tt)
  passes image code at (Family.StaticGet s) = pooled (resolved_field image (slice_get code.method.info.fields i.index)) _ (λ x. tt)
  passes image code at (Family.StaticPut s) = pooled (resolved_field image (slice_get code.method.info.fields i.index)) _ (λ x. tt)
  passes image code at (Family.Invoke c) = pooled (resolved_method image (slice_get code.method.info.methods i.index)) (λ m. Ok (Invoke c (named_registers i.regs) m)) (λ m. refl)
  passes image code at (Family.IntBinary o) = of_int (is_division o) o _ _ _
  passes image code at (Family.LongBinary o) = of_long (is_division o) (is_shift o) o _ _ _
  passes image code at (Family.IntTwo o) = of_int (is_division o) o _ _ _
  passes image code at (Family.LongTwo o) = of_long (is_division o) (is_shift o) o _ _ _
  passes image code at (Family.IntLiteral o) = of_int (is_division o) o _ _ _
  passes image code at f = tt

  by_family : (image : Image) (code : Code) (at : ℕ) (f : Option Family) → AllPass (resolve_by image code at i f)
  by_family image code at None = tt
  by_family image code at (Some f) = passes image code at f

  pub passed : (image : Image) (code : Code) (at : ℕ) (call : Call) (ks : List ℕ) (m : Method) → op_of image code at i ≡ Ok (Invoke call ks m) → ks ≡ named_registers i.regs
  passed image code at call ks m e = subst AllPass e (by_family image code at (family_at i.op))
