-- What the row of an opcode says holds of the operation that the machine resolves an instruction with that opcode to.
use Rattle.std.proofs.Common.{◌≡◌, ℕ, ◌<◌, Bool, true, false, not, ◌&&◌, Option, Some, None, option_map, refl, ap, ◌∙◌}
use Rattle.std.specs.Prelude.{Ok, Err, slice_get}
use Rattle.dv_defs.specs.declared.code.Insn.{Insn}
use Rattle.dv_defs.specs.declared.code.Payload.{Payload}
use Rattle.dv_defs.specs.declared.code.Payload.TheVariants as payload
use Rattle.dv_defs.specs.Images.{Image}
use Rattle.dv_defs.specs.declared.names.Ty.{Ty}
use Rattle.dv_defs.specs.Types.{is_array}
use Rattle.dv_defs.specs.Op as machine
use Rattle.dv_defs.specs.Op.{Op, Arg, Code, Resolved, reg, named_registers, resolved_field, resolved_method, on_pool, move_op, result_op, int_op, long_op, packed_op, sparse_op, fill_op, class_of_base, new_op, resolve, resolve_by, op_of}
use Rattle.dv_defs.specs.declared.faults.Rule.TheVariants as rule
use Rattle.dv_optable.specs.Table as table
use Rattle.dv_optable.specs.Families.{can_throw, is_local, is_division}
use Rattle.dv_optable.specs.declared.family.Family.{Family}
use Rattle.dv_optable.specs.declared.family.Family.TheVariants as family
use Rattle.dv_optable.specs.declared.family.Width.{Width}
use Rattle.dv_optable.specs.declared.family.Width.TheVariants as width
use Rattle.dv_optable.specs.declared.family.Bin.{Bin}
use Rattle.dv_optable.specs.declared.family.Bin.TheVariants as bin
use Rattle.dv_units.specs.Tables.{standard_width, standard_suffix, standard_call, standard_bin, standard_family, ThrowsAgree, LocalsAgree}
use Rattle.dv_units.proofs.Opcodes.{families_agree}

-- whether an operation can throw, and whether it is local
abbrev Says : Bool → Bool → Op → Type 0
Says throws local op = (throws ≡ machine.can_throw op) × (local ≡ machine.is_local op)

-- of whatever is resolved
abbrev AllSay : Bool → Bool → Resolved → Type 0
AllSay throws local (Ok op) = Says throws local op
AllSay throws local (Err fault) = Unit {0}

-- ---- the operations of one family

on_pool_says : {A : Type 0} (throws local : Bool) (entry : Option A) (go : A → Resolved) → ((x : A) → AllSay throws local (go x)) → AllSay throws local (on_pool entry go)
on_pool_says throws local None go h = tt
on_pool_says throws local (Some x) go h = h x

move_says : (x : Width) (a b : ℕ) → Says false true (move_op (standard_width x) a b)
move_says width.Narrow a b = (refl, refl)
move_says width.Wide a b = (refl, refl)
move_says width.Reference a b = (refl, refl)

result_says : (x : Width) (a : ℕ) → Says false true (result_op (standard_width x) a)
result_says width.Narrow a = (refl, refl)
result_says width.Wide a = (refl, refl)
result_says width.Reference a = (refl, refl)

int_says : (o : Bin) (a b : ℕ) (c : Arg) → Says (is_division o) (not (is_division o) && true && true) (int_op (standard_bin o) a b c)
int_says bin.Add a b c = (refl, refl)
int_says bin.Sub a b c = (refl, refl)
int_says bin.Rsub a b c = (refl, refl)
int_says bin.Mul a b c = (refl, refl)
int_says bin.Div a b c = (refl, refl)
int_says bin.Rem a b c = (refl, refl)
int_says bin.And a b c = (refl, refl)
int_says bin.Or a b c = (refl, refl)
int_says bin.Xor a b c = (refl, refl)
int_says bin.Shl a b c = (refl, refl)
int_says bin.Shr a b c = (refl, refl)
int_says bin.Ushr a b c = (refl, refl)

long_says : (o : Bin) (a b c : ℕ) → Says (is_division o) (not (is_division o) && true && true) (long_op (standard_bin o) a b c)
long_says bin.Add a b c = (refl, refl)
long_says bin.Sub a b c = (refl, refl)
long_says bin.Rsub a b c = (refl, refl)
long_says bin.Mul a b c = (refl, refl)
long_says bin.Div a b c = (refl, refl)
long_says bin.Rem a b c = (refl, refl)
long_says bin.And a b c = (refl, refl)
long_says bin.Or a b c = (refl, refl)
long_says bin.Xor a b c = (refl, refl)
long_says bin.Shl a b c = (refl, refl)
long_says bin.Shr a b c = (refl, refl)
long_says bin.Ushr a b c = (refl, refl)

packed_says : (at a : ℕ) (p : Option Payload) → AllSay false true (packed_op at a p)
packed_says at a (Some (payload.Packed k ts)) = (refl, refl)
packed_says at a (Some (payload.Sparse ks ts)) = tt
packed_says at a (Some (payload.Data width bytes)) = tt
packed_says at a None = tt

sparse_says : (at a : ℕ) (p : Option Payload) → AllSay false true (sparse_op at a p)
sparse_says at a (Some (payload.Packed k ts)) = tt
sparse_says at a (Some (payload.Sparse ks ts)) = (refl, refl)
sparse_says at a (Some (payload.Data width bytes)) = tt
sparse_says at a None = tt

fill_says : (a : ℕ) (p : Option Payload) → AllSay true false (fill_op a p)
fill_says a (Some (payload.Packed k ts)) = tt
fill_says a (Some (payload.Sparse ks ts)) = tt
fill_says a (Some (payload.Data width bytes)) = (refl, refl)
fill_says a None = tt

new_by : (array : Bool) (class : Option ℕ) (a : ℕ) → AllSay true false (elim array [ true ↦ Err (rule.S 16) | false ↦ elim class [ None ↦ Err (rule.S 16) | Some c ↦ Ok (machine.New a c) ] ])
new_by true class a = tt
new_by false None a = tt
new_by false (Some c) a = (refl, refl)

new_says : (image : Image) (a : ℕ) (ty : Ty) → AllSay true false (new_op image a ty)
new_says image a ty = new_by (is_array ty) (class_of_base image ty.base) a

-- what is said of an opcode with a family, and what of one without
abbrev AreSaid : Option Family → Op → Type 0
AreSaid f op = (option_map can_throw f ≡ Some (machine.can_throw op)) × (option_map is_local f ≡ Some (machine.is_local op))

-- ---- each family

module _ (image : Image) (code : Code) (at : ℕ) (i : Insn) where
  says : (f : Family) → AllSay (can_throw f) (is_local f) (resolve image code at i (standard_family f))
  says family.Nop = (refl, refl)
  says (family.Move x) = move_says x _ _
  says (family.MoveResult x) = result_says x _
  says family.MoveException = (refl, refl)
  says family.ReturnVoid = (refl, refl)
  says (family.Return x) = (refl, refl)
  says family.Const = (refl, refl)
  says family.ConstWide = (refl, refl)
  says family.ConstString = on_pool_says true false (slice_get code.body.strings i.index) (λ x. Ok (machine.ConstString (reg i 0) x)) (λ x. (refl, refl))
  says family.ConstClass = on_pool_says true false (slice_get code.method.info.types i.index) (λ x. Ok (machine.ConstClass (reg i 0) x)) (λ x. (refl, refl))
  says family.MonitorEnter = (refl, refl)
  says family.MonitorExit = (refl, refl)
  says family.CheckCast = on_pool_says true false (slice_get code.method.info.types i.index) (λ x. Ok (machine.Cast (reg i 0) x)) (λ x. (refl, refl))
  says family.InstanceOf = on_pool_says false false (slice_get code.method.info.types i.index) (λ x. Ok (machine.InstanceOf (reg i 0) (reg i 1) x)) (λ x. (refl, refl))
  says family.ArrayLength = (refl, refl)
  says family.NewInstance = on_pool_says true false (slice_get code.method.info.types i.index) (new_op image (reg i 0)) (new_says image (reg i 0))
  says family.NewArray = on_pool_says true false (slice_get code.method.info.types i.index) (λ x. Ok (machine.NewArray (reg i 0) (reg i 1) x)) (λ x. (refl, refl))
  says family.FilledNewArray = on_pool_says true false (slice_get code.method.info.types i.index) (λ x. Ok (machine.Filled (named_registers i.regs) x)) (λ x. (refl, refl))
  says family.FillArrayData = fill_says _ _
  says family.Throw = (refl, refl)
  says family.Goto = (refl, refl)
  says family.PackedSwitch = packed_says at _ _
  says family.SparseSwitch = sparse_says at _ _
  says family.CmpLong = (refl, refl)
  says (family.If x) = (refl, refl)
  says (family.IfZero x) = (refl, refl)
  says (family.ArrayGet x) = (refl, refl)
  says (family.ArrayPut x) = (refl, refl)
  says (family.FieldGet s) = on_pool_says true false (resolved_field image (slice_get code.method.info.fields i.index)) (λ x. Ok (machine.FieldGet (standard_suffix s) (reg i 0) (reg i 1) x)) (λ x. (refl, refl))
  says (family.FieldPut s) = on_pool_says true false (resolved_field image (slice_get code.method.info.fields i.index)) (λ x. Ok (machine.FieldPut (standard_suffix s) (reg i 0) (reg i 1) x)) (λ x. (refl, refl))
  says (family.StaticGet s) = on_pool_says true false (resolved_field image (slice_get code.method.info.fields i.index)) (λ x. Ok (machine.StaticGet (standard_suffix s) (reg i 0) x)) (λ x. (refl, refl))
  says (family.StaticPut s) = on_pool_says true false (resolved_field image (slice_get code.method.info.fields i.index)) (λ x. Ok (machine.StaticPut (standard_suffix s) (reg i 0) x)) (λ x. (refl, refl))
  says (family.Invoke c) = on_pool_says true false (resolved_method image (slice_get code.method.info.methods i.index)) (λ x. Ok (machine.Invoke (standard_call c) (named_registers i.regs) x)) (λ x. (refl, refl))
  says (family.IntUnary x) = (refl, refl)
  says (family.LongUnary x) = (refl, refl)
  says family.IntToLong = (refl, refl)
  says family.LongToInt = (refl, refl)
  says (family.IntBinary o) = int_says o _ _ _
  says (family.LongBinary o) = long_says o _ _ _
  says (family.IntTwo o) = int_says o _ _ _
  says (family.LongTwo o) = long_says o _ _ _
  says (family.IntLiteral o) = int_says o _ _ _

  resolved : (f : Family) (r : Resolved) (op : Op) → AllSay (can_throw f) (is_local f) r → r ≡ Ok op → AreSaid (Some f) op
  resolved f (Ok x) op say is =
      let same : x ≡ op = cc in
      (ap Some (say.0 ∙ ap machine.can_throw same), ap Some (say.1 ∙ ap machine.is_local same))
  resolved f (Err fault) op say is = absurd (cc)

  said : (f : Option Family) (op : Op) → resolve_by image code at i (option_map standard_family f) ≡ Ok op → AreSaid f op
  said None op is = absurd (cc)
  said (Some f) op is = resolved f (resolve image code at i (standard_family f)) op (says f) is

  agreed : (op : Op) → i.op < 256 → op_of image code at i ≡ Ok op → AreSaid (table.family_at i.op) op
  agreed op below is = said (table.family_at i.op) op (ap (resolve_by image code at i) (families_agree i.op below) ∙ is)

pub throws_agree : ThrowsAgree
throws_agree image code at i op below is = (agreed image code at i op below is).0

pub locals_agree : LocalsAgree
locals_agree image code at i op below is = (agreed image code at i op below is).1
