-- The cases of a switch are those of the payload that its instruction names.
use Rattle.std.proofs.Common.{◌≡◌, ℕ, Bool, true, false, List, [], ◌∷◌, length, map, ℤ, pos, ◌+ℤ◌, Option, Some, None, is_some, slice_get, refl, ap, subst, arith}
use Rattle.std.specs.Prelude.{Ok, Err}
use Rattle.std.proofs.lemmas.Bool.{and_parts, eqb-true}
use Rattle.dv_defs.specs.declared.code.Insn.{Insn}
use Rattle.dv_defs.specs.declared.code.Payload.{Payload}
use Rattle.dv_defs.specs.declared.code.Payload.TheVariants as payload
use Rattle.dv_defs.specs.declared.faults.Rule.TheVariants as rule
use Rattle.dv_defs.specs.declared.names.Ty.{Ty}
use Rattle.dv_defs.specs.Images.{Image}
use Rattle.dv_defs.specs.Numbers.{jump}
use Rattle.dv_defs.specs.Parts.{Width, Bin, is_division, is_shift}
use Rattle.dv_defs.specs.Types.{is_array}
use Rattle.dv_defs.specs.Families.{Family, family_at}
use Rattle.dv_typing.specs.Flow.{jumps}
use Rattle.dv_defs.specs.Payloads.{payload_spelling, where_fits}
use Rattle.dv_defs.specs.Tiling.{payload_at}
use Rattle.dv_defs.specs.Op as machine
use Rattle.dv_defs.specs.Op.{Op, Arg, Code, Resolved, reg, named_registers, resolved_field, resolved_method, on_pool, move_op, result_op, int_op, long_op, packed_op, sparse_op, fill_op, class_of_base, new_op, resolve, resolve_by, op_of, cases_packed, cases_sparse}
use Rattle.dv_ops.specs.Meaning.{cases_in}
use Rattle.dv_rules.specs.Distances.{distances, is_switch}

-- a payload at an address has the cases of an operation
pub record HasCases (code : Code) (at to : ℕ) (op : Op) : Type 0 where
  pub payload : Payload
  pub there : payload_at code.tiles to ≡ Some payload
  pub targets : map (λ c. c.to) (cases_in at (Some payload)) ≡ jumps op

-- of whatever is resolved to a switch
abbrev AllHave : Code → ℕ → ℕ → Resolved → Type 0
AllHave code at to (Ok op) = is_switch op ≡ true → HasCases code at to op
AllHave code at to (Err broken) = Unit {0}

never : {P : Type 0} → (let b : Bool = false in b) ≡ true → P
never e = absurd (cc)

-- ---- the operations of one family

on_pool_has : {A : Type 0} (code : Code) (at to : ℕ) (entry : Option A) (go : A → Resolved) → ((x : A) → AllHave code at to (go x)) → AllHave code at to (on_pool entry go)
on_pool_has code at to None go h = tt
on_pool_has code at to (Some x) go h = h x

move_has : (code : Code) (at to : ℕ) (x : Width) (a b : ℕ) → AllHave code at to (Ok (move_op x a b))
move_has code at to Width.Narrow a b = never
move_has code at to Width.Wide a b = never
move_has code at to Width.Reference a b = never

result_has : (code : Code) (at to : ℕ) (x : Width) (a : ℕ) → AllHave code at to (Ok (result_op x a))
result_has code at to Width.Narrow a = never
result_has code at to Width.Wide a = never
result_has code at to Width.Reference a = never

int_by : (code : Code) (at to : ℕ) (divides : Bool) (o : Bin) (a b : ℕ) (c : Arg) → AllHave code at to (Ok (elim divides [ true ↦ machine.IntDivide o a b c | false ↦ machine.IntOp o a b c ]))
int_by code at to true o a b c = never
int_by code at to false o a b c = never

long_by : (code : Code) (at to : ℕ) (divides shifts : Bool) (o : Bin) (a b c : ℕ) → AllHave code at to (Ok (elim divides [ true ↦ machine.LongDivide o a b c | false ↦ elim shifts [ true ↦ machine.LongShift o a b c | false ↦ machine.LongOp o a b c ] ]))
long_by code at to true shifts o a b c = never
long_by code at to false true o a b c = never
long_by code at to false false o a b c = never

packed_by : (code : Code) (at to a : ℕ) (o : Option Payload) → payload_at code.tiles to ≡ o → AllHave code at to (packed_op at a o)
packed_by code at to a None e = tt
packed_by code at to a (Some (payload.Packed k ts)) e = λ s. record { payload = payload.Packed k ts; there = e; targets = refl }
packed_by code at to a (Some (payload.Sparse ks ts)) e = tt
packed_by code at to a (Some (payload.Data width bytes)) e = tt

sparse_by : (code : Code) (at to a : ℕ) (o : Option Payload) → payload_at code.tiles to ≡ o → AllHave code at to (sparse_op at a o)
sparse_by code at to a None e = tt
sparse_by code at to a (Some (payload.Packed k ts)) e = tt
sparse_by code at to a (Some (payload.Sparse ks ts)) e = λ s. record { payload = payload.Sparse ks ts; there = e; targets = refl }
sparse_by code at to a (Some (payload.Data width bytes)) e = tt

fill_has : (code : Code) (at to a : ℕ) (o : Option Payload) → AllHave code at to (fill_op a o)
fill_has code at to a None = tt
fill_has code at to a (Some (payload.Packed k ts)) = tt
fill_has code at to a (Some (payload.Sparse ks ts)) = tt
fill_has code at to a (Some (payload.Data width bytes)) = never

new_by : (code : Code) (at to : ℕ) (array : Bool) (class : Option ℕ) (a : ℕ) → AllHave code at to (elim array [ true ↦ Err (rule.S 16) | false ↦ elim class [ None ↦ Err (rule.S 16) | Some c ↦ Ok (machine.New a c) ] ])
new_by code at to true class a = tt
new_by code at to false None a = tt
new_by code at to false (Some c) a = never

-- ---- each family

module _ (image : Image) (code : Code) (at : ℕ) (i : Insn) where
  pooled : {A : Type 0} (entry : Option A) (go : A → Resolved) → ((x : A) → AllHave code at (jump at i.off) (go x)) → AllHave code at (jump at i.off) (on_pool entry go)
  pooled entry go h = on_pool_has code at (jump at i.off) entry go h

  int_has : (o : Bin) (a b : ℕ) (c : Arg) → AllHave code at (jump at i.off) (Ok (int_op o a b c))
  int_has o a b c = int_by code at (jump at i.off) (is_division o) o a b c

  long_has : (o : Bin) (a b c : ℕ) → AllHave code at (jump at i.off) (Ok (long_op o a b c))
  long_has o a b c = long_by code at (jump at i.off) (is_division o) (is_shift o) o a b c

  new_has : (a : ℕ) (t : Ty) → AllHave code at (jump at i.off) (new_op image a t)
  new_has a t = new_by code at (jump at i.off) (is_array t) (class_of_base image t.base) a

  has : (f : Family) → AllHave code at (jump at i.off) (resolve image code at i f)
  has Family.Nop = never
  has (Family.Move x) = move_has code at (jump at i.off) x (reg i 0) (reg i 1)
  has (Family.MoveResult x) = result_has code at (jump at i.off) x (reg i 0)
  has Family.MoveException = never
  has Family.ReturnVoid = never
  has (Family.Return x) = never
  has Family.Const = never
  has Family.ConstWide = never
  has Family.ConstString = pooled (slice_get code.body.strings i.index) (λ s. Ok (machine.ConstString (reg i 0) s)) (λ s. never)
  has Family.ConstClass = pooled (slice_get code.method.info.types i.index) (λ t. Ok (machine.ConstClass (reg i 0) t)) (λ t. never)
  has Family.MonitorEnter = never
  has Family.MonitorExit = never
  has Family.CheckCast = pooled (slice_get code.method.info.types i.index) (λ t. Ok (machine.Cast (reg i 0) t)) (λ t. never)
  has Family.InstanceOf = pooled (slice_get code.method.info.types i.index) (λ t. Ok (machine.InstanceOf (reg i 0) (reg i 1) t)) (λ t. never)
  has Family.ArrayLength = never
  has Family.NewInstance = pooled (slice_get code.method.info.types i.index) (new_op image (reg i 0)) (new_has (reg i 0))
  has Family.NewArray = pooled (slice_get code.method.info.types i.index) (λ t. Ok (machine.NewArray (reg i 0) (reg i 1) t)) (λ t. never)
  has Family.FilledNewArray = pooled (slice_get code.method.info.types i.index) (λ t. Ok (machine.Filled (named_registers i.regs) t)) (λ t. never)
  has Family.FillArrayData = fill_has code at (jump at i.off) (reg i 0) (payload_at code.tiles (jump at i.off))
  has Family.Throw = never
  has Family.Goto = never
  has Family.PackedSwitch = packed_by code at (jump at i.off) (reg i 0) (payload_at code.tiles (jump at i.off)) refl
  has Family.SparseSwitch = sparse_by code at (jump at i.off) (reg i 0) (payload_at code.tiles (jump at i.off)) refl
  has Family.CmpLong = never
  has (Family.If test) = never
  has (Family.IfZero test) = never
  has (Family.ArrayGet s) = never
  has (Family.ArrayPut s) = never
  has (Family.FieldGet s) = pooled (resolved_field image (slice_get code.method.info.fields i.index)) (λ x. Ok (machine.FieldGet s (reg i 0) (reg i 1) x)) (λ x. never)
  has (Family.FieldPut s) = pooled (resolved_field image (slice_get code.method.info.fields i.index)) (λ x. Ok (machine.FieldPut s (reg i 0) (reg i 1) x)) (λ x. never)
  has (Family.StaticGet s) = pooled (resolved_field image (slice_get code.method.info.fields i.index)) (λ x. Ok (machine.StaticGet s (reg i 0) x)) (λ x. never)
  has (Family.StaticPut s) = pooled (resolved_field image (slice_get code.method.info.fields i.index)) (λ x. Ok (machine.StaticPut s (reg i 0) x)) (λ x. never)
  has (Family.Invoke c) = pooled (resolved_method image (slice_get code.method.info.methods i.index)) (λ m. Ok (machine.Invoke c (named_registers i.regs) m)) (λ m. never)
  has (Family.IntUnary o) = never
  has (Family.LongUnary o) = never
  has Family.IntToLong = never
  has Family.LongToInt = never
  has (Family.IntBinary o) = int_has o (reg i 0) (reg i 1) (machine.Reg (reg i 2))
  has (Family.LongBinary o) = long_has o (reg i 0) (reg i 1) (reg i 2)
  has (Family.IntTwo o) = int_has o (reg i 0) (reg i 0) (machine.Reg (reg i 1))
  has (Family.LongTwo o) = long_has o (reg i 0) (reg i 0) (reg i 1)
  has (Family.IntLiteral o) = int_has o (reg i 0) (reg i 1) (machine.Lit i.lit)

  has_by : (f : Option Family) → AllHave code at (jump at i.off) (resolve_by image code at i f)
  has_by None = tt
  has_by (Some f) = has f

-- what an instruction is resolved to, where it is a switch, has the cases of the payload there
pub switch_cases : (image : Image) (code : Code) (at : ℕ) (i : Insn) (op : Op) → op_of image code at i ≡ Ok op → is_switch op ≡ true → HasCases code at (jump at i.off) op
switch_cases image code at i op e s =
    let P : Resolved → Type 0 = λ r. AllHave code at (jump at i.off) r in
    subst P e (has_by image code at i (family_at i.op)) s

-- ---- where the cases lead

packed_targets : (at : ℕ) (k : ℤ) (ts : List ℤ) → map (λ c. c.to) (cases_packed at k ts) ≡ map (jump at) ts
packed_targets at k [] = refl
packed_targets at k (t ∷ ts) = ap (λ xs. jump at t ∷ xs) (packed_targets at (k +ℤ pos 1) ts)

sparse_targets : (at : ℕ) (ks ts : List ℤ) → length ts ≡ length ks → map (λ c. c.to) (cases_sparse at ks ts) ≡ map (jump at) ts
sparse_targets at [] [] e = refl
sparse_targets at [] (t ∷ ts) e = absurd (omega arith)
sparse_targets at (k ∷ ks) [] e = absurd (omega arith)
sparse_targets at (k ∷ ks) (t ∷ ts) e = ap (λ xs. jump at t ∷ xs) (sparse_targets at ks ts (omega arith))

fitting : (b : Bool) (us : List ℕ) → is_some (where_fits b us) ≡ true → b ≡ true
fitting true us e = refl
fitting false us e = absurd (cc)

-- a payload that is spelled somewhere leads to the addresses at its distances
pub targets_at : (at : ℕ) (p : Payload) → is_some (payload_spelling p) ≡ true → map (λ c. c.to) (cases_in at (Some p)) ≡ map (jump at) (distances p)
targets_at at (payload.Packed k ts) e = packed_targets at k ts
targets_at at (payload.Sparse ks ts) e =
    let fits = fitting _ _ e in
    sparse_targets at ks ts (eqb-true (length ts) (length ks) (and_parts _ _ (and_parts _ _ fits).1).0)
targets_at at (payload.Data width bytes) e = refl
