-- A fill-array-data that is fetched names a payload of data.
use Rattle.std.proofs.Common.{◌≡◌, ℕ, ◌<◌, Bool, true, false, Option, Some, None, refl, ap, sym, ◌∙◌, subst, arith}
use Rattle.std.specs.Prelude.{Ok, Err, slice_get}
use Rattle.dv_defs.specs.declared.code.Insn.{Insn}
use Rattle.dv_defs.specs.declared.code.Payload.{Payload}
use Rattle.dv_defs.specs.declared.code.Payload.TheVariants as payload
use Rattle.dv_defs.specs.declared.faults.Rule.TheVariants as rule
use Rattle.dv_defs.specs.declared.names.Ty.{Ty}
use Rattle.dv_defs.specs.Images.{Image}
use Rattle.dv_defs.specs.Numbers.{jump}
use Rattle.dv_defs.specs.Parts.{Width, Bin, is_division, is_shift}
use Rattle.dv_defs.specs.Types.{is_array}
use Rattle.dv_defs.specs.Families.{Family, family_at}
use Rattle.dv_typing.specs.Statics.{At, fetch}
use Rattle.dv_defs.specs.Tiling.{payload_at, tiles_in}
use Rattle.dv_defs.specs.Op as machine
use Rattle.dv_defs.specs.Op.{Op, Arg, Code, Resolved, Fill, reg, named_registers, resolved_field, resolved_method, on_pool, move_op, result_op, int_op, long_op, packed_op, sparse_op, fill_op, class_of_base, new_op, resolve, resolve_by, op_of}
use Rattle.law_flow.specs.Clean.{IsClean, IsFetched}
use Rattle.dv_ops.specs.Meaning.{is_data, width_in}
use Rattle.dv_demands.proofs.PayloadWidths.{sized}

abbrev pub is_fill : Op → Bool
is_fill (Fill a n vs) = true
is_fill op = false

abbrev pub width_of : Op → ℕ
width_of (Fill a n vs) = n
width_of op = 0

-- a payload of data at an address has the width of an operation
record Fills (code : Code) (to : ℕ) (op : Op) : Type 0 where
  there : is_data (payload_at code.tiles to) ≡ true
  same : width_in (payload_at code.tiles to) ≡ width_of op

-- of whatever is resolved to a fill-array-data
abbrev AllFill : Code → ℕ → Resolved → Type 0
AllFill code to (Ok op) = is_fill op ≡ true → Fills code to op
AllFill code to (Err broken) = Unit {0}

never : {P : Type 0} → (let b : Bool = false in b) ≡ true → P
never e = absurd (cc)

-- ---- the operations of one family

on_pool_fills : {A : Type 0} (code : Code) (to : ℕ) (entry : Option A) (go : A → Resolved) → ((x : A) → AllFill code to (go x)) → AllFill code to (on_pool entry go)
on_pool_fills code to None go h = tt
on_pool_fills code to (Some x) go h = h x

move_fills : (code : Code) (to : ℕ) (x : Width) (a b : ℕ) → AllFill code to (Ok (move_op x a b))
move_fills code to Width.Narrow a b = never
move_fills code to Width.Wide a b = never
move_fills code to Width.Reference a b = never

result_fills : (code : Code) (to : ℕ) (x : Width) (a : ℕ) → AllFill code to (Ok (result_op x a))
result_fills code to Width.Narrow a = never
result_fills code to Width.Wide a = never
result_fills code to Width.Reference a = never

int_by : (code : Code) (to : ℕ) (divides : Bool) (o : Bin) (a b : ℕ) (c : Arg) → AllFill code to (Ok (elim divides [ true ↦ machine.IntDivide o a b c | false ↦ machine.IntOp o a b c ]))
int_by code to true o a b c = never
int_by code to false o a b c = never

long_by : (code : Code) (to : ℕ) (divides shifts : Bool) (o : Bin) (a b c : ℕ) → AllFill code to (Ok (elim divides [ true ↦ machine.LongDivide o a b c | false ↦ elim shifts [ true ↦ machine.LongShift o a b c | false ↦ machine.LongOp o a b c ] ]))
long_by code to true shifts o a b c = never
long_by code to false true o a b c = never
long_by code to false false o a b c = never

packed_fills : (code : Code) (to at a : ℕ) (o : Option Payload) → AllFill code to (packed_op at a o)
packed_fills code to at a (Some (payload.Packed k ts)) = never
packed_fills code to at a o = tt

sparse_fills : (code : Code) (to at a : ℕ) (o : Option Payload) → AllFill code to (sparse_op at a o)
sparse_fills code to at a (Some (payload.Sparse ks ts)) = never
sparse_fills code to at a o = tt

fill_by : (code : Code) (to a : ℕ) (o : Option Payload) → payload_at code.tiles to ≡ o → AllFill code to (fill_op a o)
fill_by code to a (Some (payload.Data n bytes)) e = λ s. record { there = ap is_data e; same = ap width_in e }
fill_by code to a o e = tt

new_by : (code : Code) (to : ℕ) (array : Bool) (class : Option ℕ) (a : ℕ) → AllFill code to (elim array [ true ↦ Err (rule.S 16) | false ↦ elim class [ None ↦ Err (rule.S 16) | Some c ↦ Ok (machine.New a c) ] ])
new_by code to true class a = tt
new_by code to false None a = tt
new_by code to false (Some c) a = never

-- ---- each family

module _ (image : Image) (code : Code) (at : ℕ) (i : Insn) where
  pooled : {A : Type 0} (entry : Option A) (go : A → Resolved) → ((x : A) → AllFill code (jump at i.off) (go x)) → AllFill code (jump at i.off) (on_pool entry go)
  pooled entry go h = on_pool_fills code (jump at i.off) entry go h

  int_fills : (o : Bin) (a b : ℕ) (c : Arg) → AllFill code (jump at i.off) (Ok (int_op o a b c))
  int_fills o a b c = int_by code (jump at i.off) (is_division o) o a b c

  long_fills : (o : Bin) (a b c : ℕ) → AllFill code (jump at i.off) (Ok (long_op o a b c))
  long_fills o a b c = long_by code (jump at i.off) (is_division o) (is_shift o) o a b c

  new_fills : (a : ℕ) (t : Ty) → AllFill code (jump at i.off) (new_op image a t)
  new_fills a t = new_by code (jump at i.off) (is_array t) (class_of_base image t.base) a

  fills : (f : Family) → AllFill code (jump at i.off) (resolve image code at i f)
  fills (Family.Move x) = move_fills code (jump at i.off) x (reg i 0) (reg i 1)
  fills (Family.MoveResult x) = result_fills code (jump at i.off) x (reg i 0)
  fills Family.ConstString = pooled (slice_get code.body.strings i.index) (λ s. Ok (machine.ConstString (reg i 0) s)) (λ s. never)
  fills Family.ConstClass = pooled (slice_get code.method.info.types i.index) (λ t. Ok (machine.ConstClass (reg i 0) t)) (λ t. never)
  fills Family.CheckCast = pooled (slice_get code.method.info.types i.index) (λ t. Ok (machine.Cast (reg i 0) t)) (λ t. never)
  fills Family.InstanceOf = pooled (slice_get code.method.info.types i.index) (λ t. Ok (machine.InstanceOf (reg i 0) (reg i 1) t)) (λ t. never)
  fills Family.NewInstance = pooled (slice_get code.method.info.types i.index) (new_op image (reg i 0)) (new_fills (reg i 0))
  fills Family.NewArray = pooled (slice_get code.method.info.types i.index) (λ t. Ok (machine.NewArray (reg i 0) (reg i 1) t)) (λ t. never)
  fills Family.FilledNewArray = pooled (slice_get code.method.info.types i.index) (λ t. Ok (machine.Filled (named_registers i.regs) t)) (λ t. never)
  fills Family.FillArrayData = fill_by code (jump at i.off) (reg i 0) (payload_at code.tiles (jump at i.off)) refl
  fills Family.PackedSwitch = packed_fills code (jump at i.off) at (reg i 0) (payload_at code.tiles (jump at i.off))
  fills Family.SparseSwitch = sparse_fills code (jump at i.off) at (reg i 0) (payload_at code.tiles (jump at i.off))
  fills (Family.FieldGet s) = pooled (resolved_field image (slice_get code.method.info.fields i.index)) (λ x. Ok (machine.FieldGet s (reg i 0) (reg i 1) x)) (λ x. never)
  fills (Family.FieldPut s) = pooled (resolved_field image (slice_get code.method.info.fields i.index)) (λ x. Ok (machine.FieldPut s (reg i 0) (reg i 1) x)) (λ x. never)
  fills (Family.StaticGet s) = pooled (resolved_field image (slice_get code.method.info.fields i.index)) (λ x. Ok (machine.StaticGet s (reg i 0) x)) (λ x. never)
  fills (Family.StaticPut s) = pooled (resolved_field image (slice_get code.method.info.fields i.index)) (λ x. Ok (machine.StaticPut s (reg i 0) x)) (λ x. never)
  fills (Family.Invoke c) = pooled (resolved_method image (slice_get code.method.info.methods i.index)) (λ m. Ok (machine.Invoke c (named_registers i.regs) m)) (λ m. never)
  fills (Family.IntBinary o) = int_fills o (reg i 0) (reg i 1) (machine.Reg (reg i 2))
  fills (Family.LongBinary o) = long_fills o (reg i 0) (reg i 1) (reg i 2)
  fills (Family.IntTwo o) = int_fills o (reg i 0) (reg i 0) (machine.Reg (reg i 1))
  fills (Family.LongTwo o) = long_fills o (reg i 0) (reg i 0) (reg i 1)
  fills (Family.IntLiteral o) = int_fills o (reg i 0) (reg i 1) (machine.Lit i.lit)
  fills f = never

  fills_by : (f : Option Family) → AllFill code (jump at i.off) (resolve_by image code at i f)
  fills_by None = tt
  fills_by (Some f) = fills f

-- ---- what is fetched

same_at : (x y : At) → (let o : Option At = Some x in o) ≡ Some y → x ≡ y
same_at x y e = cc (e)

fetched_fills : (image : Image) (code : Code) (at : ℕ) (x y : At) → IsFetched image code at y → fetch image code.method.id at ≡ Some x → is_fill x.op ≡ true → (to : ℕ) × Fills code to x.op
fetched_fills image code at x y f e s =
    let same = same_at y x (sym f.fetched ∙ e) in
    let op : op_of image code at f.insn ≡ Ok x.op = f.op ∙ ap (λ z. Ok z.op) same in
    let P : Resolved → Type 0 = λ r. AllFill code (jump at f.insn.off) r in
    (jump at f.insn.off, subst P op (fills_by image code at f.insn (family_at f.insn.op)) s)

data_by : (p : Option Payload) → 0 < width_in p → is_data p ≡ true
data_by (Some (payload.Data n bytes)) h = refl
data_by p h = absurd (omega arith)

some_width : (image : Image) (code : Code) (to : ℕ) (op : Op) → IsClean image code → Fills code to op → 0 < width_of op
some_width image code to op clean f =
    let same = ap tiles_in clean.tiled in
    let there = ap (λ ts. is_data (payload_at ts to)) same ∙ f.there in
    let width = ap (λ ts. width_in (payload_at ts to)) same ∙ f.same in
    omega (arith, sized code.body.units to there, width)

-- where a payload has the width of a fill-array-data that is fetched, it is one of data
pub data_there : (image : Image) (code : Code) (at : ℕ) (x : At) (to : ℕ) → IsClean image code → fetch image code.method.id at ≡ Some x → is_fill x.op ≡ true → width_of x.op ≡ width_in (payload_at code.tiles to) → is_data (payload_at code.tiles to) ≡ true
data_there image code at x to clean e s w =
    let begins = clean.only at x e in
    let (y, f) = clean.each at begins in
    let (k, fills) = fetched_fills image code at x y f e s in
    data_by (payload_at code.tiles to) (omega (arith, some_width image code k x.op clean fills, w))
