-- The instructions on monitors by their families.
use Rattle.std.proofs.Common.{◌≡◌, ℕ, Bool, true, false, Option, Some, None, Ok, Err, refl, sym, ap, ◌∙◌}
use Rattle.std.specs.Prelude.{slice_get}
use Rattle.dv_defs.specs.declared.code.Insn.{Insn}
use Rattle.dv_defs.specs.declared.code.Payload.{Payload}
use Rattle.dv_defs.specs.declared.code.Payload.TheVariants as payload
use Rattle.dv_defs.specs.declared.names.Ty.{Ty}
use Rattle.dv_defs.specs.Families.{Family, family_at}
use Rattle.dv_defs.specs.Images.{Image}
use Rattle.dv_defs.specs.declared.faults.Rule.TheVariants as rule
use Rattle.dv_defs.specs.Op.{Op, Arg, Code, Enter, Exit, IntDivide, IntOp, LongDivide, LongShift, LongOp, New, Resolved, class_of_base, fill_op, int_op, long_op, move_op, new_op, on_pool, op_of, packed_op, reg, resolve, resolve_by, result_op, sparse_op}
use Rattle.dv_defs.specs.Parts.{Bin, Width, is_division, is_shift}
use Rattle.dv_defs.specs.Types.{is_array}
use Rattle.dv_threads.specs.Stepping.{is_enter_family, is_exit_family}

-- of a monitor, with its register
abbrev pub Monitor : Op → Bool
Monitor (Enter a) = true
Monitor (Exit a) = true
Monitor op = false

-- no such operation
abbrev pub NotOne : Resolved → Type 0
NotOne r = (op : Op) → Monitor op ≡ true → r ≡ Ok op → ⊥

made : (o : Op) → Monitor o ≡ false → NotOne (Ok o)
made o none op one e =
    let same : o ≡ op = cc in
    absurd (let both : Monitor o ≡ true = ap Monitor same ∙ one in let wrong : false ≡ true = sym none ∙ both in cc)

pooled : {A : Type 0} (o : Option A) (go : A → Resolved) → ((x : A) → NotOne (go x)) → NotOne (on_pool o go)
pooled None go none op one e = absurd (cc)
pooled (Some x) go none op one e = none x op one e

moves : (x : Width) (a b : ℕ) → Monitor (move_op x a b) ≡ false
moves Width.Narrow a b = refl
moves Width.Wide a b = refl
moves Width.Reference a b = refl

results : (x : Width) (a : ℕ) → Monitor (result_op x a) ≡ false
results Width.Narrow a = refl
results Width.Wide a = refl
results Width.Reference a = refl

ints : (o : Bin) (a b : ℕ) (c : Arg) → Monitor (int_op o a b c) ≡ false
ints o a b c = by (is_division o)
  where
    by : (d : Bool) → Monitor (elim d as (λ _. Op) [ true ↦ IntDivide o a b c | false ↦ IntOp o a b c ]) ≡ false
    by true = refl
    by false = refl

longs : (o : Bin) (a b c : ℕ) → Monitor (long_op o a b c) ≡ false
longs o a b c = by (is_division o) (is_shift o)
  where
    by : (d s : Bool) → Monitor (elim d as (λ _. Op) [ true ↦ LongDivide o a b c | false ↦ elim s as (λ _. Op) [ true ↦ LongShift o a b c | false ↦ LongOp o a b c ] ]) ≡ false
    by true s = refl
    by false true = refl
    by false false = refl

fills : (a : ℕ) (p : Option Payload) → NotOne (fill_op a p)
fills a (Some (payload.Data width bytes)) op one e = made _ refl op one e
fills a (Some (payload.Packed k ts)) op one e = absurd (cc)
fills a (Some (payload.Sparse ks ts)) op one e = absurd (cc)
fills a None op one e = absurd (cc)

packs : (at a : ℕ) (p : Option Payload) → NotOne (packed_op at a p)
packs at a (Some (payload.Packed k ts)) op one e = made _ refl op one e
packs at a (Some (payload.Data width bytes)) op one e = absurd (cc)
packs at a (Some (payload.Sparse ks ts)) op one e = absurd (cc)
packs at a None op one e = absurd (cc)

sparses : (at a : ℕ) (p : Option Payload) → NotOne (sparse_op at a p)
sparses at a (Some (payload.Sparse ks ts)) op one e = made _ refl op one e
sparses at a (Some (payload.Data width bytes)) op one e = absurd (cc)
sparses at a (Some (payload.Packed k ts)) op one e = absurd (cc)
sparses at a None op one e = absurd (cc)

news : (image : Image) (a : ℕ) (t : Ty) → NotOne (new_op image a t)
news image a t = by (is_array t) (class_of_base image t.base)
  where
    by : (b : Bool) (c : Option ℕ) → NotOne (elim b as (λ _. Resolved) [ true ↦ Err (rule.S 16) | false ↦ elim c as (λ _. Resolved) [ None ↦ Err (rule.S 16) | Some n ↦ Ok (New a n) ] ])
    by true c op one e = absurd (cc)
    by false None op one e = absurd (cc)
    by false (Some n) op one e = made _ refl op one e

module _ (image : Image) (code : Code) (at : ℕ) (i : Insn) where
  abbrev Others : Family → Type 0
  Others f = (is_enter_family (Some f) ≡ false) × (is_exit_family (Some f) ≡ false)

  plain : (f : Family) → Others f → NotOne (resolve image code at i f)
  plain Family.MonitorEnter none op one e = absurd (let n = none.0 in cc)
  plain Family.MonitorExit none op one e = absurd (let n = none.1 in cc)
  plain (Family.Move x) none op one e = made _ (moves x (reg i 0) (reg i 1)) op one e
  plain (Family.MoveResult x) none op one e = made _ (results x (reg i 0)) op one e
  plain Family.ConstString none op one e = pooled _ _ (λ x. made _ refl) op one e
  plain Family.ConstClass none op one e = pooled _ _ (λ x. made _ refl) op one e
  plain Family.CheckCast none op one e = pooled _ _ (λ x. made _ refl) op one e
  plain Family.InstanceOf none op one e = pooled _ _ (λ x. made _ refl) op one e
  plain Family.NewInstance none op one e = pooled (slice_get code.method.info.types i.index) (new_op image (reg i 0)) (λ t. news image (reg i 0) t) op one e
  plain Family.NewArray none op one e = pooled _ _ (λ x. made _ refl) op one e
  plain Family.FilledNewArray none op one e = pooled _ _ (λ x. made _ refl) op one e
  plain Family.FillArrayData none op one e = fills _ _ op one e
  plain Family.PackedSwitch none op one e = packs _ _ _ op one e
  plain Family.SparseSwitch none op one e = sparses _ _ _ op one e
  plain (Family.FieldGet s) none op one e = pooled _ _ (λ x. made _ refl) op one e
  plain (Family.FieldPut s) none op one e = pooled _ _ (λ x. made _ refl) op one e
  plain (Family.StaticGet s) none op one e = pooled _ _ (λ x. made _ refl) op one e
  plain (Family.StaticPut s) none op one e = pooled _ _ (λ x. made _ refl) op one e
  plain (Family.Invoke c) none op one e = pooled _ _ (λ x. made _ refl) op one e
  plain (Family.IntBinary o) none op one e = made _ (ints o _ _ _) op one e
  plain (Family.LongBinary o) none op one e = made _ (longs o _ _ _) op one e
  plain (Family.IntTwo o) none op one e = made _ (ints o _ _ _) op one e
  plain (Family.LongTwo o) none op one e = made _ (longs o _ _ _) op one e
  plain (Family.IntLiteral o) none op one e = made _ (ints o _ _ _) op one e
  plain f none op one e = made _ refl op one e

  -- an enter and an exit are of their own families, and name their first register
  pub record IsEnter (f : Option Family) (a : ℕ) : Type 0 where
    pub enter : is_enter_family f ≡ true
    pub register : a ≡ reg i 0

  pub record IsExit (f : Option Family) (a : ℕ) : Type 0 where
    pub enter : is_enter_family f ≡ false
    pub exit : is_exit_family f ≡ true
    pub register : a ≡ reg i 0

  enters_by : (a : ℕ) (f : Family) (b d : Bool) → is_enter_family (Some f) ≡ b → is_exit_family (Some f) ≡ d → resolve image code at i f ≡ Ok (Enter a) → IsEnter (Some f) a
  enters_by a f false false n m e = absurd (plain f (n, m) (Enter a) refl e)
  enters_by a Family.MonitorEnter b d n m e = record { enter = refl; register = (let same : Enter (reg i 0) ≡ Enter a = cc in cc) }
  enters_by a Family.MonitorExit b d n m e = absurd (cc)
  enters_by a f true d n m e = absurd (cc)
  enters_by a f false true n m e = absurd (cc)

  exits_by : (a : ℕ) (f : Family) (b d : Bool) → is_enter_family (Some f) ≡ b → is_exit_family (Some f) ≡ d → resolve image code at i f ≡ Ok (Exit a) → IsExit (Some f) a
  exits_by a f false false n m e = absurd (plain f (n, m) (Exit a) refl e)
  exits_by a Family.MonitorEnter b d n m e = absurd (cc)
  exits_by a Family.MonitorExit b d n m e = record { enter = refl; exit = refl; register = (let same : Exit (reg i 0) ≡ Exit a = cc in cc) }
  exits_by a f true d n m e = absurd (cc)
  exits_by a f false true n m e = absurd (cc)

  by_enter : (a : ℕ) (o : Option Family) → resolve_by image code at i o ≡ Ok (Enter a) → IsEnter o a
  by_enter a None e = absurd (cc)
  by_enter a (Some f) e = enters_by a f (is_enter_family (Some f)) (is_exit_family (Some f)) refl refl e

  by_exit : (a : ℕ) (o : Option Family) → resolve_by image code at i o ≡ Ok (Exit a) → IsExit o a
  by_exit a None e = absurd (cc)
  by_exit a (Some f) e = exits_by a f (is_enter_family (Some f)) (is_exit_family (Some f)) refl refl e

  pub enter_is : (a : ℕ) → op_of image code at i ≡ Ok (Enter a) → IsEnter (family_at i.op) a
  enter_is a e = by_enter a (family_at i.op) e

  pub exit_is : (a : ℕ) → op_of image code at i ≡ Ok (Exit a) → IsExit (family_at i.op) a
  exit_is a e = by_exit a (family_at i.op) e
