-- What the opcode at which a frame goes on tells of the operation there.
use Rattle.std.proofs.Common.{◌≡◌, ◌∙◌, ◌%◌, ℕ, zero, suc, Bool, true, false, List, [], ◌∷◌, drop, Option, Some, None, Ok, Err, option_map, refl, sym, ap, subst}
use Rattle.std.specs.Prelude.{slice_get}
use Rattle.std.proofs.lemmas.Option.{same_Some}
use Rattle.dv_defs.specs.declared.code.Insn.{Insn}
use Rattle.dv_defs.specs.declared.code.Payload.{Payload}
use Rattle.dv_defs.specs.declared.code.Payload.TheVariants as payload
use Rattle.dv_defs.specs.Decoding.{insn_here}
use Rattle.dv_defs.specs.Families.{Family, family_at}
use Rattle.dv_defs.specs.Images.{Image}
use Rattle.dv_defs.specs.Numbers.{jump}
use Rattle.dv_defs.specs.Op.{Arg, Code, IntDivide, IntOp, LongDivide, LongOp, LongShift, Op, Resolved, code_at, fill_op, int_op, is_local, long_op, move_op, needs, on_pool, op_of, packed_op, resolve, resolve_by, resolved_field, result_op, sparse_op}
use Rattle.dv_defs.specs.Parts.{Bin, Width, is_division, is_shift}
use Rattle.dv_defs.specs.Pools.{Method, method_at}
use Rattle.dv_typing.specs.Statics as statics
use Rattle.dv_typing.specs.Statics.{fetch}
use Rattle.dv_defs.specs.Tiling.{payload_at}
use Rattle.dv_machine.specs.Replaying.{is_local_at}
use Rattle.dv_words.specs.declared.state.Frame.{Frame}
use Rattle.dv_words.specs.declared.state.Level.{Level}
use Rattle.dv_words.specs.declared.state.Level.TheVariants as level
use Rattle.dv_words.specs.Stacks.{first}
use Rattle.dv_words.specs.State.{WordMachine}
use Rattle.law_words.proofs.Fetching.{is_fetched, is_read}
use Rattle.dv_words.specs.Running.{blocked_at, blocked_needing}
use Rattle.law_engine.specs.KeepLaws.{is_local_level_of}
use Rattle.dv_fetch.proofs.Bodiless.{no_code}
use Rattle.dv_local.proofs.Opcodes.{opcode_read}
use Rattle.dv_fetch.specs.Opcodes.{opcode_at, opcode_in}
use Rattle.dv_core.specs.Opcodes.{may_hold_up}
use Rattle.dv_core.specs.Watching.{IsTopWatched}
use Rattle.dv_core.proofs.Waits.{HasCode, has_code}

-- ---- the opcode where an operation is fetched

-- it is the opcode of the instruction that is this operation
pub record HasOpcode (image : Image) (code : Option Code) (at : ℕ) (op : Op) : Type 0 where
  pub opcode : ℕ
  pub there : opcode_in code at ≡ Some opcode
  pub body : Code
  pub insn : Insn
  pub is : insn.op ≡ opcode
  pub resolved : op_of image body at insn ≡ Ok op

first_unit : (us : List ℕ) (at u : ℕ) (rest : List ℕ) → drop at us ≡ u ∷ rest → slice_get us at ≡ Some u
first_unit [] zero u rest e = absurd (cc e)
first_unit [] (suc at) u rest e = absurd (cc e)
first_unit (v ∷ us) zero u rest e = let same : v ≡ u = cc e in ap Some same
first_unit (v ∷ us) (suc at) u rest e = first_unit us at u rest e

module _ (image : Image) (n at : ℕ) (x : statics.At) (fetched : fetch image n at ≡ Some x) where
  opcode_read_there : (code : Code) (i : Insn) (size : ℕ) (us : List ℕ) → drop at code.body.units ≡ us → insn_here us ≡ Some (record { insn = i; size = size }) → op_of image code at i ≡ Ok x.op → HasOpcode image (Some code) at x.op
  opcode_read_there code i size [] e read resolved = absurd (cc read)
  opcode_read_there code i size (u ∷ us) e read resolved = record {
    opcode = u % 256;
    there = ap (option_map (λ v. v % 256)) (first_unit code.body.units at u us e);
    body = code;
    insn = i;
    is = opcode_read u us (record { insn = i; size = size }) read;
    resolved = resolved;
  }

  opcode_there : (code : Code) → code_at image n ≡ Some code → HasOpcode image (Some code) at x.op
  opcode_there code has =
      let there = is_read image code at x n has fetched in
      opcode_read_there code there.insn there.size (drop at code.body.units) refl there.read (is_fetched image code at there.insn there.size x n has fetched there.read).op

  pub opcode_fetched : HasOpcode image (code_at image n) at x.op
  opcode_fetched = by (code_at image n) refl
    where
      by : (c : Option Code) → code_at image n ≡ c → HasOpcode image c at x.op
      by None e = absurd (no_code image n at x e fetched)
      by (Some code) e = opcode_there code e

module _ (image : Image) (f : Frame) (has : HasCode image f) where
  abbrev pub opcode_here : HasOpcode image (code_at image f.method.0) f.at has.x.op
  opcode_here = opcode_fetched image f.method.0 f.at has.x has.fetched

  pub same_opcode : (k : ℕ) → Some k ≡ opcode_at image (Some (level.Code f)) → opcode_here.opcode ≡ k
  same_opcode k e = same_Some opcode_here.opcode k (sym (e ∙ opcode_here.there))

  pub some_opcode : None ≡ opcode_at image (Some (level.Code f)) → ⊥
  some_opcode e = absurd (let whole : None ≡ Some opcode_here.opcode = e ∙ opcode_here.there in cc whole)

-- ---- local ones

-- the operations of an opcode are local, or none of them
abbrev pub TellsLocal : ℕ → Bool → Type 0
TellsLocal k b = (image : Image) (code : Code) (at : ℕ) (insn : Insn) (op : Op) → insn.op ≡ k → op_of image code at insn ≡ Ok op → b ≡ is_local op

pub local_by_opcode : (image : Image) (ls : List Level) (k : ℕ) (b : Bool) → IsTopWatched image ls → Some k ≡ opcode_at image (first ls) → TellsLocal k b → b ≡ is_local_level_of image ls
local_by_opcode image [] k b w e tells = absurd (cc e)
local_by_opcode image (level.Init c r ∷ ls) k b w e tells = absurd (cc e)
local_by_opcode image (level.Code f ∷ ls) k b w e tells =
    let has = has_code image f w.stands in
    let here = opcode_here image f has in
    tells image here.body f.at here.insn has.x.op (here.is ∙ same_opcode image f has k e) here.resolved ∙ ap is_local_at (sym has.fetched)

pub no_opcode_local : (image : Image) (ls : List Level) → IsTopWatched image ls → None ≡ opcode_at image (first ls) → false ≡ is_local_level_of image ls
no_opcode_local image [] w e = refl
no_opcode_local image (level.Init c r ∷ ls) w e = refl
no_opcode_local image (level.Code f ∷ ls) w e = absurd (some_opcode image f (has_code image f w.stands) e)

-- ---- those that may hold up a thread

module _ (image : Image) (m : WordMachine) (t : ℕ) (f : Frame) where
  module _ (own : Method) where
    -- where there is an operation, it holds up no thread
    abbrev IsFree : Resolved → Type 0
    IsFree (Err broken) = Unit {0}
    IsFree (Ok op) = blocked_needing image m t own f op (needs op) ≡ None

    moved : (w : Width) (a b : ℕ) → IsFree (Ok (move_op w a b))
    moved Width.Narrow a b = refl
    moved Width.Wide a b = refl
    moved Width.Reference a b = refl

    resulted : (w : Width) (a : ℕ) → IsFree (Ok (result_op w a))
    resulted Width.Narrow a = refl
    resulted Width.Wide a = refl
    resulted Width.Reference a = refl

    calculated : (o : Bin) (a b : ℕ) (c : Arg) → IsFree (Ok (int_op o a b c))
    calculated o a b c = by (is_division o)
      where
        by : (d : Bool) → IsFree (Ok (elim d [ true ↦ IntDivide o a b c | false ↦ IntOp o a b c ]))
        by true = refl
        by false = refl

    calculated_long : (o : Bin) (a b c : ℕ) → IsFree (Ok (long_op o a b c))
    calculated_long o a b c = by (is_division o) (is_shift o)
      where
        by : (d e : Bool) → IsFree (Ok (elim d [ true ↦ LongDivide o a b c | false ↦ elim e [ true ↦ LongShift o a b c | false ↦ LongOp o a b c ] ]))
        by true e = refl
        by false true = refl
        by false false = refl

    pooled : {A : Type 0} (o : Option A) (go : A → Resolved) → ((x : A) → IsFree (go x)) → IsFree (on_pool o go)
    pooled None go each = tt
    pooled (Some x) go each = each x

    filled : (a : ℕ) (p : Option Payload) → IsFree (fill_op a p)
    filled a None = tt
    filled a (Some (payload.Packed k ts)) = tt
    filled a (Some (payload.Sparse ks ts)) = tt
    filled a (Some (payload.Data width bytes)) = refl

    packed : (at a : ℕ) (p : Option Payload) → IsFree (packed_op at a p)
    packed at a None = tt
    packed at a (Some (payload.Packed k ts)) = refl
    packed at a (Some (payload.Sparse ks ts)) = tt
    packed at a (Some (payload.Data width bytes)) = tt

    sparse : (at a : ℕ) (p : Option Payload) → IsFree (sparse_op at a p)
    sparse at a None = tt
    sparse at a (Some (payload.Packed k ts)) = tt
    sparse at a (Some (payload.Sparse ks ts)) = refl
    sparse at a (Some (payload.Data width bytes)) = tt

    module _ (code : Code) (at : ℕ) (i : Insn) where
      free_of : (g : Family) → may_hold_up (Some g) ≡ false → IsFree (resolve image code at i g)
      free_of Family.MonitorEnter e = absurd (cc e)
      free_of Family.NewInstance e = absurd (cc e)
      free_of (Family.StaticGet s) e = absurd (cc e)
      free_of (Family.StaticPut s) e = absurd (cc e)
      free_of (Family.Invoke c) e = absurd (cc e)
      free_of (Family.Move w) e = moved w _ _
      free_of (Family.MoveResult w) e = resulted w _
      free_of Family.ConstString e = pooled (slice_get code.body.strings i.index) _ (λ s. refl)
      free_of Family.ConstClass e = pooled (slice_get code.method.info.types i.index) _ (λ y. refl)
      free_of Family.CheckCast e = pooled (slice_get code.method.info.types i.index) _ (λ y. refl)
      free_of Family.InstanceOf e = pooled (slice_get code.method.info.types i.index) _ (λ y. refl)
      free_of Family.NewArray e = pooled (slice_get code.method.info.types i.index) _ (λ y. refl)
      free_of Family.FilledNewArray e = pooled (slice_get code.method.info.types i.index) _ (λ y. refl)
      free_of Family.FillArrayData e = filled _ (payload_at code.tiles (jump at i.off))
      free_of Family.PackedSwitch e = packed at _ (payload_at code.tiles (jump at i.off))
      free_of Family.SparseSwitch e = sparse at _ (payload_at code.tiles (jump at i.off))
      free_of (Family.FieldGet s) e = pooled (resolved_field image (slice_get code.method.info.fields i.index)) _ (λ x. refl)
      free_of (Family.FieldPut s) e = pooled (resolved_field image (slice_get code.method.info.fields i.index)) _ (λ x. refl)
      free_of (Family.IntBinary o) e = calculated o _ _ _
      free_of (Family.IntTwo o) e = calculated o _ _ _
      free_of (Family.IntLiteral o) e = calculated o _ _ _
      free_of (Family.LongBinary o) e = calculated_long o _ _ _
      free_of (Family.LongTwo o) e = calculated_long o _ _ _
      free_of g e = refl

      free_by : (g : Option Family) → may_hold_up g ≡ false → IsFree (resolve_by image code at i g)
      free_by None e = tt
      free_by (Some g) e = free_of g e

  -- an operation whose opcode holds up no thread
  pub holds_up_none : (k : ℕ) → HasCode image f → Some k ≡ opcode_at image (Some (level.Code f)) → may_hold_up (family_at k) ≡ false → None ≡ blocked_at image m t f (method_at image f.method.0) (fetch image f.method.0 f.at)
  holds_up_none k has e none =
      let here = opcode_here image f has in
      let family : may_hold_up (family_at here.insn.op) ≡ false = ap (λ o. may_hold_up (family_at o)) (here.is ∙ same_opcode image f has k e) ∙ none in
      sym ((λ j. blocked_at image m t f (has.method j) (has.fetched j)) ∙
      subst (IsFree has.own) here.resolved (free_by has.own here.body f.at here.insn (family_at here.insn.op) family))
