-- What an instruction makes of a state that fits, fits.
use Rattle.std.proofs.Common.{◌≡◌, ◌≤◌, ℕ, List, [], ◌∷◌, ◌++◌, Bool, true, false, Option, Some, None, sym, ◌∙◌, subst}
use Rattle.std.specs.Prelude.{map}
use Rattle.std.proofs.lemmas.Bool.{and_parts}
use Rattle.std.proofs.lemmas.Option.{same_Some}
use Rattle.dv_defs.specs.declared.names.Ty.{Ty}
use Rattle.dv_defs.specs.declared.faults.Rule.TheVariants as rule
use Rattle.dv_typing.specs.declared.typing.RegType.{RegType}
use Rattle.dv_typing.specs.declared.typing.RegType.TheVariants as ty
use Rattle.dv_typing.specs.declared.typing.PendingType.{PendingType}
use Rattle.dv_typing.specs.declared.typing.PendingType.TheVariants as pend
use Rattle.dv_typing.specs.declared.typing.RegState.{RegState}
use Rattle.dv_defs.specs.Images.{Image}
use Rattle.dv_defs.specs.Parts.{Suffix}
use Rattle.dv_defs.specs.Names.{string_name, class_name}
use Rattle.dv_defs.specs.Types.{is_array, is_reference, of_class}
use Rattle.dv_defs.specs.Pools.{Method, is_constructor, own_type, name_at}
use Rattle.dv_defs.specs.Tiling.{begins_insn}
use Rattle.dv_defs.specs.Op.{Op, MoveInt, MoveLong, MoveObject, ResultInt, ResultLong, ResultObject, TakeCaught, Const, ConstLong, IntUnary, LongUnary, IntToLong, LongToInt, IntOp, LongOp, LongShift, CompareLong, IntDivide, LongDivide, ConstString, ConstClass, Cast, InstanceOf, ArrayLength, New, NewArray, Filled, ArrayGet, FieldGet, StaticGet, Invoke, Code, op_of}
use Rattle.dv_typing.specs.Statics.{At, op_rules, resolved_rules, unless, is_filled_type, moves_on, registers_below, referred}
use Rattle.dv_typing.specs.RegTypes.{Types, type_at}
use Rattle.dv_typing.specs.Demands.{made_at}
use Rattle.dv_typing.specs.Transfer.{write_type, write_long, write_for, going, with_pending, copied_int, copied_object, const_type, result_int, result_ref, after_result_long, caught_type, replaced, replaced_this, lost, class_or_conflict, pending_of, after_constructor, first_of, after_invoke, object_element, after_get, out}
use Rattle.law_types.proofs.Demanded.{only_rule}
use Rattle.law_flow.specs.Clean.{IsFetched}
use Rattle.law_flow.specs.Fitting.{RegFits, PendingFits, StateFits, dims_met}
use Rattle.law_flow.specs.Laws.{TransferFits}
use Rattle.law_flow.proofs.OperandsMet.{OperandsMet, operands_met}
use Rattle.law_flow.proofs.Written.{AreFit, class_fits, array_refers, fits_at, write_fits, write_long_fits, write_for_fits, map_fits, replaced_fits, replaced_this_fits, lost_fits, copied_int_fits, copied_object_fits, const_fits, result_int_fits, result_ref_fits, result_long_fits, caught_fits, element_fits, pending_fits}

last_empty : {A : Type 0} (xs ys : List A) → xs ++ ys ≡ [] → ys ≡ []
last_empty [] ys e = e
last_empty (x ∷ xs) ys e = absurd (cc)

module _ (image : Image) (code : Code) where
  abbrev most : ℕ
  most = dims_met image code

  class_or_conflict_fits : (c : Option ℕ) → RegFits most code (class_or_conflict image c)
  class_or_conflict_fits None = tt
  class_or_conflict_fits (Some c) = class_fits most (name_at image c)

  -- ---- states

  regs_of : (s : RegState) → StateFits image code s → AreFit most code s.regs
  regs_of s h = record { count = h.count; each = h.regs }

  going_fits : (s : RegState) (ts : Types) → AreFit most code ts → StateFits image code (going s ts)
  going_fits s ts r = record { count = r.count; regs = r.each; result = tt; caught = tt }

  with_pending_fits : (s : RegState) (p : PendingType) → StateFits image code s → PendingFits most code p → StateFits image code (with_pending s p)
  with_pending_fits s p h f = record { count = h.count; regs = h.regs; result = f; caught = tt }

  constructor_fits : (m : Method) (s : RegState) (t : RegType) → StateFits image code s → StateFits image code (after_constructor image m s t)
  constructor_fits m s (ty.Uninit a) h =
      let x : RegType = class_or_conflict image (made_at image m a) in
      going_fits s (map (replaced a x) s.regs) (map_fits most code (replaced a x) s.regs (λ t f. replaced_fits most code a x t (class_or_conflict_fits (made_at image m a)) f) (regs_of s h))
  constructor_fits m s ty.UninitThis h =
      let x : RegType = ty.Class (own_type image m) in
      let r : AreFit most code (map (replaced_this x) s.regs) = map_fits most code (replaced_this x) s.regs (λ t f. replaced_this_fits most code x t (class_fits most (name_at image m.info.class.0)) f) (regs_of s h) in
      record { count = r.count; regs = r.each; result = tt; caught = tt }
  constructor_fits m s t h = going_fits s (map lost s.regs) (map_fits most code lost s.regs (λ u f. lost_fits most code u f) (regs_of s h))

  invoke_fits : (m : Method) (s : RegState) (ks : List ℕ) (g : Method) → StateFits image code s → ((t : Ty) → g.def.proto.ret ≡ Some t → t.dims ≤ most) → StateFits image code (after_invoke image m s ks g)
  invoke_fits m s ks g h l = by_sort (is_constructor g)
    where
      by_sort : (c : Bool) → StateFits image code (elim c as (λ w. RegState) [ true ↦ with_pending (after_constructor image m s (type_at s.regs (first_of ks))) (pending_of g.def.proto.ret) | false ↦ with_pending s (pending_of g.def.proto.ret) ])
      by_sort true = with_pending_fits (after_constructor image m s (type_at s.regs (first_of ks))) (pending_of g.def.proto.ret) (constructor_fits m s (type_at s.regs (first_of ks)) h) (pending_fits most code g.def.proto.ret l)
      by_sort false = with_pending_fits s (pending_of g.def.proto.ret) h (pending_fits most code g.def.proto.ret l)

  get_fits : (ts : Types) (a : ℕ) (x : Suffix) (t : RegType) → AreFit most code ts → RegFits most code t → AreFit most code (after_get ts a x t)
  get_fits ts a Suffix.Long t r f = write_long_fits most code ts a r
  get_fits ts a Suffix.Object t r f = write_fits most code ts a (object_element t) r (element_fits most code t f)
  get_fits ts a x t r f = write_fits most code ts a ty.Int r tt

  -- ---- each instruction

  module _ (s : RegState) (h : StateFits image code s) where
    regs : AreFit most code s.regs
    regs = regs_of s h

    at_fits : (k : ℕ) → RegFits most code (type_at s.regs k)
    at_fits k = fits_at most code s.regs k h.regs

    writes : (a : ℕ) (t : RegType) → RegFits most code t → StateFits image code (going s (write_type s.regs a t))
    writes a t f = going_fits s (write_type s.regs a t) (write_fits most code s.regs a t regs f)

    writes_long : (a : ℕ) → StateFits image code (going s (write_long s.regs a))
    writes_long a = going_fits s (write_long s.regs a) (write_long_fits most code s.regs a regs)

    writes_for : (a : ℕ) (t : Ty) → t.dims ≤ most → StateFits image code (going s (write_for s.regs a t))
    writes_for a t l = going_fits s (write_for s.regs a t) (write_for_fits most code s.regs a t regs l)

    writes_class : (a : ℕ) (name : List ℕ) → StateFits image code (going s (write_type s.regs a (ty.Class (of_class name))))
    writes_class a name = writes a (ty.Class (of_class name)) (class_fits most name)

    writes_type : (a : ℕ) (t : Ty) → is_reference t ≡ true → t.dims ≤ most → StateFits image code (going s (write_type s.regs a (ty.Class t)))
    writes_type a t r l = writes a (ty.Class t) (record { reference = r; dims = l })

    makes : (a at : ℕ) → begins_insn code.tiles at ≡ true → StateFits image code (going s (write_type (map (replaced at ty.Conflict) s.regs) a (ty.Uninit at)))
    makes a at b =
        going_fits s (write_type (map (replaced at ty.Conflict) s.regs) a (ty.Uninit at))
        (write_fits most code (map (replaced at ty.Conflict) s.regs) a (ty.Uninit at)
        (map_fits most code (replaced at ty.Conflict) s.regs (λ t f. replaced_fits most code at ty.Conflict t tt f) regs) b)

    filled : (t : Ty) → is_filled_type t ≡ true → t.dims ≤ most → StateFits image code (with_pending s (pend.One (ty.Class t)))
    filled t e l = with_pending_fits s (pend.One (ty.Class t)) h (record { reference = array_refers t (and_parts (is_array t) _ e).0; dims = l })

    out_fits : (m : Method) (at : ℕ) (t : Option Ty) (op : Op) → begins_insn code.tiles at ≡ true → op_rules image code t op ≡ [] → OperandsMet image code op → StateFits image code (out image m at op s)
    out_fits m at t (MoveInt a c) b r l = writes a (copied_int (type_at s.regs c)) (copied_int_fits most code (type_at s.regs c))
    out_fits m at t (MoveLong a c) b r l = writes_long a
    out_fits m at t (MoveObject a c) b r l = writes a (copied_object (type_at s.regs c)) (copied_object_fits most code (type_at s.regs c) (at_fits c))
    out_fits m at t (ResultInt a) b r l = writes a (result_int s.result) (result_int_fits most code s.result)
    out_fits m at t (ResultLong a) b r l = going_fits s (after_result_long s.regs a s.result) (result_long_fits most code s.regs a s.result regs)
    out_fits m at t (ResultObject a) b r l = writes a (result_ref s.result) (result_ref_fits most code s.result h.result)
    out_fits m at t (TakeCaught a) b r l = writes a (caught_type s.caught) (caught_fits most code s.caught h.caught)
    out_fits m at t (Const a n) b r l = writes a (const_type n) (const_fits most code n)
    out_fits m at t (ConstLong a n) b r l = writes_long a
    out_fits m at t (IntUnary o a c) b r l = writes a ty.Int tt
    out_fits m at t (LongUnary o a c) b r l = writes_long a
    out_fits m at t (IntToLong a c) b r l = writes_long a
    out_fits m at t (LongToInt a c) b r l = writes a ty.Int tt
    out_fits m at t (IntOp o a c d) b r l = writes a ty.Int tt
    out_fits m at t (LongOp o a c d) b r l = writes_long a
    out_fits m at t (LongShift o a c d) b r l = writes_long a
    out_fits m at t (CompareLong a c d) b r l = writes a ty.Int tt
    out_fits m at t (IntDivide o a c d) b r l = writes a ty.Int tt
    out_fits m at t (LongDivide o a c d) b r l = writes_long a
    out_fits m at t (ConstString a cs) b r l = writes_class a string_name
    out_fits m at t (ConstClass a f) b r l = writes_class a class_name
    out_fits m at t (Cast a f) b r l = writes_type a f (only_rule (is_reference f) (rule.S 16) r) l
    out_fits m at t (InstanceOf a c f) b r l = writes a ty.Int tt
    out_fits m at t (ArrayLength a c) b r l = writes a ty.Int tt
    out_fits m at t (New a c) b r l = makes a at b
    out_fits m at t (NewArray a c f) b r l = writes_type a f (array_refers f (only_rule (is_array f) (rule.S 16) r)) l
    out_fits m at t (Filled rs f) b r l = filled f (only_rule (is_filled_type f) (rule.S 16) r) l
    out_fits m at t (ArrayGet x a c d) b r l = going_fits s (after_get s.regs a x (type_at s.regs c)) (get_fits s.regs a x (type_at s.regs c) regs (at_fits c))
    out_fits m at t (FieldGet x a c f) b r l = writes_for a f.def.ty l
    out_fits m at t (StaticGet x a f) b r l = writes_for a f.def.ty l
    out_fits m at t (Invoke c ks g) b r l = invoke_fits m s ks g h l
    out_fits m at t op b r l = going_fits s s.regs regs

  -- ---- what is fetched breaks no rule

  rules_kept : (at : ℕ) (x : At) (f : IsFetched image code at x) → op_rules image code (referred code f.insn) x.op ≡ []
  rules_kept at x f = subst (λ r. resolved_rules image code (referred code f.insn) r ≡ []) f.op
      (last_empty (unless (moves_on f.insn) (rule.S 5) ++ unless (registers_below code.body.registers f.insn) (rule.S 11)) (resolved_rules image code (referred code f.insn) (op_of image code at f.insn)) f.keeps_rules)

  fetched_fits : (at : ℕ) (x : At) (s : RegState) → begins_insn code.tiles at ≡ true → IsFetched image code at x → StateFits image code s → StateFits image code (out image code.method at x.op s)
  fetched_fits at x s b f h = out_fits s h code.method at (referred code f.insn) x.op b (rules_kept at x f) (operands_met image code at f.insn x.op f.op)

pub transfer_fits : TransferFits
transfer_fits image code has clean at x e s h =
    let b : begins_insn code.tiles at ≡ true = clean.only at x e in
    let y : (y : At) × IsFetched image code at y = clean.each at b in
    let same : y.0 ≡ x = same_Some y.0 x (sym y.1.fetched ∙ e) in
    subst (λ (z : At). StateFits image code (out image code.method at z.op s)) same (fetched_fits image code at y.0 s b y.1 h)
