-- What a constructor makes, where it puts a field of it, is an object of a class.
use Rattle.std.proofs.Common.{◌≡◌, ℕ, zero, suc, ◌∷◌, List, Option, Some, None, refl, sym, ◌∙◌, subst}
use Rattle.std.proofs.lemmas.Option.{same_Some}
use Rattle.dv_defs.specs.declared.machine.End.{End}
use Rattle.dv_defs.specs.declared.machine.End.TheVariants as end
use Rattle.dv_machine.specs.Level.{Level}
use Rattle.dv_machine.specs.Level as level
use Rattle.dv_machine.specs.Value.{Value}
use Rattle.dv_machine.specs.Value as v
use Rattle.dv_typing.specs.declared.typing.RegState.{RegState}
use Rattle.dv_typing.specs.declared.typing.RegType.{RegType}
use Rattle.dv_typing.specs.declared.typing.RegType.TheVariants as ty
use Rattle.dv_typing.specs.Demands.{demands, first, put_receiver, value_for}
use Rattle.dv_machine.specs.Heap.{Heap}
use Rattle.dv_defs.specs.Images.{Image}
use Rattle.dv_defs.specs.Op.{Op, FieldPut}
use Rattle.dv_defs.specs.Pools.{Field, Method}
use Rattle.dv_typing.specs.RegTypes.{type_at}
use Rattle.dv_typing.specs.Statics.{At}
use Rattle.dv_machine.specs.Accepted.{Accepted}
use Rattle.dv_machine.specs.Conforming.{Conforms, Own}
use Rattle.dv_machine.specs.State.{Machine, reg_at}
use Rattle.dv_machine.specs.WellTyped.{IsPlaced, ThreadFine, Typings, WellTyped, this_above}
use Rattle.law_words.specs.Laws.{PointsToObject, PutsInMade}
use Rattle.law_words.specs.StepLaws.{PutsAreMade}

first_none : (a b : Option _) → first a b ≡ None → a ≡ None
first_none None b e = refl
first_none (Some r) b e = absurd (cc)

module _ (image : Image) (heap : Heap) (own : Own) (m : Method) (regs : List Value) (s : RegState) (b : ℕ) (x : Field) where
  -- the demand on the receiver leaves out what nothing is known of
  by_type : (y : Value) (t : RegType) → type_at s.regs b ≡ t → Conforms image heap own y t → put_receiver image m s.regs b x t ≡ None → PointsToObject heap y
  by_type (v.UninitThis zero) t is c d = tt
  by_type (v.UninitThis (suc o)) ty.UninitThis is c d = (record { 0 = c.class }, c.has_kind)
  by_type (v.UninitThis (suc o)) ty.Conflict is c d = absurd (cc)
  by_type (v.UninitThis (suc o)) ty.Zero is c d = absurd c
  by_type (v.UninitThis (suc o)) ty.Int is c d = absurd c
  by_type (v.UninitThis (suc o)) ty.LongLo is c d = absurd c
  by_type (v.UninitThis (suc o)) ty.LongHi is c d = absurd c
  by_type (v.UninitThis (suc o)) (ty.Class a) is c d = absurd c
  by_type (v.UninitThis (suc o)) (ty.Uninit a) is c d = absurd c
  by_type y t is c d = tt

pub made_of : (image : Image) (heap : Heap) (own : Own) (m : Method) (regs : List Value) (s : RegState) (op : Op) → ((k : ℕ) → Conforms image heap own (reg_at regs k) (type_at s.regs k)) → demands image m op s ≡ None → PutsInMade heap regs op
made_of image heap own m regs s (FieldPut x a b f) conform d =
    by_type image heap own m regs s b f (reg_at regs b) (type_at s.regs b) refl (conform b)
    (first_none (put_receiver image m s.regs b f (type_at s.regs b)) (value_for image s.regs a f.def.ty) d)
made_of image heap own m regs s op conform d = tt

pub puts_are_made : (image : Image) (T : Typings) (m : Machine) → Accepted image T → WellTyped image T m → PutsAreMade image m
puts_are_made image T m acc typed t th f ls x has living levels found =
    let fine = typed.each t th has in
    let stack = placed th.end th.levels living levels fine in
    let e = acc.typed.each f.method.0 f.at stack.state stack.has_state in
    let same : e.1 ≡ x = same_Some e.1 x (sym e.3 ∙ found) in
    subst (λ (a : At). PutsInMade m.shared.heap f.regs a.op) same
    (made_of image m.shared.heap _ e.0.method f.regs stack.state e.1.op stack.conform.good.regs e.4.ok)
  where
    placed : (e : End) (l : List Level) → e ≡ end.Living → l ≡ level.Code f ∷ ls → ThreadFine image T m.shared.heap t l e → IsPlaced image T m.shared.heap (this_above image ls) f
    placed e l is_living is_code k =
        let k1 = subst (λ (z : End). ThreadFine image T m.shared.heap t l z) is_living k in
        let k2 = subst (λ (z : List Level). ThreadFine image T m.shared.heap t z end.Living) is_code k1 in
        k2.1.1
