-- The states of a method are ordered, with least upper bounds of those that fit.
use Rattle.std.specs.Prelude.{IfSome}
use Rattle.std.proofs.Common.{◌≡◌, ℕ, true, Option, Some, None, refl, sym, ◌∙◌}
use Rattle.std.proofs.lemmas.List.Elements.{All-weaker}
use Rattle.dv_defs.specs.declared.names.Ty.{Ty}
use Rattle.dv_typing.specs.declared.typing.RegType.{RegType}
use Rattle.dv_typing.specs.declared.typing.RegType.TheVariants as ty
use Rattle.dv_typing.specs.declared.typing.RegState.{RegState}
use Rattle.dv_defs.specs.Images.{Image}
use Rattle.dv_defs.specs.Types.{is_reference}
use Rattle.dv_defs.specs.Op.{Code}
use Rattle.dv_typing.specs.Joins.{join_state}
use Rattle.law_types.specs.Laws.{IsStateOrder, refers, RefersRightly, IsJoin}
use Rattle.law_types.proofs.States.{states_are_ordered}
use Rattle.law_types.proofs.Joins.{join_is_least}
use Rattle.dv_types.proofs.Below.{below_from, below_to}
use Rattle.law_flow.specs.Fitting.{dims_met, TypeFits, RegFits, StateFits}
use Rattle.law_flow.proofs.JoinsFit.{joins_fit}
use Rattle.law_flow.proofs.StateRanks.{states_rise_in_rank}
use Rattle.dv_worklist.specs.Flow.{IsJoinOrder}
use Rattle.law_infer.specs.Flowing.{flow_of, fits_at, rank_of, IsReady}

-- ---- what fits refers rightly

type_refers : (most : ℕ) (code : Code) (t : RegType) → RegFits most code t → refers t ≡ true
type_refers most code (ty.Class t) f = f.reference
type_refers most code t f = refl

caught_refers : (most : ℕ) (c : Option Ty) → IfSome c (TypeFits most) → IfSome c (λ t. is_reference t ≡ true)
caught_refers most None f = tt
caught_refers most (Some t) f = f.reference

module _ (image : Image) (code : Code) (ready : IsReady image code) where
  state_refers : (s : RegState) → StateFits image code s → RefersRightly s
  state_refers s f = record {
    regs = All-weaker (RegFits (dims_met image code) code) (λ t. refers t ≡ true) (type_refers (dims_met image code) code) s.regs f.regs;
    caught = caught_refers (dims_met image code) s.caught f.caught;
  }

  join_is : (s t : RegState) → StateFits image code s → StateFits image code t → IsJoin image s t (join_state image s t)
  join_is s t f g = join_is_least image ready.hierarchy s t (state_refers s f) (state_refers t g) (f.count ∙ sym g.count)

  order : IsStateOrder image
  order = states_are_ordered image ready.hierarchy

  pub states_are_join_ordered : IsJoinOrder (flow_of image code) (fits_at image code) (rank_of image code)
  states_are_join_ordered = record {
    same = λ s. below_to image s s (order.same s);
    trans = λ s t u x y. below_to image s u (order.trans s t u (below_from image s t x) (below_from image t u y));
    first = λ place s t f g. below_to image s (join_state image s t) (join_is s t f.1 g.1).first;
    second = λ place s t f g. below_to image t (join_state image s t) (join_is s t f.1 g.1).second;
    lowest = λ place s t u f g x y. below_to image (join_state image s t) u ((join_is s t f.1 g.1).least u (below_from image s u x) (below_from image t u y));
    joined = λ place s t f g. (f.0, joins_fit image code s t f.1 g.1);
    near = λ place s t f g x. states_rise_in_rank image ready.hierarchy ready.object code s t f.1 g.1 (below_from image s t x);
  }
