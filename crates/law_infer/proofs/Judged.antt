-- A least assignment without faults is a typing, and where it has one there is no typing.
use Rattle.std.proofs.Common.{◌≡◌, inl, inr, ℕ, List, [], ◌∷◌, ◌++◌, true, Option, Some, None, refl, ap, ◌∙◌, subst}
use Rattle.dv_defs.specs.declared.faults.Fault.{Fault}
use Rattle.dv_typing.specs.declared.typing.RegState.{RegState}
use Rattle.dv_defs.specs.Images.{Image}
use Rattle.dv_defs.specs.Tiling.{Tile, begins_insn}
use Rattle.dv_defs.specs.Op.{Code}
use Rattle.dv_typing.specs.Statics.{At, fetch}
use Rattle.dv_typing.specs.Demands.{Demand, ok}
use Rattle.dv_typing.specs.Flow.{Typing, IsTyping, IsUnderAt}
use Rattle.dv_typing.specs.Accepting.{demand_at, fault_at, typing_faults}
use Rattle.law_types.proofs.Satisfied.{demand_is_antitone}
use Rattle.law_flow.proofs.NoPlaces.{none_left, none_right}
use Rattle.law_infer.specs.Flowing.{IsReady}
use Rattle.law_infer.specs.Laws.{faults_here, NoFaultsGiveTypings, FaultsRefuseTypings}
use Rattle.law_infer.proofs.Tiles.{here_or_later}

no_demand : (n at : ℕ) (d : Demand) → fault_at n at d ≡ [] → d ≡ None
no_demand n at None e = refl
no_demand n at (Some r) e = absurd (cc)

module _ (image : Image) (code : Code) (typing : Typing) where
  -- ---- no faults

  -- there is none at each instruction
  none_here : (ts : List Tile) → typing_faults image code typing ts ≡ [] → (at : ℕ) → begins_insn ts at ≡ true → faults_here image code typing at ≡ []
  none_here [] e at b = absurd (cc)
  none_here (t ∷ ts) e at b = elim (here_or_later t ts at b) [
    | inl same ↦ subst (λ (a : ℕ). faults_here image code typing a ≡ []) same (none_left (faults_here image code typing t.at) (typing_faults image code typing ts) e)
    | inr later ↦ none_here ts (none_right (faults_here image code typing t.at) (typing_faults image code typing ts) e) at later
  ]

  pub satisfied : IsReady image code → typing_faults image code typing code.tiles ≡ [] → (at : ℕ) (s : RegState) (x : At) → typing at ≡ Some s → fetch image code.method.id at ≡ Some x → ok image code.method x s ≡ None
  satisfied ready e at s x t f =
      let none : demand_at image code (fetch image code.method.id at) (typing at) ≡ None =
      no_demand code.method.id at (demand_at image code (fetch image code.method.id at) (typing at)) (none_here code.tiles e at (ready.clean.only at x f)) in
      let here : demand_at image code (Some x) (typing at) ≡ None = subst (λ (o : Option At). demand_at image code o (typing at) ≡ None) f none in
      subst (λ (p : Option RegState). demand_at image code (Some x) p ≡ None) t here

  -- ---- a typing above leaves none

  module _ (ready : IsReady image code) (other : Typing) (good : IsTyping image code other) where
    -- what is satisfied with the state above is satisfied
    satisfied_under : (at : ℕ) (x : At) (s : RegState) (p : Option RegState) → fetch image code.method.id at ≡ Some x → other at ≡ p → IsUnderAt image (Some s) p → ok image code.method x s ≡ None
    satisfied_under at x s None f o u = absurd u
    satisfied_under at x s (Some t) f o u = demand_is_antitone image ready.hierarchy code.method x s t u (good.good at t x o f)

    none_at : (at : ℕ) (o : Option At) (p : Option RegState) → fetch image code.method.id at ≡ o → IsUnderAt image p (other at) → fault_at code.method.id at (demand_at image code o p) ≡ []
    none_at at (Some x) (Some s) f u = ap (λ (d : Demand). fault_at code.method.id at d) (satisfied_under at x s (other at) f refl u)
    none_at at (Some x) None f u = refl
    none_at at None (Some s) f u = refl
    none_at at None None f u = refl

    pub none_under : ((at : ℕ) → IsUnderAt image (typing at) (other at)) → (ts : List Tile) → typing_faults image code typing ts ≡ []
    none_under under [] = refl
    none_under under (t ∷ ts) =
        ap (λ (z : List Fault). z ++ typing_faults image code typing ts) (none_at t.at (fetch image code.method.id t.at) (typing t.at) refl (under t.at)) ∙
        none_under under ts

pub no_faults_give_typings : NoFaultsGiveTypings
no_faults_give_typings image code ready typing least e = record { closed = least.closed; good = satisfied image code typing ready e }

pub faults_refuse_typings : FaultsRefuseTypings
faults_refuse_typings image code ready typing least faults other good =
    faults (none_under image code typing ready other good (least.least other good.closed) code.tiles)
