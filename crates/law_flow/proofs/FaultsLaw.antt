-- There is one list of faults at most: two least assignments are one.
use Rattle.std.specs.Prelude.{◌≡◌, ℕ, suc, List, [], ◌∷◌, ◌++◌, Option, Some, None}
use Rattle.std.proofs.Common.{refl, sym, ap, ◌∙◌}
use Rattle.dv_defs.specs.declared.faults.Fault.{Fault}
use Rattle.dv_defs.specs.Images.{Image}
use Rattle.dv_defs.specs.declared.image.MethodInfo.{MethodInfo}
use Rattle.dv_typing.specs.declared.typing.RegState.{RegState}
use Rattle.dv_defs.specs.Tiling.{Tile}
use Rattle.dv_defs.specs.Op.{Code, code_at}
use Rattle.dv_typing.specs.Statics.{fetch}
use Rattle.dv_typing.specs.Flow.{Typing, IsUnderAt, IsLeast}
use Rattle.dv_typing.specs.Accepting.{Place, static_places, demand_at, fault_at, typing_faults, FaultsBy, AreFaults, FaultsOf, AreFaultsFrom}
use Rattle.law_types.specs.Hierarchy.{IsHierarchy}
use Rattle.law_flow.specs.Laws.{FaultsAreOne, ImageFaultsAreOne}
use Rattle.law_flow.proofs.StatesLaw.{states_are_antisymmetric}

module _ (image : Image) (h : IsHierarchy image) where
  one_at : (s t : Option RegState) → IsUnderAt image s t → IsUnderAt image t s → s ≡ t
  one_at None None x y = refl
  one_at (Some s) (Some t) x y = ap Some (states_are_antisymmetric image h s t x y)
  one_at None (Some t) x y = absurd y
  one_at (Some s) None x y = absurd x

  -- two least assignments have one state at each address
  one_least : (code : Code) (a b : Typing) → IsLeast image code a → IsLeast image code b → (at : ℕ) → a at ≡ b at
  one_least code a b x y at = one_at (a at) (b at) (x.least b y.closed at) (y.least a x.closed at)

  one_by_typings : (code : Code) (a b : Typing) → ((at : ℕ) → a at ≡ b at) → (ts : List Tile) → typing_faults image code a ts ≡ typing_faults image code b ts
  one_by_typings code a b same [] = refl
  one_by_typings code a b same (t ∷ ts) =
      λ i. fault_at code.method.id t.at (demand_at image code (fetch image code.method.id t.at) (same t.at i)) ++ one_by_typings code a b same ts i

  one_by_places : (code : Code) (ps : List Place) (fs gs : List Fault) → FaultsBy image code ps fs → FaultsBy image code ps gs → fs ≡ gs
  one_by_places code (p ∷ ps) fs gs x y = x ∙ sym y
  one_by_places code [] fs gs x y =
      x.2 ∙ (one_by_typings code x.0 y.0 (one_least code x.0 y.0 x.1 y.1) code.tiles ∙ sym y.2)

  one_method : (code : Code) (fs gs : List Fault) → AreFaults image code fs → AreFaults image code gs → fs ≡ gs
  one_method code fs gs x y = one_by_places code (static_places image code) fs gs x y

  one_own : (o : Option Code) (fs gs : List Fault) → FaultsOf image o fs → FaultsOf image o gs → fs ≡ gs
  one_own None fs gs x y = x ∙ sym y
  one_own (Some code) fs gs x y = one_method code fs gs x y

  one_from : (is : List MethodInfo) (n : ℕ) (fs gs : List Fault) → AreFaultsFrom image is n fs → AreFaultsFrom image is n gs → fs ≡ gs
  one_from [] n fs gs x y = x ∙ sym y
  one_from (i ∷ is) n fs gs x y =
      let own : x.0 ≡ y.0 = one_own (code_at image n) x.0 y.0 x.2 y.2 in
      let rest : x.1 ≡ y.1 = one_from is (suc n) x.1 y.1 x.3 y.3 in
      x.4 ∙ ((λ j. own j ++ rest j) ∙ sym y.4)

pub faults_are_one : FaultsAreOne
faults_are_one image h code fs gs x y = one_method image h code fs gs x y

pub image_faults_are_one : ImageFaultsAreOne
image_faults_are_one image h fs gs x y = one_from image h image.methods 0 fs gs x y
