-- The faults of a typing, address by address, are those of the instructions.
use Rattle.std.proofs.Common.{◌≡◌, ◌≤◌, inl, inr, ℕ, zero, suc, List, [], ◌∷◌, ◌++◌, length, true, Option, Some, None, Ok, refl, sym, ap, ◌∙◌, subst, arith}
use Rattle.dv_defs.specs.declared.faults.Fault.{Fault}
use Rattle.dv_typing.specs.declared.typing.RegState.{RegState}
use Rattle.dv_defs.specs.Images.{Image}
use Rattle.dv_defs.specs.Tiling.{Tile, tiled, begins_insn}
use Rattle.dv_defs.specs.Op.{Code}
use Rattle.dv_typing.specs.Statics.{At, fetch}
use Rattle.dv_typing.specs.Flow.{Typing}
use Rattle.dv_typing.specs.Accepting.{demand_at, fault_at, typing_faults}
use Rattle.dv_worklist.specs.Flow.{assigned}
use Rattle.law_infer.specs.Laws.{faults_here, faults_from, FaultsAreByAddress}
use Rattle.law_infer.proofs.Tiles.{IsSplit, here_or_later, split, within}

module _ (image : Image) (code : Code) (typing : Typing) where
  -- ---- where no state stands

  -- from an address on, states stand at these tiles
  abbrev Stands : ℕ → List Tile → Type 0
  Stands at ts = (a : ℕ) (s : RegState) → at ≤ a → typing a ≡ Some s → begins_insn ts a ≡ true

  no_fault : (at : ℕ) (o : Option At) (p : Option RegState) → ((s : RegState) → p ≡ Some s → ⊥) → fault_at code.method.id at (demand_at image code o p) ≡ []
  no_fault at None None none = refl
  no_fault at (Some x) None none = refl
  no_fault at o (Some s) none = absurd (none s refl)

  no_fault_passing : (us : List ℕ) (at k : ℕ) (ts : List Tile) → tiled (suc at) k us ≡ Ok ts → Stands at ts → faults_here image code typing at ≡ []
  no_fault_passing us at k ts e stands =
      no_fault at (fetch image code.method.id at) (typing at)
      (λ s t. let w = (within us (suc at) k ts e at (stands at s (omega arith) t)).0 in omega (arith, w))

  -- ---- address by address

  stands_later : (at : ℕ) (us : List ℕ) (ts : List Tile) (p : IsSplit at us ts) → Stands at ts → Stands (suc at) p.rest
  stands_later at us ts p stands a s l t =
      elim (here_or_later p.tile p.rest a (subst (λ (z : List Tile). begins_insn z a ≡ true) p.is (stands a s (omega (arith, l)) t))) [
        | inl same ↦ absurd (let here = p.here in omega (arith, here, same, l))
        | inr later ↦ later
      ]

  pub by_address : (us : List ℕ) (at k : ℕ) (ts : List Tile) → tiled at k us ≡ Ok ts → Stands at ts → faults_from image code typing at (length us) ≡ typing_faults image code typing ts
  by_address [] at zero ts e stands =
      let none : [] ≡ ts = cc in
      ap (λ (z : List Tile). typing_faults image code typing z) none
  by_address [] at (suc k) ts e stands = absurd (cc)
  by_address (u ∷ us) at (suc k) ts e stands =
      ap (λ (z : List Fault). z ++ faults_from image code typing (suc at) (length us)) (no_fault_passing us at k ts e stands) ∙
      by_address us (suc at) k ts e (λ a s l t. stands a s (omega (arith, l)) t)
  by_address (u ∷ us) at zero ts e stands =
      let p : IsSplit at us ts = split at u us ts e in
      ap (λ (z : List Fault). faults_here image code typing at ++ z) (by_address us (suc at) p.passing p.rest p.later (stands_later at us ts p stands)) ∙
      (ap (λ (a : ℕ). faults_here image code typing a ++ typing_faults image code typing p.rest) (sym p.here) ∙
      ap (λ (z : List Tile). typing_faults image code typing z) (sym p.is))

pub faults_are_by_address : FaultsAreByAddress
faults_are_by_address image code ready xs fits =
    by_address image code (assigned xs) code.body.units 0 0 code.tiles ready.clean.tiled (λ a s l t. (fits a s t).0)
