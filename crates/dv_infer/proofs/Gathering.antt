-- What goes on from a place, and what fits there, by whether it is an instruction's.
use Rattle.std.proofs.Common.{◌≡◌, ◌<◌, ◌≤◌, ◌-◌, ℕ, Bool, true, false, List, map, sym, ap, ◌∙◌, subst, arith}
use Rattle.std.specs.Prelude.{nat_lt, slice_get}
use Rattle.dv_worklist.specs.Flow.{Onward}
use Rattle.dv_worklist.specs.Beside.{onward_kept}
use Rattle.dv_typing.specs.declared.typing.RegState.{RegState}
use Rattle.dv_defs.specs.Images.{Image}
use Rattle.dv_defs.specs.Op.{Code}
use Rattle.law_infer.specs.Flowing.{fits_at}
use Rattle.law_blocks.specs.Blocks.{Before, onward_blocks, onward_through}
use Rattle.law_gather.specs.Gathered.{addresses, catchers_of, fits_by, fits_gathered, onward_caught}
use Rattle.dv_bases.specs.Bases.{Names}

pub less : (a b : ℕ) → a < b → nat_lt a b ≡ true
less a b h = grind (arith, h)

not_less : (a b : ℕ) → b ≤ a → nat_lt a b ≡ false
not_less a b h = grind (arith, h)

pub fits_here : (image : Image) (code : Code) (place : ℕ) (s t : RegState) → place < addresses code → t ≡ s → fits_gathered image code place s → fits_at image code place t
fits_here image code place s t within same fits =
    subst (λ (u : RegState). fits_at image code place u) (sym same) (subst (fits_by image code place s) (less place (addresses code) within) fits)

abbrev onward_if : Image → Code → Before → ℕ → RegState → Bool → List (Onward RegState)
onward_if image code before place s inside =
    elim inside [
      | true ↦ onward_through image code before (addresses code) place s
      | false ↦ onward_caught s (catchers_of code.body (slice_get code.body.tries (place - addresses code)))
    ]

module _ (names beside : Names) (code : Code) (before : Before) (place : ℕ) (s t : RegState) (kept : names ≡ beside) (same : t ≡ s) where
  pub from_insn : place < addresses code → map (onward_kept names) (onward_through names.image code before (addresses code) place t) ≡ map (onward_kept beside) (onward_blocks names.image code before place s)
  from_insn within =
      (λ i. map (onward_kept (kept i)) (onward_through names.image code before (addresses code) place (same i))) ∙
      ap (λ b. map (onward_kept beside) (onward_if names.image code before place s b)) (sym (less place (addresses code) within))

  pub from_entry : addresses code ≤ place → map (onward_kept names) (onward_caught t (catchers_of code.body (slice_get code.body.tries (place - addresses code)))) ≡ map (onward_kept beside) (onward_blocks names.image code before place s)
  from_entry past =
      (λ i. map (onward_kept (kept i)) (onward_caught (same i) (catchers_of code.body (slice_get code.body.tries (place - addresses code))))) ∙
      ap (λ b. map (onward_kept beside) (onward_if names.image code before place s b)) (sym (not_less place (addresses code) past))
