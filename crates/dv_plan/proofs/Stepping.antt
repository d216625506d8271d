-- The steps of one address after another, by names that get more.
use Rattle.std.proofs.Common.{◌≡◌, ℕ, ◌+◌, ◌<◌, false, List, [], ◌∷◌, ◌++◌, Option, Some, None, refl, sym, ◌∙◌, subst, arith, inl, inr}
use Rattle.std.specs.Prelude.{slice_index_or}
use Rattle.std.proofs.lemmas.Bool.{cases_eq}
use Rattle.std.proofs.lemmas.List.{get_or_push, get_or_append_left, length_push}
use Rattle.std.proofs.lemmas.Option.{same_Some}
use Rattle.dv_defs.specs.Images.{Image}
use Rattle.dv_defs.specs.Op.{Code}
use Rattle.dv_defs.specs.Tiling.{begins_insn}
use Rattle.dv_typing.specs.Statics.{At, fetch}
use Rattle.law_flow.specs.Clean.{IsClean}
use Rattle.dv_bases.specs.Bases.{Names, IsWider}
use Rattle.dv_effects.specs.declared.effects.Step.{Step}
use Rattle.dv_effects.specs.Effects.{IsStep}
use Rattle.dv_effects.proofs.StepWider.{step_wider}
use Rattle.dv_plan.specs.Steps.{HasStepAt, AreStepsTo}

wider_at : (image : Image) (old new : Names) → IsWider old new → (code : Code) (at : ℕ) (o : Option Step) → HasStepAt image old code at o → HasStepAt image new code at o
wider_at image old new w code at o has x fetched =
    let h = has x fetched in
    (h.0, h.1, step_wider old new w code at x.op h.0 h.2)

pub all_wider : (image : Image) (old new : Names) → IsWider old new → (code : Code) (n : ℕ) (steps : List (Option Step)) → AreStepsTo image old code n steps → AreStepsTo image new code n steps
all_wider image old new w code n steps a =
    record { count = a.count; each = λ at h. wider_at image old new w code at (slice_index_or steps at None) (a.each at h) }

pub none_yet : (image : Image) (names : Names) (code : Code) → AreStepsTo image names code 0 []
none_yet image names code = record { count = refl; each = λ at h. absurd (omega (arith, h)) }

pub one_more : (image : Image) (old new : Names) → IsWider old new → (code : Code) (n : ℕ) (steps : List (Option Step)) (o : Option Step) → AreStepsTo image old code n steps → HasStepAt image new code n o → AreStepsTo image new code (n + 1) (steps ++ o ∷ [])
one_more image old new w code n steps o a has =
    let wide = all_wider image old new w code n steps a in
    record {
      count = length_push steps o ∙ omega (arith, a.count);
      each = λ at h.
          elim (cases_eq at n) [
            | inl same ↦
                subst (λ (k : ℕ). HasStepAt image new code k (slice_index_or (steps ++ o ∷ []) k None)) (sym same)
                (subst (λ (p : Option Step). HasStepAt image new code n p) (sym (get_or_push steps o None n a.count)) has)
            | inr other ↦
                let less : at < n = omega (arith, h, other) in
                subst (λ (p : Option Step). HasStepAt image new code at p) (sym (get_or_append_left steps (o ∷ []) None at (omega (arith, less, a.count)))) (wide.each at less)
          ];
    }

-- where no instruction begins nothing is fetched
pub none_there : (image : Image) (names : Names) (code : Code) (at : ℕ) → IsClean image code → begins_insn code.tiles at ≡ false → HasStepAt image names code at None
none_there image names code at clean none x fetched = absurd (let is = clean.only at x fetched in cc (is, none))

-- what is fetched is one
pub of_fetched : (image : Image) (names : Names) (code : Code) (at : ℕ) (x y : At) (step : Step) → fetch image code.method.id at ≡ Some x → fetch image code.method.id at ≡ Some y → IsStep names code at x.op step → IsStep names code at y.op step
of_fetched image names code at x y step fx fy is = subst (λ (z : At). IsStep names code at z.op step) (same_Some x y (sym fx ∙ fy)) is
