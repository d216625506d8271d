use Rattle.std.proofs.lemmas.Grind.{common_steps, take_at_read}
use Rattle.std.proofs.lemmas.Int.{to_z-of_z}
use Rattle.std.proofs.lemmas.List.Folds.{list_all_more}
use Rattle.std.proofs.Common.{◌≡◌, ◌+◌, ◌<◌, ◌&&◌, ℕ, ℤ, pos, true, List, [], ◌∷◌, ◌++◌, length, take, get_or, w32, sym, ◌∙◌, arith, rules}
use mir.Val.{SFits, to_z, of_z}
use Rattle.dv_defs.specs.Spelling.{fits_signed}
use Rattle.dv_defs.specs.Payloads.{all_fit_signed}
use Rattle.dv_asm.proofs.PayloadLemmas.{number_fits}
use Rattle.dv_asm.proofs.payloads.copied.Goals as goal

-- one more number
copied_more : (numbers old new : List ℤ) (i : ℕ) → i < length numbers → SFits w32 (get_or numbers i (pos 0)) → old ≡ take i numbers → all_fit_signed (take i numbers) ≡ true → new ≡ old ++ to_z w32 (of_z w32 (get_or numbers i (pos 0))) ∷ [] → (new ≡ take (i + 1) numbers) × (all_fit_signed (take (i + 1) numbers) ≡ true)
copied_more numbers old new i within inside same fitting pushed =
    let number = get_or numbers i (pos 0) in
    let fits : fits_signed 32 number ≡ true = number_fits number inside in (
      pushed ∙ ((λ j. same j ++ to_z-of_z w32 number inside j ∷ []) ∙ sym (take_at_read numbers i (pos 0) within).1),
      list_all_more (fits_signed 32) numbers i (pos 0) within ∙ (λ j. fitting j && fits j),
    )

pub loop-number-preserved : goal.loop-number-preserved
loop-number-preserved c =
    let numbers = c.args.numbers.now in
    let i = c.loop-number.number-index in
    let inside : SFits w32 (get_or numbers i (pos 0)) = search rules in
    copied_more numbers c.loop-number.copy.items c.push.new.self.items i c.loop-number-test.true inside c.loop-number.invariant.0 c.loop-number.invariant.1 c.in_ok-push.ensures.items

pub returns-in_err-push-clause-same : goal.returns-in_err-push-clause-same
returns-in_err-push-clause-same c = grind (arith, common_steps)

pub returns-in_err-push-clause-fitting : goal.returns-in_err-push-clause-fitting
returns-in_err-push-clause-fitting c = grind (arith, common_steps)

pub returns-clause-same : goal.returns-clause-same
returns-clause-same c = grind (arith, common_steps)

pub returns-clause-fitting : goal.returns-clause-fitting
returns-clause-fitting c = grind (arith, common_steps)
