use Rattle.std.proofs.Common.{◌≡◌, ℕ, List, Bool, true, sym, ◌∙◌, subst}
use Rattle.std.specs.Prelude.{All, nat_lt}
use Rattle.std.proofs.lemmas.Bool.{lt-ltb}
use Rattle.law_gather.specs.Gathered.{addresses}
use Rattle.law_levels.specs.Levels.{IsBounded}
use Rattle.dv_ops.specs.Meaning.{code_of}
use Rattle.dv_levels.specs.Takes.{IsLevel, Takes}
use Rattle.dv_levels.proofs.Leading.{entry_bounded, targets_bounded, kept_takes, taken_takes}
use Rattle.dv_levels.proofs.search.from_instruction.Goals.{then-keeps+in_ok-to_targets, else-keeps}
use Rattle.dv_levels.proofs.search.from_instruction.Goals as goal

pub returns-in-Some-taken : goal.returns-in-Some-taken
returns-in-Some-taken c = λ first own bounded all.
    let names = c.args.bases.now in
    let code = code_of c.args.code.now in
    let plan = c.args.plan.now in
    let level = c.args.level in
    let ways = c.in-Some.ways.now in
    let step = c.in-Some-step_at.step in
    let inside = c.requires.inside in
    let lt : nat_lt level.place (addresses code) ≡ true = lt-ltb level.place (addresses code) inside in
    let entered = c.in_ok-to_entry.ensures names.image first own (entry_bounded names code plan c.requires.plan first own level.place ways inside lt c.in-Some.ensures level.register level.fewer bounded) all in
    let onwards = λ (r : ℕ) (less : Bool) (takes : Takes step.effect level.register level.fewer r less).
    subst (λ (tos : List ℕ). All (λ to. IsBounded names.image code first own to r less) tos) (sym c.items-targets.ensures)
    (targets_bounded names code plan c.requires.plan first own level.place ways step inside lt c.in-Some.ensures c.in-Some-step_at.ensures level.register level.fewer r less takes bounded) in
    let kept : All (IsLevel names.image code first own) c.if-keeps.open.items = elim c.if-keeps.branch [
      | then-keeps+in_ok-to_targets w ↦
          rw w.open-is (w.in_ok-to_targets.ensures names.image code first own
          (onwards level.register level.fewer (kept_takes step.effect level.register level.fewer (sym c.keeps.ensures ∙ w.if-keeps.true))) entered)
      | else-keeps w ↦ rw w.open-is entered
    ] in
    let register = c.in-Some-taken.register in
    let fewer = c.in-Some-taken.fewer in
    c.to_targets-in-Some-taken.ensures names.image code first own
    (onwards register fewer (taken_takes step.effect level.register level.fewer register fewer (sym c.taken.ensures ∙ c.in-Some-taken.is))) kept

pub returns-in-None : goal.returns-in-None
returns-in-None c = λ first own bounded all.
    let names = c.args.bases.now in
    let code = code_of c.args.code.now in
    let plan = c.args.plan.now in
    let level = c.args.level in
    let ways = c.in-Some.ways.now in
    let step = c.in-Some-step_at.step in
    let inside = c.requires.inside in
    let lt : nat_lt level.place (addresses code) ≡ true = lt-ltb level.place (addresses code) inside in
    let entered = c.in_ok-to_entry.ensures names.image first own (entry_bounded names code plan c.requires.plan first own level.place ways inside lt c.in-Some.ensures level.register level.fewer bounded) all in
    let onwards = λ (r : ℕ) (less : Bool) (takes : Takes step.effect level.register level.fewer r less).
    subst (λ (tos : List ℕ). All (λ to. IsBounded names.image code first own to r less) tos) (sym c.items-targets.ensures)
    (targets_bounded names code plan c.requires.plan first own level.place ways step inside lt c.in-Some.ensures c.in-Some-step_at.ensures level.register level.fewer r less takes bounded) in
    let kept : All (IsLevel names.image code first own) c.if-keeps.open.items = elim c.if-keeps.branch [
      | then-keeps+in_ok-to_targets w ↦
          rw w.open-is (w.in_ok-to_targets.ensures names.image code first own
          (onwards level.register level.fewer (kept_takes step.effect level.register level.fewer (sym c.keeps.ensures ∙ w.if-keeps.true))) entered)
      | else-keeps w ↦ rw w.open-is entered
    ] in
    kept
