use Rattle.std.proofs.Common.{◌≡◌, ◌≢◌, [], length, sym, ◌∙◌, subst, ap, rules, arith, vec_len}
use Rattle.std.proofs.lemmas.Bool.{eqb-true}
use Rattle.dv_worklist.specs.Beside.{alone}
use Rattle.dv_worklist.specs.Flow.{AllFit, assigned}
use Rattle.law_infer.specs.Flowing.{fits_at}
use Rattle.law_infer.specs.Laws.{faults_from}
use Rattle.dv_ops.specs.Meaning.{code_of}
use Rattle.dv_infer.specs.Judged.{IsJudged, AreJudged}
use Rattle.dv_infer.proofs.Finding.{is_judged, are_judged}
use Rattle.dv_infer.proofs.Telling.{none_of}
use Rattle.dv_infer.proofs.method.judge_rows.Goals as goal

pub typing_faults-requires-clause-fit : goal.typing_faults-requires-clause-fit
typing_faults-requires-clause-fit c =
    subst (λ xs. AllFit (fits_at c.args.image.now (code_of c.args.code.now)) (assigned (alone xs))) (sym c.deref.ensures.value) c.requires.fit

pub returns-in_ok-states_of-clause-typing : goal.returns-in_ok-states_of-clause-typing
returns-in_ok-states_of-clause-typing c =
    let image = c.args.image.now in
    let code = code_of c.args.code.now in
    let rows = c.args.rows.items in
    let told = c.in_ok-faults.ensures ∙ ap (λ xs. faults_from image code (assigned (alone xs)) 0 (length code.body.units)) c.deref.ensures.value in
    let none : c.in_ok-faults.faults.items ≡ [] = none_of c.in_ok-faults.faults.items (let e = eqb-true (vec_len c.in_ok-faults.faults) 0 (sym c.is_empty.ensures ∙ c.if-is_empty.true) in omega (arith, c.in_ok-faults.faults.ok.0, e)) in
    subst (λ xs. IsJudged image code (record { states = xs })) (sym (c.of.ensures ∙ c.in_ok-states_of.ensures))
    (is_judged image code c.requires.ready (alone rows) c.requires.fit c.requires.least c.in_ok-faults.faults.items told none)

pub returns-else-is_empty-clause-faults : goal.returns-else-is_empty-clause-faults
returns-else-is_empty-clause-faults c =
    let image = c.args.image.now in
    let code = code_of c.args.code.now in
    let rows = c.args.rows.items in
    let told = c.in_ok-faults.ensures ∙ ap (λ xs. faults_from image code (assigned (alone xs)) 0 (length code.body.units)) c.deref.ensures.value in
    let some : c.in_ok-faults.faults.items ≢ [] = search rules in
    subst (AreJudged image code) (sym c.of-else-is_empty.ensures)
    (are_judged image code c.requires.ready (alone rows) c.requires.fit c.requires.least c.in_ok-faults.faults.items told some)
