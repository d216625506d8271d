use Rattle.std.proofs.Common.{◌≡◌, ◌<◌, ◌≤◌, ◌-◌, List, [], All, map, sym, ap, ◌∙◌, subst, arith, length}
use Rattle.std.specs.Prelude.{slice_get, slice_index_or}
use Rattle.std.proofs.lemmas.Result.{IfOk-weaker}
use Rattle.dv_worklist.specs.Beside.{onward_kept}
use Rattle.dv_ops.specs.Meaning.{code_of}
use Rattle.dv_rules.specs.Edges.{handler_edge}
use Rattle.dv_bases.specs.Bases.{Names, IsNumbered}
use Rattle.dv_bases.specs.States.{state_of}
use Rattle.law_blocks.specs.Blocks.{onward_blocks, onward_through}
use Rattle.dv_plan.specs.Marks.{before_by}
use Rattle.law_gather.specs.Gathered.{addresses, catchers_of}
use Rattle.dv_plan.specs.declared.hops.Hop.{Hop}
use Rattle.dv_plan.specs.Hops.{LeadTo}
use Rattle.dv_infer.specs.Along.{to_handler}
use Rattle.dv_infer.proofs.Carrying.{kept_caught}
use Rattle.dv_infer.proofs.Gathering.{fits_here, from_insn, from_entry}
use Rattle.dv_infer.proofs.Planned.{leads_by}
use Rattle.dv_infer.proofs.onward.onward.Goals as goal

pub onward_through-requires-clause-fits : goal.onward_through-requires-clause-fits
onward_through-requires-clause-fits c =
    let code = code_of c.args.code.now in
    let within : c.args.place < addresses code = omega (arith, c.if-place-count.true, ap length c.units_of-count.ensures.units) in
    let same : state_of c.args.bases.now c.words-words.result.now ≡ c.args.row.now.state = ap (λ (n : Names). state_of n c.words-words.result.now) (sym c.requires.fits.0) ∙ c.words-words.ensures.state in
    fits_here c.args.bases.now.image code c.args.place c.args.row.now.state (state_of c.args.bases.now c.words-words.result.now) within same c.requires.fits.1

pub to_handlers-requires-clause-hops : goal.to_handlers-requires-clause-hops
to_handlers-requires-clause-hops c =
    subst (λ (hs : List Hop). All (λ h. IsNumbered c.args.bases.now h.caught) hs) (sym c.hops_from-hops.ensures)
    (leads_by c.args.bases.now c.args.code.now.body.now c.args.plan.now.hops.items c.requires.plan.hops (c.args.place - length c.units_of-count.result.now)).numbered

pub returns-then-place-count : goal.returns-then-place-count
returns-then-place-count c =
    let names = c.args.bases.now in
    let code = code_of c.args.code.now in
    let before = before_by c.args.plan.now.marks.items in
    let place = c.args.place in
    let t = state_of names c.words-words.result.now in
    let within : place < addresses code = omega (arith, c.if-place-count.true, ap length c.units_of-count.ensures.units) in
    let same : t ≡ c.args.row.now.state = ap (λ (n : Names). state_of n c.words-words.result.now) (sym c.requires.fits.0) ∙ c.words-words.ensures.state in
    IfOk-weaker c.onward_through.result (λ v. v ≡ map (onward_kept names) (onward_through names.image code before (addresses code) place t))
    (λ v. v ≡ map (onward_kept c.args.row.now.beside) (onward_blocks names.image code before place c.args.row.now.state))
    (λ v is. is ∙ from_insn names c.args.row.now.beside code before place c.args.row.now.state t (sym c.requires.fits.0) same within)
    c.onward_through.ensures

pub returns-else-place-count : goal.returns-else-place-count
returns-else-place-count c =
    let names = c.args.bases.now in
    let code = code_of c.args.code.now in
    let before = before_by c.args.plan.now.marks.items in
    let place = c.args.place in
    let t = state_of names c.words-words.result.now in
    let count : length c.units_of-count.result.now ≡ addresses code = ap length c.units_of-count.ensures.units in
    let past : addresses code ≤ place = omega (arith, c.if-place-count.false, count) in
    let same : t ≡ c.args.row.now.state = ap (λ (n : Names). state_of n c.words-words.result.now) (sym c.requires.fits.0) ∙ c.words-words.ensures.state in
    let entry = place - addresses code in
    let hops = c.hops_from-hops.result.now in
    let here : hops ≡ slice_index_or c.args.plan.now.hops.items entry [] = c.hops_from-hops.ensures ∙ ap (λ n. slice_index_or c.args.plan.now.hops.items (place - n) []) count in
    let lead : LeadTo names hops (map handler_edge (catchers_of code.body (slice_get code.body.tries entry))) =
    subst (λ (hs : List Hop). LeadTo names hs (map handler_edge (catchers_of code.body (slice_get code.body.tries entry)))) (sym here)
    (leads_by names code.body c.args.plan.now.hops.items c.requires.plan.hops entry) in
    IfOk-weaker c.to_handlers.result (λ v. v ≡ map (to_handler names t) hops)
    (λ v. v ≡ map (onward_kept c.args.row.now.beside) (onward_blocks names.image code before place c.args.row.now.state))
    (λ v is. is ∙ (kept_caught names t hops (catchers_of code.body (slice_get code.body.tries entry)) lead ∙
    from_entry names c.args.row.now.beside code before place c.args.row.now.state t (sym c.requires.fits.0) same past))
    c.to_handlers.ensures
