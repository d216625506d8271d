use Rattle.std.proofs.Common.{◌≡◌, List, Option, length, ap, sym, ◌∙◌, subst}
use Rattle.dv_ops.specs.Meaning.{code_of}
use Rattle.dv_plan.specs.declared.plan.Plan.{Plan}
use Rattle.dv_plan.specs.Ways.{AreWays}
use Rattle.dv_plan.specs.Steps.{AreStepsTo}
use Rattle.dv_plan.specs.declared.ways.Ways.{Ways}
use Rattle.dv_plan.specs.declared.hops.Hop.{Hop}
use Rattle.dv_plan.specs.Marks.{AreMarks, LeadToHeads}
use Rattle.dv_plan.proofs.Planning.{is_plan, are_before}
use Rattle.dv_plan.proofs.plan.plan_of.Goals as goal

pub returns-clause-plan : goal.returns-clause-plan
returns-clause-plan c =
    let image = c.args.image.now in
    let code = code_of c.args.code.now in
    let hopped = c.hops_of.new.bases in
    let stepped = c.steps_of.new.bases in
    let p : Plan = record { entry = c.in_ok-entry.entry; own = c.in_ok-own.own; steps = c.in_ok-steps.steps; ways = c.in_ok-ways.ways; hops = c.in_ok-hops.hops; marks = c.in_ok-marks.marks } in
    let count : length c.as_slice.result.now ≡ length code.body.units = ap length c.as_slice.ensures.value ∙ c.in_ok-begins.ensures.count in
    let same : length c.as_slice-4.result.now ≡ length code.body.units = ap length c.as_slice-4.ensures.value ∙ c.in_ok-begins.ensures.count in
    let ways : AreWays image code (length code.body.units) p.ways.items = subst (λ n. AreWays image code n p.ways.items) count c.in_ok-ways.ensures in
    let listed : length p.ways.items ≡ length code.body.units = ways.count in
    let given : AreWays image code (length c.as_slice-2.result.now) c.as_slice-2.result.now =
    subst (λ (ws : List (Option Ways)). AreWays image code (length ws) ws) (sym c.as_slice-2.ensures.value) (subst (λ n. AreWays image code n p.ways.items) (sym listed) ways) in
    let marks : AreMarks image code (length code.body.units) p.marks.items =
    subst (λ n. AreMarks image code n p.marks.items) (ap length c.as_slice-2.ensures.value ∙ listed) (c.in_ok-marks.ensures.marks image code c.requires.clean given) in
    let lead : LeadToHeads p.marks.items p.hops.items = subst (λ (hs : List (List Hop)). LeadToHeads p.marks.items hs) c.as_slice-3.ensures.value c.in_ok-marks.ensures.handlers in
    is_plan image code c.args.bases.now c.entry_words.new.bases c.object_word.new.bases hopped stepped c.requires.image
    c.in_ok-entry.ensures.wider c.in_ok-own.ensures.wider c.in_ok-hops.ensures.wider c.in_ok-steps.ensures.wider p
    c.in_ok-entry.ensures.words c.in_ok-entry.ensures.state c.in_ok-own.ensures.told c.in_ok-hops.ensures.hops
    (subst (λ n. AreStepsTo image stepped code n p.steps.items) same c.in_ok-steps.ensures.steps)
    ways (are_before image code hopped p.marks.items p.hops.items c.requires.clean marks c.in_ok-marks.ensures.entry lead c.in_ok-hops.ensures.hops)
