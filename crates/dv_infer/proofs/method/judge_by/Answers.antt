use Rattle.std.proofs.Common.{◌≡◌, ◌≤◌, List, Option, length, take, sym, ap, ◌∙◌, subst, arith}
use Rattle.std.proofs.lemmas.List.{length-take-le}
use Rattle.dv_worklist.specs.Flow as worklist
use Rattle.dv_worklist.specs.Flow.{AllFit, assigned}
use Rattle.dv_worklist.specs.Beside.{Kept, alone}
use Rattle.dv_defs.specs.Images.{Image}
use Rattle.dv_typing.specs.declared.typing.RegState.{RegState}
use Rattle.law_infer.specs.Flowing.{IsReady, fits_at, flow_of}
use Rattle.law_gather.specs.Gathered.{addresses}
use Rattle.dv_ops.specs.Meaning.{code_of}
use Rattle.dv_bases.specs.Bases.{Names}
use Rattle.dv_infer.specs.Owned.{NamedCode}
use Rattle.dv_infer.proofs.Finding.{is_lawful, rows_fit, fits, least}
use Rattle.dv_infer.proofs.method.judge_by.Goals as goal

pub least-requires-clause-lawful : goal.least-requires-clause-lawful
least-requires-clause-lawful c = is_lawful c.args.bases.now (code_of c.args.code.now) c.args.plan.now.marks.items c.requires.ready c.requires.plan.before c.new-flow.result c.new-flow.ensures

pub fill-requires-clause-long : goal.fill-requires-clause-long
fill-requires-clause-long c =
    let code_is = ap (λ (m : NamedCode). addresses m.code) c.new-flow.ensures in
    let long = c.in_ok-rows.ensures.length in
    omega (arith, code_is, long)

pub fill-requires-clause-fit : goal.fill-requires-clause-fit
fill-requires-clause-fit c =
    rows_fit c.args.bases.now (code_of c.args.code.now) c.args.plan.now.marks.items c.requires.ready c.requires.plan.before c.new-flow.result c.new-flow.ensures
    c.in_ok-rows.rows.items c.in_ok-rows.ensures.fits

pub judge_rows-requires : goal.judge_rows-requires
judge_rows-requires c =
    let names = c.args.bases.now in
    let code = code_of c.args.code.now in
    let marks = c.args.plan.now.marks.items in
    let rows = c.in_ok-rows.rows.items in
    let full = c.fill.new.rows.items in
    let cut : c.truncate.new.self.items ≡ take (addresses code) full = c.truncate.ensures.items ∙ ap (λ n. take n full) (ap length c.units_of.ensures.units) in
    let fit = fits names code marks c.requires.ready c.requires.plan.before c.new-flow.result c.new-flow.ensures rows c.in_ok-rows.ensures.fits c.in_ok-rows.ensures.least full c.in_ok-fill.ensures.filled in
    let lowest = least names code marks c.requires.ready c.requires.plan.before c.new-flow.result c.new-flow.ensures rows c.in_ok-rows.ensures.fits c.in_ok-rows.ensures.least full c.in_ok-fill.ensures.filled in
    let here = subst (λ (ys : List (Option (Kept RegState Names))). AllFit (fits_at names.image code) (assigned (alone ys))) (sym cut) fit in
    let there = subst (λ (ys : List (Option (Kept RegState Names))). worklist.IsLeast (flow_of names.image code) (assigned (alone ys))) (sym cut) lowest in
    let same = sym c.requires.image in
    let code_is = ap (λ (m : NamedCode). addresses m.code) c.new-flow.ensures in
    let long = c.in_ok-rows.ensures.length in
    let enough : addresses code ≤ length full = omega (arith, code_is, long, c.in_ok-fill.ensures.count) in
    record {
      ready = subst (λ (i : Image). IsReady i code) same c.requires.ready;
      count = ap length cut ∙ length-take-le (addresses code) full enough;
      fit = subst (λ (i : Image). AllFit (fits_at i code) (assigned (alone c.truncate.new.self.items))) same here;
      least = subst (λ (i : Image). worklist.IsLeast (flow_of i code) (assigned (alone c.truncate.new.self.items))) same there;
    }
