use Rattle.std.proofs.Common.{sym, subst, ◌∙◌}
use Rattle.std.specs.Prelude.{IfSome}
use Rattle.std.proofs.lemmas.Result.{IfOk-weaker}
use Rattle.dv_worklist.specs.Beside.{fits_beside}
use Rattle.law_blocks.specs.Blocks.{fits_blocks}
use Rattle.dv_ops.specs.Meaning.{code_of}
use Rattle.dv_plan.specs.Marks.{before_by}
use Rattle.dv_infer.specs.Leaps.{IsLeap}
use Rattle.dv_infer.specs.Owned.{NamedCode}
use Rattle.dv_infer.proofs.Leaping.{IsLeapt, counted, leaps}
use Rattle.dv_infer.proofs.flow.MethodFlowFlow.accelerate.Goals as goal

pub leap-requires-clause-count : goal.leap-requires-clause-count
leap-requires-clause-count c =
    let names = c.self.inside.bases.now in
    let code = code_of c.self.inside.code.now in
    let marks = c.self.inside.plan.now.marks.items in
    let row = subst (λ (m : NamedCode). fits_beside m.names (fits_blocks m.names.image m.code (before_by m.marks)) c.args.place c.args.row.now) (sym c.self.view_is) c.requires.state in
    let by = subst (λ (m : NamedCode). fits_beside m.names (fits_blocks m.names.image m.code (before_by m.marks)) c.args.place c.args.by.now) (sym c.self.view_is) c.requires.by in
    counted names code marks c.args.place c.args.row.now row ∙ sym (counted names code marks c.args.place c.args.by.now by)

pub returns : goal.returns
returns c =
    let names = c.self.inside.bases.now in
    let code = code_of c.self.inside.code.now in
    let marks = c.self.inside.plan.now.marks.items in
    let row = subst (λ (m : NamedCode). fits_beside m.names (fits_blocks m.names.image m.code (before_by m.marks)) c.args.place c.args.row.now) (sym c.self.view_is) c.requires.state in
    IfOk-weaker c.leap.result (λ more. IfSome more (IsLeap names code c.args.place c.args.row.now)) (λ more. IfSome more (λ x. IsLeapt c.args.place c.args.row.now c.args.by.now x c.args.self.now))
    (λ more is. leaps names code marks c.self.invariant.0 c.self.invariant.2.before c.args.self.now (sym c.self.view_is) c.args.place c.args.row.now c.args.by.now row more is)
    c.leap.ensures
