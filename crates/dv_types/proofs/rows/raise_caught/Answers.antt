use Rattle.std.proofs.Common.{sym, ◌∙◌}
use Rattle.dv_bases.specs.States.{caught_of}
use Rattle.dv_types.proofs.Raising.{caught_stays}
use Rattle.dv_types.proofs.rows.raise_caught.Goals as goal

pub returns-then-is_caught_under-clause-joined : goal.returns-then-is_caught_under-clause-joined
returns-then-is_caught_under-clause-joined c =
    let names = c.args.bases.now in
    caught_stays names.image c.have_ground.ensures.hierarchy (caught_of names c.args.own.now) (caught_of names c.args.by) (sym c.is_caught_under.ensures ∙ c.if-is_caught_under.true)
