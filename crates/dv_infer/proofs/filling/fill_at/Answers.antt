use Rattle.std.proofs.Common.{◌≡◌, ◌<◌, ℕ, length, Option, None, refl, sym, ◌∙◌, subst, arith, rules}
use Rattle.std.specs.Prelude.{slice_set}
use Rattle.std.proofs.lemmas.List.{get_or_default}
use Rattle.dv_worklist.specs.Beside.{Kept}
use Rattle.dv_worklist.specs.Flow.{assigned}
use Rattle.dv_typing.specs.declared.typing.RegState.{RegState}
use Rattle.dv_ops.specs.Meaning.{code_of}
use Rattle.dv_bases.specs.Bases.{Names}
use Rattle.dv_infer.specs.Filling.{IsFilledAt, IsRowAfter}
use Rattle.dv_infer.proofs.RowsFilled.{row_fits}
use Rattle.dv_infer.proofs.filling.fill_at.Goals as goal

pub index-requires : goal.index-requires
index-requires c =
    let rises = (c.requires.plan.before.straight c.in-Some.from c.args.at (sym c.in-Some.ensures)).rises in
    let inside = c.requires.at in
    let long = c.requires.long in
    let there : c.in-Some.from < length c.args.rows.now.items = omega (arith, rises, inside, long) in
    search (rules, there)

pub row_after-requires-clause-at : goal.row_after-requires-clause-at
row_after-requires-clause-at c =
    let rises = (c.requires.plan.before.straight c.in-Some.from c.args.at (sym c.in-Some.ensures)).rises in
    let inside = c.requires.at in
    omega (arith, rises, inside)

pub row_after-requires-clause-fits : goal.row_after-requires-clause-fits
row_after-requires-clause-fits c =
    let names = c.args.bases.now in
    let code = code_of c.args.code.now in
    let rises = (c.requires.plan.before.straight c.in-Some.from c.args.at (sym c.in-Some.ensures)).rises in
    let inside = c.requires.at in
    let long = c.requires.long in
    let there : c.in-Some.from < length c.args.rows.now.items = omega (arith, rises, inside, long) in
    row_fits names code c.args.rows.now.items c.in-Some.from c.index.result.now there c.index.ensures c.requires.fit

pub returns-in_ok-row : goal.returns-in_ok-row
returns-in_ok-row c =
    let names = c.args.bases.now in
    let code = code_of c.args.code.now in
    let old = c.args.rows.now.items in
    let new = slice_set old c.args.at c.in_ok-row.row in
    let from = c.in-Some.from in
    let rises = (c.requires.plan.before.straight from c.args.at (sym c.in-Some.ensures)).rises in
    let inside = c.requires.at in
    let long = c.requires.long in
    let there : from < length old = omega (arith, rises, inside, long) in
    let read : c.index.result.now ≡ assigned old from = sym (get_or_default old from None c.index.result.now there ∙ sym c.index.ensures) in
    let after : IsRowAfter names code from (assigned old from) c.in_ok-row.row =
    subst (λ (o : Option (Kept RegState Names)). IsRowAfter names code from o c.in_ok-row.row) read c.in_ok-row.ensures in
    subst (λ (o : Option ℕ). IsFilledAt names code c.args.at o old new) c.in-Some.ensures (c.in_ok-row.row, refl, after)
