use Rattle.std.proofs.Common.{◌∙◌, sym, ap}
use Rattle.std.proofs.lemmas.Result.{err_from_is_err_and}
use Rattle.dv_names.specs.Grammar.{Alone, Array, after, type_refusal}
use Rattle.dv_names.specs.declared.error.NameError.TheVariants as error
use Rattle.dv_names.proofs.Types.{type_run}
use Rattle.dv_names.proofs.Protos.{too_long, all_of, type_none}
use Rattle.dv_names.proofs.Places.{type_fails}
use Rattle.dv_names.proofs.Inverse.{same_type, finds_err}
use Rattle.dv_names.proofs.parse.parse_type.Goals as goal

pub returns-in_err-ty-clause-exact : goal.returns-in_err-ty-clause-exact
returns-in_err-ty-clause-exact c =
    let p = err_from_is_err_and c.from_residual.result c.from_residual.ensures.1 in
    rw (p.1, p.2) (c.in_err-ty.ensures Alone)

pub returns-in_err-ty-clause-finds : goal.returns-in_err-ty-clause-finds
returns-in_err-ty-clause-finds c = λ t is same.
    let p = err_from_is_err_and c.from_residual.result c.from_residual.ensures.1 in
    rw (p.1, p.2) (finds_err c.in_err-ty.field-0.0 (type_refusal c.args.text.now) (c.in_err-ty.ensures Alone) (type_none t c.args.text.now is same))

pub returns-in_err-ty-clause-fails : goal.returns-in_err-ty-clause-fails
returns-in_err-ty-clause-fails c =
    let p = err_from_is_err_and c.from_residual.result c.from_residual.ensures.1 in
    rw (p.1, p.2) (type_fails c.args.text.now c.in_err-ty.field-0.0 (c.in_err-ty.ensures Alone))

pub returns-then-end-text-clause-exact : goal.returns-then-end-text-clause-exact
returns-then-end-text-clause-exact c =
    let t = c.in_ok-ty.ensures in
    too_long c.args.text.now (Array Alone 0) c.in_ok-ty.end c.if-end-text.true (ap (after (Array Alone 0)) t.2 ∙ type_run Alone c.in_ok-ty.ty t.1)

pub returns-then-end-text-clause-finds : goal.returns-then-end-text-clause-finds
returns-then-end-text-clause-finds c = λ t is same.
    finds_err (error.BadDescriptor c.in_ok-ty.end) (type_refusal c.args.text.now) (returns-then-end-text-clause-exact c) (type_none t c.args.text.now is same)

pub returns-then-end-text-clause-fails : goal.returns-then-end-text-clause-fails
returns-then-end-text-clause-fails c = type_fails c.args.text.now (error.BadDescriptor c.in_ok-ty.end) (returns-then-end-text-clause-exact c)

pub returns-clause-exact : goal.returns-clause-exact
returns-clause-exact c =
    let t = c.in_ok-ty.ensures in
    type_none c.in_ok-ty.ty c.args.text.now t.1 (sym t.2 ∙ all_of c.args.text.now c.in_ok-ty.end c.if-end-text.false)

pub returns-clause-finds : goal.returns-clause-finds
returns-clause-finds c = λ u is same.
    let t = c.in_ok-ty.ensures in
    same_type c.in_ok-ty.ty u t.1 is (sym t.2 ∙ all_of c.args.text.now c.in_ok-ty.end c.if-end-text.false ∙ sym same)
