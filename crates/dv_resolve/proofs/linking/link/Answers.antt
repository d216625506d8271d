use Rattle.std.proofs.Common.{◌≡◌, Err, refl, ap, subst, ◌∙◌}
use Rattle.std.proofs.lemmas.Result.{err_from_is_err_and}
use Rattle.dv_defs.specs.LinkFaults.{Fails}
use Rattle.dv_defs.specs.Linked.{defs, linked, method_phase}
use Rattle.dv_hier.proofs.Built.{defs_slotted}
use Rattle.dv_hier.specs.Hierarchies.{HierarchyValue}
use Rattle.dv_resolve.specs.Answers.{Answers}
use Rattle.dv_resolve.proofs.LinkedLaws.{first_fails, methods_fail, defs_of_tabled}
use Rattle.dv_resolve.proofs.linking.link.Goals as goal

pub returns-in_err-h : goal.returns-in_err-h
returns-in_err-h c =
    let p = err_from_is_err_and c.from_residual.result c.from_residual.ensures.1 in
    rw (p.1, p.2) (first_fails c.args.classes.list c.args.classes.boot c.in_err-h.field-0.0 c.in_err-h.ensures.fault (Err c.in_err-h.field-0.0) refl)

pub returns-in_err-tabled : goal.returns-in_err-tabled
returns-in_err-tabled c =
    let p = err_from_is_err_and c.from_residual-in_err-tabled.result c.from_residual-in_err-tabled.ensures.1 in
    let own : defs c.in_ok-h.h.classes ≡ c.args.classes.list = ap (λ (x : HierarchyValue). defs x.classes) c.in_ok-h.ensures.hierarchy ∙ defs_slotted c.args.classes.list c.args.classes.boot in
    let boot : c.in_ok-h.h.boot ≡ c.args.classes.boot = ap (λ (x : HierarchyValue). x.boot) c.in_ok-h.ensures.hierarchy in
    rw (p.1, p.2) (methods_fail c.args.classes.list c.args.classes.boot c.in_err-tabled.field-0.0 c.in_ok-h.ensures.fault
    (subst (λ f. Fails c.in_err-tabled.field-0.0 f) (λ j. method_phase (own j) (boot j)) c.in_err-tabled.ensures.fault) (Err c.in_err-tabled.field-0.0) refl)

pub returns : goal.returns
returns c =
    let is = defs_of_tabled c.args.classes.list c.args.classes.boot c.in_ok-h.h c.in_ok-tabled.tabled c.in_ok-h.ensures.hierarchy c.in_ok-tabled.ensures.tables in
    subst (λ given. Answers given c.resolve.result) (λ j. linked (is.0 j) (is.1 j)) c.resolve.ensures
