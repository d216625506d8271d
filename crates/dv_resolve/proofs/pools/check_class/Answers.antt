use Rattle.std.proofs.lemmas.Result.{err_from_is_err_and}
use Rattle.std.specs.Option.{option_or}
use Rattle.dv_defs.specs.First.{first_in}
use Rattle.dv_defs.specs.LinkFaults.{bodies}
use Rattle.dv_hier.proofs.AboveLaws.{first_told}
use Rattle.dv_resolve.specs.declared.pools.Pass.TheVariants as pass
use Rattle.dv_resolve.specs.Passes.{fault_by}
use Rattle.dv_resolve.proofs.PoolLaws.{bodies_told, bodies_none, bodies_checked, second_of, third_of, last_of}
use Rattle.dv_resolve.proofs.pools.check_class.Goals as goal

pub returns-in_err-check_bodies : goal.returns-in_err-check_bodies
returns-in_err-check_bodies c =
    let failed = err_from_is_err_and c.from_residual.result c.from_residual.ensures.1 in
    let e = c.in_err-check_bodies.field-0.0 in
    let class = c.args.class.now in
    let items = c.items-methods.result.now in
    let same = c.items-methods.ensures in
    λ image known.
    let by = fault_by image c.args.place in
    let p = first_in (by pass.Classes) (bodies class) in
    let q = first_in (by pass.Fields) (bodies class) in
    let r = first_in (by pass.Methods) (bodies class) in
    let s = first_in (by pass.Access) (bodies class) in
    rw (failed.1, failed.2)
    (first_told class.name e p (option_or q (option_or r s)) (bodies_told (by pass.Classes) class items e same (c.in_err-check_bodies.ensures image known)))

pub returns-in_err-check_bodies-2 : goal.returns-in_err-check_bodies-2
returns-in_err-check_bodies-2 c =
    let failed = err_from_is_err_and c.from_residual-in_err-check_bodies-2.result c.from_residual-in_err-check_bodies-2.ensures.1 in
    let e = c.in_err-check_bodies-2.field-0.0 in
    let class = c.args.class.now in
    let items = c.items-methods.result.now in
    let same = c.items-methods.ensures in
    λ image known.
    let by = fault_by image c.args.place in
    let p = first_in (by pass.Classes) (bodies class) in
    let q = first_in (by pass.Fields) (bodies class) in
    let r = first_in (by pass.Methods) (bodies class) in
    let s = first_in (by pass.Access) (bodies class) in
    rw (failed.1, failed.2)
    (second_of class.name e p q r s (bodies_none (by pass.Classes) class items same (c.in_ok-check_bodies.ensures image known))
    (bodies_told (by pass.Fields) class items e same (c.in_err-check_bodies-2.ensures image known)))

pub returns-in_err-check_bodies-3 : goal.returns-in_err-check_bodies-3
returns-in_err-check_bodies-3 c =
    let failed = err_from_is_err_and c.from_residual-in_err-check_bodies-3.result c.from_residual-in_err-check_bodies-3.ensures.1 in
    let e = c.in_err-check_bodies-3.field-0.0 in
    let class = c.args.class.now in
    let items = c.items-methods.result.now in
    let same = c.items-methods.ensures in
    λ image known.
    let by = fault_by image c.args.place in
    let p = first_in (by pass.Classes) (bodies class) in
    let q = first_in (by pass.Fields) (bodies class) in
    let r = first_in (by pass.Methods) (bodies class) in
    let s = first_in (by pass.Access) (bodies class) in
    rw (failed.1, failed.2)
    (third_of class.name e p q r s (bodies_none (by pass.Classes) class items same (c.in_ok-check_bodies.ensures image known))
    (bodies_none (by pass.Fields) class items same (c.in_ok-check_bodies-2.ensures image known))
    (bodies_told (by pass.Methods) class items e same (c.in_err-check_bodies-3.ensures image known)))

pub returns : goal.returns
returns c =
    let x = c.check_bodies-4.result in
    let class = c.args.class.now in
    let items = c.items-methods.result.now in
    let same = c.items-methods.ensures in
    λ image known.
    let by = fault_by image c.args.place in
    let p = first_in (by pass.Classes) (bodies class) in
    let q = first_in (by pass.Fields) (bodies class) in
    let r = first_in (by pass.Methods) (bodies class) in
    let s = first_in (by pass.Access) (bodies class) in
    last_of class.name x p q r s (bodies_none (by pass.Classes) class items same (c.in_ok-check_bodies.ensures image known))
    (bodies_none (by pass.Fields) class items same (c.in_ok-check_bodies-2.ensures image known))
    (bodies_none (by pass.Methods) class items same (c.in_ok-check_bodies-3.ensures image known))
    (bodies_checked (by pass.Access) class items x same (c.check_bodies-4.ensures image known))
