use Rattle.std.proofs.Common.{◌≡◌, length, sym, ap, subst, ◌∙◌, refl}
use Rattle.std.specs.Prelude.{◌^◌, ◌<◌, sum_by, map, Err, None}
use Rattle.std.proofs.lemmas.Result.{err_from_is_err_and}
use Rattle.dv_defs.specs.LinkFaults.{Fails}
use Rattle.dv_defs.specs.Linked.{defs, linked, pool_phase, method_with_pools}
use Rattle.dv_hier.specs.Hierarchies.{HierarchyValue}
use Rattle.dv_vtable.specs.Tables.{TabledValue, IsTabled, AreKeyed, image_of as tabled_image}
use Rattle.dv_resolve.specs.Answers.{Answers}
use Rattle.dv_resolve.proofs.LinkedLaws.{few_of, pools_fail, pools_told, own_told, linked_is, linked_kept, image_of}
use Rattle.dv_resolve.proofs.linking.resolve.Goals as goal

pub resolved_methods-requires-clause-few : goal.resolved_methods-requires-clause-few
resolved_methods-requires-clause-few c =
    let h : HierarchyValue = record { classes = c.h.inside.classes; fields = c.h.inside.fields; boot = c.h.inside.boot } in
    subst (λ is. length is < 2 ^ 32) (sym c.items.ensures) (few_of h c.h.invariant.0).0

pub resolved_methods-requires-clause-few_methods : goal.resolved_methods-requires-clause-few_methods
resolved_methods-requires-clause-few_methods c =
    let h : HierarchyValue = record { classes = c.h.inside.classes; fields = c.h.inside.fields; boot = c.h.inside.boot } in
    subst (λ is. sum_by (λ c. length c.def.methods) is < 2 ^ 31) (sym c.items.ensures) (few_of h c.h.invariant.0).1.0

pub resolved_methods-requires-clause-few_fields : goal.resolved_methods-requires-clause-few_fields
resolved_methods-requires-clause-few_fields c =
    let h : HierarchyValue = record { classes = c.h.inside.classes; fields = c.h.inside.fields; boot = c.h.inside.boot } in
    subst (λ is. sum_by (λ c. length c.def.fields) is < 2 ^ 31) (sym c.items.ensures) (few_of h c.h.invariant.0).1.1

pub returns-in_err-methods : goal.returns-in_err-methods
returns-in_err-methods c =
    let t : TabledValue = record { h = record { classes = c.h.inside.classes; fields = c.h.inside.fields; boot = c.h.inside.boot }; methods = c.tabled.inside.methods } in
    let kept : IsTabled t = subst (λ (h : HierarchyValue). IsTabled (record { h = h; methods = c.tabled.inside.methods })) (sym c.h.view_is) c.tabled.invariant.0 in
    let same : t ≡ c.args.tabled = (λ j. record { h = c.h.view_is j; methods = c.tabled.inside.methods }) ∙ c.tabled.view_is in
    let e = c.in_err-methods.field-0.0 in
    let p = err_from_is_err_and c.from_residual.result c.from_residual.ensures.1 in
    rw (p.1, p.2) (subst (λ (x : TabledValue). Answers (linked (defs x.h.classes) x.h.boot) (Err e)) same
    (pools_fail (defs t.h.classes) t.h.boot e c.h.invariant.0.is_built kept.is_checked
    (pools_told t kept c.h.invariant.0 c.h.inside.names c.h.inside.interfaces c.h.inside.ancestors c.h.invariant.1 c.h.invariant.2
    c.items.result.now c.items-2.result.now c.items.ensures c.items-2.ensures (λ f. Fails e f) c.in_err-methods.ensures.fault) (Err e) refl))

pub invariant_of-result : goal.invariant_of-result
invariant_of-result c =
    let t : TabledValue = record { h = record { classes = c.h.inside.classes; fields = c.h.inside.fields; boot = c.h.inside.boot }; methods = c.tabled.inside.methods } in
    let kept : IsTabled t = subst (λ (h : HierarchyValue). IsTabled (record { h = h; methods = c.tabled.inside.methods })) (sym c.h.view_is) c.tabled.invariant.0 in
    let none : pool_phase (defs t.h.classes) t.h.boot ≡ None =
    pools_told t kept c.h.invariant.0 c.h.inside.names c.h.inside.interfaces c.h.inside.ancestors c.h.invariant.1 c.h.invariant.2
    c.items.result.now c.items-2.result.now c.items.ensures c.items-2.ensures (λ f. f ≡ None) c.in_ok-methods.ensures.fault in
    let made : c.of.result ≡ map (method_with_pools (image_of t.h.classes t.methods t.h.boot)) t.methods =
    c.of.ensures ∙ (own_told t kept c.h.invariant.0 c.h.inside.names c.h.inside.interfaces c.h.inside.ancestors c.h.invariant.1 c.h.invariant.2
    c.items.result.now c.items-2.result.now c.items.ensures c.items-2.ensures
    (λ image. c.in_ok-methods.methods.items ≡ map (method_with_pools image) c.into_vec.result.items) c.in_ok-methods.ensures.methods ∙
    ap (map (method_with_pools (image_of t.h.classes t.methods t.h.boot))) c.into_vec.ensures) in
    let keyed : AreKeyed c.tabled.inside.keys c.tabled.inside.places (tabled_image t) =
    subst (λ (h : HierarchyValue). AreKeyed c.tabled.inside.keys c.tabled.inside.places (tabled_image (record { h = h; methods = c.tabled.inside.methods }))) (sym c.h.view_is) c.tabled.invariant.1 in
    linked_kept t kept c.h.invariant.0 c.of.result c.h.inside.names c.h.inside.interfaces c.h.inside.ancestors c.tabled.inside.keys c.tabled.inside.places
    made none c.h.invariant.1 c.h.invariant.2 keyed

pub returns : goal.returns
returns c =
    let t : TabledValue = record { h = record { classes = c.h.inside.classes; fields = c.h.inside.fields; boot = c.h.inside.boot }; methods = c.tabled.inside.methods } in
    let kept : IsTabled t = subst (λ (h : HierarchyValue). IsTabled (record { h = h; methods = c.tabled.inside.methods })) (sym c.h.view_is) c.tabled.invariant.0 in
    let same : t ≡ c.args.tabled = (λ j. record { h = c.h.view_is j; methods = c.tabled.inside.methods }) ∙ c.tabled.view_is in
    let none : pool_phase (defs t.h.classes) t.h.boot ≡ None =
    pools_told t kept c.h.invariant.0 c.h.inside.names c.h.inside.interfaces c.h.inside.ancestors c.h.invariant.1 c.h.invariant.2
    c.items.result.now c.items-2.result.now c.items.ensures c.items-2.ensures (λ f. f ≡ None) c.in_ok-methods.ensures.fault in
    let made : c.of.result ≡ map (method_with_pools (image_of t.h.classes t.methods t.h.boot)) t.methods =
    c.of.ensures ∙ (own_told t kept c.h.invariant.0 c.h.inside.names c.h.inside.interfaces c.h.inside.ancestors c.h.invariant.1 c.h.invariant.2
    c.items.result.now c.items-2.result.now c.items.ensures c.items-2.ensures
    (λ image. c.in_ok-methods.methods.items ≡ map (method_with_pools image) c.into_vec.result.items) c.in_ok-methods.ensures.methods ∙
    ap (map (method_with_pools (image_of t.h.classes t.methods t.h.boot))) c.into_vec.ensures) in
    ap (λ (x : TabledValue). linked (defs x.h.classes) x.h.boot) (sym same) ∙ linked_is t kept c.h.invariant.0 c.of.result made none
