use Rattle.std.proofs.Common.{sym, subst, ◌∙◌, ◌≡◌, None}
use Rattle.std.specs.Prelude.{All}
use Rattle.std.proofs.lemmas.Result.{err_from_is_err_and}
use Rattle.dv_defs.specs.LinkFaults.{Fails, first_fault_by, on_cycle, has_field_twice}
use Rattle.dv_defs.specs.Linked.{defs, HasValues}
use Rattle.dv_defs.specs.Numbering.{numbered}
use Rattle.dv_hier.proofs.Built.{defs_at, few_numbered, few_fields_numbered, cycle_fails, fields_fail, all_pass}
use Rattle.dv_hier.proofs.building.arranged.Goals as goal

pub add_slots-requires-clause-few : goal.add_slots-requires-clause-few
add_slots-requires-clause-few c =
    few_numbered c.args.classes.items 0 c.in_ok-infos.infos.items (c.in_ok-infos.ensures.numbered 0) c.requires.few

pub add_slots-requires-clause-few_fields : goal.add_slots-requires-clause-few_fields
add_slots-requires-clause-few_fields c =
    few_fields_numbered c.args.classes.items 0 c.in_ok-infos.infos.items (c.in_ok-infos.ensures.numbered 0) c.requires.few_fields

pub add_slots-requires-clause-acyclic : goal.add_slots-requires-clause-acyclic
add_slots-requires-clause-acyclic c image at =
    subst (λ is. first_fault_by (on_cycle image) (defs is) ≡ None) c.as_slice.ensures.value
    (c.in_ok-check_cycles.ensures image (at ∙ sym c.as_slice.ensures.value))

pub returns-in_err-check_cycles-clause-fault : goal.returns-in_err-check_cycles-clause-fault
returns-in_err-check_cycles-clause-fault c boot none =
    let p = err_from_is_err_and c.from_residual-in_err-check_cycles.result c.from_residual-in_err-check_cycles.ensures.1 in
    let cs = c.args.classes.items in
    let at = c.as_slice.ensures.value ∙ c.in_ok-infos.ensures.numbered boot in
    rw (p.1, p.2) (cycle_fails cs boot c.in_err-check_cycles.field-0.0 none
    (subst (λ ds. Fails c.in_err-check_cycles.field-0.0 (first_fault_by (on_cycle (numbered cs boot)) ds))
    (defs_at cs boot c.as_slice.result.now at) (c.in_err-check_cycles.ensures (numbered cs boot) (sym at))))

pub returns-in_err-check_fields-clause-fault : goal.returns-in_err-check_fields-clause-fault
returns-in_err-check_fields-clause-fault c boot none =
    let p = err_from_is_err_and c.from_residual-in_err-check_fields.result c.from_residual-in_err-check_fields.ensures.1 in
    let cs = c.args.classes.items in
    let at = c.as_slice.ensures.value ∙ c.in_ok-infos.ensures.numbered boot in
    let at_fields = c.as_slice-2.ensures.value ∙ c.in_ok-infos.ensures.numbered boot in
    rw (p.1, p.2) (fields_fail cs boot c.in_err-check_fields.field-0.0 none
    (subst (λ ds. first_fault_by (on_cycle (numbered cs boot)) ds ≡ None)
    (defs_at cs boot c.as_slice.result.now at) (c.in_ok-check_cycles.ensures (numbered cs boot) (sym at)))
    (subst (λ ds. Fails c.in_err-check_fields.field-0.0 (first_fault_by has_field_twice ds))
    (defs_at cs boot c.as_slice-2.result.now at_fields) c.in_err-check_fields.ensures.fault))

pub returns-clause-fault : goal.returns-clause-fault
returns-clause-fault c boot none =
    let cs = c.args.classes.items in
    let at = c.as_slice.ensures.value ∙ c.in_ok-infos.ensures.numbered boot in
    let at_fields = c.as_slice-2.ensures.value ∙ c.in_ok-infos.ensures.numbered boot in
    all_pass cs boot none
    (subst (λ ds. first_fault_by (on_cycle (numbered cs boot)) ds ≡ None)
    (defs_at cs boot c.as_slice.result.now at) (c.in_ok-check_cycles.ensures (numbered cs boot) (sym at)))
    (subst (λ ds. first_fault_by has_field_twice ds ≡ None)
    (defs_at cs boot c.as_slice-2.result.now at_fields) c.in_ok-check_fields.ensures.fault)

pub returns-clause-values : goal.returns-clause-values
returns-clause-values c =
    subst (All HasValues) (defs_at c.args.classes.items 0 c.as_slice-2.result.now (c.as_slice-2.ensures.value ∙ c.in_ok-infos.ensures.numbered 0))
    c.in_ok-check_fields.ensures.values
