use Rattle.std.proofs.Common.{List, ℕ, Err, sym, ap, ◌∙◌, subst}
use Rattle.std.specs.Prelude.{option_map, option_and_then}
use Rattle.std.specs.Option.{option_or}
use Rattle.std.proofs.lemmas.Result.{err_from_is_err_and}
use Rattle.dv_defs.specs.declared.class.FieldDef.{FieldDef}
use Rattle.dv_defs.specs.declared.class.MethodDef.{MethodDef}
use Rattle.dv_defs.specs.First.{first_in}
use Rattle.dv_defs.specs.LinkFaults.{Checks, Fails, found, no_class, no_type, no_proto}
use Rattle.dv_defs.specs.Numbering.{declared}
use Rattle.dv_hier.proofs.AboveLaws.{first_told, then_checked}
use Rattle.dv_hier.proofs.above.check_names.Goals as goal

pub returns-in_err-check_fields : goal.returns-in_err-check_fields
returns-in_err-check_fields c =
    let p = err_from_is_err_and c.from_residual-in_err-check_fields.result c.from_residual-in_err-check_fields.ensures.1 in
    let e = c.in_err-check_fields.field-0.0 in
    let class = c.args.class.now in
    λ cs boot known.
    let image = declared cs boot in
    let of_field = λ (f : FieldDef). no_type image f.ty in
    let of_method = λ (m : MethodDef). no_proto image m.proto in
    let interfaces =
    ap (λ (xs : List (List ℕ)). option_map (found class.name) (first_in (no_class image) xs)) (sym c.items.ensures) ∙ c.in_ok-check_interfaces.ensures cs boot known in
    let fields =
    subst (λ (xs : List FieldDef). Fails e (option_map (found class.name) (first_in of_field xs))) c.items-2.ensures (c.in_err-check_fields.ensures cs boot known) in
    let members = option_or (first_in of_field class.fields) (first_in of_method class.methods) in
    rw (p.1, p.2)
    (then_checked {Y = Unit {0}} class.name (Err e) (option_and_then (no_class image) class.parent) (option_or (first_in (no_class image) class.interfaces) members)
    (c.in_ok-check_parent.ensures cs boot known)
    (then_checked {Y = Unit {0}} class.name (Err e) (first_in (no_class image) class.interfaces) members interfaces
    (first_told class.name e (first_in of_field class.fields) (first_in of_method class.methods) fields)))

pub returns : goal.returns
returns c =
    let class = c.args.class.now in
    let r = c.check_methods.result in
    λ cs boot known.
    let image = declared cs boot in
    let of_field = λ (f : FieldDef). no_type image f.ty in
    let of_method = λ (m : MethodDef). no_proto image m.proto in
    let interfaces =
    ap (λ (xs : List (List ℕ)). option_map (found class.name) (first_in (no_class image) xs)) (sym c.items.ensures) ∙ c.in_ok-check_interfaces.ensures cs boot known in
    let fields =
    ap (λ (xs : List FieldDef). option_map (found class.name) (first_in of_field xs)) (sym c.items-2.ensures) ∙ c.in_ok-check_fields.ensures cs boot known in
    let methods =
    subst (λ (xs : List MethodDef). Checks r (option_map (found class.name) (first_in of_method xs))) c.items-3.ensures (c.check_methods.ensures cs boot known) in
    let members = option_or (first_in of_field class.fields) (first_in of_method class.methods) in
    then_checked class.name r (option_and_then (no_class image) class.parent) (option_or (first_in (no_class image) class.interfaces) members)
    (c.in_ok-check_parent.ensures cs boot known)
    (then_checked class.name r (first_in (no_class image) class.interfaces) members interfaces
    (then_checked class.name r (first_in of_field class.fields) (first_in of_method class.methods) fields methods))
