use Rattle.std.proofs.Common.{◌∙◌}
use Rattle.std.proofs.lemmas.Result.{err_from_is_err_and}
use Rattle.dv_coderead.specs.References.{type_in}
use Rattle.dv_coderead.proofs.Members.{field_parts, of_field, no_arrow, no_class, no_mark, no_name, no_last, reads_member}
use Rattle.dv_coderead.proofs.references.field.Goals as goal

pub returns-in_err-before : goal.returns-in_err-before
returns-in_err-before c =
    let p = err_from_is_err_and c.from_residual.result c.from_residual.ensures.1 in
    rw (p.1, p.2, field_parts) (no_arrow 58 type_in of_field c.args.word.now c.in_err-before.field-0.0 c.in_err-before.ensures)

pub returns-in_err-class : goal.returns-in_err-class
returns-in_err-class c =
    let p = err_from_is_err_and c.from_residual-in_err-class.result c.from_residual-in_err-class.ensures.1 in
    rw (p.1, p.2, field_parts) (no_class 58 type_in of_field c.args.word.now
    (c.in_ok-before.before.now, c.in_ok-before.member.now) c.in_ok-before.ensures
    c.in_err-class.field-0.0 c.in_err-class.ensures)

pub returns-in_err-own : goal.returns-in_err-own
returns-in_err-own c =
    let p = err_from_is_err_and c.from_residual-in_err-own.result c.from_residual-in_err-own.ensures.1 in
    rw (p.1, p.2, field_parts) (no_mark 58 type_in of_field c.args.word.now
    (c.in_ok-before.before.now, c.in_ok-before.member.now) c.in_ok-before.ensures
    c.in_ok-class.class c.in_ok-class.ensures
    c.in_err-own.field-0.0 c.in_err-own.ensures.parts)

pub returns-in_err-name : goal.returns-in_err-name
returns-in_err-name c =
    let p = err_from_is_err_and c.from_residual-in_err-name.result c.from_residual-in_err-name.ensures.1 in
    rw (p.1, p.2, field_parts) (no_name 58 type_in of_field c.args.word.now
    (c.in_ok-before.before.now, c.in_ok-before.member.now) c.in_ok-before.ensures
    c.in_ok-class.class c.in_ok-class.ensures
    (c.in_ok-own.own.now, c.in_ok-own.descriptor.now) c.in_ok-own.ensures.parts
    c.in_err-name.field-0.0 c.in_err-name.ensures)

pub returns-in_err-ty : goal.returns-in_err-ty
returns-in_err-ty c =
    let p = err_from_is_err_and c.from_residual-in_err-ty.result c.from_residual-in_err-ty.ensures.1 in
    rw (p.1, p.2, field_parts) (no_last 58 type_in of_field c.args.word.now
    (c.in_ok-before.before.now, c.in_ok-before.member.now) c.in_ok-before.ensures
    c.in_ok-class.class c.in_ok-class.ensures
    (c.in_ok-own.own.now, c.in_ok-own.descriptor.now) c.in_ok-own.ensures.parts
    c.in_ok-name.name c.in_ok-name.ensures
    c.in_err-ty.field-0.0 c.in_err-ty.ensures)

pub returns : goal.returns
returns c =
    field_parts c.args.word.now ∙ reads_member 58 type_in of_field c.args.word.now
    (c.in_ok-before.before.now, c.in_ok-before.member.now) c.in_ok-before.ensures
    c.in_ok-class.class c.in_ok-class.ensures
    (c.in_ok-own.own.now, c.in_ok-own.descriptor.now) c.in_ok-own.ensures.parts
    c.in_ok-name.name c.in_ok-name.ensures
    c.in_ok-ty.ty c.in_ok-ty.ensures
