use Rattle.std.proofs.lemmas.Grind.{common_steps}
use Rattle.std.proofs.Common.{sym, ◌∙◌, arith}
use Rattle.std.proofs.lemmas.Result.{err_from_is_err_and}
use Rattle.dv_coderead.proofs.Members.{method_parts, of_method, opened, from_mark, no_arrow, no_class, no_mark, no_name, no_last, reads_member}
use Rattle.dv_coderead.proofs.references.method.Goals as goal

pub returns-in_err-before : goal.returns-in_err-before
returns-in_err-before c =
    let p = err_from_is_err_and c.from_residual.result c.from_residual.ensures.1 in
    rw (p.1, p.2, method_parts) (no_arrow 40 opened of_method c.args.word.now c.in_err-before.field-0.0 c.in_err-before.ensures)

pub returns-in_err-class : goal.returns-in_err-class
returns-in_err-class c =
    let p = err_from_is_err_and c.from_residual-in_err-class.result c.from_residual-in_err-class.ensures.1 in
    rw (p.1, p.2, method_parts) (no_class 40 opened of_method c.args.word.now
    (c.in_ok-before.before.now, c.in_ok-before.member.now) c.in_ok-before.ensures
    c.in_err-class.field-0.0 c.in_err-class.ensures)

pub returns-in_err-own : goal.returns-in_err-own
returns-in_err-own c =
    let p = err_from_is_err_and c.from_residual-in_err-own.result c.from_residual-in_err-own.ensures.1 in
    rw (p.1, p.2, method_parts) (no_mark 40 opened of_method c.args.word.now
    (c.in_ok-before.before.now, c.in_ok-before.member.now) c.in_ok-before.ensures
    c.in_ok-class.class c.in_ok-class.ensures
    c.in_err-own.field-0.0 c.in_err-own.ensures.parts)

pub returns-in_err-name : goal.returns-in_err-name
returns-in_err-name c =
    let p = err_from_is_err_and c.from_residual-in_err-name.result c.from_residual-in_err-name.ensures.1 in
    rw (p.1, p.2, method_parts) (no_name 40 opened of_method c.args.word.now
    (c.in_ok-before.before.now, c.in_ok-before.member.now) c.in_ok-before.ensures
    c.in_ok-class.class c.in_ok-class.ensures
    (c.in_ok-own.own.now, c.in_ok-own.field-0-1.now) c.in_ok-own.ensures.parts
    c.in_err-name.field-0.0 c.in_err-name.ensures)

pub returns-in_err-proto : goal.returns-in_err-proto
returns-in_err-proto c =
    let p = err_from_is_err_and c.from_residual-in_err-proto.result c.from_residual-in_err-proto.ensures.1 in
    rw (p.1, p.2, method_parts) (no_last 40 opened of_method c.args.word.now
    (c.in_ok-before.before.now, c.in_ok-before.member.now) c.in_ok-before.ensures
    c.in_ok-class.class c.in_ok-class.ensures
    (c.in_ok-own.own.now, c.in_ok-own.field-0-1.now) c.in_ok-own.ensures.parts
    c.in_ok-name.name c.in_ok-name.ensures
    c.in_err-proto.field-0.0 (rw (← from_mark c.in_ok-own.own.now c.in_ok-before.member.now c.in_ok-own.field-0-1.now c.in_ok-own.ensures.whole) c.in_err-proto.ensures))

pub returns : goal.returns
returns c =
    method_parts c.args.word.now ∙ reads_member 40 opened of_method c.args.word.now
    (c.in_ok-before.before.now, c.in_ok-before.member.now) c.in_ok-before.ensures
    c.in_ok-class.class c.in_ok-class.ensures
    (c.in_ok-own.own.now, c.in_ok-own.field-0-1.now) c.in_ok-own.ensures.parts
    c.in_ok-name.name c.in_ok-name.ensures
    c.in_ok-proto.proto (sym (from_mark c.in_ok-own.own.now c.in_ok-before.member.now c.in_ok-own.field-0-1.now c.in_ok-own.ensures.whole) ∙ c.in_ok-proto.ensures)

pub slice_bounds-proto-count : goal.slice_bounds-proto-count
slice_bounds-proto-count c = grind (arith, common_steps)

pub slice_bounds-proto-start : goal.slice_bounds-proto-start
slice_bounds-proto-start c = grind (arith, common_steps)
