use Rattle.std.proofs.Common.{◌∙◌, sym, arith}
use Rattle.std.proofs.lemmas.Result.{err_from_is_err_and}
use Rattle.dv_names.specs.Grammar.{Alone}
use Rattle.dv_names.proofs.Types.{type_open, type_refused, primitive_spelled, class_refused, class_spelled}
use Rattle.dv_names.proofs.parse.type_at.Goals as goal

pub returns-then-at-text : goal.returns-then-at-text
returns-then-at-text c =
    let b = c.brackets_end-at.ensures in
    type_open c.args.text.now c.args.start c.brackets_end-at.result b.few.0 b.within b.few.1 b.brackets c.if-at-text.true

pub returns-in-Some : goal.returns-in-Some
returns-in-Some c =
    let b = c.brackets_end-at.ensures in
    let s = primitive_spelled c.args.text.now c.args.start c.brackets_end-at.result b.few.0 b.within b.few.1 b.brackets (omega arith) c.in-Some.base (sym c.primitive.ensures ∙ c.in-Some.is) in
    ((omega arith, omega arith), (b.few.1, s.0), s.1)

pub returns-then-first-ne76 : goal.returns-then-first-ne76
returns-then-first-ne76 c =
    let b = c.brackets_end-at.ensures in
    type_refused c.args.text.now c.args.start c.brackets_end-at.result b.few.0 b.within b.few.1 b.brackets (omega arith) (b.most (omega arith)) (sym c.primitive.ensures ∙ c.in_default.is) c.if-first-ne76.true _ c.no_type.ensures

pub returns-in_err-end : goal.returns-in_err-end
returns-in_err-end c =
    let b = c.brackets_end-at.ensures in
    let p = err_from_is_err_and c.from_residual.result c.from_residual.ensures.1 in
    rw (p.1, p.2) (class_refused c.args.text.now c.args.start c.brackets_end-at.result b.few.0 b.within b.few.1 b.brackets (omega arith) c.if-first-ne76.false c.in_err-end.field-0.0 c.in_err-end.ensures)

pub returns : goal.returns
returns c =
    let b = c.brackets_end-at.ensures in
    let e = c.in_ok-end.ensures in
    let name = c.in_ok-name.ensures ∙ c.in_ok-from_slice.ensures.items in
    let s = class_spelled c.args.text.now c.args.start c.brackets_end-at.result b.few.0 b.within b.few.1 b.brackets (omega arith) c.if-first-ne76.false c.in_ok-end.end e.0.0 e.0.1 (e.1 Alone) c.in_ok-name.name name in
    ((omega arith, e.0.1), (b.few.1, s.0), s.1)
