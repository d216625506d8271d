use Rattle.std.proofs.Common.{ap, ◌∙◌}
use Rattle.std.proofs.lemmas.Result.{err_from_is_err_and}
use Rattle.dv_coderead.specs.Giving.{◌>>=◌}
use Rattle.dv_coderead.specs.References.{type_in, class_in, only_class}
use Rattle.dv_coderead.proofs.Classes.{array_refused, class_taken, primitive_refused}
use Rattle.dv_coderead.proofs.Readings.{fails_first, reads_next}
use Rattle.dv_coderead.proofs.references.class.Goals as goal
use Rattle.dv_coderead.proofs.references.class.Goals.{in_default-via-in-0+in_default, in_default-via-in_default}

pub returns-in_err-ty : goal.returns-in_err-ty
unfolding class_in
returns-in_err-ty c =
    let p = err_from_is_err_and c.from_residual.result c.from_residual.ensures.1 in
    rw (p.1, p.2) (fails_first (type_in c.args.word.now) only_class c.in_err-ty.field-0.0 c.in_err-ty.ensures)

pub returns-in-0-Class : goal.returns-in-0-Class
unfolding class_in
returns-in-0-Class c =
    let t = c.in_ok-ty.ty in
    reads_next (type_in c.args.word.now) only_class t t c.in_ok-ty.ensures (class_taken t c.in-0-Class.field-0-1 c.in-0-Class.is-0 c.in-0-Class.is-1)

pub returns-in_default : goal.returns-in_default
unfolding class_in
returns-in_default c =
    ap (λ r. r >>= only_class) c.in_ok-ty.ensures
    ∙ elim c.in_default.branch [
      | in_default-via-in-0+in_default w ↦ primitive_refused c.in_ok-ty.ty w.in_default.not-Class-1
      | in_default-via-in_default w ↦ array_refused c.in_ok-ty.ty w.in_default.is-0.1
    ]
