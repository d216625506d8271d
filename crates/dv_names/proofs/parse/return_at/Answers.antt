use Rattle.std.proofs.Common.{inl, inr}
use Rattle.std.proofs.lemmas.Result.{err_from_is_err_and}
use Rattle.dv_names.specs.Grammar.{Returned}
use Rattle.dv_names.proofs.Types.{refuses_same}
use Rattle.dv_names.proofs.Protos.{return_type}
use Rattle.dv_names.proofs.parse.return_at.Goals as goal
use Rattle.dv_names.proofs.parse.return_at.Goals.{else-start-text-via-then-start-text+else-text-start-eq86, else-start-text-via-else-start-text}

pub returns-in_err-ty : goal.returns-in_err-ty
returns-in_err-ty c =
    let p = err_from_is_err_and c.from_residual.result c.from_residual.ensures.1 in
    rw (p.1, p.2) (refuses_same c.in_err-ty.field-0.0 _ _ (return_type c.args.text.now c.args.start
    (elim c.else-start-text.branch [
      | else-start-text-via-then-start-text+else-text-start-eq86 w ↦ inl (w.if-start-text.true, w.if-text-start-eq86.false)
      | else-start-text-via-else-start-text w ↦ inr w.if-start-text.false
    ])) (c.in_err-ty.ensures Returned))
