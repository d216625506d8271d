use Rattle.std.proofs.Common.{◌∙◌, ap, subst}
use Rattle.dv_typing.specs.Flow.{is_exit}
use Rattle.dv_fetch.specs.Standing.{IsFound}
use Rattle.dv_core.proofs.Behind.{behind_no, behind_yes}
use Rattle.dv_core.proofs.settling.behind_exit.Goals as goal

pub returns-in_err-here-clause-code : goal.returns-in_err-here-clause-code
returns-in_err-here-clause-code c own h x image is at =
    absurd (subst (λ r. IsFound r h x.op) c.in_err-here.was (c.instruction_of.ensures own h x image is at))

pub returns-then-is_exit-clause-code : goal.returns-then-is_exit-clause-code
returns-then-is_exit-clause-code c own h x image is at =
    let found = subst (λ r. IsFound r h x.op) c.in_ok-here.was (c.instruction_of.ensures own h x image is at) in
    behind_yes x c.in_ok-here.here.next c.is_exit.result c.if-is_exit.true (c.is_exit.ensures found.code found.at ∙ ap is_exit found.means) (found.next ∙ at.next)

pub returns-else-is_exit-clause-code : goal.returns-else-is_exit-clause-code
returns-else-is_exit-clause-code c own h x image is at =
    let found = subst (λ r. IsFound r h x.op) c.in_ok-here.was (c.instruction_of.ensures own h x image is at) in
    behind_no x c.is_exit.result c.if-is_exit.false (c.is_exit.ensures found.code found.at ∙ ap is_exit found.means)
