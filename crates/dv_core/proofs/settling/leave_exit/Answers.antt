use Rattle.std.proofs.Common.{◌∙◌, sym}
use Rattle.dv_core.proofs.Behind.{moves, stays}
use Rattle.dv_core.proofs.settling.leave_exit.Goals as goal

pub returns-in-Some-clause-code : goal.returns-in-Some-clause-code
returns-in-Some-clause-code c own h x image is at =
    moves c.args.stack.now h.frame h.rest own.levels x c.in-Some.to c.move_to.new.self is.levels at.levels (sym c.in-Some.is ∙ c.behind_exit.ensures.code own h x image is at) c.move_to.ensures

pub returns-in_default-clause-code : goal.returns-in_default-clause-code
returns-in_default-clause-code c own h x image is at =
    stays c.args.stack.now h.frame h.rest own.levels x is.levels at.levels (sym c.in_default.is ∙ c.behind_exit.ensures.code own h x image is at)
