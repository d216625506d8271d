use Rattle.std.proofs.Common.{arith}
use Rattle.std.proofs.lemmas.Grind.{common_steps}
use Rattle.std.proofs.lemmas.Result.{IfOk-from_err}
use Rattle.dv_print.specs.Listing.{flag_text}
use Rattle.dv_print.proofs.Steps.Appends.{one_read}
use Rattle.dv_print.proofs.flags.add_flags.Goals as goal

pub loop-flag-preserved : goal.loop-flag-preserved
loop-flag-preserved c = one_read (flag_text c.args.flags) _ _ _ _ _ _ c.loop-flag-test.true c.loop-flag.invariant c.in_ok-add_flag.ensures

pub returns-in_err-add_flag : goal.returns-in_err-add_flag
returns-in_err-add_flag c = IfOk-from_err c.from_residual.result _ c.from_residual.ensures.0

pub returns : goal.returns
returns c = grind (arith, common_steps)
