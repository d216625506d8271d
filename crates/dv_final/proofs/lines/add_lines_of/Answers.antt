use Rattle.std.proofs.Common.{◌≡◌, OnOk, subst}
use Rattle.dv_core.specs.Machines.{machine_of}
use Rattle.dv_final.proofs.Held.{then_ends}
use Rattle.dv_final.proofs.lines.add_lines_of.Goals as goal

pub returns-in_ok-add_blocked_lines-in-NoRunnable : goal.returns-in_ok-add_blocked_lines-in-NoRunnable
returns-in_ok-add_blocked_lines-in-NoRunnable c w =
    subst (λ bs. OnOk c.add_ending_line.result (c.add_ending_line.new.text.items ≡ bs))
    (then_ends c.args.image.now (machine_of c.args.vm.now) c.args.ending c.args.text.now.items c.add_blocked_lines.new.text.items c.in-NoRunnable.is
    (c.in_ok-add_blocked_lines-in-NoRunnable.ensures w)) c.add_ending_line.ensures
