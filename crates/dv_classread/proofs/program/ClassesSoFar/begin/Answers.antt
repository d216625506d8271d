use Rattle.std.proofs.Common.{Some, ap}
use Rattle.dv_classread.proofs.Adding.{adds_class}
use Rattle.dv_classread.proofs.program.ClassesSoFar.begin.Goals as goal

pub returns : goal.returns
returns c = adds_class c.args.self.now c.args.head (record { standing = c.close.new.self.standing; classes = c.close.new.self.classes; last = Some c.new.result }) c.in_ok-close.ensures (ap Some c.new.ensures)
