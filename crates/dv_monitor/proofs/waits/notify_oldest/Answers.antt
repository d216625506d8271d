use Rattle.std.proofs.Common.{sym}
use Rattle.std.proofs.lemmas.List.Quantifiers.{position-Some}
use Rattle.dv_monitor.proofs.WaitLaws.{is_next, no_wait, notify_first-at, notify_first-none, position-None}
use Rattle.dv_monitor.proofs.waits.notify_oldest.Goals as goal

pub returns-in-Some : goal.returns-in-Some
returns-in-Some c =
    let at = position-Some (is_next c.args.object) c.args.waits.now c.in-Some.place no_wait (sym c.in-Some.ensures) in
    notify_first-at c.args.object c.args.waits.now c.in-Some.place no_wait at.0 at.1 at.2

pub returns-in_default : goal.returns-in_default
returns-in_default c = notify_first-none c.args.object c.args.waits.now (position-None (is_next c.args.object) c.args.waits.now (sym c.in_default.ensures))
