use Rattle.std.proofs.Common.{sym, subst}
use Rattle.dv_sound.specs.Runs.{Run}
use Rattle.dv_workers.specs.Desks.{MayGo}
use Rattle.dv_workers.proofs.desk.Desk.go.Goals as goal

pub turn-requires-clause-may : goal.turn-requires-clause-may
turn-requires-clause-may g c = subst (λ (r : Run). MayGo r c.args.thread) (sym c.in-None.ensures.chore) c.requires.may
