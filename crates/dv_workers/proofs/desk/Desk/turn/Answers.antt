use Rattle.dv_workers.proofs.desk.Desk.turn.Goals as goal

-- a thread that may go is at home
pub try_turn-tried-requires-clause-home : goal.try_turn-tried-requires-clause-home
try_turn-tried-requires-clause-home g c =
    let s = c.log-log.ensures.leads in
    (c.requires.may s.main s.machine s.at).at_home
