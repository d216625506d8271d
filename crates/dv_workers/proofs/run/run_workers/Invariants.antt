use Rattle.dv_workers.proofs.run.run_workers.Given as goal

abbrev pub ghosts-run_in-L-Ledger : goal.ghosts-run_in-L-Ledger
ghosts-run_in-L-Ledger g a = record { name = a.blank.name; parts = a.blank.parts }

abbrev pub ghosts-run_in-L-Began : goal.ghosts-run_in-L-Began
ghosts-run_in-L-Began g a = record { taken = g.K.Sink.taken a.sink; faults = g.K.Sink.faults a.sink }
