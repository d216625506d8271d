-- The clauses of `monitors_stay_fine`, each by its lemma.
use Rattle.law_machine.proofs.lemmas.Monitors.Fine.{entering_keeps, exiting_keeps, waiting_keeps, notifying_keeps, resuming_keeps}
use Rattle.law_machine.proofs.threads.monitors_stay_fine.Goals as goal

pub returns-clause-entering : goal.returns-clause-entering
returns-clause-entering c = entering_keeps

pub returns-clause-exiting : goal.returns-clause-exiting
returns-clause-exiting c = exiting_keeps

pub returns-clause-waiting : goal.returns-clause-waiting
returns-clause-waiting c = waiting_keeps

pub returns-clause-notifying : goal.returns-clause-notifying
returns-clause-notifying c = notifying_keeps

pub returns-clause-resuming : goal.returns-clause-resuming
returns-clause-resuming c = resuming_keeps
