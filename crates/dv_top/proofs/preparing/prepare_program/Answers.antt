use Rattle.dv_rules.specs.Verified.{VerifiedValue}
use Rattle.dv_top.proofs.RunningLemmas.{said_refused}
use Rattle.dv_top.proofs.preparing.prepare_program.Goals as goal

pub returns-clause-prepared : goal.returns-clause-prepared
returns-clause-prepared g c bytes found small is =
    said_refused VerifiedValue bytes found c.args.program c.in-Err.error _ _ small is c.in-Err.ensures.image c.in-Err.ensures.faults c.in-Err.ensures.refused c.in_ok-faulty-in-Err.ensures
