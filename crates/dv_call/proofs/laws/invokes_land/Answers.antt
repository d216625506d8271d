use Rattle.dv_call.proofs.Called.{invokes_land}
use Rattle.dv_call.proofs.laws.invokes_land.Goals as goal

pub returns : goal.returns
returns c = record { law = invokes_land }
