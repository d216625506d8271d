use Rattle.dv_sound.proofs.Keeping.{if_ok}
use Rattle.dv_sound.proofs.safe.SafeVm.turn.Goals as goal

pub returns-clause-turned : goal.returns-clause-turned
returns-clause-turned c = if_ok c.take_turn.result (λ n turned main m at may some. turned main m at) c.take_turn.ensures.turned

pub take_turn-requires-clause-may : goal.take_turn-requires-clause-may
take_turn-requires-clause-may c main m at = c.may_turn.ensures.may main m at c.if-not-may_turn.false
