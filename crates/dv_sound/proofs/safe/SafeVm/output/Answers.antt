use Rattle.std.proofs.Common.{◌∙◌, ap}
use Rattle.dv_words.specs.State.{WordMachine}
use Rattle.dv_sound.proofs.safe.SafeVm.output.Goals as goal

pub returns-clause-words : goal.returns-clause-words
returns-clause-words c = c.output.ensures ∙ ap (λ (w : WordMachine). w.shared.output) c.engine.ensures.machine

pub returns-clause-tagged : goal.returns-clause-tagged
returns-clause-tagged c main m at = let s = c.engine.ensures.stands main m at in c.output.ensures ∙ s.2.simulated.stands.shared.output
