use Rattle.std.proofs.Common.{◌≢◌, ◌∙◌, All, ℕ, sym, subst}
use Rattle.std.proofs.lemmas.List.Elements.{All-nil}
use Rattle.dv_workers.proofs.desk.Desk.turns_in_place.Goals as goal

pub try_turn-steps-requires-clause-home : goal.try_turn-steps-requires-clause-home
try_turn-steps-requires-clause-home g c = subst (All (λ (t : ℕ). t ≢ c.args.thread)) (sym (c.loop-turns.invariant.1 ∙ c.requires.home)) (All-nil _)
