use Rattle.std.proofs.Common.{ap, ◌∙◌}
use Rattle.std.specs.Prelude.{slice_set}
use Rattle.std.proofs.lemmas.List.{map-set}
use Rattle.dv_clinit.specs.States.{class_state}
use Rattle.dv_clinit.proofs.states.ClassStates.set.Goals as goal

pub returns-then-place-len : goal.returns-then-place-len
returns-then-place-len c =
    map-set class_state c.self.inside.states.items c.args.class.0 c.args.state ∙
    ap (λ states. slice_set states c.args.class.0 (class_state c.args.state)) c.self.view_is
