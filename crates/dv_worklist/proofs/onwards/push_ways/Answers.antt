use Rattle.std.proofs.Common.{take, ◌∙◌}
use Rattle.dv_worklist.proofs.Numbered.{all_within}
use Rattle.dv_worklist.proofs.onwards.push_ways.Goals as goal

pub returns-in_err-push-clause-within : goal.returns-in_err-push-clause-within
returns-in_err-push-clause-within c n h lt =
    all_within n c.args.state c.args.ways.now.items c.push.new.self.items (take c.loop-place.place-index c.args.places.now) (c.in_err-push.ensures.items ∙ c.loop-place.invariant) h lt

pub returns-clause-within : goal.returns-clause-within
returns-clause-within c n h lt =
    all_within n c.args.state c.args.ways.now.items c.loop-place.ways.items (take c.loop-place.place-index c.args.places.now) c.loop-place.invariant h lt
