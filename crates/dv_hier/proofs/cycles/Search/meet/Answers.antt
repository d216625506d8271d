use Rattle.std.proofs.Common.{sym, subst, ◌∙◌, arith, true, false}
use Rattle.std.specs.Prelude.{[], ◌∷◌, ◌≡◌, slice_set}
use Rattle.std.proofs.lemmas.List.{get_or_read_under}
use Rattle.dv_hier.specs.Upwards.{HasMet, is_marked}
use Rattle.dv_hier.proofs.UpwardsLaws.{met_first}
use Rattle.dv_hier.proofs.cycles.Search.meet.Goals as goal

pub returns : goal.returns
returns c =
    let met = c.args.self.now.met in
    let free : is_marked met.items c.args.id.0 ≡ false = sym (get_or_read_under met.items c.args.id.0 met.len c.index.result.now false c.index.ensures c.requires (omega arith)) ∙ c.if-index.false in
    subst (λ w. HasMet (c.args.id.0 ∷ []) met.items c.args.self.now.waiting.items (slice_set met.items c.args.id.0 true) w) (sym c.in_ok-push.ensures.items)
    (met_first met.items c.args.self.now.waiting.items c.args.id (omega arith) free)
