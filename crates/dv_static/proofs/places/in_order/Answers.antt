use Rattle.std.proofs.Common.{◌≡◌, rules}
use Rattle.std.proofs.lemmas.Fn.{always_returns_same}
use Rattle.std.proofs.lemmas.List.Filters.{dedup_is}
use Rattle.dv_static.specs.Placed.{order_of}
use Rattle.dv_static.proofs.OrderedPlaces.{ordered}
use Rattle.dv_static.proofs.places.in_order.Goals as goal

pub returns : goal.returns
returns c =
    ordered c.args.places.items c.sort_by_key.new.self.items c.dedup.new.self.items c.in_ok-sort_by_key.ensures.permutation
    (c.in_ok-sort_by_key.ensures.sorted order_of (always_returns_same _ (λ a r. r ≡ order_of a.0.now) _ (λ a r q k. search rules)))
    (dedup_is _ _ _ c.dedup.ensures.filtered)
