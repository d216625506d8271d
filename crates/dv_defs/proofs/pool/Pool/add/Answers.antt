use Rattle.std.proofs.Common.{cond, Some, ap, sym, ◌∙◌}
use Rattle.std.specs.BTreeMap.{get}
use Rattle.dv_defs.proofs.Places.{places_added}
use Rattle.dv_defs.proofs.pool.Pool.add.Goals as goal

pub invariant_of-self-then-not-contains_key : goal.invariant_of-self-then-not-contains_key
invariant_of-self-then-not-contains_key g c =
    let before = get g.E.Ord.cmp c.self.inside.places in
    places_added g.met.E.Eq.laws c.self.inside.entries.items c.reserve.new.self.items c.push_reserved.new.self.items c.args.entry.now c.in_ok-key.key c.in_ok-added.added c.len.result
    before (get g.E.Ord.cmp c.insert.new.self) c.self.invariant (sym c.contains_key.ensures ∙ c.if-not-contains_key.true)
    (c.requires.exact _ _ c.in_ok-key.ensures.cases) (c.requires.exact _ _ c.in_ok-added.ensures.cases)
    c.reserve.ensures.items (c.len.ensures ∙ c.reserve.new.self.ok.0) c.push_reserved.ensures.items
    (λ q. c.in_ok-insert.ensures.updates.0 q ∙ ap (λ same. cond same (Some c.len.result) (before q)) (sym (g.met.E.Ord.matches_eq c.in_ok-key.key q)))
