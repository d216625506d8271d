use Rattle.std.proofs.Common.{◌≡◌, ◌<◌, ◌+◌, ◌++◌, length, All, vec_len}
use Rattle.dv_defs.specs.Order.{numbers}
use Rattle.dv_hier.specs.Slots.{chain_cells, chain_words}
use Rattle.dv_hier.proofs.slots.inherited.Given as goal

abbrev pub invariant-loop-id : goal.invariant-loop-id
invariant-loop-id l =
    (All (λ c. c.0 < length l.infos) l.chain.items)
    × (l.cells.fields.items ++ chain_cells l.infos (numbers l.chain.items) ≡ chain_cells l.infos (numbers l.initial.chain.items))
    × (l.cells.words + chain_words l.infos (numbers l.chain.items) ≡ chain_words l.infos (numbers l.initial.chain.items))

abbrev pub decreases-loop-id : goal.decreases-loop-id
decreases-loop-id l = vec_len l.chain
