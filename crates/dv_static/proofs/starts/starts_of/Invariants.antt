use Rattle.std.proofs.Common.{◌≡◌, length}
use Rattle.dv_static.proofs.StartLemmas.{AreStartsFrom}
use Rattle.dv_static.proofs.starts.starts_of.Given as goal

-- the places are those of the items from here on
abbrev pub invariant-loop-k : goal.invariant-loop-k
invariant-loop-k l = (length l.places.items ≡ l.units) × AreStartsFrom l.k l.tiles l.places.items
