use Rattle.std.proofs.Common.{◌≡◌, ◌+◌, ◌++◌, drop}
use Rattle.dv_hier.specs.Slots.{cells_from, words_in}
use Rattle.dv_hier.proofs.slots.Cells.add.Given as goal

abbrev pub invariant-loop-place : goal.invariant-loop-place
invariant-loop-place l =
    (l.self.fields.items ++ cells_from l.class (l.first + l.place) (drop l.place l.class.fields) ≡ l.initial.self.fields.items ++ cells_from l.class l.first l.class.fields)
    × (l.self.words + words_in l.class (drop l.place l.class.fields) ≡ l.initial.self.words + words_in l.class l.class.fields)
