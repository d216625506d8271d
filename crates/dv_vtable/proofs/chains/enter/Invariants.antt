use Rattle.std.proofs.Common.{◌≡◌, ◌+◌, drop}
use Rattle.dv_vtable.specs.Numbered.{entered_numbers}
use Rattle.dv_vtable.proofs.chains.enter.Given as goal

abbrev pub invariant-loop-place : goal.invariant-loop-place
invariant-loop-place l =
    (l.table.count ≡ l.initial.table.count)
    × (entered_numbers l.table.entries (l.first + l.place) (drop l.place l.own) ≡ entered_numbers l.initial.table.entries l.first l.own)
