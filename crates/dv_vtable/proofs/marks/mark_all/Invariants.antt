use Rattle.std.proofs.Common.{◌≡◌, ℕ, false, take, if◌then◌else◌}
use Rattle.std.specs.Prelude.{slice_index_or}
use Rattle.dv_defs.specs.Order.{has_number, numbers}
use Rattle.dv_vtable.proofs.marks.mark_all.Given as goal

abbrev pub invariant-loop-class : goal.invariant-loop-class
invariant-loop-class l =
    (d : ℕ) → slice_index_or l.marks d false ≡ (if has_number d (numbers (take l.class-index l.classes)) then l.mark else slice_index_or l.initial.marks d false)
