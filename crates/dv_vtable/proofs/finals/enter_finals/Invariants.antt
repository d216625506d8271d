use Rattle.std.proofs.Common.{◌≡◌, ◌||◌, false, take}
use Rattle.dv_vtable.specs.Chains.{Key}
use Rattle.dv_vtable.specs.Finals.{has_entry, has_final, is_constructor}
use Rattle.dv_vtable.specs.Numbered.{all_methods}
use Rattle.dv_vtable.proofs.finals.enter_finals.Given as goal

abbrev pub invariant-loop-place : goal.invariant-loop-place
invariant-loop-place l = record {
  count : l.finals.count ≡ l.initial.finals.count;
  told : (k : Key) → is_constructor k ≡ false
      → has_entry (all_methods l.infos) l.finals.entries k ≡ (has_entry (all_methods l.infos) l.initial.finals.entries k || has_final k (take l.place l.methods));
}
