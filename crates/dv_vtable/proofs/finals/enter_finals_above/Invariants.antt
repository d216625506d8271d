use Rattle.std.proofs.Common.{◌≡◌, ◌<◌, ◌-◌, ◌||◌, false, length}
use Rattle.std.specs.Prelude.{IfSome}
use Rattle.std.specs.List.{list_any}
use Rattle.dv_defs.specs.Pools.{class_number}
use Rattle.dv_hier.specs.Slots.{walked}
use Rattle.dv_vtable.specs.Chains.{Key}
use Rattle.dv_vtable.specs.Finals.{class_has_final, final_above, has_entry, is_constructor}
use Rattle.dv_vtable.specs.Numbered.{all_methods}
use Rattle.dv_vtable.proofs.finals.enter_finals_above.Given as goal

abbrev pub invariant-loop : goal.invariant-loop
invariant-loop l = record {
  count : l.finals.count ≡ length l.keys.keys.items;
  told : (k : Key) → is_constructor k ≡ false
      → (has_entry (all_methods l.infos) l.finals.entries k
      || list_any (class_has_final l.infos k) (walked l.infos (length l.infos - l.counter) (class_number l.above)))
      ≡ final_above l.infos l.class k;
  range : IfSome l.above (λ c. c.0 < length l.infos);
}
