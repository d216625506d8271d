use Rattle.std.proofs.Common.{◌≡◌, length}
use Rattle.dv_vtable.specs.Chains.{first_method}
use Rattle.dv_vtable.specs.Firsts.{AreNumbered}
use Rattle.dv_vtable.specs.Numbered.{all_methods}
use Rattle.dv_vtable.proofs.key_numbers.number_keys.Given as goal

abbrev pub invariant-loop-info : goal.invariant-loop-info
invariant-loop-info l = record {
  count : length l.keys.items ≡ first_method l.infos l.info-index;
  numbered : AreNumbered (all_methods l.infos) l.known l.numbers.items l.keys.items;
}
