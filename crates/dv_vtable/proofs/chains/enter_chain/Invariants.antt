use Rattle.std.proofs.Common.{◌≡◌, [], drop}
use Rattle.dv_defs.specs.Order.{numbers}
use Rattle.dv_vtable.specs.Chains.{entered_chain}
use Rattle.dv_vtable.specs.Numbered.{all_methods, numbered}
use Rattle.dv_vtable.proofs.chains.enter_chain.Given as goal

abbrev pub invariant-loop-k : goal.invariant-loop-k
invariant-loop-k l =
    (l.table.count ≡ l.initial.table.count)
    × (l.table.entries ≡ numbered (all_methods l.infos) (entered_chain l.infos [] (numbers (drop l.k l.chain))))
