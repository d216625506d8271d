use Rattle.std.proofs.Common.{◌≡◌, ◌++◌, map}
use Rattle.std.specs.List.{range_with_len}
use Rattle.law_linking.proofs.Members.{method_info}
use Rattle.dv_vtable.proofs.numbering.add_methods.Given as goal

abbrev pub invariant-loop-place : goal.invariant-loop-place
invariant-loop-place l = l.methods.items ≡ l.initial.methods.items ++ map (method_info l.id.0) (range_with_len 0 l.place)
