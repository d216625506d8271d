use Rattle.std.proofs.Common.{rules}
use Rattle.std.specs.Prelude.{nat_lt}
use Rattle.std.proofs.lemmas.List.Sorted.{IsPartitionPoint-from_clause, IsPartitionedBy-ltb}
use Rattle.dv_clinit.specs.Initialisers.{declaring_class}
use Rattle.dv_clinit.proofs.Numbered.{begins_by_tests}
use Rattle.dv_clinit.proofs.methods.first_method.Goals as goal

pub returns-clause-begins : goal.returns-clause-begins
returns-clause-begins c =
    let parted = IsPartitionedBy-ltb declaring_class c.args.methods.now c.args.class.0 c.requires in
    begins_by_tests c.args.methods.now c.args.class.0 c.partition_point.result
    (IsPartitionPoint-from_clause (λ m. nat_lt (declaring_class m) c.args.class.0) _ _ c.partition_point.ensures.partitioned parted (λ a r q k. search rules))
