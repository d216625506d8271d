-- What demands and rules that hold say, and when demands hold.
use Rattle.std.proofs.Common.{◌≡◌, List, [], ◌++◌, Bool, true, false, Some, None, refl}
use Rattle.dv_defs.specs.declared.faults.Rule.{Rule}
use Rattle.dv_typing.specs.Statics.{unless}
use Rattle.dv_typing.specs.Demands.{Demand, first, demand}
use Rattle.law_types.proofs.Facts.{no}

-- ---- demands

pub first_none : (a b : Demand) → first a b ≡ None → (a ≡ None) × (b ≡ None)
first_none None b e = (refl, e)
first_none (Some r) b e = absurd (cc)

pub met : (d e : Demand) → d ≡ None → e ≡ None → first d e ≡ None
met None e h k = k
met (Some r) e h k = absurd (cc)

pub demanded : (b : Bool) (n : Rule) → demand b n ≡ None → b ≡ true
demanded true n e = refl
demanded false n e = absurd (cc)

pub test_met : (b : Bool) (n : Rule) → b ≡ true → demand b n ≡ None
test_met true n e = refl
test_met false n e = no e

-- ---- rules

pub only_rule : (b : Bool) (n : Rule) → unless b n ≡ [] → b ≡ true
only_rule true n e = refl
only_rule false n e = absurd (cc)

pub first_rule : (b : Bool) (n : Rule) (ns : List Rule) → unless b n ++ ns ≡ [] → b ≡ true
first_rule true n ns e = refl
first_rule false n ns e = absurd (cc)
