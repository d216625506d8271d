-- The first of the registers that an invoke names.
use Rattle.std.proofs.Common.{◌≡◌, ℕ, List, [], ◌∷◌, drop, Some, None, refl, ap}
use Rattle.std.specs.Prelude.{slice_get}
use Rattle.dv_defs.specs.declared.faults.Rule.TheVariants as rule
use Rattle.dv_typing.specs.Demands.{first, args_for, instance_call}
use Rattle.dv_defs.specs.Images.{Image}
use Rattle.dv_defs.specs.Parts.{Call}
use Rattle.dv_defs.specs.Pools.{Method}
use Rattle.dv_typing.specs.RegTypes.{Types}
use Rattle.dv_typing.specs.Transfer.{first_of}
use Rattle.dv_demands.specs.Arguments.{object_for}

pub first_is : (ks : List ℕ) (k : ℕ) → slice_get ks 0 ≡ Some k → first_of ks ≡ k
first_is [] k e = absurd (cc)
first_is (j ∷ js) k e = cc

pub with_receiver : (image : Image) (own : Method) (ts : Types) (c : Call) (ks : List ℕ) (m : Method) (k : ℕ) → slice_get ks 0 ≡ Some k → instance_call image own ts c ks m ≡ first (object_for image own ts c k m) (args_for image ts m.def.proto.params (drop 1 ks))
with_receiver image own ts c [] m k e = absurd (cc)
with_receiver image own ts c (j ∷ js) m k e = let same : j ≡ k = cc in ap (λ (i : ℕ). first (object_for image own ts c i m) (args_for image ts m.def.proto.params js)) same

pub without_receiver : (image : Image) (own : Method) (ts : Types) (c : Call) (ks : List ℕ) (m : Method) → slice_get ks 0 ≡ None → instance_call image own ts c ks m ≡ Some (rule.S 15)
without_receiver image own ts c [] m e = refl
without_receiver image own ts c (j ∷ js) m e = absurd (cc)
