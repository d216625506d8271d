-- Small facts on objects and registers that many proofs use.
use Rattle.std.proofs.Common.{◌⊎◌, inl, inr, ℕ, zero, suc, ◌<◌, ◌≤◌, List, length, sym, subst}
use Rattle.std.proofs.lemmas.Bool.{cases_lt}
use Rattle.std.proofs.lemmas.List.{get_or_past}
use Rattle.std.specs.Prelude.{All}
use Rattle.dv_defs.specs.declared.names.Ty.{Ty}
use Rattle.dv_defs.specs.Images.{Image}
use Rattle.dv_machine.specs.Heap.{Heap}
use Rattle.dv_machine.specs.Value.{Value}
use Rattle.dv_machine.specs.Value as v
use Rattle.dv_machine.specs.Conforming.{Fits, IsOf, RefFine}
use Rattle.dv_machine.specs.State.{reg_at}

-- ---- objects

pub fits_of : (image : Image) (heap : Heap) (o : ℕ) (t : Ty) → IsOf image heap o t → Fits image heap o t
fits_of image heap zero t i = tt
fits_of image heap (suc o) t i = i

-- a register refers to what is there, where all do
pub ref_at : (image : Image) (heap : Heap) (xs : List Value) (k : ℕ) → All (RefFine image heap) xs → RefFine image heap (reg_at xs k)
ref_at image heap xs k a = go (cases_lt k (length xs))
  where
    go : (k < length xs) ⊎ (length xs ≤ k) → RefFine image heap (reg_at xs k)
    go (inl l) = a k v.Undef l
    go (inr g) = subst (λ (x : Value). RefFine image heap x) (sym (get_or_past xs k v.Undef g)) tt
