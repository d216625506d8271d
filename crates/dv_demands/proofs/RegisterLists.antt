-- The registers at the places of a list of them.
use Rattle.std.proofs.Common.{◌≡◌, ℕ, zero, suc, ◌+◌, ◌<◌, ◌≤◌, Bool, true, false, List, [], ◌∷◌, take, Some, None, refl, ap, arith, ◌∙◌}
use Rattle.std.specs.Prelude.{slice_get, slice_index}
use Rattle.dv_defs.specs.declared.code.Regs.{Regs}
use Rattle.dv_defs.specs.Op.{count_up, named_registers}

pub counted_up : (from n k : ℕ) → k < n → slice_get (count_up from n) k ≡ Some (from + k)
counted_up from zero k h = absurd (omega arith)
counted_up from (suc n) zero h = ap Some (omega arith)
counted_up from (suc n) (suc k) h = counted_up (suc from) n k (omega arith) ∙ ap Some (omega arith)

pub counted_out : (from n k : ℕ) → n ≤ k → slice_get (count_up from n) k ≡ None
counted_out from zero k h = refl
counted_out from (suc n) zero h = absurd (omega arith)
counted_out from (suc n) (suc k) h = counted_out (suc from) n k (omega arith)

pub taken : (n k : ℕ) (xs : List ℕ) → k < n → slice_get (take n xs) k ≡ slice_get xs k
taken zero k xs h = absurd (omega arith)
taken (suc n) k [] h = refl
taken (suc n) zero (x ∷ xs) h = refl
taken (suc n) (suc k) (x ∷ xs) h = taken n k xs (omega arith)

pub taken_out : (n k : ℕ) (xs : List ℕ) → n ≤ k → slice_get (take n xs) k ≡ None
taken_out zero k xs h = refl
taken_out (suc n) k [] h = refl
taken_out (suc n) zero (x ∷ xs) h = absurd (omega arith)
taken_out (suc n) (suc k) (x ∷ xs) h = taken_out n k xs (omega arith)

by_form : (r : Regs) (k : ℕ) (b : Bool) → r.count ≤ k → slice_get (elim b as (λ _. List ℕ) [ true ↦ count_up (slice_index r.first 0) r.count | false ↦ take r.count r.first ]) k ≡ None
by_form r k true h = counted_out (slice_index r.first 0) r.count k h
by_form r k false h = taken_out r.count k r.first h

pub named_out : (r : Regs) (k : ℕ) → r.count ≤ k → slice_get (named_registers r) k ≡ None
named_out r k h = by_form r k r.range h
