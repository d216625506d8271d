-- The first register that an instruction names.
use Rattle.std.proofs.Common.{◌≡◌, ◌<◌, ℕ, zero, suc, Bool, true, false, List, [], ◌∷◌, take, refl, arith}
use Rattle.std.specs.Prelude.{slice_index}
use Rattle.dv_defs.specs.declared.code.Regs.{Regs}
use Rattle.dv_defs.specs.Op.{count_up, named_registers}
use Rattle.dv_typing.specs.Transfer.{first_of}

first_up : (from n : ℕ) → 0 < n → first_of (count_up from n) ≡ from
first_up from zero h = absurd (omega arith)
first_up from (suc n) h = refl

first_taken : (n : ℕ) (ks : List ℕ) → 0 < n → first_of (take n ks) ≡ slice_index ks 0
first_taken zero ks h = absurd (omega arith)
first_taken (suc n) [] h = refl
first_taken (suc n) (k ∷ ks) h = refl

first_by : (range : Bool) (n : ℕ) (ks : List ℕ) → 0 < n →
    first_of (elim range [ true ↦ count_up (slice_index ks 0) n | false ↦ take n ks ]) ≡ slice_index ks 0
first_by true n ks h = first_up (slice_index ks 0) n h
first_by false n ks h = first_taken n ks h

pub first_named : (r : Regs) → 0 < r.count → first_of (named_registers r) ≡ slice_index r.first 0
first_named r h = first_by r.range r.count r.first h

none_by : (range : Bool) (n : ℕ) (ks : List ℕ) → n ≡ 0 →
    first_of (elim range [ true ↦ count_up (slice_index ks 0) n | false ↦ take n ks ]) ≡ 0
none_by true n ks h = rw h refl
none_by false n ks h = rw h refl

pub none_named : (r : Regs) → r.count ≡ 0 → first_of (named_registers r) ≡ 0
none_named r h = none_by r.range r.count r.first h
