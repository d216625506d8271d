-- The faults at the addresses from one on.
use Rattle.std.proofs.Common.{◌≡◌, ℕ, zero, suc, ◌+◌, ◌-◌, ◌<◌, ◌≤◌, List, [], ◌∷◌, ◌++◌, length, Option, Some, None, refl, sym, ap, ◌∙◌, arith, append_assoc, append-nil}
use Rattle.std.specs.Prelude.{IfSome, option_map, slice_index_or}
use Rattle.std.proofs.lemmas.List.{get_or_default}
use Rattle.dv_defs.specs.declared.faults.Fault.{Fault}
use Rattle.dv_defs.specs.declared.faults.Rule.{Rule}
use Rattle.dv_typing.specs.declared.typing.RegState.{RegState}
use Rattle.dv_defs.specs.Images.{Image}
use Rattle.dv_defs.specs.Op.{Code}
use Rattle.dv_typing.specs.Statics.{At, fetch}
use Rattle.dv_typing.specs.Flow.{Typing}
use Rattle.dv_typing.specs.Accepting.{demand_at, fault_at}
use Rattle.dv_worklist.specs.Beside.{Kept, alone}
use Rattle.dv_worklist.specs.Flow.{AllFit, assigned}
use Rattle.law_infer.specs.Laws.{faults_here, faults_from}

-- where no state stands nothing is demanded
pub no_demand : (image : Image) (code : Code) (x : Option At) → None ≡ demand_at image code x None
no_demand image code (Some x) = refl
no_demand image code None = refl

pub no_demand_at : (image : Image) (code : Code) (x : Option At) (s : Option RegState) → s ≡ None → None ≡ demand_at image code x s
no_demand_at image code x s e = no_demand image code x ∙ sym (ap (demand_at image code x) e)

abbrev state_in : {T : Type 0} → Option (Kept RegState T) → Option RegState
state_in o = option_map (λ r. r.state) o

alone_at : {T : Type 0} (xs : List (Option (Kept RegState T))) (k : ℕ) → assigned (alone xs) k ≡ state_in (assigned xs k)
alone_at [] k = refl
alone_at (x ∷ xs) zero = refl
alone_at (x ∷ xs) (suc k) = alone_at xs k

-- the state of the row read at a place is the one assigned
pub read_is : {T : Type 0} (xs : List (Option (Kept RegState T))) (k : ℕ) (o : Option (Kept RegState T)) (s : Option RegState) → k < length xs → o ≡ slice_index_or xs k o → s ≡ state_in o → assigned (alone xs) k ≡ s
read_is xs k o s within read is = alone_at xs k ∙ ap state_in (get_or_default xs k None o within ∙ sym read) ∙ sym is

fit_of : (fits : ℕ → RegState → Type 0) (k : ℕ) (typing : Typing) (o : Option RegState) → typing k ≡ o → AllFit fits typing → IfSome o (fits k)
fit_of fits k typing None e all = tt
fit_of fits k typing (Some s) e all = all k s e

pub fit_read : {T : Type 0} (fits : ℕ → RegState → Type 0) (xs : List (Option (Kept RegState T))) (k : ℕ) (o : Option (Kept RegState T)) (s : Option RegState) → k < length xs → o ≡ slice_index_or xs k o → s ≡ state_in o →
    AllFit fits (assigned (alone xs)) → IfSome s (fits k)
fit_read fits xs k o s within read is all = fit_of fits k (assigned (alone xs)) s (read_is xs k o s within read is) all

module _ (image : Image) (code : Code) (typing : Typing) (n : ℕ) where
  -- one more address
  next : (at : ℕ) → at < n → faults_from image code typing at (n - at) ≡ faults_here image code typing at ++ faults_from image code typing (at + 1) (n - (at + 1))
  next at within =
      let count : n - at ≡ suc (n - (at + 1)) = omega arith in
      let after : suc at ≡ at + 1 = omega arith in
      ap (λ (k : ℕ). faults_from image code typing at k) count ∙
      ap (λ (k : ℕ). faults_here image code typing at ++ faults_from image code typing k (n - (at + 1))) after

  pub faults_on : (at : ℕ) (told later all : List Fault) (rule : Option Rule) → at < n →
      rule ≡ demand_at image code (fetch image code.method.id at) (typing at) → later ≡ told ++ fault_at code.method.id at rule →
      told ++ faults_from image code typing at (n - at) ≡ all → later ++ faults_from image code typing (at + 1) (n - (at + 1)) ≡ all
  faults_on at told later all rule within r l e =
      let rest : List Fault = faults_from image code typing (at + 1) (n - (at + 1)) in
      let here : later ≡ told ++ faults_here image code typing at = l ∙ ap (λ d. told ++ fault_at code.method.id at d) r in
      ap (λ fs. fs ++ rest) here ∙ (append_assoc told (faults_here image code typing at) rest ∙ (ap (λ fs. told ++ fs) (sym (next at within)) ∙ e))

  -- past the last
  pub faults_end : (at : ℕ) (told all : List Fault) → n ≤ at → told ++ faults_from image code typing at (n - at) ≡ all → told ≡ all
  faults_end at told all past e =
      let none : n - at ≡ 0 = omega arith in
      sym (append-nil told) ∙ (ap (λ (k : ℕ). told ++ faults_from image code typing at k) (sym none) ∙ e)
