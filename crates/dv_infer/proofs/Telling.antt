-- The clauses of what is found.
use Rattle.std.proofs.Common.{◌≡◌, ◌≢◌, ℕ, List, [], ◌∷◌, length, map, Some, Result, Ok, Err, IfOk, refl, sym, ap, ◌∙◌, subst, arith}
use Rattle.std.proofs.lemmas.Result.{IfOk-weaker}
use Rattle.dv_defs.specs.declared.faults.Fault.{Fault}
use Rattle.dv_defs.specs.Images.{Image}
use Rattle.dv_defs.specs.Op.{Code, code_at}
use Rattle.dv_typing.specs.Flow.{Typing, IsTyping, IsLeast}
use Rattle.dv_typing.specs.Accepting.{Place, static_fault, static_places, typing_faults, FaultsBy, AreFaults, IsAcceptedMethod}
use Rattle.law_flow.proofs.Statics.{own_number}
use Rattle.dv_rules.specs.declared.verified.Map.{Map}
use Rattle.dv_rules.specs.Verified.{typing_of}
use Rattle.dv_infer.specs.declared.errors.InferError.{InferError}
use Rattle.dv_infer.specs.declared.errors.InferError.TheVariants as error
use Rattle.dv_infer.specs.Errors.{IfFaults}
use Rattle.dv_infer.specs.Judged.{IsJudged, AreJudged}

-- ---- static faults

pub none_of : (fs : List Fault) → length fs ≡ 0 → fs ≡ []
none_of [] e = refl
none_of (f ∷ fs) e = absurd (omega (arith, e))

no_places : (n : ℕ) (ps : List Place) → map (static_fault n) ps ≡ [] → ps ≡ []
no_places n [] e = refl
no_places n (p ∷ ps) e = absurd (cc)

-- where none are told there are none
pub none_broken : (n : ℕ) (ps : List Place) (fs : List Fault) → fs ≡ map (static_fault n) ps → length fs ≡ 0 → ps ≡ []
none_broken n ps fs told none = no_places n ps (sym told ∙ none_of fs none)

faults_by : (image : Image) (code : Code) (n : ℕ) (ps : List Place) (fs : List Fault) → code.method.id ≡ n → fs ≡ map (static_fault n) ps → fs ≢ [] → FaultsBy image code ps fs
faults_by image code n [] fs own told some = absurd (some told)
faults_by image code n (p ∷ ps) fs own told some = told ∙ ap (λ (k : ℕ). map (static_fault k) (p ∷ ps)) (sym own)

-- where some are they are the method's
pub are_broken : (image : Image) (n : ℕ) (code : Code) (fs : List Fault) → code_at image n ≡ Some code → fs ≡ map (static_fault n) (static_places image code) → fs ≢ [] → AreFaults image code fs
are_broken image n code fs has told some = faults_by image code n (static_places image code) fs (own_number image n code has) told some

pub broken_refused : (image : Image) (n : ℕ) (code : Code) (fs : List Fault) → fs ≡ map (static_fault n) (static_places image code) → fs ≢ [] → IsAcceptedMethod image code → ⊥
broken_refused image n code fs told some accepted = some (told ∙ ap (map (static_fault n)) accepted.static)

-- ---- typing faults

pub faults_weaker : (r : Result Map InferError) (P Q : List Fault → Type 0) → ((fs : List Fault) → P fs → Q fs) → IfFaults r P → IfFaults r Q
faults_weaker (Err (error.Faults fs)) P Q on h = on fs h
faults_weaker (Err error.Memory) P Q on h = tt
faults_weaker (Ok m) P Q on h = tt

module _ (image : Image) (code : Code) (none : static_places image code ≡ []) (r : Result Map InferError) where
  by_least : (typing : Typing) (fs : List Fault) → IsLeast image code typing → fs ≡ typing_faults image code typing code.tiles → AreFaults image code fs
  by_least typing fs least are = subst (λ (ps : List Place). FaultsBy image code ps fs) (sym none) (typing, least, are)

  pub typing_told : IfOk r (IsJudged image code) → IfOk r (λ m. IsTyping image code (typing_of m))
  typing_told = IfOk-weaker r (IsJudged image code) (λ m. IsTyping image code (typing_of m)) (λ m j. j.typing)

  pub faultless_told : IfOk r (IsJudged image code) → IfOk r (λ m. AreFaults image code [])
  faultless_told =
      IfOk-weaker r (IsJudged image code) (λ m. AreFaults image code [])
      (λ m j. by_least (typing_of m) [] j.least (sym j.faultless))

  pub least_told : IfOk r (IsJudged image code) → IfOk r (λ m. IsLeast image code (typing_of m))
  least_told = IfOk-weaker r (IsJudged image code) (λ m. IsLeast image code (typing_of m)) (λ m j. j.least)

  pub faults_told : IfFaults r (AreJudged image code) → IfFaults r (λ fs. AreFaults image code fs)
  faults_told = faults_weaker r (AreJudged image code) (λ fs. AreFaults image code fs) (λ fs a. by_least a.typing fs a.least a.are)

  pub refused_told : IfFaults r (AreJudged image code) → IfFaults r (λ fs. IsAcceptedMethod image code → ⊥)
  refused_told =
      faults_weaker r (AreJudged image code) (λ fs. IsAcceptedMethod image code → ⊥)
      (λ fs a accepted. a.refused accepted.typing accepted.is_typing)
