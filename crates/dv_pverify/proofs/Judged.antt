-- What the maps and faults of judged methods say of the image.
use Rattle.std.proofs.Common.{◌≡◌, ◌<◌, ◌+◌, ℕ, zero, suc, List, [], ◌∷◌, ◌++◌, length, Option, Some, None, refl, sym, ap, ◌∙◌, subst, arith, append-nil}
use Rattle.std.specs.Prelude.{slice_get, IsSome, Err}
use Rattle.dv_defs.specs.declared.faults.Fault.{Fault}
use Rattle.dv_defs.specs.declared.image.MethodInfo.{MethodInfo}
use Rattle.dv_defs.specs.Images.{Image}
use Rattle.dv_defs.specs.Op.{Code, code_at}
use Rattle.dv_defs.specs.Pools.{Method, with_info, method_at}
use Rattle.law_flow.proofs.MethodCode.{code_is}
use Rattle.dv_typing.specs.Flow.{IsTyping}
use Rattle.dv_typing.specs.Accepting.{FaultsOf, AreFaults, AreFaultsFrom, AreImageFaults, Accepts, IsAcceptedMethod, static_places}
use Rattle.dv_rules.specs.declared.verified.Map.{Map}
use Rattle.dv_rules.specs.Verified.{typing_of, typing_at, IsVerified}
use Rattle.dv_infer.specs.Errors.{IfFaults}
use Rattle.dv_infer.specs.declared.errors.InferError.{InferError}
use Rattle.dv_infer.specs.declared.errors.InferError.TheVariants.{Faults}
use Rattle.dv_pverify.specs.Judging.{Judges, AreJudged}

-- ---- more methods, and one more

appended : {A : Type 0} (xs ys zs : List A) → (xs ++ ys) ++ zs ≡ xs ++ (ys ++ zs)
appended [] ys zs = refl
appended (x ∷ xs) ys zs = ap (λ (us : List _). x ∷ us) (appended xs ys zs)

pub judged_append : (image : Image) (n k : ℕ) (ms ns : List Map) (fs gs : List Fault) → k ≡ n + length ms → AreJudged image n ms fs →
    AreJudged image k ns gs → AreJudged image n (ms ++ ns) (fs ++ gs)
judged_append image n k [] ns fs gs at h j =
    let same : k ≡ n = omega (arith, at) in
    subst (λ (i : ℕ). AreJudged image i ns (fs ++ gs)) same (subst (λ (hs : List Fault). AreJudged image k ns (hs ++ gs)) (sym h) j)
judged_append image n k (m ∷ ms) ns fs gs at (own, rest, jm, js, e) j =
    let more = judged_append image (suc n) k ms ns rest gs (omega (arith, at)) js j in
    (own, rest ++ gs, jm, more, ap (λ (hs : List Fault). hs ++ gs) e ∙ appended own rest gs)

pub judged_one : (image : Image) (n k : ℕ) (ms : List Map) (fs own : List Fault) (m : Map) → k ≡ n + length ms → AreJudged image n ms fs →
    Judges image (code_at image k) m own → AreJudged image n (ms ++ m ∷ []) (fs ++ own)
judged_one image n k ms fs own m at h j = judged_append image n k ms (m ∷ []) fs own at h (own, [], j, refl, sym (append-nil own))

-- ---- the faults

faults_of : (image : Image) (o : Option Code) (m : Map) (own : List Fault) → Judges image o m own → FaultsOf image o own
faults_of image None m own j = j
faults_of image (Some code) m own j = j.are_faults

faults_from : (image : Image) (is : List MethodInfo) (n : ℕ) (ms : List Map) (fs : List Fault) → length ms ≡ length is → AreJudged image n ms fs → AreFaultsFrom image is n fs
faults_from image [] n [] fs e h = h
faults_from image [] n (m ∷ ms) fs e h = absurd (omega (arith, e))
faults_from image (i ∷ is) n [] fs e h = absurd (omega (arith, e))
faults_from image (i ∷ is) n (m ∷ ms) fs e (own, rest, j, js, same) =
    (own, rest, faults_of image (code_at image n) m own j, faults_from image is (suc n) ms rest (omega (arith, e)) js, same)

pub all_faults : (image : Image) (ms : List Map) (fs : List Fault) → length ms ≡ length image.methods → AreJudged image 0 ms fs → AreImageFaults image fs
all_faults image ms fs e h = faults_from image image.methods 0 ms fs e h

-- ---- no fault

none_left : {A : Type 0} (xs ys : List A) → xs ++ ys ≡ [] → xs ≡ []
none_left [] ys e = refl
none_left (x ∷ xs) ys e = absurd (cc)

none_right : {A : Type 0} (xs ys : List A) → xs ++ ys ≡ [] → ys ≡ []
none_right [] ys e = e
none_right (x ∷ xs) ys e = absurd (cc)

-- a method with a body that has no fault
pub record IsGood (image : Image) (code : Code) (m : Option Map) : Type 0 where
  pub static : static_places image code ≡ []
  pub typed : IsTyping image code (typing_at m)

good_at : (image : Image) (o : Option Code) (m : Map) (own : List Fault) (code : Code) → own ≡ [] → Judges image o m own → o ≡ Some code →
    IsGood image code (Some m)
good_at image None m own code e j h = absurd (cc)
good_at image (Some x) m own code e j h =
    subst (λ (y : Code). IsGood image y (Some m)) (ap (λ (p : Option Code). elim p [ None ↦ x | Some z ↦ z ]) h)
    (record { static = j.static e; typed = j.typed e })

good_from : (image : Image) (n : ℕ) (ms : List Map) (fs : List Fault) → fs ≡ [] → AreJudged image n ms fs → (k : ℕ) (code : Code) →
    k < length ms → code_at image (n + k) ≡ Some code → IsGood image code (slice_get ms k)
good_from image n [] fs e h k code within at = absurd (omega (arith, within))
good_from image n (m ∷ ms) fs e (own, rest, j, js, same) zero code within at =
    let none : own ++ rest ≡ [] = sym same ∙ e in
    good_at image (code_at image n) m own code (none_left own rest none) j (ap (code_at image) (omega arith) ∙ at)
good_from image n (m ∷ ms) fs e (own, rest, j, js, same) (suc k) code within at =
    let none : own ++ rest ≡ [] = sym same ∙ e in
    good_from image (suc n) ms rest (none_right own rest none) js k code (omega (arith, within)) (ap (code_at image) (omega arith) ∙ at)

info_within : (is : List MethodInfo) (n : ℕ) (i : MethodInfo) → slice_get is n ≡ Some i → n < length is
info_within [] n i at = absurd (cc)
info_within (x ∷ is) zero i at = omega arith
info_within (x ∷ is) (suc n) i at = omega (arith, info_within is n i at)

method_within : (image : Image) (n : ℕ) (o : Option MethodInfo) (m : Method) → slice_get image.methods n ≡ o → with_info image n o ≡ Some m → n < length image.methods
method_within image n None m at h = absurd (cc)
method_within image n (Some i) m at h = info_within image.methods n i at

code_within : (image : Image) (n : ℕ) (code : Code) → code_at image n ≡ Some code → n < length image.methods
unfolding method_at
code_within image n code at = method_within image n (slice_get image.methods n) code.method refl (code_is image n code at).method

good : (image : Image) (ms : List Map) (fs : List Fault) → length ms ≡ length image.methods → fs ≡ [] → AreJudged image 0 ms fs → (n : ℕ) (code : Code) →
    code_at image n ≡ Some code → IsGood image code (slice_get ms n)
good image ms fs count none h n code at =
    good_from image 0 ms fs none h n code (omega (arith, count, code_within image n code at)) (ap (code_at image) (omega arith) ∙ at)

pub is_verified : (image : Image) (ms : List Map) (fs : List Fault) → length ms ≡ length image.methods → fs ≡ [] → AreJudged image 0 ms fs → IsVerified image ms
is_verified image ms fs count none h = record {
  static = λ n code at. (good image ms fs count none h n code at).static;
  typed = λ n code at. (good image ms fs count none h n code at).typed;
}

pub is_accepted : (image : Image) (ms : List Map) → IsVerified image ms → Accepts image
is_accepted image ms v n code at = record { static = v.static n code at; typing = typing_at (slice_get ms n); is_typing = v.typed n code at }

-- ---- some fault

refuses : (image : Image) (o : Option Code) (m : Map) (own : List Fault) → ((code : Code) → o ≡ Some code → IsAcceptedMethod image code) → Judges image o m own →
    own ≡ []
refuses image None m own accepts j = j
refuses image (Some code) m [] accepts j = refl
refuses image (Some code) m (f ∷ own) accepts j = absurd (j.refused (λ e. cc) (accepts code refl))

none_from : (image : Image) (n : ℕ) (ms : List Map) (fs : List Fault) → Accepts image → AreJudged image n ms fs → fs ≡ []
none_from image n [] fs accepts h = h
none_from image n (m ∷ ms) fs accepts (own, rest, j, js, same) =
    same ∙ (ap (λ (gs : List Fault). gs ++ rest) (refuses image (code_at image n) m own (accepts n) j) ∙ none_from image (suc n) ms rest accepts js)

pub is_refused : (image : Image) (ms : List Map) (fs : List Fault) → (fs ≡ [] → ⊥) → AreJudged image 0 ms fs → Accepts image → ⊥
is_refused image ms fs some h accepts = some (none_from image 0 ms fs accepts h)

-- ---- one method

pub judges_map : (image : Image) (o : Option Code) (m : Map) → IsSome o → ((code : Code) → o ≡ Some code → static_places image code ≡ []) →
    ((code : Code) → o ≡ Some code → IsTyping image code (typing_of m)) → ((code : Code) → o ≡ Some code → AreFaults image code []) → Judges image o m []
judges_map image None m some static typed faultless = refl
judges_map image (Some code) m some static typed faultless = record {
  are_faults = faultless code refl;
  static = λ e. static code refl;
  typed = λ e. typed code refl;
  refused = λ e. absurd (e refl);
}

pub judges_faults : (image : Image) (o : Option Code) (m : Map) (fs : List Fault) → IsSome o → ((code : Code) → o ≡ Some code → AreFaults image code fs) →
    (fs ≡ [] → ⊥) → ((code : Code) → o ≡ Some code → IsAcceptedMethod image code → ⊥) → Judges image o m fs
judges_faults image None m fs some faults there refused = absurd (cc)
judges_faults image (Some code) m fs some faults there refused = record {
  are_faults = faults code refl;
  static = λ e. absurd (there e);
  typed = λ e. absurd (there e);
  refused = λ e. refused code refl;
}

-- ---- no item

pub no_items : {A : Type 0} (xs : List A) → length xs ≡ 0 → xs ≡ []
no_items [] e = refl
no_items (x ∷ xs) e = absurd (omega (arith, e))

-- ---- an error that tells faults

pub faults_told : (e : InferError) (fs : List Fault) (P : List Fault → Type 0) → e ≡ Faults fs → IfFaults {A = Map} (Err e) P → P fs
faults_told e fs P is h = subst (λ (x : InferError). IfFaults {A = Map} (Err x) P) is h
