-- What is said of a program that is to be verified: what its parts give together, that it is one thing, and that it is exact.
use Rattle.std.proofs.Common.{◌≡◌, ℕ, ◌<◌, ◌≤◌, List, length, Ok, Err, arith, ap, sym, subst, ◌∙◌}
use Rattle.dv_defs.specs.declared.faults.Fault.{Fault}
use Rattle.dv_typing.specs.Accepting.{Accepts, AreImageFaults}
use Rattle.dv_defs.specs.Images.{Image}
use Rattle.law_flow.proofs.FaultsLaw.{image_faults_are_one}
use Rattle.law_flow.proofs.HierarchyLaw.{linked_classes_are_hierarchies}
use Rattle.dv_console.specs.declared.refusals.Refusal.{Refusal}
use Rattle.dv_console.specs.Faults.{accepted_text}
use Rattle.dv_console.specs.Refusals.{refusal_text}
use Rattle.dv_load.specs.declared.errors.ProgramError.{ProgramError}
use Rattle.dv_load.specs.declared.errors.ProgramError.TheVariants as program
use Rattle.dv_load.specs.Images.{Answers, image_in}
use Rattle.dv_pverify.specs.declared.errors.VerifyError.{VerifyError}
use Rattle.dv_pverify.specs.declared.errors.VerifyError.TheVariants as verify
use Rattle.dv_pverify.specs.Errors.{IfFaults}
use Rattle.dv_load.proofs.LinkedTexts.{texts_give_images}
use Rattle.dv_top.specs.declared.status.Status.{Status}
use Rattle.dv_top.specs.declared.status.Status.TheVariants as exit
use Rattle.dv_top.specs.Answering.{IsReadOf}
use Rattle.dv_top.specs.Laws.{IsVerdict}
use Rattle.dv_top.specs.Said.{IsSaidOfVerifying, TooLargeToVerify, NoImage, Faulty, Accepted, fault_lines, too_large, text_limit}
use Rattle.dv_top.specs.Status.{code_of}
use Rattle.dv_top.proofs.AnsweringLemmas.{found_in, large_or_small, ok_or_err, read_past, same_err, same_ok}

-- ---- what a reply says

pub said_too_large_to_verify : (bytes text : List ℕ) (status : ℕ) (reply : List ℕ) → IsReadOf bytes text → text_limit < length text → status ≡ code_of exit.TooLarge → reply ≡ too_large → IsSaidOfVerifying bytes status reply
said_too_large_to_verify bytes text status reply is many told prints = TooLargeToVerify (read_past bytes text is many) (told, prints)

pub said_no_image : (bytes text : List ℕ) (error : ProgramError) (status : Status) (reply : List ℕ) → IsReadOf bytes text → length text ≤ text_limit → Answers (image_in text) (Err error) → (status ≡ exit.BadText) × ((why : Refusal) × (error ≡ program.Refused why) × (reply ≡ refusal_text why)) → IsSaidOfVerifying bytes (code_of status) reply
said_no_image bytes text (program.Refused other) status reply is few answers (told, (why, e, prints)) =
    let found = found_in image_in bytes text (Err other) is few answers in
    let same : why ≡ other = cc in
    NoImage found.0 other found.1 (ap code_of told, prints ∙ ap refusal_text same)
said_no_image bytes text program.Memory status reply is few answers (told, (why, e, prints)) = absurd (cc)

-- the image of what was read is that of the bytes
pub image_of_read : (bytes text : List ℕ) (image : Image) → IsReadOf bytes text → length text ≤ text_limit → image_in text ≡ Ok image → (length bytes ≤ text_limit) × (image_in bytes ≡ Ok image)
image_of_read bytes text image is few gives = found_in image_in bytes text (Ok image) is few gives

pub said_accepted : (bytes : List ℕ) (image verified : Image) (status : ℕ) (line reply : List ℕ) → length bytes ≤ text_limit → image_in bytes ≡ Ok image → Accepts image → verified ≡ image → line ≡ accepted_text verified → status ≡ code_of exit.Done → reply ≡ line → IsSaidOfVerifying bytes status reply
said_accepted bytes image verified status line reply few gives holds same is told prints = Accepted few image gives holds (told, prints ∙ (is ∙ ap accepted_text same))

pub said_faulty : (A : Type 0) (bytes : List ℕ) (image : Image) (error : VerifyError) (status : Status) (reply : List ℕ) → length bytes ≤ text_limit → image_in bytes ≡ Ok image → IfFaults {A = A} (Err error) (λ i fs. i ≡ image) → IfFaults {A = A} (Err error) (λ i fs. AreImageFaults image fs) → IfFaults {A = A} (Err error) (λ i fs. Accepts image → ⊥) → (status ≡ exit.Refused) × ((i : Image) × (fs : List Fault) × (error ≡ verify.Faults i fs) × (reply ≡ fault_lines i fs)) → IsSaidOfVerifying bytes (code_of status) reply
said_faulty A bytes image (verify.Faults refused faults) status reply few gives same are broken (told, (i, fs, e, prints)) =
    let images : i ≡ image = cc in
    let all : fs ≡ faults = cc in
    Faulty few image gives broken faults are (ap code_of told, prints ∙ (ap (λ (x : Image). fault_lines x fs) images ∙ ap (λ xs. fault_lines image xs) all))
said_faulty A bytes image verify.Memory status reply few gives same are broken (told, (i, fs, e, prints)) = absurd (cc)

-- ---- one thing is said

-- the image of a text has one list of faults
faults_once : (bytes : List ℕ) (image : Image) (fs gs : List Fault) → image_in bytes ≡ Ok image → AreImageFaults image fs → AreImageFaults image gs → fs ≡ gs
faults_once bytes image fs gs gives a b =
    image_faults_are_one image (linked_classes_are_hierarchies image (texts_give_images bytes image gives)).0 fs gs a b

pub verified_once : (bytes : List ℕ) (s t : ℕ) (a b : List ℕ) → IsSaidOfVerifying bytes s a → IsSaidOfVerifying bytes t b → (s ≡ t) × (a ≡ b)
verified_once bytes s t a b (TooLargeToVerify many r) (TooLargeToVerify _ q) = (r.0 ∙ sym q.0, r.1 ∙ sym q.1)
verified_once bytes s t a b (TooLargeToVerify many r) (NoImage few why refused q) = absurd (large_or_small _ many few)
verified_once bytes s t a b (TooLargeToVerify many r) (Faulty few image gives broken fs are q) = absurd (large_or_small _ many few)
verified_once bytes s t a b (TooLargeToVerify many r) (Accepted few image gives holds q) = absurd (large_or_small _ many few)
verified_once bytes s t a b (NoImage few why refused r) (TooLargeToVerify many q) = absurd (large_or_small _ many few)
verified_once bytes s t a b (NoImage few why refused r) (NoImage _ other again q) =
    let same = same_err (image_in bytes) why other refused again in
    (r.0 ∙ sym q.0, r.1 ∙ (ap refusal_text same ∙ sym q.1))
verified_once bytes s t a b (NoImage few why refused r) (Faulty _ image gives broken fs are q) = absurd (ok_or_err (image_in bytes) image why gives refused)
verified_once bytes s t a b (NoImage few why refused r) (Accepted _ image gives holds q) = absurd (ok_or_err (image_in bytes) image why gives refused)
verified_once bytes s t a b (Faulty few image gives broken fs are r) (TooLargeToVerify many q) = absurd (large_or_small _ many few)
verified_once bytes s t a b (Faulty few image gives broken fs are r) (NoImage _ why refused q) = absurd (ok_or_err (image_in bytes) image why gives refused)
verified_once bytes s t a b (Faulty few image gives broken fs are r) (Faulty _ other again _ gs too q) =
    let same = same_ok (image_in bytes) image other gives again in
    let P : Image → Type 0 = λ i. AreImageFaults i fs in
    let faults = faults_once bytes other fs gs again (subst P same are) too in
    (r.0 ∙ sym q.0, r.1 ∙ (ap (λ i. fault_lines i fs) same ∙ (ap (λ xs. fault_lines other xs) faults ∙ sym q.1)))
verified_once bytes s t a b (Faulty few image gives broken fs are r) (Accepted _ other again holds q) =
    absurd (broken (subst Accepts (sym (same_ok (image_in bytes) image other gives again)) holds))
verified_once bytes s t a b (Accepted few image gives holds r) (TooLargeToVerify many q) = absurd (large_or_small _ many few)
verified_once bytes s t a b (Accepted few image gives holds r) (NoImage _ why refused q) = absurd (ok_or_err (image_in bytes) image why gives refused)
verified_once bytes s t a b (Accepted few image gives holds r) (Faulty _ other again broken fs are q) =
    absurd (broken (subst Accepts (same_ok (image_in bytes) image other gives again) holds))
verified_once bytes s t a b (Accepted few image gives holds r) (Accepted _ other again _ q) =
    let same = same_ok (image_in bytes) image other gives again in
    (r.0 ∙ sym q.0, r.1 ∙ (ap accepted_text same ∙ sym q.1))

-- ---- verdicts are exact

pub is_verdict : (bytes : List ℕ) (status : ℕ) (text : List ℕ) → length bytes ≤ text_limit → IsSaidOfVerifying bytes status text → IsVerdict bytes status
is_verdict bytes status text few (TooLargeToVerify many r) = absurd (large_or_small _ many few)
is_verdict bytes status text few (NoImage _ why refused r) =
    let told = r.0 in
    record {
      no_image = (λ _. (why, refused), λ _. told);
      refused = (λ e. absurd (omega arith), λ (image, gives, broken). absurd (ok_or_err (image_in bytes) image why gives refused));
      accepted = (λ e. absurd (omega arith), λ (image, gives, holds). absurd (ok_or_err (image_in bytes) image why gives refused));
    }
is_verdict bytes status text few (Faulty _ image gives broken fs are r) =
    let told = r.0 in
    record {
      no_image = (λ e. absurd (omega arith), λ (why, refused). absurd (ok_or_err (image_in bytes) image why gives refused));
      refused = (λ _. (image, gives, broken), λ _. told);
      accepted = (λ e. absurd (omega arith), λ (other, again, holds). absurd (broken (subst Accepts (sym (same_ok (image_in bytes) image other gives again)) holds)));
    }
is_verdict bytes status text few (Accepted _ image gives holds r) =
    let told = r.0 in
    record {
      no_image = (λ e. absurd (omega arith), λ (why, refused). absurd (ok_or_err (image_in bytes) image why gives refused));
      refused = (λ e. absurd (omega arith), λ (other, again, broken). absurd (broken (subst Accepts (same_ok (image_in bytes) image other gives again) holds)));
      accepted = (λ _. (image, gives, holds), λ _. told);
    }
