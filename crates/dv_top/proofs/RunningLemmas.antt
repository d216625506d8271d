-- What the parts of the reply to a class that is to be run give together.
use Rattle.std.proofs.Common.{◌≡◌, ◌≢◌, ℕ, ◌<◌, ◌≤◌, List, [], length, Option, Some, Ok, Err, Result, arith, ap, refl, sym, subst, ◌∙◌}
use Rattle.std.specs.Prelude.{All, IfOk, OnErr}
use Rattle.std.proofs.lemmas.List.Elements.{All-nil}
use Rattle.dv_defs.specs.declared.faults.Fault.{Fault}
use Rattle.dv_defs.specs.declared.names.MethodId.{MethodId}
use Rattle.dv_defs.specs.declared.run.Entry.{Entry}
use Rattle.dv_defs.specs.declared.run.Limits.{Limits}
use Rattle.dv_typing.specs.Accepting.{Accepts, AreImageFaults}
use Rattle.dv_defs.specs.Images.{Image}
use Rattle.dv_defs.specs.Pools.{Method, method_at}
use Rattle.dv_console.specs.declared.refusals.Refusal.{Refusal}
use Rattle.dv_console.specs.Refusals.{refusal_text}
use Rattle.dv_load.specs.declared.errors.ProgramError.{ProgramError}
use Rattle.dv_load.specs.declared.errors.ProgramError.TheVariants as program
use Rattle.dv_load.specs.Images.{Answers}
use Rattle.dv_pverify.specs.declared.errors.VerifyError.{VerifyError}
use Rattle.dv_pverify.specs.declared.errors.VerifyError.TheVariants as verify
use Rattle.dv_pverify.specs.Errors.{IfFaults}
use Rattle.dv_rules.specs.Verified.{VerifiedValue}
use Rattle.dv_machine.specs.Opening.{opening}
use Rattle.dv_machine.specs.Replaying.{IsFinished, IsLegal, replay}
use Rattle.dv_machine.specs.State.{Machine}
use Rattle.dv_machine.specs.Mains.{HasMain}
use Rattle.dv_sound.specs.Runs.{IsAt, IsAtSome, Run}
use Rattle.dv_top.specs.declared.closing.Closing.{Closing}
use Rattle.dv_top.specs.declared.closing.Closing.TheVariants as closing
use Rattle.dv_top.specs.declared.program.Program.{Program}
use Rattle.dv_top.specs.declared.reply.Reply.{Reply}
use Rattle.dv_top.specs.declared.status.Status.{Status}
use Rattle.dv_top.specs.declared.status.Status.TheVariants as exit
use Rattle.dv_workers.specs.Entries.{IsOfWorker}
use Rattle.dv_top.specs.Answering.{IsIdle, IsLogOfReplay, IsLogOfRun, IsReadOf, IsTold}
use Rattle.dv_top.specs.Preparing.{IsFound}
use Rattle.dv_top.specs.Runs.{AreFirstTurns, AreTurns, IsRun}
use Rattle.dv_top.specs.Said.{IsAccepted, IsSaidOfNoRun, IsSaidOfReplay, IsSaidOfRun, NoProgram, Ran, Refused, Replayed as IsReplayed, ScheduleRefused, TooLarge, fault_lines, text_limit, too_large}
use Rattle.dv_top.specs.Scheduling.{IsReplyOfReplay, Refuses, Runs}
use Rattle.dv_top.specs.Status.{code_of}
use Rattle.dv_top.proofs.AnsweringLemmas.{found_in, read_past, same_some}
use Rattle.dv_top.proofs.RunLemmas.{not_idle, run_status, told_of_run}

-- ---- where a run stands

-- a run that has just begun stands at the opening
pub at_opening : (r : Run) (main : Method) → r.log ≡ [] → method_at r.verified.image r.main.0 ≡ Some main → IsAt r main (opening r.verified.image main r.machine.limits)
at_opening r main none is = record { main_is = is; replayed = ap (λ log. replay r.verified.image main r.machine.limits log) none }

-- the state to which a run's log leads
pub state_of : (r : Run) (main : Method) → IsAtSome r → method_at r.verified.image r.main.0 ≡ Some main → (m : Machine) × IsAt r main m
state_of r main some is =
    let same : some.main ≡ main = same_some (method_at r.verified.image r.main.0) some.main main some.at.main_is is in
    (some.machine, subst (λ (x : Method). IsAt r x some.machine) same some.at)

-- what is said of an image, limits and a log is said of them where they are named twice
pub moved : (P : Image → Limits → List Entry → Type 0) (image other : Image) (l k : Limits) (log es : List Entry) → image ≡ other → l ≡ k → log ≡ es → P image l log → P other k es
moved P image other l k log es images limits logs is =
    let A : Image → Type 0 = λ i. P i l log in
    let B : Limits → Type 0 = λ x. P other x log in
    let C : List Entry → Type 0 = λ x. P other k x in
    subst C logs (subst B limits (subst A images is))

-- the main method of a program that is named twice
pub main_of : (v w : VerifiedValue) (i j : MethodId) (m : Method) → v ≡ w → i ≡ j → method_at w.image j.0 ≡ Some m → method_at v.image i.0 ≡ Some m
main_of v w i j m programs mains is = ap (λ (x : VerifiedValue). method_at x.image i.0) programs ∙ (ap (λ (x : MethodId). method_at w.image x.0) mains ∙ is)

-- the image of a program that is named twice
pub image_of : (v w : VerifiedValue) → v ≡ w → v.image ≡ w.image
image_of v w same = ap (λ (x : VerifiedValue). x.image) same

-- ---- programs

pub main_there : (image : Image) (n : ℕ) (h : HasMain image n) → method_at image n ≡ Some h.method
main_there image n h = ap (λ k. method_at image k) (sym h.numbered) ∙ h.is_main.there

-- also of an image that is named twice
pub main_at : (image other : Image) (n : ℕ) → image ≡ other → (h : HasMain other n) → method_at image n ≡ Some h.method
main_at image other n same h = ap (λ (i : Image). method_at i n) same ∙ main_there other n h

pub accepted_is : (bytes : List ℕ) (found : Result Program Refusal) (p : Program) (h : HasMain p.image p.main.0) → length bytes ≤ text_limit → found ≡ Ok p → Accepts p.image → IsAccepted bytes found p h.method
accepted_is bytes found p h small is holds = record { small = small; program = is; accepted = holds; has_main = main_there p.image p.main.0 h }

-- the program isn't accepted
pub said_refused : (A : Type 0) (bytes : List ℕ) (found : Result Program Refusal) (p : Program) (error : VerifyError) (status : Status) (text : List ℕ) → length bytes ≤ text_limit → found ≡ Ok p → IfFaults {A = A} (Err error) (λ i fs. i ≡ p.image) → IfFaults {A = A} (Err error) (λ i fs. AreImageFaults p.image fs) → IfFaults {A = A} (Err error) (λ i fs. Accepts p.image → ⊥) → (status ≡ exit.Refused) × ((image : Image) × (faults : List Fault) × (error ≡ verify.Faults image faults) × (text ≡ fault_lines image faults)) → IsSaidOfNoRun bytes found (code_of status) text
said_refused A bytes found p (verify.Faults image faults) status text small is same are broken (told, (i, fs, e, prints)) =
    let images : i ≡ p.image = cc in
    let all : fs ≡ faults = cc in
    Refused small p is broken faults are (ap code_of told, prints ∙ (ap (λ (x : Image). fault_lines x fs) images ∙ ap (λ xs. fault_lines p.image xs) all))
said_refused A bytes found p verify.Memory status text small is same are broken (told, (i, fs, e, prints)) = absurd (cc)

-- the text has none
pub said_none : (bytes text : List ℕ) (f : List ℕ → Result Program Refusal) (error : ProgramError) (status : Status) (reply : List ℕ) → IsReadOf bytes text → length text ≤ text_limit → Answers (f text) (Err error) → (status ≡ exit.BadText) × ((why : Refusal) × (error ≡ program.Refused why) × (reply ≡ refusal_text why)) → IsSaidOfNoRun bytes (f bytes) (code_of status) reply
said_none bytes text f (program.Refused other) status reply read few answers (told, (why, e, prints)) =
    let found = found_in f bytes text (Err other) read few answers in
    let same : why ≡ other = cc in
    NoProgram found.0 other found.1 (ap code_of told, prints ∙ ap refusal_text same)
said_none bytes text f program.Memory status reply read few answers (told, (why, e, prints)) = absurd (cc)

pub said_large : (bytes text : List ℕ) (found : Result Program Refusal) (status : Status) (reply : List ℕ) → IsReadOf bytes text → text_limit < length text → (status ≡ exit.TooLarge) × (reply ≡ too_large) → IsSaidOfNoRun bytes found (code_of status) reply
said_large bytes text found status reply read many (told, prints) = TooLarge (read_past bytes text read many) (ap code_of told, prints)

-- ---- programs that are run

module _ (bytes : List ℕ) (found : Result Program Refusal) (image : Image) (number : MethodId) (f : IsFound bytes found image number) where
  -- the main method of one that is found
  pub main_found : method_at image number.0 ≡ Some f.main
  main_found =
      ap (λ (i : Image). method_at i number.0) f.image_is ∙ (ap (λ (n : MethodId). method_at f.program.image n.0) f.number_is ∙ f.accepted.has_main)

  module _ (seed : Option ℕ) (limits : Limits) (log : List Entry) where
    pub said_ran : (behind : Closing) (status : ℕ) (text : List ℕ) → AreTurns seed image f.main limits log × IsRun image f.main limits log behind status text → IsSaidOfRun bytes found seed limits behind log status text
    said_ran behind status text (turns, run) =
        Ran f.program f.main f.accepted
        (moved (λ (i : Image) (l : Limits) es. AreTurns seed i f.main l es) image f.program.image limits limits log log f.image_is refl refl turns)
        (moved (λ (i : Image) (l : Limits) es. IsRun i f.main l es behind status text) image f.program.image limits limits log log f.image_is refl refl run)

    pub log_of_run : IsLegal image f.main limits log × AreFirstTurns seed image f.main limits log → IsLogOfRun bytes found seed limits log
    log_of_run (legal, turns) =
        record {
          program = f.program;
          main = f.main;
          accepted = f.accepted;
          legal = moved (λ (i : Image) (l : Limits) es. IsLegal i f.main l es) image f.program.image limits limits log log f.image_is refl refl legal;
          turns = moved (λ (i : Image) (l : Limits) es. AreFirstTurns seed i f.main l es) image f.program.image limits limits log log f.image_is refl refl turns;
        }

-- ---- programs that are replayed

module _ (bytes : List ℕ) (found : Result Program Refusal) (p : Program) (image : Image) (schedule : List Entry) (limits : Limits) (log : List Entry) where
  abbrev Replies : Image → Method → List Entry → ℕ → List ℕ → Type 0
  Replies i m es status text = IsReplyOfReplay i m limits es log status text

  -- of the program's own image and schedule
  own : (m : Method) (status : ℕ) (text : List ℕ) → image ≡ p.image → schedule ≡ p.schedule → Replies image m schedule status text → Replies p.image m p.schedule status text
  own m status text images logs r = moved (λ (i : Image) (l : Limits) es. Replies i m es status text) image p.image limits limits schedule p.schedule images refl logs r

  said_by : (h : HasMain p.image p.main.0) (status : ℕ) (text : List ℕ) → IsAccepted bytes found p h.method → Replies p.image h.method p.schedule status text → IsSaidOfReplay bytes found limits log status text
  said_by h status text is (Refuses refused told none) = ScheduleRefused p h.method is text refused (told, refl)
  said_by h status text is (Runs given run) = IsReplayed p h.method is given run

  pub said_replayed : (h : HasMain p.image p.main.0) (status : ℕ) (text : List ℕ) → image ≡ p.image → schedule ≡ p.schedule → length bytes ≤ text_limit → found ≡ Ok p → Accepts p.image → Replies image h.method schedule status text → IsSaidOfReplay bytes found limits log status text
  said_replayed h status text images logs small is holds r = said_by h status text (accepted_is bytes found p h small is holds) (own h.method status text images logs r)

  log_by : (h : HasMain p.image p.main.0) (status : ℕ) (text : List ℕ) → log ≢ [] → IsAccepted bytes found p h.method → Replies p.image h.method p.schedule status text → IsLogOfReplay bytes found limits log
  log_by h status text some is (Refuses refused told none) = absurd (some none)
  log_by h status text some is (Runs given run) =
      let finished : IsFinished p.image h.method limits p.schedule = (run.machine, run.ending, run.replayed, run.ends) in
      record { program = p; main = h.method; accepted = is; given = given; finished = subst (λ (es : List Entry). IsFinished p.image h.method limits es) (sym given) finished }

  -- where memory isn't wanting, or there is no log
  pub log_of_replay : {E : Type 0} (result : Result Reply E) (h : HasMain p.image p.main.0) → image ≡ p.image → schedule ≡ p.schedule → length bytes ≤ text_limit → found ≡ Ok p → Accepts p.image → IfOk result (λ reply. Replies image h.method schedule (code_of reply.status) reply.text.items) → OnErr result (log ≡ []) → log ≢ [] → IsLogOfReplay bytes found limits log
  log_of_replay (Ok reply) h images logs small is holds r none some = log_by h (code_of reply.status) reply.text.items some (accepted_is bytes found p h small is holds) (own h.method (code_of reply.status) reply.text.items images logs r)
  log_of_replay (Err e) h images logs small is holds r none some = absurd (some none)

-- ---- what the reply to a schedule tells

module _ (image : Image) (m : Method) (limits : Limits) (schedule log : List Entry) (status : ℕ) (text : List ℕ) where
  refused_status : status ≡ code_of exit.Schedule → IsTold status × (status ≢ code_of exit.Usage)
  refused_status told = (record { no_read_fault = λ e. absurd (omega (arith, told, e)); no_write_fault = λ e. absurd (omega (arith, told, e)); no_want = λ e. absurd (omega (arith, told, e)) }, λ e. absurd (omega (arith, told, e)))

  pub told_of_replay : IsReplyOfReplay image m limits schedule log status text → IsTold status × (status ≢ code_of exit.Usage)
  told_of_replay (Refuses refused told none) = refused_status told
  told_of_replay (Runs given run) = told_of_run status (run_status image m limits schedule closing.Nothing status text run)

  pub idle_of_replay : IsReplyOfReplay image m limits schedule log status text → IsIdle status → log ≡ []
  idle_of_replay (Refuses refused told none) idle = none
  idle_of_replay (Runs given run) idle = absurd (not_idle status (run_status image m limits schedule closing.Nothing status text run) idle)

  entries_of : All IsOfWorker schedule → IsReplyOfReplay image m limits schedule log status text → All IsOfWorker log
  entries_of each (Refuses refused told none) = subst (All IsOfWorker) (sym none) (All-nil IsOfWorker)
  entries_of each (Runs given run) = subst (All IsOfWorker) (sym given) each

-- of an empty log too
pub entries_of_replay : {E : Type 0} (result : Result Reply E) (image : Image) (m : Method) (limits : Limits) (schedule log : List Entry) → All IsOfWorker schedule → IfOk result (λ reply. IsReplyOfReplay image m limits schedule log (code_of reply.status) reply.text.items) → OnErr result (log ≡ []) → All IsOfWorker log
entries_of_replay (Ok reply) image m limits schedule log each r none = entries_of image m limits schedule log (code_of reply.status) reply.text.items each r
entries_of_replay (Err e) image m limits schedule log each r none = subst (All IsOfWorker) (sym none) (All-nil IsOfWorker)
