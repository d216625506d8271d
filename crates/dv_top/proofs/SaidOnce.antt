-- One thing is said of the words, the bytes and the log.
use Rattle.std.proofs.Common.{◌≡◌, ℕ, ◌++◌, false, List, [], flat_map, Option, Some, None, Result, Ok, Err, ap, refl, sym, subst, ◌∙◌}
use Rattle.dv_defs.specs.declared.names.MethodId.{MethodId}
use Rattle.dv_defs.specs.declared.run.Entry.{Entry}
use Rattle.dv_defs.specs.declared.run.Limits.{Limits}
use Rattle.dv_typing.specs.Accepting.{Accepts, AreImageFaults}
use Rattle.dv_defs.specs.Images.{Image}
use Rattle.dv_defs.specs.Linked.{IsImage}
use Rattle.dv_defs.specs.Pools.{Method, method_at}
use Rattle.law_flow.proofs.FaultsLaw.{image_faults_are_one}
use Rattle.law_flow.proofs.HierarchyLaw.{linked_classes_are_hierarchies}
use Rattle.dv_lex.specs.declared.line.Stop.{Stop}
use Rattle.dv_lex.specs.Lines.{reading_of}
use Rattle.dv_print.specs.Listing.{class_text}
use Rattle.dv_classread.specs.declared.text.Read.{Read}
use Rattle.dv_classread.specs.Programs.{program_of}
use Rattle.dv_console.specs.declared.command.Cmd.{Cmd}
use Rattle.dv_console.specs.declared.command.Cmd.TheVariants as cmd
use Rattle.dv_console.specs.declared.refusals.Refusal.{Refusal}
use Rattle.dv_console.specs.declared.refusals.Refusal.TheVariants as refusal
use Rattle.dv_console.specs.Refusals.{refusal_text}
use Rattle.dv_console.specs.Words.{limits_of}
use Rattle.dv_load.specs.declared.program.Scheduled.{Scheduled}
use Rattle.dv_load.specs.Images.{image_in, main_in, scheduled_in}
use Rattle.dv_load.proofs.LinkedTexts.{scheduled_texts_give_images, texts_give_images}
use Rattle.dv_machine.specs.Final.{final_text}
use Rattle.dv_machine.specs.Replaying.{Replayed, Stands, replay}
use Rattle.dv_machine.specs.Running.{ending_of}
use Rattle.dv_machine.specs.State.{Machine}
use Rattle.dv_top.specs.declared.closing.Closing.{Closing}
use Rattle.dv_top.specs.declared.closing.Closing.TheVariants as closing
use Rattle.dv_top.specs.declared.program.Program.{Program}
use Rattle.dv_top.specs.declared.status.Status.TheVariants as exit
use Rattle.dv_top.specs.Programs.{of_image, of_scheduled, program_to_replay, program_to_run, with_main}
use Rattle.dv_top.specs.Runs.{IsRun, closing_text, refused_line, status_of}
use Rattle.dv_top.specs.Laws.{IsSaidOnce}
use Rattle.dv_top.specs.Said.{BadText, IsAccepted, IsReply, IsSaid, IsSaidOfListing, IsSaidOfNoRun, IsSaidOfReplay, IsSaidOfRun, IsSaidOfVerifying, Listed, NoProgram, NotReplayed, NotRun, Ran, Refused, Replayed as IsReplayed, ScheduleRefused, ToBeListed, ToBeReplayed, ToBeRun, ToBeVerified, TooLarge, TooLargeToList, Unread, fault_lines, usage}
use Rattle.dv_top.specs.Status.{code_of}
use Rattle.dv_top.specs.Words.{RunAsked, closing_of, demo_class, run_asked}
use Rattle.dv_top.proofs.AnsweringLemmas.{large_or_small, ok_or_err, same_err, same_ok, same_some}
use Rattle.dv_top.proofs.RunLemmas.{not_refused}
use Rattle.dv_top.proofs.VerifyingLemmas.{verified_once}

-- two answers are one
abbrev Same : ℕ → List ℕ → ℕ → List ℕ → Type 0
Same s a t b = (s ≡ t) × (a ≡ b)

-- ---- images of programs

-- each program that is found has an image that linking gives
abbrev pub HaveImages : Result Program Refusal → Type 0
HaveImages found = (p : Program) → found ≡ Ok p → IsImage p.image

main_of_image : (image : Image) (schedule : List Entry) (main : Result MethodId Refusal) → IsImage image → HaveImages (with_main image schedule main)
main_of_image image schedule (Ok main) is p e =
    let same : record { image = image; main = main; schedule = schedule } ≡ p = cc in
    subst (λ (q : Program). IsImage q.image) same is
main_of_image image schedule (Err why) is p e = absurd (cc)

pub images_of_run : (class bytes : List ℕ) → HaveImages (program_to_run class bytes)
images_of_run class bytes = by (image_in bytes) refl
  where
    by : (r : Result Image Refusal) → image_in bytes ≡ r → HaveImages (of_image class r)
    by (Ok image) is p e = main_of_image image [] (main_in image class) (texts_give_images bytes image is) p e
    by (Err why) is p e = absurd (cc)

pub images_of_replay : (class bytes : List ℕ) → HaveImages (program_to_replay class bytes)
images_of_replay class bytes = by (scheduled_in bytes) refl
  where
    by : (r : Result Scheduled Refusal) → scheduled_in bytes ≡ r → HaveImages (of_scheduled class r)
    by (Ok s) is p e = main_of_image s.image s.log (main_in s.image class) (scheduled_texts_give_images bytes s is) p e
    by (Err why) is p e = absurd (cc)

-- ---- nothing runs

module _ (bytes : List ℕ) (found : Result Program Refusal) where
  pub same_program : (p q : Program) → found ≡ Ok p → found ≡ Ok q → p ≡ q
  same_program p q e h = same_ok found p q e h

  not_run_once : HaveImages found → (s t : ℕ) (a b : List ℕ) → IsSaidOfNoRun bytes found s a → IsSaidOfNoRun bytes found t b → Same s a t b
  not_run_once images s t a b (TooLarge many r) (TooLarge _ q) = (r.0 ∙ sym q.0, r.1 ∙ sym q.1)
  not_run_once images s t a b (TooLarge many r) (NoProgram few why none q) = absurd (large_or_small _ many few)
  not_run_once images s t a b (TooLarge many r) (Refused few p is broken fs are q) = absurd (large_or_small _ many few)
  not_run_once images s t a b (NoProgram few why none r) (TooLarge many q) = absurd (large_or_small _ many few)
  not_run_once images s t a b (NoProgram few why none r) (NoProgram _ other again q) =
      let same = same_err found why other none again in
      (r.0 ∙ sym q.0, r.1 ∙ (ap refusal_text same ∙ sym q.1))
  not_run_once images s t a b (NoProgram few why none r) (Refused _ p is broken fs are q) = absurd (ok_or_err found p why is none)
  not_run_once images s t a b (Refused few p is broken fs are r) (TooLarge many q) = absurd (large_or_small _ many few)
  not_run_once images s t a b (Refused few p is broken fs are r) (NoProgram _ why none q) = absurd (ok_or_err found p why is none)
  not_run_once images s t a b (Refused few p is broken fs are r) (Refused _ other again _ gs too q) =
      let same = same_program p other is again in
      let P : Program → Type 0 = λ x. AreImageFaults x.image fs in
      let faults = image_faults_are_one other.image (linked_classes_are_hierarchies other.image (images other again)).0 fs gs (subst P same are) too in
      (r.0 ∙ sym q.0, r.1 ∙ (ap (λ (x : Program). fault_lines x.image fs) same ∙ (ap (λ xs. fault_lines other.image xs) faults ∙ sym q.1)))

  -- either nothing runs, or the program is accepted
  pub run_or_not : (s : ℕ) (a : List ℕ) (p : Program) (main : Method) → IsSaidOfNoRun bytes found s a → IsAccepted bytes found p main → ⊥
  run_or_not s a p main (TooLarge many r) is = large_or_small _ many is.small
  run_or_not s a p main (NoProgram few why none r) is = ok_or_err found p why is.program none
  run_or_not s a p main (Refused few q gives broken fs are r) is =
      broken (subst (λ (x : Program). Accepts x.image) (same_program p q is.program gives) is.accepted)

  pub same_main : (p q : Program) (m n : Method) → p ≡ q → IsAccepted bytes found p m → IsAccepted bytes found q n → m ≡ n
  same_main p q m n same one other =
      same_some (method_at q.image q.main.0) m n (ap (λ (x : Program). method_at x.image x.main.0) (sym same) ∙ one.has_main) other.has_main

-- ---- runs

same_stands : (r : Replayed) (m n : Machine) → r ≡ Stands m → r ≡ Stands n → m ≡ n
same_stands r m n e h = cc

-- a schedule's replay stands at one ending
run_once : (image : Image) (main : Method) (limits : Limits) (log : List Entry) (behind : Closing) (s t : ℕ) (a b : List ℕ) → IsRun image main limits log behind s a → IsRun image main limits log behind t b → Same s a t b
run_once image main limits log behind s t a b r q =
    let machine : r.machine ≡ q.machine = same_stands (replay image main limits log) r.machine q.machine r.replayed q.replayed in
    let ending : r.ending ≡ q.ending = same_some (ending_of image q.machine) r.ending q.ending (ap (λ m. ending_of image m) (sym machine) ∙ r.ends) q.ends in (
      r.tells ∙ (ap (λ m. code_of (status_of m r.ending)) machine ∙ (ap (λ e. code_of (status_of q.machine e)) ending ∙ sym q.tells)),
      r.prints ∙ (ap (λ m. final_text image m ++ closing_text behind log) machine ∙ sym q.prints),
    )

-- also where a program and its main method are named twice
pub run_moved : (p q : Program) (m n : Method) (limits : Limits) (log other : List Entry) (behind : Closing) (s : ℕ) (a : List ℕ) → p ≡ q → m ≡ n → log ≡ other → IsRun p.image m limits log behind s a → IsRun q.image n limits other behind s a
run_moved p q m n limits log other behind s a same main logs r =
    let P : Program → Type 0 = λ x. IsRun x.image m limits log behind s a in
    let Q : Method → Type 0 = λ x. IsRun q.image x limits log behind s a in
    let R : List Entry → Type 0 = λ x. IsRun q.image n limits x behind s a in
    subst R logs (subst Q main (subst P same r))

ran_once : (bytes : List ℕ) (found : Result Program Refusal) (seed : Option ℕ) (limits : Limits) (behind : Closing) (log : List Entry) → HaveImages found → (s t : ℕ) (a b : List ℕ) → IsSaidOfRun bytes found seed limits behind log s a → IsSaidOfRun bytes found seed limits behind log t b → Same s a t b
ran_once bytes found seed limits behind log images s t a b (NotRun r) (NotRun q) = not_run_once bytes found images s t a b r q
ran_once bytes found seed limits behind log images s t a b (NotRun r) (Ran p main is turns q) = absurd (run_or_not bytes found s a p main r is)
ran_once bytes found seed limits behind log images s t a b (Ran p main is turns r) (NotRun q) = absurd (run_or_not bytes found t b p main q is)
ran_once bytes found seed limits behind log images s t a b (Ran p main is turns r) (Ran other again too more q) =
    let same = same_program bytes found p other is.program too.program in
    let mains = same_main bytes found p other main again same is too in
    run_once other.image again limits log behind s t a b (run_moved p other main again limits log log behind s a same mains refl r) q

-- ---- replays

-- the line of a schedule that is refused, where its program and main method are named twice
same_line : (p q : Program) (m n : Method) (limits : Limits) (a b : List ℕ) → p ≡ q → m ≡ n → refused_line p.image p.schedule (replay p.image m limits p.schedule) ≡ Some a → refused_line q.image q.schedule (replay q.image n limits q.schedule) ≡ Some b → a ≡ b
same_line p q m n limits a b same main one other =
    let P : Program → Type 0 = λ x. refused_line x.image x.schedule (replay x.image m limits x.schedule) ≡ Some a in
    let Q : Method → Type 0 = λ x. refused_line q.image q.schedule (replay q.image x limits q.schedule) ≡ Some a in
    same_some (refused_line q.image q.schedule (replay q.image n limits q.schedule)) a b (subst Q main (subst P same one)) other

replayed_once : (bytes : List ℕ) (found : Result Program Refusal) (limits : Limits) (log : List Entry) → HaveImages found → (s t : ℕ) (a b : List ℕ) → IsSaidOfReplay bytes found limits log s a → IsSaidOfReplay bytes found limits log t b → Same s a t b
replayed_once bytes found limits log images s t a b (NotReplayed r) (NotReplayed q) = not_run_once bytes found images s t a b r q
replayed_once bytes found limits log images s t a b (NotReplayed r) (ScheduleRefused p main is line refused q) = absurd (run_or_not bytes found s a p main r is)
replayed_once bytes found limits log images s t a b (NotReplayed r) (IsReplayed p main is given q) = absurd (run_or_not bytes found s a p main r is)
replayed_once bytes found limits log images s t a b (ScheduleRefused p main is line refused r) (NotReplayed q) = absurd (run_or_not bytes found t b p main q is)
replayed_once bytes found limits log images s t a b (ScheduleRefused p main is line refused r) (ScheduleRefused other again too next more q) =
    let same = same_program bytes found p other is.program too.program in
    let mains = same_main bytes found p other main again same is too in
    (r.0 ∙ sym q.0, r.1 ∙ (same_line p other main again limits line next same mains refused more ∙ sym q.1))
replayed_once bytes found limits log images s t a b (ScheduleRefused p main is line refused r) (IsReplayed other again too given q) =
    let same = same_program bytes found p other is.program too.program in
    let mains = same_main bytes found p other main again same is too in
    let moved = run_moved other p again main limits other.schedule p.schedule closing.Nothing t b (sym same) (sym mains) (ap (λ (x : Program). x.schedule) (sym same)) q in
    absurd (not_refused p.image main limits p.schedule closing.Nothing t b line moved refused)
replayed_once bytes found limits log images s t a b (IsReplayed p main is given r) (NotReplayed q) = absurd (run_or_not bytes found t b p main q is)
replayed_once bytes found limits log images s t a b (IsReplayed p main is given r) (ScheduleRefused other again too line refused q) =
    let same = same_program bytes found p other is.program too.program in
    let mains = same_main bytes found p other main again same is too in
    let moved = run_moved p other main again limits p.schedule other.schedule closing.Nothing s a same mains (ap (λ (x : Program). x.schedule) same) r in
    absurd (not_refused other.image again limits other.schedule closing.Nothing s a line moved refused)
replayed_once bytes found limits log images s t a b (IsReplayed p main is given r) (IsReplayed other again too more q) =
    let same = same_program bytes found p other is.program too.program in
    let mains = same_main bytes found p other main again same is too in
    let moved = run_moved p other main again limits p.schedule other.schedule closing.Nothing s a same mains (ap (λ (x : Program). x.schedule) same) r in
    run_once other.image again limits other.schedule closing.Nothing s t a b moved q

-- ---- listings

listed_once : (bytes : List ℕ) (s t : ℕ) (a b : List ℕ) → IsSaidOfListing bytes s a → IsSaidOfListing bytes t b → Same s a t b
listed_once bytes s t a b (TooLargeToList many r) (TooLargeToList _ q) = (r.0 ∙ sym q.0, r.1 ∙ sym q.1)
listed_once bytes s t a b (TooLargeToList many r) (BadText few bad stops q) = absurd (large_or_small _ many few)
listed_once bytes s t a b (TooLargeToList many r) (Listed few read gives q) = absurd (large_or_small _ many few)
listed_once bytes s t a b (BadText few bad stops r) (TooLargeToList many q) = absurd (large_or_small _ many few)
listed_once bytes s t a b (BadText few bad stops r) (BadText _ other again q) =
    let same : bad ≡ other = same_err (program_of false (reading_of bytes)) bad other stops again in
    (r.0 ∙ sym q.0, r.1 ∙ (ap (λ (e : Stop). refusal_text (refusal.Line e.line e.kind)) same ∙ sym q.1))
listed_once bytes s t a b (BadText few bad stops r) (Listed _ read gives q) = absurd (ok_or_err (program_of false (reading_of bytes)) read bad gives stops)
listed_once bytes s t a b (Listed few read gives r) (TooLargeToList many q) = absurd (large_or_small _ many few)
listed_once bytes s t a b (Listed few read gives r) (BadText _ bad stops q) = absurd (ok_or_err (program_of false (reading_of bytes)) read bad gives stops)
listed_once bytes s t a b (Listed few read gives r) (Listed _ other again q) =
    let same : read ≡ other = same_ok (program_of false (reading_of bytes)) read other gives again in
    (r.0 ∙ sym q.0, r.1 ∙ (ap (λ (p : Read). flat_map class_text p.classes) same ∙ sym q.1))

-- ---- commands

-- what is said of a command
abbrev pub IsSaidOf : Option Cmd → List ℕ → List Entry → ℕ → List ℕ → Type 0
IsSaidOf None bytes log status text = IsReply exit.Usage usage status text
IsSaidOf (Some (cmd.Run class workers seed limits shown)) bytes log status text = IsSaidOfRun bytes (program_to_run class bytes) seed limits (closing_of shown) log status text
IsSaidOf (Some (cmd.Replay class limits)) bytes log status text = IsSaidOfReplay bytes (program_to_replay class bytes) limits log status text
IsSaidOf (Some cmd.List) bytes log status text = IsSaidOfListing bytes status text
IsSaidOf (Some cmd.Verify) bytes log status text = IsSaidOfVerifying bytes status text
IsSaidOf (Some (cmd.Demo number classes threads workers)) bytes log status text =
    IsSaidOfRun bytes (program_to_run demo_class bytes) None (limits_of None None) (closing.Demo classes threads) log status text

-- a command that is named twice
named_twice : (o c : Option Cmd) (bytes : List ℕ) (log : List Entry) (status : ℕ) (text : List ℕ) → o ≡ c → IsSaidOf c bytes log status text → IsSaidOf o bytes log status text
named_twice o c bytes log status text same is = subst (λ (x : Option Cmd). IsSaidOf x bytes log status text) (sym same) is

-- what is said of a run is said of the command that asks for it
of_run : (asked : Option Cmd) (r : RunAsked) (bytes : List ℕ) (log : List Entry) (status : ℕ) (text : List ℕ) → run_asked asked ≡ Some r → IsSaidOfRun bytes (program_to_run r.class bytes) r.seed r.limits r.behind log status text → IsSaidOf asked bytes log status text
of_run None r bytes log status text is said = absurd (cc)
of_run (Some (cmd.Run class workers seed limits shown)) r bytes log status text is said =
    let same : record { class = class; workers = workers; seed = seed; limits = limits; behind = closing_of shown } ≡ r = cc in
    subst (λ (x : RunAsked). IsSaidOfRun bytes (program_to_run x.class bytes) x.seed x.limits x.behind log status text) (sym same) said
of_run (Some (cmd.Replay class limits)) r bytes log status text is said = absurd (cc)
of_run (Some cmd.Verify) r bytes log status text is said = absurd (cc)
of_run (Some cmd.List) r bytes log status text is said = absurd (cc)
of_run (Some (cmd.Demo number classes threads workers)) r bytes log status text is said =
    let same : record { class = demo_class; workers = workers; seed = None; limits = limits_of None None; behind = closing.Demo classes threads } ≡ r = cc in
    subst (λ (x : RunAsked). IsSaidOfRun bytes (program_to_run x.class bytes) x.seed x.limits x.behind log status text) (sym same) said

-- ... and the other way round
run_of_said : (asked : Option Cmd) (r : RunAsked) (bytes : List ℕ) (log : List Entry) (status : ℕ) (text : List ℕ) → run_asked asked ≡ Some r → IsSaidOf asked bytes log status text → IsSaidOfRun bytes (program_to_run r.class bytes) r.seed r.limits r.behind log status text
run_of_said None r bytes log status text is said = absurd (cc)
run_of_said (Some (cmd.Run class workers seed limits shown)) r bytes log status text is said =
    let same : record { class = class; workers = workers; seed = seed; limits = limits; behind = closing_of shown } ≡ r = cc in
    subst (λ (x : RunAsked). IsSaidOfRun bytes (program_to_run x.class bytes) x.seed x.limits x.behind log status text) same said
run_of_said (Some (cmd.Replay class limits)) r bytes log status text is said = absurd (cc)
run_of_said (Some cmd.Verify) r bytes log status text is said = absurd (cc)
run_of_said (Some cmd.List) r bytes log status text is said = absurd (cc)
run_of_said (Some (cmd.Demo number classes threads workers)) r bytes log status text is said =
    let same : record { class = demo_class; workers = workers; seed = None; limits = limits_of None None; behind = closing.Demo classes threads } ≡ r = cc in
    subst (λ (x : RunAsked). IsSaidOfRun bytes (program_to_run x.class bytes) x.seed x.limits x.behind log status text) same said

-- what is said is said of the command that is asked for
pub said_of : (asked : Option Cmd) (bytes : List ℕ) (log : List Entry) (status : ℕ) (text : List ℕ) → IsSaid asked bytes log status text → IsSaidOf asked bytes log status text
said_of asked bytes log status text (Unread none r) = named_twice asked None bytes log status text none r
said_of asked bytes log status text (ToBeRun r is said) = of_run asked r bytes log status text is said
said_of asked bytes log status text (ToBeReplayed class limits is r) = named_twice asked (Some (cmd.Replay class limits)) bytes log status text is r
said_of asked bytes log status text (ToBeListed is r) = named_twice asked (Some cmd.List) bytes log status text is r
said_of asked bytes log status text (ToBeVerified is r) = named_twice asked (Some cmd.Verify) bytes log status text is r

of_one : (o : Option Cmd) (bytes : List ℕ) (log : List Entry) (s t : ℕ) (a b : List ℕ) → IsSaidOf o bytes log s a → IsSaidOf o bytes log t b → Same s a t b
of_one None bytes log s t a b r q = (r.0 ∙ sym q.0, r.1 ∙ sym q.1)
of_one (Some (cmd.Run class workers seed limits shown)) bytes log s t a b r q = ran_once bytes (program_to_run class bytes) seed limits (closing_of shown) log (images_of_run class bytes) s t a b r q
of_one (Some (cmd.Replay class limits)) bytes log s t a b r q = replayed_once bytes (program_to_replay class bytes) limits log (images_of_replay class bytes) s t a b r q
of_one (Some cmd.List) bytes log s t a b r q = listed_once bytes s t a b r q
of_one (Some cmd.Verify) bytes log s t a b r q = verified_once bytes s t a b r q
of_one (Some (cmd.Demo number classes threads workers)) bytes log s t a b r q =
    ran_once bytes (program_to_run demo_class bytes) None (limits_of None None) (closing.Demo classes threads) log (images_of_run demo_class bytes) s t a b r q

pub said_once : IsSaidOnce
said_once asked bytes log s t a b one other = of_one asked bytes log s t a b (said_of asked bytes log s a one) (said_of asked bytes log t b other)

-- what is said where a command is asked for
pub said_of_asked : (asked : Option Cmd) (c : Cmd) (bytes : List ℕ) (log : List Entry) (status : ℕ) (text : List ℕ) → asked ≡ Some c → IsSaid asked bytes log status text → IsSaidOf (Some c) bytes log status text
said_of_asked asked c bytes log status text same is = subst (λ (x : Option Cmd). IsSaidOf x bytes log status text) same (said_of asked bytes log status text is)

-- ... and where a run is
pub said_of_run : (asked : Option Cmd) (r : RunAsked) (bytes : List ℕ) (log : List Entry) (status : ℕ) (text : List ℕ) → run_asked asked ≡ Some r → IsSaid asked bytes log status text → IsSaidOfRun bytes (program_to_run r.class bytes) r.seed r.limits r.behind log status text
said_of_run asked r bytes log status text is said = run_of_said asked r bytes log status text is (said_of asked bytes log status text said)
