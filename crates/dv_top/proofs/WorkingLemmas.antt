-- What an answer owes of a run by workers, from what the run came to.
use Rattle.std.proofs.Common.{◌≡◌, ◌≢◌, ℕ, zero, suc, ◌+◌, ◌++◌, List, [], ◌∷◌, take, All, Option, Some, inl, inr, arith, ap, refl, subst, sym, append_assoc, ◌∙◌}
use Rattle.std.specs.Prelude.{◌⊎◌}
use Rattle.std.proofs.lemmas.List.Elements.{All-nil}
use Rattle.dv_defs.specs.declared.names.MethodId.{MethodId}
use Rattle.dv_defs.specs.declared.run.Entry.{Entry}
use Rattle.dv_defs.specs.declared.run.Limits.{Limits}
use Rattle.dv_defs.specs.Images.{Image}
use Rattle.dv_defs.specs.Linked.{IsImage}
use Rattle.dv_defs.specs.Pools.{Method, method_at}
use Rattle.dv_console.specs.declared.command.Cmd.{Cmd}
use Rattle.dv_console.specs.declared.command.Cmd.TheVariants as cmd
use Rattle.dv_gen.specs.Demo.{program_text}
use Rattle.dv_io.specs.Io.{HasRisen, TookPart, after_taking, after_write}
use Rattle.dv_machine.specs.Final.{final_text}
use Rattle.dv_machine.specs.Mains.{HasMain}
use Rattle.dv_machine.specs.Opening.{opening}
use Rattle.dv_machine.specs.Replaying.{IsLegal, Stands, replay}
use Rattle.dv_machine.specs.State.{Machine}
use Rattle.dv_machine.specs.WellTyped.{Typings}
use Rattle.dv_words.specs.State.{WordMachine}
use Rattle.dv_core.specs.declared.vm.Vm.{Vm}
use Rattle.dv_core.specs.Machines.{machine_of}
use Rattle.dv_sound.specs.Moves.{IsGood, StandsFor}
use Rattle.dv_sound.specs.Runs.{Run}
use Rattle.dv_final.specs.Final.{final_lines_of}
use Rattle.dv_final.specs.Laws.{FinalLinesFollow}
use Rattle.dv_workers.specs.Entries.{IsOfWorker}
use Rattle.dv_top.specs.declared.by_workers.Working.{Working}
use Rattle.dv_top.specs.declared.closing.Closing.{Closing}
use Rattle.dv_top.specs.declared.preparing.Prepared.{Prepared}
use Rattle.dv_top.specs.declared.preparing.Prepared.TheVariants as prepared
use Rattle.dv_top.specs.declared.program.Program.{Program}
use Rattle.dv_top.specs.declared.reply.Reply.{Reply}
use Rattle.dv_top.specs.declared.status.Status.{Status}
use Rattle.dv_top.specs.declared.status.Status.TheVariants as exit
use Rattle.dv_top.specs.Answering.{ByTurns, HasTaken, IsAnswer, IsIdle, IsPartOfRun, IsPartlyPrinted, IsPrinted, IsTold}
use Rattle.dv_top.specs.Preparing.{IsFound, IsPrepared, IsReady}
use Rattle.dv_top.specs.Programs.{program_to_run}
use Rattle.dv_top.specs.Runs.{IsRun, closing_text}
use Rattle.dv_top.specs.Said.{IsAccepted, IsSaid, IsSaidOfNoRun, NotRun, Ran, ToBeRun, text_limit}
use Rattle.dv_top.specs.Status.{code_of}
use Rattle.dv_top.specs.Words.{ReadsSource, demo_class, run_asked, text_asked}
use Rattle.dv_top.specs.Working.{Ended, Followed, IsFollowed, IsRunOf, IsRunOfMain, IsRunOfText, IsWorked, NotFollowed, NotPrepared, PartlyEnded, PartlyFollowed, RunOrReplied, Stopped, by_workers, tail_of}
use Rattle.dv_top.specs.Written.{Front, IsWritten, Whole}
use Rattle.dv_top.proofs.AnswerLemmas.{IsReplyTo, busy_not_idle, by_reported, no_words, run_by_workers, run_has_class, run_not_replay, run_some, wanting_not_idle}
use Rattle.dv_top.proofs.AnsweringLemmas.{part_taken, partly_printed, printed}
use Rattle.dv_top.proofs.EndedLemmas.{final_is}
use Rattle.dv_top.proofs.RunLemmas.{not_idle, run_status}
use Rattle.dv_top.proofs.RunningLemmas.{main_found, main_there, moved}
use Rattle.dv_top.proofs.Written.{after_none, after_two, took_more}

-- ---- output

-- what the words have printed is what the state has
pub same_output : (image : Image) (T : Typings) (v : Vm) (m : Machine) (w : WordMachine) → machine_of v ≡ w → StandsFor image T v m → w.shared.output ≡ m.shared.output
same_output image T v m w same at = ap (λ (x : WordMachine). x.shared.output) (sym same) ∙ at.simulated.stands.shared.output

-- behind it stand the machine's lines and the schedule
pub tail_is : (r : Run) (T : Typings) (v : Vm) (m : Machine) (behind : Closing) → FinalLinesFollow → IsImage r.verified.image → IsGood r.verified.image T → machine_of v ≡ r.machine → StandsFor r.verified.image T v m → r.machine.shared.output ++ tail_of r behind ≡ final_text r.verified.image m ++ closing_text behind r.log
tail_is r T v m behind law is good same at =
    let prints : r.machine.shared.output ≡ v.guest.output.items = ap (λ (x : WordMachine). x.shared.output) (sym same) in
    let lines : final_lines_of r.verified.image r.machine ≡ final_lines_of r.verified.image (machine_of v) = ap (λ (x : WordMachine). final_lines_of r.verified.image x) (sym same) in
    sym (append_assoc r.machine.shared.output (final_lines_of r.verified.image r.machine) (closing_text behind r.log)) ∙
    ap (λ text. text ++ closing_text behind r.log) (final_is r.verified.image T v m r.machine.shared.output (final_lines_of r.verified.image r.machine) law is good at prints lines)

take_nil : (n : ℕ) → take n (let none : List ℕ = [] in none) ≡ []
take_nil zero = refl
take_nil (suc n) = refl

-- a part of nothing is nothing
took_nothing : (old new : Option (List ℕ)) (text : List ℕ) → text ≡ [] → TookPart old new text → new ≡ old
took_nothing old new text none (n, took) =
    took ∙ (ap (λ t. after_write (take n t) old) none ∙ (ap (λ t. after_write t old) (take_nil n) ∙ sym (after_none old)))

-- a run that has just begun has printed nothing
nothing_printed : (image : Image) (main : Method) (limits : Limits) (log : List Entry) (m : Machine) → log ≡ [] → replay image main limits log ≡ Stands m → m.shared.output ≡ []
nothing_printed image main limits log m none at =
    let stands : Stands (opening image main limits) ≡ Stands m = ap (λ l. replay image main limits l) (sym none) ∙ at in
    let same : opening image main limits ≡ m = cc in
    ap (λ (x : Machine). x.shared.output) (sym same)

-- ---- the tail, written

pub followed_by : {K : Type 0} (taken : K → Option (List ℕ)) (faults : K → ℕ) (image : Image) (main : Method) (limits : Limits) (log : List Entry) (behind : Closing) (output : List ℕ) (own status : Status) (tail : List ℕ) (sink sink_after : K) → IsRun image main limits log behind (code_of own) (output ++ tail) → IsWritten taken faults own tail sink sink_after status → IsFollowed image main limits log behind output (taken sink) (taken sink_after) (code_of status)
followed_by taken faults image main limits log behind output own status tail sink sink_after run (Whole same took) =
    Followed tail (subst (λ (s : Status). IsRun image main limits log behind (code_of s) (output ++ tail)) (sym same) run) took
followed_by taken faults image main limits log behind output own status tail sink sink_after run (Front fault risen part) = PartlyFollowed (code_of own) tail run part (ap code_of fault)

-- a write failed where the status tells of it
pub risen_by : {K : Type 0} (taken : K → Option (List ℕ)) (faults : K → ℕ) (own status : Status) (tail : List ℕ) (sink sink_after : K) → IsWritten taken faults own tail sink sink_after status → own ≢ exit.WriteFault → status ≡ exit.WriteFault → HasRisen (faults sink) (faults sink_after)
risen_by taken faults own status tail sink sink_after (Whole same took) good told = absurd (good (sym same ∙ told))
risen_by taken faults own status tail sink sink_after (Front fault risen part) good told = risen

-- ---- runs

-- memory was wanting for the opening
pub not_opened : (image : Image) (main : Method) (limits : Limits) (log : List Entry) (behind : Closing) (before after : Option (List ℕ)) (status : ℕ) → log ≡ [] → after ≡ before → status ≡ code_of exit.NoMemory → IsWorked image main limits log behind before after status
not_opened image main limits log behind before after status none same want =
    Stopped (opening image main limits) (ap (λ es. replay image main limits es) none) (0, same ∙ after_none before) (inr want)

module _ (image : Image) (main : Method) (limits : Limits) (log : List Entry) (behind : Closing) (before after : Option (List ℕ)) where
  -- all of the output was written, and what stands behind it
  pub worked_by : (mid : Option (List ℕ)) (m : Machine) (output : List ℕ) (status : ℕ) → replay image main limits log ≡ Stands m → output ≡ m.shared.output → mid ≡ after_write output before → IsFollowed image main limits log behind output mid after status → IsWorked image main limits log behind before after status
  worked_by mid m output status at same whole (Followed tail run took) =
      Ended (output ++ tail) run (took ∙ (ap (after_write tail) whole ∙ after_two output tail before))
  worked_by mid m output status at same whole (PartlyFollowed own tail run part fault) =
      PartlyEnded own (output ++ tail) run (took_more before mid after output tail whole part) fault
  worked_by mid m output status at same whole (NotFollowed kept want) =
      Stopped m at (whole_taken (kept ∙ (whole ∙ ap (λ t. after_write t before) same))) (inr want)
    where
      all : (xs : List ℕ) → (n : ℕ) × (take n xs ≡ xs)
      all [] = (0, refl)
      all (x ∷ xs) = let more = all xs in (suc more.0, ap (λ ys. x ∷ ys) more.1)

      whole_taken : after ≡ after_write m.shared.output before → TookPart before after m.shared.output
      whole_taken is = let n = all m.shared.output in (n.0, is ∙ ap (λ t. after_write t before) (sym n.1))

  abbrev Works : ℕ → Type 0
  Works status = IsWorked image main limits log behind before after status

  worked_legal : (status : ℕ) → Works status → IsLegal image main limits log
  worked_legal status (Ended text run took) = (run.machine, run.replayed)
  worked_legal status (PartlyEnded own text run part fault) = (run.machine, run.replayed)
  worked_legal status (Stopped m at part which) = (m, at)

  worked_took : (status : ℕ) → Works status → HasTaken before after
  worked_took status (Ended text run took) = (text, took)
  worked_took status (PartlyEnded own text run part fault) = part_taken before after text part
  worked_took status (Stopped m at part which) = part_taken before after m.shared.output part

  worked_not_idle : (status : ℕ) → Works status → IsIdle status → ⊥
  worked_not_idle status (Ended text run took) idle = not_idle status (run_status image main limits log behind status text run) idle
  worked_not_idle status (PartlyEnded own text run part fault) idle = busy_not_idle status fault idle
  worked_not_idle status (Stopped m at part (inl fault)) idle = busy_not_idle status fault idle
  worked_not_idle status (Stopped m at part (inr want)) idle = wanting_not_idle status want idle

  -- memory was wanting as the run began
  worked_nothing : (status : ℕ) → Works status → status ≡ code_of exit.NoMemory → log ≡ [] → after ≡ before
  worked_nothing status (Ended text run took) want none = absurd ((run_status image main limits log behind status text run).enough want)
  worked_nothing status (PartlyEnded own text run part fault) want none = absurd (omega (arith, fault, want))
  worked_nothing status (Stopped m at part which) want none = took_nothing before after m.shared.output (nothing_printed image main limits log m none at) part

-- ---- answers

module _ (asked : Option Cmd) (class : List ℕ) (how : Working) (asks : run_asked asked ≡ Some (by_workers class how)) where
  module _ (bytes : List ℕ) (log : List Entry) (before after : Option (List ℕ)) (p : Program) (main : Method) where
    abbrev Own : ℕ → Type 0
    Own status = IsWorked p.image main how.limits log how.behind before after status

    abbrev Is : Type 0
    Is = IsAccepted bytes (program_to_run class bytes) p main

    said_run : (status : ℕ) (text : List ℕ) → Is → All IsOfWorker log → IsRun p.image main how.limits log how.behind status text → IsSaid asked bytes log status text
    said_run status text is entries run = ToBeRun (by_workers class how) asks (Ran p main is entries run)

    part_of : (m : Machine) → Is → replay p.image main how.limits log ≡ Stands m → TookPart before after m.shared.output → IsPartOfRun asked bytes log before after
    part_of m is at part =
        record { run = by_workers class how; is_asked = asks; unseeded = refl; program = p; main = main; accepted = is; machine = m; replayed = at; took = part }

    printed_by : (status : ℕ) → Is → All IsOfWorker log → Own status → IsTold status → IsPrinted asked bytes log status before after
    printed_by status is entries (Ended text run took) told = printed asked bytes log status text before after (said_run status text is entries run) took
    printed_by status is entries (PartlyEnded own text run part fault) told = absurd (told.no_write_fault fault)
    printed_by status is entries (Stopped m at part (inl fault)) told = absurd (told.no_write_fault fault)
    printed_by status is entries (Stopped m at part (inr want)) told = absurd (told.no_want want)

    cut_by : (status : ℕ) → Is → All IsOfWorker log → Own status → status ≡ code_of exit.WriteFault → IsPartlyPrinted asked bytes log before after ⊎ IsPartOfRun asked bytes log before after
    cut_by status is entries (Ended text run took) told = absurd ((run_status p.image main how.limits log how.behind status text run).good_sink told)
    cut_by status is entries (PartlyEnded own text run part fault) told = inl (partly_printed asked bytes log own text before after (said_run own text is entries run) part)
    cut_by status is entries (Stopped m at part which) told = inr (part_of m is at part)

    wanting_by : (status : ℕ) → Is → Own status → status ≡ code_of exit.NoMemory → IsPartOfRun asked bytes log before after
    wanting_by status is (Ended text run took) want = absurd ((run_status p.image main how.limits log how.behind status text run).enough want)
    wanting_by status is (PartlyEnded own text run part fault) want = absurd (omega (arith, fault, want))
    wanting_by status is (Stopped m at part which) want = part_of m is at part

  module _ {S K : Type 0} (left : S → Option (List ℕ)) (read_faults : S → ℕ) (taken : K → Option (List ℕ)) (write_faults : K → ℕ) (source source_after : S) where
    -- what becomes of the source
    abbrev IsReadIf : Type 0
    IsReadIf = ReadsSource asked → left source_after ≡ after_taking (text_limit + 1) (left source)

    abbrev IsLeftElse : Type 0
    IsLeftElse = (ReadsSource asked → ⊥) → source_after ≡ source

    -- nothing ran
    reply_to_not_run : (log : List Entry) (reply : Reply) → log ≡ [] → IsTold (code_of reply.status) × (code_of reply.status ≢ code_of exit.Usage) → IsReadIf → IsLeftElse → ((bytes : List ℕ) → text_asked asked (left source) ≡ Some bytes → IsSaidOfNoRun bytes (program_to_run class bytes) (code_of reply.status) reply.text.items) → IsReplyTo left asked source source_after log (code_of reply.status) reply.text.items
    reply_to_not_run log reply none told read kept said = record {
      unread = λ unread. absurd (run_some asked (by_workers class how) asks unread);
      usage = λ usage. absurd (told.1 usage);
      told = told.0;
      source_left = kept;
      source_read = read;
      said = λ bytes is. ToBeRun (by_workers class how) asks (NotRun (said bytes is));
      entries = subst (All IsOfWorker) (sym none) (All-nil IsOfWorker);
      idle = λ _. none;
      not_run = λ _. none;
      legal = λ bytes is ran. absurd (ran none);
    }

    module _ (sink sink_after : K) (image : Image) (number : MethodId) (log : List Entry) (status : ℕ) where
      abbrev Each : Type 0
      Each = (m : Method) → method_at image number.0 ≡ Some m → IsWorked image m how.limits log how.behind (taken sink) (taken sink_after) status

      -- of the program that was found
      own_worked : (bytes : List ℕ) → (f : IsFound bytes (program_to_run class bytes) image number) → Each → IsWorked f.program.image f.main how.limits log how.behind (taken sink) (taken sink_after) status
      own_worked bytes f works =
          moved (λ (i : Image) (l : Limits) es. IsWorked i f.main l es how.behind (taken sink) (taken sink_after) status) image f.program.image how.limits how.limits log log f.image_is refl refl (works f.main (main_found bytes (program_to_run class bytes) image number f))

      worked : HasMain image number.0 → IsRunOfMain taken write_faults how image number sink sink_after log status → IsReadIf → IsLeftElse → ((bytes : List ℕ) → text_asked asked (left source) ≡ Some bytes → IsFound bytes (program_to_run class bytes) image number) → IsAnswer left read_faults taken write_faults asked source source_after sink sink_after log status
      worked h run read kept found =
          let works = run.worked in
          let own = works h.method (main_there image number.0 h) in
          let before = taken sink in
          let after = taken sink_after in
          let no_fault : status ≢ code_of exit.ReadFault = λ told. worked_not_idle image h.method how.limits log how.behind before after status own (inr (inl told)) in record {
            unread = λ unread. absurd (run_some asked (by_workers class how) asks unread);
            usage = λ told. absurd (worked_not_idle image h.method how.limits log how.behind before after status own (inl told));
            read_fault = λ told. absurd (no_fault told);
            write_fault = run.write_fault;
            usage_part = λ unread. absurd (run_some asked (by_workers class how) asks unread);
            source_left = λ unread. (kept unread, no_fault);
            no_memory = λ told which. elim which [ inl none ↦ worked_nothing image h.method how.limits log how.behind before after status own told none | inr alone ↦ absurd (alone (run_by_workers asked (by_workers class how) asks refl)) ];
            wanting = λ bytes is told by ran. let f = found bytes is in wanting_by bytes log before after f.program f.main status f.accepted (own_worked bytes f works) told;
            took = worked_took image h.method how.limits log how.behind before after status own;
            source_read = λ reads _ _. read reads;
            said = λ bytes is told. let f = found bytes is in printed_by bytes log before after f.program f.main status f.accepted run.entries (own_worked bytes f works) told;
            part = λ bytes is told. let f = found bytes is in cut_by bytes log before after f.program f.main status f.accepted run.entries (own_worked bytes f works) told;
            entries = run.entries;
            idle = λ idle. absurd (worked_not_idle image h.method how.limits log how.behind before after status own idle);
            not_run = λ unnamed. absurd (run_has_class asked (by_workers class how) asks unnamed);
            legal = λ bytes is ran. let f = found bytes is in ByTurns (by_workers class how) asks (record { program = f.program; main = f.main; accepted = f.accepted; legal = worked_legal f.program.image f.main how.limits log how.behind before after status (own_worked bytes f works); turns = run.entries });
            not_replayed = λ other limits is. absurd (run_not_replay asked (by_workers class how) other limits asks is);
          }

    -- of what was prepared, whichever it is
    pub answered : (sink sink_after : K) (p : Prepared) (log : List Entry) (status : ℕ) → IsReadIf → IsLeftElse → IsReady p → ((bytes : List ℕ) → text_asked asked (left source) ≡ Some bytes → IsPrepared bytes (program_to_run class bytes) p) → IsRunOf taken write_faults how p sink sink_after log status → IsAnswer left read_faults taken write_faults asked source source_after sink sink_after log status
    answered sink sink_after (prepared.Accepted verified main) log status read kept ready found run = worked sink sink_after verified.image main log status ready run read kept found
    answered sink sink_after (prepared.Told reply) log status read kept ready found (written, none) =
        by_reported left read_faults taken write_faults asked source source_after sink sink_after log reply.status reply.text.items status (reply_to_not_run log reply none ready read kept found) written

-- a demo, which reads no source
module _ {S K : Type 0} (left : S → Option (List ℕ)) (read_faults : S → ℕ) (taken : K → Option (List ℕ)) (write_faults : K → ℕ) (number classes threads workers : ℕ) (how : Working) (source : S) (sink sink_after : K) (log : List Entry) (status : ℕ) where
  abbrev demo : Option Cmd
  demo = Some (cmd.Demo number classes threads workers)

  pub demo_answered : run_asked demo ≡ Some (by_workers demo_class how) → IsRunOfText taken write_faults demo_class (program_text number classes threads) how sink sink_after log status → IsAnswer left read_faults taken write_faults demo source source sink sink_after log status
  demo_answered asks (NotPrepared want none same) =
      subst (λ (s : ℕ). IsAnswer left read_faults taken write_faults demo source source sink sink_after log s) (sym want) (no_words left read_faults taken write_faults demo source sink sink_after log none same)
  demo_answered asks (RunOrReplied p ready is run) =
      answered demo demo_class how asks left read_faults taken write_faults source source sink sink_after p log status (λ reads. absurd reads) (λ _. refl) ready
      (λ bytes same.
      let text : program_text number classes threads ≡ bytes = cc in
      subst (λ (b : List ℕ). IsPrepared b (program_to_run demo_class b) p) text is)
      run
