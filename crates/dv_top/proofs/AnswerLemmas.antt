-- What an answer owes, from what a reply owes and what became of it.
use Rattle.std.proofs.Common.{◌≡◌, ◌≢◌, ℕ, ◌+◌, Bool, List, [], All, Option, Some, None, inl, inr, arith, ap, subst, sym, refl, ◌∙◌}
use Rattle.std.proofs.lemmas.List.Elements.{All-nil}
use Rattle.dv_defs.specs.declared.run.Entry.{Entry}
use Rattle.dv_defs.specs.declared.run.Limits.{Limits}
use Rattle.dv_console.specs.declared.command.Cmd.{Cmd}
use Rattle.dv_console.specs.declared.command.Cmd.TheVariants as cmd
use Rattle.dv_console.specs.Words.{limits_of}
use Rattle.dv_io.specs.Io.{HasRisen, TookPart, after_taking, after_write}
use Rattle.dv_workers.specs.Entries.{IsOfWorker}
use Rattle.dv_top.specs.declared.closing.Closing.{Closing}
use Rattle.dv_top.specs.declared.closing.Closing.TheVariants as closing
use Rattle.dv_top.specs.declared.reading.ReadError.{ReadError}
use Rattle.dv_top.specs.declared.reading.ReadError.TheVariants as error
use Rattle.dv_top.specs.declared.status.Status.{Status}
use Rattle.dv_top.specs.declared.status.Status.TheVariants as exit
use Rattle.dv_top.specs.Answering.{IsAnswer, IsIdle, IsTold, MayRun}
use Rattle.dv_top.specs.Said.{IsSaid, Unread, text_limit, usage}
use Rattle.dv_top.specs.Status.{code_of, status_of_error}
use Rattle.dv_top.specs.Words.{IsAlone, IsByWorkers, ReadsSource, RunAsked, class_to_run, closing_of, demo_class, run_asked, text_asked}
use Rattle.dv_top.specs.Written.{Front, IsReported, IsWritten, Whole}
use Rattle.dv_top.proofs.AnsweringLemmas.{printed, partly_printed, part_taken}
use Rattle.dv_top.proofs.Written.{after_none}

-- ---- statuses

-- a status with which something ran isn't one of those with which nothing did
pub busy_not_idle : (s : ℕ) → (s ≡ code_of exit.WriteFault) → IsIdle s → ⊥
busy_not_idle s is (inl e) = absurd (omega (arith, is, e))
busy_not_idle s is (inr (inl e)) = absurd (omega (arith, is, e))
busy_not_idle s is (inr (inr (inl e))) = absurd (omega (arith, is, e))
busy_not_idle s is (inr (inr (inr (inl e)))) = absurd (omega (arith, is, e))
busy_not_idle s is (inr (inr (inr (inr (inl e))))) = absurd (omega (arith, is, e))
busy_not_idle s is (inr (inr (inr (inr (inr e))))) = absurd (omega (arith, is, e))

pub wanting_not_idle : (s : ℕ) → (s ≡ code_of exit.NoMemory) → IsIdle s → ⊥
wanting_not_idle s is (inl e) = absurd (omega (arith, is, e))
wanting_not_idle s is (inr (inl e)) = absurd (omega (arith, is, e))
wanting_not_idle s is (inr (inr (inl e))) = absurd (omega (arith, is, e))
wanting_not_idle s is (inr (inr (inr (inl e)))) = absurd (omega (arith, is, e))
wanting_not_idle s is (inr (inr (inr (inr (inl e))))) = absurd (omega (arith, is, e))
wanting_not_idle s is (inr (inr (inr (inr (inr e))))) = absurd (omega (arith, is, e))

-- ---- commands

-- what the caller does alone isn't done by workers
pub alone_not_by_workers : (c : Cmd) → IsAlone c → IsByWorkers (Some c) → ⊥
alone_not_by_workers (cmd.Run class workers (Some seed) limits shown) alone by = by
alone_not_by_workers (cmd.Run class workers None limits shown) alone by = alone
alone_not_by_workers (cmd.Replay class limits) alone by = by
alone_not_by_workers cmd.Verify alone by = by
alone_not_by_workers cmd.List alone by = by
alone_not_by_workers (cmd.Demo number classes threads workers) alone by = alone

-- and reads the source
pub alone_reads : (c : Cmd) → IsAlone c → ReadsSource (Some c)
alone_reads (cmd.Run class workers seed limits shown) alone = tt
alone_reads (cmd.Replay class limits) alone = tt
alone_reads cmd.Verify alone = tt
alone_reads cmd.List alone = tt
alone_reads (cmd.Demo number classes threads workers) alone = absurd alone

-- where the source is read, a command is asked for, ...
pub reads_some : (asked : Option Cmd) → ReadsSource asked → asked ≡ None → ⊥
reads_some None reads none = reads
reads_some (Some c) reads none = absurd (cc)

-- ... and the text is what the source holds
pub text_read : (asked : Option Cmd) → ReadsSource asked → (held : Option (List ℕ)) → text_asked asked held ≡ held
text_read None reads held = absurd reads
text_read (Some (cmd.Run class workers seed limits shown)) reads held = refl
text_read (Some (cmd.Replay class limits)) reads held = refl
text_read (Some cmd.Verify) reads held = refl
text_read (Some cmd.List) reads held = refl
text_read (Some (cmd.Demo number classes threads workers)) reads held = absurd reads

-- ---- runs that are asked for

abbrev of_class : List ℕ → ℕ → Option ℕ → Limits → Closing → Option RunAsked
of_class class workers seed limits behind = Some (record { class = class; workers = workers; seed = seed; limits = limits; behind = behind })

-- what the words of a run ask for
pub asks_run : (asked : Option Cmd) (class : List ℕ) (workers : ℕ) (seed : Option ℕ) (limits : Limits) (shown : Bool) (behind : Closing) → asked ≡ Some (cmd.Run class workers seed limits shown) → behind ≡ closing_of shown → run_asked asked ≡ of_class class workers seed limits behind
asks_run asked class workers seed limits shown behind is by = ap run_asked is ∙ ap (of_class class workers seed limits) (sym by)

-- ... and those of a demo
pub asks_demo : (asked : Option Cmd) (number classes threads workers : ℕ) (limits : Limits) → asked ≡ Some (cmd.Demo number classes threads workers) → limits ≡ limits_of None None → run_asked asked ≡ of_class demo_class workers None limits (closing.Demo classes threads)
asks_demo asked number classes threads workers limits is by = ap run_asked is ∙ ap (λ l. of_class demo_class workers None l (closing.Demo classes threads)) (sym by)

pub run_some : (asked : Option Cmd) (r : RunAsked) → run_asked asked ≡ Some r → asked ≡ None → ⊥
run_some None r is none = absurd (cc)
run_some (Some c) r is none = absurd (cc)

pub run_by_workers : (asked : Option Cmd) (r : RunAsked) → run_asked asked ≡ Some r → r.seed ≡ None → IsByWorkers asked
run_by_workers None r is none = absurd (cc)
run_by_workers (Some (cmd.Run class workers (Some seed) limits shown)) r is none =
    let same : record { class = class; workers = workers; seed = Some seed; limits = limits; behind = closing_of shown } ≡ r = cc in
    let some : Some seed ≡ r.seed = ap (λ (x : RunAsked). x.seed) same in
    absurd (cc)
run_by_workers (Some (cmd.Run class workers None limits shown)) r is none = tt
run_by_workers (Some (cmd.Replay class limits)) r is none = absurd (cc)
run_by_workers (Some cmd.Verify) r is none = absurd (cc)
run_by_workers (Some cmd.List) r is none = absurd (cc)
run_by_workers (Some (cmd.Demo number classes threads workers)) r is none = tt

pub run_has_class : (asked : Option Cmd) (r : RunAsked) → run_asked asked ≡ Some r → class_to_run asked ≡ None → ⊥
run_has_class None r is unnamed = absurd (cc)
run_has_class (Some (cmd.Run class workers seed limits shown)) r is unnamed = absurd (cc)
run_has_class (Some (cmd.Replay class limits)) r is unnamed = absurd (cc)
run_has_class (Some cmd.Verify) r is unnamed = absurd (cc)
run_has_class (Some cmd.List) r is unnamed = absurd (cc)
run_has_class (Some (cmd.Demo number classes threads workers)) r is unnamed = absurd (cc)

pub run_not_replay : (asked : Option Cmd) (r : RunAsked) (class : List ℕ) (limits : Limits) → run_asked asked ≡ Some r → asked ≡ Some (cmd.Replay class limits) → ⊥
run_not_replay asked r class limits is replay = let none : run_asked asked ≡ None = ap run_asked replay in absurd (cc)

-- ---- answers

-- what a reply owes
pub record IsReplyTo {S : Type 0} (left : S → Option (List ℕ)) (asked : Option Cmd) (source source_after : S) (log : List Entry) (status : ℕ) (text : List ℕ) : Type 0 where
  pub unread : asked ≡ None → (source_after ≡ source) × (status ≡ code_of exit.Usage)
  pub usage : status ≡ code_of exit.Usage → (asked ≡ None) × (text ≡ usage)
  pub told : IsTold status
  pub source_left : (ReadsSource asked → ⊥) → source_after ≡ source
  pub source_read : ReadsSource asked → left source_after ≡ after_taking (text_limit + 1) (left source)
  pub said : (bytes : List ℕ) → text_asked asked (left source) ≡ Some bytes → IsSaid asked bytes log status text
  pub entries : All IsOfWorker log
  pub idle : IsIdle status → log ≡ []
  pub not_run : class_to_run asked ≡ None → log ≡ []
  pub legal : (bytes : List ℕ) → text_asked asked (left source) ≡ Some bytes → log ≢ [] → MayRun asked bytes log

module _ {S K : Type 0} (left : S → Option (List ℕ)) (read_faults : S → ℕ) (taken : K → Option (List ℕ)) (write_faults : K → ℕ) (asked : Option Cmd) where
  -- all of the reply is written
  written : (source source_after : S) (sink sink_after : K) (log : List Entry) (status : ℕ) (text : List ℕ) → IsReplyTo left asked source source_after log status text → taken sink_after ≡ after_write text (taken sink) → IsAnswer left read_faults taken write_faults asked source source_after sink sink_after log status
  written source source_after sink sink_after log status text reply took = record {
    unread = λ none. ((reply.unread none).0, inl (reply.unread none).1);
    usage = λ told. ((reply.usage told).0, rw (reply.usage told).1 at took);
    read_fault = λ told. absurd (reply.told.no_read_fault told);
    write_fault = λ told. absurd (reply.told.no_write_fault told);
    usage_part = λ none told. absurd (reply.told.no_write_fault told);
    no_memory = λ told none. absurd (reply.told.no_want told);
    wanting = λ bytes is told. absurd (reply.told.no_want told);
    took = (text, took);
    source_left = λ unread. (reply.source_left unread, reply.told.no_read_fault);
    source_read = λ reads _ _. reply.source_read reads;
    said = λ bytes is _. printed asked bytes log status text (taken sink) (taken sink_after) (reply.said bytes is) took;
    part = λ bytes is told. absurd (reply.told.no_write_fault told);
    entries = reply.entries;
    idle = reply.idle;
    not_run = reply.not_run;
    legal = reply.legal;
    not_replayed = λ class limits is told. absurd (reply.told.no_want told);
  }

  -- a front of the reply is written
  partly_written : (source source_after : S) (sink sink_after : K) (log : List Entry) (status : ℕ) (text : List ℕ) → IsReplyTo left asked source source_after log status text → HasRisen (write_faults sink) (write_faults sink_after) → TookPart (taken sink) (taken sink_after) text → IsAnswer left read_faults taken write_faults asked source source_after sink sink_after log (code_of exit.WriteFault)
  partly_written source source_after sink sink_after log status text reply risen part = record {
    unread = λ none. ((reply.unread none).0, inr (inl refl));
    usage = λ told. absurd (omega arith);
    read_fault = λ told. absurd (omega arith);
    write_fault = λ _. risen;
    usage_part = λ none _. subst (TookPart (taken sink) (taken sink_after)) (reply.usage (reply.unread none).1).1 part;
    no_memory = λ told none. absurd (omega arith);
    wanting = λ bytes is told. absurd (omega arith);
    took = part_taken (taken sink) (taken sink_after) text part;
    source_left = λ unread. (reply.source_left unread, λ told. absurd (omega (arith, told)));
    source_read = λ reads _ _. reply.source_read reads;
    said = λ bytes is told. absurd (told.no_write_fault refl);
    part = λ bytes is _. inl (partly_printed asked bytes log status text (taken sink) (taken sink_after) (reply.said bytes is) part);
    entries = reply.entries;
    idle = λ idle. absurd (busy_not_idle _ refl idle);
    not_run = reply.not_run;
    legal = reply.legal;
    not_replayed = λ class limits is told. absurd (omega arith);
  }

  -- whichever of the two it is
  pub by_written : (source source_after : S) (sink sink_after : K) (log : List Entry) (own status : Status) (text : List ℕ) → IsReplyTo left asked source source_after log (code_of own) text → IsWritten taken write_faults own text sink sink_after status → IsAnswer left read_faults taken write_faults asked source source_after sink sink_after log (code_of status)
  by_written source source_after sink sink_after log own status text reply (Whole same took) =
      subst (λ (s : Status). IsAnswer left read_faults taken write_faults asked source source_after sink sink_after log (code_of s)) (sym same) (written source source_after sink sink_after log (code_of own) text reply took)
  by_written source source_after sink sink_after log own status text reply (Front fault risen part) =
      subst (λ (s : Status). IsAnswer left read_faults taken write_faults asked source source_after sink sink_after log (code_of s)) (sym fault) (partly_written source source_after sink sink_after log (code_of own) text reply risen part)

  pub by_reported : (source source_after : S) (sink sink_after : K) (log : List Entry) (own : Status) (text : List ℕ) (code : ℕ) → IsReplyTo left asked source source_after log (code_of own) text → IsReported taken write_faults own text sink sink_after code → IsAnswer left read_faults taken write_faults asked source source_after sink sink_after log code
  by_reported source source_after sink sink_after log own text code reply r =
      subst (λ (s : ℕ). IsAnswer left read_faults taken write_faults asked source source_after sink sink_after log s) (sym r.told) (by_written source source_after sink sink_after log own r.status text reply r.written)

  -- nothing is written
  pub no_reply : (source source_after : S) (sink sink_after : K) (log : List Entry) (e : ReadError) → ReadsSource asked → (IsByWorkers asked → log ≡ []) → taken sink_after ≡ taken sink → (e ≡ error.Failed → HasRisen (read_faults source) (read_faults source_after) × (log ≡ [])) → All IsOfWorker log → (class_to_run asked ≡ None → log ≡ []) → ((bytes : List ℕ) → left source ≡ Some bytes → log ≢ [] → MayRun asked bytes log) → ((class : List ℕ) (limits : Limits) → asked ≡ Some (cmd.Replay class limits) → log ≡ []) → IsAnswer left read_faults taken write_faults asked source source_after sink sink_after log (code_of (status_of_error e))
  no_reply source source_after sink sink_after log error.Failed reads none same failed entries not_run legal not_replayed = record {
    unread = λ unread. absurd (reads_some asked reads unread);
    usage = λ told. absurd (omega arith);
    read_fault = λ _. ((failed refl).0, same);
    write_fault = λ told. absurd (omega arith);
    usage_part = λ unread. absurd (reads_some asked reads unread);
    source_left = λ unread. absurd (unread reads);
    no_memory = λ told _. absurd (omega arith);
    wanting = λ bytes is told. absurd (omega arith);
    took = ([], same ∙ after_none (taken sink));
    source_read = λ _ read. absurd (read refl);
    said = λ bytes is told. absurd (told.no_read_fault refl);
    part = λ bytes is told. absurd (omega arith);
    entries = entries;
    idle = λ _. (failed refl).1;
    not_run = not_run;
    legal = λ bytes is. legal bytes (sym (text_read asked reads (left source)) ∙ is);
    not_replayed = λ class limits is told. absurd (omega arith);
  }
  no_reply source source_after sink sink_after log error.Memory reads none same failed entries not_run legal not_replayed = record {
    unread = λ unread. absurd (reads_some asked reads unread);
    usage = λ told. absurd (omega arith);
    read_fault = λ told. absurd (omega arith);
    write_fault = λ told. absurd (omega arith);
    usage_part = λ unread. absurd (reads_some asked reads unread);
    source_left = λ unread. absurd (unread reads);
    no_memory = λ _ _. same;
    wanting = λ bytes is told by ran. absurd (ran (none by));
    took = ([], same ∙ after_none (taken sink));
    source_read = λ _ _ enough. absurd (enough refl);
    said = λ bytes is told. absurd (told.no_want refl);
    part = λ bytes is told. absurd (omega arith);
    entries = entries;
    idle = λ idle. absurd (wanting_not_idle _ refl idle);
    not_run = not_run;
    legal = λ bytes is. legal bytes (sym (text_read asked reads (left source)) ∙ is);
    not_replayed = λ class limits is _. not_replayed class limits is;
  }

  -- memory was wanting for the words
  pub no_words : (source : S) (sink sink_after : K) (log : List Entry) → log ≡ [] → taken sink_after ≡ taken sink → IsAnswer left read_faults taken write_faults asked source source sink sink_after log (code_of exit.NoMemory)
  no_words source sink sink_after log none same = record {
    unread = λ _. (refl, inr (inr refl));
    usage = λ told. absurd (omega arith);
    read_fault = λ told. absurd (omega arith);
    write_fault = λ told. absurd (omega arith);
    usage_part = λ _ told. absurd (omega arith);
    source_left = λ _. (refl, λ told. absurd (omega (arith, told)));
    no_memory = λ _ _. same;
    wanting = λ bytes is told by ran. absurd (ran none);
    took = ([], same ∙ after_none (taken sink));
    source_read = λ _ _ enough. absurd (enough refl);
    said = λ bytes is told. absurd (told.no_want refl);
    part = λ bytes is told. absurd (omega arith);
    entries = subst (All IsOfWorker) (sym none) (All-nil IsOfWorker);
    idle = λ _. none;
    not_run = λ _. none;
    legal = λ bytes is ran. absurd (ran none);
    not_replayed = λ class limits is _. none;
  }

-- the reply to words that aren't read
pub reply_to_unread : {S : Type 0} (left : S → Option (List ℕ)) (asked : Option Cmd) (source : S) (log : List Entry) → asked ≡ None → log ≡ [] → IsReplyTo left asked source source log (code_of exit.Usage) usage
reply_to_unread left asked source log unread none = record {
  unread = λ _. (refl, refl);
  usage = λ _. (unread, refl);
  told = record { no_read_fault = λ e. absurd (omega (arith, e)); no_write_fault = λ e. absurd (omega (arith, e)); no_want = λ e. absurd (omega (arith, e)) };
  source_left = λ _. refl;
  source_read = λ reads. absurd (reads_some asked reads unread);
  said = λ bytes is. Unread unread (refl, refl);
  entries = subst (All IsOfWorker) (sym none) (All-nil IsOfWorker);
  idle = λ _. none;
  not_run = λ _. none;
  legal = λ bytes is ran. absurd (ran none);
}
