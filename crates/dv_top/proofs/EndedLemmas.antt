-- What a run that has ended tells, by the state at which its engine stands.
use Rattle.std.proofs.Common.{◌≡◌, ◌≢◌, ℕ, ◌++◌, List, [], ◌∷◌, length, Option, None, Some, arith, ap, refl, ◌∙◌}
use Rattle.std.specs.Prelude.{slice_get}
use Rattle.std.specs.List.{AllZip}
use Rattle.dv_defs.specs.declared.machine.End.{End}
use Rattle.dv_defs.specs.declared.run.Ending.{Ending}
use Rattle.dv_defs.specs.Images.{Image}
use Rattle.dv_defs.specs.Linked.{IsImage}
use Rattle.dv_defs.specs.Pools.{Method}
use Rattle.dv_machine.specs.Final.{final_text}
use Rattle.dv_machine.specs.Running.{ending_of}
use Rattle.dv_machine.specs.State.{Machine, Thread}
use Rattle.dv_machine.specs.WellTyped.{Typings}
use Rattle.dv_words.specs.Standing.{ThreadStands}
use Rattle.dv_words.specs.State.{WordStack}
use Rattle.dv_threads.specs.Kept.{zipped}
use Rattle.dv_core.specs.declared.vm.Vm.{Vm}
use Rattle.dv_core.specs.Machines.{machine_of}
use Rattle.dv_sound.specs.Moves.{IsGood, StandsFor}
use Rattle.dv_sound.specs.Runs.{IsAt, Run}
use Rattle.dv_final.specs.Final.{final_lines_of}
use Rattle.dv_final.specs.Laws.{FinalLinesFollow}
use Rattle.dv_top.specs.declared.closing.Closing.{Closing}
use Rattle.dv_top.specs.declared.closing.Closing.TheVariants as closing
use Rattle.dv_top.specs.declared.status.Status.{Status}
use Rattle.dv_top.specs.declared.status.Status.TheVariants as exit
use Rattle.dv_top.specs.Runs.{IsRun, closing_text, end_of, status_of}
use Rattle.dv_top.specs.Status.{code_of}
use Rattle.dv_top.proofs.RunLemmas.{run_status}

first_by : (ss : List WordStack) (es : List End) (os : List ℕ) (ts : List Thread) → length es ≡ length ss → length os ≡ length ss → AllZip ThreadStands (zipped ss es os) ts → slice_get es 0 ≡ end_of (slice_get ts 0)
first_by [] [] os [] ends objects stand = refl
first_by [] [] os (t ∷ ts) ends objects stand = absurd stand
first_by [] (e ∷ es) os ts ends objects stand = absurd (omega (arith, ends))
first_by (s ∷ ss) [] os ts ends objects stand = absurd (omega (arith, ends))
first_by (s ∷ ss) (e ∷ es) [] ts ends objects stand = absurd (omega (arith, objects))
first_by (s ∷ ss) (e ∷ es) (o ∷ os) [] ends objects stand = absurd stand
first_by (s ∷ ss) (e ∷ es) (o ∷ os) (t ∷ ts) ends objects stand = ap Some stand.0.end

-- how the first thread ended
pub first_end : (image : Image) (T : Typings) (v : Vm) (m : Machine) → StandsFor image T v m → slice_get v.guest.threads.ends.items 0 ≡ end_of (slice_get m.threads 0)
first_end image T v m at =
    let ts = v.guest.threads in
    first_by ts.stacks.items ts.ends.items ts.objects.items m.threads at.ordered.aligned.ends at.ordered.aligned.objects at.simulated.stands.threads

-- what was printed, and what follows it
pub final_is : (image : Image) (T : Typings) (v : Vm) (m : Machine) (output lines : List ℕ) → FinalLinesFollow → IsImage image → IsGood image T → StandsFor image T v m → output ≡ v.guest.output.items → lines ≡ final_lines_of image (machine_of v) → output ++ lines ≡ final_text image m
final_is image T v m output lines law is good at prints tells =
    ap (λ o. o ++ lines) (prints ∙ at.simulated.stands.shared.output) ∙ (ap (λ l. m.shared.output ++ l) tells ∙ law image T (machine_of v) m is good.accepted at.simulated)

-- an ending that isn't none
some_of : {A : Type 0} (o : Option A) → o ≢ None → (x : A) × (o ≡ Some x)
some_of None not = absurd (not refl)
some_of (Some x) not = (x, refl)

-- a run that stands at an ending
pub run_is : (r : Run) (main : Method) (m : Machine) (status : Status) (behind : Closing) (text : List ℕ) → IsAt r main m → ending_of r.verified.image m ≢ None → ((e : Ending) → ending_of r.verified.image m ≡ Some e → status ≡ status_of m e) → text ≡ final_text r.verified.image m ++ closing_text behind r.log → IsRun r.verified.image main r.machine.limits r.log behind (code_of status) text
run_is r main m status behind text at ended tells prints =
    let (e, is) = some_of (ending_of r.verified.image m) ended in
    record { machine = m; replayed = at.replayed; ending = e; ends = is; tells = ap code_of (tells e is); prints = prints }

-- no write failed
pub run_is_good : (r : Run) (main : Method) (m : Machine) (status : Status) → IsAt r main m → ending_of r.verified.image m ≢ None → ((e : Ending) → ending_of r.verified.image m ≡ Some e → status ≡ status_of m e) → status ≢ exit.WriteFault
run_is_good r main m status at ended tells fault =
    let run = run_is r main m status closing.Nothing (final_text r.verified.image m ++ closing_text closing.Nothing r.log) at ended tells refl in
    (run_status r.verified.image main r.machine.limits r.log closing.Nothing (code_of status) _ run).good_sink (ap code_of fault)
