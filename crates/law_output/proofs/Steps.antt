-- What a step, the steps of an entry and a turn leave of the output begins with what was there.
use Rattle.std.proofs.Common.{◌≡◌, ℕ, zero, suc, Bool, true, false, List, [], ◌∷◌, Option, Some, None, refl, subst}
use Rattle.std.specs.Prelude.{◌&&◌, not, nat_eq, Ok, Err, slice_get, if◌then◌else◌}
use Rattle.dv_defs.specs.Images.{Image}
use Rattle.dv_defs.specs.declared.machine.End.{End}
use Rattle.dv_defs.specs.declared.machine.End.TheVariants as end
use Rattle.dv_defs.specs.declared.run.Ending.{Ending}
use Rattle.dv_defs.specs.Op.{needs}
use Rattle.dv_defs.specs.Pools.{Method, method_at}
use Rattle.dv_defs.specs.declared.run.Named.TheVariants as named
use Rattle.dv_typing.specs.Flow.{handlers_at}
use Rattle.dv_typing.specs.Statics.{At, fetch}
use Rattle.dv_machine.specs.Frame.{Frame}
use Rattle.dv_machine.specs.Heap.{Heap}
use Rattle.dv_machine.specs.Level.{Level}
use Rattle.dv_machine.specs.Level as level
use Rattle.dv_machine.specs.Replaying.{Replayed, Stands, NotRunnable, PastEnd, Wrong, Turned, last_step, next_is_local, on_stands, one_more, one_step, stands_on, steps_of, turn}
use Rattle.dv_machine.specs.Running.{ending_of, runnable}
use Rattle.dv_machine.specs.State.{Machine, Thread, Left, Did, Go, Throws, ThrowsRef, NoWords, NoRoom, NoOutput, IsStuck, Here, Reads, on_next}
use Rattle.dv_machine.specs.Step.{here, no_frame, no_method, settled, settled_flight, step, step_at, step_code, step_flight, step_living, step_of, step_thread, thrown, record_step, with_ready}
use Rattle.dv_machine.specs.Unwinding.{Unwound, Caught, Flies, Lacking, below_record, erroneous, handler_for, is_error, leaves, made_object, unwind_frame, unwind_record, wrapped}
use Rattle.law_output.specs.Laws.{EntriesPrintOn, MachinePrintsOn, PrintsOn, StepsPrintOn, TurnsPrintOn}
use Rattle.law_output.proofs.Parts.{Leaves, prints_none, prints_more}
use Rattle.law_output.proofs.Instructions.{ready_fine, record_fine}

-- a machine that is read, if it is, prints on
abbrev After : Machine → Reads Machine → Type 0
After m (Ok n) = MachinePrintsOn m n
After m (Err y) = Unit {0}

after_is : (m n : Machine) (r : Reads Machine) → After m r → r ≡ Ok n → MachinePrintsOn m n
after_is m n r is e = subst (After m) e is

same : (m : Machine) → MachinePrintsOn m m
same m = prints_none m.shared.output

-- ---- a step

thrown_on : (m : Machine) (t : ℕ) (th : Thread) (x : Option At) (o : Option Heap) → MachinePrintsOn m (thrown m t th x o)
thrown_on m t th x None = same m
thrown_on m t th x (Some heap) = same m

settled_on : (image : Image) (m : Machine) (t : ℕ) (th : Thread) (x : Option At) (d : Did Left) → Leaves m.shared.output d → After m (settled image m t th x d)
settled_on image m t th x (Go l) is = is.go l refl
settled_on image m t th x (Throws n) is = thrown_on m t th x (made_object image m.shared.heap n)
settled_on image m t th x (ThrowsRef o) is = same m
settled_on image m t th x NoWords is = same m
settled_on image m t th x NoRoom is = same m
settled_on image m t th x NoOutput is = same m
settled_on image m t th x (IsStuck y) is = tt

-- an exception that went on left the output
abbrev Quiet : List ℕ → Unwound → Type 0
Quiet out (Caught l) = PrintsOn out l.shared.output
Quiet out (Flies o l) = PrintsOn out l.shared.output
Quiet out (Lacking l) = PrintsOn out l.shared.output

flight_on : (m : Machine) (t : ℕ) (th : Thread) (u : Unwound) → Quiet m.shared.output u → After m (settled_flight m t th u)
flight_on m t th (Caught l) is = is
flight_on m t th (Flies o l) is = is
flight_on m t th (Lacking l) is = is

frame_quiet : (h : Here) (f : Frame) (o : ℕ) (to : Option ℕ) → Quiet h.shared.output (unwind_frame h f o to)
frame_quiet h f o None = prints_none h.shared.output
frame_quiet h f o (Some to) = prints_none h.shared.output

wrapped_quiet : (h : Here) (c o : ℕ) (x : Option Heap) → Quiet h.shared.output (wrapped h c o x)
wrapped_quiet h c o None = prints_none h.shared.output
wrapped_quiet h c o (Some heap) = prints_none h.shared.output

either_quiet : (out : List ℕ) (b : Bool) (x y : Unwound) → Quiet out x → Quiet out y → Quiet out (if b then x else y)
either_quiet out true x y is other = is
either_quiet out false x y is other = other

record_quiet : (h : Here) (c o : ℕ) → Quiet h.shared.output (unwind_record h c o)
record_quiet h c o = either_quiet h.shared.output (is_error h o) (Flies o (leaves (erroneous h c h.shared) (below_record h c))) (wrapped h c o (made_object h.image h.shared.heap named.InInitializer)) (prints_none h.shared.output) (wrapped_quiet h c o (made_object h.image h.shared.heap named.InInitializer))

at_on : (image : Image) (m : Machine) (t : ℕ) (th : Thread) (own : Method) (f : Frame) (ls : List Level) (x : Option At) → After m (step_at image m t th own f ls x)
at_on image m t th own f ls None = tt
at_on image m t th own f ls (Some x) = settled_on image m t th (Some x) (with_ready (here image m t own f ls x.next) x.op (needs x.op)) (ready_fine (here image m t own f ls x.next) x.op (needs x.op))

code_on : (image : Image) (m : Machine) (t : ℕ) (th : Thread) (f : Frame) (ls : List Level) (own : Option Method) → After m (step_code image m t th f ls own)
code_on image m t th f ls None = tt
code_on image m t th f ls (Some own) = at_on image m t th own f ls (fetch image f.method.0 f.at)

living_on : (image : Image) (m : Machine) (t : ℕ) (th : Thread) (ls : List Level) → After m (step_living image m t th ls)
living_on image m t th [] = same m
living_on image m t th (level.Code f ∷ ls) = code_on image m t th f ls (method_at image f.method.0)
living_on image m t th (level.Init c r ∷ ls) = settled_on image m t th None (record_step (here image m t no_method no_frame ls 0) c.0 r) (record_fine (here image m t no_method no_frame ls 0) c.0 r)

-- the handler in a frame that catches an exception
abbrev caught_at : Image → Machine → Frame → ℕ → Option ℕ
caught_at image m f o = handler_for image m.shared.heap o (handlers_at image f.method.0 f.at)

flying_on : (image : Image) (m : Machine) (t : ℕ) (th : Thread) (o : ℕ) (ls : List Level) → After m (step_flight image m t th o ls)
flying_on image m t th o [] = same m
flying_on image m t th o (level.Code f ∷ ls) = flight_on m t th (unwind_frame (here image m t no_method f ls 0) f o (caught_at image m f o)) (frame_quiet (here image m t no_method f ls 0) f o (caught_at image m f o))
flying_on image m t th o (level.Init c r ∷ ls) = flight_on m t th (unwind_record (here image m t no_method no_frame ls 0) c.0 o) (record_quiet (here image m t no_method no_frame ls 0) c.0 o)

thread_on : (image : Image) (m : Machine) (t : ℕ) (th : Thread) (e : End) → After m (step_thread image m t th e)
thread_on image m t th end.Living = living_on image m t th th.levels
thread_on image m t th (end.Flying o) = flying_on image m t th o th.levels
thread_on image m t th end.Returned = same m
thread_on image m t th (end.Died o) = same m

one_on : (image : Image) (m : Machine) (t : ℕ) (th : Option Thread) → After m (step_of image m t th)
one_on image m t None = same m
one_on image m t (Some th) = thread_on image m t th th.end

step_on : (image : Image) (m : Machine) (t : ℕ) → After m (step image m t)
step_on image m t = one_on image m t (slice_get m.threads t)

pub steps_print : StepsPrintOn
steps_print image m n t e = after_is m n (step image m t) (step_on image m t) e

-- ---- the steps of an entry

abbrev Led : Machine → Replayed → Type 0
Led m (Stands n) = MachinePrintsOn m n
Led m (NotRunnable k) = Unit {0}
Led m (PastEnd k) = Unit {0}
Led m (Wrong y) = Unit {0}

led_by : (m : Machine) (r : Reads Machine) → After m r → Led m (stands_on r)
led_by m (Ok n) is = is
led_by m (Err y) is = tt

led_on : (m : Machine) (r : Replayed) (go : Machine → Replayed) → Led m r → ((n : Machine) → Led n (go n)) → Led m (on_stands r go)
led_on m (Stands n) go is all = and_on (go n) (all n)
  where
    and_on : (r : Replayed) → Led n r → Led m r
    and_on (Stands x) on = prints_more m.shared.output n.shared.output x.shared.output is on
    and_on (NotRunnable k) on = tt
    and_on (PastEnd k) on = tt
    and_on (Wrong y) on = tt
led_on m (NotRunnable k) go is all = tt
led_on m (PastEnd k) go is all = tt
led_on m (Wrong y) go is all = tt

one_led : (image : Image) (k t : ℕ) (m : Machine) → Led m (one_step image k t m)
one_led image k t m = by_ending (ending_of image m)
  where
    by_runs : (b : Bool) → Led m (elim b as (λ x. Replayed) [ true ↦ stands_on (step image m t) | false ↦ NotRunnable k ])
    by_runs true = led_by m (step image m t) (step_on image m t)
    by_runs false = tt

    by_ending : (o : Option Ending) → Led m (elim o as (λ x. Replayed) [ Some e ↦ PastEnd k | None ↦ elim (runnable image m t) [ true ↦ stands_on (step image m t) | false ↦ NotRunnable k ] ])
    by_ending (Some e) = tt
    by_ending None = by_runs (runnable image m t)

entry_led : (image : Image) (k t n : ℕ) (m : Machine) → Led m (steps_of image k t n m)
entry_led image k t zero m = same m
entry_led image k t (suc n) m = led_on m (one_step image k t m) (steps_of image k t n) (one_led image k t m) (entry_led image k t n)

pub entries_print : EntriesPrintOn
entries_print image m n k t steps e = subst (Led m) e (entry_led image k t steps m)

-- ---- a turn

abbrev Done : Machine → Reads Turned → Type 0
Done m (Ok x) = MachinePrintsOn m x.machine
Done m (Err y) = Unit {0}

done_one : (m : Machine) (r : Reads Turned) → Done m r → Done m (one_more r)
done_one m (Ok x) is = is
done_one m (Err y) is = tt

done_on : (m : Machine) (r : Reads Machine) (go : Machine → Reads Turned) → After m r → ((n : Machine) → Done n (go n)) → Done m (on_next r go)
done_on m (Ok n) go is all = and_on (go n) (all n)
  where
    and_on : (r : Reads Turned) → Done n r → Done m r
    and_on (Ok x) on = prints_more m.shared.output n.shared.output x.machine.shared.output is on
    and_on (Err y) on = tt
done_on m (Err y) go is all = tt

last_done : (image : Image) (t : ℕ) (m : Machine) → Done m (last_step image t m)
last_done image t m = by_ending (ending_of image m)
  where
    by_runs : (b : Bool) → Done m (elim b as (λ x. Reads Turned) [ false ↦ Ok (record { count = 0; machine = m }) | true ↦ on_next (step image m t) (λ n. Ok (record { count = 1; machine = n })) ])
    by_runs true = done_on m (step image m t) (λ n. Ok (record { count = 1; machine = n })) (step_on image m t) (λ n. same n)
    by_runs false = same m

    by_ending : (o : Option Ending) → Done m (elim o as (λ x. Reads Turned) [ Some e ↦ Ok (record { count = 0; machine = m }) | None ↦ elim (runnable image m t) [ false ↦ Ok (record { count = 0; machine = m }) | true ↦ on_next (step image m t) (λ n. Ok (record { count = 1; machine = n })) ] ])
    by_ending (Some e) = same m
    by_ending None = by_runs (runnable image m t)

turn_done : (image : Image) (t most : ℕ) (m : Machine) → Done m (turn image t most m)
turn_done image t zero m = same m
turn_done image t (suc most) m = by_local (next_is_local image m t && not (nat_eq m.steps m.limits.budget)) (turn_done image t most)
  where
    by_local : (b : Bool) → ((n : Machine) → Done n (turn image t most n)) → Done m (elim b as (λ x. Reads Turned) [ true ↦ on_next (step image m t) (λ n. one_more (turn image t most n)) | false ↦ last_step image t m ])
    by_local true all = done_on m (step image m t) (λ n. one_more (turn image t most n)) (step_on image m t) (λ n. done_one n (turn image t most n) (all n))
    by_local false all = last_done image t m

pub turns_print : TurnsPrintOn
turns_print image m t most x e = subst (Done m) e (turn_done image t most m)
