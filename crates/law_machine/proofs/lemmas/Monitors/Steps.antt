-- Steps that enter and exit monitors are fine.
use Rattle.std.proofs.Common.{◌≡◌, inl, inr, ℕ, zero, suc, List, [], ◌∷◌, Bool, true, false, Option, Some, None, refl, sym, ap, ◌∙◌, subst, arith}
use Rattle.std.specs.Prelude.{All, Ok, Err, nat_eq, if◌then◌else◌}
use Rattle.std.proofs.lemmas.List.Elements.{All-cons, All-head}
use Rattle.dv_defs.specs.Images.{Image}
use Rattle.dv_defs.specs.declared.run.Named.TheVariants as named
use Rattle.dv_machine.specs.Frame.{Frame}
use Rattle.dv_machine.specs.Level.{Level}
use Rattle.dv_machine.specs.Level as level
use Rattle.dv_defs.specs.declared.machine.End.TheVariants as end
use Rattle.dv_typing.specs.declared.typing.RegState.{RegState}
use Rattle.dv_defs.specs.Parts.{Call}
use Rattle.dv_defs.specs.Pools.{Method}
use Rattle.dv_defs.specs.Op.{Invoke, Enter, Exit, can_throw}
use Rattle.dv_typing.specs.Statics.{At}
use Rattle.dv_typing.specs.Demands.{goes_on, demands}
use Rattle.dv_typing.specs.Transfer.{out, going}
use Rattle.dv_typing.specs.Flow.{Leads, jumps}
use Rattle.dv_machine.specs.Monitors.{Monitors, Held, wait_of, held_of, owner_of, entered, exited}
use Rattle.dv_machine.specs.State.{Thread, Machine, Left, Did, Reads, reading, reg_at, read_any, where_true, Here, gone, with_monitors}
use Rattle.dv_machine.specs.Mem.{on_object}
use Rattle.dv_machine.specs.Threads.{stays, goes, free_or_mine, monitor_enter, monitor_exit, holding_it}
use Rattle.dv_machine.specs.Step.{act, here}
use Rattle.dv_machine.specs.Conforming.{IsThere, RefsFine, Conform}
use Rattle.dv_machine.specs.WellTyped.{Typings, own_of, this_above, ThreadFine, MonitorsFine, records}
use Rattle.law_machine.specs.Premises.{LeftFine, ThrowFine, DidFine, HoldsOf}
use Rattle.law_machine.specs.StepLaws.{MonitorStepsAreFine}
use Rattle.law_types.proofs.Facts.{nothing}
use Rattle.law_machine.proofs.lemmas.Growth.Keeps.{monitors_later}
use Rattle.law_machine.proofs.lemmas.Growth.Threads.{records_after}
use Rattle.law_machine.proofs.lemmas.Monitors.Owners.{entry_none}
use Rattle.law_machine.proofs.lemmas.Monitors.Fine.{entering_keeps, exiting_keeps}
use Rattle.law_machine.proofs.lemmas.Monitors.Moved.{quiet_moved}
use Rattle.law_machine.proofs.lemmas.Exceptions.Flown.{living_fine, records_of}
use Rattle.law_machine.proofs.lemmas.Local.Stands.{Stands, stands, replaced_fine, frame_refs, rest_refs}
use Rattle.law_machine.proofs.lemmas.Local.Fine.{quiet}
use Rattle.law_machine.proofs.lemmas.Readers.Plain.{reads_reference}

module _ (image : Image) (T : Typings) (m : Machine) (t : ℕ) (thread : Thread) (own : Method) (f : Frame) (rest : List Level) (x : At) (s : RegState) (h : Stands image T m t thread own f rest x s) where
  -- a step after which the top frame and the monitors are others
  pub monitor_left : (g : Frame) (ms : Monitors) → ThreadFine image T m.shared.heap t (level.Code g ∷ rest) end.Living → RefsFine image m.shared.heap (level.Code g) → MonitorsFine image m.threads (with_monitors m.shared ms) (suc m.steps) → wait_of ms t ≡ None → LeftFine image T m t thread (record { levels = level.Code g ∷ rest; shared = with_monitors m.shared ms; started = None })
  monitor_left g ms fine refs monitors quiet = record {
    keeps = λ o k e. e;
    levels = fine;
    refs = All-cons (RefsFine image m.shared.heap) (level.Code g) rest refs (rest_refs image T m t thread own f rest x s h);
    heap = h.may.typed.heap;
    class_states = h.may.typed.class_states;
    monitors = quiet_moved image m.threads t thread _ [] (with_monitors m.shared ms) (with_monitors m.shared ms) (suc m.steps) (suc m.steps) (λ o k e. e) refl (omega arith) h.has_thread h.may.typed.refs quiet monitors;
    in_progress = records_after m.threads t thread _ None h.has_thread m.shared.classes m.shared.classes h.may.typed.in_progress (records_of image T m t thread (level.Code f ∷ rest) h.may.typed h.has_thread h.levels) (λ u c d. refl) (λ y e. nothing ((c : ℕ) → records c y.levels ≡ 0) y e);
    started = λ y e. nothing _ y e;
  }

  -- the thread stays where it is
  pub staying : wait_of m.shared.monitors t ≡ None → LeftFine image T m t thread (record { levels = level.Code f ∷ rest; shared = m.shared; started = None })
  staying q = monitor_left f m.shared.monitors (living_fine image T m t thread (level.Code f ∷ rest) h.may.typed h.has_thread h.living h.levels) (frame_refs image T m t thread own f rest x s h) (monitors_later image m.threads m.shared m.steps h.may.typed.monitors) q

  -- an instruction that changes no register
  module _ (plain : out image own f.at x.op s ≡ going s s.regs) (on : goes_on x.op ≡ true) (can : can_throw x.op ≡ true) (apart : (c : Call) (ks : List ℕ) (g : Method) → x.op ≡ Invoke c ks g → ⊥) where
    no_entry : wait_of m.shared.monitors t ≡ None
    no_entry = entry_none t m.shared.monitors.waits (λ k d l. quiet image T m t thread own f rest x s h (λ o w. apart w.call w.args w.callee w.is_invoke) _ (h.may.typed.monitors.waits k d l))

    throws : ThrowFine m t x
    throws = record { can = can; apart = no_entry }

    leads : Leads image (T f.method.0) (going s s.regs) x.next
    leads = subst (λ st. Leads image (T f.method.0) st x.next) plain (All-head (Leads image (T f.method.0) (out image own f.at x.op s)) x.next (jumps x.op) (subst (λ ns. All (Leads image (T f.method.0) (out image own f.at x.op s)) ns) (ap (λ (b : Bool). elim b [ true ↦ x.next ∷ jumps x.op | false ↦ jumps x.op ]) on) h.flows))

    gone_conform : Conform image m.shared.heap (own_of image (this_above image rest) own) (gone f x.next f.regs) (going s s.regs)
    gone_conform = record { good = h.conform.good; result = tt; caught = tt; this_pending = h.conform.this_pending }

    -- it goes on with other monitors
    going_on : (ms : Monitors) → MonitorsFine image m.threads (with_monitors m.shared ms) (suc m.steps) → wait_of ms t ≡ None → LeftFine image T m t thread (record { levels = level.Code (gone f x.next f.regs) ∷ rest; shared = with_monitors m.shared ms; started = None })
    going_on ms fine q = let r = frame_refs image T m t thread own f rest x s h in monitor_left (gone f x.next f.regs) ms (replaced_fine image T m t thread own f rest x s h (gone f x.next f.regs) (going s s.regs) refl refl leads gone_conform) (r.0, tt, tt) fine q

    enters : (o : ℕ) → DidFine image T m t thread x (monitor_enter (here image m t own f rest x.next) o)
    enters o = go (free_or_mine (here image m t own f rest x.next) (owner_of m.shared.monitors o))
      where
        go : (b : Bool) → DidFine image T m t thread x (if b then goes (here image m t own f rest x.next) (with_monitors m.shared (entered m.shared.monitors o t 1)) else stays (here image m t own f rest x.next))
        go true = going_on (entered m.shared.monitors o t 1) (entering_keeps image m.threads m.shared m.steps o t thread h.may.typed.monitors h.has_thread no_entry) no_entry
        go false = staying no_entry

    exits : (o : ℕ) → DidFine image T m t thread x (monitor_exit (here image m t own f rest x.next) o)
    exits o = go (held_of m.shared.monitors o)
      where
        mine : (b : Bool) → DidFine image T m t thread x (where_true b named.IllegalMonitorState (goes (here image m t own f rest x.next) (with_monitors m.shared (exited m.shared.monitors o))))
        mine true = going_on (exited m.shared.monitors o) (exiting_keeps image m.threads m.shared m.steps o h.may.typed.monitors) no_entry
        mine false = throws

        go : (y : Option Held) → DidFine image T m t thread x (holding_it (here image m t own f rest x.next) (λ n. goes (here image m t own f rest x.next) (with_monitors m.shared (exited m.shared.monitors o))) y)
        go None = throws
        go (Some y) = mine (nat_eq y.thread t)

    on_read : (r : Reads ℕ) (go : ℕ → Did Left) → HoldsOf (IsThere image m.shared.heap) r → ((o : ℕ) → DidFine image T m t thread x (go o)) → DidFine image T m t thread x (reading r (on_object go))
    on_read (Ok zero) go k n = throws
    on_read (Ok (suc o)) go k n = n (suc o)
    on_read (Err y) go k n = k

  enter_fine : (a : ℕ) → x.op ≡ Enter a → DidFine image T m t thread x (act (here image m t own f rest x.next) (Enter a))
  enter_fine a e = on_read (ap (λ op. out image own f.at op s) e) (ap goes_on e) (ap can_throw e) (λ c ks g i. no_invoke c ks g (sym e ∙ i)) (read_any m.shared.heap (reg_at f.regs a)) _ (reads_reference image m.shared.heap (own_of image (this_above image rest) own) f.regs s.regs a h.conform.good.regs (sym (ap (λ op. demands image own op s) e) ∙ h.demand)) (enters (ap (λ op. out image own f.at op s) e) (ap goes_on e) (ap can_throw e) (λ c ks g i. no_invoke c ks g (sym e ∙ i)))
    where
      no_invoke : (c : Call) (ks : List ℕ) (g : Method) → Enter a ≡ Invoke c ks g → ⊥
      no_invoke c ks g i = cc

  exit_fine : (a : ℕ) → x.op ≡ Exit a → DidFine image T m t thread x (act (here image m t own f rest x.next) (Exit a))
  exit_fine a e = on_read (ap (λ op. out image own f.at op s) e) (ap goes_on e) (ap can_throw e) (λ c ks g i. no_invoke c ks g (sym e ∙ i)) (read_any m.shared.heap (reg_at f.regs a)) _ (reads_reference image m.shared.heap (own_of image (this_above image rest) own) f.regs s.regs a h.conform.good.regs (sym (ap (λ op. demands image own op s) e) ∙ h.demand)) (exits (ap (λ op. out image own f.at op s) e) (ap goes_on e) (ap can_throw e) (λ c ks g i. no_invoke c ks g (sym e ∙ i)))
    where
      no_invoke : (c : Call) (ks : List ℕ) (g : Method) → Exit a ≡ Invoke c ks g → ⊥
      no_invoke c ks g i = cc

pub monitor_steps_are_fine : MonitorStepsAreFine
monitor_steps_are_fine image T m t thread h x s i (inl e) =
    let k = stands image T m t thread h x s i in
    subst (DidFine image T m t thread x) (sym (ap (λ (z : Here). act z x.op) i.sees ∙ ap (act (here image m t h.own h.frame h.rest x.next)) e.1)) (enter_fine image T m t thread h.own h.frame h.rest x s k e.0 e.1)
monitor_steps_are_fine image T m t thread h x s i (inr e) =
    let k = stands image T m t thread h x s i in
    subst (DidFine image T m t thread x) (sym (ap (λ (z : Here). act z x.op) i.sees ∙ ap (act (here image m t h.own h.frame h.rest x.next)) e.1)) (exit_fine image T m t thread h.own h.frame h.rest x s k e.0 e.1)
