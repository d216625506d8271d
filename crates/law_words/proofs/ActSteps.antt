-- What an operation, a record and a flight make of words stands for what they make of the tagged machine.
use Rattle.std.proofs.Common.{◌≡◌, ℕ, suc, Bool, true, false, Option, Some, None, Ok, Err, ◌∷◌, refl, sym, subst}
use Rattle.std.specs.Prelude.{if◌then◌else◌}
use Rattle.dv_machine.specs.Frame as tagged_frame
use Rattle.dv_machine.specs.Value.{Value}
use Rattle.dv_machine.specs.Value as v
use Rattle.dv_defs.specs.Op.{Op, ConstString, Enter, Exit, FieldGet, FieldPut, Invoke, Return, ReturnVoid, is_local}
use Rattle.dv_machine.specs.Local.{local}
use Rattle.dv_machine.specs.Mem.{mem, on_object}
use Rattle.dv_machine.specs.State as machine
use Rattle.dv_machine.specs.State.{Did, Go, Here, IsStuck, Left, NoOutput, NoRoom, NoWords, Reads, Shared, Throws, ThrowsRef, read_any, reading, reg_at}
use Rattle.dv_machine.specs.Step as step
use Rattle.dv_machine.specs.Threads as threads
use Rattle.dv_words.specs.declared.state.Level.TheVariants as level
use Rattle.dv_words.specs.Standing.{FrameStands, IsWord, LevelsStand, SharedStands}
use Rattle.law_words.specs.Laws.{ConstantFits, DidStands, HereStands, LeftStands, OperandsFit, PutsInMade}
use Rattle.dv_words.specs.Local.{reg_word, word_local}
use Rattle.dv_words.specs.Mem.{WordLeft, word_mem}
use Rattle.dv_words.specs.Step as over
use Rattle.law_words.specs.StepLaws.{AtStands, CallFits, ImageFits, LeavesStand, OutcomeStands, StartedStands}
use Rattle.dv_words.specs.Steps as steps
use Rattle.dv_words.specs.Threads as word_threads
use Rattle.law_words.proofs.Arguments.{WhereRead, then_stands}
use Rattle.law_words.proofs.CallSteps.{invoke_stands, return_form_stands, return_void_stands}
use Rattle.law_words.proofs.LocalSteps.{local_steps_follow}
use Rattle.law_words.proofs.MemSteps.{mem_steps_follow}
use Rattle.law_words.proofs.Outcomes.{on_object_alike, onward_stands}
use Rattle.law_words.proofs.Registers.{is_word_at}
use Rattle.law_words.proofs.ThreadSteps.{enter_stands, exit_stands}

module _ (w : steps.At) (h : Here) (stands : AtStands w h) where
  is_at : (k : ℕ) → IsWord (reg_word w.frame k) (reg_at h.frame.regs k)
  is_at k = is_word_at w.frame.regs h.frame.regs k stands.frame.regs

  -- ---- the frame alone

  local_by : (op : Op) (r : Reads tagged_frame.Frame) → local op h.frame h.next ≡ r → ConstantFits op → OutcomeStands (steps.local_left w op) (reading r (machine.onward h h.shared))
  local_by op (Err y) is fits = tt
  local_by op (Ok g) is fits =
      let frame = local_steps_follow op h.next w.frame h.frame g fits stands.frame_fits stands.frame is in
      onward_stands w h stands w.shared h.shared (word_local op w.frame w.next) g stands.shared
      (subst (λ (n : ℕ). FrameStands (word_local op w.frame n) g) (sym stands.next) frame) stands.bounded

  -- ---- the frame and the heap

  here_stands : HereStands (steps.mem_here w) h
  here_stands = record { image = stands.image; next = stands.next; frame = stands.frame; heap = stands.shared.heap; bounded = stands.bounded }

  left_by : (t : WordLeft) (l : Left) → LeftStands h t l → LeavesStand (steps.with_left w t) l
  left_by t l s = record {
    levels = subst (λ ls. LevelsStand (level.Code t.frame ∷ w.rest) ls) (sym s.levels) (s.frame_stands, stands.rest);
    shared = subst (λ y. SharedStands (steps.with_heap w.shared t.heap) y) (sym s.shared) (record { heap = s.heap_stands; classes = stands.shared.classes; monitors = stands.shared.monitors; output = stands.shared.output });
    started = started_by l.started s.started;
    bounded = s.bounded;
  }
    where
      started_by : (o : Option machine.Thread) → o ≡ None → StartedStands None o
      started_by None is = tt
      started_by (Some t) is = absurd (cc)

  carried_by : (d : Did WordLeft) (e : Did Left) → DidStands h d e → OutcomeStands (steps.carried w d) e
  carried_by d (IsStuck y) s = tt
  carried_by (Go t) (Go l) s = left_by t l s
  carried_by (Throws n) (Throws m) s = s
  carried_by (ThrowsRef o) (ThrowsRef p) s = s
  carried_by NoWords NoWords s = tt
  carried_by NoRoom NoRoom s = tt
  carried_by NoOutput NoOutput s = tt
  carried_by d e s = absurd s

  mem_by : (op : Op) → OperandsFit h.image op → PutsInMade h.shared.heap h.frame.regs op → OutcomeStands (steps.mem_left w op) (mem h op)
  mem_by op fits made = carried_by (word_mem (steps.mem_here w) op) (mem h op) (mem_steps_follow op (steps.mem_here w) h fits made stands.frame_fits here_stands)

  -- ---- every operation

  others : (op : Op) → ConstantFits op → OperandsFit h.image op → PutsInMade h.shared.heap h.frame.regs op → OutcomeStands (if is_local op then steps.local_left w op else steps.mem_left w op) (if is_local op then step.local_left h op else mem h op)
  others op constant fits made = by (is_local op)
    where
      by : (b : Bool) → OutcomeStands (if b then steps.local_left w op else steps.mem_left w op) (if b then step.local_left h op else mem h op)
      by true = local_by op (local op h.frame h.next) refl constant
      by false = mem_by op fits made

  monitor_by : (a : ℕ) (d : ℕ → Did steps.Left) (e : ℕ → Did Left) → ((o : ℕ) → OutcomeStands (d o) (e o)) → OutcomeStands (on_object d (reg_word w.frame a)) (reading (read_any h.shared.heap (reg_at h.frame.regs a)) (on_object e))
  monitor_by a d e s =
      then_stands (λ o. reg_word w.frame a ≡ o) (on_object d (reg_word w.frame a)) (read_any h.shared.heap (reg_at h.frame.regs a)) (on_object e) (any_read (reg_at h.frame.regs a) (is_at a))
      (λ o same. on_object_alike (reg_word w.frame a) o d e same (λ q is. s (suc q)))
    where
      any_read : (x : Value) → IsWord (reg_word w.frame a) x → WhereRead (read_any h.shared.heap x) (λ o. reg_word w.frame a ≡ o)
      any_read v.Zero is = is
      any_read (v.Ref o) is = by (machine.tested machine.any_kind h.shared.heap o)
        where
          by : (b : Bool) → WhereRead (machine.where_ref b o) (λ p. reg_word w.frame a ≡ p)
          by true = is
          by false = tt
      any_read x is = tt

  pub act_stands : (op : Op) → ImageFits h.image → OperandsFit h.image op → PutsInMade h.shared.heap h.frame.regs op → CallFits h.image op → OutcomeStands (over.act w op) (step.act h op)
  act_stands (Invoke c ks g) image fits made call = invoke_stands w h stands c ks g image call.0 call.1
  act_stands ReturnVoid image fits made call = return_void_stands w h stands
  act_stands (Return x a) image fits made call = return_form_stands w h stands x a
  act_stands (Enter a) image fits made call = monitor_by a (word_threads.monitor_enter w) (threads.monitor_enter h) (enter_stands w h stands)
  act_stands (Exit a) image fits made call = monitor_by a (word_threads.monitor_exit w) (threads.monitor_exit h) (exit_stands w h stands)
  act_stands (ConstString a s) image fits made call = others (ConstString a s) tt fits made
  act_stands (FieldGet s a b x) image fits made call = others (FieldGet s a b x) tt fits made
  act_stands (FieldPut s a b x) image fits made call = others (FieldPut s a b x) tt fits made
  act_stands op image fits made call = others op fits fits made
