-- What a step of a thread takes holds in words that stand for a well-typed state of an accepted image.
use Rattle.std.proofs.Common.{◌≡◌, ℕ, ◌<◌, ◌-◌, ◌^◌, List, ◌∷◌, Bool, Option, Some, None, sym, ap, ◌∙◌, subst, arith}
use Rattle.std.proofs.lemmas.Option.{same_Some}
use Rattle.dv_defs.specs.declared.machine.End.TheVariants as end
use Rattle.dv_machine.specs.Frame as tagged
use Rattle.dv_defs.specs.declared.names.ClassId.{ClassId}
use Rattle.dv_typing.specs.Demands.{demands}
use Rattle.dv_machine.specs.Classes.{Classes, InProgress, state_at}
use Rattle.dv_defs.specs.Images.{Image}
use Rattle.dv_defs.specs.Op.{Op, Invoke}
use Rattle.dv_typing.specs.Statics as statics
use Rattle.dv_typing.specs.Statics.{fetch}
use Rattle.dv_machine.specs.Accepted.{Accepted}
use Rattle.dv_machine.specs.State.{Machine}
use Rattle.dv_machine.specs.WellTyped.{IsPlaced, Typings, own_of}
use Rattle.dv_words.specs.declared.state.Level.{Level}
use Rattle.dv_words.specs.declared.state.Level.TheVariants as level
use Rattle.dv_words.specs.Standing.{FrameStands, HeapStands, LevelsStand, SharedStands}
use Rattle.dv_words.specs.State.{WordMachine, WordShared, WordThread}
use Rattle.law_words.specs.StepLaws.{AllKeysRise, CallFits, StringsFit}
use Rattle.dv_words.specs.Steps.{At, mem_here}
use Rattle.law_words.proofs.Fitting.{fetched_operands_fit}
use Rattle.dv_mem.proofs.Typed.{operands_stand}
use Rattle.law_engine.specs.Laws.{IsSimulated}
use Rattle.law_engine.proofs.Fields.{accepted_images_fit}
use Rattle.dv_threads.specs.Kept.{HasRoom, threads_of}
use Rattle.dv_core.specs.declared.vm.Vm.{Vm}
use Rattle.dv_core.specs.Fitting.{AreCountable, ArgumentsFit, RecordFits, StepFits}
use Rattle.dv_fetch.specs.Standing.{IsAtOp}
use Rattle.dv_core.specs.Guests.{IsSeen}
use Rattle.dv_core.specs.Laws.{StepsFit}
use Rattle.dv_core.specs.Machines.{machine_of}
use Rattle.dv_core.proofs.Callers.{caller_stands, met_top, placed_stands, same_fetch}
use Rattle.dv_core.proofs.CharArrays.{texts_fit}
use Rattle.dv_core.proofs.Counts.{counts}
use Rattle.dv_core.proofs.InProgress.{in_progress}
use Rattle.dv_core.proofs.Stands.{matched}

-- the image is accepted, and the words stand for a well-typed state
record IsGiven (image : Image) (T : Typings) (w : WordMachine) (m : Machine) : Type 0 where
  accepted : Accepted image T
  strings : StringsFit image
  keys : AllKeysRise image
  simulated : IsSimulated image T w m

-- the native that an instruction runs finds its arguments
arguments_fit : (T : Typings) (m : Machine) (h : At) (this : Option ℕ) (f : tagged.Frame) (x : statics.At) → Accepted h.image T → HeapStands h.shared.heap m.shared.heap → FrameStands h.frame f → IsPlaced h.image T m.shared.heap this f → fetch h.image f.method.0 f.at ≡ Some x → CallFits h.image x.op → ArgumentsFit h x.op
arguments_fit T m h this f x acc heap frame placed found =
    let e = acc.typed.each f.method.0 f.at placed.state placed.has_state in
    let at : e.1 ≡ x = same_Some e.1 x (sym e.3 ∙ found) in
    by x.op (subst (λ (y : statics.At). demands h.image e.0.method y.op placed.state ≡ None) at e.4.ok)
  where
    by : (op : Op) → demands h.image (acc.typed.each f.method.0 f.at placed.state placed.has_state).0.method op placed.state ≡ None → CallFits h.image op → ArgumentsFit h op
    by (Invoke c ks g) d fit =
        λ n runs. texts_fit h.image T acc m.shared.heap h.shared.heap heap (own_of h.image this placed.method) (acc.typed.each f.method.0 f.at placed.state placed.has_state).0.method h.own h.frame f placed.state frame placed.conform.good.regs c ks g fit.1 d n runs
    by op d fit = tt

module _ (T : Typings) (v : Vm) (m : Machine) (room : HasRoom v.limits) (few : v.steps < 2 ^ 64 - 1) (t : ℕ) where
  -- at an instruction
  step_fits : (image : Image) (own : WordThread) (h : At) (x : statics.At) → IsGiven h.image T (machine_of v) m → IsSeen image v.limits v.guest t own h → own.end ≡ end.Living → IsAtOp own h x → StepFits h x.op
  step_fits image own h x given seen living at =
      let sim = given.simulated in
      let met = met_top h.image T (machine_of v) m t own h.frame h.rest sim.typed sim.stands seen.there living at.levels in
      let found : fetch h.image met.frame.method.0 met.frame.at ≡ Some x = sym (same_fetch h.image h.frame met.frame met.stands) ∙ at.fetched in
      let fits = fetched_operands_fit h.image (accepted_images_fit h.image T given.accepted) given.strings met.frame.method.0 met.frame.at x found in
      let shared : SharedStands h.shared m.shared = subst (λ (s : WordShared). SharedStands s m.shared) (sym seen.shared) sim.stands.shared in
      record {
        keys = given.keys h.frame.method.0 h.frame.at x at.fetched;
        call = fits.1;
        caller = caller_stands h.image met.method h.rest met.below met.rest_stands met.called;
        operands = operands_stand h.image T m.shared.heap _ met.frame x (mem_here h) given.accepted sim.typed.heap met.placed found fits.0 met.stands shared.heap;
        arguments = arguments_fit T m h _ met.frame x given.accepted shared.heap met.stands met.placed found fits.1;
        countable = countable shared;
        room = subst HasRoom (sym seen.limits) room;
      }
    where
      countable : SharedStands h.shared m.shared → AreCountable h
      countable shared o =
          let most = counts m.threads m.steps m.shared.monitors o given.simulated.typed.monitors.held in
          let steps : v.steps ≡ m.steps = given.simulated.stands.steps in
          rw shared.monitors (omega (arith, most, steps, few))

  -- at the record of a class
  record_fits : (image : Image) (own : WordThread) (h : At) (c : ClassId) (r : Bool) → IsGiven image T (machine_of v) m → IsSeen image v.limits v.guest t own h → own.levels ≡ level.Init c r ∷ h.rest → RecordFits h c
  record_fits image own h c r given seen levels =
      let sim = given.simulated in
      let th = matched (threads_of v.guest.threads) m.threads t own sim.stands.threads seen.there in
      let stands = subst (λ (ls : List Level). LevelsStand ls th.thread.levels) levels th.stands.levels in
      let now : state_at m.shared.classes c.0 ≡ InProgress t = in_progress image T m t th.thread c r h.rest sim.typed th.there stands in
      let classes : h.shared.classes ≡ m.shared.classes = ap (λ (s : WordShared). s.classes) seen.shared ∙ sim.stands.shared.classes in
      ap (λ (cs : Classes). state_at cs c.0) classes ∙ now ∙ ap InProgress (sym seen.number)

pub steps_fit : StepsFit
steps_fit image T v m t acc strings keys sim ordered numbered room few =
    let given : IsGiven image T (machine_of v) m = record { accepted = acc; strings = strings; keys = keys; simulated = sim } in
    record {
      ordered = ordered;
      numbered = numbered;
      few = few;
      stands = λ own h f seen living levels.
          let met = met_top image T (machine_of v) m t own f h.rest sim.typed sim.stands seen.there living levels in
          placed_stands image T m.shared.heap _ f met.frame acc met.placed met.stands;
      instruction = λ own h x seen living at.
          step_fits T v m room few t image own h x (subst (λ (i : Image). IsGiven i T (machine_of v) m) (sym seen.image) given) seen living at;
      class = λ own h c r seen levels. record_fits T v m room few t image own h c r given seen levels;
    }
