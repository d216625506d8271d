-- Steps that touch one frame alone are fine.
use Rattle.std.proofs.Common.{◌≡◌, ℕ, List, ◌∷◌, length, true, Some, sym, ap, ◌∙◌, subst}
use Rattle.std.specs.Prelude.{slice_get, Ok, Err, nat_lt, if◌then◌else◌}
use Rattle.std.proofs.lemmas.List.Elements.{All-cons}
use Rattle.std.proofs.lemmas.Option.{same_Some}
use Rattle.dv_defs.specs.Images.{Image}
use Rattle.dv_machine.specs.Value as v
use Rattle.dv_defs.specs.declared.run.Native.TheVariants as native
use Rattle.dv_machine.specs.Frame.{Frame}
use Rattle.dv_machine.specs.Level.{Level}
use Rattle.dv_machine.specs.Level as level
use Rattle.dv_typing.specs.declared.typing.RegState.{RegState}
use Rattle.dv_defs.specs.Parts.{Call}
use Rattle.dv_defs.specs.Pools.{Method, method_at}
use Rattle.dv_defs.specs.Op.{Op, Invoke, ReturnVoid, Return, Enter, Exit, is_local}
use Rattle.dv_typing.specs.Statics.{At, fetch}
use Rattle.dv_typing.specs.Transfer.{out}
use Rattle.dv_typing.specs.Flow.{Leads}
use Rattle.dv_machine.specs.State.{Thread, Machine, Reads, reading, reg_at, Here, onward}
use Rattle.dv_machine.specs.Mem.{mem}
use Rattle.dv_machine.specs.Local.{local}
use Rattle.dv_machine.specs.Calls.{Lands, dispatch, receiver_of, native_of}
use Rattle.dv_machine.specs.Step.{act, local_left, here}
use Rattle.dv_machine.specs.Conforming.{RefsFine, Conform}
use Rattle.dv_machine.specs.WellTyped.{Typings, own_of, this_above, records, IsWaiting}
use Rattle.law_machine.specs.Premises.{LeftFine, DidFine, HoldsOf}
use Rattle.law_machine.specs.StepLaws.{LocalStepsAreFine}
use Rattle.law_types.proofs.Facts.{no}
use Rattle.law_machine.proofs.lemmas.Local.Still.{still, same_shared, IsQuiet}
use Rattle.law_machine.proofs.lemmas.Local.Stands.{Stands, stands, replaced_fine, frame_refs, rest_refs}
use Rattle.law_machine.proofs.lemmas.Local.Steps.{sound, all_in}

module _ (image : Image) (T : Typings) (m : Machine) (t : ℕ) (thread : Thread) (own : Method) (f : Frame) (rest : List Level) (x : At) (s : RegState) (h : Stands image T m t thread own f rest x s) where
  -- the thread waits, at this invoke
  pub record WaitsHere (object : ℕ) : Type 0 where
    pub call : Call
    pub args : List ℕ
    pub callee : Method
    pub is_invoke : x.op ≡ Invoke call args callee
    pub receiver : ℕ
    pub has_receiver : receiver_of x.op ≡ Some receiver
    pub holds : reg_at f.regs receiver ≡ v.Ref object
    pub there : nat_lt 0 object ≡ true
    pub landed : Method
    pub lands : dispatch image m.shared.heap own call callee object ≡ Lands landed
    pub is_wait : native_of image landed ≡ Some native.Wait

  same_frame : (g : Frame) (ls : List Level) → level.Code g ∷ ls ≡ level.Code f ∷ rest → g ≡ f
  same_frame g ls e = cc

  waits_here : (o : ℕ) → IsWaiting image m.shared.heap thread.levels thread.end o → WaitsHere o
  waits_here o w =
      let frame : w.frame ≡ f = same_frame w.frame w.rest (sym w.levels ∙ h.levels) in
      let method : w.method ≡ own = same_Some _ _ (sym w.has_method ∙ ap (λ (g : Frame). method_at image g.method.0) frame ∙ h.has_own) in
      let at : w.at ≡ x = same_Some _ _ (sym w.has_at ∙ ap (λ (g : Frame). fetch image g.method.0 g.at) frame ∙ h.has_at) in
      record {
        call = w.call;
        args = w.args;
        callee = w.callee;
        is_invoke = ap (λ (y : At). y.op) (sym at) ∙ w.is_invoke;
        receiver = w.receiver;
        has_receiver = ap (λ (y : At). receiver_of y.op) (sym at) ∙ w.has_receiver;
        holds = ap (λ (g : Frame). reg_at g.regs w.receiver) (sym frame) ∙ w.holds;
        there = w.there;
        landed = w.landed;
        lands = ap (λ k. dispatch image m.shared.heap k w.call w.callee o) (sym method) ∙ w.lands;
        is_wait = w.is_wait;
      }

  -- the thread is in no entry where it can't wait here
  pub quiet : ((o : ℕ) → WaitsHere o → ⊥) → IsQuiet image m t
  quiet n w k e =
      let same : k.thread ≡ thread = same_Some _ _ (sym k.has_thread ∙ ap (slice_get m.threads) e ∙ h.has_thread) in
      n w.object (waits_here w.object (subst (λ (th : Thread). IsWaiting image m.shared.heap th.levels th.end w.object) same k.waits))

  -- a frame of the same method in place of the thread's own
  pub replaced_left : IsQuiet image m t → (g : Frame) (st : RegState) → g.method ≡ f.method → length g.regs ≡ length f.regs → Leads image (T f.method.0) st g.at → Conform image m.shared.heap (own_of image (this_above image rest) own) g st → RefsFine image m.shared.heap (level.Code g) → LeftFine image T m t thread (same_shared image T m t thread h.has_thread (level.Code g ∷ rest))
  replaced_left q g st e n l c r = still image T m t thread h.has_thread (level.Code g ∷ rest) h.may.typed q
      (replaced_fine image T m t thread own f rest x s h g st e n l c)
      (All-cons (RefsFine image m.shared.heap) (level.Code g) rest r (rest_refs image T m t thread own f rest x s h))
      (λ c. ap (records c) (sym h.levels))

  abbrev here_it : Here
  here_it = here image m t own f rest x.next

  read_left : (P : Frame → Type 0) (r : Reads Frame) → HoldsOf P r → ((g : Frame) → P g → LeftFine image T m t thread (same_shared image T m t thread h.has_thread (level.Code g ∷ rest))) → DidFine image T m t thread x (reading r (onward here_it m.shared))
  read_left P (Ok g) k n = n g k
  read_left P (Err y) k n = absurd k

  -- a local instruction is no invoke
  no_invoke : (op : Op) (c : Call) (ks : List ℕ) (g : Method) → is_local op ≡ true → op ≡ Invoke c ks g → ⊥
  no_invoke op c ks g e i = no (subst (λ z. is_local z ≡ true) i e)

  pub local_fine : is_local x.op ≡ true → DidFine image T m t thread x (local_left here_it x.op)
  local_fine e =
      let q = quiet (λ o w. no_invoke x.op w.call w.args w.callee e w.is_invoke) in
      read_left _ (local x.op f x.next) (sound image m.shared.heap (own_of image (this_above image rest) own) own f s x.next h.conform (frame_refs image T m t thread own f rest x s h) x.op e h.demand)
      (λ g w. replaced_left q g (out image own f.at x.op s) w.method w.count (all_in (Leads image (T f.method.0) (out image own f.at x.op s)) _ _ h.flows w.place) w.conform w.refs)

act_local : (h : Here) (op : Op) → is_local op ≡ true → act h op ≡ local_left h op
act_local h (Invoke c ks g) e = no e
act_local h ReturnVoid e = no e
act_local h (Return w a) e = no e
act_local h (Enter a) e = no e
act_local h (Exit a) e = no e
act_local h op e = ap (λ z. (if z then local_left h op else mem h op)) e

pub local_steps_are_fine : LocalStepsAreFine
local_steps_are_fine image T m t thread h x s i e =
    let k = stands image T m t thread h x s i in
    let fine = local_fine image T m t thread h.own h.frame h.rest x s k e in
    subst (DidFine image T m t thread x) (sym (ap (λ (z : Here). act z x.op) i.sees ∙ act_local (here image m t h.own h.frame h.rest x.next) x.op e)) fine
