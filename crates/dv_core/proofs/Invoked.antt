-- What an invoke comes to in the thread that steps.
use Rattle.std.proofs.Common.{◌≡◌, ◌∙◌, ℕ, List, map, Some, false, true, sym, ap, subst}
use Rattle.std.specs.Prelude.{is_none, slice_get}
use Rattle.std.proofs.lemmas.Option.{same_Some}
use Rattle.dv_defs.specs.declared.code.Regs.{Regs}
use Rattle.dv_defs.specs.declared.run.Limits.{Limits}
use Rattle.dv_defs.specs.declared.run.Native.{Native}
use Rattle.dv_defs.specs.Images.{Image}
use Rattle.dv_defs.specs.Op.{Invoke, named_registers}
use Rattle.dv_defs.specs.Parts.{Call}
use Rattle.dv_defs.specs.Pools.{Method, method_at}
use Rattle.dv_typing.specs.Statics as statics
use Rattle.dv_words.specs.Stacks.{arg_words}
use Rattle.dv_words.specs.Running.{blocked_op}
use Rattle.dv_words.specs.State.{WordHeap, WordMachine, WordShared, WordStack, WordThread}
use Rattle.dv_words.specs.Calls as steps
use Rattle.dv_words.specs.Local.{reg_word}
use Rattle.dv_words.specs.Steps.{At}
use Rattle.dv_call.specs.Landings as calls
use Rattle.dv_call.specs.Landings.{IsNumbered, IsOwn, IsSeenByCalls, Landed, Runs, called, called_in, done, is_native}
use Rattle.dv_call.proofs.Called.{invoke_is}
use Rattle.dv_builtin.specs.Natives.{TextsFit}
use Rattle.dv_core.specs.declared.guest.Guest.{Guest}
use Rattle.dv_core.specs.Fitting.{StepFits}
use Rattle.dv_fetch.specs.Standing.{IsAtOp}
use Rattle.dv_core.specs.Guests.{IsSeen, shared_of}
use Rattle.dv_core.proofs.Outcomes.{args_are}
use Rattle.dv_core.proofs.Seen.{is_stack}
use Rattle.dv_core.proofs.Waits.{invoke_free}

module _ (i : Image) (lim : Limits) (old : Guest) (thread : ℕ) (own : WordThread) (h : At) (x : statics.At) (seen : IsSeen i lim old thread own h) (at : IsAtOp own h x) (c : Call) (regs : Regs) (g : Method)
    (fits : StepFits h (Invoke c (named_registers regs) g)) (s : WordStack) (there : slice_get old.threads.stacks.items thread ≡ Some s) (l : Landed)
    (lands : (k : At) → calls.IsSeenByCalls i old.heap s k → IsOwn k → IsNumbered i g → l ≡ called k c g (arg_words s regs)) where
  pub landed : called h c g (arg_words s regs) ≡ l
  landed =
      sym (lands h (record { same_image = seen.image; same_heap = ap (λ (k : WordShared). k.heap) seen.shared; is_stack = is_stack i lim old thread own h seen at.levels s there }) at.method
      (ap (λ (k : Image). method_at k g.id) (sym seen.image) ∙ fits.call.1))

  -- of the words of any stack that is the thread's
  pub invokes : (t : WordStack) → slice_get old.threads.stacks.items thread ≡ Some t → steps.invoke h c (named_registers regs) g ≡ done h (arg_words t regs) l
  invokes t is =
      let same : s ≡ t = same_Some s t (sym there ∙ is) in
      let P : WordStack → Type 0 = λ k. steps.invoke h c (named_registers regs) g ≡ done h (arg_words k regs) l in
      subst P same (invoke_is s h c regs g (is_stack i lim old thread own h seen at.levels s there) l landed)

  -- of the words of any stack that is the thread's
  pub lands_of : (t : WordStack) → slice_get old.threads.stacks.items thread ≡ Some t → called h c g (arg_words t regs) ≡ l
  lands_of t is = subst (λ (k : WordStack). called h c g (arg_words k regs) ≡ l) (same_Some s t (sym there ∙ is)) landed

  -- and as calls see it
  pub seen_by_calls : (t : WordStack) → slice_get old.threads.stacks.items thread ≡ Some t → IsSeenByCalls i old.heap t h
  seen_by_calls t is = record { same_image = seen.image; same_heap = ap (λ (k : WordShared). k.heap) seen.shared; is_stack = is_stack i lim old thread own h seen at.levels t is }

  invoke_words : arg_words s regs ≡ map (reg_word h.frame) (named_registers regs)
  invoke_words = args_are s h regs (is_stack i lim old thread own h seen at.levels s there)

  pub invokes_words : steps.invoke h c (named_registers regs) g ≡ done h (map (reg_word h.frame) (named_registers regs)) l
  invokes_words = invokes s there ∙ ap (λ (ws : List ℕ). done h ws l) invoke_words

  pub fits_native : (n : Native) → l ≡ Runs n → TextsFit h.shared.heap n (map (reg_word h.frame) (named_registers regs))
  fits_native n is = fits.arguments n (ap (called h c g) (sym invoke_words) ∙ (landed ∙ is))

  -- where it runs no native it holds the thread up nowhere
  pub invokes_free : (m : WordMachine) → m.shared ≡ shared_of old → is_native l ≡ false → is_none (blocked_op h.image m h.thread h.own h.frame (Invoke c (named_registers regs) g)) ≡ true
  invokes_free m is other =
      let heap : m.shared.heap ≡ h.shared.heap = ap (λ (k : WordShared). k.heap) (is ∙ sym seen.shared) in
      ap is_none (invoke_free h.image m h.thread h.own h.frame c g (named_registers regs) l
      (ap (λ (k : WordHeap). called_in h.image k h.own c g (map (reg_word h.frame) (named_registers regs))) heap ∙ (ap (called_in h.image h.shared.heap h.own c g) (sym invoke_words) ∙ landed)) other)
