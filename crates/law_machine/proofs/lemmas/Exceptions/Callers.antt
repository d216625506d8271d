-- Below what throws, each frame finds its handlers in order: it stands at an invoke, or at an instruction that needs a class.
use Rattle.std.proofs.Common.{◌≡◌, inl, inr, ℕ, List, [], ◌∷◌, Bool, true, false, Option, Some, None, refl, sym, ap, ◌∙◌, subst}
use Rattle.std.specs.Prelude.{All, if◌then◌else◌}
use Rattle.std.proofs.lemmas.List.Elements.{All-cons, All-nil}
use Rattle.dv_defs.specs.Images.{Image}
use Rattle.dv_machine.specs.Frame.{Frame}
use Rattle.dv_machine.specs.Level.{Level}
use Rattle.dv_machine.specs.Level as level
use Rattle.dv_typing.specs.declared.typing.RegState.{RegState}
use Rattle.dv_defs.specs.Parts.{Call}
use Rattle.dv_defs.specs.Pools.{Method}
use Rattle.dv_defs.specs.Op.{Op, New, StaticGet, StaticPut, Invoke, can_throw, needs}
use Rattle.dv_typing.specs.Statics.{At, fetch}
use Rattle.dv_typing.specs.Flow.{Catcher, is_exit, handlers_at, thrown_at}
use Rattle.dv_machine.specs.Heap.{Heap}
use Rattle.dv_machine.specs.State.{Thread, Shared, Machine, Here}
use Rattle.dv_machine.specs.Unwinding.{is_opening, catches, caught_frame}
use Rattle.dv_machine.specs.WellTyped.{Typings, this_above, IsPlaced, IsHandled, IsThrowable, BelowCode, BelowRecord, StackFine}
use Rattle.dv_machine.specs.Accepted.{Accepted}
use Rattle.law_machine.specs.Premises.{IsAt, KeepsKinds}
use Rattle.law_machine.specs.StepLaws.{ThrowerIsHandled, CallersAreHandled, NeedersAreHandled}
use Rattle.law_types.proofs.Facts.{no}
use Rattle.law_machine.proofs.lemmas.Growth.Kinds.{Either, conform_grown}
use Rattle.law_machine.proofs.lemmas.Exceptions.Handlers.{placed_handled, handlers_placed}

-- a frame at an instruction that throws, and is no monitor-exit
pub record IsThrower (image : Image) (g : Frame) : Type 0 where
  pub at : At
  pub has_at : fetch image g.method.0 g.at ≡ Some at
  pub can : can_throw at.op ≡ true
  pub stays : is_exit at.op ≡ false

abbrev pub TopThrows : Image → List Level → Type 0
TopThrows image [] = Unit {0}
TopThrows image (level.Code g ∷ ls) = IsThrower image g
TopThrows image (level.Init c r ∷ ls) = Unit {0}

pub need_throws : (op : Op) (c : ℕ) → needs op ≡ Some c → (can_throw op ≡ true) × (is_exit op ≡ false)
need_throws (New a d) c e = (refl, refl)
need_throws (StaticGet s a x) c e = (refl, refl)
need_throws (StaticPut s a x) c e = (refl, refl)
need_throws (Invoke k args m) c e = (refl, refl)
need_throws op c e = absurd (cc)

invoke_throws : (op : Op) (c : Call) (ks : List ℕ) (g : Method) → op ≡ Invoke c ks g → (can_throw op ≡ true) × (is_exit op ≡ false)
invoke_throws op c ks g e = (ap can_throw e, ap is_exit e)

pub below_throws : (image : Image) (m : Method) (ls : List Level) → BelowCode image m ls → TopThrows image ls
below_throws image m [] b = tt
below_throws image m (level.Code g ∷ ls) b = let p = invoke_throws b.0.at.op b.0.call b.0.args b.0.callee b.0.is_invoke in record { at = b.0.at; has_at = b.0.has_at; can = p.0; stays = p.1 }
below_throws image m (level.Init c r ∷ ls) b = tt

pub record_throws : (image : Image) (t c : ℕ) (ls : List Level) → BelowRecord image t c ls → is_opening image t c ls ≡ false → TopThrows image ls
record_throws image t c [] b e = tt
record_throws image t c (level.Code g ∷ ls) (inl b) e = let p = need_throws b.at.op c b.needed in record { at = b.at; has_at = b.has_at; can = p.0; stays = p.1 }
record_throws image t c (level.Code g ∷ ls) (inr b) e = no (sym e ∙ b.0)
record_throws image t c (level.Init d r ∷ ls) b e = tt

module _ (image : Image) (T : Typings) (acc : Accepted image T) (heap : Heap) (t o : ℕ) (thrown : IsThrowable image heap o) where
  record_below : (c : ℕ) (ls : List Level) → BelowRecord image t c ls → (TopThrows image ls → StackFine image T heap t None ls → StackFine image T heap t (Some o) ls) → (b : Bool) → is_opening image t c ls ≡ b → Either b (StackFine image T heap t None ls) (StackFine image T heap t None ls) → Either b (StackFine image T heap t None ls) (StackFine image T heap t (Some o) ls)
  record_below c ls b down true e k = k
  record_below c ls b down false e k = down (record_throws image t c ls b e) k

  -- a stack whose top frame throws
  pub thrown_below : (ls : List Level) → TopThrows image ls → StackFine image T heap t None ls → StackFine image T heap t (Some o) ls
  thrown_below [] top k = k
  thrown_below (level.Code g ∷ ls) top k = (k.0, k.1, placed_handled image T acc heap (this_above image ls) g top.at o k.1 top.has_at top.can top.stays thrown, thrown_below ls (below_throws image k.0.frame.code.method ls k.0.below) k.3)
  thrown_below (level.Init c r ∷ ls) top k = (k.0, record_below c.0 ls k.0 (thrown_below ls) (is_opening image t c.0 ls) refl k.1)

pub callers_are_handled : CallersAreHandled
callers_are_handled image T heap t o m ls acc i b k = thrown_below image T acc heap t o i ls (below_throws image m ls b) k

pub needers_are_handled : NeedersAreHandled
needers_are_handled image T heap t o c r ls acc i k = thrown_below image T acc heap t o i (level.Init (record { 0 = c }) r ∷ ls) tt k

-- the frame that throws, once a monitor-exit has moved it on
module _ (image : Image) (T : Typings) (m : Machine) (t : ℕ) (thread : Thread) (h : Here) (x : At) (s : RegState) (after : Heap) (o : ℕ) (i : IsAt image T m t thread h x s) (can : can_throw x.op ≡ true) (g : KeepsKinds h.shared.heap after) (thrown : IsThrowable image after o) where
  all_handled : All (λ (c : Catcher). catches image after o c.ty ≡ true → IsPlaced image T after (this_above image h.rest) (caught_frame h.frame c.to o)) (handlers_at image h.frame.method.0 (thrown_at h.frame.at x))
  all_handled = handlers_placed image T i.may.accepted after (this_above image h.rest) h.frame h.own i.has_own s (conform_grown image h.shared.heap after g _ h.frame s i.conform) o thrown i.code x i.has_code i.fine can

  pub thrower_at : is_exit x.op ≡ false → IsHandled image T after (this_above image h.rest) o h.frame
  thrower_at e = subst (λ (n : ℕ). All (λ (c : Catcher). catches image after o c.ty ≡ true → IsPlaced image T after (this_above image h.rest) (caught_frame h.frame c.to o)) (handlers_at image h.frame.method.0 n)) (ap (λ (b : Bool). elim b [ true ↦ x.next | false ↦ h.frame.at ]) e) all_handled

  pub thrower_moved : is_exit x.op ≡ true → IsHandled image T after (this_above image h.rest) o (record { method = h.frame.method; at = x.next; regs = h.frame.regs; result = h.frame.result; caught = h.frame.caught; this_pending = h.frame.this_pending })
  thrower_moved e = subst (λ (n : ℕ). All (λ (c : Catcher). catches image after o c.ty ≡ true → IsPlaced image T after (this_above image h.rest) (caught_frame h.frame c.to o)) (handlers_at image h.frame.method.0 n)) (ap (λ (b : Bool). elim b [ true ↦ x.next | false ↦ h.frame.at ]) e) all_handled

  pub thrower_moved_on : (P : Level → Type 0) → ((f : Frame) → IsHandled image T after (this_above image h.rest) o f → P (level.Code f)) → (b : Bool) → is_exit x.op ≡ b → All P (if b then level.Code (record { method = h.frame.method; at = x.next; regs = h.frame.regs; result = h.frame.result; caught = h.frame.caught; this_pending = h.frame.this_pending }) ∷ [] else level.Code h.frame ∷ [])
  thrower_moved_on P f true e = All-cons P _ [] (f _ (thrower_moved e)) (All-nil P)
  thrower_moved_on P f false e = All-cons P _ [] (f _ (thrower_at e)) (All-nil P)

abbrev Handled : Image → Typings → Heap → Option ℕ → ℕ → Level → Type 0
Handled image T heap this o l = elim l [ level.Code f ↦ IsHandled image T heap this o f | level.Init c r ↦ ⊥ ]

-- an instruction sees what all share
pub sees_shared : (image : Image) (T : Typings) (m : Machine) (t : ℕ) (thread : Thread) (h : Here) (x : At) (s : RegState) → IsAt image T m t thread h x s → h.shared ≡ m.shared
sees_shared image T m t thread h x s i = ap (λ (y : Here). y.shared) i.sees

pub thrower_is_handled : ThrowerIsHandled
thrower_is_handled image T m t thread h x s after o i can g thrown = thrower_moved_on image T m t thread h x s after o i can (subst (λ (sh : Shared). KeepsKinds sh.heap after) (sym (sees_shared image T m t thread h x s i)) g) thrown (Handled image T after (this_above image h.rest) o) (λ f p. p) (is_exit x.op) refl
