-- A thread at an instruction, and its frame after a step.
use Rattle.std.proofs.Common.{◌≡◌, ℕ, List, [], ◌∷◌, length, Some, None, sym, ap, ◌∙◌, subst}
use Rattle.std.specs.Prelude.{slice_get, All, Ok, Err}
use Rattle.std.proofs.lemmas.List.Elements.{All-head, All-tail}
use Rattle.std.proofs.lemmas.Option.{same_Some}
use Rattle.dv_defs.specs.Images.{Image}
use Rattle.dv_machine.specs.Frame.{Frame}
use Rattle.dv_machine.specs.Level.{Level}
use Rattle.dv_machine.specs.Level as level
use Rattle.dv_defs.specs.declared.machine.End.{End}
use Rattle.dv_defs.specs.declared.machine.End.TheVariants as end
use Rattle.dv_typing.specs.declared.typing.RegState.{RegState}
use Rattle.dv_defs.specs.Pools.{Method, method_at}
use Rattle.dv_defs.specs.Op.{Code, code_at}
use Rattle.dv_typing.specs.Statics.{At, fetch}
use Rattle.dv_typing.specs.Demands.{demands}
use Rattle.dv_typing.specs.Transfer.{out}
use Rattle.dv_typing.specs.Flow.{Leads, targets}
use Rattle.dv_machine.specs.State.{Thread, Machine, Here, Shared, Reads, Did, Left, reading}
use Rattle.dv_machine.specs.Conforming.{Conform, RefsFine}
use Rattle.dv_machine.specs.WellTyped.{Typings, own_of, this_above, lowest, IsCode, BelowCode, IsPlaced, CodeFine, StackFine, ThreadFine}
use Rattle.law_machine.specs.Premises.{MayStep, IsAt, HoldsOf, DidFine}
use Rattle.law_machine.proofs.lemmas.Common.Conformity.{frame_up}
use Rattle.law_machine.proofs.lemmas.Common.Lists.{all_at}
use Rattle.law_flow.proofs.MethodCode.{code_is}
use Rattle.law_flow.proofs.Statics.{KeepsRules}

-- what a step does after a read
pub read_then : (image : Image) (T : Typings) (m : Machine) (t : ℕ) (thread : Thread) (x : At) {A : Type 0} (P : A → Type 0) (r : Reads A) (go : A → Did Left) → HoldsOf P r → ((y : A) → P y → DidFine image T m t thread x (go y)) → DidFine image T m t thread x (reading r go)
read_then image T m t thread x P (Ok y) go k n = n y k
read_then image T m t thread x P (Err w) go k n = absurd k

-- what is known of a living thread at an instruction, in the parts of the machine
pub record Stands (image : Image) (T : Typings) (m : Machine) (t : ℕ) (thread : Thread) (own : Method) (f : Frame) (rest : List Level) (x : At) (s : RegState) : Type 0 where
  pub may : MayStep image T m t
  pub has_thread : slice_get m.threads t ≡ Some thread
  pub living : thread.end ≡ end.Living
  pub levels : thread.levels ≡ level.Code f ∷ rest
  pub has_own : method_at image f.method.0 ≡ Some own
  pub has_at : fetch image f.method.0 f.at ≡ Some x
  pub has_state : T f.method.0 f.at ≡ Some s
  pub demand : demands image own x.op s ≡ None
  pub flows : All (Leads image (T f.method.0) (out image own f.at x.op s)) (targets x)
  pub conform : Conform image m.shared.heap (own_of image (this_above image rest) own) f s
  pub code : Code
  pub has_code : code_at image f.method.0 ≡ Some code
  pub of_own : code.method ≡ own
  pub rules : KeepsRules image code x.op
  pub below : BelowCode image own rest
  pub rest_fine : StackFine image T m.shared.heap t None rest

pub stands : (image : Image) (T : Typings) (m : Machine) (t : ℕ) (thread : Thread) (h : Here) (x : At) (s : RegState) → IsAt image T m t thread h x s → Stands image T m t thread h.own h.frame h.rest x s
stands image T m t thread h x s i =
    let same : i.code.method ≡ h.own = same_Some _ _ (sym (code_is image _ i.code i.has_code).method ∙ i.has_own) in
    let shared : h.shared ≡ m.shared = ap (λ (z : Here). z.shared) i.sees in
    record {
      may = i.may;
      has_thread = i.has_thread;
      living = i.living;
      levels = i.levels;
      has_own = i.has_own;
      has_at = i.has_at;
      has_state = i.has_state;
      demand = subst (λ z. demands image z x.op s ≡ None) same i.fine.ok;
      flows = subst (λ z. All (Leads image (T h.frame.method.0) (out image z h.frame.at x.op s)) (targets x)) same i.fine.flows;
      conform = subst (λ (z : Shared). Conform image z.heap (own_of image (this_above image h.rest) h.own) h.frame s) shared i.conform;
      code = i.code;
      has_code = i.has_code;
      of_own = same;
      rules = (i.fine.reference, i.fine.rules);
      below = i.below;
      rest_fine = subst (λ (z : Shared). StackFine image T z.heap t None h.rest) shared i.rest_fine;
    }

-- ---- the frames of the thread

-- the lowest level is code, also with another frame on the same levels
pub same_lowest : (f g : Frame) (ls : List Level) → IsCode (lowest (level.Code f ∷ ls)) → IsCode (lowest (level.Code g ∷ ls))
same_lowest f g [] k = tt
same_lowest f g (l ∷ ls) k = k

module _ (image : Image) (T : Typings) (m : Machine) (t : ℕ) (thread : Thread) (own : Method) (f : Frame) (rest : List Level) (x : At) (s : RegState) (h : Stands image T m t thread own f rest x s) where
  living_fine : (e : End) → e ≡ end.Living → (ls : List Level) → ThreadFine image T m.shared.heap t ls e → IsCode (lowest ls) × StackFine image T m.shared.heap t None ls
  living_fine e q ls k = subst (ThreadFine image T m.shared.heap t ls) q k

  pub stack_fine : IsCode (lowest (level.Code f ∷ rest)) × StackFine image T m.shared.heap t None (level.Code f ∷ rest)
  stack_fine = subst (λ ls. IsCode (lowest ls) × StackFine image T m.shared.heap t None ls) h.levels (living_fine thread.end h.living thread.levels (h.may.typed.each t thread h.has_thread))

  pub refs_fine : All (RefsFine image m.shared.heap) (level.Code f ∷ rest)
  refs_fine = subst (All (RefsFine image m.shared.heap)) h.levels (all_at (λ (th : Thread). All (RefsFine image m.shared.heap) th.levels) m.threads t thread h.may.typed.refs h.has_thread)

  pub frame_refs : RefsFine image m.shared.heap (level.Code f)
  frame_refs = All-head (RefsFine image m.shared.heap) (level.Code f) rest refs_fine

  pub rest_refs : All (RefsFine image m.shared.heap) rest
  rest_refs = All-tail (RefsFine image m.shared.heap) (level.Code f) rest refs_fine

  pub code_fine : CodeFine image T m.shared.heap f rest
  code_fine = stack_fine.1.0

  pub rest_lowest : (l : Level) (ls : List Level) → rest ≡ l ∷ ls → IsCode (lowest (l ∷ ls))
  rest_lowest l ls e = subst (λ z. IsCode (lowest (level.Code f ∷ z))) e stack_fine.0

  pub placed : (g : Frame) (st : RegState) → g.method ≡ f.method → Leads image (T f.method.0) st g.at → Conform image m.shared.heap (own_of image (this_above image rest) own) g st → IsPlaced image T m.shared.heap (this_above image rest) g
  placed g st e l c = record {
    method = own;
    has_method = ap (λ z. method_at image z.0) e ∙ h.has_own;
    state = l.state;
    has_state = ap (λ z. T z.0 g.at) e ∙ l.has_state;
    conform = frame_up image h.may.accepted.order m.shared.heap (own_of image (this_above image rest) own) g st l.state l.below c;
  }

  -- another frame of the same method in place of the thread's own
  pub replaced_fine : (g : Frame) (st : RegState) → g.method ≡ f.method → length g.regs ≡ length f.regs → Leads image (T f.method.0) st g.at → Conform image m.shared.heap (own_of image (this_above image rest) own) g st → ThreadFine image T m.shared.heap t (level.Code g ∷ rest) end.Living
  replaced_fine g st e n l c = (
    same_lowest f g rest stack_fine.0,
    (
      record {
        frame = record { code = code_fine.frame.code; has_code = ap (λ z. code_at image z.0) e ∙ code_fine.frame.has_code; registers = n ∙ code_fine.frame.registers };
        below = code_fine.below;
      },
      placed g st e l c,
      tt,
      h.rest_fine,
    ),
  )
