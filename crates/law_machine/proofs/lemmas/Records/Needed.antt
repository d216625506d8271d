-- An instruction whose class isn't ready begins its initialisation, waits or throws.
use Rattle.std.proofs.Common.{◌≡◌, inl, ℕ, suc, ◌<◌, List, [], ◌∷◌, length, Bool, true, false, not, Option, Some, None, refl, sym, ap, ◌∙◌, subst, arith}
use Rattle.std.specs.Prelude.{All, nat_eq, bytes_eq, if◌then◌else◌}
use Rattle.std.proofs.lemmas.Bool.{and_parts}
use Rattle.std.proofs.lemmas.List.{length-set}
use Rattle.std.proofs.lemmas.List.Elements.{All-cons}
use Rattle.std.proofs.lemmas.Option.{same_Some, none-some}
use Rattle.dv_defs.specs.Images.{Image}
use Rattle.dv_machine.specs.Frame.{Frame}
use Rattle.dv_machine.specs.Level.{Level}
use Rattle.dv_machine.specs.Level as level
use Rattle.dv_defs.specs.declared.machine.End.TheVariants as end
use Rattle.dv_defs.specs.declared.machine.Ask.{Ask}
use Rattle.dv_defs.specs.declared.machine.Ask.TheVariants as ask
use Rattle.dv_typing.specs.declared.typing.RegState.{RegState}
use Rattle.dv_defs.specs.Names.{clinit_name}
use Rattle.dv_defs.specs.Parts.{Call}
use Rattle.dv_defs.specs.Pools.{Method, is_static}
use Rattle.dv_defs.specs.Op.{Op, New, StaticGet, StaticPut, Invoke, Code, needs}
use Rattle.dv_typing.specs.Statics.{At, fits_call}
use Rattle.dv_machine.specs.Monitors.{wait_of}
use Rattle.dv_machine.specs.Classes.{ClassState, Fresh, InProgress, Ready, Erroneous, state_at, asked, ask_of, with_state}
use Rattle.dv_machine.specs.State.{Thread, Machine, Left, Did, NoRoom, Here, left, with_classes}
use Rattle.dv_machine.specs.Calls.{receiver_of}
use Rattle.dv_machine.specs.Unwinding.{is_opening}
use Rattle.dv_machine.specs.Step.{act, for_class, with_ready, here}
use Rattle.dv_machine.specs.Conforming.{RefsFine}
use Rattle.dv_machine.specs.WellTyped.{Typings, StackFine, ThreadFine, records, owed}
use Rattle.dv_machine.specs.Accepted.{Accepted}
use Rattle.law_machine.specs.Premises.{LeftFine, ThrowFine, DidFine}
use Rattle.law_machine.specs.StepLaws.{NeedsAreFine}
use Rattle.law_types.proofs.Facts.{nothing}
use Rattle.law_flow.proofs.Statics.{KeepsRules}
use Rattle.law_machine.proofs.lemmas.Growth.Threads.{records_after}
use Rattle.law_machine.proofs.lemmas.Monitors.Moved.{quiet_moved}
use Rattle.law_machine.proofs.lemmas.Monitors.Owners.{entry_none}
use Rattle.law_machine.proofs.lemmas.Exceptions.Flown.{living_fine, refs_of, records_of}
use Rattle.law_machine.proofs.lemmas.Exceptions.Callers.{need_throws}
use Rattle.law_machine.proofs.lemmas.Records.States.{begun_mine, begun_others}
use Rattle.law_machine.proofs.lemmas.Local.Stands.{Stands, stands}
use Rattle.law_machine.proofs.lemmas.Local.Fine.{quiet}
use Rattle.law_machine.proofs.lemmas.Calls.Resolved.{IsNamed, is_named}
use Rattle.law_types.proofs.Demanded.{first_rule}
use Rattle.dv_defs.specs.declared.faults.Rule.TheVariants as rule
use Rattle.law_machine.proofs.lemmas.Common.Members.{class_of_field, class_of_method}

-- ---- what needs a class

-- the class is one of the image
needed_there : (image : Image) (T : Typings) → Accepted image T → (op : Op) (c : ℕ) → IsNamed image op → needs op ≡ Some c → c < length image.classes
needed_there image T acc (New a d) c i e = subst (λ (k : ℕ). k < length image.classes) (same_Some d c e) i
needed_there image T acc (StaticGet s a x) c i e = subst (λ (k : ℕ). k < length image.classes) (same_Some x.info.class.0 c e) (class_of_field image i.0 x i.1)
needed_there image T acc (StaticPut s a x) c i e = subst (λ (k : ℕ). k < length image.classes) (same_Some x.info.class.0 c e) (class_of_field image i.0 x i.1)
needed_there image T acc (Invoke Call.Static ks g) c i e = subst (λ (k : ℕ). k < length image.classes) (same_Some g.info.class.0 c e) (class_of_method image i.0 g i.1)
needed_there image T acc op c i e = absurd (cc)

-- a static call has no receiver
static_receiver : (image : Image) (code : Code) (ks : List ℕ) (g : Method) → KeepsRules image code (Invoke Call.Static ks g) → receiver_of (Invoke Call.Static ks g) ≡ None
static_receiver image code [] g e = refl
static_receiver image code (k ∷ ks) g e = ap (λ (b : Bool). (if b then None else Some k)) (and_parts (is_static g) (not (bytes_eq g.def.name clinit_name)) (first_rule (fits_call image code.method e.0 Call.Static g) (rule.S 14) _ e.1)).0

-- a thread can't wait at an instruction that needs a class
no_receiver : (image : Image) (code : Code) (op : Op) (c : ℕ) → KeepsRules image code op → needs op ≡ Some c → receiver_of op ≡ None
no_receiver image code (Invoke Call.Static ks g) c r e = static_receiver image code ks g r
no_receiver image code (Invoke Call.Direct ks g) c r e = absurd (cc)
no_receiver image code (Invoke Call.Super ks g) c r e = absurd (cc)
no_receiver image code (Invoke Call.Virtual ks g) c r e = absurd (cc)
no_receiver image code (Invoke Call.Interface ks g) c r e = absurd (cc)
no_receiver image code op c r e = refl

-- ---- such an instruction

module _ (image : Image) (T : Typings) (m : Machine) (t : ℕ) (thread : Thread) (own : Method) (f : Frame) (rest : List Level) (x : At) (s : RegState) (h : Stands image T m t thread own f rest x s) (code : Code) (rules : KeepsRules image code x.op) (c : ℕ) (needed : needs x.op ≡ Some c) where
  no_entry : wait_of m.shared.monitors t ≡ None
  no_entry = entry_none t m.shared.monitors.waits (λ k d l. quiet image T m t thread own f rest x s h (λ o w. none-some _ (sym (no_receiver image code x.op c rules needed) ∙ w.has_receiver)) _ (h.may.typed.monitors.waits k d l))

  fine : ThreadFine image T m.shared.heap t (level.Code f ∷ rest) end.Living
  fine = living_fine image T m t thread (level.Code f ∷ rest) h.may.typed h.has_thread h.living h.levels

  refs : All (RefsFine image m.shared.heap) (level.Code f ∷ rest)
  refs = refs_of image T m t thread (level.Code f ∷ rest) h.may.typed h.has_thread h.levels

  mine : (d : ℕ) → records d (level.Code f ∷ rest) ≡ owed t (state_at m.shared.classes d)
  mine = records_of image T m t thread (level.Code f ∷ rest) h.may.typed h.has_thread h.levels

  there : c < length m.shared.classes
  there = let l = needed_there image T h.may.accepted x.op c (is_named image f.method.0 f.at x h.has_at) needed in omega (arith, l, h.may.typed.class_states)

  throws : ThrowFine m t x
  throws = record { can = (need_throws x.op c needed).0; apart = no_entry }

  -- it stays at the instruction
  waits : LeftFine image T m t thread (record { levels = level.Code f ∷ rest; shared = m.shared; started = None })
  waits = record {
    keeps = λ o k e. e;
    levels = fine;
    refs = refs;
    heap = h.may.typed.heap;
    class_states = h.may.typed.class_states;
    monitors = quiet_moved image m.threads t thread _ [] m.shared m.shared m.steps (suc m.steps) (λ o k e. e) refl (omega arith) h.has_thread h.may.typed.refs no_entry h.may.typed.monitors;
    in_progress = records_after m.threads t thread _ None h.has_thread m.shared.classes m.shared.classes h.may.typed.in_progress mine (λ u d n. refl) (λ y e. nothing ((c : ℕ) → records c y.levels ≡ 0) y e);
    started = λ y e. nothing _ y e;
  }

  below : StackFine image T m.shared.heap t None (level.Init (record { 0 = c }) false ∷ level.Code f ∷ rest)
  below = (inl (record { at = x; has_at = h.has_at; needed = needed }), go (is_opening image t c (level.Code f ∷ rest)))
    where
      go : (b : Bool) → elim b as (λ x. Type 0) [ true ↦ StackFine image T m.shared.heap t None (level.Code f ∷ rest) | false ↦ StackFine image T m.shared.heap t None (level.Code f ∷ rest) ]
      go true = fine.1
      go false = fine.1

  -- a record of the class is pushed
  begins : state_at m.shared.classes c ≡ Fresh → LeftFine image T m t thread (record { levels = level.Init (record { 0 = c }) false ∷ level.Code f ∷ rest; shared = with_classes m.shared (with_state m.shared.classes c (InProgress t)); started = None })
  begins e = record {
    keeps = λ o k e. e;
    levels = (fine.0, below);
    refs = All-cons (RefsFine image m.shared.heap) (level.Init (record { 0 = c }) false) (level.Code f ∷ rest) tt refs;
    heap = h.may.typed.heap;
    class_states = length-set m.shared.classes c (InProgress t) ∙ h.may.typed.class_states;
    monitors = quiet_moved image m.threads t thread _ [] m.shared (with_classes m.shared (with_state m.shared.classes c (InProgress t))) m.steps (suc m.steps) (λ o k e. e) refl (omega arith) h.has_thread h.may.typed.refs no_entry h.may.typed.monitors;
    in_progress = records_after m.threads t thread _ None h.has_thread m.shared.classes (with_state m.shared.classes c (InProgress t)) h.may.typed.in_progress (λ d. begun_mine t c (level.Code f ∷ rest) m.shared.classes there e d (mine d)) (λ u d n. begun_others t c m.shared.classes there e u d n) (λ y e. nothing ((c : ℕ) → records c y.levels ≡ 0) y e);
    started = λ y e. nothing _ y e;
  }

  pub asked_fine : (go : Did Left) → DidFine image T m t thread x go → DidFine image T m t thread x (for_class (here image m t own f rest x.next) (level.Code f ∷ rest) c (ask_of m.shared.classes c t) go)
  asked_fine go k = by_state (state_at m.shared.classes c) refl
    where
      other : (u : ℕ) (b : Bool) → DidFine image T m t thread x (for_class (here image m t own f rest x.next) (level.Code f ∷ rest) c (elim b as (λ x. Ask) [ true ↦ ask.Go | false ↦ ask.Wait u ]) go)
      other u true = k
      other u false = waits

      pushing : (b : Bool) → LeftFine image T m t thread (record { levels = level.Init (record { 0 = c }) false ∷ level.Code f ∷ rest; shared = with_classes m.shared (with_state m.shared.classes c (InProgress t)); started = None }) → DidFine image T m t thread x (if b then left (here image m t own f rest x.next) (with_classes m.shared (with_state m.shared.classes c (InProgress t))) (level.Init (record { 0 = c }) false ∷ level.Code f ∷ rest) else NoRoom)
      pushing true l = l
      pushing false l = (throws, (need_throws x.op c needed).1)

      by_state : (s : ClassState) → state_at m.shared.classes c ≡ s → DidFine image T m t thread x (for_class (here image m t own f rest x.next) (level.Code f ∷ rest) c (asked t s) go)
      by_state Fresh e = pushing _ (begins e)
      by_state (InProgress u) e = other u (nat_eq u t)
      by_state Ready e = k
      by_state Erroneous e = throws

pub needs_are_fine : NeedsAreFine
needs_are_fine image T m t thread h x s i d = subst (λ (y : Here). DidFine image T m t thread x (with_ready y x.op (needs x.op))) (sym i.sees) (go (needs x.op) refl)
  where
    done : DidFine image T m t thread x (act (here image m t h.own h.frame h.rest x.next) x.op)
    done = subst (λ (y : Here). DidFine image T m t thread x (act y x.op)) i.sees d

    go : (o : Option ℕ) → needs x.op ≡ o → DidFine image T m t thread x (with_ready (here image m t h.own h.frame h.rest x.next) x.op o)
    go None e = done
    go (Some c) e = asked_fine image T m t thread h.own h.frame h.rest x s (stands image T m t thread h x s i) i.code (i.fine.reference, i.fine.rules) c e _ done
