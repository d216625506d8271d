-- A well-typed state stays so after a step of one thread, where what the step leaves is in order.
use Rattle.std.proofs.Common.{◌≡◌, ◌≢◌, ◌⊎◌, inl, inr, ℕ, zero, suc, List, [], ◌∷◌, ◌++◌, length, Option, Some, None, refl, sym, ap, ◌∙◌, subst}
use Rattle.std.specs.Option.{option_to_list}
use Rattle.std.specs.Prelude.{slice_get, slice_set, All}
use Rattle.std.proofs.lemmas.Bool.{cases_eq}
use Rattle.std.proofs.lemmas.List.{length-set}
use Rattle.std.proofs.lemmas.Option.{same_Some}
use Rattle.dv_defs.specs.Images.{Image}
use Rattle.dv_defs.specs.Names.{thread_name}
use Rattle.dv_defs.specs.Types.{of_class}
use Rattle.dv_machine.specs.Heap.{Heap}
use Rattle.dv_machine.specs.Classes.{Classes, state_at}
use Rattle.dv_machine.specs.State.{Thread, Machine, Left}
use Rattle.dv_machine.specs.Step.{with_thread}
use Rattle.dv_machine.specs.Conforming.{IsOf, RefsFine}
use Rattle.dv_machine.specs.WellTyped.{Typings, ThreadFine, HeapFine, MonitorsFine, records, owed, levels_in, WellTyped}
use Rattle.law_machine.specs.Premises.{KeepsKinds, StartedFine}
use Rattle.law_machine.specs.StepLaws.{LeftIsWellTyped}
use Rattle.law_machine.proofs.lemmas.Common.Lists.{get_front, set_there, set_other, all_at, all_from}
use Rattle.law_machine.proofs.lemmas.Growth.Kinds.{is_of_grown, all_refs_grown, thread_grown, preallocated_grown}

-- a place of a list with perhaps one element more
listed_cases : {A : Type 0} (xs : List A) (s : Option A) (more : Option A → List A) → more None ≡ [] → ((y : A) → more (Some y) ≡ y ∷ []) → (k : ℕ) (x : A) → slice_get (xs ++ more s) k ≡ Some x → (slice_get xs k ≡ Some x) ⊎ ((k ≡ length xs) × (s ≡ Some x))
listed_cases {A} [] s more n y k x e = go s refl
  where
    one : (z : A) (k : ℕ) → slice_get (z ∷ []) k ≡ Some x → (k ≡ 0) × (Some z ≡ Some x)
    one z zero e = (refl, e)
    one z (suc k) e = absurd (cc)

    none : (ys : List A) → ys ≡ [] → slice_get ys k ≡ Some x → ⊥
    none ys f e = cc

    go : (t : Option A) → s ≡ t → (slice_get [] k ≡ Some x) ⊎ ((k ≡ 0) × (s ≡ Some x))
    go None f = absurd (none (more s) (ap more f ∙ n) e)
    go (Some z) f = let p = one z k (subst (λ (ys : List A). slice_get ys k ≡ Some x) (ap more f ∙ y z) e) in inr (p.0, f ∙ p.1)
listed_cases (z ∷ xs) s more n y zero x e = inl e
listed_cases {A} (z ∷ xs) s more n y (suc k) x e = later (listed_cases xs s more n y k x e)
  where
    later : (slice_get xs k ≡ Some x) ⊎ ((k ≡ length xs) × (s ≡ Some x)) → (slice_get xs k ≡ Some x) ⊎ ((suc k ≡ suc (length xs)) × (s ≡ Some x))
    later (inl h) = inl h
    later (inr h) = inr (ap suc h.0, h.1)

-- past the end of the first list there is nothing, or the element more
listed_past : (xs : List Thread) (s : Option Thread) (k : ℕ) → slice_get xs k ≡ None → (slice_get (xs ++ option_to_list s) k ≡ None) ⊎ ((x : Thread) × (s ≡ Some x) × (slice_get (xs ++ option_to_list s) k ≡ Some x))
listed_past [] None k e = inl refl
listed_past [] (Some x) zero e = inr (x, refl, refl)
listed_past [] (Some x) (suc k) e = inl refl
listed_past (z ∷ xs) s zero e = absurd (cc)
listed_past (z ∷ xs) s (suc k) e = listed_past xs s k e

module _ (threads : List Thread) (t : ℕ) (before after : Thread) (started : Option Thread) (has : slice_get threads t ≡ Some before) where
  -- what holds of the thread that stepped, of the others and of a new one holds of each
  pub each_after : (P : ℕ → Thread → Type 0) → P t after → ((u : ℕ) (x : Thread) → slice_get threads u ≡ Some x → P u x) → ((x : Thread) → started ≡ Some x → P (length threads) x) → (u : ℕ) (x : Thread) → slice_get (slice_set threads t after ++ option_to_list started) u ≡ Some x → P u x
  each_after P own other new u x e = go (listed_cases (slice_set threads t after) started option_to_list refl (λ y. refl) u x e) (cases_eq u t)
    where
      go : (slice_get (slice_set threads t after) u ≡ Some x) ⊎ ((u ≡ length (slice_set threads t after)) × (started ≡ Some x)) → (u ≡ t) ⊎ (u ≢ t) → P u x
      go (inr p) c = subst (λ (k : ℕ). P k x) (sym (p.0 ∙ length-set threads t after)) (new x p.1)
      go (inl f) (inr d) = other u x (sym (set_other threads t u after d) ∙ f)
      go (inl f) (inl s) =
          let same : after ≡ x = same_Some after x (sym (set_there threads t after before has) ∙ ap (slice_get (slice_set threads t after)) (sym s) ∙ f) in
          subst (λ (k : ℕ). P k x) (sym s) (subst (λ (y : Thread). P t y) same own)

  -- the records of each thread number, also of one that is not there
  pub records_after : (old new : Classes) → ((u c : ℕ) → records c (levels_in (slice_get threads u)) ≡ owed u (state_at old c)) → ((c : ℕ) → records c after.levels ≡ owed t (state_at new c)) → ((u c : ℕ) → u ≢ t → owed u (state_at new c) ≡ owed u (state_at old c)) → ((x : Thread) → started ≡ Some x → (c : ℕ) → records c x.levels ≡ 0) → (u c : ℕ) → records c (levels_in (slice_get (slice_set threads t after ++ option_to_list started) u)) ≡ owed u (state_at new c)
  records_after old new was mine others fresh u c = go (cases_eq u t)
    where
      own : records c (levels_in (slice_get (slice_set threads t after ++ option_to_list started) t)) ≡ owed t (state_at new c)
      own = ap (λ (o : Option Thread). records c (levels_in o)) (get_front (slice_set threads t after) (option_to_list started) t after (set_there threads t after before has)) ∙ mine c

      there : u ≢ t → (x : Thread) → slice_get threads u ≡ Some x → records c (levels_in (slice_get (slice_set threads t after ++ option_to_list started) u)) ≡ owed u (state_at new c)
      there d x e = ap (λ (o : Option Thread). records c (levels_in o)) (get_front (slice_set threads t after) (option_to_list started) u x (set_other threads t u after d ∙ e) ∙ sym e) ∙ was u c ∙ sym (others u c d)

      none : u ≢ t → slice_get threads u ≡ None → 0 ≡ owed u (state_at new c)
      none d e = ap (λ (o : Option Thread). records c (levels_in o)) (sym e) ∙ was u c ∙ sym (others u c d)

      past : u ≢ t → slice_get threads u ≡ None → (slice_get (slice_set threads t after ++ option_to_list started) u ≡ None) ⊎ ((x : Thread) × (started ≡ Some x) × (slice_get (slice_set threads t after ++ option_to_list started) u ≡ Some x)) → records c (levels_in (slice_get (slice_set threads t after ++ option_to_list started) u)) ≡ owed u (state_at new c)
      past d e (inl f) = ap (λ (o : Option Thread). records c (levels_in o)) f ∙ none d e
      past d e (inr x) = ap (λ (o : Option Thread). records c (levels_in o)) x.2 ∙ fresh x.0 x.1 c ∙ none d e

      other : u ≢ t → (o : Option Thread) → slice_get threads u ≡ o → records c (levels_in (slice_get (slice_set threads t after ++ option_to_list started) u)) ≡ owed u (state_at new c)
      other d None e = past d e (listed_past (slice_set threads t after) started u (set_other threads t u after d ∙ e))
      other d (Some x) e = there d x e

      go : (u ≡ t) ⊎ (u ≢ t) → records c (levels_in (slice_get (slice_set threads t after ++ option_to_list started) u)) ≡ owed u (state_at new c)
      go (inl s) = subst (λ (k : ℕ). records c (levels_in (slice_get (slice_set threads t after ++ option_to_list started) k)) ≡ owed k (state_at new c)) (sym s) own
      go (inr d) = other d (slice_get threads u) refl

-- what a step of a thread leaves, with the thread as it stands then
pub record AfterFine (image : Image) (T : Typings) (m : Machine) (t : ℕ) (after : Thread) (l : Left) : Type 0 where
  pub keeps : KeepsKinds m.shared.heap l.shared.heap
  pub fine : ThreadFine image T l.shared.heap t after.levels after.end
  pub refs : All (RefsFine image l.shared.heap) after.levels
  pub object : IsOf image l.shared.heap after.object (of_class thread_name)
  pub heap : HeapFine image l.shared.heap
  pub class_states : length l.shared.classes ≡ length image.classes
  pub monitors : MonitorsFine image (with_thread m t after l).threads l.shared (suc m.steps)
  pub in_progress : (u c : ℕ) → records c (levels_in (slice_get (with_thread m t after l).threads u)) ≡ owed u (state_at l.shared.classes c)
  pub started : (u : Thread) → l.started ≡ Some u → StartedFine image T l.shared.heap (length m.threads) u

pub after_typed : (image : Image) (T : Typings) (m : Machine) (t : ℕ) (thread after : Thread) (l : Left) → WellTyped image T m → slice_get m.threads t ≡ Some thread → AfterFine image T m t after l → WellTyped image T (with_thread m t after l)
after_typed image T m t thread after l w has a = record {
  each = each_after m.threads t thread after l.started has (λ u x. ThreadFine image T l.shared.heap u x.levels x.end) a.fine (λ u x e. thread_grown image m.shared.heap l.shared.heap a.keeps T u x.levels x.end (w.each u x e)) (λ x e. (a.started x e).thread);
  objects = all_from (λ x. IsOf image l.shared.heap x.object (of_class thread_name)) _ (each_after m.threads t thread after l.started has (λ u x. IsOf image l.shared.heap x.object (of_class thread_name)) a.object (λ u x e. is_of_grown image m.shared.heap l.shared.heap a.keeps x.object (of_class thread_name) (all_at (λ y. IsOf image m.shared.heap y.object (of_class thread_name)) m.threads u x w.objects e)) (λ x e. (a.started x e).object));
  refs = all_from (λ x. All (RefsFine image l.shared.heap) x.levels) _ (each_after m.threads t thread after l.started has (λ u x. All (RefsFine image l.shared.heap) x.levels) a.refs (λ u x e. all_refs_grown image m.shared.heap l.shared.heap a.keeps x.levels (all_at (λ y. All (RefsFine image m.shared.heap) y.levels) m.threads u x w.refs e)) (λ x e. (a.started x e).refs));
  heap = a.heap;
  monitors = a.monitors;
  class_states = a.class_states;
  in_progress = a.in_progress;
  preallocated = preallocated_grown image m.shared.heap l.shared.heap a.keeps m.preallocated w.preallocated;
}

-- the Thread object of a thread is one still
pub object_after : (image : Image) (T : Typings) (m : Machine) (t : ℕ) (thread : Thread) (after : Heap) → WellTyped image T m → slice_get m.threads t ≡ Some thread → KeepsKinds m.shared.heap after → IsOf image after thread.object (of_class thread_name)
object_after image T m t thread after w has g = is_of_grown image m.shared.heap after g thread.object (of_class thread_name) (all_at (λ x. IsOf image m.shared.heap x.object (of_class thread_name)) m.threads t thread w.objects has)

pub left_is_well_typed : LeftIsWellTyped
left_is_well_typed image T m t thread l w has f = after_typed image T m t thread _ l w has (record {
  keeps = f.keeps;
  fine = f.levels;
  refs = f.refs;
  object = object_after image T m t thread l.shared.heap w has f.keeps;
  heap = f.heap;
  class_states = f.class_states;
  monitors = f.monitors;
  in_progress = f.in_progress;
  started = f.started;
})
