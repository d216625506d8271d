-- Class initialisation and exceptions in flight on words go where the tagged machine's go.
use Rattle.std.proofs.Common.{◌≡◌, ℕ, suc, ◌+◌, ◌++◌, Bool, true, false, Option, Some, None, List, [], ◌∷◌, length, replicate, refl, sym, ap, ◌∙◌, subst}
use Rattle.std.specs.Prelude.{codes, if◌then◌else◌, slice_get}
use Rattle.dv_defs.specs.declared.machine.Ask.{Ask}
use Rattle.dv_defs.specs.declared.machine.Ask.TheVariants as ask
use Rattle.dv_machine.specs.Frame as tagged_frame
use Rattle.dv_machine.specs.Kind.{Kind}
use Rattle.dv_machine.specs.Kind as kind_of_tagged
use Rattle.dv_machine.specs.Level as tagged_level
use Rattle.dv_defs.specs.declared.names.ClassId.{ClassId}
use Rattle.dv_defs.specs.declared.names.MethodId.{MethodId}
use Rattle.dv_defs.specs.declared.run.Named.TheVariants as named
use Rattle.dv_machine.specs.Value as v
use Rattle.dv_machine.specs.Classes.{ClassState, Erroneous, InProgress, Ready, ask_of, with_state}
use Rattle.dv_typing.specs.Flow.{Catcher}
use Rattle.dv_machine.specs.Heap as tagged
use Rattle.dv_machine.specs.Heap.{Heap, class_cells}
use Rattle.dv_defs.specs.Images.{Image}
use Rattle.dv_defs.specs.Prior.{prior_at}
use Rattle.dv_defs.specs.Names.{error_name}
use Rattle.dv_defs.specs.Op.{Op}
use Rattle.dv_defs.specs.Order.{instance}
use Rattle.dv_defs.specs.Pools.{Method, initialiser, method_at}
use Rattle.dv_defs.specs.Types.{of_class}
use Rattle.dv_machine.specs.Calls as calls
use Rattle.dv_machine.specs.State as machine
use Rattle.dv_machine.specs.State.{Did, Go, Here, IsStuck, Left, NoOutput, NoRoom, NoWords, Reads, Shared, Throws, ThrowsRef, read_any, reading, reg_at}
use Rattle.dv_machine.specs.Step as step
use Rattle.dv_machine.specs.Unwinding as flight
use Rattle.dv_words.specs.declared.state.Frame.{Frame}
use Rattle.dv_words.specs.declared.state.Kind.TheVariants as kind
use Rattle.dv_words.specs.declared.state.Level.{Level}
use Rattle.dv_words.specs.declared.state.Level.TheVariants as level
use Rattle.dv_words.specs.Heaps as words
use Rattle.dv_words.specs.Stacks as stacks
use Rattle.dv_words.specs.Standing.{FrameStands, HeapStands, LevelsStand, SharedStands}
use Rattle.dv_words.specs.State.{WordHeap, WordShared}
use Rattle.law_words.specs.Laws.{IsBounded, IsPlain, OperandsFit, PutsInMade}
use Rattle.dv_words.specs.Mem.{type_of}
use Rattle.dv_words.specs.Step as over
use Rattle.law_words.specs.StepLaws.{AtStands, CallFits, ImageFits, LeavesStand, OutcomeStands}
use Rattle.dv_words.specs.Steps as steps
use Rattle.dv_words.specs.Unwinding as falling
use Rattle.dv_words.specs.Calls as word_calls
use Rattle.law_words.proofs.ActSteps.{act_stands}
use Rattle.dv_defs.specs.declared.names.Ty.{Ty}
use Rattle.law_words.proofs.Added.{grown_stands, newest_is, room_is, zeros_stand}
use Rattle.law_words.proofs.Objects.{cell_stands, type_is}
use Rattle.law_words.proofs.Outcomes.{left_stands, pushed_stands, with_same_classes}
use Rattle.law_words.proofs.Short.{grown_bounded, stored_bounded}
use Rattle.law_words.proofs.ThreadSteps.{entered_stands}

module _ (w : steps.At) (h : Here) (stands : AtStands w h) where
  -- ---- classes

  asked_is : (c : ℕ) → ask_of w.shared.classes c w.thread ≡ ask_of h.shared.classes c h.thread
  asked_is c = ap (λ cs. ask_of cs c w.thread) stands.shared.classes ∙ ap (λ (t : ℕ). ask_of h.shared.classes c t) stands.thread

  with_class : (c : ℕ) (a b : ClassState) → a ≡ b → SharedStands (steps.with_classes w.shared (with_state w.shared.classes c a)) (machine.with_classes h.shared (with_state h.shared.classes c b))
  with_class c a b e = with_same_classes w.shared h.shared _ _ stands.shared (ap (λ cs. with_state cs c a) stands.shared.classes ∙ ap (with_state h.shared.classes c) e)

  begun_stands : (c : ℕ) (ss : List Level) (ls : List tagged_level.Level) → LevelsStand ss ls → OutcomeStands (over.begun w c ss) (step.begun h c ls)
  begun_stands c ss ls all =
      pushed_stands w h stands (steps.with_classes w.shared (with_state w.shared.classes c (InProgress w.thread))) (machine.with_classes h.shared (with_state h.shared.classes c (InProgress h.thread)))
      (level.Init (record { 0 = c }) false) (tagged_level.Init (record { 0 = c }) false) ss ls (with_class c (InProgress w.thread) (InProgress h.thread) (ap InProgress stands.thread)) (refl, refl) all stands.bounded

  class_by : (c : ℕ) (ss : List Level) (ls : List tagged_level.Level) (a : Ask) (d : Did steps.Left) (e : Did Left) → LevelsStand ss ls → OutcomeStands d e → OutcomeStands (over.for_class w ss c a d) (step.for_class h ls c a e)
  class_by c ss ls ask.Go d e all s = s
  class_by c ss ls ask.Begin d e all s = begun_stands c ss ls all
  class_by c ss ls (ask.Wait u) d e all s = left_stands w.shared h.shared ss ls stands.shared all stands.bounded
  class_by c ss ls ask.Bad d e all s = refl

  class_stands : (c : ℕ) (ss : List Level) (ls : List tagged_level.Level) (d : Did steps.Left) (e : Did Left) → LevelsStand ss ls → OutcomeStands d e → OutcomeStands (over.for_class w ss c (ask_of w.shared.classes c w.thread) d) (step.for_class h ls c (ask_of h.shared.classes c h.thread) e)
  class_stands c ss ls d e all s = subst (λ (a : Ask). OutcomeStands (over.for_class w ss c a d) (step.for_class h ls c (ask_of h.shared.classes c h.thread) e)) (sym (asked_is c)) (class_by c ss ls (ask_of h.shared.classes c h.thread) d e all s)

  pub ready_stands : (op : Op) (c : Option ℕ) → ImageFits h.image → OperandsFit h.image op → PutsInMade h.shared.heap h.frame.regs op → CallFits h.image op → OutcomeStands (over.with_ready w op c) (step.with_ready h op c)
  ready_stands op None image fits made call = act_stands w h stands op image fits made call
  ready_stands op (Some c) image fits made call = class_stands c (level.Code w.frame ∷ w.rest) (tagged_level.Code h.frame ∷ h.rest) (over.act w op) (step.act h op) (stands.frame, stands.rest) (act_stands w h stands op image fits made call)

  -- ---- records

  ended_stands : (c : ℕ) (s : ClassState) → OutcomeStands (over.ended_record w c s) (step.ended_record h c s)
  ended_stands c s = left_stands _ _ w.rest h.rest (with_class c s s refl) stands.rest stands.bounded

  initialised_stands : (c : ℕ) (m : Option Method) → OutcomeStands (over.initialised_by w c m) (step.initialised_by h c m)
  initialised_stands c None = ended_stands c Ready
  initialised_stands c (Some m) =
      pushed_stands w h stands w.shared h.shared (level.Code (word_calls.entered_frame m [])) (tagged_level.Code (calls.entered_frame m [] false)) (level.Init (record { 0 = c }) true ∷ w.rest) (tagged_level.Init (record { 0 = c }) true ∷ h.rest)
      stands.shared (entered_stands m [] [] false tt) ((refl, refl), stands.rest) stands.bounded

  run_stands : (c : ℕ) → OutcomeStands (over.run_initialiser w c) (step.run_initialiser h c)
  run_stands c = subst (λ i. OutcomeStands (over.initialised_by w c (initialiser i c)) (step.run_initialiser h c)) (sym stands.image) (initialised_stands c (initialiser h.image c))

  looks_at : (c : ℕ) (ps : List ℕ) → OutcomeStands (over.look_at w c ps) (step.look_at h c ps)
  looks_at c [] = run_stands c
  looks_at c (p ∷ ps) = class_stands p (level.Init (record { 0 = c }) false ∷ w.rest) (tagged_level.Init (record { 0 = c }) false ∷ h.rest) (over.look_at w c ps) (step.look_at h c ps) ((refl, refl), stands.rest) (looks_at c ps)

  pub record_stands : (c : ℕ) (r : Bool) → OutcomeStands (over.record_step w c r) (step.record_step h c r)
  record_stands c true = ended_stands c Ready
  record_stands c false = subst (λ i. OutcomeStands (over.look_at w c (prior_at i c)) (step.record_step h c false)) (sym stands.image) (looks_at c (prior_at h.image c))

  -- ---- flight

  caught_is : (image : Image) (o : ℕ) (t : Option Ty) → falling.catches image w.shared.heap o t ≡ flight.catches image h.shared.heap o t
  caught_is image o None = refl
  caught_is image o (Some t) = ap (λ u. instance image u t) (type_is image w.shared.heap h.shared.heap o stands.shared.heap)

  abbrev handler_or : Catcher → Bool → Option ℕ → Option ℕ
  handler_or c b rest = elim b [ true ↦ Some c.to | false ↦ rest ]

  same_or : (c : Catcher) (a b : Bool) (x y : Option ℕ) → a ≡ b → x ≡ y → handler_or c a x ≡ handler_or c b y
  same_or c true true x y e rest = refl
  same_or c false false x y e rest = rest
  same_or c true false x y e rest = absurd (cc)
  same_or c false true x y e rest = absurd (cc)

  pub handler_is : (image : Image) (o : ℕ) (cs : List Catcher) → falling.handler_for image w.shared.heap o cs ≡ flight.handler_for image h.shared.heap o cs
  handler_is image o [] = refl
  handler_is image o (c ∷ cs) = same_or c _ _ _ _ (caught_is image o c.ty) (handler_is image o cs)

  -- what became of an exception
  abbrev pub UnwoundStands : falling.Unwound → flight.Unwound → Type 0
  UnwoundStands (falling.Caught s) (flight.Caught l) = LeavesStand s l
  UnwoundStands (falling.Flies o s) (flight.Flies p l) = (o ≡ p) × LeavesStand s l
  UnwoundStands (falling.Lacking s) (flight.Lacking l) = LeavesStand s l
  UnwoundStands s l = ⊥

  leaves_stand : (x : WordShared) (y : Shared) (ss : List Level) (ls : List tagged_level.Level) → SharedStands x y → LevelsStand ss ls → IsBounded y.heap → LeavesStand (steps.leaves x ss) (flight.leaves y ls)
  leaves_stand x y ss ls shared all bounded = record { levels = all; shared = shared; started = tt; bounded = bounded }

  pub frame_unwound : (s : Frame) (f : tagged_frame.Frame) (o : ℕ) (to : Option ℕ) → FrameStands s f → UnwoundStands (falling.unwind_frame w s o to) (flight.unwind_frame h f o to)
  frame_unwound s f o None frame = (refl, leaves_stand w.shared h.shared w.rest h.rest stands.shared stands.rest stands.bounded)
  frame_unwound s f o (Some to) frame =
      leaves_stand w.shared h.shared (level.Code (stacks.handling s to o) ∷ w.rest) (tagged_level.Code (flight.caught_frame f to o) ∷ h.rest) stands.shared
      (record { method = frame.method; at = refl; regs = frame.regs; result = tt; caught = refl }, stands.rest) stands.bounded

  opening_is : (c : ℕ) (ss : List Level) (ls : List tagged_level.Level) → LevelsStand ss ls → falling.is_opening w.image w.thread c ss ≡ flight.is_opening h.image h.thread c ls
  opening_is c [] [] all = refl
  opening_is c [] (l ∷ ls) all = absurd all
  opening_is c (s ∷ ss) [] all = absurd all
  opening_is c (level.Init d r ∷ ss) (tagged_level.Init e q ∷ ls) all = refl
  opening_is c (level.Init d r ∷ ss) (tagged_level.Code f ∷ ls) all = absurd all.0
  opening_is c (level.Code s ∷ ss) (tagged_level.Init e q ∷ ls) all = absurd all.0
  opening_is c (level.Code s ∷ []) (tagged_level.Code f ∷ []) all =
      let frame : FrameStands s f = all.0 in
      ap (λ i. flight.is_method_of w.thread c (method_at i s.method.0)) stands.image
      ∙ ap (λ (t : ℕ). flight.is_method_of t c (method_at h.image s.method.0)) stands.thread
      ∙ ap (λ (m : MethodId). flight.is_method_of h.thread c (method_at h.image m.0)) frame.method
  opening_is c (level.Code s ∷ []) (tagged_level.Code f ∷ l ∷ ls) all = absurd all.1
  opening_is c (level.Code s ∷ t ∷ ss) (tagged_level.Code f ∷ []) all = absurd all.1
  opening_is c (level.Code s ∷ t ∷ ss) (tagged_level.Code f ∷ l ∷ ls) all = refl

  below_by : (a b : Bool) → a ≡ b → LevelsStand (if a then [] else w.rest) (if b then [] else h.rest)
  below_by true true e = tt
  below_by false false e = stands.rest
  below_by true false e = absurd (cc)
  below_by false true e = absurd (cc)

  below_stands : (c : ℕ) → LevelsStand (falling.below_record w c) (flight.below_record h c)
  below_stands c = below_by _ _ (opening_is c w.rest h.rest stands.rest)

  erroneous_stands : (c : ℕ) (x : WordShared) (y : Shared) → SharedStands x y → SharedStands (falling.erroneous c x) (flight.erroneous h c y)
  erroneous_stands c x y shared = with_same_classes x y _ _ shared (ap (λ cs. with_state cs c Erroneous) shared.classes)

  -- ---- a record that an exception reaches

  count_pushed : (ks : List Kind) (k : Kind) → length (ks ++ k ∷ []) ≡ suc (length ks)
  count_pushed [] k = refl
  count_pushed (q ∷ ks) k = ap suc (count_pushed ks k)

  object_plain : (ks : List Kind) (c : ClassId) → IsPlain (slice_get (ks ++ kind_of_tagged.Object c ∷ []) (length ks))
  object_plain [] c = tt
  object_plain (q ∷ ks) c = object_plain ks c

  wrapped_room : (c o n : ℕ) (a b : Bool) (x : WordHeap) (y : Heap) → a ≡ b → HeapStands x y → IsBounded y → tagged.newest y ≡ suc n → IsPlain (tagged.kind_of y (suc n)) →
      UnwoundStands (falling.wrapped w c o (elim a [ true ↦ Some x | false ↦ None ])) (flight.wrapped h c o (elim b [ true ↦ Some y | false ↦ None ]))
  wrapped_room c o n false false x y e s bounded new plain = leaves_stand _ _ (falling.below_record w c) (flight.below_record h c) (erroneous_stands c w.shared h.shared stands.shared) (below_stands c) stands.bounded
  wrapped_room c o n true false x y e s bounded new plain = absurd (cc)
  wrapped_room c o n false true x y e s bounded new plain = absurd (cc)
  wrapped_room c o n true true x y e s bounded new plain =
      let k = flight.throwable_slot h.image (codes "cause") in
      let same : words.newest x ≡ tagged.newest y = newest_is x y s in
      let one : HeapStands (words.with_word x (suc n) k o) (tagged.with_cell y (suc n) k (v.Ref o)) = cell_stands o (v.Ref o) refl k x y n plain s in
      let two = subst (λ (m : ℕ). HeapStands (words.with_word x m k o) (tagged.with_cell y (suc n) k (v.Ref o))) (sym (same ∙ new)) one in
      let both = subst (λ (m : ℕ). HeapStands (words.with_word x (words.newest x) k o) (tagged.with_cell y m k (v.Ref o))) (sym new) two in
      let placed = subst (λ i. HeapStands (words.with_word x (words.newest x) (flight.throwable_slot i (codes "cause")) o) (tagged.with_cell y (tagged.newest y) k (v.Ref o))) (sym stands.image) both in (
        same,
        leaves_stand _ _ (falling.below_record w c) (flight.below_record h c)
            (erroneous_stands c (steps.with_heap w.shared (words.with_word x (words.newest x) (flight.throwable_slot w.image (codes "cause")) o)) (machine.with_heap h.shared (tagged.with_cell y (tagged.newest y) k (v.Ref o)))
            (record { heap = placed; classes = stands.shared.classes; monitors = stands.shared.monitors; output = stands.shared.output }))
            (below_stands c) (stored_bounded y (tagged.newest y) k (v.Ref o ∷ []) bounded),
      )

  wrapped_stands : (c o : ℕ) → UnwoundStands (falling.wrapped w c o (falling.made_object w.image w.shared.heap named.InInitializer)) (flight.wrapped h c o (flight.made_object h.image h.shared.heap named.InInitializer))
  wrapped_stands c o =
      let d = flight.number_named h.image (flight.exception_name named.InInitializer) in
      let cells = class_cells h.image d in
      let cost = 2 + length cells in
      let x = words.grown w.shared.heap (kind.Object (record { 0 = d })) (replicate (length cells) 0) cost in
      let y = tagged.grown h.shared.heap (kind_of_tagged.Object (record { 0 = d })) (tagged.fresh_cells cells) cost in
      let s : HeapStands x y = grown_stands w.shared.heap h.shared.heap (kind_of_tagged.Object (record { 0 = d })) (replicate (length cells) 0) (tagged.fresh_cells cells) cost stands.shared.heap (zeros_stand cells) in
      subst (λ i. UnwoundStands (falling.wrapped w c o (falling.made_object i w.shared.heap named.InInitializer)) (flight.wrapped h c o (flight.made_object h.image h.shared.heap named.InInitializer))) (sym stands.image)
      (wrapped_room c o (length h.shared.heap.kinds) (words.has_room w.shared.heap cost) (tagged.has_room h.shared.heap cost) x y (room_is w.shared.heap h.shared.heap cost stands.shared.heap) s
      (grown_bounded h.shared.heap (kind_of_tagged.Object (record { 0 = d })) (tagged.fresh_cells cells) cost stands.bounded tt)
      (count_pushed h.shared.heap.kinds (kind_of_tagged.Object (record { 0 = d }))) (object_plain h.shared.heap.kinds (record { 0 = d })))

  error_is : (o : ℕ) → falling.is_error w o ≡ flight.is_error h o
  error_is o = ap (λ i. instance i (type_of i w.shared.heap o) (of_class error_name)) stands.image ∙ ap (λ t. instance h.image t (of_class error_name)) (type_is h.image w.shared.heap h.shared.heap o stands.shared.heap)

  record_by : (a b : Bool) (c o : ℕ) → a ≡ b →
      UnwoundStands (if a then falling.Flies o (steps.leaves (falling.erroneous c w.shared) (falling.below_record w c)) else falling.wrapped w c o (falling.made_object w.image w.shared.heap named.InInitializer))
      (if b then flight.Flies o (flight.leaves (flight.erroneous h c h.shared) (flight.below_record h c)) else flight.wrapped h c o (flight.made_object h.image h.shared.heap named.InInitializer))
  record_by true true c o e = (refl, leaves_stand _ _ (falling.below_record w c) (flight.below_record h c) (erroneous_stands c w.shared h.shared stands.shared) (below_stands c) stands.bounded)
  record_by false false c o e = wrapped_stands c o
  record_by true false c o e = absurd (cc)
  record_by false true c o e = absurd (cc)

  pub record_unwound : (c o : ℕ) → UnwoundStands (falling.unwind_record w c o) (flight.unwind_record h c o)
  record_unwound c o = record_by (falling.is_error w o) (flight.is_error h o) c o (error_is o)
