-- A step of a class's record is fine: it looks at the superclass, runs the initialiser, or ends.
use Rattle.std.proofs.Common.{◌≡◌, ◌≢◌, ℕ, suc, ◌<◌, List, [], ◌∷◌, length, Bool, true, false, ◌&&◌, not, Option, Some, None, refl, sym, ap, ◌∙◌, subst, arith}
use Rattle.std.specs.Option.{option_to_list}
use Rattle.std.specs.Prelude.{slice_get, All, nat_eq, bytes_eq, if◌then◌else◌}
use Rattle.std.proofs.lemmas.List.{length-set}
use Rattle.std.proofs.lemmas.List.Elements.{All-cons, All-tail, All-nil}
use Rattle.std.proofs.lemmas.Option.{same_Some}
use Rattle.dv_defs.specs.Images.{Image}
use Rattle.dv_machine.specs.Frame.{Frame}
use Rattle.dv_machine.specs.Level.{Level}
use Rattle.dv_machine.specs.Level as level
use Rattle.dv_defs.specs.declared.machine.End.TheVariants as end
use Rattle.dv_defs.specs.declared.machine.Ask.{Ask}
use Rattle.dv_defs.specs.declared.machine.Ask.TheVariants as ask
use Rattle.dv_defs.specs.declared.names.Proto.{Proto}
use Rattle.dv_defs.specs.Names.{init_name}
use Rattle.dv_defs.specs.Pools.{Method, parent_at, initialiser, is_static, is_of_object, no_arguments}
use Rattle.dv_defs.specs.Order.{has_number, with_parent, interfaces_of}
use Rattle.dv_typing.specs.RegTypes.{all_types}
use Rattle.dv_typing.specs.Transfer.{arg_types, begins_uninitialised}
use Rattle.dv_machine.specs.Monitors.{Wait, wait_of}
use Rattle.dv_machine.specs.Classes.{ClassState, Fresh, InProgress, Ready, Erroneous, Classes, state_at, asked, ask_of, with_state}
use Rattle.dv_machine.specs.State.{Thread, Machine, Left, Did, NoRoom, Here, left, with_classes}
use Rattle.dv_machine.specs.Calls.{entered_frame}
use Rattle.dv_machine.specs.Unwinding.{is_opening}
use Rattle.dv_defs.specs.Prior.{prior_at}
use Rattle.law_linking.proofs.Reach.{number_first, number_later}
use Rattle.law_machine.proofs.lemmas.Records.Prior.{prior_inside}
use Rattle.dv_machine.specs.Step.{for_class, run_initialiser, look_at, record_step, here, no_method, no_frame, end_after, initialised_by}
use Rattle.dv_machine.specs.Conforming.{IsGood, RefsFine}
use Rattle.dv_machine.specs.WellTyped.{Typings, own_of, BelowRecord, StackFine, lowest, IsCode, ThreadFine, WaitFine, records, owed, WellTyped}
use Rattle.dv_machine.specs.Accepted.{Accepted}
use Rattle.law_machine.specs.Premises.{LeftFine, RecordDidFine}
use Rattle.law_machine.specs.StepLaws.{RecordsAreFine}
use Rattle.law_types.proofs.Facts.{nothing}
use Rattle.law_machine.proofs.lemmas.Growth.Threads.{records_after}
use Rattle.law_machine.proofs.lemmas.Monitors.Owners.{entry_none}
use Rattle.law_machine.proofs.lemmas.Monitors.Moved.{quiet_moved}
use Rattle.law_machine.proofs.lemmas.Exceptions.Flown.{lowest_rest, living_fine, refs_of, records_of}
use Rattle.law_machine.proofs.lemmas.Records.States.{IsIdle, dropped_mine, dropped_others, begun_mine, begun_others}
use Rattle.law_machine.proofs.lemmas.Records.Entered.{none_good, refs_entered, entered_code, entered_placed}
use Rattle.law_machine.proofs.lemmas.Calls.Words.{static_types}
use Rattle.law_types.proofs.Walks.{has_head}

-- ---- an initialiser has no receiver and no arguments

static_args : (image : Image) (m : Method) → is_static m ≡ true → m.def.proto ≡ no_arguments → arg_types image m ≡ []
static_args image m s p = static_types image m s ∙ ap (λ (q : Proto). all_types q.params) p

pub static_begins : (image : Image) (m : Method) → is_static m ≡ true → begins_uninitialised image m ≡ false
static_begins image m s = ap (λ (b : Bool). (not b && bytes_eq m.def.name init_name) && not (is_of_object image m)) s

-- ---- a thread whose top level is a record

module _ (image : Image) (T : Typings) (m : Machine) (t : ℕ) (thread : Thread) (acc : Accepted image T) (w : WellTyped image T m) (has : slice_get m.threads t ≡ Some thread) (living : thread.end ≡ end.Living) (c : ℕ) (r : Bool) (rest : List Level) (levels : thread.levels ≡ level.Init (record { 0 = c }) r ∷ rest) where
  -- it doesn't wait
  record_quiet : wait_of m.shared.monitors t ≡ None
  record_quiet = entry_none t m.shared.monitors.waits (λ k d l e. clash (waits k d l) e)
    where
      waits : All (WaitFine image m.threads m.shared) m.shared.monitors.waits
      waits = w.monitors.waits

      no_frame_on_top : (f : Frame) (ls : List Level) → level.Init (record { 0 = c }) r ∷ rest ≡ level.Code f ∷ ls → ⊥
      no_frame_on_top f ls e = cc

      clash : {x : Wait} → WaitFine image m.threads m.shared x → x.thread ≡ t → ⊥
      clash f e =
          let same : f.thread ≡ thread = same_Some f.thread thread (sym f.has_thread ∙ ap (slice_get m.threads) e ∙ has) in
          no_frame_on_top f.waits.frame f.waits.rest (sym levels ∙ sym (ap (λ (y : Thread). y.levels) same) ∙ f.waits.levels)

  fine : ThreadFine image T m.shared.heap t (level.Init (record { 0 = c }) r ∷ rest) end.Living
  fine = living_fine image T m t thread _ w has living levels

  refs : All (RefsFine image m.shared.heap) (level.Init (record { 0 = c }) r ∷ rest)
  refs = refs_of image T m t thread _ w has levels

  rest_refs : All (RefsFine image m.shared.heap) rest
  rest_refs = All-tail (RefsFine image m.shared.heap) (level.Init (record { 0 = c }) r) rest refs

  mine : (d : ℕ) → records d (level.Init (record { 0 = c }) r ∷ rest) ≡ owed t (state_at m.shared.classes d)
  mine = records_of image T m t thread _ w has levels

  -- what stands below it, in order whether or not it is the opening's
  pub rest_fine : StackFine image T m.shared.heap t None rest
  rest_fine = go (is_opening image t c rest) fine.1.1
    where
      go : (b : Bool) → (elim b as (λ x. Type 0) [ true ↦ StackFine image T m.shared.heap t None rest | false ↦ StackFine image T m.shared.heap t None rest ]) → StackFine image T m.shared.heap t None rest
      go true k = k
      go false k = k

  -- a step that leaves these levels and these states of classes
  record_left : (ls : List Level) (cs : Classes) → ThreadFine image T m.shared.heap t ls (end_after ls) → All (RefsFine image m.shared.heap) ls → length cs ≡ length image.classes → ((d : ℕ) → records d ls ≡ owed t (state_at cs d)) → ((u d : ℕ) → u ≢ t → owed u (state_at cs d) ≡ owed u (state_at m.shared.classes d)) → LeftFine image T m t thread (record { levels = ls; shared = with_classes m.shared cs; started = None })
  record_left ls cs f q n own others = record {
    keeps = λ o k e. e;
    levels = f;
    refs = q;
    heap = w.heap;
    class_states = n;
    monitors = quiet_moved image m.threads t thread _ [] m.shared (with_classes m.shared cs) m.steps (suc m.steps) (λ o k e. e) refl (omega arith) has w.refs record_quiet w.monitors;
    in_progress = records_after m.threads t thread _ None has m.shared.classes cs w.in_progress own others (λ x e. nothing ((c : ℕ) → records c x.levels ≡ 0) x e);
    started = λ x e. nothing _ x e;
  }

  -- the record ends, and its class is in a state in which nobody initialises
  ended : (s : ClassState) → IsIdle s → LeftFine image T m t thread (record { levels = rest; shared = with_classes m.shared (with_state m.shared.classes c s); started = None })
  ended s i = record_left rest (with_state m.shared.classes c s) (rest_thread rest fine.0 rest_fine fine.1.0) rest_refs (length-set m.shared.classes c s ∙ w.class_states) (λ d. dropped_mine t c r rest m.shared.classes s i d (mine d)) (λ u d n. dropped_others t c r rest m.shared.classes s i u d n (mine d))
    where
      rest_thread : (ls : List Level) → IsCode (lowest (level.Init (record { 0 = c }) r ∷ ls)) → StackFine image T m.shared.heap t None ls → BelowRecord image t c ls → ThreadFine image T m.shared.heap t ls (end_after ls)
      rest_thread [] a b e = absurd e
      rest_thread (l ∷ ls) a b e = (lowest_rest (level.Init (record { 0 = c }) r) l ls a, b)

  -- levels on the record's, where the stack has room
  pushing : (ls : List Level) (cs : Classes) (b : Bool) → LeftFine image T m t thread (record { levels = ls; shared = with_classes m.shared cs; started = None }) → RecordDidFine image T m t thread (if b then left (here image m t no_method no_frame rest 0) (with_classes m.shared cs) ls else NoRoom)
  pushing ls cs true l = l
  pushing ls cs false l = record_quiet

  -- its own levels, with this flag
  again : (b : Bool) → ThreadFine image T m.shared.heap t (level.Init (record { 0 = c }) b ∷ rest) end.Living
  again b = (same rest fine.0, fine.1)
    where
      same : (ls : List Level) → IsCode (lowest (level.Init (record { 0 = c }) r ∷ ls)) → IsCode (lowest (level.Init (record { 0 = c }) b ∷ ls))
      same [] k = k
      same (l ∷ ls) k = k

  again_refs : (b : Bool) → All (RefsFine image m.shared.heap) (level.Init (record { 0 = c }) b ∷ rest)
  again_refs b = All-cons (RefsFine image m.shared.heap) (level.Init (record { 0 = c }) b) rest tt rest_refs

  -- the initialiser's frame is pushed
  initialiser_left : (k : Method) → initialiser image c ≡ Some k → LeftFine image T m t thread (record { levels = level.Code (entered_frame k [] false) ∷ level.Init (record { 0 = c }) true ∷ rest; shared = m.shared; started = None })
  initialiser_left k e =
      let p = acc.finds.initialisers c k e in
      let good : IsGood image m.shared.heap (own_of image None k) [] (arg_types image k) = subst (IsGood image m.shared.heap (own_of image None k) []) (sym (static_args image k p.1 p.2)) (none_good image m.shared.heap (own_of image None k)) in
      let begins = static_begins image k p.1 in
      record_left _ m.shared.classes ((again true).0, (entered_code image T acc m.shared.heap k p.4.0 p.0 p.4.1 [] false (level.Init (record { 0 = c }) true ∷ rest) (omega arith) e, entered_placed image T acc m.shared.heap k p.4.0 p.0 p.4.1 None [] begins good, tt, (again true).1)) (All-cons (RefsFine image m.shared.heap) (level.Code (entered_frame k [] false)) (level.Init (record { 0 = c }) true ∷ rest) (refs_entered image m.shared.heap k [] false (All-nil _)) (again_refs true)) w.class_states mine (λ u d n. refl)

  run_fine : RecordDidFine image T m t thread (run_initialiser (here image m t no_method no_frame rest 0) c)
  run_fine = go (initialiser image c) refl
    where
      go : (o : Option Method) → initialiser image c ≡ o → RecordDidFine image T m t thread (initialised_by (here image m t no_method no_frame rest 0) c o)
      go None e = ended Ready (λ u. refl)
      go (Some k) e = pushing _ m.shared.classes _ (initialiser_left k e)

  -- the record of a class that is initialised before it is pushed
  begun_left : (p : ℕ) → has_number p (prior_at image c) ≡ true → p < length image.classes → state_at m.shared.classes p ≡ Fresh → LeftFine image T m t thread (record { levels = level.Init (record { 0 = p }) false ∷ level.Init (record { 0 = c }) false ∷ rest; shared = with_classes m.shared (with_state m.shared.classes p (InProgress t)); started = None })
  begun_left p e l f =
      let within : p < length m.shared.classes = omega (arith, l, w.class_states) in
      record_left _ (with_state m.shared.classes p (InProgress t)) ((again false).0, (e, (again false).1)) (All-cons (RefsFine image m.shared.heap) (level.Init (record { 0 = p }) false) (level.Init (record { 0 = c }) false ∷ rest) tt (again_refs false)) (length-set m.shared.classes p (InProgress t) ∙ w.class_states) (λ d. begun_mine t p (level.Init (record { 0 = c }) false ∷ rest) m.shared.classes within f d (mine d)) (λ u d n. begun_others t p m.shared.classes within f u d n)

  -- one of them is asked for, and then what is done behind it
  asked_fine : (p : ℕ) → has_number p (prior_at image c) ≡ true → (next : Did Left) → RecordDidFine image T m t thread next → RecordDidFine image T m t thread (for_class (here image m t no_method no_frame rest 0) (level.Init (record { 0 = c }) false ∷ rest) p (ask_of m.shared.classes p t) next)
  asked_fine p e next fine = go (state_at m.shared.classes p) refl
    where
      other : (u : ℕ) (b : Bool) → RecordDidFine image T m t thread (for_class (here image m t no_method no_frame rest 0) (level.Init (record { 0 = c }) false ∷ rest) p (elim b as (λ x. Ask) [ true ↦ ask.Go | false ↦ ask.Wait u ]) next)
      other u true = fine
      other u false = record_left _ m.shared.classes (again false) (again_refs false) w.class_states mine (λ u d n. refl)

      go : (s : ClassState) → state_at m.shared.classes p ≡ s → RecordDidFine image T m t thread (for_class (here image m t no_method no_frame rest 0) (level.Init (record { 0 = c }) false ∷ rest) p (asked t s) next)
      go Fresh f = pushing _ (with_state m.shared.classes p (InProgress t)) _ (begun_left p e (prior_inside image acc.hierarchy c p e) f)
      go (InProgress u) f = other u (nat_eq u t)
      go Ready f = fine
      go Erroneous f = record_quiet

  look_fine : (ps : List ℕ) → ((p : ℕ) → has_number p ps ≡ true → has_number p (prior_at image c) ≡ true) → RecordDidFine image T m t thread (look_at (here image m t no_method no_frame rest 0) c ps)
  look_fine [] among = run_fine
  look_fine (p ∷ ps) among =
      asked_fine p (among p (number_first p ps)) (look_at (here image m t no_method no_frame rest 0) c ps)
      (look_fine ps (λ q has. among q (number_later q p ps has)))

  pub record_fine : RecordDidFine image T m t thread (record_step (here image m t no_method no_frame rest 0) c r)
  record_fine = go r
    where
      go : (b : Bool) → RecordDidFine image T m t thread (record_step (here image m t no_method no_frame rest 0) c b)
      go true = ended Ready (λ u. refl)
      go false = look_fine (prior_at image c) (λ p has. has)

pub records_are_fine : RecordsAreFine
records_are_fine image T m t c r thread h i = subst (λ (y : Here). RecordDidFine image T m t thread (record_step y c r)) (sym i.sees) (record_fine image T m t thread i.may.accepted i.may.typed i.has_thread i.living c r h.rest i.levels)
