-- Each native is fine: those that give a value, make a string or print, those that wait and notify, and the one that starts a thread.
use Rattle.std.proofs.Common.{◌≡◌, ℕ, zero, suc, ◌+◌, ◌++◌, List, length, Bool, true, false, Option, Some, None, refl, sym, subst, ◌≢◌, [], ◌∷◌, ap, ◌∙◌, arith}
use Rattle.std.specs.Prelude.{ℤ, pos, negsuc, slice_get, nat_le, take, drop, nat_eq, nat_lt, All, bytes_eq, if◌then◌else◌}
use Rattle.std.proofs.lemmas.Grind.{common_steps}
use Rattle.std.proofs.lemmas.Option.{same_Some}
use Rattle.std.proofs.lemmas.Bool.{and_parts}
use Rattle.dv_defs.specs.Images.{Image}
use Rattle.dv_machine.specs.Value.{Value}
use Rattle.dv_machine.specs.Value as v
use Rattle.dv_defs.specs.declared.run.Named.TheVariants as named
use Rattle.dv_defs.specs.declared.run.Native.{Native}
use Rattle.dv_defs.specs.declared.run.Native.TheVariants as native
use Rattle.dv_machine.specs.Pending as pending
use Rattle.dv_machine.specs.Frame.{Frame}
use Rattle.dv_machine.specs.Kind as kind
use Rattle.dv_machine.specs.Level.{Level}
use Rattle.dv_typing.specs.declared.typing.RegState.{RegState}
use Rattle.dv_defs.specs.Parts.{Call}
use Rattle.dv_defs.specs.Names.{thread_name}
use Rattle.dv_defs.specs.Types.{of_class}
use Rattle.dv_defs.specs.Pools.{Method, is_native, is_constructor, own_type, name_at}
use Rattle.dv_defs.specs.Op.{Invoke, can_throw}
use Rattle.dv_typing.specs.Statics.{At}
use Rattle.dv_typing.specs.Transfer.{pending_of}
use Rattle.dv_machine.specs.Heap.{Heap, newest, alloc_string, cells_at, length_of, kind_of}
use Rattle.dv_defs.specs.Texts.{utf8}
use Rattle.dv_machine.specs.Level as level
use Rattle.dv_defs.specs.declared.machine.End.TheVariants as end
use Rattle.dv_machine.specs.Monitors.{Monitors, Held, Wait, held_of, owner_of, wait_of, waiting, resumed, notified_one, notified_all}
use Rattle.dv_typing.specs.declared.typing.RegType.TheVariants as ty
use Rattle.dv_machine.specs.State.{Thread, Machine, Left, Did, NoOutput, where_room, where_true, truth, with_output, Here, gone, onward, with_monitors, Go}
use Rattle.dv_machine.specs.Mem.{on_object}
use Rattle.dv_machine.specs.Texts.{text_of}
use Rattle.dv_machine.specs.Calls.{Landing, Lands, Lacks, signature, string_type, native_of, native_among, all_natives, is_signed, class_of_kind}
use Rattle.dv_machine.specs.Threads.{own_object, goes, stays, thread_with, is_living, join_on, holding, taken_back, notify_on, notify_all_on, run_landing, new_thread, started_on, holding_it, join_with, object_of_thread, wait_step, start_unless}
use Rattle.dv_machine.specs.Natives.{arg, number_of, object_number, gives, gives_object, new_text, char_at, units_in, some_chars, printed, native_step, gives_char}
use Rattle.dv_machine.specs.Step.{here}
use Rattle.dv_machine.specs.Conforming.{Own, IsOf, ResultConforms, ResultFine, IsGood, Conforms}
use Rattle.dv_machine.specs.WellTyped.{Typings, IsWaiting, WaitFine, MonitorsFine, records}
use Rattle.law_machine.specs.Premises.{DidFine, ThrowFine, StartedFine}
use Rattle.law_machine.specs.StepLaws.{IsAdded}
use Rattle.law_machine.proofs.lemmas.Common.Facts.{fits_of}
use Rattle.law_types.proofs.Facts.{nothing}
use Rattle.law_machine.proofs.lemmas.Readers.Plain.{there_of}
use Rattle.law_machine.proofs.lemmas.Heap.Added.{string_is_added}
use Rattle.law_machine.proofs.lemmas.Monitors.Steps.{staying, monitor_left}
use Rattle.law_machine.proofs.lemmas.Local.Stands.{Stands, stack_fine, frame_refs, refs_fine}
use Rattle.law_machine.proofs.lemmas.Calls.Invoked.{CallsNative, IsReceiver}
use Rattle.law_machine.proofs.lemmas.Natives.Shared.{native_apart, native_throws, native_stops, native_left, same_static, levels_after, started_left}
use Rattle.law_machine.proofs.lemmas.Common.Lists.{all_at}
use Rattle.law_machine.proofs.lemmas.Growth.Keeps.{monitors_later}
use Rattle.law_machine.proofs.lemmas.Growth.Threads.{records_after}
use Rattle.law_machine.proofs.lemmas.Monitors.Lists.{all_notified_first, all_notified_each}
use Rattle.law_machine.proofs.lemmas.Monitors.Owners.{quiet_from, entry_none}
use Rattle.law_machine.proofs.lemmas.Monitors.Fine.{waiting_keeps, notifying_keeps, resuming_keeps}
use Rattle.law_machine.proofs.lemmas.Monitors.Moved.{moved}
use Rattle.law_machine.proofs.lemmas.Exceptions.Flown.{records_of}
use Rattle.law_types.proofs.Equal.{names_are}
use Rattle.law_machine.proofs.lemmas.Records.Started.{new_thread_is_fine}
use Rattle.law_machine.proofs.lemmas.Calls.Dispatched.{constructor_not_native}
use Rattle.law_machine.proofs.lemmas.Calls.Words.{instance_types, begins_plain}

-- ---- the class of a native

found_class : (class name : List ℕ) (ks : List Native) (j : Native) → native_among ks class name ≡ Some j → (signature j).class ≡ class
found_class class name [] j e = absurd (cc)
found_class class name (k ∷ ks) j e = by_test (is_signed class name (signature k)) refl (found_class class name ks j) e
  where
    by_test : (b : Bool) → is_signed class name (signature k) ≡ b → (native_among ks class name ≡ Some j → (signature j).class ≡ class) → (elim b as (λ w. Option Native) [ true ↦ Some k | false ↦ native_among ks class name ]) ≡ Some j → (signature j).class ≡ class
    by_test true i more e = subst (λ z. (signature z).class ≡ class) (same_Some k j e) (names_are (signature k).class class (and_parts (bytes_eq (signature k).class class) (bytes_eq (signature k).name name) i).0)
    by_test false i more e = more e

native_class : (image : Image) (k : Method) (j : Native) → native_of image k ≡ Some j → (signature j).class ≡ name_at image k.info.class.0
native_class image k j e = by_flag (is_native k) e
  where
    by_flag : (b : Bool) → (elim b as (λ w. Option Native) [ true ↦ native_among all_natives (name_at image k.info.class.0) k.def.name | false ↦ None ]) ≡ Some j → (signature j).class ≡ name_at image k.info.class.0
    by_flag true e = found_class (name_at image k.info.class.0) k.def.name all_natives j e
    by_flag false e = absurd (cc)

module _ (image : Image) (T : Typings) (m : Machine) (t : ℕ) (thread : Thread) (own : Method) (f : Frame) (rest : List Level) (x : At) (s : RegState) (h : Stands image T m t thread own f rest x s) (c : Call) (ks : List ℕ) (g : Method) (e : x.op ≡ Invoke c ks g) (k : Method) where
  abbrev heap : Heap
  heap = m.shared.heap

  abbrev here_it : Here
  here_it = here image m t own f rest x.next

  abbrev Calls : Native → List Value → Type 0
  Calls j xs = CallsNative image T m t thread own f rest x s h c ks g e k j xs

  abbrev Does : Did Left → Type 0
  Does d = DidFine image T m t thread x d

  -- ---- natives that give a value, make a string or print

  module _ (j : Native) (xs : List Value) (q : Calls j xs) (other : native.Wait ≡ j → ⊥) where
    -- null throws
    object_given : (go : ℕ → Did Left) → ((o : ℕ) → Does (go (suc o))) → (o : ℕ) → Does (on_object go o)
    object_given go n zero = native_throws image T m t thread own f rest x s h c ks g e k j xs q other
    object_given go n (suc o) = n o

    gives_fine : (y : Value) → ((o : Own) → ResultConforms image heap o (pending.One y) (pending_of (signature j).proto.ret)) → ResultFine image heap (pending.One y) → Does (gives here_it y)
    gives_fine y r n = native_left image T m t thread own f rest x s h c ks g e k j xs q heap m.shared.output (λ o d i. i) h.may.typed.heap (pending.One y) r n (native_apart image T m t thread own f rest x s h c ks g e k j xs q other)

    nothing_fine : (bs : List ℕ) → (signature j).proto.ret ≡ None → Does (goes here_it (with_output m.shared bs))
    nothing_fine bs i = native_left image T m t thread own f rest x s h c ks g e k j xs q heap bs (λ o d i. i) h.may.typed.heap pending.None (λ o. subst (λ r. ResultConforms image heap o pending.None (pending_of r)) (sym i) tt) tt (native_apart image T m t thread own f rest x s h c ks g e k j xs q other)

    -- one printing step, whole or not at all
    printed_fine : (bs : List ℕ) → (signature j).proto.ret ≡ None → Does (printed here_it bs)
    printed_fine bs i = by_room (nat_le (length m.shared.output + length bs) m.limits.output)
      where
        by_room : (b : Bool) → Does (if b then goes here_it (with_output m.shared (m.shared.output ++ bs)) else NoOutput)
        by_room true = nothing_fine (m.shared.output ++ bs) i
        by_room false = tt

    -- a new string
    string_is_of : (after : Heap) (u : List ℕ) → IsAdded image heap after (newest after) (kind.Str u) → IsOf image after (newest after) string_type
    string_is_of after u a = record {
      object = record { kind = kind.Str u; has_kind = a.made; proper = refl };
      fits = h.may.accepted.order.instance_fits _ _ refl (h.may.accepted.order.sub_instance _ _ (h.may.accepted.order.same string_type));
    }

    text_fine : (u : List ℕ) → (signature j).proto.ret ≡ Some string_type → Does (new_text here_it u)
    text_fine u i = by_room (alloc_string heap u) refl
      where
        by_room : (r : Option Heap) → alloc_string heap u ≡ r → Does (where_room r (gives_object here_it))
        by_room None n = native_stops image T m t thread own f rest x s h c ks g e k j xs q other
        by_room (Some after) n =
            let a = string_is_added image heap after u h.may.typed.heap n in
            let fits = fits_of image after (newest after) string_type (string_is_of after u a) in
            native_left image T m t thread own f rest x s h c ks g e k j xs q after m.shared.output a.keeps a.fine (pending.One (v.Ref (newest after)))
            (λ o. subst (λ r. ResultConforms image after o (pending.One (v.Ref (newest after))) (pending_of r)) (sym i) fits)
            (there_of image after (own_it) (newest after) string_type fits)
            (native_apart image T m t thread own f rest x s h c ks g e k j xs q other)
          where
            own_it : Own
            own_it = record { this = None; class = string_type; made = λ a. None }

  pub current_fine : (xs : List Value) → Calls native.CurrentThread xs → Does (native_step here_it native.CurrentThread xs)
  current_fine xs q =
      let is : IsOf image heap (own_object here_it) (of_class thread_name) = subst (λ o. IsOf image heap (object_of_thread o) (of_class thread_name)) (sym h.has_thread) (all_at (λ (th : Thread). IsOf image heap th.object (of_class thread_name)) m.threads t thread h.may.typed.objects h.has_thread) in
      let fits = fits_of image heap (own_object here_it) (of_class thread_name) is in
      gives_fine native.CurrentThread xs q (λ i. absurd (cc)) (v.Ref (own_object here_it)) (λ o. fits) (there_of image heap (record { this = None; class = string_type; made = λ a. None }) (own_object here_it) (of_class thread_name) fits)

  pub length_fine : (xs : List Value) → Calls native.Length xs → Does (native_step here_it native.Length xs)
  length_fine xs q = gives_fine native.Length xs q (λ i. absurd (cc)) _ (λ o. tt) tt

  pub char_fine : (xs : List Value) → Calls native.CharAt xs → (u : List ℕ) (n : ℤ) → Does (char_at here_it u n)
  char_fine xs q u (negsuc n) = native_throws image T m t thread own f rest x s h c ks g e k native.CharAt xs q (λ i. absurd (cc))
  char_fine xs q u (pos n) = by_place (slice_get u n)
    where
      by_place : (o : Option ℕ) → Does (gives_char here_it o)
      by_place None = native_throws image T m t thread own f rest x s h c ks g e k native.CharAt xs q (λ i. absurd (cc))
      by_place (Some d) = gives_fine native.CharAt xs q (λ i. absurd (cc)) (v.Num (pos d)) (λ o. tt) tt

  pub equals_fine : (xs : List Value) → Calls native.Equals xs → (b : Bool) → Does (gives here_it (truth b))
  equals_fine xs q true = gives_fine native.Equals xs q (λ i. absurd (cc)) (truth true) (λ o. tt) tt
  equals_fine xs q false = gives_fine native.Equals xs q (λ i. absurd (cc)) (truth false) (λ o. tt) tt

  pub concat_fine : (xs : List Value) → Calls native.Concat xs → Does (native_step here_it native.Concat xs)
  concat_fine xs q = object_given native.Concat xs q (λ i. absurd (cc)) (λ o. new_text here_it (text_of heap (object_number (arg xs 0)) ++ text_of heap o)) (λ o. text_fine native.Concat xs q (λ i. absurd (cc)) (text_of heap (object_number (arg xs 0)) ++ text_of heap (suc o)) refl) (object_number (arg xs 1))

  pub of_long_fine : (xs : List Value) → Calls native.OfLong xs → Does (native_step here_it native.OfLong xs)
  of_long_fine xs q = text_fine native.OfLong xs q (λ i. absurd (cc)) _ refl

  chars_fine : (xs : List Value) → Calls native.OfChars xs → (o : ℕ) (start count : ℤ) → Does (some_chars here_it o start count)
  chars_fine xs q o (pos start) (pos count) = by_test (nat_le (start + count) (length_of heap o))
    where
      by_test : (b : Bool) → Does (where_true b named.IndexOutOfBounds (new_text here_it (units_in (take count (drop start (cells_at heap o))))))
      by_test true = text_fine native.OfChars xs q (λ i. absurd (cc)) _ refl
      by_test false = native_throws image T m t thread own f rest x s h c ks g e k native.OfChars xs q (λ i. absurd (cc))
  chars_fine xs q o start count = native_throws image T m t thread own f rest x s h c ks g e k native.OfChars xs q (λ i. absurd (cc))

  pub of_chars_fine : (xs : List Value) → Calls native.OfChars xs → Does (native_step here_it native.OfChars xs)
  of_chars_fine xs q = object_given native.OfChars xs q (λ i. absurd (cc)) (λ o. some_chars here_it o (number_of (arg xs 1)) (number_of (arg xs 2))) (λ o. chars_fine xs q (suc o) (number_of (arg xs 1)) (number_of (arg xs 2))) (object_number (arg xs 0))

  pub print_fine : (xs : List Value) → Calls native.Print xs → Does (native_step here_it native.Print xs)
  print_fine xs q = object_given native.Print xs q (λ i. absurd (cc)) (λ o. printed here_it (utf8 (text_of heap o))) (λ o. printed_fine native.Print xs q (λ i. absurd (cc)) (utf8 (text_of heap (suc o))) refl) (object_number (arg xs 0))

  pub println_fine : (xs : List Value) → Calls native.Println xs → Does (native_step here_it native.Println xs)
  println_fine xs q = printed_fine native.Println xs q (λ i. absurd (cc)) _ refl

  pub join_fine : (xs : List Value) → Calls native.Join xs → (o : ℕ) → Does (join_on here_it o)
  join_fine xs q o = by_thread (thread_with m.threads o)
    where
      by_end : (b : Bool) → Does (if b then stays here_it else goes here_it m.shared)
      by_end true = staying image T m t thread own f rest x s h (native_apart image T m t thread own f rest x s h c ks g e k native.Join xs q (λ i. absurd (cc)))
      by_end false = nothing_fine native.Join xs q (λ i. absurd (cc)) m.shared.output refl

      by_thread : (u : Option ℕ) → Does (join_with here_it u)
      by_thread None = nothing_fine native.Join xs q (λ i. absurd (cc)) m.shared.output refl
      by_thread (Some u) = by_end (is_living (slice_get m.threads u))

  -- ---- natives that wait and notify

  -- the thread goes on with other monitors, or stays

  module _ (j : Native) (xs : List Value) (q : Calls j xs) where
    goes_with : (ms : Monitors) → (signature j).proto.ret ≡ None → MonitorsFine image m.threads (with_monitors m.shared ms) (suc m.steps) → wait_of ms t ≡ None → Does (goes here_it (with_monitors m.shared ms))
    goes_with ms i fine apart = monitor_left image T m t thread own f rest x s h (gone f x.next f.regs) ms
        (levels_after image T m t thread own f rest x s h c ks g e k j xs q heap m.shared.output (λ o d u. u) h.may.typed.heap pending.None (λ o. subst (λ r. ResultConforms image heap o pending.None (pending_of r)) (sym i) tt) tt)
        (let r = frame_refs image T m t thread own f rest x s h in (r.0, tt, tt)) fine apart

  abbrev after : Thread
  after = record { levels = level.Code f ∷ rest; end = end.Living; object = thread.object }

  -- a thread that has an entry still waits where it stays
  own_waits : (ms : Monitors) → MonitorsFine image m.threads (with_monitors m.shared ms) (suc m.steps) → All (λ (w : Wait). w.thread ≡ t → IsWaiting image heap after.levels after.end w.object) ms.waits
  own_waits ms fine n d l = λ i. by_entry _ (fine.waits n d l) i
    where
      by_entry : (w : Wait) → WaitFine image m.threads (with_monitors m.shared ms) w → w.thread ≡ t → IsWaiting image heap after.levels after.end w.object
      by_entry w u i =
          let same : u.thread ≡ thread = same_Some u.thread thread (sym u.has_thread ∙ ap (slice_get m.threads) i ∙ h.has_thread) in
          let here_too : IsWaiting image heap thread.levels thread.end w.object = subst (λ (y : Thread). IsWaiting image heap y.levels y.end w.object) same u.waits in
          subst (λ z. IsWaiting image heap after.levels z w.object) h.living (subst (λ ls. IsWaiting image heap ls thread.end w.object) h.levels here_too)

  stays_with : (ms : Monitors) → MonitorsFine image m.threads (with_monitors m.shared ms) (suc m.steps) → Does (onward here_it (with_monitors m.shared ms) f)
  stays_with ms fine = record {
    keeps = λ o d i. i;
    levels = stack_fine image T m t thread own f rest x s h;
    refs = refs_fine image T m t thread own f rest x s h;
    heap = h.may.typed.heap;
    class_states = h.may.typed.class_states;
    monitors = moved image m.threads t thread after [] (with_monitors m.shared ms) (with_monitors m.shared ms) (suc m.steps) (suc m.steps) (λ o d i. i) refl (omega arith) h.has_thread h.may.typed.refs (own_waits ms fine) fine;
    in_progress = records_after m.threads t thread after None h.has_thread m.shared.classes m.shared.classes h.may.typed.in_progress (records_of image T m t thread (level.Code f ∷ rest) h.may.typed h.has_thread h.levels) (λ u d n. refl) (λ y i. nothing ((d : ℕ) → records d y.levels ≡ 0) y i);
    started = λ y i. nothing _ y i;
  }

  later : MonitorsFine image m.threads m.shared (suc m.steps)
  later = monitors_later image m.threads m.shared m.steps h.may.typed.monitors

  -- what only the owner does
  held_by : (th : ThrowFine m t x) (o : ℕ) (go : ℕ → Did Left) → ((y : Held) → held_of m.shared.monitors o ≡ Some y → Does (go y.count)) → Does (holding here_it o go)
  held_by th o go n = by_holder (held_of m.shared.monitors o) refl
    where
      by_owner : (y : Held) (b : Bool) → Does (go y.count) → Does (where_true b named.IllegalMonitorState (go y.count))
      by_owner y true d = d
      by_owner y false d = th

      by_holder : (r : Option Held) → held_of m.shared.monitors o ≡ r → Does (holding_it here_it go r)
      by_holder None i = th
      by_holder (Some y) i = by_owner y (nat_eq y.thread t) (n y i)

  apart_all : wait_of m.shared.monitors t ≡ None → All (λ (w : Wait). w.thread ≢ t) m.shared.monitors.waits
  apart_all a = quiet_from t m.shared.monitors.waits a

  pub notify_fine : (xs : List Value) → Calls native.Notify xs → (o : ℕ) → Does (notify_on here_it o)
  notify_fine xs q o =
      let apart = native_apart image T m t thread own f rest x s h c ks g e k native.Notify xs q (λ i. absurd (cc)) in
      held_by (native_throws image T m t thread own f rest x s h c ks g e k native.Notify xs q (λ i. absurd (cc))) o _
      (λ y i. goes_with native.Notify xs q (notified_one m.shared.monitors o) refl (notifying_keeps image m.threads m.shared m.steps o h.may.typed.monitors).0
      (entry_none t _ (all_notified_first (λ (w : Wait). w.thread ≢ t) o (λ w n. n) m.shared.monitors.waits (apart_all apart))))

  pub notify_all_fine : (xs : List Value) → Calls native.NotifyAll xs → (o : ℕ) → Does (notify_all_on here_it o)
  notify_all_fine xs q o =
      let apart = native_apart image T m t thread own f rest x s h c ks g e k native.NotifyAll xs q (λ i. absurd (cc)) in
      held_by (native_throws image T m t thread own f rest x s h c ks g e k native.NotifyAll xs q (λ i. absurd (cc))) o _
      (λ y i. goes_with native.NotifyAll xs q (notified_all m.shared.monitors o) refl (notifying_keeps image m.threads m.shared m.steps o h.may.typed.monitors).1
      (entry_none t _ (all_notified_each (λ (w : Wait). w.thread ≢ t) o (λ w n. n) m.shared.monitors.waits (apart_all apart))))

  positive : (n : ℕ) → nat_lt 0 (suc n) ≡ true
  positive n = grind (arith, common_steps)

  pub receiver : (j : Native) (xs : List Value) → Calls j xs → (signature j).is_static ≡ false → IsReceiver image T m t thread own f rest x s h c ks g e k xs
  receiver j xs q i = q.instance (same_static image T m t thread own f rest x s h c ks g e k j xs q ∙ i)

  pub number_first : (xs : List Value) (r : IsReceiver image T m t thread own f rest x s h c ks g e k xs) → suc r.object ≡ object_number (arg xs 0)
  number_first xs r = sym (ap object_number r.first)

  -- the thread stands at a call that lands on wait
  waits_here : (xs : List Value) → Calls native.Wait xs → IsWaiting image heap thread.levels thread.end (object_number (arg xs 0))
  waits_here xs q =
      let r = receiver native.Wait xs q refl in
      subst (IsWaiting image heap thread.levels thread.end) (number_first xs r) (record {
        running = h.living;
        frame = f;
        rest = rest;
        levels = h.levels;
        method = own;
        has_method = h.has_own;
        at = x;
        has_at = h.has_at;
        call = c;
        args = ks;
        callee = g;
        is_invoke = e;
        receiver = r.register;
        has_receiver = r.has_register;
        holds = r.holds;
        there = positive r.object;
        landed = k;
        lands = r.lands;
        is_wait = q.is_native;
      })

  -- the second step of a wait
  takes_back : (xs : List Value) → Calls native.Wait xs → (w : Wait) → wait_of m.shared.monitors t ≡ Some w → (b : Bool) (o : Option ℕ) → owner_of m.shared.monitors w.object ≡ o → Does (taken_back here_it w b o)
  takes_back xs q w i true None n =
      let r = resuming_keeps image m.threads m.shared m.steps t w h.may.typed.monitors i n in
      goes_with native.Wait xs q (resumed m.shared.monitors w) refl r.0 r.1
  takes_back xs q w i true (Some u) n = stays_with m.shared.monitors later
  takes_back xs q w i false o n = stays_with m.shared.monitors later

  pub wait_fine : (xs : List Value) → Calls native.Wait xs → Does (native_step here_it native.Wait xs)
  wait_fine xs q = by_entry (wait_of m.shared.monitors t) refl
    where
      first_step : ThrowFine m t x → wait_of m.shared.monitors t ≡ None → Does (holding here_it (object_number (arg xs 0)) (λ n. onward here_it (with_monitors m.shared (waiting m.shared.monitors (object_number (arg xs 0)) t n)) f))
      first_step th i = held_by th (object_number (arg xs 0)) (λ n. onward here_it (with_monitors m.shared (waiting m.shared.monitors (object_number (arg xs 0)) t n)) f)
          (λ y u. stays_with (waiting m.shared.monitors (object_number (arg xs 0)) t y.count) (waiting_keeps image m.threads m.shared m.steps (object_number (arg xs 0)) t thread y h.may.typed.monitors h.has_thread i u (waits_here xs q)))

      by_entry : (w : Option Wait) → wait_of m.shared.monitors t ≡ w → Does (wait_step here_it (object_number (arg xs 0)) w)
      by_entry (Some w) i = takes_back xs q w i w.notified (owner_of m.shared.monitors w.object) refl
      by_entry None i = first_step (record { can = ap can_throw e; apart = i }) i

  -- ---- the native that starts a thread

  -- a native is no constructor
  plain_native : (j : Native) → native_of image k ≡ Some j → is_constructor k ≡ false
  plain_native j i = by_sort (is_constructor k) refl
    where
      by_sort : (b : Bool) → is_constructor k ≡ b → b ≡ false
      by_sort true u = nothing _ j (sym (constructor_not_native image k u) ∙ i)
      by_sort false u = refl

  -- the receiver of start is a Thread
  is_thread : (xs : List Value) → Calls native.Start xs → IsOf image heap (object_number (arg xs 0)) (of_class thread_name)
  is_thread xs q =
      let r = receiver native.Start xs q refl in
      let static = same_static image T m t thread own f rest x s h c ks g e k native.Start xs q in
      let own_it : Own = record { this = None; class = of_class thread_name; made = λ a. None } in
      let good = subst (IsGood image heap own_it xs) (instance_types image k static (begins_plain image k (plain_native native.Start q.is_native))) (q.words.good own_it) in
      let fits = subst (λ (y : Value). Conforms image heap own_it y (ty.Class (own_type image k))) r.first (good.regs 0) in
      subst (λ o. IsOf image heap o (of_class thread_name)) (number_first xs r)
      (subst (λ z. IsOf image heap (suc r.object) (of_class z)) (sym (native_class image k native.Start q.is_native)) fits)

  module _ (xs : List Value) (q : Calls native.Start xs) where
    abbrev started_object : ℕ
    started_object = object_number (arg xs 0)

    start_throws : ThrowFine m t x
    start_throws = native_throws image T m t thread own f rest x s h c ks g e k native.Start xs q (λ i. absurd (cc))

    starts : (r : Method) → run_landing image (class_of_kind image (kind_of heap started_object)) ≡ Lands r → Does (Go (record { levels = level.Code (gone f x.next f.regs) ∷ rest; shared = m.shared; started = Some (new_thread started_object r) }))
    starts r i = started_left image T m t thread own f rest x s h c ks g e k native.Start xs q heap m.shared.output (λ o d u. u) h.may.typed.heap pending.None (λ o. tt) tt
        (Some (new_thread started_object r))
        (λ y u d. ap (λ (z : Thread). records d z.levels) (sym (same_Some (new_thread started_object r) y u)))
        (λ y u. subst (StartedFine image T heap (length m.threads)) (same_Some (new_thread started_object r) y u) (new_thread_is_fine image T heap (length m.threads) started_object r h.may.accepted (is_thread xs q) i))
        (native_apart image T m t thread own f rest x s h c ks g e k native.Start xs q (λ i. absurd (cc)))

    by_run : (l : Landing) → run_landing image (class_of_kind image (kind_of heap started_object)) ≡ l → Does (started_on here_it started_object l)
    by_run (Lacks n) i = start_throws
    by_run (Lands r) i = starts r i

    pub start_fine : Does (native_step here_it native.Start xs)
    start_fine = by_thread (thread_with m.threads started_object)
      where
        by_room : (b : Bool) → Does (where_true b named.OutOfMemory (started_on here_it started_object (run_landing image (class_of_kind image (kind_of heap started_object)))))
        by_room true = by_run (run_landing image (class_of_kind image (kind_of heap started_object))) refl
        by_room false = start_throws

        by_thread : (u : Option ℕ) → Does (start_unless here_it started_object u)
        by_thread (Some u) = start_throws
        by_thread None = by_room (nat_lt (length m.threads) m.limits.threads)
