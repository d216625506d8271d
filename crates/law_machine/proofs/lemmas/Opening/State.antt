-- The state in which a run begins is well typed.
use Rattle.std.proofs.Common.{◌≡◌, ◌⊎◌, inl, inr, ℕ, zero, suc, ◌+◌, ◌<◌, ◌≤◌, List, [], ◌∷◌, length, Bool, true, false, Option, Some, None, refl, sym, ap, ◌∙◌, subst, arith}
use Rattle.std.specs.Prelude.{slice_get, All, bytes_eq, if◌then◌else◌}
use Rattle.std.proofs.lemmas.Bool.{eq-eqb}
use Rattle.std.proofs.lemmas.List.{length-set}
use Rattle.std.proofs.lemmas.List.Elements.{All-nil, All-cons}
use Rattle.std.proofs.lemmas.Option.{same_Some}
use Rattle.dv_defs.specs.declared.names.Ty.{Ty}
use Rattle.dv_defs.specs.Images.{Image}
use Rattle.dv_defs.specs.declared.image.ClassInfo.{ClassInfo}
use Rattle.dv_defs.specs.declared.code.Body.{Body}
use Rattle.dv_machine.specs.Value.{Value}
use Rattle.dv_machine.specs.Value as v
use Rattle.dv_defs.specs.declared.run.Limits.{Limits}
use Rattle.dv_machine.specs.Kind as kind
use Rattle.dv_machine.specs.Level as level
use Rattle.dv_defs.specs.declared.machine.End.TheVariants as end
use Rattle.dv_defs.specs.Names.{string_name, thread_name, main_name, clinit_name}
use Rattle.dv_defs.specs.Types.{of_class, words_of_all}
use Rattle.dv_typing.specs.Statics.{arg_words}
use Rattle.dv_defs.specs.Pools.{Method}
use Rattle.dv_defs.specs.Op.{Code, code_at}
use Rattle.dv_typing.specs.RegTypes.{all_types}
use Rattle.dv_typing.specs.Transfer.{arg_types}
use Rattle.dv_machine.specs.Heap.{Heap, kind_of, newest}
use Rattle.dv_machine.specs.Classes.{ClassState, Fresh, InProgress, Ready, state_at}
use Rattle.dv_machine.specs.State.{Thread}
use Rattle.dv_machine.specs.Calls.{entered_frame}
use Rattle.dv_machine.specs.Unwinding.{is_opening, is_method_of}
use Rattle.dv_machine.specs.Opening.{takes_array, main_args, is_born, first_states, opening_levels, opening_states, opened, main_heap, opening_heap, takes_any}
use Rattle.dv_machine.specs.Conforming.{IsOf, IsGood, RefFine, RefsFine}
use Rattle.dv_machine.specs.WellTyped.{Typings, own_of, IsNoInitialiser, StackFine, ThreadFine, records, owed, levels_in, WellTyped}
use Rattle.dv_machine.specs.Accepted.{Accepted}
use Rattle.dv_machine.specs.Mains.{IsMain}
use Rattle.law_machine.specs.StepLaws.{OpeningIsWellTyped}
use Rattle.law_types.proofs.Facts.{nothing, zero_plus, plus_suc, plus_zero}
use Rattle.law_machine.proofs.lemmas.Common.Facts.{fits_of}
use Rattle.law_machine.proofs.lemmas.Records.States.{begun_mine, begun_others}
use Rattle.law_machine.proofs.lemmas.Records.Entered.{none_good, refs_entered, entered_code, entered_placed}
use Rattle.law_machine.proofs.lemmas.Records.Fine.{static_begins}
use Rattle.law_machine.proofs.lemmas.Records.Started.{one_good}
use Rattle.law_machine.proofs.lemmas.Exceptions.Rises.{object_there}
use Rattle.law_machine.proofs.lemmas.Opening.Heap.{IsOpened, heap_opened, same_fits, named_of}
use Rattle.law_flow.proofs.MethodCode.{code_is}
use Rattle.law_machine.proofs.lemmas.Calls.Words.{static_types}
use Rattle.law_machine.proofs.lemmas.Calls.Dispatched.{named_otherwise}
use Rattle.law_machine.proofs.lemmas.Common.Members.{class_of_method}

-- ---- main is no initialiser

main_is_no_initialiser : (image : Image) (m : Method) → m.def.name ≡ main_name → IsNoInitialiser image m
main_is_no_initialiser image m n = named_otherwise image m (subst (λ (x : List ℕ). bytes_eq x clinit_name ≡ false) (sym n) refl)

-- ---- the states of classes

first_count : (image : Image) (cs : List ClassInfo) (k : ℕ) → length (first_states image cs k) ≡ length cs
first_count image [] k = refl
first_count image (c ∷ cs) k = ap suc (first_count image cs (suc k))

abbrev by_birth : Bool → ClassState
by_birth b = if b then Ready else Fresh

-- nobody initialises a class yet
first_idle : (image : Image) (cs : List ClassInfo) (k c u : ℕ) → owed u (state_at (first_states image cs k) c) ≡ 0
first_idle image [] k c u = refl
first_idle image (x ∷ cs) k zero u = go (is_born image k)
  where
    go : (b : Bool) → owed u (by_birth b) ≡ 0
    go true = refl
    go false = refl
first_idle image (x ∷ cs) k (suc c) u = first_idle image cs (suc k) c u

first_at : (image : Image) (cs : List ClassInfo) (k c : ℕ) → c < length cs → state_at (first_states image cs k) c ≡ by_birth (is_born image (c + k))
first_at image [] k c l = absurd (omega arith)
first_at image (x ∷ cs) k zero l = ap (λ n. by_birth (is_born image n)) (zero_plus k)
first_at image (x ∷ cs) k (suc c) l = first_at image cs (suc k) c (omega (arith, l)) ∙ ap (λ n. by_birth (is_born image n)) (plus_suc c k)

-- ---- main's arguments

record ArgsFine (image : Image) (heap : Heap) (m : Method) (b : Body) (xs : List Value) : Type 0 where
  good : IsGood image heap (own_of image None m) xs (arg_types image m)
  refs : All (RefFine image heap) xs
  room : length xs ≤ b.registers

module _ (image : Image) (T : Typings) (acc : Accepted image T) (m : Method) (l : Limits) (is : IsMain image m) where
  abbrev heap : Heap
  heap = opening_heap image m l

  open_heap : IsOpened image (opening_heap image m l)
  open_heap = (heap_opened image T acc m l).opened

  own_code : (code : Code) → code_at image m.id ≡ Some code → (m.def.body ≡ Some code.body) × (code.method ≡ m)
  own_code code e =
      let c = code_is image m.id code e in
      let same = same_Some code.method m (sym c.method ∙ is.there) in
      (ap (λ (x : Method). x.def.body) (sym same) ∙ c.body, same)

  body : m.def.body ≡ Some is.code.body
  body = (own_code is.code is.has_code).0

  words : (n : ℕ) → words_of_all m.def.proto.params ≡ n → n ≤ is.code.body.registers
  words n e =
      let room = acc.typed.room m.id is.code is.has_code in
      let same : arg_words is.code.method ≡ arg_words m = ap arg_words (own_code is.code is.has_code).1 in
      let own : arg_words m ≡ 0 + words_of_all m.def.proto.params = ap (λ (b : Bool). elim b as (λ x. ℕ) [ true ↦ 0 | false ↦ 1 ] + words_of_all m.def.proto.params) is.static in
      omega (arith, room, same, own, e)

  args_none : m.def.proto.params ≡ [] → ArgsFine image (opening_heap image m l) m is.code.body []
  args_none e = record {
    good = subst (IsGood image (opening_heap image m l) (own_of image None m) []) (sym (static_types image m is.static ∙ ap all_types e)) (none_good image (opening_heap image m l) (own_of image None m));
    refs = All-nil (RefFine image (opening_heap image m l));
    room = omega arith;
  }

  args_one : m.def.proto.params ≡ record { dims = 1; base = (of_class string_name).base } ∷ [] → kind_of (opening_heap image m l) (newest (main_heap image m)) ≡ Some (kind.Array (record { dims = 1; base = (of_class string_name).base })) → ArgsFine image (opening_heap image m l) m is.code.body (v.Ref (newest (main_heap image m)) ∷ [])
  args_one e k = record {
    good = subst (IsGood image (opening_heap image m l) (own_of image None m) (v.Ref (newest (main_heap image m)) ∷ [])) (sym (static_types image m is.static ∙ ap all_types e)) (one_good image (opening_heap image m l) (own_of image None m) (newest (main_heap image m)) strings (fits_of image (opening_heap image m l) (newest (main_heap image m)) strings array));
    refs = All-cons (RefFine image (opening_heap image m l)) (v.Ref (newest (main_heap image m))) [] (object_there image (opening_heap image m l) (newest (main_heap image m)) array.object) (All-nil (RefFine image (opening_heap image m l)));
    room = words 1 (ap words_of_all e);
  }
    where
      strings : Ty
      strings = record { dims = 1; base = (of_class string_name).base }

      array : IsOf image (opening_heap image m l) (newest (main_heap image m)) strings
      array = record { object = record { kind = kind.Array strings; has_kind = k; proper = refl }; fits = same_fits image T acc strings refl }

  args_fine : ArgsFine image (opening_heap image m l) m is.code.body (main_args m (main_heap image m))
  args_fine = go is.form
    where
      by_taking : (b : Bool) → takes_array m ≡ b → ArgsFine image (opening_heap image m l) m is.code.body (if b then v.Ref (newest (main_heap image m)) ∷ [] else []) → ArgsFine image (opening_heap image m l) m is.code.body (main_args m (main_heap image m))
      by_taking b e a = subst (λ (x : Bool). ArgsFine image (opening_heap image m l) m is.code.body (if x then v.Ref (newest (main_heap image m)) ∷ [] else [])) (sym e) a

      go : (m.def.proto.params ≡ []) ⊎ (m.def.proto.params ≡ record { dims = 1; base = (of_class string_name).base } ∷ []) → ArgsFine image (opening_heap image m l) m is.code.body (main_args m (main_heap image m))
      go (inl e) = by_taking false (ap takes_any e) (args_none e)
      go (inr e) = let t = ap takes_any e in by_taking true t (args_one e ((heap_opened image T acc m l).array t))

  -- ---- the thread

  main_stack : StackFine image T (opening_heap image m l) 0 None (level.Code (entered_frame m (main_args m (main_heap image m)) false) ∷ [])
  main_stack = (
    entered_code image T acc (opening_heap image m l) m is.code.body is.there body (main_args m (main_heap image m)) false [] args_fine.room (main_is_no_initialiser image m is.named),
    entered_placed image T acc (opening_heap image m l) m is.code.body is.there body None (main_args m (main_heap image m)) (static_begins image m is.static) args_fine.good,
    tt,
    tt,
  )

  -- the record that the opening makes stands right above it
  is_opened : is_opening image 0 m.info.class.0 (level.Code (entered_frame m (main_args m (main_heap image m)) false) ∷ []) ≡ true
  is_opened = ap (λ (o : Option Method). is_method_of 0 m.info.class.0 o) is.there ∙ eq-eqb m.info.class.0 m.info.class.0 refl

  record_stack : StackFine image T (opening_heap image m l) 0 None (level.Init (record { 0 = m.info.class.0 }) false ∷ level.Code (entered_frame m (main_args m (main_heap image m)) false) ∷ [])
  record_stack = (inr (is_opened, refl), go (is_opening image 0 m.info.class.0 (level.Code (entered_frame m (main_args m (main_heap image m)) false) ∷ [])))
    where
      go : (b : Bool) → elim b as (λ x. Type 0) [ true ↦ StackFine image T (opening_heap image m l) 0 None (level.Code (entered_frame m (main_args m (main_heap image m)) false) ∷ []) | false ↦ StackFine image T (opening_heap image m l) 0 None (level.Code (entered_frame m (main_args m (main_heap image m)) false) ∷ []) ]
      go true = main_stack
      go false = main_stack

  main_refs : RefsFine image (opening_heap image m l) (level.Code (entered_frame m (main_args m (main_heap image m)) false))
  main_refs = refs_entered image (opening_heap image m l) m (main_args m (main_heap image m)) false args_fine.refs

  in_image : m.info.class.0 < length image.classes
  in_image = class_of_method image m.id m is.there

  -- ---- the state, by whether main's class is born initialised

  levels_fine : (b : Bool) → ThreadFine image T (opening_heap image m l) 0 (opening_levels m (entered_frame m (main_args m (main_heap image m)) false) b) end.Living
  levels_fine true = (tt, main_stack)
  levels_fine false = (tt, record_stack)

  levels_refs : (b : Bool) → All (RefsFine image (opening_heap image m l)) (opening_levels m (entered_frame m (main_args m (main_heap image m)) false) b)
  levels_refs true = All-cons (RefsFine image (opening_heap image m l)) _ [] main_refs (All-nil (RefsFine image (opening_heap image m l)))
  levels_refs false = All-cons (RefsFine image (opening_heap image m l)) (level.Init m.info.class false) (level.Code (entered_frame m (main_args m (main_heap image m)) false) ∷ []) tt (All-cons (RefsFine image (opening_heap image m l)) _ [] main_refs (All-nil (RefsFine image (opening_heap image m l))))

  states_count : (b : Bool) → length (opening_states m (first_states image image.classes 0) b) ≡ length image.classes
  states_count true = first_count image image.classes 0
  states_count false = length-set (first_states image image.classes 0) m.info.class.0 (InProgress 0) ∙ first_count image image.classes 0

  fresh : is_born image m.info.class.0 ≡ false → state_at (first_states image image.classes 0) m.info.class.0 ≡ Fresh
  fresh e = first_at image image.classes 0 m.info.class.0 in_image ∙ ap (λ n. by_birth (is_born image n)) (plus_zero m.info.class.0) ∙ ap by_birth e

  states_agree : (b : Bool) → is_born image m.info.class.0 ≡ b → (u c : ℕ) → records c (levels_in (slice_get (record { levels = opening_levels m (entered_frame m (main_args m (main_heap image m)) false) b; end = end.Living; object = 2 } ∷ []) u)) ≡ owed u (state_at (opening_states m (first_states image image.classes 0) b) c)
  states_agree true e zero c = sym (first_idle image image.classes 0 c 0)
  states_agree true e (suc u) c = sym (first_idle image image.classes 0 c (suc u))
  states_agree false e zero c = begun_mine 0 m.info.class.0 (level.Code (entered_frame m (main_args m (main_heap image m)) false) ∷ []) (first_states image image.classes 0) (omega (arith, in_image, first_count image image.classes 0)) (fresh e) c (sym (first_idle image image.classes 0 c 0))
  states_agree false e (suc u) c = sym (begun_others 0 m.info.class.0 (first_states image image.classes 0) (omega (arith, in_image, first_count image image.classes 0)) (fresh e) (suc u) c (λ q. absurd (omega arith)) ∙ first_idle image image.classes 0 c (suc u))

  opened_typed : (b : Bool) → is_born image m.info.class.0 ≡ b → WellTyped image T (opened image l m b)
  opened_typed b e = record {
    each = each;
    objects = All-cons (λ th. IsOf image (opening_heap image m l) th.object (of_class thread_name)) _ [] (named_of image T acc (opening_heap image m l) 2 thread_name (acc.boot.there 3 [] (omega arith)) refl open_heap.second) (All-nil (λ (th : Thread). IsOf image (opening_heap image m l) th.object (of_class thread_name)));
    refs = All-cons (λ th. All (RefsFine image (opening_heap image m l)) th.levels) _ [] (levels_refs b) (All-nil (λ (th : Thread). All (RefsFine image (opening_heap image m l)) th.levels));
    heap = open_heap.fine;
    monitors = record { waits = λ k d q. absurd (omega arith); held = λ k d q. absurd (omega arith); kept = λ k d q. absurd (omega arith); once = λ i j w x p. nothing _ w p; one_owner = λ i j w x p. nothing _ w p };
    class_states = states_count b;
    in_progress = states_agree b e;
    preallocated = (heap_opened image T acc m l).preallocated;
  }
    where
      each : (t : ℕ) (th : Thread) → slice_get (record { levels = opening_levels m (entered_frame m (main_args m (main_heap image m)) false) b; end = end.Living; object = 2 } ∷ []) t ≡ Some th → ThreadFine image T (opening_heap image m l) t th.levels th.end
      each zero th q = subst (λ (x : Thread). ThreadFine image T (opening_heap image m l) 0 x.levels x.end) (same_Some _ th q) (levels_fine b)
      each (suc t) th q = nothing _ th q

pub opening_is_well_typed : OpeningIsWellTyped
opening_is_well_typed image T m l acc is = opened_typed image T acc m l is (is_born image m.info.class.0) refl
