-- The state in which a run begins is the machine's.
use Rattle.std.proofs.Common.{◌≡◌, ◌<◌, ◌≤◌, ◌⊎◌, inl, inr, ℕ, zero, suc, ◌+◌, ◌-◌, ◌++◌, Bool, true, false, List, [], ◌∷◌, length, replicate, Option, Some, None, refl, ap, sym, ◌∙◌, subst, arith, length-append}
use Rattle.std.specs.Prelude.{◌&&◌, All, nat_le, not, slice_index_or, unwrap_or, if◌then◌else◌}
use Rattle.std.specs.Option.{option_to_list}
use Rattle.std.proofs.lemmas.Bool.Decides.{nat_tests}
use Rattle.std.proofs.lemmas.List.{length-replicate}
use Rattle.dv_defs.specs.declared.image.ClassInfo.{ClassInfo}
use Rattle.dv_defs.specs.declared.machine.End.TheVariants as end
use Rattle.dv_defs.specs.declared.run.Limits.{Limits}
use Rattle.dv_defs.specs.declared.run.Preallocated.{Preallocated}
use Rattle.dv_defs.specs.declared.names.Base.TheVariants as base
use Rattle.dv_defs.specs.declared.names.Ty.{Ty}
use Rattle.dv_defs.specs.Names.{string_name}
use Rattle.dv_machine.specs.Classes.{Classes, Fresh, Ready, state_at}
use Rattle.dv_defs.specs.Images.{Image}
use Rattle.dv_defs.specs.Pools.{Method, method_at}
use Rattle.law_machine.proofs.lemmas.Common.Members.{class_of_method}
use Rattle.dv_machine.specs.Calls.{registers_of}
use Rattle.dv_machine.specs.Mains.{IsMain}
use Rattle.dv_machine.specs.Opening.{first_states, is_born, opening_states}
use Rattle.dv_clinit.specs.Births.{first_state}
use Rattle.dv_words.specs.declared.state.Level.{Level}
use Rattle.dv_words.specs.declared.state.Level.TheVariants as level
use Rattle.dv_words.specs.Stacks.{empty, has_room, size_of, with_levels}
use Rattle.dv_words.specs.State.{WordHeap, WordMachine, WordStack, WordThread}
use Rattle.dv_words.specs.Calls.{entered_frame}
use Rattle.dv_words.specs.Heaps.{counting}
use Rattle.dv_words.specs.Opening.{main_args, main_heap, main_thread, opening, opening_heap, opening_levels, preallocated_on, with_out_of_memory, with_stack_overflow}
use Rattle.dv_threads.specs.declared.threads.Threads.{Threads}
use Rattle.dv_threads.specs.Kept.{bounds, threads_of}
use Rattle.dv_core.specs.Openings.{HasMainRoom, IsAlone, TakesStrings, is_fresh, opening_stack, stack_with_main, with_level}

-- ---- the stack

fits : (b : Bool) (s t : WordStack) → b ≡ true → unwrap_or (elim b as (λ _. Option WordStack) [ true ↦ Some t | false ↦ None ]) s ≡ t
fits true s t is = refl
fits false s t is = absurd (cc)

level_fits : (s : WordStack) (l : Level) → has_room s (size_of l) ≡ true → with_level s l ≡ with_levels s (l ∷ s.levels)
level_fits s l has = fits (has_room s (size_of l)) s (with_levels s (l ∷ s.levels)) has

keeps_bounds : (b : Bool) (s : WordStack) (ls : List Level) → bounds (unwrap_or (elim b as (λ _. Option WordStack) [ true ↦ Some (with_levels s ls) | false ↦ None ]) s) ≡ bounds s
keeps_bounds true s ls = refl
keeps_bounds false s ls = refl

level_bounds : (s : WordStack) (l : Level) → bounds (with_level s l) ≡ bounds s
level_bounds s l = keeps_bounds (has_room s (size_of l)) s (l ∷ s.levels)

both : (a b : Bool) → a ≡ true → b ≡ true → (a && b) ≡ true
both true b p q = q
both false b p q = absurd (cc)

few_regs : (registers : ℕ) (args : List ℕ) → registers ≤ 256 → length args ≤ 1 → length (replicate (registers - length args) 0 ++ args) ≤ 256
few_regs registers args few one =
    omega (arith, few, one, length-append (replicate (registers - length args) 0) args, length-replicate {A = ℕ} (registers - length args) 0)

module _ (l : Limits) (m : Method) (args : List ℕ) (room : HasMainRoom l) (few : registers_of m ≤ 256) (one : length args ≤ 1) where
  main_fits : stack_with_main l m args ≡ with_levels (empty l.levels l.words) (level.Code (entered_frame m args) ∷ [])
  main_fits =
      let less = room.room.levels in
      let wide = room.room.words in
      let regs = few_regs (registers_of m) args few one in
      let n : ℕ = length (replicate (registers_of m - length args) 0 ++ args) in
      let a : nat_le 1 l.levels ≡ true = grind (arith, nat_tests) in
      let narrow : n + 0 ≤ l.words = omega (arith, regs, wide) in
      let b : nat_le (n + 0) l.words ≡ true = grind (arith, nat_tests) in
      level_fits (empty l.levels l.words) (level.Code (entered_frame m args)) (both (nat_le 1 l.levels) (nat_le (n + 0) l.words) a b)

  class_fits : with_level (with_levels (empty l.levels l.words) (level.Code (entered_frame m args) ∷ [])) (level.Init m.info.class false) ≡ with_levels (empty l.levels l.words) (level.Init m.info.class false ∷ level.Code (entered_frame m args) ∷ [])
  class_fits =
      let less = room.levels in
      let wide = room.room.words in
      let regs = few_regs (registers_of m) args few one in
      let n : ℕ = length (replicate (registers_of m - length args) 0 ++ args) in
      let a : nat_le 2 l.levels ≡ true = grind (arith, nat_tests) in
      let narrow : 0 + (n + 0) ≤ l.words = omega (arith, regs, wide) in
      let b : nat_le (0 + (n + 0)) l.words ≡ true = grind (arith, nat_tests) in
      level_fits (with_levels (empty l.levels l.words) (level.Code (entered_frame m args) ∷ [])) (level.Init m.info.class false) (both (nat_le 2 l.levels) (nat_le (0 + (n + 0)) l.words) a b)

  pub stack_levels : (born : Bool) → (opening_stack l m args born).levels ≡ opening_levels m (entered_frame m args) born
  stack_levels true = ap (λ (s : WordStack). s.levels) main_fits
  stack_levels false = ap (λ (s : WordStack). (with_level s (level.Init m.info.class false)).levels) main_fits ∙ ap (λ (s : WordStack). s.levels) class_fits

pub stack_bounds : (l : Limits) (m : Method) (args : List ℕ) (born : Bool) → bounds (opening_stack l m args born) ≡ (l.levels, l.words)
stack_bounds l m args true = level_bounds (empty l.levels l.words) (level.Code (entered_frame m args))
stack_bounds l m args false = level_bounds (stack_with_main l m args) (level.Init m.info.class false) ∙ level_bounds (empty l.levels l.words) (level.Code (entered_frame m args))

pub one_at_most : (o : Option ℕ) → length (option_to_list o) ≤ 1
one_at_most None = omega arith
one_at_most (Some x) = omega arith

-- ---- the classes

state_found : (image : Image) (cs : List ClassInfo) (k j : ℕ) → j < length cs → slice_index_or (first_states image cs k) j Fresh ≡ first_state image (k + j)
state_found image [] k j within = absurd (omega (arith, within))
state_found image (c ∷ cs) k zero within = let same : k ≡ k + zero = omega arith in ap (first_state image) same
state_found image (c ∷ cs) k (suc j) within =
    let less : j < length cs = omega (arith, within) in
    let same : suc k + j ≡ k + suc j = omega arith in
    state_found image cs (suc k) j less ∙ ap (first_state image) same

told : (b : Bool) → not (is_fresh (if b then Ready else Fresh)) ≡ b
told true = refl
told false = refl

born_is : (image : Image) (m : Method) → method_at image m.id ≡ Some m → not (is_fresh (state_at (first_states image image.classes 0) m.info.class.0)) ≡ is_born image m.info.class.0
born_is image m has =
    let here : 0 + m.info.class.0 ≡ m.info.class.0 = omega arith in
    ap (λ s. not (is_fresh s)) (state_found image image.classes 0 m.info.class.0 (class_of_method image m.id m has) ∙ ap (first_state image) here) ∙ told (is_born image m.info.class.0)

-- ---- all of it

abbrev alone_at : List Level → List WordThread
alone_at ls = record { levels = ls; end = end.Living; object = 2 } ∷ []

module _ (image : Image) (m : Method) (l : Limits) (main heap : WordHeap) (p : Preallocated) (array : Option ℕ) (first classes : Classes) (born : Bool) (ts : Threads) (output : List ℕ) where
  pub is_opening : (s : WordStack) → main ≡ main_heap image m → heap ≡ counting (with_stack_overflow image (with_out_of_memory image main)) l.heap → p ≡ preallocated_on image main →
      option_to_list array ≡ main_args m main → first ≡ first_states image image.classes 0 → born ≡ not (is_fresh (state_at first m.info.class.0)) →
      classes ≡ opening_states m first born → s ≡ opening_stack l m (option_to_list array) born → IsAlone ts s 2 → output ≡ [] → method_at image m.id ≡ Some m → HasMainRoom l → registers_of m ≤ 256 →
      record { threads = threads_of ts; shared = record { heap = heap; classes = classes; monitors = ts.monitors.monitors; output = output }; steps = 0; stop = None; limits = l; preallocated = p } ≡ opening image m l
  is_opening s main_is heap_is made args_are first_is told_born classes_are stack_is alone none has room few =
      let birth : born ≡ is_born image m.info.class.0 = told_born ∙ (ap (λ (cs : Classes). not (is_fresh (state_at cs m.info.class.0))) first_is ∙ born_is image m has) in
      let levels : s.levels ≡ opening_levels m (entered_frame m (option_to_list array)) born = ap (λ (t : WordStack). t.levels) stack_is ∙ stack_levels l m (option_to_list array) room few (one_at_most array) born in
      let args : option_to_list array ≡ main_args m (main_heap image m) = args_are ∙ ap (main_args m) main_is in
      let threads : threads_of ts ≡ main_thread m (main_heap image m) (is_born image m.info.class.0) ∷ [] =
      alone.threads ∙ (ap alone_at levels ∙ (λ j. alone_at (opening_levels m (entered_frame m (args j)) (birth j)))) in
      let states : classes ≡ opening_states m (first_states image image.classes 0) (is_born image m.info.class.0) =
      classes_are ∙ (λ j. opening_states m (first_is j) (birth j)) in
      let full : heap ≡ opening_heap image m l = heap_is ∙ ap (λ (h : WordHeap). counting (with_stack_overflow image (with_out_of_memory image h)) l.heap) main_is in
      let both : p ≡ preallocated_on image (main_heap image m) = made ∙ ap (preallocated_on image) main_is in
      λ j. record {
        threads = threads j;
        shared = record { heap = full j; classes = states j; monitors = alone.monitors j; output = none j };
        steps = 0;
        stop = None;
        limits = l;
        preallocated = both j;
      }

one_all : {X : Type 0} (P : X → Type 0) (x : X) → P x → All P (x ∷ [])
one_all P x p zero d less = p
one_all P x p (suc k) d less = absurd (omega (arith, less))

none_all : {X : Type 0} (P : X → Type 0) → All P []
none_all P k d less = absurd (omega (arith, less))

pub one_ordered : (ss : List WordStack) (s : WordStack) (l : Limits) (m : Method) (args : List ℕ) (born : Bool) → ss ≡ s ∷ [] → s ≡ opening_stack l m args born →
    All (λ (t : WordStack). bounds t ≡ (l.levels, l.words)) ss
one_ordered ss s l m args born e is =
    subst (λ (ts : List WordStack). All (λ (t : WordStack). bounds t ≡ (l.levels, l.words)) ts) (sym e)
    (one_all (λ (t : WordStack). bounds t ≡ (l.levels, l.words)) s (ap bounds is ∙ stack_bounds l m args born))

-- ---- of a main method

takes_by : (ps : List Ty) → (ps ≡ []) ⊎ (ps ≡ record { dims = 1; base = base.Class string_name } ∷ []) → All (λ t. t ≡ record { dims = 1; base = base.Class string_name }) ps
takes_by ps (inl e) = subst (λ (ts : List Ty). All (λ t. t ≡ record { dims = 1; base = base.Class string_name }) ts) (sym e) (none_all (λ t. t ≡ record { dims = 1; base = base.Class string_name }))
takes_by ps (inr e) = subst (λ (ts : List Ty). All (λ t. t ≡ record { dims = 1; base = base.Class string_name }) ts) (sym e) (one_all (λ t. t ≡ record { dims = 1; base = base.Class string_name }) (record { dims = 1; base = base.Class string_name }) refl)

pub opens : (image : Image) (l : Limits) (id : ℕ) (x m : Method) (w : WordMachine) → Some x ≡ method_at image id → m.id ≡ id → IsMain image m → HasMainRoom l →
    (method_at image x.id ≡ Some x → TakesStrings x → HasMainRoom l → w ≡ opening image x l) → w ≡ opening image m l
opens image l id x m w found same main room given =
    let here : method_at image id ≡ Some m = subst (λ (n : ℕ). method_at image n ≡ Some m) same main.there in
    let both_are : Some x ≡ Some m = found ∙ here in
    let equal : x ≡ m = cc in
    subst (λ (y : Method). method_at image y.id ≡ Some y → TakesStrings y → HasMainRoom l → w ≡ opening image y l) equal given main.there (takes_by m.def.proto.params main.form) room

pub none_opens : (image : Image) (id : ℕ) (m : Method) (P : Type 0) → None ≡ method_at image id → m.id ≡ id → IsMain image m → P
none_opens image id m P lacks same main =
    let here : method_at image id ≡ Some m = subst (λ (n : ℕ). method_at image n ≡ Some m) same main.there in
    let both_are : None ≡ Some m = lacks ∙ here in
    absurd (cc)
