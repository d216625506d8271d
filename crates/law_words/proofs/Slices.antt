-- Local instructions of a frame are steps of its thread.
use Rattle.std.proofs.Common.{◌≡◌, ℕ, zero, suc, ◌+◌, ◌++◌, Bool, true, false, Option, Some, None, List, [], ◌∷◌, refl, sym, ap, ◌∙◌, arith}
use Rattle.std.specs.Prelude.{slice_get, slice_set}
use Rattle.dv_defs.specs.declared.machine.End.{End}
use Rattle.dv_defs.specs.declared.machine.End.TheVariants as end
use Rattle.dv_defs.specs.Images.{Image}
use Rattle.dv_defs.specs.Op.{ArrayGet, ArrayLength, ArrayPut, Cast, Code, ConstClass, ConstString, Enter, Exit, FieldGet, FieldPut, Fill, Filled, InstanceOf, IntDivide, LongDivide, NewArray, Op, Invoke, New, Return, ReturnVoid, StaticGet, StaticPut, Throw, code_at, code_of, is_local, needs}
use Rattle.dv_defs.specs.Pools.{Method, method_at}
use Rattle.dv_typing.specs.Statics.{At, fetch, fetch_in}
use Rattle.dv_words.specs.declared.state.Frame.{Frame}
use Rattle.dv_words.specs.declared.state.Level.{Level}
use Rattle.dv_words.specs.declared.state.Level.TheVariants as level
use Rattle.dv_words.specs.State.{WordMachine, WordThread}
use Rattle.dv_words.specs.Local.{word_local}
use Rattle.dv_words.specs.Step.{act, here, settled, step, step_at, step_code, step_living, step_of, with_ready}
use Rattle.law_words.specs.StepLaws.{LocalsAreSteps, steps_of, with_top}
use Rattle.dv_words.specs.Stepping.{local_by, local_here, locals_here, on_frame}
use Rattle.dv_words.specs.Steps as steps

-- ---- lists

get_set : (ts : List WordThread) (t : ℕ) (x y : WordThread) → slice_get ts t ≡ Some x → slice_get (slice_set ts t y) t ≡ Some y
get_set [] t x y has = absurd (cc)
get_set (u ∷ ts) zero x y has = refl
get_set (u ∷ ts) (suc t) x y has = get_set ts t x y has

set_same : (ts : List WordThread) (t : ℕ) (x : WordThread) → slice_get ts t ≡ Some x → slice_set ts t x ≡ ts
set_same [] t x has = refl
set_same (u ∷ ts) zero x has = let e : u ≡ x = cc in ap (λ y. y ∷ ts) (sym e)
set_same (u ∷ ts) (suc t) x has = ap (λ us. u ∷ us) (set_same ts t x has)

set_again : (ts : List WordThread) (t : ℕ) (x y : WordThread) → slice_set (slice_set ts t x) t y ≡ slice_set ts t y
set_again [] t x y = refl
set_again (u ∷ ts) zero x y = refl
set_again (u ∷ ts) (suc t) x y = ap (λ us. u ∷ us) (set_again ts t x y)

no_more : (ts : List WordThread) → ts ++ [] ≡ ts
no_more [] = refl
no_more (t ∷ ts) = ap (λ us. t ∷ us) (no_more ts)

-- ---- one local instruction

pub needs_none : (op : Op) → is_local op ≡ true → needs op ≡ None
needs_none (New a c) e = absurd (cc)
needs_none (StaticGet s a x) e = absurd (cc)
needs_none (StaticPut s a x) e = absurd (cc)
needs_none (Invoke c ks g) e = absurd (cc)
needs_none op e = refl

has_method : (o : Option Method) (code : Code) → code_of o ≡ Some code → (m : Method) × (o ≡ Some m)
has_method None code e = absurd (cc)
has_method (Some m) code e = (m, refl)

has_code : (image : Image) (at : ℕ) (c : Option Code) (x : At) → fetch_in image at c ≡ Some x → (code : Code) × (c ≡ Some code)
has_code image at None x e = absurd (cc)
has_code image at (Some code) x e = (code, refl)

pub of_method : (image : Image) (n at : ℕ) (x : At) → fetch image n at ≡ Some x → (m : Method) × (method_at image n ≡ Some m)
unfolding fetch code_at
of_method image n at x e = let c = has_code image at (code_of (method_at image n)) x e in has_method (method_at image n) c.0 c.1

-- the thread with this frame on top
abbrev thread_of : WordThread → Frame → List Level → WordThread
thread_of th s ls = record { levels = level.Code s ∷ ls; end = end.Living; object = th.object }

module _ (image : Image) (w : WordMachine) (t : ℕ) (s : Frame) (ls : List Level) (object : ℕ) where
  abbrev Top : Frame → WordThread
  Top f = record { levels = level.Code f ∷ ls; end = end.Living; object = object }

  abbrev after : Frame → WordMachine
  after f = record { threads = slice_set w.threads t (Top f) ++ []; shared = w.shared; steps = suc w.steps; stop = w.stop; limits = w.limits; preallocated = w.preallocated }

  act_local : (h : steps.At) (op : Op) → is_local op ≡ true → act h op ≡ steps.local_left h op
  act_local h (IntDivide o a b c) e = absurd (cc)
  act_local h (LongDivide o a b c) e = absurd (cc)
  act_local h (ConstString a u) e = absurd (cc)
  act_local h (ConstClass a u) e = absurd (cc)
  act_local h (Enter a) e = absurd (cc)
  act_local h (Exit a) e = absurd (cc)
  act_local h (Cast a u) e = absurd (cc)
  act_local h (InstanceOf a b u) e = absurd (cc)
  act_local h (ArrayLength a b) e = absurd (cc)
  act_local h (New a c) e = absurd (cc)
  act_local h (NewArray a b u) e = absurd (cc)
  act_local h (Filled rs u) e = absurd (cc)
  act_local h (Fill a n ns) e = absurd (cc)
  act_local h (Throw a) e = absurd (cc)
  act_local h (ArrayGet x a b c) e = absurd (cc)
  act_local h (ArrayPut x a b c) e = absurd (cc)
  act_local h (FieldGet x a b f) e = absurd (cc)
  act_local h (FieldPut x a b f) e = absurd (cc)
  act_local h (StaticGet x a f) e = absurd (cc)
  act_local h (StaticPut x a f) e = absurd (cc)
  act_local h (Invoke c ks g) e = absurd (cc)
  act_local h (Return x a) e = absurd (cc)
  act_local h ReturnVoid e = absurd (cc)
  act_local h op e = refl

  local_step : (x : At) (own : Method) → is_local x.op ≡ true → step_at image w t (Top s) own s ls (Some x) ≡ after (word_local x.op s x.next)
  local_step x own e =
      let h = here image w t own s ls x.next in
      let ready : with_ready h x.op (needs x.op) ≡ act h x.op = ap (with_ready h x.op) (needs_none x.op e) in
      ap (settled image w t (Top s) (Some x)) (ready ∙ act_local h x.op e)

  -- the step is done where the instruction stands
  code_step : (x : At) (o : Option Method) (own : Method) → o ≡ Some own → fetch image s.method.0 s.at ≡ Some x → is_local x.op ≡ true → step_code image w t (Top s) s ls o ≡ after (word_local x.op s x.next)
  code_step x None own is found e = absurd (cc)
  code_step x (Some m) own is found e = ap (step_at image w t (Top s) m s ls) found ∙ local_step x m e

  living_step : (x : At) → fetch image s.method.0 s.at ≡ Some x → is_local x.op ≡ true → step_living image w t (Top s) (level.Code s ∷ ls) ≡ after (word_local x.op s x.next)
  living_step x found e = let own = of_method image s.method.0 s.at x found in code_step x (method_at image s.method.0) own.0 own.1 found e

  one_step : (x : At) → slice_get w.threads t ≡ Some (Top s) → fetch image s.method.0 s.at ≡ Some x → is_local x.op ≡ true → step image w t ≡ after (word_local x.op s x.next)
  one_step x has found e = ap (step_of image w t) has ∙ living_step x found e

-- ---- one after another

pub local_was : (o : Option At) (s u : Frame) → local_by o s ≡ Some u → (x : At) × (o ≡ Some x) × (is_local x.op ≡ true) × (word_local x.op s x.next ≡ u)
local_was None s u e = absurd (cc)
local_was (Some x) s u e = by (is_local x.op) refl e
  where
    by : (b : Bool) → is_local x.op ≡ b → elim b [ true ↦ Some (word_local x.op s x.next) | false ↦ None ] ≡ Some u → (y : At) × (Some x ≡ Some y) × (is_local y.op ≡ true) × (word_local y.op s y.next ≡ u)
    by true is d = (x, refl, is, cc)
    by false is d = absurd (cc)

abbrev machine_of : WordMachine → List WordThread → ℕ → WordMachine
machine_of w ts n = record { threads = ts; shared = w.shared; steps = n; stop = w.stop; limits = w.limits; preallocated = w.preallocated }

module _ (image : Image) (w : WordMachine) (t : ℕ) (th : WordThread) (s : Frame) (ls : List Level) (has : slice_get w.threads t ≡ Some th) (living : th.end ≡ end.Living) (levels : th.levels ≡ level.Code s ∷ ls) where
  abbrev Put : Frame → WordThread
  Put f = record { levels = level.Code f ∷ ls; end = end.Living; object = th.object }

  is_put : th ≡ Put s
  is_put = ap (λ k. record { levels = k; end = th.end; object = th.object }) levels ∙ ap (λ (e : End). record { levels = level.Code s ∷ ls; end = e; object = th.object }) living

  none_yet : w ≡ with_top w t th s ls 0
  none_yet =
      let same : slice_set w.threads t (Put s) ≡ w.threads = set_same w.threads t (Put s) (has ∙ ap Some is_put) in
      let count : w.steps + 0 ≡ w.steps = omega arith in
      sym (ap (λ ts. machine_of w ts (w.steps + 0)) same ∙ ap (machine_of w w.threads) count)

  -- one more
  one_more : (n : ℕ) (v u : Frame) → local_here image v ≡ Some u → step image (with_top w t th v ls n) t ≡ with_top w t th u ls (suc n)
  one_more n v u is =
      let was = local_was (fetch image v.method.0 v.at) v u is in
      let before : WordMachine = with_top w t th v ls n in
      let there : slice_get before.threads t ≡ Some (Put v) = get_set w.threads t th (Put v) has in
      let done = one_step image before t v ls th.object was.0 there was.1 was.2 in
      let frame = ap (λ f. machine_of w (slice_set (slice_set w.threads t (Put v)) t (Put f) ++ []) (suc (w.steps + n))) was.3 in
      let threads = no_more (slice_set (slice_set w.threads t (Put v)) t (Put u)) ∙ set_again w.threads t (Put v) (Put u) in
      let count : suc (w.steps + n) ≡ w.steps + suc n = omega arith in
      done ∙ frame ∙ ap (λ ts. machine_of w ts (suc (w.steps + n))) threads ∙ ap (machine_of w (slice_set w.threads t (Put u))) count

  so_many : (n : ℕ) (u : Frame) → locals_here image n s ≡ Some u → steps_of image n w t ≡ with_top w t th u ls n
  so_many zero u is = let same : s ≡ u = cc in none_yet ∙ ap (λ f. with_top w t th f ls 0) same
  so_many (suc n) u is = by (locals_here image n s) refl is (so_many n)
    where
      by : (o : Option Frame) → locals_here image n s ≡ o → on_frame o (local_here image) ≡ Some u → ((v : Frame) → locals_here image n s ≡ Some v → steps_of image n w t ≡ with_top w t th v ls n) → step image (steps_of image n w t) t ≡ with_top w t th u ls (suc n)
      by None e d before = absurd (cc)
      by (Some v) e d before = ap (λ m. step image m t) (before v e) ∙ one_more n v u d

pub locals_are_steps : LocalsAreSteps
locals_are_steps image w t n th s u ls has living levels is = so_many image w t th s ls has living levels n u is
