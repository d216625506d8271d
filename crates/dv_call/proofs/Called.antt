-- What calls see, and what they come to.
use Rattle.std.proofs.Common.{◌≡◌, ◌∙◌, ◌∷◌, List, [], ℕ, zero, suc, Bool, true, false, Option, Some, None, refl, sym, ap, ◌<◌, length, take, map, arith}
use Rattle.dv_defs.specs.Images.{Image}
use Rattle.dv_defs.specs.declared.code.Regs.{Regs}
use Rattle.dv_defs.specs.Op.{count_up, named_registers}
use Rattle.dv_words.specs.Words.{word_at}
use Rattle.dv_defs.specs.Parts.{Call}
use Rattle.dv_defs.specs.Pools.{Method, is_abstract, is_constructor, is_native as has_flag, is_static, name_at}
use Rattle.std.specs.Prelude.{if◌then◌else◌, slice_index}
use Rattle.dv_defs.specs.declared.run.Named.TheVariants as named
use Rattle.dv_defs.specs.declared.run.Native.{Native}
use Rattle.dv_machine.specs.State.{Did, Throws}
use Rattle.dv_machine.specs.Calls.{Landing, Lacks, Lands, all_natives, native_among, native_of, unless_abstract}
use Rattle.dv_words.specs.declared.state.Level.{Level}
use Rattle.dv_words.specs.Stacks.{arg_words, first, top_regs}
use Rattle.dv_words.specs.State.{WordHeap, WordStack}
use Rattle.dv_words.specs.Answering.{IsStackOf}
use Rattle.dv_words.specs.Calls as steps
use Rattle.dv_words.specs.Calls.{dispatch}
use Rattle.dv_words.specs.Local.{reg_word}
use Rattle.dv_words.specs.Steps.{At, Left}
use Rattle.dv_call.specs.Landings.{InvokesLand, IsSeenByCalls, Landed, Enters, Fails, called, called_in, is_native, runs_native, constructs, done, on_landing, on_object, on_receiver, first_of, run_by}

-- what a call comes to, by what it sees
pub from_seen : (image : Image) (heap : WordHeap) (stack : WordStack) (h : At) (c : Call) (g : Method) (ws : List ℕ) → IsSeenByCalls image heap stack h → called_in image heap h.own c g ws ≡ called h c g ws
from_seen image heap stack h c g ws s =
    ap (λ (i : Image). called_in i heap h.own c g ws) (sym s.same_image) ∙ ap (λ (k : WordHeap). called_in h.image k h.own c g ws) (sym s.same_heap)

-- ---- an invoke does what it comes to

module _ (h : At) (ws : List ℕ) where
  by_test : (b : Bool) (p q : Did Left) (x y : Landed) → p ≡ done h ws x → q ≡ done h ws y → (if b then p else q) ≡ done h ws (if b then x else y)
  by_test true p q x y e f = e
  by_test false p q x y e f = f

  by_native : (m : Method) (n : Option Native) → steps.landed_on h m ws n ≡ done h ws (run_by m n)
  by_native m None = refl
  by_native m (Some n) = refl

  lands : (l : Landing) → steps.landed h l ws ≡ done h ws (on_landing h.image l)
  lands (Lacks n) = refl
  lands (Lands m) = by_native m (native_of h.image m)

  constructing : (g : Method) → steps.construct h g ws ≡ done h ws (constructs g)
  constructing g = by_test (is_abstract g) (Throws named.AbstractMethod) (steps.enter h g ws) (Fails named.AbstractMethod) (Enters g) refl refl

  on_objects : (c : Call) (g : Method) (r : ℕ) → steps.call_instance h c g ws r ≡ done h ws (on_object h.image h.shared.heap h.own c g r)
  on_objects c g zero = refl
  on_objects c g (suc o) = lands (dispatch h.image h.shared.heap h.own c g (suc o))

on_receivers : (h : At) (c : Call) (g : Method) (ws : List ℕ) → steps.with_receiver h c g ws ≡ done h ws (on_receiver h.image h.shared.heap h.own c g (first_of ws))
on_receivers h c g [] = refl
on_receivers h c g (r ∷ ws) =
    by_test h (r ∷ ws) (is_constructor g) (steps.construct h g (r ∷ ws)) (steps.call_instance h c g (r ∷ ws) r) (constructs g) (on_object h.image h.shared.heap h.own c g r) (constructing h (r ∷ ws) g) (on_objects h (r ∷ ws) c g r)

pub invokes_land : InvokesLand
invokes_land h c g ws =
    by_test h ws (is_static g) (steps.landed h (unless_abstract g) ws) (steps.with_receiver h c g ws) (on_landing h.image (unless_abstract g)) (on_receiver h.image h.shared.heap h.own c g (first_of ws)) (lands h ws (unless_abstract g)) (on_receivers h c g ws)

-- ---- the first argument word

by_range : (ws first : List ℕ) (count : ℕ) (b : Bool) → 0 < count → 0 < length first → first_of (map (word_at ws) (elim b [ true ↦ count_up (slice_index first 0) count | false ↦ take count first ])) ≡ Some (word_at ws (slice_index first 0))
by_range ws first zero b some have = absurd (omega (arith, some))
by_range ws first (suc n) true some have = refl
by_range ws [] (suc n) false some have = absurd (omega (arith, have))
by_range ws (x ∷ xs) (suc n) false some have = refl

pub first_word : (ws : List ℕ) (r : Regs) → 0 < r.count → length r.first ≡ 5 → first_of (map (word_at ws) (named_registers r)) ≡ Some (word_at ws (slice_index r.first 0))
first_word ws r some five = by_range ws r.first r.count r.range some (omega (arith, five))

-- ---- natives

abbrev where_native : Bool → Option Native → Option Native
where_native b n = elim b [ true ↦ n | false ↦ None ]

pub native_found : (image : Image) (m : Method) (n : Option Native) (class name : List ℕ) → has_flag m ≡ true → class ≡ name_at image m.info.class.0 → name ≡ m.def.name → n ≡ native_among all_natives class name → n ≡ native_of image m
native_found image m n class name flag same_class same_name is =
    is ∙
    (ap (λ (k : List ℕ). native_among all_natives k name) same_class ∙
    (ap (native_among all_natives (name_at image m.info.class.0)) same_name ∙
    sym (ap (λ (b : Bool). where_native b (native_among all_natives (name_at image m.info.class.0) m.def.name)) flag)))

-- ---- invokes of what stands in registers

module _ (stack : WordStack) (h : At) (c : Call) (regs : Regs) (g : Method) (is : IsStackOf stack h) where
  args_are : arg_words stack regs ≡ map (reg_word h.frame) (named_registers regs)
  args_are = ap (λ (ls : List Level). map (word_at (top_regs ls)) (named_registers regs)) is.levels

  -- an invoke does what its call comes to
  pub invoke_is : (x : Landed) → called h c g (arg_words stack regs) ≡ x → steps.invoke h c (named_registers regs) g ≡ done h (arg_words stack regs) x
  invoke_is x e = ap (steps.invoked h c g) (sym args_are) ∙ (invokes_land h c g (arg_words stack regs) ∙ ap (done h (arg_words stack regs)) e)

  -- and runs a native where that does
  pub runs_it : (x : Landed) → called h c g (arg_words stack regs) ≡ x → runs_native h c (named_registers regs) g ≡ is_native x
  runs_it x e = ap (λ (ws : List ℕ). is_native (called h c g ws)) (sym args_are) ∙ ap is_native e
