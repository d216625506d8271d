-- The first argument of ofChars is null or an array of chars.
use Rattle.std.proofs.Common.{◌≡◌, ℕ, zero, suc, ◌<◌, Bool, true, false, List, [], ◌∷◌, map, Option, Some, None, refl, sym, ap, subst, arith}
use Rattle.std.specs.Prelude.{nat_lt, if◌then◌else◌}
use Rattle.dv_machine.specs.Frame as tagged
use Rattle.dv_machine.specs.Kind.{Kind}
use Rattle.dv_machine.specs.Kind as kind_of_tagged
use Rattle.dv_defs.specs.declared.names.Ty.{Ty}
use Rattle.dv_defs.specs.declared.names.Proto.{Proto}
use Rattle.dv_defs.specs.declared.run.Named.TheVariants as named
use Rattle.dv_defs.specs.declared.run.Native.{Native}
use Rattle.dv_defs.specs.declared.run.Native.TheVariants as native
use Rattle.dv_machine.specs.Value.{Value}
use Rattle.dv_machine.specs.Value as v
use Rattle.dv_typing.specs.declared.typing.RegState.{RegState}
use Rattle.dv_typing.specs.Demands.{Demand, args_for, demands, instance_call, ref_to}
use Rattle.dv_machine.specs.Heap.{Heap, kind_of, kind_type}
use Rattle.dv_defs.specs.Images.{Image}
use Rattle.dv_defs.specs.Op.{Invoke}
use Rattle.dv_defs.specs.Order.{fits}
use Rattle.dv_defs.specs.Parts.{Call, Suffix}
use Rattle.dv_defs.specs.Pools.{Method, is_abstract, is_constructor, is_static, method_at, parent_at}
use Rattle.dv_defs.specs.Types.{component, is_array}
use Rattle.dv_machine.specs.Accepted.{Accepted}
use Rattle.dv_machine.specs.Calls.{Landing, Lacks, Lands, chars_type, native_of, selected_from, signature, unless_abstract}
use Rattle.dv_machine.specs.Conforming.{Fits, Own, RegsConform}
use Rattle.law_machine.specs.Premises.{HoldsOf}
use Rattle.dv_machine.specs.State.{read_ref, reg_at, where_ref}
use Rattle.dv_machine.specs.WellTyped.{Typings}
use Rattle.dv_words.specs.declared.state.Frame.{Frame}
use Rattle.dv_words.specs.Heaps as words
use Rattle.dv_words.specs.Standing.{FrameStands, HeapStands, IsWord}
use Rattle.dv_words.specs.State.{WordHeap}
use Rattle.law_types.proofs.Demanded.{first_none}
use Rattle.law_machine.proofs.lemmas.Calls.Dispatched.{selection}
use Rattle.law_machine.proofs.lemmas.Readers.Arrays.{tests_go_down}
use Rattle.law_machine.proofs.lemmas.Readers.Plain.{reads_reference_to}
use Rattle.dv_words.specs.Calls.{by_object, dispatch, lacks_interface}
use Rattle.dv_words.specs.Natives.{arg}
use Rattle.dv_words.specs.Threads.{class_of_kind}
use Rattle.dv_words.specs.Local.{reg_word}
use Rattle.law_words.proofs.Registers.{is_word_at}
use Rattle.dv_mem.proofs.Alike.{kind_stands}
use Rattle.dv_call.specs.Landings.{Enters, Fails, Runs, constructs, called_in, first_of, on_landing, on_object, on_receiver, run_by}
use Rattle.dv_builtin.specs.Natives.{IsChars, TextsFit}

-- ---- arrays of chars

held : (P : ℕ → Type 0) (b : Bool) (o : ℕ) → HoldsOf P (where_ref b o) → P o
held P true o h = h
held P false o h = absurd h

no_null : (u : ℕ) → u ≡ 0 → 0 < u → ⊥
no_null u is some = omega (arith, is, some)

flat : (t : Ty) → t.dims ≡ 0 → is_array t ≡ true → ⊥
flat t none some = let same = ap (nat_lt 0) none in absurd (cc)

module _ (image : Image) (T : Typings) (acc : Accepted image T) (heap : Heap) (w : WordHeap) (stands : HeapStands w heap) where
  by_kind : (o : ℕ) (k : Kind) → kind_of heap (suc o) ≡ Some k → fits image (kind_type image k) chars_type ≡ true → IsChars w (suc o)
  by_kind o (kind_of_tagged.Array t) is e =
      let parts = acc.order.components t chars_type e refl in
      record { ty = t; kind = kind_stands w heap stands o (kind_of_tagged.Array t) is; chars = (tests_go_down image).suffix Suffix.Char (component t) (component chars_type) parts.1 refl }
  by_kind o (kind_of_tagged.Object c) is e = absurd (flat (kind_type image (kind_of_tagged.Object c)) refl (acc.order.components (kind_type image (kind_of_tagged.Object c)) chars_type e refl).0)
  by_kind o (kind_of_tagged.Str s) is e = absurd (flat (kind_type image (kind_of_tagged.Str s)) refl (acc.order.components (kind_type image (kind_of_tagged.Str s)) chars_type e refl).0)
  by_kind o (kind_of_tagged.ClassOf t) is e = absurd (flat (kind_type image (kind_of_tagged.ClassOf t)) refl (acc.order.components (kind_type image (kind_of_tagged.ClassOf t)) chars_type e refl).0)

  chars_met : (y : Value) (u : ℕ) → IsWord u y → HoldsOf (λ o. Fits image heap o chars_type) (read_ref image heap chars_type y) → 0 < u → IsChars w u
  chars_met v.Zero u is h some = absurd (no_null u is some)
  chars_met (v.Ref zero) u is h some = absurd (no_null u is some)
  chars_met (v.Ref (suc o)) u is h some =
      let f = held (λ p. Fits image heap p chars_type) _ (suc o) h in
      subst (IsChars w) (sym is) (by_kind o f.object.kind f.object.has_kind f.fits)
  chars_met y u is h some = absurd h

-- ---- the native that a call runs

record RunsOn (image : Image) (l : Landing) (n : Native) : Type 0 where
  method : Method
  lands : l ≡ Lands method
  is_native : native_of image method ≡ Some n

runs_by : (m : Method) (o : Option Native) (n : Native) → run_by m o ≡ Runs n → o ≡ Some n
runs_by m None n e = absurd (cc)
runs_by m (Some k) n e = let same : k ≡ n = cc in ap Some same

runs_on : (image : Image) (l : Landing) (n : Native) → on_landing image l ≡ Runs n → RunsOn image l n
runs_on image (Lacks x) n e = absurd (cc)
runs_on image (Lands m) n e = record { method = m; lands = refl; is_native = runs_by m (native_of image m) n e }

lands_by : (g m : Method) (b : Bool) → (if b then Lacks named.AbstractMethod else Lands g) ≡ Lands m → g ≡ m
lands_by g m true e = absurd (cc)
lands_by g m false e = cc

lands_itself : (g m : Method) → unless_abstract g ≡ Lands m → g ≡ m
lands_itself g m e = lands_by g m (is_abstract g) e

module _ (image : Image) (T : Typings) (acc : Accepted image T) (heap : Heap) where
  -- what is selected from a class isn't static
  near : (c : Option ℕ) (g m : Method) → selected_from image c g.def.name g.def.proto ≡ Lands m → (method_at image m.id ≡ Some m) × (is_static m ≡ false)
  near None g m e = absurd (cc)
  near (Some c) g m e =
      let (there, is) = selection image T acc heap c g.def.name g.def.proto m e in
      (there, is.instance)

  -- nor what a call on an object lands on
  module _ (w : WordHeap) (own g : Method) (there : method_at image g.id ≡ Some g) (instance : is_static g ≡ false) where
    itself : (m : Method) → unless_abstract g ≡ Lands m → (method_at image m.id ≡ Some m) × (is_static m ≡ false)
    itself m e = subst (λ (x : Method). (method_at image x.id ≡ Some x) × (is_static x ≡ false)) (lands_itself g m e) (there, instance)

    near_object : (o : ℕ) (m : Method) → by_object image w g o ≡ Lands m → (method_at image m.id ≡ Some m) × (is_static m ≡ false)
    near_object o m e = by (lacks_interface image w g o) e
      where
        by : (b : Bool) → (if b then Lacks named.ClassChange else selected_from image (class_of_kind image (words.kind_of w o)) g.def.name g.def.proto) ≡ Lands m → (method_at image m.id ≡ Some m) × (is_static m ≡ false)
        by true e = absurd (cc)
        by false e = near (class_of_kind image (words.kind_of w o)) g m e

    landed : (c : Call) (o : ℕ) (m : Method) → dispatch image w own c g o ≡ Lands m → (method_at image m.id ≡ Some m) × (is_static m ≡ false)
    landed Call.Static o m e = itself m e
    landed Call.Direct o m e = itself m e
    landed Call.Super o m e = near (parent_at image own.info.class.0) g m e
    landed Call.Virtual o m e = near_object o m e
    landed Call.Interface o m e = near_object o m e

    -- so it isn't ofChars
    no_static : (m : Method) → method_at image m.id ≡ Some m → is_static m ≡ false → native_of image m ≡ Some native.OfChars → ⊥
    no_static m has sort is = let signed = (acc.bodies.native m.id m native.OfChars has is).1 in absurd (cc)

    on_object_none : (c : Call) (r : ℕ) → on_object image w own c g r ≡ Runs native.OfChars → ⊥
    on_object_none c zero e = absurd (cc)
    on_object_none c (suc o) e =
        let r = runs_on image (dispatch image w own c g (suc o)) native.OfChars e in
        let l = landed c (suc o) r.method r.lands in
        no_static r.method l.0 l.1 r.is_native

    constructs_none : (b : Bool) → (if b then Fails named.AbstractMethod else Enters g) ≡ Runs native.OfChars → ⊥
    constructs_none true e = absurd (cc)
    constructs_none false e = absurd (cc)

    receiver_none : (c : Call) (r : Option ℕ) → on_receiver image w own c g r ≡ Runs native.OfChars → ⊥
    receiver_none c None e = absurd (cc)
    receiver_none c (Some r) e = by (is_constructor g) e
      where
        by : (b : Bool) → (if b then constructs g else on_object image w own c g r) ≡ Runs native.OfChars → ⊥
        by true e = constructs_none (is_abstract g) e
        by false e = on_object_none c r e

-- ---- an invoke

module _ (image : Image) (T : Typings) (acc : Accepted image T) (heap : Heap) (w : WordHeap) (stands : HeapStands w heap) (own : Own) (method caller : Method) (s : Frame) (f : tagged.Frame) (state : RegState) (frame : FrameStands s f) (conform : RegsConform image heap own f.regs state.regs) where
  -- of a static method with the parameters of ofChars
  first_chars : (ks : List ℕ) → args_for image state.regs (signature native.OfChars).proto.params ks ≡ None → 0 < arg (map (reg_word s) ks) 0 → IsChars w (arg (map (reg_word s) ks) 0)
  first_chars [] d some = absurd (cc)
  first_chars (k ∷ ks) d some =
      chars_met image T acc heap w stands (reg_at f.regs k) (reg_word s k) (is_word_at s.regs f.regs k frame.regs)
      (reads_reference_to image heap own f.regs state.regs k chars_type acc.order conform (first_none (ref_to image state.regs k chars_type) _ d).0) some

  static_chars : (c : Call) (ks : List ℕ) (g : Method) → method_at image g.id ≡ Some g → is_static g ≡ true → demands image method (Invoke c ks g) state ≡ None → on_landing image (unless_abstract g) ≡ Runs native.OfChars → 0 < arg (map (reg_word s) ks) 0 → IsChars w (arg (map (reg_word s) ks) 0)
  static_chars c ks g there static d runs =
      let r = runs_on image (unless_abstract g) native.OfChars runs in
      let same : r.method ≡ g = sym (lands_itself g r.method r.lands) in
      let is : native_of image g ≡ Some native.OfChars = subst (λ (m : Method). native_of image m ≡ Some native.OfChars) same r.is_native in
      let proto = (acc.bodies.native g.id g native.OfChars there is).0 in
      let args : args_for image state.regs g.def.proto.params ks ≡ None = subst (λ z. elim z as (λ w. Demand) [ true ↦ args_for image state.regs g.def.proto.params ks | false ↦ instance_call image method state.regs c ks g ] ≡ None) static d in
      first_chars ks (subst (λ (p : Proto). args_for image state.regs p.params ks ≡ None) proto args)

  chars_fit : (c : Call) (ks : List ℕ) (g : Method) → method_at image g.id ≡ Some g → demands image method (Invoke c ks g) state ≡ None → called_in image w caller c g (map (reg_word s) ks) ≡ Runs native.OfChars → 0 < arg (map (reg_word s) ks) 0 → IsChars w (arg (map (reg_word s) ks) 0)
  chars_fit c ks g there d runs = by (is_static g) refl runs
    where
      by : (b : Bool) → is_static g ≡ b → (if b then on_landing image (unless_abstract g) else on_receiver image w caller c g (first_of (map (reg_word s) ks))) ≡ Runs native.OfChars → 0 < arg (map (reg_word s) ks) 0 → IsChars w (arg (map (reg_word s) ks) 0)
      by true static runs = static_chars c ks g there static d runs
      by false instance runs = absurd (receiver_none image T acc heap w caller g there instance c (first_of (map (reg_word s) ks)) runs)

  pub texts_fit : (c : Call) (ks : List ℕ) (g : Method) → method_at image g.id ≡ Some g → demands image method (Invoke c ks g) state ≡ None → (n : Native) → called_in image w caller c g (map (reg_word s) ks) ≡ Runs n → TextsFit w n (map (reg_word s) ks)
  texts_fit c ks g there d native.OfChars runs = chars_fit c ks g there d runs
  texts_fit c ks g there d n runs = tt
