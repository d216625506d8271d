-- What operations take, in words that stand for a well-typed state of an accepted image.
use Rattle.std.proofs.Common.{◌≡◌, ◌⊎◌, inl, inr, ℕ, zero, suc, pred, ◌+◌, ◌<◌, ◌≤◌, [], ◌∷◌, length, Bool, true, false, Option, Some, None, refl, sym, ap, ◌∙◌, subst, arith}
use Rattle.std.specs.Prelude.{slice_index_or, IsSome}
use Rattle.std.proofs.lemmas.Bool.{and_parts, cases_lt, eqb-true, not-true}
use Rattle.std.proofs.lemmas.List.{get_or_past}
use Rattle.std.proofs.lemmas.Option.{same_Some}
use Rattle.dv_defs.specs.declared.faults.Rule.TheVariants as rule
use Rattle.dv_machine.specs.Frame as tagged
use Rattle.dv_machine.specs.Kind.{Kind}
use Rattle.dv_machine.specs.Kind as kind_of_tagged
use Rattle.dv_defs.specs.declared.names.Ty.{Ty}
use Rattle.dv_machine.specs.Value.{Value}
use Rattle.dv_machine.specs.Value as v
use Rattle.dv_typing.specs.declared.typing.RegState.{RegState}
use Rattle.dv_typing.specs.declared.typing.RegType.{RegType}
use Rattle.dv_typing.specs.declared.typing.RegType.TheVariants as ty
use Rattle.dv_typing.specs.Demands.{any_type, array, demand, demands, int, is_assignable, is_fill_type, is_own_field, is_ref, put_receiver, ref, ref_to, value_for}
use Rattle.dv_machine.specs.Heap.{Heap, cells_at, class_cells, kind_of}
use Rattle.dv_defs.specs.Images.{Image}
use Rattle.dv_defs.specs.Op.{Op, IntDivide, LongDivide, ArrayLength, ArrayGet, ArrayPut, Code, Fill, Filled, FieldGet, FieldPut, StaticGet, StaticPut}
use Rattle.dv_defs.specs.Order.{sub}
use Rattle.dv_defs.specs.Parts.{Suffix}
use Rattle.dv_defs.specs.Pools.{Field, Method, class_type, field_at, is_interface, is_static_field}
use Rattle.dv_typing.specs.RegTypes.{Types, reg_types, type_at}
use Rattle.dv_typing.specs.Statics.{At, fetch, fits_instance_field, fits_static_field, is_of_suffix, op_rules}
use Rattle.dv_defs.specs.Types.{words_of}
use Rattle.dv_machine.specs.Accepted.{Accepted}
use Rattle.dv_machine.specs.Conforming.{Conforms, Fits, RegsConform}
use Rattle.law_machine.specs.Premises.{HoldsOf}
use Rattle.dv_machine.specs.State.{read_array, read_ref, reg_at, where_ref}
use Rattle.dv_machine.specs.WellTyped.{HeapFine, Typings, own_of}
use Rattle.dv_words.specs.declared.state.Kind.TheVariants as kind
use Rattle.dv_words.specs.Heaps as words
use Rattle.dv_words.specs.Heaps.{words_of_object}
use Rattle.dv_words.specs.Standing.{FrameStands, HeapStands, IsWord}
use Rattle.dv_words.specs.State.{WordHeap}
use Rattle.law_words.specs.Laws.{OperandsFit}
use Rattle.dv_words.specs.Local.{reg_word}
use Rattle.dv_words.specs.Mem.{WordHere}
use Rattle.law_flow.proofs.MethodCode.{code_is}
use Rattle.law_types.proofs.Demanded.{demanded, first_none, only_rule}
use Rattle.law_types.proofs.Facts.{no}
use Rattle.law_machine.specs.Reading.{IsArrayOrNull}
use Rattle.law_machine.proofs.lemmas.Calls.Resolved.{IsNamed, is_named}
use Rattle.law_machine.proofs.lemmas.Heap.Cells.{AreCells, IsCell, reg_cells, reg_count}
use Rattle.law_machine.proofs.lemmas.HeapSteps.Places.{HasField, class_field, field_place, object_field}
use Rattle.law_machine.proofs.lemmas.Readers.Arrays.{reads_array, tests_go_down}
use Rattle.law_machine.proofs.lemmas.Readers.Plain.{reads_reference_to}
use Rattle.dv_mem.specs.Laws.{OperandsStand}
use Rattle.dv_mem.specs.Operands.{AreOperands, HasStaticWords, IsArray, IsNullOrArray, IsNullOrOwner, IsOwner}
use Rattle.dv_mem.proofs.Alike.{count_stands, is_word_at, kind_stands, size_stands, static_stands}
use Rattle.dv_mem.proofs.Divided.{IsDivided, is_divided}
use Rattle.dv_mem.proofs.Writing.{words_some}

-- what was read passed its test
held : (P : ℕ → Type 0) (b : Bool) (o : ℕ) → HoldsOf P (where_ref b o) → P o
held P true o h = h
held P false o h = absurd h

-- a reference's word is no null's
no_null : (u : ℕ) → u ≡ 0 → 0 < u → ⊥
no_null u is some = omega (arith, is, some)

-- ---- the place of a field

cell_at : (ts : Types) (j : ℕ) → AreCells ts → j < length ts → IsCell (type_at ts j)
cell_at [] j are l = absurd (omega (arith, l))
cell_at (t ∷ ts) zero are l = are.0
cell_at (t ∷ ts) (suc j) are l = cell_at ts j are.1 (omega (arith, l))

-- cells that have a field's types are there
slot_within : (ts : Types) (slot : ℕ) (t : Ty) → ((j : ℕ) → j < words_of t → type_at ts (slot + j) ≡ type_at (reg_types t) j) → slot + words_of t ≤ length ts
slot_within ts slot t same =
    let some : 0 < words_of t = words_some t in
    let last : pred (words_of t) < words_of t = omega (arith, some) in
    let cell : IsCell (type_at (reg_types t) (pred (words_of t))) = cell_at (reg_types t) (pred (words_of t)) (reg_cells t) (omega (arith, last, reg_count t)) in
    let there = subst IsCell (sym (same (pred (words_of t)) last)) cell in
    let l : slot + pred (words_of t) < length ts = inside (slot + pred (words_of t)) there (cases_lt (slot + pred (words_of t)) (length ts)) in
    omega (arith, some, l)
  where
    inside : (k : ℕ) → IsCell (type_at ts k) → (k < length ts) ⊎ (length ts ≤ k) → k < length ts
    inside k cell (inl l) = l
    inside k cell (inr g) = absurd (subst IsCell (get_or_past ts k ty.Conflict g) cell)

module _ (image : Image) (heap : Heap) (w : WordHeap) (stands : HeapStands w heap) where
  -- ---- arrays

  array_met : (good : Ty → Bool) (t : RegType) (y : Value) (u : ℕ) → IsWord u y → HoldsOf (IsArrayOrNull image heap good t) (read_array good heap y) → IsNullOrArray good w u
  array_met good t v.Zero u is h some = absurd (no_null u is some)
  array_met good t (v.Ref zero) u is h some = absurd (no_null u is some)
  array_met good t (v.Ref (suc o)) u is h some =
      let p = held (IsArrayOrNull image heap good t) _ (suc o) h in
      subst (IsArray good w) (sym is) (record { ty = p.type; kind = kind_stands w heap stands o (kind_of_tagged.Array p.type) p.has_kind; passes = p.takes })
  array_met good t y u is h some = absurd h

  -- ---- fields

  module _ (T : Typings) (acc : Accepted image T) (fine : HeapFine image heap) (n : ℕ) (x : Field) (has : field_at image n ≡ Some x) where
    -- a static field has its words
    static_met : is_static_field x ≡ true → HasStaticWords w x
    static_met static =
        let own : field_at image x.id ≡ Some x = subst (λ (k : ℕ). field_at image k ≡ Some x) (sym (acc.finds.fields n x has)) has in
        let cells : length (slice_index_or heap.statics x.id []) ≡ length (reg_types x.def.ty) = (fine.statics x.id x own static).count in
        let same : length (slice_index_or w.statics x.id []) ≡ length (slice_index_or heap.statics x.id []) = static_stands w heap stands x.id in
        omega (arith, cells, same, reg_count x.def.ty)

    module _ (placed : is_static_field x ≡ false) (concrete : is_interface image x.info.class.0 ≡ false) where
      owner_met : (o : ℕ) (k : Kind) → kind_of heap (suc o) ≡ Some k → HasField image T acc n x has placed concrete k → IsOwner x w (suc o)
      owner_met o k is h =
          let object : kind_of heap (suc o) ≡ Some (kind_of_tagged.Object (record { 0 = h.class })) = is ∙ ap Some h.is_object in
          let there : words.kind_of w (suc o) ≡ Some (kind.Object (record { 0 = h.class })) = kind_stands w heap stands o (kind_of_tagged.Object (record { 0 = h.class })) object in
          let cells : length (cells_at heap (suc o)) ≡ length (class_cells image h.class) = (fine.objects o (kind_of_tagged.Object (record { 0 = h.class })) object).count in
          let same : length (words_of_object w (suc o)) ≡ length (cells_at heap (suc o)) = size_stands w heap stands o (record { 0 = h.class }) object in
          let within = slot_within (class_cells image h.class) x.info.slot x.def.ty (field_place image T acc n x has placed concrete k h) in
          record { exists = subst IsSome (sym there) refl; no_string = λ e. let differs = sym there ∙ e in absurd (cc); within = omega (arith, within, cells, same) }

      -- a reference to the class that declares the field
      reference_met : (y : Value) (u : ℕ) → IsWord u y → HoldsOf (λ o. Fits image heap o (class_type image x.info.class.0)) (read_ref image heap (class_type image x.info.class.0) y) → IsNullOrOwner x w u
      reference_met v.Zero u is h some = absurd (no_null u is some)
      reference_met (v.Ref zero) u is h some = absurd (no_null u is some)
      reference_met (v.Ref (suc o)) u is h some =
          let f = held (λ p. Fits image heap p (class_type image x.info.class.0)) _ (suc o) h in
          subst (IsOwner x w) (sym is) (owner_met o f.object.kind f.object.has_kind (object_field image T acc n x has placed concrete f.object.kind f.object.proper f.fits))
      reference_met y u is h some = absurd h

      -- or the receiver of a constructor, which puts a field of its own class
      module _ (own : Method) (this : Option ℕ) (ts : Types) (b : ℕ) where
        not_ref : type_at ts b ≡ ty.Conflict → ref_to image ts b (class_type image x.info.class.0) ≡ None → ⊥
        not_ref q d = no (subst (λ (z : RegType). ◌≡◌ {A = Bool} (is_ref z) true) q (demanded _ _ (first_none (ref ts b) (demand (is_assignable image (type_at ts b) (class_type image x.info.class.0)) (rule.V 5)) d).0))

        receiver_met : (y : Value) (t : RegType) (u : ℕ) → type_at ts b ≡ t → Conforms image heap (own_of image this own) y t → put_receiver image own ts b x t ≡ None → IsWord u y → (ref_to image ts b (class_type image x.info.class.0) ≡ None → HoldsOf (λ o. Fits image heap o (class_type image x.info.class.0)) (read_ref image heap (class_type image x.info.class.0) y)) → IsNullOrOwner x w u
        receiver_met (v.UninitThis zero) ty.UninitThis u q c d is h some = absurd (no_null u is some)
        receiver_met (v.UninitThis (suc o)) ty.UninitThis u q c d is h some =
            let same : x.info.class.0 ≡ own.info.class.0 = eqb-true x.info.class.0 own.info.class.0 (demanded (is_own_field own x) _ d) in
            let under : sub image (class_type image c.class) (class_type image x.info.class.0) ≡ true = subst (λ (k : ℕ). sub image (class_type image c.class) (class_type image k) ≡ true) (sym same) c.under in
            subst (IsOwner x w) (sym is) (owner_met o (kind_of_tagged.Object (record { 0 = c.class })) c.has_kind (class_field image T acc n x has placed concrete c.class (acc.order.sub_instance _ _ under)))
        receiver_met (v.UninitThis o) ty.Conflict u q c d is h some = absurd (not_ref q d)
        receiver_met (v.UninitThis o) t u q c d is h some = absurd c
        receiver_met y ty.UninitThis u q c d is h some = absurd c
        receiver_met y t u q c d is h some = reference_met y u is (h d) some

-- ---- each operation

module _ (image : Image) (T : Typings) (acc : Accepted image T) (heap : Heap) (fine : HeapFine image heap) (this : Option ℕ) (f : tagged.Frame) (x : At) (found : fetch image f.method.0 f.at ≡ Some x) (code : Code) (s : RegState) (conform : RegsConform image heap (own_of image this code.method) f.regs s.regs) (w : WordHere) (frame : FrameStands w.frame f) (stands : HeapStands w.heap heap) where
  is_at : (k : ℕ) → IsWord (reg_word w.frame k) (reg_at f.regs k)
  is_at k = is_word_at w.frame.regs f.regs k frame.regs

  an_array : (good : Ty → Bool) (b : ℕ) → HoldsOf (IsArrayOrNull image heap good (type_at s.regs b)) (read_array good heap (reg_at f.regs b)) → IsNullOrArray good w.heap (reg_word w.frame b)
  an_array good b h = array_met image heap w.heap stands good (type_at s.regs b) (reg_at f.regs b) (reg_word w.frame b) (is_at b) h

  refers : (b : ℕ) (t : Ty) → ref_to image s.regs b t ≡ None → HoldsOf (λ o. Fits image heap o t) (read_ref image heap t (reg_at f.regs b))
  refers b t d = reads_reference_to image heap (own_of image this code.method) f.regs s.regs b t acc.order conform d

  instance_field : (r : Option Ty) (q : Suffix) (y : Field) → op_rules image code r (FieldGet q 0 0 y) ≡ [] → (is_static_field y ≡ false) × (is_interface image y.info.class.0 ≡ false)
  instance_field r q y rules =
      let fits = and_parts _ _ (only_rule (fits_instance_field image q y) (rule.S 13) rules) in
      (not-true (is_static_field y) (and_parts _ _ fits.0).0, not-true (is_interface image y.info.class.0) fits.1)

  static_field : (r : Option Ty) (q : Suffix) (y : Field) → op_rules image code r (StaticGet q 0 y) ≡ [] → is_static_field y ≡ true
  static_field r q y rules = (and_parts (is_static_field y) (is_of_suffix q y.def.ty) (only_rule (fits_static_field q y) (rule.S 13) rules)).0

  met : (r : Option Ty) (op : Op) → x.op ≡ op → demands image code.method op s ≡ None → op_rules image code r op ≡ [] → OperandsFit image op → AreOperands w op
  met r (IntDivide o a b c) e d rules l = (subst IsDivided e (is_divided image f.method.0 f.at x found), l)
  met r (LongDivide o a b c) e d rules l = subst IsDivided e (is_divided image f.method.0 f.at x found)
  met r (ArrayLength a b) e d rules l = an_array any_type b (reads_array image heap (own_of image this code.method) f.regs s.regs b any_type acc.order (tests_go_down image).any conform d)
  met r (Filled rs t) e d rules l = count_stands w.heap heap stands
  met r (Fill a width ns) e d rules l = an_array (is_fill_type width) a (reads_array image heap (own_of image this code.method) f.regs s.regs a (is_fill_type width) acc.order ((tests_go_down image).fill width) conform d)
  met r (ArrayGet q a b c) e d rules l = an_array (is_of_suffix q) b (reads_array image heap (own_of image this code.method) f.regs s.regs b (is_of_suffix q) acc.order ((tests_go_down image).suffix q) conform (first_none (array s.regs b (is_of_suffix q)) (int s.regs c) d).0)
  met r (ArrayPut q a b c) e d rules l = an_array (is_of_suffix q) b (reads_array image heap (own_of image this code.method) f.regs s.regs b (is_of_suffix q) acc.order ((tests_go_down image).suffix q) conform (first_none (array s.regs b (is_of_suffix q)) _ d).0)
  met r (FieldGet q a b y) e d rules l =
      let named = subst (IsNamed image) e (is_named image f.method.0 f.at x found) in
      let sort = instance_field r q y rules in
      reference_met image heap w.heap stands T acc fine named.0 y named.1 sort.0 sort.1 (reg_at f.regs b) (reg_word w.frame b) (is_at b) (refers b (class_type image y.info.class.0) d)
  met r (FieldPut q a b y) e d rules l =
      let named = subst (IsNamed image) e (is_named image f.method.0 f.at x found) in
      let sort = instance_field r q y rules in
      receiver_met image heap w.heap stands T acc fine named.0 y named.1 sort.0 sort.1 code.method this s.regs b (reg_at f.regs b) (type_at s.regs b) (reg_word w.frame b) refl (conform b)
      (first_none (put_receiver image code.method s.regs b y (type_at s.regs b)) (value_for image s.regs a y.def.ty) d).0 (is_at b) (refers b (class_type image y.info.class.0))
  met r (StaticGet q a y) e d rules l =
      let named = subst (IsNamed image) e (is_named image f.method.0 f.at x found) in
      static_met image heap w.heap stands T acc fine named.0 y named.1 (static_field r q y rules)
  met r (StaticPut q a y) e d rules l =
      let named = subst (IsNamed image) e (is_named image f.method.0 f.at x found) in
      static_met image heap w.heap stands T acc fine named.0 y named.1 (static_field r q y rules)
  met r op e d rules l = tt

pub operands_stand : OperandsStand
operands_stand image T heap this f x w acc fine placed found fit frame stands =
    let e = acc.typed.each f.method.0 f.at placed.state placed.has_state in
    let at : e.1 ≡ x = same_Some e.1 x (sym e.3 ∙ found) in
    let own : placed.method ≡ e.0.method = same_Some placed.method e.0.method (sym placed.has_method ∙ (code_is image f.method.0 e.0 e.2).method) in
    let conform = subst (λ (m : Method). RegsConform image heap (own_of image this m) f.regs placed.state.regs) own placed.conform.good.regs in
    let demanded = subst (λ (y : At). demands image e.0.method y.op placed.state ≡ None) at e.4.ok in
    let rules = subst (λ (y : At). op_rules image e.0 e.4.reference y.op ≡ []) at e.4.rules in
    met image T acc heap fine this f x found e.0 placed.state conform w frame stands e.4.reference x.op refl demanded rules fit
