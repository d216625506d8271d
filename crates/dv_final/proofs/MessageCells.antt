-- The message of an exception is told by the words: its cell holds null or a reference to a String.
use Rattle.std.proofs.Common.{◌≡◌, ◌+◌, ◌<◌, ◌++◌, ◌∙◌, ℕ, zero, suc, true, Option, Some, refl, sym, ap, subst, arith}
use Rattle.std.specs.Prelude.{codes, if◌then◌else◌, is_some, option_map}
use Rattle.dv_machine.specs.Kind.{Kind}
use Rattle.dv_machine.specs.Kind as kind
use Rattle.dv_defs.specs.declared.names.Ty.{Ty}
use Rattle.dv_machine.specs.Value.{Value}
use Rattle.dv_machine.specs.Value as v
use Rattle.dv_typing.specs.declared.typing.RegType.TheVariants as ty
use Rattle.dv_machine.specs.Heap as tagged
use Rattle.dv_machine.specs.Heap.{Heap, cell_at, class_cells, kind_type}
use Rattle.dv_defs.specs.Images.{Image}
use Rattle.dv_defs.specs.Names.{string_name}
use Rattle.dv_defs.specs.Order.{fits}
use Rattle.dv_typing.specs.RegTypes.{reg_types, type_at}
use Rattle.dv_defs.specs.Texts.{utf8}
use Rattle.dv_defs.specs.Types.{of_class, words_of}
use Rattle.dv_machine.specs.Accepted.{Accepted}
use Rattle.dv_machine.specs.Conforming.{Conforms}
use Rattle.dv_machine.specs.Final as machine
use Rattle.dv_machine.specs.Unwinding.{throwable_slot}
use Rattle.dv_machine.specs.WellTyped.{HeapFine, IsThrowable, Typings, nobody}
use Rattle.law_machine.proofs.lemmas.HeapSteps.Places.{HasField, field_place, object_field}
use Rattle.law_linked.specs.Laws.{HasMessage}
use Rattle.dv_words.specs.declared.state.Kind.{Kind as WordKind}
use Rattle.dv_words.specs.Erasure.{erased_kind}
use Rattle.dv_words.specs.Heaps.{word_in}
use Rattle.dv_words.specs.Standing.{HeapStands, IsWord}
use Rattle.dv_words.specs.State.{WordHeap}
use Rattle.law_words.specs.Laws.{IsPlain}
use Rattle.law_words.proofs.NativeSteps.{text_is}
use Rattle.law_words.proofs.Objects.{is_word_in, kind_is}
use Rattle.dv_final.specs.Final.{message, word_there}

module _ (image : Image) (T : Typings) (acc : Accepted image T) (has : HasMessage image) (w : WordHeap) (h : Heap) (stands : HeapStands w h) (fine : HeapFine image h) where
  abbrev slot : ℕ
  slot = throwable_slot image (codes "message")

  abbrev Field : Kind → Type 0
  Field k = HasField image T acc has.id has.field has.at has.placed has.concrete k

  -- what is an instance of Throwable has its fields
  has_field : (o : ℕ) (is : IsThrowable image h o) → Field is.object.kind
  has_field o is =
      object_field image T acc has.id has.field has.at has.placed has.concrete is.object.kind is.object.proper
      (subst (λ (t : Ty). fits image (kind_type image is.object.kind) t ≡ true) (sym has.class) is.fits)

  -- so the cell is of the field's type
  cell_type : (k : Kind) (own : Field k) → type_at (class_cells image own.class) slot ≡ ty.Class (of_class string_name)
  cell_type k own =
      let first : has.field.info.slot ≡ has.field.info.slot + 0 = omega arith in
      let some : 0 < words_of has.field.def.ty = subst (λ (t : Ty). 0 < words_of t) (sym has.ty) (omega arith) in
      ap (type_at (class_cells image own.class)) (has.slot ∙ first) ∙
      (field_place image T acc has.id has.field has.at has.placed has.concrete k own 0 some ∙ ap (λ (t : Ty). type_at (reg_types t) 0) has.ty)

  cell_fits : (o : ℕ) (k : Kind) (own : Field k) → tagged.kind_of h (suc o) ≡ Some k → Conforms image h nobody (cell_at h (suc o) slot) (ty.Class (of_class string_name))
  cell_fits o k own there =
      let object : Kind = kind.Object (record { 0 = own.class }) in
      let cells = fine.objects o object (there ∙ ap Some own.is_object) in
      subst (Conforms image h nobody (cell_at h (suc o) slot)) (cell_type k own) (cells.each slot)

  is_plain : (o : ℕ) (k : Kind) (own : Field k) → tagged.kind_of h (suc o) ≡ Some k → IsPlain (tagged.kind_of h (suc o))
  is_plain o k own there = let same = there ∙ ap Some own.is_object in subst IsPlain (sym same) tt

  by_cell : (o : ℕ) (x : Value) → cell_at h (suc o) slot ≡ x → Conforms image h nobody x (ty.Class (of_class string_name)) → IsWord (word_there w (suc o) slot) x
      → message image w (suc o) ≡ machine.message image h (suc o)
  by_cell o v.Zero is fits word = rw (word, is) refl
  by_cell o (v.Ref zero) is fits word = rw (word, is) refl
  by_cell o (v.Ref (suc s)) is fits word = rw (word, is) (ap (λ us. codes ": " ++ utf8 us) (text_is w h (suc s) stands))
  by_cell o v.Undef is fits word = absurd fits
  by_cell o (v.Num n) is fits word = absurd fits
  by_cell o (v.Lo n) is fits word = absurd fits
  by_cell o (v.Hi n) is fits word = absurd fits
  by_cell o (v.Uninit a p) is fits word = absurd fits
  by_cell o (v.UninitThis p) is fits word = absurd fits

  is_there : (o : ℕ) (k : Kind) → tagged.kind_of h (suc o) ≡ Some k → word_there w (suc o) slot ≡ word_in w (suc o) slot
  is_there o k there =
      ap (λ (q : Option WordKind). if is_some q then word_in w (suc o) slot else 0) (kind_is w h (suc o) stands ∙ ap (option_map erased_kind) there)

  pub message_is : (o : ℕ) → IsThrowable image h o → message image w o ≡ machine.message image h o
  message_is zero is = let none = is.object.has_kind in absurd (cc)
  message_is (suc o) is =
      let own = has_field (suc o) is in
      let there = is.object.has_kind in
      by_cell o (cell_at h (suc o) slot) refl (cell_fits o is.object.kind own there)
      (subst (λ u. IsWord u (cell_at h (suc o) slot)) (sym (is_there o is.object.kind there)) (is_word_in w h o slot stands (is_plain o is.object.kind own there)))
