-- The heap in which a run begins is in order.
use Rattle.std.proofs.Common.{◌≡◌, ◌⊎◌, inl, inr, ℕ, zero, suc, List, [], ◌∷◌, Bool, true, false, not, Option, Some, None, refl, sym, ap, ◌∙◌, subst, arith}
use Rattle.std.specs.Option.{unwrap_or}
use Rattle.std.specs.Prelude.{slice_index_or, bytes_eq, codes, nat_eq, if◌then◌else◌}
use Rattle.std.proofs.lemmas.Bool.{and_parts, or_cases, eqb-true}
use Rattle.std.proofs.lemmas.List.Elements.{All-nil}
use Rattle.dv_defs.specs.declared.names.Base.{Base}
use Rattle.dv_defs.specs.declared.names.Base.TheVariants as base
use Rattle.dv_defs.specs.declared.names.Ty.{Ty}
use Rattle.dv_defs.specs.Images.{Image}
use Rattle.dv_defs.specs.declared.image.FieldInfo.{FieldInfo}
use Rattle.dv_defs.specs.declared.class.Init.{Init}
use Rattle.dv_defs.specs.declared.class.Init.TheVariants as init
use Rattle.dv_defs.specs.declared.flags.Flag.TheVariants as flag
use Rattle.dv_machine.specs.Value as v
use Rattle.dv_defs.specs.declared.run.Limits.{Limits}
use Rattle.dv_machine.specs.Kind as kind
use Rattle.dv_defs.specs.Flags.{has_flag}
use Rattle.dv_defs.specs.Field.{may_stand}
use Rattle.dv_defs.specs.Names.{object_name, string_name, thread_name, out_of_memory_name, stack_overflow_name, stream_name, system_name}
use Rattle.dv_defs.specs.Types.{of_class, is_reference, is_class, base_is_named, component}
use Rattle.dv_defs.specs.Pools.{Method, Field, field_at, is_static_field, name_at}
use Rattle.dv_defs.specs.Order.{fits}
use Rattle.dv_typing.specs.RegTypes.{type_at, reg_types}
use Rattle.dv_machine.specs.Heap.{Heap, Got, kind_of, class_cells, fresh_cells, newest, intern, with_static}
use Rattle.dv_machine.specs.Unwinding.{number_named}
use Rattle.dv_machine.specs.Opening.{made, object_made, first_cells, field_cells, string_of, interned_here, with_string, with_strings, is_out, with_out, empty_heap, takes_array, array_made, counted_from, main_heap, with_out_of_memory, with_stack_overflow, preallocated_on, opening_heap, with_out_of, with_string_of, cells_of}
use Rattle.dv_machine.specs.Conforming.{IsOf, Fits, Conforms, is_string_or_class}
use Rattle.dv_machine.specs.WellTyped.{Typings, nobody, element_types, CellsFit, HeapFine, PreallocatedFine}
use Rattle.dv_machine.specs.Accepted.{Accepted, IsNamed}
use Rattle.law_machine.specs.Premises.{KeepsKinds}
use Rattle.law_machine.specs.StepLaws.{IsAdded}
use Rattle.law_types.proofs.Facts.{no, nothing, plus_zero}
use Rattle.law_machine.proofs.lemmas.Heap.Cells.{fresh_fit, class_are_cells, array_length, fit_grown, fit_same}
use Rattle.law_machine.proofs.lemmas.Heap.Added.{new_kind, new_cells, is_added, bare_fits}
use Rattle.law_machine.proofs.lemmas.Heap.Interned.{string_is_interned}
use Rattle.law_machine.proofs.lemmas.Heap.Stored.{static_store_keeps}
use Rattle.law_types.proofs.Walks.{named_is}
use Rattle.law_machine.proofs.lemmas.Opening.Cells.{first_fit, field_within, cells_of_field, field_cells_at}
use Rattle.law_types.proofs.Equal.{names_are}

-- ---- objects of boot classes

-- a type's own objects fit it
pub same_fits : (image : Image) (T : Typings) → Accepted image T → (t : Ty) → is_reference t ≡ true → fits image t t ≡ true
same_fits image T acc t r = acc.order.instance_fits t t r (acc.order.sub_instance t t (acc.order.same t))

pub named_of : (image : Image) (T : Typings) → Accepted image T → (heap : Heap) (o : ℕ) (name : List ℕ) → IsNamed image name → not (is_string_or_class name) ≡ true → kind_of heap o ≡ Some (kind.Object (record { 0 = number_named image name })) → IsOf image heap o (of_class name)
named_of image T acc heap o name n p e = record {
  object = record { kind = kind.Object (record { 0 = number_named image name }); has_kind = e; proper = subst (λ (x : List ℕ). not (is_string_or_class x) ≡ true) (sym own) p };
  fits = subst (λ (x : List ℕ). fits image (of_class x) (of_class name) ≡ true) (sym own) (same_fits image T acc (of_class name) refl);
}
  where
    own : name_at image (number_named image name) ≡ name
    own = ap (λ (x : Option ℕ). name_at image (unwrap_or x 0)) n.1 ∙ named_is image name n.0 n.1

-- ---- the stages of the heap

-- objects 1 and 2 are there
pub record IsOpened (image : Image) (h : Heap) : Type 0 where
  pub fine : HeapFine image h
  pub first : kind_of h 1 ≡ Some (kind.Object (record { 0 = number_named image stream_name }))
  pub second : kind_of h 2 ≡ Some (kind.Object (record { 0 = number_named image thread_name }))

opened_more : (image : Image) (before after : Heap) → IsOpened image before → KeepsKinds before after → HeapFine image after → IsOpened image after
opened_more image before after o g f = record { fine = f; first = g 1 _ o.first; second = g 2 _ o.second }

module _ (image : Image) (T : Typings) (acc : Accepted image T) where
  empty_fine : HeapFine image (empty_heap image)
  empty_fine = record {
    count = refl;
    objects = λ o k e. nothing _ k e;
    statics = statics;
    interned = All-nil (λ o. (s : List ℕ) × (kind_of (empty_heap image) o ≡ Some (kind.Str s)));
    class_objects = All-nil (λ o. (t : Ty) × (kind_of (empty_heap image) o ≡ Some (kind.ClassOf t)));
  }
    where
      statics : (x : ℕ) (f : Field) → field_at image x ≡ Some f → is_static_field f ≡ true → CellsFit image (empty_heap image) (slice_index_or (field_cells image image.fields 0) x []) (reg_types f.def.ty)
      statics x f e s =
          let same : first_cells f.def ≡ slice_index_or (field_cells image image.fields 0) x [] = sym (field_cells_at image image.fields 0 x (field_within image x f e) ∙ ap (cells_of_field image) (plus_zero x) ∙ ap cells_of e) in
          fit_same image (empty_heap image) _ _ _ _ same refl (first_fit image (empty_heap image) f.def.name f.def.ty f.def.flags f.def.init (acc.inits.inits x f e) s)

  object_added : (h : Heap) (name : List ℕ) → HeapFine image h → IsAdded image h (object_made image h name) (newest (object_made image h name)) (kind.Object (record { 0 = number_named image name }))
  object_added h name f = is_added image h (kind.Object (record { 0 = number_named image name })) (fresh_cells (class_cells image (number_named image name))) 0 f (fresh_fit image _ (class_cells image (number_named image name)) (class_are_cells image (number_named image name)))

  objects_opened : IsOpened image (object_made image (object_made image (empty_heap image) stream_name) thread_name)
  objects_opened =
      let a = object_added (empty_heap image) stream_name empty_fine in
      let b = object_added (object_made image (empty_heap image) stream_name) thread_name a.fine in
      record { fine = b.fine; first = refl; second = refl }

  -- ---- System.out

  stream_is : (h : Heap) → IsOpened image h → IsOf image h 1 (of_class stream_name)
  stream_is h o = named_of image T acc h 1 stream_name (acc.boot.there 5 [] (omega arith)) refl o.first

  out_put : (h : Heap) (k : ℕ) (x : Field) → IsOpened image h → field_at image k ≡ Some x → is_out image x ≡ true → IsOpened image (with_static h k 0 (v.Ref 1))
  out_put h k x o e i =
      let p = and_parts (bytes_eq (name_at image x.info.class.0) system_name) (bytes_eq x.def.name (codes "out")) i in
      let q = acc.boot.out k x e (names_are _ _ p.0) (names_are _ _ p.1) in
      let fits : Conforms image h nobody (v.Ref 1) (type_at (reg_types x.def.ty) 0) = subst (λ (t : Ty). Conforms image h nobody (v.Ref 1) (type_at (reg_types t) 0)) (sym q.1) (stream_is h o) in
      let s = static_store_keeps image h k 0 x (v.Ref 1) o.fine e fits in
      opened_more image h _ o s.1 s.0

  out_opened : (is : List FieldInfo) (k : ℕ) (h : Heap) → IsOpened image h → IsOpened image (with_out image is k h)
  out_opened [] k h o = o
  out_opened (i ∷ is) k h o = out_opened is (suc k) _ (step (field_at image k) refl)
    where
      test : (x : Field) (b : Bool) → field_at image k ≡ Some x → is_out image x ≡ b → IsOpened image (if b then with_static h k 0 (v.Ref 1) else h)
      test x true e t = out_put h k x o e t
      test x false e t = o

      step : (y : Option Field) → field_at image k ≡ y → IsOpened image (with_out_of image h k y)
      step None e = o
      step (Some x) e = test x (is_out image x) e refl

  -- ---- strings

  class_of_test : (name : List ℕ) (t : Ty) → is_class name t ≡ true → t ≡ of_class name
  class_of_test name t e =
      let p = and_parts (nat_eq t.dims 0) (base_is_named name t.base) e in
      let made : ℕ → Base → Ty = λ n b. record { dims = n; base = b } in
      ap (λ n. made n t.base) (eqb-true t.dims 0 p.0) ∙ ap (made 0) (same t.base p.1)
    where
      same : (b : Base) → base_is_named name b ≡ true → b ≡ base.Class name
      same (base.Class own) e = ap base.Class (names_are own name e)
      same b e = no e

  -- a string stands in a field of String or of Object
  string_conforms : (h : Heap) (g : ℕ) (s : List ℕ) (t : Ty) (flags : ℕ) → may_stand (init.Str s) t flags ≡ true → kind_of h g ≡ Some (kind.Str s) → Conforms image h nobody (v.Ref g) (type_at (reg_types t) 0)
  string_conforms h g s t flags m e = go (or_cases (is_class string_name t) (is_class object_name t) (and_parts (has_flag flags flag.Static) _ m).1)
    where
      fit : (k : ℕ) (u : Ty) → kind_of h k ≡ Some (kind.Str s) → fits image (of_class string_name) u ≡ true → Fits image h k u
      fit zero u e f = tt
      fit (suc k) u e f = record { object = record { kind = kind.Str s; has_kind = e; proper = refl }; fits = f }

      go : (is_class string_name t ≡ true) ⊎ (is_class object_name t ≡ true) → Conforms image h nobody (v.Ref g) (type_at (reg_types t) 0)
      go (inl c) = subst (λ (u : Ty). Conforms image h nobody (v.Ref g) (type_at (reg_types u) 0)) (sym (class_of_test string_name t c)) (fit g (of_class string_name) e (same_fits image T acc (of_class string_name) refl))
      go (inr c) = subst (λ (u : Ty). Conforms image h nobody (v.Ref g) (type_at (reg_types u) 0)) (sym (class_of_test object_name t c)) (fit g (of_class object_name) e (acc.order.object_fits (of_class string_name) refl))

  string_put : (h : Heap) (k : ℕ) (x : Field) (s : List ℕ) → IsOpened image h → field_at image k ≡ Some x → may_stand (init.Str s) x.def.ty x.def.flags ≡ true → (g : Option Got) → intern h s ≡ g → IsOpened image (interned_here h k g)
  string_put h k x s o e m None i = o
  string_put h k x s o e m (Some g) i =
      let r = string_is_interned image h s g o.fine i in
      let p = got r.1 in
      let t = static_store_keeps image g.heap k 0 x (v.Ref g.object) p.0 e (string_conforms g.heap g.object s x.def.ty x.def.flags m r.0) in
      opened_more image h _ o (λ q y z. t.1 q y (p.1 q y z)) t.0
    where
      got : (g.heap ≡ h) ⊎ IsAdded image h g.heap g.object (kind.Str s) → HeapFine image g.heap × KeepsKinds h g.heap
      got (inl f) = (subst (HeapFine image) (sym f) o.fine, λ q y z. subst (λ (k : Heap). kind_of k q ≡ Some y) (sym f) z)
      got (inr a) = (a.fine, a.keeps)

  strings_opened : (is : List FieldInfo) (k : ℕ) (h : Heap) → IsOpened image h → IsOpened image (with_strings image is k h)
  strings_opened [] k h o = o
  strings_opened (i ∷ is) k h o = strings_opened is (suc k) _ (step (field_at image k) refl)
    where
      by_value : (x : Field) (j : Init) → field_at image k ≡ Some x → may_stand j x.def.ty x.def.flags ≡ true → IsOpened image (with_string h k (string_of j))
      by_value x init.Absent e m = o
      by_value x (init.Num n) e m = o
      by_value x (init.Str s) e m = string_put h k x s o e m (intern h s) refl
      by_value x init.Null e m = o

      step : (y : Option Field) → field_at image k ≡ y → IsOpened image (with_string_of h k y)
      step None e = o
      step (Some x) e = by_value x x.def.init e (acc.inits.inits k x e)

  -- ---- main's array

  abbrev pub strings_type : Ty
  strings_type = record { dims = 1; base = base.Class string_name }

  array_added : (h : Heap) → HeapFine image h → IsAdded image h (made h (kind.Array strings_type) []) (newest (made h (kind.Array strings_type) [])) (kind.Array strings_type)
  array_added h f = is_added image h (kind.Array strings_type) [] 0 f (fit_same image after [] [] [] _ refl (ap (λ n. element_types n (component strings_type)) (sym (array_length after (newest after) 0 strings_type (new_kind image h (kind.Array strings_type) [] 0 f) (new_cells image h (kind.Array strings_type) [] 0 f)))) (bare_fits image after))
    where
      after : Heap
      after = made h (kind.Array strings_type) []

  array_opened : (m : Method) (h : Heap) → IsOpened image h → IsOpened image (array_made m h) × (takes_array m ≡ true → kind_of (array_made m h) (newest (array_made m h)) ≡ Some (kind.Array strings_type))
  array_opened m h o = go (takes_array m)
    where
      go : (b : Bool) → IsOpened image (if b then made h (kind.Array strings_type) [] else h) × (b ≡ true → kind_of (if b then made h (kind.Array strings_type) [] else h) (newest (if b then made h (kind.Array strings_type) [] else h)) ≡ Some (kind.Array strings_type))
      go true = let a = array_added h o.fine in (opened_more image h _ o a.keeps a.fine, λ e. a.made)
      go false = (o, λ e. no e)

  counted_opened : (l : Limits) (h : Heap) → IsOpened image h → IsOpened image (counted_from l h)
  counted_opened l h o = record {
    fine = record {
      count = o.fine.count;
      objects = λ p k e. fit_grown image h (counted_from l h) _ _ (λ q y z. z) (o.fine.objects p k e);
      statics = λ x f e s. fit_grown image h (counted_from l h) _ _ (λ q y z. z) (o.fine.statics x f e s);
      interned = o.fine.interned;
      class_objects = o.fine.class_objects;
    };
    first = o.first;
    second = o.second;
  }

  -- ---- the exceptions that are made last

  -- main's array is there still, where main takes one, and so are the two
  pub record IsFilled (m : Method) (h : Heap) : Type 0 where
    pub opened : IsOpened image h
    pub array : takes_array m ≡ true → kind_of h (newest (main_heap image m)) ≡ Some (kind.Array strings_type)
    pub preallocated : PreallocatedFine image h (preallocated_on image (main_heap image m))

  pub heap_opened : (m : Method) (l : Limits) → IsFilled m (opening_heap image m l)
  heap_opened m l =
      let a = array_opened m _ (strings_opened image.fields 0 _ (out_opened image.fields 0 _ objects_opened)) in
      let o = object_added (main_heap image m) out_of_memory_name a.0.fine in
      let s = object_added (with_out_of_memory image (main_heap image m)) stack_overflow_name o.fine in
      record {
        opened = counted_opened l _ (opened_more image (main_heap image m) (with_stack_overflow image (with_out_of_memory image (main_heap image m))) a.0 (λ p k e. s.keeps p k (o.keeps p k e)) s.fine);
        array = λ e. s.keeps _ _ (o.keeps _ _ (a.1 e));
        preallocated = record { out_of_memory = s.keeps _ _ o.made; stack_overflow = s.made };
      }
