-- What fits char[] is an array of chars, and its cells are numbers.
use Rattle.std.proofs.Common.{◌≡◌, ◌⊎◌, inl, inr, ℕ, zero, suc, List, [], ◌∷◌, length, true, Option, Some, None, refl, ap, ◌∙◌, subst, All}
use Rattle.std.specs.Prelude.{nat_lt, slice_get}
use Rattle.std.proofs.lemmas.Option.{same_Some}
use Rattle.dv_machine.specs.Kind.{Kind}
use Rattle.dv_machine.specs.Kind as kind
use Rattle.dv_defs.specs.declared.names.Base.TheVariants as base
use Rattle.dv_defs.specs.declared.names.Ty.{Ty}
use Rattle.dv_machine.specs.Value.{Value}
use Rattle.dv_machine.specs.Value as v
use Rattle.dv_typing.specs.declared.typing.RegType.TheVariants as ty
use Rattle.dv_machine.specs.Heap.{Heap, cells_at, kind_of, kind_type, length_of}
use Rattle.dv_defs.specs.Images.{Image}
use Rattle.dv_defs.specs.Order.{implements, instance}
use Rattle.dv_defs.specs.Types.{component, is_array}
use Rattle.dv_machine.specs.Accepted.{Accepted}
use Rattle.dv_machine.specs.Calls.{chars_type}
use Rattle.dv_machine.specs.Conforming.{Conforms, RegsConform}
use Rattle.dv_machine.specs.State.{fits_kind, passes}
use Rattle.dv_machine.specs.WellTyped.{HeapFine, Typings, element_types, nobody}
use Rattle.law_machine.proofs.lemmas.Common.Lists.{all_from}
use Rattle.law_types.proofs.Types.{IsUnder, type_is}
use Rattle.law_words.specs.Laws.{IsPlain}
use Rattle.law_words.specs.StepLaws.{CharsAreNumbers, IsNumber}

abbrev char_type : Ty
char_type = record { dims = 0; base = base.C }

number : (image : Image) (heap : Heap) (x : Value) → Conforms image heap nobody x ty.Int → IsNumber x
number image heap v.Zero c = tt
number image heap (v.Num n) c = tt
number image heap v.Undef c = absurd c
number image heap (v.Lo n) c = absurd c
number image heap (v.Hi n) c = absurd c
number image heap (v.Ref o) c = absurd c
number image heap (v.Uninit a o) c = absurd c
number image heap (v.UninitThis o) c = absurd c

-- each of the cells that conform to so many chars
number_at : (image : Image) (heap : Heap) (n : ℕ) (xs : List Value) (k : ℕ) (x : Value) → length xs ≡ length (element_types n char_type) → RegsConform image heap nobody xs (element_types n char_type) → slice_get xs k ≡ Some x → IsNumber x
number_at image heap n [] k x e c is = absurd (cc)
number_at image heap zero (y ∷ ys) k x e c is = absurd (cc)
number_at image heap (suc n) (y ∷ ys) zero x e c is = subst IsNumber (same_Some y x is) (number image heap y (c 0))
number_at image heap (suc n) (y ∷ ys) (suc k) x e c is = number_at image heap n ys k x rest (λ j. c (suc j)) is
  where
    rest : length ys ≡ length (element_types n char_type)
    rest = cc

module _ (image : Image) (T : Typings) (acc : Accepted image T) where
  -- an array whose elements are under char has chars
  char_component : (t : Ty) → instance image (component t) (component chars_type) ≡ true → component t ≡ char_type
  unfolding instance
  char_component t e = go (type_is image (implements image) (component t) (component chars_type) e)
    where
      go : (component t ≡ component chars_type) ⊎ IsUnder image (implements image) (component t) (component chars_type) → component t ≡ char_type
      go (inl q) = q
      go (inr u) = let q = u.is_class in absurd (cc)

  flat : (t : Ty) → t.dims ≡ 0 → is_array t ≡ true → ⊥
  flat t none some = let same = ap (nat_lt 0) none in absurd (cc)

  by_kind : (heap : Heap) → HeapFine image heap → (o : ℕ) (k : Kind) → kind_of heap (suc o) ≡ Some k → fits_kind image chars_type k ≡ true → IsPlain (Some k) × All IsNumber (cells_at heap (suc o))
  by_kind heap fine o (kind.Array t) is e =
      let parts = acc.order.components t chars_type e refl in
      let own : component t ≡ char_type = char_component t parts.1 in
      let cells = fine.objects o (kind.Array t) is in
      let same = ap (element_types (length_of heap (suc o))) own in (
        tt,
        all_from IsNumber (cells_at heap (suc o)) (λ k x at. number_at image heap (length_of heap (suc o)) (cells_at heap (suc o)) k x
            (cells.count ∙ ap length same) (subst (RegsConform image heap nobody (cells_at heap (suc o))) same cells.each) at),
      )
  by_kind heap fine o (kind.Object c) is e = absurd (flat (kind_type image (kind.Object c)) refl (acc.order.components (kind_type image (kind.Object c)) chars_type e refl).0)
  by_kind heap fine o (kind.Str s) is e = absurd (flat (kind_type image (kind.Str s)) refl (acc.order.components (kind_type image (kind.Str s)) chars_type e refl).0)
  by_kind heap fine o (kind.ClassOf t) is e = absurd (flat (kind_type image (kind.ClassOf t)) refl (acc.order.components (kind_type image (kind.ClassOf t)) chars_type e refl).0)

  pub chars_are_numbers : (heap : Heap) → HeapFine image heap → CharsAreNumbers image heap
  chars_are_numbers heap fine o e = by (kind_of heap (suc o)) refl e
    where
      by : (q : Option Kind) → kind_of heap (suc o) ≡ q → passes (fits_kind image chars_type) q ≡ true → IsPlain q × All IsNumber (cells_at heap (suc o))
      by None is d = absurd (cc)
      by (Some k) is d = by_kind heap fine o k is d
