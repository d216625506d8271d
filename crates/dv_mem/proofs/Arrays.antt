-- Elements by the suffixes of operations, and the objects that arrays take.
use Rattle.std.proofs.Common.{◌≡◌, ℕ, zero, suc, ◌<◌, ◌≤◌, Bool, true, false, List, length, ℤ, Some, refl, sym, ap, ◌∙◌, arith}
use Rattle.std.specs.Prelude.{nat_eq, nat_le, nat_lt, ◌&&◌, ◌||◌}
use Rattle.std.proofs.lemmas.Bool.{and_parts}
use Rattle.std.proofs.lemmas.Bool.Decides.{nat_tests}
use Rattle.dv_defs.specs.declared.names.Base.{Base}
use Rattle.dv_defs.specs.declared.names.Base.TheVariants as base
use Rattle.dv_defs.specs.declared.names.Ty.{Ty}
use Rattle.dv_defs.specs.Parts.{Suffix}
use Rattle.dv_typing.specs.Statics.{is_of_suffix}
use Rattle.dv_defs.specs.Types.{base_eq, component, is_base, is_class_base, is_long}
use Rattle.dv_machine.specs.Mem.{on_object}
use Rattle.dv_machine.specs.State.{Did, Throws, where_true}
use Rattle.dv_defs.specs.declared.run.Named.TheVariants as named
use Rattle.dv_words.specs.declared.state.Frame.{Frame}
use Rattle.dv_words.specs.declared.state.Kind.{Kind}
use Rattle.dv_words.specs.declared.state.Kind.TheVariants as kind
use Rattle.dv_words.specs.Heaps.{kind_of, length_of}
use Rattle.dv_words.specs.Words.{int_of}
use Rattle.dv_words.specs.Stacks.{gone}
use Rattle.dv_words.specs.Local.{reg_word}
use Rattle.dv_words.specs.Mem.{WordHere, WordLeft, array_put, component_of, fill, filled, is_instance, is_storable, is_wide, narrowed_all, on_index, onward, stored, type_of_kind, words_at, words_in}
use Rattle.dv_mem.specs.Elements.{width_of}
use Rattle.dv_mem.specs.Operands.{IsArray}
use Rattle.dv_mem.specs.Values.{words_from}

-- ---- how many words the elements of a suffix have

both_false : (d c : Bool) → c ≡ false → (d && c) ≡ false
both_false true c e = e
both_false false c e = refl

no_long : (b : Base) → base_eq b base.J ≡ false → (a : Base) → base_eq a b ≡ true → base_eq a base.J ≡ false
no_long b n base.J e = absurd (by b n e)
  where
    by : (b : Base) → base_eq b base.J ≡ false → base_eq base.J b ≡ true → ⊥
    by base.J n e = absurd (cc n)
    by b n e = absurd (cc e)
no_long b n a e = refl

-- of a type that isn't long
other_base : (b : Base) (t : Ty) → base_eq b base.J ≡ false → is_base b t ≡ true → is_long t ≡ false
other_base b t n e = both_false (nat_eq t.dims 0) (base_eq t.base base.J) (no_long b n t.base (and_parts _ _ e).1)

reference_by : (n : ℕ) (b : Base) → (nat_lt 0 n || is_class_base b) ≡ true → (nat_eq n 0 && base_eq b base.J) ≡ false
reference_by n base.J e = by (nat_lt 0 n) (nat_eq n 0) (λ h. let g : nat_eq n 0 ≡ false = grind arith in g) e
  where
    by : (a d : Bool) → (a ≡ true → d ≡ false) → (a || false) ≡ true → (d && true) ≡ false
    by true d f e = ap (λ (x : Bool). x && true) (f refl)
    by false d f e = absurd (cc e)
reference_by n b e = both_false (nat_eq n 0) false refl

pub suffix_width : (s : Suffix) (t : Ty) → is_of_suffix s t ≡ true → is_long t ≡ is_wide s
suffix_width Suffix.Int t e = other_base base.I t refl e
suffix_width Suffix.Long t e = e
suffix_width Suffix.Object t e = reference_by t.dims t.base e
suffix_width Suffix.Boolean t e = other_base base.Z t refl e
suffix_width Suffix.Byte t e = other_base base.B t refl e
suffix_width Suffix.Char t e = other_base base.C t refl e
suffix_width Suffix.Short t e = other_base base.S t refl e

-- ---- elements of an array

module _ (h : WordHere) (o : ℕ) (t : Ty) where
  pub component_is : kind_of h.heap o ≡ Some (kind.Array t) → component_of h o ≡ component t
  component_is e = ap (λ k. component (type_of_kind h.image k)) e

pub element_width : (h : WordHere) (s : Suffix) (o : ℕ) → IsArray (is_of_suffix s) h.heap o → is_long (component_of h o) ≡ is_wide s
element_width h s o a = ap is_long (component_is h o a.ty a.kind) ∙ suffix_width s (component a.ty) a.passes

pub element_words : (h : WordHere) (s : Suffix) (o k : ℕ) → IsArray (is_of_suffix s) h.heap o → words_at h.heap o k (component_of h o) ≡ words_from h.heap o k (is_wide s)
element_words h s o k a = ap (words_from h.heap o k) (element_width h s o a)

pub count_in : (f : Frame) (a : ℕ) (wide : Bool) → length (words_in f a wide) ≡ width_of wide
count_in f a true = refl
count_in f a false = refl

-- the array and the index are those of registers
pub located : (h : WordHere) (go : ℕ → ℕ → Did WordLeft) (w r i j : ℕ) (d : Did WordLeft) → w ≡ r → i ≡ j → on_object (λ o. on_index h o (int_of i) (go o)) w ≡ d → on_object (λ o. on_index h o (int_of j) (go o)) r ≡ d
located h go w r i j d same_array same_index e =
    let F : ℕ → ℕ → Did WordLeft = λ n m. on_object (λ o. on_index h o (int_of m) (go o)) n in
    sym (ap (λ (n : ℕ). F n i) same_array ∙ ap (λ (m : ℕ). F r m) same_index) ∙ e

-- ---- the store test

pub storable_object : (h : WordHere) (o w : ℕ) (k : Kind) (t u : Ty) (holds : Bool) → 0 < w → Some k ≡ kind_of h.heap o → k ≡ kind.Array t → u ≡ component t → holds ≡ is_instance h u w → holds ≡ is_storable h o Suffix.Object w
storable_object h o zero k t u holds some has is same e = absurd (omega (arith, some))
storable_object h o (suc p) k t u holds some has is same e =
    let kind : kind_of h.heap o ≡ Some (kind.Array t) = sym has ∙ ap Some is in
    e ∙ ap (λ (x : Ty). is_instance h x (suc p)) (same ∙ sym (component_is h o t kind))

-- ---- stores

module _ (h : WordHere) (o : ℕ) (s : Suffix) (a k : ℕ) where
  pub refused_store : is_storable h o s (reg_word h.frame a) ≡ false → array_put h o s a k ≡ Throws named.ArrayStore
  refused_store e =
      ap (λ (b : Bool). where_true b named.ArrayStore (onward (stored h.heap o k (narrowed_all (component_of h o) (words_in h.frame a (is_wide s)))) (gone h.frame h.next))) e

  pub taken_store : (t : Ty) (ws : List ℕ) → is_storable h o s (reg_word h.frame a) ≡ true → kind_of h.heap o ≡ Some (kind.Array t) → ws ≡ narrowed_all (component t) (words_in h.frame a (is_wide s)) → array_put h o s a k ≡ onward (stored h.heap o k ws) (gone h.frame h.next)
  taken_store t ws e kind same =
      let F : Bool → List ℕ → Did WordLeft = λ b us. where_true b named.ArrayStore (onward (stored h.heap o k us) (gone h.frame h.next)) in
      ap (λ (b : Bool). F b (narrowed_all (component_of h o) (words_in h.frame a (is_wide s)))) e ∙
      ap (F true) (ap (λ (x : Ty). narrowed_all x (words_in h.frame a (is_wide s))) (component_is h o t kind) ∙ sym same)

-- ---- fills

too_few : (a b : ℕ) → b < a → nat_le a b ≡ false
too_few a b l = grind (arith, nat_tests)

no_fewer : (a b : ℕ) → a ≤ b → nat_le a b ≡ true
no_fewer a b l = grind (arith, nat_tests)

module _ (h : WordHere) (ns : List ℤ) (o n count : ℕ) where
  pub short_fill : length ns ≡ count → n ≡ length_of h.heap o → n < count → fill h ns o ≡ Throws named.ArrayIndex
  short_fill all size few =
      let no_room : nat_le (length ns) (length_of h.heap o) ≡ false = too_few (length ns) (length_of h.heap o) (omega (arith, all, size, few)) in
      ap (λ (b : Bool). where_true b named.ArrayIndex (onward (stored h.heap o 0 (filled (component_of h o) ns)) (gone h.frame h.next))) no_room

  pub whole_fill : length ns ≡ count → n ≡ length_of h.heap o → count ≤ n → fill h ns o ≡ onward (stored h.heap o 0 (filled (component_of h o) ns)) (gone h.frame h.next)
  whole_fill all size enough =
      let some : nat_le (length ns) (length_of h.heap o) ≡ true = no_fewer (length ns) (length_of h.heap o) (omega (arith, all, size, enough)) in
      ap (λ (b : Bool). where_true b named.ArrayIndex (onward (stored h.heap o 0 (filled (component_of h o) ns)) (gone h.frame h.next))) some

pub object_goes : {A : Type 0} (go : ℕ → Did A) (o : ℕ) → 0 < o → on_object go o ≡ go o
object_goes go zero some = absurd (omega (arith, some))
object_goes go (suc o) some = refl
