-- The heap and the stack with which a run begins.
use Rattle.std.proofs.Common.{◌≡◌, ◌<◌, ℕ, suc, ◌+◌, List, length, drop, drop-cons, ap, sym, ◌∙◌, arith}
use Rattle.dv_defs.specs.declared.image.FieldInfo.{FieldInfo}
use Rattle.dv_defs.specs.Images.{Image}
use Rattle.dv_defs.specs.Pools.{field_at}
use Rattle.dv_words.specs.State.{WordHeap}
use Rattle.dv_words.specs.Opening.{with_out, with_out_of, with_string_of, with_strings}

no_field : FieldInfo
no_field = record { class = record { 0 = 0 }; place = 0; slot = 0 }

-- a field more
pub out_on : (image : Image) (is : List FieldInfo) (k f : ℕ) (heap new : WordHeap) → k < length is → f ≡ k → new ≡ with_out_of image heap f (field_at image f) → with_out image (drop (k + 1) is) (k + 1) new ≡ with_out image (drop k is) k heap
out_on image is k f heap new within same here =
    let next : k + 1 ≡ suc k = omega arith in
    ap (λ (n : ℕ). with_out image (drop n is) n new) next ∙
    (ap (λ (h : WordHeap). with_out image (drop (suc k) is) (suc k) h) (here ∙ ap (λ (j : ℕ). with_out_of image heap j (field_at image j)) same) ∙
    sym (ap (λ (l : List FieldInfo). with_out image l k heap) (drop-cons is k no_field within)))

pub strings_on : (image : Image) (is : List FieldInfo) (k f : ℕ) (heap new : WordHeap) → k < length is → f ≡ k → new ≡ with_string_of heap f (field_at image f) → with_strings image (drop (k + 1) is) (k + 1) new ≡ with_strings image (drop k is) k heap
strings_on image is k f heap new within same here =
    let next : k + 1 ≡ suc k = omega arith in
    ap (λ (n : ℕ). with_strings image (drop n is) n new) next ∙
    (ap (λ (h : WordHeap). with_strings image (drop (suc k) is) (suc k) h) (here ∙ ap (λ (j : ℕ). with_string_of heap j (field_at image j)) same) ∙
    sym (ap (λ (l : List FieldInfo). with_strings image l k heap) (drop-cons is k no_field within)))
