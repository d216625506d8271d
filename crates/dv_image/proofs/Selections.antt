-- What the numbers of names and prototypes tell of selections.
use Rattle.std.specs.Prelude.{ℕ, ◌≡◌, ◌≢◌, ◌<◌, ◌≤◌, Bool, true, false, List, [], ◌∷◌, length, map, All, Option, Some, None, IfSome, slice_get, option_map}
use Rattle.std.proofs.Common.{refl, ap, sym, subst, ◌∙◌}
use Rattle.std.proofs.lemmas.List.Elements.{All-nil, All-cons, All-head, All-tail, All-get_or, All-weaker}
use Rattle.std.proofs.lemmas.List.Folds.{list_any_none}
use Rattle.std.proofs.lemmas.Option.{slice_get-map, slice_get_past, slice_get_within, get_or_from_slice_get}
use Rattle.dv_defs.specs.declared.image.ClassInfo.{ClassInfo}
use Rattle.dv_defs.specs.declared.image.Select.{Select}
use Rattle.dv_defs.specs.declared.image.Select.TheVariants as select
use Rattle.dv_defs.specs.Images.{Image}
use Rattle.dv_defs.specs.Pools.{Method, method_at, with_info}
use Rattle.dv_defs.specs.LookUp.{is_method_of}
use Rattle.dv_defs.specs.Selecting.{selected}
use Rattle.dv_defs.specs.Linked.{IsImage, keyed_at, key_number, key_of}
use Rattle.law_linking.proofs.TableLaws.{IsOwn, method_own, image_table}
use Rattle.law_linking.proofs.SelectLaws.{keyed_own, keyed_selects, unkeyed_abstract, same_key, method_has, method_there, selected_outside}
use Rattle.dv_image.specs.Selecting.{IsSelectedFor, selected_by}

-- ---- the number of a method's name and prototype

pub keyed : (keys : List ℕ) (i image : Image) → IsImage i → ((n : ℕ) (m : Method) → method_at i n ≡ Some m → slice_get keys n ≡ Some (key_of i m)) → i ≡ image
    → (n : ℕ) → n < length image.methods → (o : Option ℕ) → slice_get keys n ≡ o → o ≡ option_map (key_of image) (method_at image n)
keyed keys i image linked are is n within o at =
    let there = method_there image (subst IsImage is linked) n within in
    let here = subst (λ (j : Image). (n : ℕ) (m : Method) → method_at j n ≡ Some m → slice_get keys n ≡ Some (key_of j m)) is are in
    sym at ∙ (here n there.0 there.1 ∙ ap (option_map (key_of image)) (sym there.1))

pub unkeyed : (image : Image) (n : ℕ) → length image.methods ≤ n → None ≡ option_map (key_of image) (method_at image n)
unfolding method_at
unkeyed image n past = ap (λ o. option_map (key_of image) (with_info image n o)) (sym (slice_get_past image.methods n past))

-- ---- the places of a table

-- where there is no such class nothing is selected
pub outside : (image : Image) (c number : ℕ) → slice_get image.classes c ≡ None → IsSelectedFor image c number select.Abstract
outside image c number none = λ m own key. sym (selected_outside image c m.def.name m.def.proto none)

each_mapped : {X Y : Type 0} (P : Y → Type 0) (f : X → Y) (xs : List X) → All P (map f xs) → All (λ x. P (f x)) xs
each_mapped P f [] all = All-nil (λ x. P (f x))
each_mapped P f (x ∷ xs) all = All-cons (λ x. P (f x)) x xs (All-head P (f x) (map f xs) all) (each_mapped P f xs (All-tail P (f x) (map f xs) all))

other_key : (image : Image) (number : ℕ) (m n : Method) → key_of image m ≡ number → key_of image n ≢ number → is_method_of m.def.name m.def.proto n ≡ false
other_key image number m n key other = by (is_method_of m.def.name m.def.proto n) refl
  where
    by : (b : Bool) → is_method_of m.def.name m.def.proto n ≡ b → b ≡ false
    by true has =
        let keys = method_has m.def.name m.def.proto n has in
        absurd (other ((λ j. key_number image (keys.0 j) (keys.1 j)) ∙ key))
    by false has = refl

-- and where no place has the number
pub nowhere : (image : Image) (c number : ℕ) (places : List ℕ) → places ≡ map (key_of image) (keyed_at image c) → All (λ own. own ≢ number) places → IsSelectedFor image c number select.Abstract
nowhere image c number places are none = λ m own key.
    sym (unkeyed_abstract image c m.def.name m.def.proto
    (list_any_none (is_method_of m.def.name m.def.proto) (keyed_at image c)
    (All-weaker (λ n. key_of image n ≢ number) (λ n. is_method_of m.def.name m.def.proto n ≡ false) (λ n other. other_key image number m n key other) (keyed_at image c)
    (each_mapped (λ own. own ≢ number) (key_of image) (keyed_at image c) (subst (All (λ own. own ≢ number)) are none)))))

mapped_from : {X Y : Type 0} (f : X → Y) (o : Option X) (y : Y) → option_map f o ≡ Some y → (x : X) × (o ≡ Some x) × (f x ≡ y)
mapped_from f None y is = absurd (cc)
mapped_from f (Some x) y is = (x, refl, cc)

all_at : {X : Type 0} (P : X → Type 0) (xs : List X) (k : ℕ) (x : X) → All P xs → slice_get xs k ≡ Some x → P x
all_at P xs k x all at = subst P (get_or_from_slice_get xs k x x at) (All-get_or P xs k x (slice_get_within xs k x at) all)

-- the table has at a place of the number what is selected
pub somewhere : (image : Image) → IsImage image → (c number p : ℕ) (info : ClassInfo) → slice_get image.classes c ≡ Some info
    → (places : List ℕ) → places ≡ map (key_of image) (keyed_at image c) → slice_get places p ≡ Some number → (s : Select) → IfSome (slice_get info.table p) (λ entry. s ≡ entry) → IsSelectedFor image c number s
somewhere image linked c number p info there places are at s told = λ m own key.
    let has = mapped_from (key_of image) (slice_get (keyed_at image c) p) number (sym (slice_get-map (key_of image) (keyed_at image c) p) ∙ (ap (λ ns. slice_get ns p) (sym are) ∙ at)) in
    let n = has.0 in
    let same = same_key image n m (all_at (IsOwn image) (keyed_at image c) p n (keyed_own image c) has.1) own (has.2 ∙ sym key) in
    subst (λ o. IfSome o (λ entry. s ≡ entry))
    (ap (λ (table : List Select). slice_get table p) (image_table image linked c info there) ∙ keyed_selects image c m.def.name m.def.proto p n has.1 same)
    told

-- ---- by the number of a method

pub numbered : (image : Image) (c n number : ℕ) (s : Select) → Some number ≡ option_map (key_of image) (method_at image n) → IsSelectedFor image c number s → s ≡ selected_by image c n
numbered image c n number s key told =
    let has = mapped_from (key_of image) (method_at image n) number (sym key) in
    told has.0 (method_own image n has.0 has.1) has.2 ∙
    ap (λ (o : Option Method). elim o as (λ _. Select) [ None ↦ select.Abstract | Some g ↦ selected image c g.def.name g.def.proto ]) (sym has.1)
