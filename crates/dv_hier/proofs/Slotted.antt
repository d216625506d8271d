-- The cells that an image has, told of its classes alone.
use Rattle.std.specs.Prelude.{ℕ, zero, suc, ◌≡◌, ◌<◌, ◌≤◌, ◌+◌, ◌-◌, Bool, true, false, List, [], ◌∷◌, ◌++◌, length, map, filter, take, zip, sum_by, Option, Some, None, slice_get, nat_eq}
use Rattle.std.specs.List.{range_with_len, enumerate_from}
use Rattle.std.proofs.Common.{refl, ap, sym, ◌∙◌, arith, add-one, append-nil, append_assoc, subst}
use Rattle.std.proofs.lemmas.Bool.Decides.{nat_tests}
use Rattle.std.proofs.lemmas.List.{length-map, take_all}
use Rattle.std.proofs.lemmas.List.FromFn.{length-enumerate_from}
use Rattle.std.proofs.Math.Seq.{take-length}
use Rattle.std.proofs.lemmas.Option.{slice_get_within, slice_get-map}
use Rattle.dv_defs.specs.declared.names.FieldId.{FieldId}
use Rattle.dv_defs.specs.declared.class.ClassDef.{ClassDef}
use Rattle.dv_defs.specs.declared.class.FieldDef.{FieldDef}
use Rattle.dv_defs.specs.declared.image.ClassInfo.{ClassInfo}
use Rattle.dv_defs.specs.declared.image.FieldInfo.{FieldInfo}
use Rattle.dv_defs.specs.Images.{Image}
use Rattle.dv_defs.specs.Types.{words_of}
use Rattle.dv_defs.specs.Pools.{Field, field_at, fields_of, parent_at, walk, supers}
use Rattle.dv_defs.specs.Order.{has_number}
use Rattle.dv_defs.specs.Numbering.{class_id, numbered}
use Rattle.dv_defs.specs.Linked.{has_cells, cells_of_class, cells_along, slots_at, words_at, words_before, slot_of, slot_at, field_with_slot, class_with_slots, slotted}
use Rattle.law_linking.proofs.Members.{HasFields, numbered_fields, own_from, field_of, field_info, fields_of_class, field_numbered, field_info_numbered, field_count}
use Rattle.dv_hier.specs.Slots.{has_cell, cells_from, cell_words, words_in, slot_after, infos_from, first_field, walked, superclasses, cells_in, own_cells, words_of_class, chain_cells, chain_words, object_cells, infos_in, infos_below, slots_below, info_with, IsAcyclic}
use Rattle.dv_hier.proofs.Cells.{neither, first_more}

-- ---- chains

walk_is : (image : Image) (n : ℕ) (o : Option ℕ) → walk image n o ≡ walked image.classes n o
walk_is image zero o = refl
walk_is image (suc n) None = refl
walk_is image (suc n) (Some c) = ap (λ cs. c ∷ cs) (walk_is image n (parent_at image c))

supers_are : (image : Image) (c : ℕ) → c < length image.classes → supers image c ≡ c ∷ superclasses image.classes c
supers_are image c within =
    let fuel : length image.classes ≡ suc (length image.classes - 1) = omega arith in
    walk_is image (length image.classes) (Some c) ∙ ap (λ n. walked image.classes n (Some c)) fuel

-- ---- a class's own cells

cells_are_from : (image : Image) (c : ℕ) (info : ClassInfo) → slice_get image.classes c ≡ Some info → (place id : ℕ) (fs : List FieldDef)
    → map (λ f. record { 0 = f.id }) (filter (has_cells image) (own_from field_of c place id fs)) ≡ cells_from info.def id fs
cells_are_from image c info there place id [] = refl
cells_are_from image c info there place id (f ∷ fs) = go (has_cell info.def f) refl (cells_are_from image c info there (suc place) (suc id) fs)
  where
    same : has_cells image (field_of c place id f) ≡ has_cell info.def f
    same = rw there refl

    go : (b : Bool) → has_cell info.def f ≡ b
        → map (λ g. record { 0 = g.id }) (filter (has_cells image) (own_from field_of c (suc place) (suc id) fs)) ≡ cells_from info.def (suc id) fs
        → map (λ g. record { 0 = g.id }) (filter (has_cells image) (own_from field_of c place id (f ∷ fs))) ≡ cells_from info.def id (f ∷ fs)
    go true e rest = let h = same ∙ e in rw (h, filter, e, cells_from) (ap (λ cells. record { 0 = id } ∷ cells) rest)
    go false e rest = let h = same ∙ e in rw (h, filter, e, cells_from) rest

own_are : (image : Image) (c id : ℕ) (o : Option ClassInfo) → slice_get image.classes c ≡ o
    → map (λ f. record { 0 = f.id }) (filter (has_cells image) (own_from field_of c 0 id (fields_of o))) ≡ cells_in id o
own_are image c id None there = refl
own_are image c id (Some info) there = cells_are_from image c info there 0 id info.def.fields

cells_of_class_are : (image : Image) → HasFields image → (c : ℕ) → cells_of_class image c ≡ own_cells image.classes c
cells_of_class_are image is c =
    ap (λ fs. map (λ (f : Field). record { 0 = f.id }) fs) (fields_of_class image is (has_cells image) c)
    ∙ own_are image c (first_field image.classes c) (slice_get image.classes c) refl

cells_along_are : (image : Image) → HasFields image → (cs : List ℕ) → cells_along image cs ≡ chain_cells image.classes cs
cells_along_are image is [] = refl
cells_along_are image is (c ∷ cs) = rw (cells_along_are image is cs, cells_of_class_are image is c) refl

slots_are : (image : Image) → HasFields image → (c : ℕ) → c < length image.classes → slots_at image c ≡ object_cells image.classes c
slots_are image is c within =
    ap (cells_along image) (supers_are image c within) ∙ cells_along_are image is (c ∷ superclasses image.classes c)

-- ---- words before a cell

-- fields stand at their numbers, from one on
abbrev Stand : Image → ℕ → ℕ → ℕ → List FieldDef → Type 0
Stand image c place id fs = (k : ℕ) (f : FieldDef) → slice_get fs k ≡ Some f → field_at image (id + k) ≡ Some (field_of c (place + k) (id + k) f)

stand_here : (image : Image) (c place id : ℕ) (f : FieldDef) (fs : List FieldDef) → Stand image c place id (f ∷ fs)
    → field_at image id ≡ Some (field_of c place id f)
stand_here image c place id f fs stand =
    let e : id + 0 ≡ id = omega arith in let z : place + 0 ≡ place = omega arith in rw (e, z) at (stand 0 f refl)

stand_next : (image : Image) (c place id : ℕ) (f : FieldDef) (fs : List FieldDef) → Stand image c place id (f ∷ fs)
    → Stand image c (suc place) (suc id) fs
stand_next image c place id f fs stand k g there =
    let e : suc id + k ≡ id + suc k = omega arith in let z : suc place + k ≡ place + suc k = omega arith in
    rw (e, z) (stand (suc k) g there)

stand_all : (image : Image) → HasFields image → (c : ℕ) (info : ClassInfo) → slice_get image.classes c ≡ Some info
    → Stand image c 0 (first_field image.classes c) info.def.fields
stand_all image is c info class k f there =
    let z : 0 + k ≡ k = omega arith in rw z (field_numbered image is c k info f class there)

abbrev words_along : Image → List FieldId → ℕ
words_along image [] = 0
words_along image (y ∷ ys) = words_at image y.0 + words_along image ys

words_append : (image : Image) (xs ys : List FieldId) → words_along image (xs ++ ys) ≡ words_along image xs + words_along image ys
words_append image [] ys = omega arith
words_append image (x ∷ xs) ys =
    let h : words_along image (xs ++ ys) ≡ words_along image xs + words_along image ys = words_append image xs ys in rw h (omega arith)

own_words_are : (image : Image) (c place id : ℕ) (def : ClassDef) (fs : List FieldDef) → Stand image c place id fs
    → words_along image (cells_from def id fs) ≡ words_in def fs
own_words_are image c place id def [] stand = refl
own_words_are image c place id def (f ∷ fs) stand =
    go (has_cell def f) refl (own_words_are image c (suc place) (suc id) def fs (stand_next image c place id f fs stand))
  where
    here : words_at image id ≡ words_of f.ty
    here = rw (stand_here image c place id f fs stand, words_at) refl

    go : (b : Bool) → has_cell def f ≡ b → words_along image (cells_from def (suc id) fs) ≡ words_in def fs
        → words_along image (cells_from def id (f ∷ fs)) ≡ words_in def (f ∷ fs)
    go true e rest = rw (e, cells_from, words_in, cell_words) (rw (here, rest) refl)
    go false e rest = rw (e, cells_from, words_in, cell_words) (rw rest (omega arith))

words_of_own : (image : Image) → HasFields image → (c : ℕ) (o : Option ClassInfo) → slice_get image.classes c ≡ o
    → words_along image (cells_in (first_field image.classes c) o) ≡ words_of_class o
words_of_own image is c None there = refl
words_of_own image is c (Some info) there = own_words_are image c 0 (first_field image.classes c) info.def info.def.fields (stand_all image is c info there)

words_of_chain : (image : Image) → HasFields image → (cs : List ℕ) → words_along image (chain_cells image.classes cs) ≡ chain_words image.classes cs
words_of_chain image is [] = refl
words_of_chain image is (c ∷ cs) =
    let h : words_along image (chain_cells image.classes cs) ≡ chain_words image.classes cs = words_of_chain image is cs in
    let k : words_along image (own_cells image.classes c) ≡ words_of_class (slice_get image.classes c) = words_of_own image is c (slice_get image.classes c) refl in
    rw (words_append image (chain_cells image.classes cs) (own_cells image.classes c), h, k) refl

-- ---- cells of other classes

abbrev AreOther : ℕ → List FieldId → Type 0
AreOther x [] = Unit {0}
AreOther x (y ∷ ys) = (nat_eq y.0 x ≡ false) × AreOther x ys

other_append : (x : ℕ) (ys zs : List FieldId) → AreOther x ys → AreOther x zs → AreOther x (ys ++ zs)
other_append x [] zs other also = also
other_append x (y ∷ ys) zs other also = (other.0, other_append x ys zs other.1 also)

same_self : (n : ℕ) → nat_eq n n ≡ true
same_self n = grind (arith, nat_tests)

same_number : (n m : ℕ) → nat_eq n m ≡ true → n ≡ m
same_number n m e = grind (arith, nat_tests)

-- fields of two classes have two numbers
unlike : (image : Image) (id x : ℕ) (f g : Field) → field_at image id ≡ Some f → field_at image x ≡ Some g
    → nat_eq f.info.class.0 g.info.class.0 ≡ false → nat_eq id x ≡ false
unlike image id x f g at_f at_g differ = go (nat_eq id x) refl
  where
    go : (b : Bool) → nat_eq id x ≡ b → nat_eq id x ≡ false
    go false e = e
    go true e =
        let same : id ≡ x = same_number id x e in
        let both : Some f ≡ Some g = sym at_f ∙ (ap (field_at image) same ∙ at_g) in
        let one : f ≡ g = cc in
        let self : nat_eq f.info.class.0 g.info.class.0 ≡ true = rw one (same_self g.info.class.0) in
        absurd (cc)

own_other : (image : Image) (c place id : ℕ) (def : ClassDef) (fs : List FieldDef) → Stand image c place id fs
    → (x : ℕ) (g : Field) → field_at image x ≡ Some g → nat_eq c g.info.class.0 ≡ false → AreOther x (cells_from def id fs)
own_other image c place id def [] stand x g at differ = tt
own_other image c place id def (f ∷ fs) stand x g at differ =
    go (has_cell def f) refl (own_other image c (suc place) (suc id) def fs (stand_next image c place id f fs stand) x g at differ)
  where
    go : (b : Bool) → has_cell def f ≡ b → AreOther x (cells_from def (suc id) fs) → AreOther x (cells_from def id (f ∷ fs))
    go true e rest = rw (e, cells_from) (unlike image id x (field_of c place id f) g (stand_here image c place id f fs stand) at differ, rest)
    go false e rest = rw (e, cells_from) rest

class_other : (image : Image) → HasFields image → (c : ℕ) (o : Option ClassInfo) → slice_get image.classes c ≡ o
    → (x : ℕ) (g : Field) → field_at image x ≡ Some g → nat_eq c g.info.class.0 ≡ false → AreOther x (cells_in (first_field image.classes c) o)
class_other image is c None there x g at differ = tt
class_other image is c (Some info) there x g at differ =
    own_other image c 0 (first_field image.classes c) info.def info.def.fields (stand_all image is c info there) x g at differ

chain_other : (image : Image) → HasFields image → (cs : List ℕ) (x : ℕ) (g : Field) → field_at image x ≡ Some g
    → has_number g.info.class.0 cs ≡ false → AreOther x (chain_cells image.classes cs)
chain_other image is [] x g at none = tt
chain_other image is (c ∷ cs) x g at none =
    let parts = neither (nat_eq c g.info.class.0) (has_number g.info.class.0 cs) none in
    other_append x (chain_cells image.classes cs) (own_cells image.classes c)
    (chain_other image is cs x g at parts.1) (class_other image is c (slice_get image.classes c) refl x g at parts.0)

before_append : (image : Image) (x : ℕ) (ys zs : List FieldId) → AreOther x ys
    → words_before image x (ys ++ zs) ≡ words_along image ys + words_before image x zs
before_append image x [] zs other = omega arith
before_append image x (y ∷ ys) zs other =
    let h : words_before image x (ys ++ zs) ≡ words_along image ys + words_before image x zs = before_append image x ys zs other.1 in
    rw (other.0, words_before) (rw h (omega arith))

own_before : (image : Image) (c place id : ℕ) (def : ClassDef) (fs : List FieldDef) (k : ℕ) (f : FieldDef) → Stand image c place id fs
    → slice_get fs k ≡ Some f → has_cell def f ≡ true → words_before image (id + k) (cells_from def id fs) ≡ words_in def (take k fs)
own_before image c place id def [] k f stand there cell = absurd (cc)
own_before image c place id def (g ∷ fs) zero f stand there cell =
    let same : g ≡ f = cc in
    let e : id + 0 ≡ id = omega arith in
    rw (e, same) (rw (cell, cells_from) (rw (same_self id, words_before) refl))
own_before image c place id def (g ∷ fs) (suc k) f stand there cell =
    let e : id + suc k ≡ suc id + k = omega arith in
    rw e (go (has_cell def g) refl (own_before image c (suc place) (suc id) def fs k f (stand_next image c place id g fs stand) there cell))
  where
    here : words_at image id ≡ words_of g.ty
    here = rw (stand_here image c place id g fs stand, words_at) refl

    apart : nat_eq id (suc id + k) ≡ false
    apart = grind (arith, nat_tests)

    go : (b : Bool) → has_cell def g ≡ b
        → words_before image (suc id + k) (cells_from def (suc id) fs) ≡ words_in def (take k fs)
        → words_before image (suc id + k) (cells_from def id (g ∷ fs)) ≡ words_in def (take (suc k) (g ∷ fs))
    go true b rest = rw (b, cells_from, words_in, cell_words) (rw (apart, words_before) (rw (here, rest) refl))
    go false b rest = rw (b, cells_from, words_in, cell_words) (rw rest (omega arith))

-- ---- slots

slot_is : (image : Image) → HasFields image → IsAcyclic image.classes → (i k : ℕ) (info : ClassInfo) (f : FieldDef)
    → slice_get image.classes i ≡ Some info → slice_get info.def.fields k ≡ Some f
    → slot_at image (first_field image.classes i + k)
    ≡ slot_after info.def (chain_words image.classes (superclasses image.classes i) + words_in info.def (take k info.def.fields)) f
slot_is image is acyclic i k info f class there = rw (at, slot_at) (go (has_cell info.def f) refl)
  where
    x : ℕ
    x = first_field image.classes i + k

    at : field_at image (first_field image.classes i + k) ≡ Some (field_of i k (first_field image.classes i + k) f)
    at = field_numbered image is i k info f class there

    same : has_cells image (field_of i k (first_field image.classes i + k) f) ≡ has_cell info.def f
    same = rw class refl

    within : i < length image.classes
    within = slice_get_within image.classes i info class

    own : own_cells image.classes i ≡ cells_from info.def (first_field image.classes i) info.def.fields
    own = rw class refl

    go : (b : Bool) → has_cell info.def f ≡ b
        → slot_of image (field_of i k (first_field image.classes i + k) f)
        ≡ slot_after info.def (chain_words image.classes (superclasses image.classes i) + words_in info.def (take k info.def.fields)) f
    go false e = let h = same ∙ e in rw (h, slot_of, e, slot_after) refl
    go true e =
        let h = same ∙ e in
        let others = chain_other image is (superclasses image.classes i) (first_field image.classes i + k) (field_of i k (first_field image.classes i + k) f) at (acyclic i) in
        let split = before_append image (first_field image.classes i + k) (chain_cells image.classes (superclasses image.classes i)) (own_cells image.classes i) others in
        let last = own_before image i 0 (first_field image.classes i) info.def info.def.fields k f (stand_all image is i info class) there e in
        let cells : words_before image (first_field image.classes i + k) (slots_at image i) ≡ chain_words image.classes (superclasses image.classes i) + words_in info.def (take k info.def.fields) =
        ap (words_before image (first_field image.classes i + k)) (slots_are image is i within)
        ∙ (split ∙ rw (own, last, words_of_chain image is (superclasses image.classes i)) refl) in
        rw (h, slot_of, e, slot_after) cells

infos_get : (def : ClassDef) (i place words : ℕ) (fs : List FieldDef) (k : ℕ) (y : FieldInfo) → slice_get (infos_from def i place words fs) k ≡ Some y
    → (f : FieldDef) × ((slice_get fs k ≡ Some f) × (y ≡ record { class = class_id i; place = place + k; slot = slot_after def (words + words_in def (take k fs)) f }))
infos_get def i place words [] k y there = absurd (cc)
infos_get def i place words (f ∷ fs) zero y there =
    let e : place + 0 ≡ place = omega arith in let z : words + 0 ≡ words = omega arith in (f, (refl, rw (e, z) cc))
infos_get def i place words (f ∷ fs) (suc k) y there =
    let h = infos_get def i (suc place) (words + cell_words def f) fs k y there in
    let e : place + suc k ≡ suc place + k = omega arith in
    let z : words + (cell_words def f + words_in def (take k fs)) ≡ (words + cell_words def f) + words_in def (take k fs) = omega arith in
    (h.0, (h.1.0, rw (e, z) h.1.1))

infos_length : (def : ClassDef) (i place words : ℕ) (fs : List FieldDef) → length (infos_from def i place words fs) ≡ length fs
infos_length def i place words [] = refl
infos_length def i place words (f ∷ fs) = ap (λ n. suc n) (infos_length def i (suc place) (words + cell_words def f) fs)

-- ---- lists

take_one : {X : Type 0} (xs : List X) (n : ℕ) (x : X) → slice_get xs n ≡ Some x → take (suc n) xs ≡ take n xs ++ x ∷ []
take_one [] n x there = absurd (cc)
take_one (y ∷ xs) zero x there = let same : y ≡ x = cc in rw same refl
take_one (y ∷ xs) (suc n) x there = ap (λ ys. y ∷ ys) (take_one xs n x there)

take_more_all : {X : Type 0} (xs ys : List X) (n : ℕ) → ((k : ℕ) (y : X) → slice_get ys k ≡ Some y → slice_get xs (n + k) ≡ Some y)
    → take n xs ++ ys ≡ take (n + length ys) xs
take_more_all xs [] n same = let e : n + 0 ≡ n = omega arith in rw e (append-nil (take n xs))
take_more_all xs (y ∷ ys) n same =
    let z : n + 0 ≡ n = omega arith in
    let here : slice_get xs n ≡ Some y = rw z at (same 0 y refl) in
    let e : n + suc (length ys) ≡ suc n + length ys = omega arith in
    let rest : take (suc n) xs ++ ys ≡ take (suc n + length ys) xs =
    take_more_all xs ys (suc n) (λ k w there. let f : suc n + k ≡ n + suc k = omega arith in rw f (same (suc k) w there)) in
    let opened : (take n xs ++ y ∷ []) ++ ys ≡ take (suc n + length ys) xs = rw (take_one xs n y here) at rest in
    rw e (sym (append_assoc (take n xs) (y ∷ []) ys) ∙ opened)

enumerated : {X : Type 0} (a : ℕ) (xs : List X) (k : ℕ) (x : X) → slice_get xs k ≡ Some x → slice_get (enumerate_from a xs) k ≡ Some (a + k, x)
enumerated a [] k x there = absurd (cc)
enumerated a (y ∷ xs) zero x there = let same : y ≡ x = cc in let e : a + 0 ≡ a = omega arith in rw (e, same) refl
enumerated a (y ∷ xs) (suc k) x there = let e : a + suc k ≡ (a + 1) + k = omega arith in rw e (enumerated (a + 1) xs k x there)

present : {X : Type 0} (xs : List X) (n : ℕ) → n < length xs → slice_get xs n ≡ None → ⊥
present [] n within none = absurd (omega arith)
present (x ∷ xs) zero within none = absurd (cc)
present (x ∷ xs) (suc n) within none = present xs n (omega arith) none

-- ---- the fields

abbrev with_slots : Image → List FieldInfo
with_slots image = map (field_with_slot image) (enumerate_from 0 image.fields)

with_slot_at : (image : Image) → HasFields image → IsAcyclic image.classes → (i : ℕ) (info : ClassInfo) → slice_get image.classes i ≡ Some info
    → (k : ℕ) (y : FieldInfo) → slice_get (infos_from info.def i 0 (chain_words image.classes (superclasses image.classes i)) info.def.fields) k ≡ Some y
    → slice_get (with_slots image) (first_field image.classes i + k) ≡ Some y
with_slot_at image is acyclic i info class k y there =
    let got = infos_get info.def i 0 (chain_words image.classes (superclasses image.classes i)) info.def.fields k y there in
    let x : ℕ = first_field image.classes i + k in
    let stands = field_info_numbered image is i k info got.0 class got.1.0 in
    let z : 0 + k ≡ k = omega arith in
    let w : 0 + (first_field image.classes i + k) ≡ first_field image.classes i + k = omega arith in
    let counted = enumerated 0 image.fields (first_field image.classes i + k) (field_info i k) stands in
    rw (slice_get-map (field_with_slot image) (enumerate_from 0 image.fields) (first_field image.classes i + k), counted, w)
    (rw (slot_is image is acyclic i k info got.0 class got.1.0) (ap (λ v. Some v) (sym (rw z at got.1.1))))

below_more : (image : Image) → HasFields image → IsAcyclic image.classes → (n : ℕ) (o : Option ClassInfo) → n < length image.classes → slice_get image.classes n ≡ o
    → take (first_field image.classes n) (with_slots image) ++ infos_in n (chain_words image.classes (superclasses image.classes n)) o
    ≡ take (first_field image.classes (n + 1)) (with_slots image)
below_more image is acyclic n None within there = absurd (present image.classes n within there)
below_more image is acyclic n (Some info) within there =
    let own = infos_from info.def n 0 (chain_words image.classes (superclasses image.classes n)) info.def.fields in
    let grown = take_more_all (with_slots image) own (first_field image.classes n) (with_slot_at image is acyclic n info there) in
    let more : first_field image.classes (n + 1) ≡ first_field image.classes n + length own =
    first_more image.classes n info there ∙ ap (λ m. first_field image.classes n + m) (sym (infos_length info.def n 0 (chain_words image.classes (superclasses image.classes n)) info.def.fields)) in
    rw more grown

infos_are : (image : Image) → HasFields image → IsAcyclic image.classes → (n : ℕ) → n ≤ length image.classes
    → infos_below image.classes n ≡ take (first_field image.classes n) (with_slots image)
infos_are image is acyclic zero less = refl
infos_are image is acyclic (suc n) less =
    let so_far : infos_below image.classes n ≡ take (first_field image.classes n) (with_slots image) = infos_are image is acyclic n (omega arith) in
    let more = below_more image is acyclic n (slice_get image.classes n) (omega arith) refl in
    rw so_far (rw add-one at more)

pub slotted_fields : (image : Image) → HasFields image → IsAcyclic image.classes
    → infos_below image.classes (length image.classes) ≡ (slotted image).fields
unfolding slotted
slotted_fields image is acyclic =
    let all : take (length image.classes) image.classes ≡ image.classes = take-length image.classes in
    let many : first_field image.classes (length image.classes) ≡ length image.fields =
    ap (λ cs. sum_by (λ (c : ClassInfo). length c.def.fields) cs) all ∙ sym (field_count image is) in
    let as_many : length (with_slots image) ≡ length image.fields =
    length-map (enumerate_from 0 image.fields) (field_with_slot image) ∙ length-enumerate_from 0 image.fields in
    let enough : length (with_slots image) ≤ first_field image.classes (length image.classes) = omega (arith, many, as_many) in
    infos_are image is acyclic (length image.classes) (omega arith) ∙ take_all (first_field image.classes (length image.classes)) (with_slots image) enough

-- ---- the classes

joined_are : (image : Image) (cells : ℕ → List FieldId) (a : ℕ) (cs : List ClassInfo)
    → ((k : ℕ) → k < length cs → cells (a + k) ≡ slots_at image (a + k))
    → map info_with (zip cs (map cells (range_with_len a (length cs)))) ≡ map (class_with_slots image) (enumerate_from a cs)
joined_are image cells a [] same = refl
joined_are image cells a (c ∷ cs) same =
    let z : a + 0 ≡ a = omega arith in
    let first : 0 < length (c ∷ cs) = omega arith in
    let here : cells a ≡ slots_at image a = rw z at (same 0 first) in
    let rest = joined_are image cells (a + 1) cs (λ k within. let e : (a + 1) + k ≡ a + suc k = omega arith in rw e (same (suc k) (omega arith))) in
    rw here (ap (λ ds. class_with_slots image (a, c) ∷ ds) rest)

pub slotted_classes : (image : Image) → HasFields image
    → map info_with (zip image.classes (slots_below image.classes (length image.classes))) ≡ (slotted image).classes
unfolding slotted
slotted_classes image is =
    joined_are image (object_cells image.classes) 0 image.classes
    (λ k within. let z : 0 + k ≡ k = omega arith in rw z (sym (slots_are image is k within)))

-- ---- what is made of numbered classes

pub made_classes : (cs : List ClassDef) (boot : ℕ) (infos made : List ClassInfo) (slots : List (List FieldId)) → infos ≡ (numbered cs boot).classes
    → slots ≡ slots_below infos (length infos) → made ≡ map info_with (zip infos slots) → made ≡ (slotted (numbered cs boot)).classes
made_classes cs boot infos made slots are laid joined =
    joined ∙ (ap (λ ss. map info_with (zip infos ss)) laid
    ∙ (ap (λ ds. map info_with (zip ds (slots_below ds (length ds)))) are ∙ slotted_classes (numbered cs boot) (numbered_fields cs boot)))

pub made_fields : (cs : List ClassDef) (boot : ℕ) (infos : List ClassInfo) (fields : List FieldInfo) → infos ≡ (numbered cs boot).classes
    → IsAcyclic infos → fields ≡ infos_below infos (length infos) → fields ≡ (slotted (numbered cs boot)).fields
made_fields cs boot infos fields are acyclic laid =
    laid ∙ (ap (λ ds. infos_below ds (length ds)) are
    ∙ slotted_fields (numbered cs boot) (numbered_fields cs boot) (subst (λ ds. IsAcyclic ds) are acyclic))
