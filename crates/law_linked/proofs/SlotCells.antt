-- The cells of an object: where a field's stand, and that those of a superclass come first.
use Rattle.std.proofs.Common.{◌≡◌, ◌+◌, ◌<◌, ◌≤◌, ℕ, zero, suc, Bool, true, false, cond, ◌&&◌, List, [], ◌∷◌, ◌++◌, length, map, Option, Some, None, refl, sym, ap, subst, ◌∙◌, arith}
use Rattle.std.specs.Prelude.{filter, filter_map, nat_eq}
use Rattle.std.specs.List.{range_with_len, cons_option}
use Rattle.std.proofs.lemmas.List.{length-append}
use Rattle.dv_defs.specs.declared.names.FieldId.{FieldId}
use Rattle.dv_typing.specs.declared.typing.RegType.{RegType}
use Rattle.dv_typing.specs.declared.typing.RegType.TheVariants as ty
use Rattle.dv_defs.specs.declared.names.Ty.{Ty}
use Rattle.dv_defs.specs.Images.{Image}
use Rattle.dv_defs.specs.Types.{words_of, is_long}
use Rattle.dv_defs.specs.Pools.{Field, field_at, walk, parent_at}
use Rattle.dv_defs.specs.Order.{has_number}
use Rattle.dv_typing.specs.RegTypes.{reg_types, single_type, type_at}
use Rattle.dv_machine.specs.Heap.{type_of_field, slot_types}
use Rattle.dv_defs.specs.Linked.{cells_of_class, cells_along, words_at, words_before, has_cells}
use Rattle.law_linking.specs.Stripped.{AreInRange}
use Rattle.law_linking.proofs.ReachPlaces.{IsAcyclic, place, place_rises}
use Rattle.law_linking.proofs.Upward.{parent_is_above}

-- ---- lists of cells

at_left : (ts us : List RegType) (k : ℕ) → k < length ts → type_at (ts ++ us) k ≡ type_at ts k
at_left [] us k within = absurd (omega arith)
at_left (t ∷ ts) us zero within = refl
at_left (t ∷ ts) us (suc k) within = at_left ts us k (omega arith)

at_right : (ts us : List RegType) (n k : ℕ) → n ≡ length ts + k → type_at (ts ++ us) n ≡ type_at us k
at_right [] us n k is = let e : n ≡ k = omega arith in ap (type_at us) e
at_right (t ∷ ts) us zero k is = absurd (omega arith)
at_right (t ∷ ts) us (suc n) k is = at_right ts us n k (omega arith)

types_append : (image : Image) (xs ys : List FieldId) → slot_types image (xs ++ ys) ≡ slot_types image xs ++ slot_types image ys
types_append image [] ys = refl
types_append image (x ∷ xs) ys = ap (λ ts. type_of_field (field_at image x.0) ++ ts) (types_append image xs ys) ∙ sym (assoc (type_of_field (field_at image x.0)) (slot_types image xs) (slot_types image ys))
  where
    assoc : (ts us vs : List RegType) → (ts ++ us) ++ vs ≡ ts ++ (us ++ vs)
    assoc [] ys zs = refl
    assoc (x ∷ xs) ys zs = ap (λ ws. x ∷ ws) (assoc xs ys zs)

-- a type has as many cells as words
cells_of_type : (t : Ty) → length (reg_types t) ≡ words_of t
cells_of_type t = by (is_long t)
  where
    by : (b : Bool) → length (elim b as (λ _. List RegType) [ true ↦ ty.LongLo ∷ ty.LongHi ∷ [] | false ↦ single_type t ∷ [] ]) ≡ elim b as (λ _. ℕ) [ true ↦ 2 | false ↦ 1 ]
    by true = refl
    by false = refl

cells_of_field : (image : Image) (x : ℕ) → length (type_of_field (field_at image x)) ≡ words_at image x
cells_of_field image x = by (field_at image x)
  where
    by : (o : Option Field) → length (type_of_field o) ≡ elim o as (λ _. ℕ) [ None ↦ 0 | Some f ↦ words_of f.def.ty ]
    by None = refl
    by (Some f) = cells_of_type f.def.ty

-- ---- a field among others

abbrev pub has_field : ℕ → List FieldId → Bool
has_field x [] = false
has_field x (y ∷ ys) = elim (nat_eq y.0 x) [ true ↦ true | false ↦ has_field x ys ]

pub has_later : (x : ℕ) (xs ys : List FieldId) → has_field x ys ≡ true → has_field x (xs ++ ys) ≡ true
has_later x [] ys has = has
has_later x (y ∷ xs) ys has = by (nat_eq y.0 x) (has_later x xs ys has)
  where
    by : (b : Bool) → has_field x (xs ++ ys) ≡ true → elim b as (λ _. Bool) [ true ↦ true | false ↦ has_field x (xs ++ ys) ] ≡ true
    by true rest = refl
    by false rest = rest

same_number : (a b : ℕ) → nat_eq a b ≡ true → a ≡ b
same_number a b e = grind (arith)

-- its cells stand behind the words of those before it
pub cells_at : (image : Image) (x : ℕ) (f : Field) → field_at image x ≡ Some f → (xs : List FieldId) → has_field x xs ≡ true → (j : ℕ) → j < words_of f.def.ty
    → (type_at (slot_types image xs) (words_before image x xs + j) ≡ type_at (reg_types f.def.ty) j) × (words_before image x xs + j < length (slot_types image xs))
cells_at image x f there [] has j less = absurd (cc)
cells_at image x f there (y ∷ ys) has j less = by (nat_eq y.0 x) refl has (cells_at image x f there ys)
  where
    before : Bool → ℕ
    before b = elim b [ true ↦ 0 | false ↦ words_at image y.0 + words_before image x ys ]

    cells : List RegType
    cells = type_of_field (field_at image y.0)

    by : (b : Bool) → nat_eq y.0 x ≡ b → elim b as (λ _. Bool) [ true ↦ true | false ↦ has_field x ys ] ≡ true
        → (has_field x ys ≡ true → (j : ℕ) → j < words_of f.def.ty → (type_at (slot_types image ys) (words_before image x ys + j) ≡ type_at (reg_types f.def.ty) j) × (words_before image x ys + j < length (slot_types image ys)))
        → (type_at (cells ++ slot_types image ys) (before (nat_eq y.0 x) + j) ≡ type_at (reg_types f.def.ty) j) × (before (nat_eq y.0 x) + j < length (cells ++ slot_types image ys))
    by true e has rest =
        let own : cells ≡ reg_types f.def.ty = ap (λ n. type_of_field (field_at image n)) (same_number y.0 x e) ∙ ap type_of_field there in
        let none : before (nat_eq y.0 x) ≡ 0 = ap before e in
        let first : before (nat_eq y.0 x) + j ≡ j = omega (arith, none) in
        let many : length cells ≡ words_of f.def.ty = ap length own ∙ cells_of_type f.def.ty in (
          ap (type_at (cells ++ slot_types image ys)) first ∙ (at_left cells (slot_types image ys) j (omega (arith, many, less)) ∙ ap (λ ts. type_at ts j) own),
          omega (arith, first, many, less, length-append cells (slot_types image ys)),
        )
    by false e has rest =
        let behind = rest has j less in
        let many : length cells ≡ words_at image y.0 = cells_of_field image y.0 in
        let first : before (nat_eq y.0 x) + j ≡ words_at image y.0 + words_before image x ys + j = ap (λ b. before b + j) e in (
          at_right cells (slot_types image ys) (before (nat_eq y.0 x) + j) (words_before image x ys + j) (omega (arith, first, many)) ∙ behind.0,
          omega (arith, first, many, behind.1, length-append cells (slot_types image ys)),
        )

-- and still where more cells follow
pub cells_at_front : (image : Image) (x : ℕ) (f : Field) → field_at image x ≡ Some f → (xs ys : List FieldId) → has_field x xs ≡ true → (j : ℕ) → j < words_of f.def.ty
    → type_at (slot_types image (xs ++ ys)) (words_before image x xs + j) ≡ type_at (reg_types f.def.ty) j
cells_at_front image x f there xs ys has j less =
    let own = cells_at image x f there xs has j less in
    ap (λ ts. type_at ts (words_before image x xs + j)) (types_append image xs ys) ∙ (at_left (slot_types image xs) (slot_types image ys) (words_before image x xs + j) own.1 ∙ own.0)

-- ---- a field among its class's cells

has_in_range : (a n x : ℕ) → a ≤ x → x < a + n → has_number x (range_with_len a n) ≡ true
has_in_range a zero x above below = absurd (omega arith)
has_in_range a (suc n) x above below = by (nat_eq a x) refl (has_in_range (a + 1) n x)
  where
    further : nat_eq a x ≡ false → a + 1 ≤ x
    further e = grind (arith)

    by : (b : Bool) → nat_eq a x ≡ b → (a + 1 ≤ x → x < (a + 1) + n → has_number x (range_with_len (a + 1) n) ≡ true) → elim b as (λ _. Bool) [ true ↦ true | false ↦ has_number x (range_with_len (a + 1) n) ] ≡ true
    by true e rest = refl
    by false e rest = rest (further e) (omega (arith, below))

abbrev pub by_id : Field → FieldId
by_id f = record { 0 = f.id }

pub has_filtered : (g : ℕ → Option Field) (p : Field → Bool) (x : ℕ) (f : Field) → g x ≡ Some f → f.id ≡ x → p f ≡ true → (xs : List ℕ) → has_number x xs ≡ true
    → has_field x (map by_id (filter p (filter_map g xs))) ≡ true
has_filtered g p x f there own passes [] has = absurd (cc)
has_filtered g p x f there own passes (y ∷ ys) has = by (nat_eq y x) refl has (has_filtered g p x f there own passes ys)
  where
    list : Option Field → List FieldId
    list o = map by_id (filter p (cons_option o (filter_map g ys)))

    kept : (h : Field) (b : Bool) → has_field x (map by_id (filter p (filter_map g ys))) ≡ true → has_field x (map by_id (cond b (h ∷ filter p (filter_map g ys)) (filter p (filter_map g ys)))) ≡ true
    kept h true rest = inner (nat_eq h.id x) rest
      where
        inner : (b : Bool) → has_field x (map by_id (filter p (filter_map g ys))) ≡ true → elim b as (λ _. Bool) [ true ↦ true | false ↦ has_field x (map by_id (filter p (filter_map g ys))) ] ≡ true
        inner true rest = refl
        inner false rest = rest
    kept h false rest = rest

    later : (o : Option Field) → has_field x (map by_id (filter p (filter_map g ys))) ≡ true → has_field x (list o) ≡ true
    later None rest = rest
    later (Some h) rest = kept h (p h) rest

    here : (b : Bool) → p f ≡ b → b ≡ true → has_field x (map by_id (cond b (f ∷ filter p (filter_map g ys)) (filter p (filter_map g ys)))) ≡ true
    here true e is = let id : nat_eq f.id x ≡ true = grind (arith) in ap (λ (b : Bool). elim b as (λ _. Bool) [ true ↦ true | false ↦ has_field x (map by_id (filter p (filter_map g ys))) ]) id
    here false e is = absurd (cc)

    by : (b : Bool) → nat_eq y x ≡ b → elim b as (λ _. Bool) [ true ↦ true | false ↦ has_number x ys ] ≡ true
        → (has_number x ys ≡ true → has_field x (map by_id (filter p (filter_map g ys))) ≡ true) → has_field x (list (g y)) ≡ true
    by true e has rest = ap (λ o. has_field x (list o)) (ap g (same_number y x e) ∙ there) ∙ (ap (λ (b : Bool). has_field x (map by_id (cond b (f ∷ filter p (filter_map g ys)) (filter p (filter_map g ys))))) passes ∙ here true passes refl)
    by false e has rest = later (g y) (rest has)

pub has_own : (image : Image) (x : ℕ) (f : Field) → field_at image x ≡ Some f → f.id ≡ x → x < length image.fields → has_cells image f ≡ true → has_field x (cells_of_class image f.info.class.0) ≡ true
has_own image x f there own within cells =
    let same : nat_eq f.info.class.0 f.info.class.0 ≡ true = itself f.info.class.0 in
    has_filtered (field_at image) (λ g. nat_eq g.info.class.0 f.info.class.0 && has_cells image g) x f there own
    ((λ j. same j && cells j)) (range_with_len 0 (length image.fields)) (has_in_range 0 (length image.fields) x (omega arith) (omega (arith, within)))
  where
    itself : (n : ℕ) → nat_eq n n ≡ true
    itself n = grind (arith)

-- ---- the superclass's cells come first

pub along_front : (image : Image) (cs ds : List ℕ) → (rest : List FieldId) × (cells_along image (cs ++ ds) ≡ cells_along image ds ++ rest)
along_front image [] ds = ([], nothing (cells_along image ds))
  where
    nothing : (xs : List FieldId) → xs ≡ xs ++ []
    nothing [] = refl
    nothing (x ∷ xs) = ap (λ ys. x ∷ ys) (nothing xs)
along_front image (c ∷ cs) ds =
    let there = along_front image cs ds in
    (there.0 ++ cells_of_class image c, ap (λ xs. xs ++ cells_of_class image c) there.1 ∙ assoc (cells_along image ds) there.0 (cells_of_class image c))
  where
    assoc : (xs ys zs : List FieldId) → (xs ++ ys) ++ zs ≡ xs ++ (ys ++ zs)
    assoc [] ys zs = refl
    assoc (x ∷ xs) ys zs = ap (λ ws. x ∷ ws) (assoc xs ys zs)

-- a walk goes on from each class that it comes to
pub walk_from : (image : Image) → AreInRange image.classes → IsAcyclic image → (m c d : ℕ) → place image c < m → has_number d (walk image m (Some c)) ≡ true
    → (front : List ℕ) × (n : ℕ) × (place image d < n) × (walk image m (Some c) ≡ front ++ walk image n (Some d))
walk_from image range acyclic zero c d less has = absurd (omega arith)
walk_from image range acyclic (suc m) c d less has = by (nat_eq c d) refl has (parent_at image c) refl (walk_from image range acyclic m)
  where
    by : (b : Bool) → nat_eq c d ≡ b → elim b as (λ _. Bool) [ true ↦ true | false ↦ has_number d (walk image m (parent_at image c)) ] ≡ true
        → (o : Option ℕ) → parent_at image c ≡ o
        → ((c d : ℕ) → place image c < m → has_number d (walk image m (Some c)) ≡ true → (front : List ℕ) × (n : ℕ) × (place image d < n) × (walk image m (Some c) ≡ front ++ walk image n (Some d)))
        → (front : List ℕ) × (n : ℕ) × (place image d < n) × (c ∷ walk image m (parent_at image c) ≡ front ++ walk image n (Some d))
    by true e has o up rest =
        let same : c ≡ d = same_number c d e in
        ([], suc m, subst (λ x. place image x < suc m) same less, ap (λ x. walk image (suc m) (Some x)) same)
    by false e has None up rest = absurd (none m (sym (ap (λ (o : Option ℕ). has_number d (walk image m o)) up) ∙ has))
      where
        none : (m : ℕ) → has_number d (walk image m None) ≡ true → {X : Type 0} → X
        none zero h = absurd (cc)
        none (suc m) h = absurd (cc)
    by false e has (Some p) up rest =
        let rises = place_rises image range acyclic c p (parent_is_above image c p up) in
        let there = rest p d (omega (arith, rises, less)) (sym (ap (λ (o : Option ℕ). has_number d (walk image m o)) up) ∙ has) in
        (c ∷ there.0, there.1, there.2, ap (λ xs. c ∷ xs) (ap (walk image m) up ∙ there.3))
