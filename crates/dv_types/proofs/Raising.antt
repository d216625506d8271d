-- A state that is raised by another, part by part.
use Rattle.std.proofs.Common.{◌≡◌, ◌≢◌, ◌⊎◌, inl, inr, ℕ, zero, suc, ◌+◌, ◌<◌, ◌≤◌, Bool, true, false, ◌&&◌, ◌||◌, not, List, [], ◌∷◌, length, Option, Some, None, refl, sym, ap, subst, ◌∙◌, arith, get_or}
use Rattle.std.specs.Prelude.{All, slice_set}
use Rattle.std.proofs.lemmas.Bool.{cases_eq, cases_lt}
use Rattle.std.proofs.lemmas.List.{get_or-map, get_or-set_other, get_or-set_same, length-map, length-set}
use Rattle.dv_defs.specs.declared.names.Ty.{Ty}
use Rattle.dv_defs.specs.Images.{Image}
use Rattle.dv_defs.specs.Types.{is_reference}
use Rattle.dv_defs.specs.Order.{extends, sub}
use Rattle.dv_defs.specs.Common.{common_super}
use Rattle.dv_typing.specs.declared.typing.PendingType.{PendingType}
use Rattle.dv_typing.specs.declared.typing.PendingType.TheVariants as pend
use Rattle.dv_typing.specs.declared.typing.RegState.{RegState}
use Rattle.dv_typing.specs.declared.typing.RegType.{RegType}
use Rattle.dv_typing.specs.declared.typing.RegType.TheVariants as ty
use Rattle.dv_typing.specs.RegTypes.{Types, type_at, under}
use Rattle.dv_typing.specs.Joins.{join_caught, join_classes, join_result, join_type, joined, same_type}
use Rattle.law_types.specs.Hierarchy.{IsHierarchy, IsOrder}
use Rattle.law_types.proofs.Arrays.{super_common}
use Rattle.law_types.proofs.Equal.{ty_equal}
use Rattle.law_types.proofs.Laws.{types_are_ordered}
use Rattle.law_types.proofs.Types.{class_is_reference, type_is, under_class_reference}
use Rattle.dv_bases.specs.Bases.{Names, IsWord, word_type}
use Rattle.dv_types.specs.Rows.{types_of}
use Rattle.dv_types.specs.Under.{caught_under, pending_under, regs_under, state_under}
use Rattle.dv_types.proofs.Below.{regs_each, regs_from}
use Rattle.dv_types.proofs.Levels.{super_same}
use Rattle.dv_types.proofs.Same.{one_type, type_is as same_is, type_same}

-- ---- one type

module _ (image : Image) (h : IsHierarchy image) where
  -- where the other is under it, a type stays
  pub join_stays : (s t : RegType) → under image t s ≡ true → join_type image s t ≡ s
  join_stays s t u = by (under image s t) (under image t s) refl u
    where
      by : (a b : Bool) → under image s t ≡ a → b ≡ true → elim a [ true ↦ t | false ↦ elim b [ true ↦ s | false ↦ join_classes image s t ] ] ≡ s
      by true b x e = one_type image h t s u x
      by false true x e = refl
      by false false x e = absurd (cc)

  -- ---- a pending result

  pub result_stays : (own by : PendingType) → pending_under by own ≡ true → join_result own by ≡ own
  result_stays pend.None by u = refl
  result_stays (pend.One t) pend.None u = absurd (cc)
  result_stays (pend.One t) pend.Long u = absurd (cc)
  result_stays (pend.One t) (pend.One s) u = kept (same_type t s) (subst (λ (x : RegType). same_type t x ≡ true) (sym (same_is s t u)) (type_same t))
    where
      kept : (b : Bool) → b ≡ true → elim b [ true ↦ pend.One s | false ↦ pend.None ] ≡ pend.One t
      kept true x = ap pend.One (same_is s t u)
      kept false x = absurd (cc)
  result_stays pend.Long pend.None u = absurd (cc)
  result_stays pend.Long (pend.One s) u = absurd (cc)
  result_stays pend.Long pend.Long u = refl

  pub result_falls : (own by : PendingType) → pending_under by own ≡ false → join_result own by ≡ pend.None
  result_falls pend.None by u = refl
  result_falls (pend.One t) pend.None u = refl
  result_falls (pend.One t) pend.Long u = refl
  result_falls (pend.One t) (pend.One s) u = lost (same_type t s) refl
    where
      lost : (b : Bool) → same_type t s ≡ b → elim b [ true ↦ pend.One s | false ↦ pend.None ] ≡ pend.None
      lost true x = absurd (let e : same_type s t ≡ true = subst (λ (y : RegType). same_type y t ≡ true) (same_is t s x) (type_same t) in cc)
      lost false x = refl
  result_falls pend.Long pend.None u = refl
  result_falls pend.Long (pend.One s) u = refl
  result_falls pend.Long pend.Long u = absurd (cc)

  -- ---- a caught type

  -- what is no reference stands alone
  alone_low : (x y : Ty) → sub image x y ≡ true → is_reference x ≡ false → x ≡ y
  unfolding sub
  alone_low x y u r = elim (type_is image (extends image) x y u) [
    | inl same ↦ same
    | inr v ↦ absurd (let q : is_reference x ≡ true = under_class_reference image (extends image) v.more x v.name (omega (arith, v.dims)) v.tested in cc)
  ]

  alone_high : (x y : Ty) → sub image x y ≡ true → is_reference y ≡ false → x ≡ y
  unfolding sub
  alone_high x y u r = elim (type_is image (extends image) x y u) [
    | inl same ↦ same
    | inr v ↦ absurd (let q : is_reference y ≡ true = class_is_reference y v.name v.is_class in cc)
  ]

  order : IsOrder image
  order = types_are_ordered image h

  same_stays : (c d : Ty) → d ≡ c → common_super image c d ≡ c
  same_stays c d e = super_same image c d (ty_equal c d (sym e))

  super_stays : (c d : Ty) → sub image d c ≡ true → common_super image c d ≡ c
  super_stays c d u = by (is_reference c) (is_reference d) refl refl
    where
      by : (a b : Bool) → is_reference c ≡ a → is_reference d ≡ b → common_super image c d ≡ c
      by false b x y = same_stays c d (alone_high d c u x)
      by true false x y = same_stays c d (alone_low d c u y)
      by true true x y =
          let common = super_common image h c d x y in
          order.antisymmetric (common_super image c d) c (common.least c (order.same c) u) common.first

  pub caught_stays : (own by : Option Ty) → caught_under image by own ≡ true → own ≡ join_caught image own by
  caught_stays None by u = refl
  caught_stays (Some c) None u = absurd (cc)
  caught_stays (Some c) (Some d) u = ap Some (sym (super_stays c d u))

-- ---- registers

joined_by : (image : Image) (ss ts us : Types) → length ss ≡ length ts → length us ≡ length ss → ((k : ℕ) → k < length us → type_at us k ≡ join_type image (type_at ss k) (type_at ts k)) → us ≡ joined image ss ts
joined_by image [] [] [] e f each = refl
joined_by image [] [] (u ∷ us) e f each = absurd (omega (arith, f))
joined_by image [] (t ∷ ts) us e f each = absurd (omega (arith, e))
joined_by image (s ∷ ss) [] us e f each = absurd (omega (arith, e))
joined_by image (s ∷ ss) (t ∷ ts) [] e f each = absurd (omega (arith, f))
joined_by image (s ∷ ss) (t ∷ ts) (u ∷ us) e f each =
    λ i. each 0 (omega arith) i ∷ joined_by image ss ts us (omega (arith, e)) (omega (arith, f)) (λ k l. each (suc k) (omega (arith, l))) i

past_at : (ts : Types) (k : ℕ) → length ts ≤ k → type_at ts k ≡ ty.Conflict
past_at [] k l = refl
past_at (t ∷ ts) zero l = absurd (omega arith)
past_at (t ∷ ts) (suc k) l = past_at ts k (omega arith)

-- the registers below i are raised; the others are as they were
pub record AreRaised (names : Names) (old by own : List ℕ) (i : ℕ) (rose : Bool) : Type 0 where
  pub count : length own ≡ length old
  pub words : All (IsWord names) own
  pub each : (k : ℕ) → k < i → word_type names (get_or own k 0) ≡ join_type names.image (word_type names (get_or old k 0)) (word_type names (get_or by k 0))
  pub rest : (k : ℕ) → i ≤ k → get_or own k 0 ≡ get_or old k 0
  pub risen : rose ≡ true → (k : ℕ) × (k < length old) × (under names.image (word_type names (get_or by k 0)) (word_type names (get_or old k 0)) ≡ false)
  pub still : rose ≡ false → (k : ℕ) → k < i → under names.image (word_type names (get_or by k 0)) (word_type names (get_or old k 0)) ≡ true
  pub kept : rose ≡ false → own ≡ old

module _ (names : Names) (h : IsHierarchy names.image) (old by : List ℕ) where
  abbrev low : ℕ → RegType
  low k = word_type names (get_or by k 0)

  abbrev high : ℕ → RegType
  high k = word_type names (get_or old k 0)

  pub none_raised : All (IsWord names) old → AreRaised names old by old 0 false
  none_raised words =
      record {
        count = refl;
        words = words;
        each = λ k l. absurd (omega (arith, l));
        rest = λ k l. refl;
        risen = λ e. absurd (cc);
        still = λ e k l. absurd (omega (arith, l));
        kept = λ e. refl;
      }

  pub as_before : (own now : List ℕ) (i : ℕ) (rose rises : Bool) → now ≡ own → rises ≡ rose → AreRaised names old by own i rose → AreRaised names old by now i rises
  as_before own now i rose rises e f r = subst (λ (xs : List ℕ). AreRaised names old by xs i rises) (sym e) (subst (λ (b : Bool). AreRaised names old by own i b) (sym f) r)

  below_or : (i k : ℕ) → k < i + 1 → (k < i) ⊎ (k ≡ i)
  below_or i k l = elim (cases_lt k i) [ inl less ↦ inl less | inr more ↦ inr (omega (arith, l, more)) ]

  -- the register stays
  pub one_stays : (own : List ℕ) (i : ℕ) (rose : Bool) → AreRaised names old by own i rose → under names.image (low i) (word_type names (get_or own i 0)) ≡ true → AreRaised names old by own (i + 1) rose
  one_stays own i rose r u =
      record {
        count = r.count;
        words = r.words;
        each = λ k l. each k (below_or i k l);
        rest = λ k l. r.rest k (omega (arith, l));
        risen = r.risen;
        still = λ e k l. still e k (below_or i k l);
        kept = r.kept;
      }
    where
      same : word_type names (get_or own i 0) ≡ high i
      same = ap (λ (w : ℕ). word_type names w) (r.rest i (omega arith))

      below : under names.image (low i) (high i) ≡ true
      below = subst (λ (t : RegType). under names.image (low i) t ≡ true) same u

      each : (k : ℕ) → (k < i) ⊎ (k ≡ i) → word_type names (get_or own k 0) ≡ join_type names.image (high k) (low k)
      each k (inl l) = r.each k l
      each k (inr e) = subst (λ (x : ℕ). word_type names (get_or own x 0) ≡ join_type names.image (high x) (low x)) (sym e) (same ∙ sym (join_stays names.image h (high i) (low i) below))

      still : rose ≡ false → (k : ℕ) → (k < i) ⊎ (k ≡ i) → under names.image (low k) (high k) ≡ true
      still e k (inl l) = r.still e k l
      still e k (inr q) = subst (λ (x : ℕ). under names.image (low x) (high x) ≡ true) (sym q) below

  -- the register rises
  pub one_rises : (own : List ℕ) (i w : ℕ) (rose : Bool) → AreRaised names old by own i rose → i < length own → under names.image (low i) (word_type names (get_or own i 0)) ≡ false → word_type names w ≡ join_type names.image (word_type names (get_or own i 0)) (low i) → IsWord names w → AreRaised names old by (slice_set own i w) (i + 1) true
  one_rises own i w rose r within u told word =
      record {
        count = length-set own i w ∙ r.count;
        words = λ k d l. is_word k d (let q = length-set own i w in omega (arith, l, q)) (cases_eq k i);
        each = λ k l. each k (cases_eq k i) l;
        rest = λ k l. get_or-set_other own i k w 0 (λ e. omega (arith, e, l)) ∙ r.rest k (omega (arith, l));
        risen = λ e. (i, (let c = r.count in omega (arith, c, within)), above);
        still = λ e. absurd (cc);
        kept = λ e. absurd (cc);
      }
    where
      same : word_type names (get_or own i 0) ≡ high i
      same = ap (λ (x : ℕ). word_type names x) (r.rest i (omega arith))

      above : under names.image (low i) (high i) ≡ false
      above = subst (λ (t : RegType). under names.image (low i) t ≡ false) same u

      is_word : (k d : ℕ) → k < length own → (k ≡ i) ⊎ (k ≢ i) → IsWord names (get_or (slice_set own i w) k d)
      is_word k d l (inl e) = subst (λ (x : ℕ). IsWord names x) (sym (ap (λ (x : ℕ). get_or (slice_set own i w) x d) e ∙ get_or-set_same own i w d within)) word
      is_word k d l (inr n) = subst (λ (x : ℕ). IsWord names x) (sym (get_or-set_other own i k w d n)) (r.words k d l)

      each : (k : ℕ) → (k ≡ i) ⊎ (k ≢ i) → k < i + 1 → word_type names (get_or (slice_set own i w) k 0) ≡ join_type names.image (high k) (low k)
      each k (inl e) l =
          subst (λ (x : ℕ). word_type names (get_or (slice_set own i w) x 0) ≡ join_type names.image (high x) (low x)) (sym e)
          (ap (λ (x : ℕ). word_type names x) (get_or-set_same own i w 0 within) ∙ (told ∙ ap (λ (t : RegType). join_type names.image t (low i)) same))
      each k (inr n) l = ap (λ (x : ℕ). word_type names x) (get_or-set_other own i k w 0 n) ∙ r.each k (omega (arith, l, n))

  -- ---- all of them

  module _ (own : List ℕ) (i : ℕ) (rose : Bool) (r : AreRaised names old by own i rose) (all : length own ≤ i) (even : length old ≡ length by) where
    at : (xs : List ℕ) (k : ℕ) → k < length xs → type_at (types_of names xs) k ≡ word_type names (get_or xs k 0)
    at xs k l = get_or-map (word_type names) xs k 0 ty.Conflict l

    long : (xs : List ℕ) → length (types_of names xs) ≡ length xs
    long xs = length-map xs (word_type names)

    pub all_joined : types_of names own ≡ joined names.image (types_of names old) (types_of names by)
    all_joined =
        joined_by names.image (types_of names old) (types_of names by) (types_of names own)
        (long old ∙ (even ∙ sym (long by))) (long own ∙ (r.count ∙ sym (long old)))
        (λ k l.
        let within : k < length own = (let q = long own in omega (arith, l, q)) in
        let c = r.count in
        at own k within ∙ (r.each k (omega (arith, within, all)) ∙ sym (λ j. join_type names.image (at old k (omega (arith, within, c)) j) (at by k (omega (arith, within, c, even)) j))))

    under_at : (k : ℕ) → k < length own → under names.image (type_at (types_of names by) k) (type_at (types_of names old) k) ≡ under names.image (low k) (high k)
    under_at k l = let c = r.count in λ j. under names.image (at by k (omega (arith, l, c, even)) j) (at old k (omega (arith, l, c)) j)

    all_under : rose ≡ false → (k : ℕ) → (k < length own) ⊎ (length own ≤ k) → under names.image (type_at (types_of names by) k) (type_at (types_of names old) k) ≡ true
    all_under e k (inl l) = under_at k l ∙ r.still e k (omega (arith, l, all))
    all_under e k (inr g) = ap (λ (t : RegType). under names.image (type_at (types_of names by) k) t) (past_at (types_of names old) k (let q = long old in let c = r.count in omega (arith, g, q, c)))

    pub all_risen : rose ≡ not (regs_under names.image (types_of names by) (types_of names old))
    all_risen = by_flag rose refl
      where
        contrary : (k : ℕ) → k < length old → under names.image (low k) (high k) ≡ false → (b : Bool) → regs_under names.image (types_of names by) (types_of names old) ≡ b → true ≡ not b
        contrary k l n false e = refl
        contrary k l n true e =
            absurd (let x = regs_each names.image (types_of names by) (types_of names old) e k in let c = r.count in let y = under_at k (omega (arith, l, c)) in cc)

        by_flag : (b : Bool) → rose ≡ b → rose ≡ not (regs_under names.image (types_of names by) (types_of names old))
        by_flag true e = let (k, l, n) = r.risen e in e ∙ contrary k l n (regs_under names.image (types_of names by) (types_of names old)) refl
        by_flag false e =
            e ∙ sym (ap not (regs_from names.image (types_of names by) (types_of names old) (long by ∙ (sym even ∙ sym (long old))) (λ k. all_under e k (cases_lt k (length own)))))

-- ---- the state

not_all : (a b c d p q r s : Bool) → a ≡ not p → b ≡ not q → c ≡ not r → d ≡ not s → (a || (b || (c || d))) ≡ not (p && (q && (r && s)))
not_all a b c d true true true true x y z w = rw (x, y, z, w) refl
not_all a b c d true true true false x y z w = rw (x, y, z, w) refl
not_all a b c d true true false s x y z w = rw (x, y, z) refl
not_all a b c d true false r s x y z w = rw (x, y) refl
not_all a b c d false q r s x y z w = rw x refl

pub parts_risen : (image : Image) (s t : RegState) (a b c d rose : Bool) → rose ≡ (a || (b || (c || d)))
    → a ≡ not (regs_under image t.regs s.regs) → b ≡ not (pending_under t.result s.result) → c ≡ not (caught_under image t.caught s.caught) → d ≡ not (not t.this_pending || s.this_pending)
    → rose ≡ not (state_under image t s)
parts_risen image s t a b c d rose e x y z w =
    e ∙ not_all a b c d (regs_under image t.regs s.regs) (pending_under t.result s.result) (caught_under image t.caught s.caught) (not t.this_pending || s.this_pending) x y z w
