-- New objects in registers, and what their constructors make of them.
use Rattle.std.proofs.Common.{◌≡◌, ◌≢◌, ◌↔◌, ◌⊎◌, inl, inr, ℕ, ◌<◌, ◌≤◌, List, length, true, false, Some, refl, sym, ap, ◌∙◌, arith}
use Rattle.std.specs.Prelude.{slice_set, map, if◌then◌else◌}
use Rattle.std.proofs.lemmas.Bool.{cases_lt, cases_eq, eq-eqb, ne_eqb}
use Rattle.std.proofs.lemmas.List.{length-set, get_or-set_same, get_or-set_other, set_past}
use Rattle.std.proofs.Math.ListN.{get_or-map, length-map}
use Rattle.std.proofs.lemmas.Option.{same_Some}
use Rattle.dv_defs.specs.declared.names.Ty.{Ty}
use Rattle.dv_defs.specs.Images.{Image}
use Rattle.dv_machine.specs.Value.{Value}
use Rattle.dv_machine.specs.Value as v
use Rattle.dv_typing.specs.declared.typing.RegType.{RegType}
use Rattle.dv_typing.specs.declared.typing.RegType.TheVariants as ty
use Rattle.dv_defs.specs.Pools.{class_type}
use Rattle.dv_typing.specs.RegTypes.{Types, type_at}
use Rattle.dv_typing.specs.Transfer.{write_type, break_before, break_after, replaced, replaced_this}
use Rattle.dv_machine.specs.Heap.{Heap}
use Rattle.dv_machine.specs.State.{reg_at}
use Rattle.dv_machine.specs.Calls.{object_of, initialised}
use Rattle.dv_machine.specs.Conforming.{Own, Conforms, IsOf, IsUninit, IsGood}
use Rattle.law_machine.specs.StepLaws.{NewInstanceKeeps, ConstructorKeeps, OwnConstructorKeeps}
use Rattle.law_machine.proofs.lemmas.Common.Facts.{fits_of}
use Rattle.law_machine.proofs.lemmas.Registers.Written.{Source, old, plain, AreFrom, from_good, broken}

replaced_same : (a b : ℕ) (t : RegType) → a ≡ b → replaced a t (ty.Uninit b) ≡ t
replaced_same a b t e = ap (λ z. elim z as (λ w. RegType) [ true ↦ t | false ↦ ty.Uninit b ]) (eq-eqb a b e)

replaced_other : (a b : ℕ) (t : RegType) → a ≢ b → replaced a t (ty.Uninit b) ≡ ty.Uninit b
replaced_other a b t e = ap (λ z. elim z as (λ w. RegType) [ true ↦ t | false ↦ ty.Uninit b ]) (ne_eqb a b e)

made_same : (o a p : ℕ) → o ≡ p → initialised o (v.Uninit a p) ≡ v.Ref p
made_same o a p e = ap (λ z. (if z then v.Ref p else v.Uninit a p)) (eq-eqb o p e)

made_other : (o a p : ℕ) → o ≢ p → initialised o (v.Uninit a p) ≡ v.Uninit a p
made_other o a p e = ap (λ z. (if z then v.Ref p else v.Uninit a p)) (ne_eqb o p e)

this_same : (o p : ℕ) → o ≡ p → initialised o (v.UninitThis p) ≡ v.Ref p
this_same o p e = ap (λ z. (if z then v.Ref p else v.UninitThis p)) (eq-eqb o p e)

this_other : (o p : ℕ) → o ≢ p → initialised o (v.UninitThis p) ≡ v.UninitThis p
this_other o p e = ap (λ z. (if z then v.Ref p else v.UninitThis p)) (ne_eqb o p e)

site_same : (a b : ℕ) → ty.Uninit a ≡ ty.Uninit b → a ≡ b
site_same a b e = cc

this_no_site : (a : ℕ) → ty.UninitThis ≡ ty.Uninit a → ⊥
this_no_site a e = cc

-- ---- constructors

module _ (image : Image) (heap : Heap) (own : Own) (xs : List Value) (ts : Types) (h : IsGood image heap own xs ts) where
  -- registers of the type hold the object, and no others of uninitialised types do
  abbrev IsHeldBy : RegType → ℕ → Value → RegType → Type 0
  IsHeldBy t o x u = IsUninit u → (u ≡ t) ↔ (object_of x ≡ Some o)

  held_by : (k o : ℕ) (t : RegType) → IsUninit t → type_at ts k ≡ t → object_of (reg_at xs k) ≡ Some o → (j : ℕ) → IsHeldBy t o (reg_at xs j) (type_at ts j)
  held_by k o t n e f j u = let q = h.apart j k u (rw e n) in rw (e, f) at q

  -- a register of no uninitialised type holds the same
  module _ (f : RegType → RegType) (o j : ℕ) where
    same_one : (x : Value) (t : RegType) → x ≡ reg_at xs j → t ≡ type_at ts j → Conforms image heap own x t → (IsUninit t → ⊥) → f t ≡ t → Source image heap own xs ts (initialised o x) (f t)
    same_one x ty.Conflict ex et k n e = rw e (plain (λ x. x) tt)
    same_one v.Zero ty.Zero ex et k n e = rw e (old j ex et)
    same_one v.Zero ty.Int ex et k n e = rw e (old j ex et)
    same_one (v.Num m) ty.Int ex et k n e = rw e (old j ex et)
    same_one (v.Lo m) ty.LongLo ex et k n e = rw e (old j ex et)
    same_one (v.Hi m) ty.LongHi ex et k n e = rw e (old j ex et)
    same_one v.Zero (ty.Class c) ex et k n e = rw e (old j ex et)
    same_one (v.Ref p) (ty.Class c) ex et k n e = rw e (old j ex et)
    same_one x (ty.Uninit a) ex et k n e = absurd (n tt)
    same_one x ty.UninitThis ex et k n e = absurd (n tt)
    same_one x t ex et k n e = absurd k

  module _ (at o : ℕ) (d : Ty) (is : IsOf image heap o d) where
    made_one : (j : ℕ) (x : Value) (t : RegType) → x ≡ reg_at xs j → t ≡ type_at ts j → Conforms image heap own x t → IsHeldBy (ty.Uninit at) o x t → Source image heap own xs ts (initialised o x) (replaced at (ty.Class d) t)
    made_one j (v.Uninit a p) (ty.Uninit b) ex et k w = which (cases_eq at b) (cases_eq o p)
      where
        which : (at ≡ b) ⊎ (at ≢ b) → (o ≡ p) ⊎ (o ≢ p) → Source image heap own xs ts (initialised o (v.Uninit a p)) (replaced at (ty.Class d) (ty.Uninit b))
        which (inl e) (inl f) = rw (replaced_same at b (ty.Class d) e, made_same o a p f, ← f) (plain (λ x. x) (fits_of image heap o d is))
        which (inr e) (inr f) = rw (replaced_other at b (ty.Class d) e, made_other o a p f) (old j ex et)
        which (inl e) (inr f) = absurd (f (same_Some _ _ (sym ((w tt).0 (ap ty.Uninit (sym e))))))
        which (inr e) (inl f) = absurd (e (site_same _ _ (sym ((w tt).1 (ap Some (sym f))))))
    made_one j (v.UninitThis p) ty.UninitThis ex et k w = which (cases_eq o p)
      where
        which : (o ≡ p) ⊎ (o ≢ p) → Source image heap own xs ts (initialised o (v.UninitThis p)) ty.UninitThis
        which (inl f) = absurd (this_no_site at ((w tt).1 (ap Some (sym f))))
        which (inr f) = rw (this_other o p f) (old j ex et)
    made_one j x ty.Conflict ex et k w = plain (λ x. x) tt
    made_one j x ty.Zero ex et k w = same_one (replaced at (ty.Class d)) o j x ty.Zero ex et k (λ x. x) refl
    made_one j x ty.Int ex et k w = same_one (replaced at (ty.Class d)) o j x ty.Int ex et k (λ x. x) refl
    made_one j x ty.LongLo ex et k w = same_one (replaced at (ty.Class d)) o j x ty.LongLo ex et k (λ x. x) refl
    made_one j x ty.LongHi ex et k w = same_one (replaced at (ty.Class d)) o j x ty.LongHi ex et k (λ x. x) refl
    made_one j x (ty.Class c) ex et k w = same_one (replaced at (ty.Class d)) o j x (ty.Class c) ex et k (λ x. x) refl
    made_one j x t ex et k w = absurd k

    pub made_good : (k : ℕ) → type_at ts k ≡ ty.Uninit at → object_of (reg_at xs k) ≡ Some o → IsGood image heap own (map (initialised o) xs) (map (replaced at (ty.Class d)) ts)
    made_good k e f = from_good image heap own xs _ ts _ h (record {
      count = length-map xs (initialised o) ∙ h.count ∙ sym (length-map ts (replaced at (ty.Class d)));
      each = λ j. rw (get_or-map (initialised o) xs j v.Undef, get_or-map (replaced at (ty.Class d)) ts j ty.Conflict) (made_one j _ _ refl refl (h.regs j) (held_by k o (ty.Uninit at) tt e f j));
    })

  -- the same where the object is the frame's own
  module _ (o : ℕ) (d : Ty) (is : IsOf image heap o d) where
    own_one : (j : ℕ) (x : Value) (t : RegType) → x ≡ reg_at xs j → t ≡ type_at ts j → Conforms image heap own x t → IsHeldBy ty.UninitThis o x t → Source image heap own xs ts (initialised o x) (replaced_this (ty.Class d) t)
    own_one j (v.Uninit a p) (ty.Uninit b) ex et k w = which (cases_eq o p)
      where
        which : (o ≡ p) ⊎ (o ≢ p) → Source image heap own xs ts (initialised o (v.Uninit a p)) (ty.Uninit b)
        which (inl f) = absurd (this_no_site b (sym ((w tt).1 (ap Some (sym f)))))
        which (inr f) = rw (made_other o a p f) (old j ex et)
    own_one j (v.UninitThis p) ty.UninitThis ex et k w = which (cases_eq o p)
      where
        which : (o ≡ p) ⊎ (o ≢ p) → Source image heap own xs ts (initialised o (v.UninitThis p)) (ty.Class d)
        which (inl f) = rw (this_same o p f, ← f) (plain (λ x. x) (fits_of image heap o d is))
        which (inr f) = absurd (f (same_Some _ _ (sym ((w tt).0 refl))))
    own_one j x ty.Conflict ex et k w = plain (λ x. x) tt
    own_one j x ty.Zero ex et k w = same_one (replaced_this (ty.Class d)) o j x ty.Zero ex et k (λ x. x) refl
    own_one j x ty.Int ex et k w = same_one (replaced_this (ty.Class d)) o j x ty.Int ex et k (λ x. x) refl
    own_one j x ty.LongLo ex et k w = same_one (replaced_this (ty.Class d)) o j x ty.LongLo ex et k (λ x. x) refl
    own_one j x ty.LongHi ex et k w = same_one (replaced_this (ty.Class d)) o j x ty.LongHi ex et k (λ x. x) refl
    own_one j x (ty.Class c) ex et k w = same_one (replaced_this (ty.Class d)) o j x (ty.Class c) ex et k (λ x. x) refl
    own_one j x t ex et k w = absurd k

    pub own_good : (k : ℕ) → type_at ts k ≡ ty.UninitThis → object_of (reg_at xs k) ≡ Some o → IsGood image heap own (map (initialised o) xs) (map (replaced_this (ty.Class d)) ts)
    own_good k e f = from_good image heap own xs _ ts _ h (record {
      count = length-map xs (initialised o) ∙ h.count ∙ sym (length-map ts (replaced_this (ty.Class d)));
      each = λ j. rw (get_or-map (initialised o) xs j v.Undef, get_or-map (replaced_this (ty.Class d)) ts j ty.Conflict) (own_one j _ _ refl refl (h.regs j) (held_by k o ty.UninitThis tt e f j));
    })

pub constructor_keeps : ConstructorKeeps
constructor_keeps image heap own xs ts k at o c h e f m is = made_good image heap own xs ts h at o (class_type image c) is k e (ap object_of f)

pub own_constructor_keeps : OwnConstructorKeeps
own_constructor_keeps image heap own xs ts k o h e f is = own_good image heap own xs ts h o own.class is k e (ap object_of f)

-- ---- new objects

-- after a write, a register is the written one or as it was
data IsSetAt (xs : List Value) (ts : Types) (x : Value) (t : RegType) (y : Value) (u : RegType) : Type 0 where
  written : y ≡ x → u ≡ t → IsSetAt xs ts x t y u
  kept : (j : ℕ) → y ≡ reg_at xs j → u ≡ type_at ts j → IsSetAt xs ts x t y u

set_at : (xs : List Value) (ts : Types) (k : ℕ) (x : Value) (t : RegType) → length xs ≡ length ts → (j : ℕ) → IsSetAt xs ts x t (reg_at (slice_set xs k x) j) (type_at (slice_set ts k t) j)
set_at xs ts k x t n j = go (cases_eq j k) (cases_lt k (length xs))
  where
    go : (j ≡ k) ⊎ (j ≢ k) → (k < length xs) ⊎ (length xs ≤ k) → IsSetAt xs ts x t (reg_at (slice_set xs k x) j) (type_at (slice_set ts k t) j)
    go (inr d) w = kept j (get_or-set_other xs k j x v.Undef d) (get_or-set_other ts k j t ty.Conflict d)
    go (inl e) (inl l) = written (rw e (get_or-set_same xs k x v.Undef l)) (rw e (get_or-set_same ts k t ty.Conflict (omega (arith, l, n))))
    go (inl e) (inr g) = kept j (rw (set_past xs k x g)) (rw (set_past ts k t (omega (arith, g, n))))

-- a value of a type that no register has, with an object that none holds uninitialised
module _ (image : Image) (heap : Heap) (own : Own) (xs : List Value) (ts : Types) (x : Value) (t : RegType) (h : IsGood image heap own xs ts) (c : Conforms image heap own x t) (other : (j : ℕ) → type_at ts j ≡ t → ⊥) (fresh : (j : ℕ) → IsUninit (type_at ts j) → object_of (reg_at xs j) ≡ object_of x → ⊥) where
  at_conforms : (y : Value) (u : RegType) → IsSetAt xs ts x t y u → Conforms image heap own y u
  at_conforms y u (written e f) = rw (e, f) c
  at_conforms y u (kept j e f) = rw (e, f) (h.regs j)

  at_apart : (y z : Value) (u w : RegType) → IsSetAt xs ts x t y u → IsSetAt xs ts x t z w → IsUninit u → IsUninit w → (u ≡ w) ↔ (object_of y ≡ object_of z)
  at_apart y z u w (written e f) (written d g) p q = (λ r. ap object_of (e ∙ sym d), λ r. f ∙ sym g)
  at_apart y z u w (kept i e f) (kept j d g) p q = rw (e, f, d, g) (h.apart i j (rw f at p) (rw g at q))
  at_apart y z u w (written e f) (kept j d g) p q =
      (λ r. absurd (other j (sym g ∙ sym r ∙ f)), λ r. absurd (fresh j (rw g at q) (ap object_of (sym d) ∙ sym r ∙ ap object_of e)))
  at_apart y z u w (kept j e f) (written d g) p q =
      (λ r. absurd (other j (sym f ∙ r ∙ g)), λ r. absurd (fresh j (rw f at p) (ap object_of (sym e) ∙ r ∙ ap object_of d)))

  set_new : (k : ℕ) → IsGood image heap own (slice_set xs k x) (slice_set ts k t)
  set_new k = record {
    regs = λ j. at_conforms _ _ (set_at xs ts k x t h.count j);
    count = length-set xs k x ∙ h.count ∙ sym (length-set ts k t);
    apart = λ i j p q. at_apart _ _ _ _ (set_at xs ts k x t h.count i) (set_at xs ts k x t h.count j) p q;
  }

module _ (image : Image) (heap : Heap) (own : Own) (xs : List Value) (ts : Types) (at : ℕ) where
  -- the registers that held the last object of a place are given up
  given_up : (j : ℕ) (t : RegType) → t ≡ type_at ts j → Source image heap own xs ts (reg_at xs j) (replaced at ty.Conflict t)
  given_up j (ty.Uninit b) e = which (cases_eq at b)
    where
      which : (at ≡ b) ⊎ (at ≢ b) → Source image heap own xs ts (reg_at xs j) (replaced at ty.Conflict (ty.Uninit b))
      which (inl f) = rw (replaced_same at b ty.Conflict f) (plain (λ x. x) tt)
      which (inr f) = rw (replaced_other at b ty.Conflict f) (old j refl e)
  given_up j t e = old j refl e

  given_from : length xs ≡ length ts → AreFrom image heap own xs ts xs (map (replaced at ty.Conflict) ts)
  given_from n = record {
    count = n ∙ sym (length-map ts (replaced at ty.Conflict));
    each = λ j. rw (get_or-map (replaced at ty.Conflict) ts j ty.Conflict) (given_up j _ refl);
  }

  not_site : (t : RegType) → replaced at ty.Conflict t ≡ ty.Uninit at → ⊥
  not_site (ty.Uninit b) e = which (cases_eq at b)
    where
      clash : ty.Conflict ≡ ty.Uninit at → ⊥
      clash e = cc

      which : (at ≡ b) ⊎ (at ≢ b) → ⊥
      which (inl f) = clash (sym (replaced_same at b ty.Conflict f) ∙ e)
      which (inr f) = f (sym (site_same _ _ (sym (replaced_other at b ty.Conflict f) ∙ e)))
  not_site t e = absurd (cc)

  no_site : (us : Types) → AreFrom image heap own xs (map (replaced at ty.Conflict) ts) xs us → (j : ℕ) → type_at us j ≡ ty.Uninit at → ⊥
  no_site us f j e = go (f.each j)
    where
      go : Source image heap own xs (map (replaced at ty.Conflict) ts) (reg_at xs j) (type_at us j) → ⊥
      go (plain n c) = n (rw e tt)
      go (old i x y) = not_site (type_at ts i) (sym (get_or-map (replaced at ty.Conflict) ts i ty.Conflict) ∙ sym y ∙ e)

-- what no old register holds uninitialised, none with a source does
fresh_from : (image : Image) (heap : Heap) (own : Own) (xs ys : List Value) (ts us : Types) (o : ℕ) → AreFrom image heap own xs ts ys us → ((j : ℕ) → IsUninit (type_at ts j) → object_of (reg_at xs j) ≢ Some o) → (j : ℕ) → IsUninit (type_at us j) → object_of (reg_at ys j) ≢ Some o
fresh_from image heap own xs ys ts us o f n j u = go (f.each j)
  where
    go : Source image heap own xs ts (reg_at ys j) (type_at us j) → object_of (reg_at ys j) ≢ Some o
    go (plain m c) = absurd (m u)
    go (old i x y) = λ e. n i (rw y at u) (ap object_of (sym x) ∙ e)

pub new_instance_keeps : NewInstanceKeeps
unfolding write_type
new_instance_keeps image heap own xs ts k at o c h made kind fresh =
    let us : Types = map (replaced at ty.Conflict) ts in
    let g = given_from image heap own xs ts at h.count in
    let b = broken image heap own xs us k g.count in
    let first : IsGood image heap own xs us = from_good image heap own xs xs ts us h g in
    let good : IsGood image heap own xs (break_after (break_before us k) k) = from_good image heap own xs xs us _ first b in
    set_new image heap own xs _ (v.Uninit at o) (ty.Uninit at) good
    (refl, record { class = c; is_site = made; has_kind = kind })
    (no_site image heap own xs ts at _ b)
    (fresh_from image heap own xs xs us _ o b (fresh_from image heap own xs xs ts us o g fresh))
    k
