-- What is above another state ranks less, and ranks are bounded.
use Rattle.std.proofs.Common.{◌≡◌, ◌⊎◌, inl, inr, ℕ, zero, suc, ◌+◌, ◌*◌, ◌<◌, ◌≤◌, [], ◌∷◌, length, Bool, true, false, Option, Some, None, refl, ap, ◌∙◌, subst, arith}
use Rattle.std.specs.Prelude.{All, IfSome}
use Rattle.std.proofs.lemmas.Bool.{eqb-true}
use Rattle.dv_defs.specs.declared.names.Ty.{Ty}
use Rattle.dv_typing.specs.declared.typing.RegType.{RegType}
use Rattle.dv_typing.specs.declared.typing.RegType.TheVariants as ty
use Rattle.dv_typing.specs.declared.typing.PendingType.{PendingType}
use Rattle.dv_typing.specs.declared.typing.PendingType.TheVariants as pend
use Rattle.dv_typing.specs.declared.typing.RegState.{RegState}
use Rattle.dv_defs.specs.Images.{Image}
use Rattle.dv_defs.specs.Op.{Code}
use Rattle.dv_typing.specs.RegTypes.{Types, type_at, under, UnderPending, UnderCaught, IsBelow}
use Rattle.law_types.specs.Hierarchy.{IsHierarchy}
use Rattle.law_flow.specs.Fitting.{dims_met, TypeFits, RegFits, ranks, reg_rank, regs_rank, pending_rank, caught_rank, this_rank, state_rank}
use Rattle.law_flow.specs.Laws.{HasObject, StatesRiseInRank, RanksAreBounded}
use Rattle.law_flow.proofs.TypeRanks.{rank_bounded, type_rises}

-- ---- sums

-- a sum is less where a part is, and none is more
sum_rises : (P Q : Type 0) (m n k l : ℕ) → (P → m ≡ n) → (Q → k ≡ l) → P ⊎ (n < m) → Q ⊎ (l < k) → (P × Q) ⊎ (n + l < m + k)
sum_rises P Q m n k l f g (inl p) (inl q) = inl (p, q)
sum_rises P Q m n k l f g (inl p) (inr y) = inr (let e = f p in omega (arith, e, y))
sum_rises P Q m n k l f g (inr x) (inl q) = inr (let e = g q in omega (arith, e, x))
sum_rises P Q m n k l f g (inr x) (inr y) = inr (omega (arith, x, y))

sums : (m n k l : ℕ) → m ≡ n → k ≡ l → m + k ≡ n + l
sums m n k l e f = omega (arith, e, f)

ranks_some : (image : Image) (most : ℕ) → 0 < ranks image most
ranks_some image most = omega arith

-- ---- parts of states

pending_rises : (p r : PendingType) → UnderPending r p → (r ≡ p) ⊎ (pending_rank p < pending_rank r)
pending_rises pend.None pend.None u = inl refl
pending_rises pend.None r u = inr (omega arith)
pending_rises (pend.One t) r u = inl u
pending_rises pend.Long r u = inl u

this_rises : (b a : Bool) → (a ≡ true → b ≡ true) → (a ≡ b) ⊎ (this_rank b < this_rank a)
this_rises true true u = inl refl
this_rises true false u = inr (omega arith)
this_rises false true u = absurd (let e = u refl in cc)
this_rises false false u = inl refl

module _ (image : Image) (h : IsHierarchy image) (has : HasObject image) where
  some_rises : (s t : Ty) (m n : ℕ) → (s ≡ t) ⊎ (m < n) → (Some s ≡ Some t) ⊎ (suc m < suc n)
  some_rises s t m n (inl same) = inl (ap Some same)
  some_rises s t m n (inr less) = inr (omega (arith, less))

  caught_rises : (d c : Option Ty) → UnderCaught image c d → (c ≡ d) ⊎ (caught_rank image d < caught_rank image c)
  caught_rises None None u = inl refl
  caught_rises None (Some c) u = inr (omega arith)
  caught_rises (Some d) None u = absurd u
  caught_rises (Some d) (Some c) u = some_rises c d _ _ (type_rises image h has c d u)

  class_rises : (s t : Ty) (m n : ℕ) → (s ≡ t) ⊎ (m < n) → (ty.Class s ≡ ty.Class t) ⊎ (suc m < suc n)
  class_rises s t m n (inl same) = inl (ap ty.Class same)
  class_rises s t m n (inr less) = inr (omega (arith, less))

  reg_rises : (most : ℕ) (code : Code) (t s : RegType) → RegFits most code t → under image s t ≡ true → (s ≡ t) ⊎ (reg_rank image most t < reg_rank image most s)
  reg_rises most code ty.Conflict ty.Conflict f u = inl refl
  reg_rises most code ty.Conflict s f u = inr (omega arith)
  reg_rises most code ty.Zero ty.Zero f u = inl refl
  reg_rises most code ty.Int ty.Zero f u = inr (let l = ranks_some image most in omega (arith, l))
  reg_rises most code ty.Int ty.Int f u = inl refl
  reg_rises most code (ty.Class d) ty.Zero f u = inr (let l = rank_bounded image most d f.dims in omega (arith, l))
  reg_rises most code (ty.Class d) (ty.Class c) f u = class_rises c d _ _ (type_rises image h has c d u)
  reg_rises most code ty.LongLo ty.LongLo f u = inl refl
  reg_rises most code ty.LongHi ty.LongHi f u = inl refl
  reg_rises most code (ty.Uninit b) (ty.Uninit a) f u = inl (ap ty.Uninit (eqb-true a b u))
  reg_rises most code ty.UninitThis ty.UninitThis f u = inl refl
  reg_rises most code t s f u = absurd (cc)

  cons_rises : (s t : RegType) (ss ts : Types) (m n : ℕ) → ((s ≡ t) × (ss ≡ ts)) ⊎ (m < n) → ((s ∷ ss) ≡ (t ∷ ts)) ⊎ (m < n)
  cons_rises s t ss ts m n (inl same) = inl (ap (λ (z : RegType). z ∷ ss) same.0 ∙ ap (λ (zs : Types). t ∷ zs) same.1)
  cons_rises s t ss ts m n (inr less) = inr less

  regs_rise : (most : ℕ) (code : Code) (ss ts : Types) → All (RegFits most code) ts → ((k : ℕ) → under image (type_at ss k) (type_at ts k) ≡ true) → length ss ≡ length ts → (ss ≡ ts) ⊎ (regs_rank image most ts < regs_rank image most ss)
  regs_rise most code [] [] f u e = inl refl
  regs_rise most code [] (t ∷ ts) f u e = absurd (omega (arith, e))
  regs_rise most code (s ∷ ss) [] f u e = absurd (omega (arith, e))
  regs_rise most code (s ∷ ss) (t ∷ ts) f u e =
      cons_rises s t ss ts (regs_rank image most (t ∷ ts)) (regs_rank image most (s ∷ ss))
      (sum_rises (s ≡ t) (ss ≡ ts) (reg_rank image most s) (reg_rank image most t) (regs_rank image most ss) (regs_rank image most ts)
      (ap (λ (z : RegType). reg_rank image most z)) (ap (λ (zs : Types). regs_rank image most zs))
      (reg_rises most code t s (f zero t (omega arith)) (u zero))
      (regs_rise most code ss ts (λ k d l. f (suc k) d (omega arith)) (λ k. u (suc k)) (omega (arith, e))))

-- ---- states

-- the parts of two states are the same
abbrev HaveSameParts : RegState → RegState → Type 0
HaveSameParts s t = (((s.regs ≡ t.regs) × (s.result ≡ t.result)) × (s.caught ≡ t.caught)) × (s.this_pending ≡ t.this_pending)

same_parts : (s t : RegState) → HaveSameParts s t → s ≡ t
same_parts s t e =
    let made : Types → PendingType → Option Ty → Bool → RegState = λ regs result caught this. record { regs = regs; result = result; caught = caught; this_pending = this } in
    ap (λ z. made z s.result s.caught s.this_pending) e.0.0.0 ∙
    (ap (λ z. made t.regs z s.caught s.this_pending) e.0.0.1 ∙
    (ap (λ z. made t.regs t.result z s.this_pending) e.0.1 ∙ ap (λ z. made t.regs t.result t.caught z) e.1))

state_rises : (s t : RegState) (m n : ℕ) → HaveSameParts s t ⊎ (m < n) → (s ≡ t) ⊎ (m < n)
state_rises s t m n (inl same) = inl (same_parts s t same)
state_rises s t m n (inr less) = inr less

module _ (image : Image) (h : IsHierarchy image) (has : HasObject image) (most : ℕ) (code : Code) (s t : RegState) (f : All (RegFits most code) t.regs) (u : IsBelow image s t) where
  same_regs : s.regs ≡ t.regs → regs_rank image most s.regs ≡ regs_rank image most t.regs
  same_regs = ap (λ (z : Types). regs_rank image most z)

  same_caught : s.caught ≡ t.caught → caught_rank image s.caught ≡ caught_rank image t.caught
  same_caught = ap (λ (z : Option Ty). caught_rank image z)

  results_rise : ((s.regs ≡ t.regs) × (s.result ≡ t.result)) ⊎ (regs_rank image most t.regs + pending_rank t.result < regs_rank image most s.regs + pending_rank s.result)
  results_rise =
      sum_rises (s.regs ≡ t.regs) (s.result ≡ t.result) (regs_rank image most s.regs) (regs_rank image most t.regs) (pending_rank s.result) (pending_rank t.result)
      same_regs (ap pending_rank) (regs_rise image h has most code s.regs t.regs f u.each u.count) (pending_rises t.result s.result u.result)

  caughts_rise : (((s.regs ≡ t.regs) × (s.result ≡ t.result)) × (s.caught ≡ t.caught)) ⊎ (regs_rank image most t.regs + pending_rank t.result + caught_rank image t.caught < regs_rank image most s.regs + pending_rank s.result + caught_rank image s.caught)
  caughts_rise =
      sum_rises ((s.regs ≡ t.regs) × (s.result ≡ t.result)) (s.caught ≡ t.caught) (regs_rank image most s.regs + pending_rank s.result) (regs_rank image most t.regs + pending_rank t.result)
      (caught_rank image s.caught) (caught_rank image t.caught) (λ e. sums _ _ _ _ (same_regs e.0) (ap pending_rank e.1)) same_caught results_rise (caught_rises image h has t.caught s.caught u.caught)

  parts_rise : HaveSameParts s t ⊎ (state_rank image most t < state_rank image most s)
  parts_rise =
      sum_rises (((s.regs ≡ t.regs) × (s.result ≡ t.result)) × (s.caught ≡ t.caught)) (s.this_pending ≡ t.this_pending)
      (regs_rank image most s.regs + pending_rank s.result + caught_rank image s.caught) (regs_rank image most t.regs + pending_rank t.result + caught_rank image t.caught)
      (this_rank s.this_pending) (this_rank t.this_pending)
      (λ e. sums _ _ _ _ (sums _ _ _ _ (same_regs e.0.0) (ap pending_rank e.0.1)) (same_caught e.1)) (ap this_rank)
      caughts_rise (this_rises t.this_pending s.this_pending u.this_pending)

pub states_rise_in_rank : StatesRiseInRank
states_rise_in_rank image h has code s t f g u =
    state_rises s t (state_rank image (dims_met image code) t) (state_rank image (dims_met image code) s)
    (parts_rise image h has (dims_met image code) code s t g.regs u)

-- ---- bounds

reg_bounded : (image : Image) (most : ℕ) (code : Code) (t : RegType) → RegFits most code t → reg_rank image most t ≤ suc (ranks image most)
reg_bounded image most code ty.Conflict f = omega arith
reg_bounded image most code ty.Zero f = omega arith
reg_bounded image most code (ty.Class t) f = (let l = rank_bounded image most t f.dims in omega (arith, l))
reg_bounded image most code t f = omega arith

cons_bounded : (n w r q : ℕ) → r ≤ suc w → q ≤ n * suc w → r + q ≤ suc n * suc w
cons_bounded n w r q k l = omega (arith, k, l)

regs_bounded : (image : Image) (most : ℕ) (code : Code) (ts : Types) → All (RegFits most code) ts → regs_rank image most ts ≤ length ts * suc (ranks image most)
regs_bounded image most code [] f = omega arith
regs_bounded image most code (t ∷ ts) f =
    cons_bounded (length ts) (ranks image most) (reg_rank image most t) (regs_rank image most ts)
    (reg_bounded image most code t (f zero t (omega arith))) (regs_bounded image most code ts (λ k d l. f (suc k) d (omega arith)))

pending_bounded : (p : PendingType) → pending_rank p ≤ 1
pending_bounded pend.None = omega arith
pending_bounded p = omega arith

caught_bounded : (image : Image) (most : ℕ) (c : Option Ty) → IfSome c (TypeFits most) → caught_rank image c ≤ ranks image most
caught_bounded image most None f = omega arith
caught_bounded image most (Some c) f = (let l = rank_bounded image most c f.dims in omega (arith, l))

this_bounded : (b : Bool) → this_rank b ≤ 1
this_bounded true = omega arith
this_bounded false = omega arith

sum_bounded : (n m w a b c d : ℕ) → n ≡ m → a ≤ n * suc w → b ≤ 1 → c ≤ w → d ≤ 1 → a + b + c + d < m * (w + 2) + w + 4
sum_bounded n m w a b c d e i j k l = subst (λ (z : ℕ). a + b + c + d < z * (w + 2) + w + 4) e (omega (arith, i, j, k, l))

pub ranks_are_bounded : RanksAreBounded
ranks_are_bounded image h code s f =
    sum_bounded (length s.regs) code.body.registers (ranks image (dims_met image code)) _ _ _ _ f.count
    (regs_bounded image (dims_met image code) code s.regs f.regs) (pending_bounded s.result) (caught_bounded image (dims_met image code) s.caught f.caught) (this_bounded s.this_pending)
