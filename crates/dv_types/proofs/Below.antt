-- The test of one state under another says that it is below it.
use Rattle.std.proofs.Common.{◌≡◌, ℕ, zero, suc, ◌↔◌, Bool, true, false, not, ◌&&◌, ◌||◌, [], ◌∷◌, length, Option, Some, None, refl, sym, ap, subst, arith}
use Rattle.std.proofs.lemmas.Bool.{and_parts, and_from}
use Rattle.dv_defs.specs.declared.names.Ty.{Ty}
use Rattle.dv_defs.specs.Images.{Image}
use Rattle.dv_typing.specs.declared.typing.PendingType.{PendingType}
use Rattle.dv_typing.specs.declared.typing.PendingType.TheVariants as pend
use Rattle.dv_typing.specs.declared.typing.RegState.{RegState}
use Rattle.dv_typing.specs.RegTypes.{Types, type_at, under, UnderPending, UnderCaught, IsBelow}
use Rattle.dv_types.specs.Under.{regs_under, pending_under, caught_under, state_under}
use Rattle.dv_types.proofs.Same.{type_is, type_same}

-- ---- registers

pub regs_count : (image : Image) (ss ts : Types) → regs_under image ss ts ≡ true → length ss ≡ length ts
regs_count image [] [] e = refl
regs_count image [] (t ∷ ts) e = absurd (cc)
regs_count image (s ∷ ss) [] e = absurd (cc)
regs_count image (s ∷ ss) (t ∷ ts) e = ap suc (regs_count image ss ts (and_parts (under image s t) (regs_under image ss ts) e).1)

-- a register past the end is `Conflict` on both sides
pub regs_each : (image : Image) (ss ts : Types) → regs_under image ss ts ≡ true → (k : ℕ) → under image (type_at ss k) (type_at ts k) ≡ true
regs_each image [] [] e k = refl
regs_each image [] (t ∷ ts) e k = absurd (cc)
regs_each image (s ∷ ss) [] e k = absurd (cc)
regs_each image (s ∷ ss) (t ∷ ts) e zero = (and_parts (under image s t) (regs_under image ss ts) e).0
regs_each image (s ∷ ss) (t ∷ ts) e (suc k) = regs_each image ss ts (and_parts (under image s t) (regs_under image ss ts) e).1 k

pub regs_from : (image : Image) (ss ts : Types) → length ss ≡ length ts → ((k : ℕ) → under image (type_at ss k) (type_at ts k) ≡ true) → regs_under image ss ts ≡ true
regs_from image [] [] count each = refl
regs_from image [] (t ∷ ts) count each = absurd (omega (arith, count))
regs_from image (s ∷ ss) [] count each = absurd (omega (arith, count))
regs_from image (s ∷ ss) (t ∷ ts) count each =
    and_from (under image s t) (regs_under image ss ts) (each 0) (regs_from image ss ts (omega (arith, count)) (λ k. each (suc k)))

-- ---- the pending result, the caught type and `this`

pending_is : (r p : PendingType) → pending_under r p ≡ true → UnderPending r p
pending_is r pend.None e = tt
pending_is (pend.One s) (pend.One t) e = ap pend.One (type_is s t e)
pending_is pend.Long pend.Long e = refl
pending_is r p e = absurd (cc)

pending_from : (r p : PendingType) → UnderPending r p → pending_under r p ≡ true
pending_from r pend.None u = refl
pending_from r (pend.One t) u = subst (λ (q : PendingType). pending_under q (pend.One t) ≡ true) (sym u) (type_same t)
pending_from r pend.Long u = subst (λ (q : PendingType). pending_under q pend.Long ≡ true) (sym u) refl

caught_is : (image : Image) (c d : Option Ty) → caught_under image c d ≡ true → UnderCaught image c d
caught_is image c None e = tt
caught_is image None (Some d) e = absurd (cc)
caught_is image (Some c) (Some d) e = e

caught_from : (image : Image) (c d : Option Ty) → UnderCaught image c d → caught_under image c d ≡ true
caught_from image c None u = refl
caught_from image None (Some d) u = absurd u
caught_from image (Some c) (Some d) u = u

this_is : (p q : Bool) → (not p || q) ≡ true → p ≡ true → q ≡ true
this_is true q e h = e
this_is false q e h = absurd (cc)

this_from : (p q : Bool) → (p ≡ true → q ≡ true) → (not p || q) ≡ true
this_from true q h = h refl
this_from false q h = refl

-- ---- states

pub below_from : (image : Image) (s t : RegState) → state_under image s t ≡ true → IsBelow image s t
below_from image s t e =
    let later = caught_under image s.caught t.caught && (not s.this_pending || t.this_pending) in
    let p = and_parts (regs_under image s.regs t.regs) (pending_under s.result t.result && later) e in
    let q = and_parts (pending_under s.result t.result) later p.1 in
    let r = and_parts (caught_under image s.caught t.caught) (not s.this_pending || t.this_pending) q.1 in
    record {
      each = regs_each image s.regs t.regs p.0;
      count = regs_count image s.regs t.regs p.0;
      result = pending_is s.result t.result q.0;
      caught = caught_is image s.caught t.caught r.0;
      this_pending = this_is s.this_pending t.this_pending r.1;
    }

pub below_to : (image : Image) (s t : RegState) → IsBelow image s t → state_under image s t ≡ true
below_to image s t b =
    let last = not s.this_pending || t.this_pending in
    let later = caught_under image s.caught t.caught && last in
    and_from (regs_under image s.regs t.regs) (pending_under s.result t.result && later) (regs_from image s.regs t.regs b.count b.each)
    (and_from (pending_under s.result t.result) later (pending_from s.result t.result b.result)
    (and_from (caught_under image s.caught t.caught) last (caught_from image s.caught t.caught b.caught) (this_from s.this_pending t.this_pending b.this_pending)))

pub below_is_tested : (image : Image) (s t : RegState) → state_under image s t ≡ true ↔ IsBelow image s t
below_is_tested image s t = (below_from image s t, below_to image s t)
