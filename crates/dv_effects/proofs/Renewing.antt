-- What becomes of objects that aren't initialised, as words and as types.
use Rattle.std.proofs.Common.{◌≡◌, ◌<◌, ℕ, zero, suc, ◌+◌, Bool, true, false, List, [], ◌∷◌, ◌++◌, length, take, drop, get_or, set, refl, sym, ap, ◌∙◌, subst, arith}
use Rattle.std.specs.Prelude.{map, nat_eq}
use Rattle.dv_defs.specs.Op.{Code}
use Rattle.dv_defs.specs.Pools.{own_type}
use Rattle.dv_defs.specs.Tiling.{begins_insn}
use Rattle.dv_typing.specs.declared.typing.RegType.{RegType}
use Rattle.dv_typing.specs.declared.typing.RegType.TheVariants as ty
use Rattle.dv_typing.specs.declared.typing.RegState.{RegState}
use Rattle.dv_typing.specs.RegTypes.{Types, type_at}
use Rattle.dv_typing.specs.Demands.{made_at}
use Rattle.dv_typing.specs.Transfer.{after_constructor, class_or_conflict, lost, replaced, replaced_this}
use Rattle.law_flow.specs.Fitting.{RegFits, StateFits, dims_met}
use Rattle.law_flow.proofs.Written.{fits_at}
use Rattle.dv_bases.specs.declared.words.Part.{Part}
use Rattle.dv_bases.specs.declared.words.Part.TheVariants as part
use Rattle.dv_bases.specs.Words.{part_in}
use Rattle.dv_bases.specs.Bases.{Names, type_in}
use Rattle.dv_effects.specs.declared.objects.Objects.{Objects}
use Rattle.dv_effects.specs.declared.objects.Objects.TheVariants as objects
use Rattle.dv_effects.specs.Renewed.{is_among, renewed}
use Rattle.dv_effects.specs.Said.{Says, SayAll}
use Rattle.dv_effects.proofs.Saying.{says_each}

-- one more of a list's elements is replaced
one_replaced : (f : ℕ → ℕ) (xs : List ℕ) (i d : ℕ) → i < length xs →
    set (map f (take i xs) ++ drop i xs) i (f (get_or (map f (take i xs) ++ drop i xs) i d)) ≡ map f (take (suc i) xs) ++ drop (suc i) xs
one_replaced f [] i d within = absurd (omega (arith, within))
one_replaced f (x ∷ xs) zero d within = refl
one_replaced f (x ∷ xs) (suc i) d within = ap (λ ys. f x ∷ ys) (one_replaced f xs i d (omega (arith, within)))

pub one_renewed : (f : ℕ → ℕ) (xs ys : List ℕ) (i y : ℕ) → i < length xs → ys ≡ map f (take i xs) ++ drop i xs → y ≡ f (get_or ys i 0) →
    set ys i y ≡ map f (take (i + 1) xs) ++ drop (i + 1) xs
one_renewed f xs ys i y within e is =
    let more : suc i ≡ i + 1 = omega arith in
    ap (set ys i) is ∙ (ap (λ zs. set zs i (f (get_or zs i 0))) e ∙ (one_replaced f xs i 0 within ∙ ap (λ j. map f (take j xs) ++ drop j xs) more))

module _ (names : Names) (by : ℕ) where
  abbrev chosen : ℕ → Bool → ℕ
  chosen w b = elim b [ true ↦ by | false ↦ w ]

  abbrev type_chosen : RegType → RegType → Bool → RegType
  type_chosen u t b = elim b [ true ↦ u | false ↦ t ]

  by_test : (w : ℕ) (u t : RegType) (b : Bool) → Says names by u → Says names w t → Says names (chosen w b) (type_chosen u t b)
  by_test w u t true su st = su
  by_test w u t false su st = st

  made_part : (a : ℕ) (u : RegType) → Says names by u → (w : ℕ) (p : Part) → Says names w (type_in names p) → Says names (chosen w (is_among (objects.Made a) p)) (replaced a u (type_in names p))
  made_part a u su w (part.Uninit b) s = by_test w u (ty.Uninit b) (nat_eq a b) su s
  made_part a u su w p s = s

  this_part : (u : RegType) → Says names by u → (w : ℕ) (p : Part) → Says names w (type_in names p) → Says names (chosen w (is_among objects.This p)) (replaced_this u (type_in names p))
  this_part u su w part.UninitThis s = su
  this_part u su w p s = s

  lost_part : Says names by ty.Conflict → (w : ℕ) (p : Part) → Says names w (type_in names p) → Says names (chosen w (is_among objects.Every p)) (lost (type_in names p))
  lost_part su w part.UninitThis s = su
  lost_part su w (part.Uninit b) s = su
  lost_part su w p s = s

  whole : (which : Objects) (g : RegType → RegType) → ((w : ℕ) (p : Part) → Says names w (type_in names p) → Says names (chosen w (is_among which p)) (g (type_in names p))) →
      (ws : List ℕ) (ts : Types) → SayAll names ws ts → SayAll names (map (renewed which by) ws) (map g ts)
  whole which g each ws ts h =
      says_each names (renewed which by) g
      (λ w t s. subst (λ u. Says names (renewed which by w) (g u)) s.said (each w (part_in w) (record { word = s.word; said = refl })))
      ws ts h

  pub says_replaced : (a : ℕ) (u : RegType) (ws : List ℕ) (ts : Types) → Says names by u → SayAll names ws ts →
      SayAll names (map (renewed (objects.Made a) by) ws) (map (replaced a u) ts)
  says_replaced a u ws ts su h = whole (objects.Made a) (replaced a u) (made_part a u su) ws ts h

  says_replaced_this : (u : RegType) (ws : List ℕ) (ts : Types) → Says names by u → SayAll names ws ts →
      SayAll names (map (renewed objects.This by) ws) (map (replaced_this u) ts)
  says_replaced_this u ws ts su h = whole objects.This (replaced_this u) (this_part u su) ws ts h

  says_lost : (ws : List ℕ) (ts : Types) → Says names by ty.Conflict → SayAll names ws ts → SayAll names (map (renewed objects.Every by) ws) (map lost ts)
  says_lost ws ts su h = whole objects.Every lost (lost_part su) ws ts h

  -- the registers after a constructor, by what the receiver's register held
  module _ (code : Code) (s : RegState) (t : RegType) (ws : List ℕ) (h : SayAll names ws s.regs) where
    pub made_constructed : (a : ℕ) → ty.Uninit a ≡ t → Says names by (class_or_conflict names.image (made_at names.image code.method a)) →
        SayAll names (map (renewed (objects.Made a) by) ws) (after_constructor names.image code.method s t).regs
    made_constructed a e su =
        subst (λ u. SayAll names (map (renewed (objects.Made a) by) ws) (after_constructor names.image code.method s u).regs) e
        (says_replaced a (class_or_conflict names.image (made_at names.image code.method a)) ws s.regs su h)

    pub this_constructed : ty.UninitThis ≡ t → Says names by (ty.Class (own_type names.image code.method)) →
        SayAll names (map (renewed objects.This by) ws) (after_constructor names.image code.method s t).regs
    this_constructed e su =
        subst (λ u. SayAll names (map (renewed objects.This by) ws) (after_constructor names.image code.method s u).regs) e
        (says_replaced_this (ty.Class (own_type names.image code.method)) ws s.regs su h)

    other_type : (p : Part) → ((a : ℕ) → p ≡ part.Uninit a → ⊥) → (p ≡ part.UninitThis → ⊥) → map lost s.regs ≡ (after_constructor names.image code.method s (type_in names p)).regs
    other_type (part.Uninit a) made this = absurd (made a refl)
    other_type part.UninitThis made this = absurd (this refl)
    other_type p made this = refl

    pub other_constructed : (p : Part) → ((a : ℕ) → p ≡ part.Uninit a → ⊥) → (p ≡ part.UninitThis → ⊥) → type_in names p ≡ t → Says names by ty.Conflict →
        SayAll names (map (renewed objects.Every by) ws) (after_constructor names.image code.method s t).regs
    other_constructed p made this e su =
        subst (λ ts. SayAll names (map (renewed objects.Every by) ws) ts) (other_type p made this ∙ ap (λ u. (after_constructor names.image code.method s u).regs) e)
        (says_lost ws s.regs su h)

-- the place of an object that a register holds is an instruction's
pub begins_there : (names : Names) (code : Code) (s : RegState) (k a : ℕ) → StateFits names.image code s → ty.Uninit a ≡ type_at s.regs k → begins_insn code.tiles a ≡ true
begins_there names code s k a fits e = subst (RegFits (dims_met names.image code) code) (sym e) (fits_at (dims_met names.image code) code s.regs k fits.regs)
