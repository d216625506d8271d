-- A type and a prototype are known by their text.
use Rattle.std.proofs.Common.{◌≡◌, ℕ, zero, suc, ◌+◌, cond, eqb, List, [], ◌∷◌, ◌++◌, drop, replicate, Option, Some, None, refl, sym, ap, ◌∙◌, arith}
use Rattle.std.specs.Prelude.{IfSome}
use Rattle.std.specs.Option.{option_and_then, unwrap_or}
use Rattle.std.specs.List.{All, flat_map}
use Rattle.std.proofs.lemmas.List.{append_assoc}
use Rattle.std.proofs.lemmas.List.Elements.{All-head, All-tail}
use Rattle.dv_defs.specs.declared.names.Base.{Base}
use Rattle.dv_defs.specs.declared.names.Base.TheVariants as base
use Rattle.dv_defs.specs.declared.names.Ty.{Ty}
use Rattle.dv_defs.specs.declared.names.Proto.{Proto}
use Rattle.dv_names.specs.declared.error.NameError.{NameError}
use Rattle.dv_names.specs.declared.error.NameError.TheVariants as error
use Rattle.dv_names.specs.Descriptors.{base_text, descriptor, return_text, prototype, IsBase, IsType, IsProto}
use Rattle.dv_names.specs.Grammar.{Alone, Parameter, Mode, Parameters, Array, Whole, step, after, primitive_of, Refuses}
use Rattle.dv_names.proofs.Types.{type_run}

-- ---- types

abbrev base_of : List ℕ → Base
base_of [] = base.Z
base_of (b ∷ text) = unwrap_or (primitive_of b) (base.Class (b ∷ text))

abbrev type_of : ℕ → List ℕ → Ty
type_of n [] = record { dims = n; base = base_of [] }
type_of n (b ∷ text) = cond (eqb b 91) (type_of (suc n) text) (record { dims = n; base = base_of (b ∷ text) })

abbrev made : ℕ → Base → Ty
made n b = record { dims = n; base = b }

base_back : (n : ℕ) (b : Base) → IsBase b → type_of n (base_text b) ≡ made n b
base_back n base.Z is = refl
base_back n base.B is = refl
base_back n base.C is = refl
base_back n base.S is = refl
base_back n base.I is = refl
base_back n base.J is = refl
base_back n (base.Class name) is = ap (type_of n) is.spelled ∙ ap (λ l. made n (base.Class l)) (sym is.spelled)

array_back : (k n : ℕ) (b : Base) → IsBase b → type_of n (replicate k 91 ++ base_text b) ≡ made (n + k) b
array_back zero n b is = let e : n ≡ n + 0 = omega arith in base_back n b is ∙ ap (λ i. made i b) e
array_back (suc k) n b is = let e : suc n + k ≡ n + suc k = omega arith in array_back k (suc n) b is ∙ ap (λ i. made i b) e

type_back : (t : Ty) → IsType t → type_of 0 (descriptor t) ≡ t
type_back t is = let e : 0 + t.dims ≡ t.dims = omega arith in array_back t.dims 0 t.base is.1 ∙ ap (λ i. made i t.base) e

pub same_type : (t u : Ty) → IsType t → IsType u → descriptor t ≡ descriptor u → t ≡ u
same_type t u is are same = sym (type_back t is) ∙ ap (type_of 0) same ∙ type_back u are

-- ---- no descriptor begins another

same_along : (o : Option Mode) (a b x y : List ℕ)
    → ((k : Mode) → after k a ≡ Some Whole → after k b ≡ Some Whole → (a ≡ b) × (x ≡ y))
    → option_and_then (λ k. after k a) o ≡ Some Whole → option_and_then (λ k. after k b) o ≡ Some Whole → (a ≡ b) × (x ≡ y)
same_along None a b x y ih e f = absurd (cc)
same_along (Some k) a b x y ih e f = ih k e f

no_more : (m : Mode) (b : ℕ) (text : List ℕ) → after m [] ≡ Some Whole → after m (b ∷ text) ≡ Some Whole → ⊥
no_more m b text e f =
    let is : m ≡ Whole = cc in
    let h : None ≡ Some Whole = ap (λ k. after k (b ∷ text)) (sym is) ∙ f in
    absurd (cc)

same_front : (a b x y : List ℕ) (m : Mode) → after m a ≡ Some Whole → after m b ≡ Some Whole → a ++ x ≡ b ++ y → (a ≡ b) × (x ≡ y)
same_front [] [] x y m e f same = (refl, same)
same_front [] (d ∷ b) x y m e f same = absurd (no_more m d b e f)
same_front (c ∷ a) [] x y m e f same = absurd (no_more m c a f e)
same_front (c ∷ a) (d ∷ b) x y m e f same =
    let head : d ≡ c = cc in
    let tail : a ++ x ≡ b ++ y = cc in
    let r = same_along (step m c) a b x y (λ k p q. same_front a b x y k p q tail) e (ap (λ z. after m (z ∷ b)) (sym head) ∙ f) in
    ((λ i. sym head i ∷ r.0 i), r.1)

-- ---- prototypes

no_close : (a x rest : List ℕ) → after (Array Parameter 0) a ≡ Some Parameters → 41 ∷ rest ≡ a ++ x → ⊥
no_close [] x rest e same = absurd (cc)
no_close (b ∷ a) x rest e same =
    let head : 41 ≡ b = cc in
    let h : None ≡ Some Parameters = ap (λ z. after (Array Parameter 0) (z ∷ a)) head ∙ e in
    absurd (cc)

module _ (r s : List ℕ) where
  same_parameters : (ts us : List Ty) → All IsType ts → All IsType us → flat_map descriptor ts ++ 41 ∷ r ≡ flat_map descriptor us ++ 41 ∷ s → (ts ≡ us) × (r ≡ s)
  same_parameters [] [] are also same = (refl, cc)
  same_parameters [] (u ∷ us) are also same =
      absurd (no_close (descriptor u) (flat_map descriptor us ++ 41 ∷ s) r (type_run Parameter u (All-head IsType u us also)) (same ∙ append_assoc (descriptor u) (flat_map descriptor us) (41 ∷ s)))
  same_parameters (t ∷ ts) [] are also same =
      absurd (no_close (descriptor t) (flat_map descriptor ts ++ 41 ∷ r) s (type_run Parameter t (All-head IsType t ts are)) (sym same ∙ append_assoc (descriptor t) (flat_map descriptor ts) (41 ∷ r)))
  same_parameters (t ∷ ts) (u ∷ us) are also same =
      let t_is = All-head IsType t ts are in
      let u_is = All-head IsType u us also in
      let front = same_front (descriptor t) (descriptor u) (flat_map descriptor ts ++ 41 ∷ r) (flat_map descriptor us ++ 41 ∷ s) (Array Alone 0) (type_run Alone t t_is) (type_run Alone u u_is)
      (sym (append_assoc (descriptor t) (flat_map descriptor ts) (41 ∷ r)) ∙ same ∙ append_assoc (descriptor u) (flat_map descriptor us) (41 ∷ s)) in
      let first = same_type t u t_is u_is front.0 in
      let others = same_parameters ts us (All-tail IsType t ts are) (All-tail IsType u us also) front.1 in
      ((λ i. first i ∷ others.0 i), others.1)

no_void : (t : Ty) → IsType t → 86 ∷ [] ≡ descriptor t → ⊥
no_void t is same = let h : None ≡ Some Whole = ap (after (Array Alone 0)) same ∙ type_run Alone t is in absurd (cc)

same_return : (r s : Option Ty) → IfSome r IsType → IfSome s IsType → return_text r ≡ return_text s → r ≡ s
same_return None None is are same = refl
same_return None (Some u) is are same = absurd (no_void u are same)
same_return (Some t) None is are same = absurd (no_void t is (sym same))
same_return (Some t) (Some u) is are same = ap (λ x. Some x) (same_type t u is are same)

pub same_proto : (p q : Proto) → IsProto p → IsProto q → prototype p ≡ prototype q → p ≡ q
same_proto p q is are same =
    let tail : flat_map descriptor p.params ++ 41 ∷ return_text p.ret ≡ flat_map descriptor q.params ++ 41 ∷ return_text q.ret = ap (drop 1) same in
    let both = same_parameters (return_text p.ret) (return_text q.ret) p.params q.params is.0 are.0 tail in
    let last = same_return p.ret q.ret is.1 are.1 both.1 in
    λ i. record { params = both.0 i; ret = last i }

-- ---- an error on a text that is one

pub finds_err : (e : NameError) (found : Option NameError) → Refuses e found → found ≡ None → e ≡ error.Memory
finds_err (error.BadDescriptor n) found refused none = absurd (cc)
finds_err (error.FloatType n) found refused none = absurd (cc)
finds_err error.Memory found refused none = refl
