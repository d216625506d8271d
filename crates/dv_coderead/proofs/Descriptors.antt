-- A type and a prototype are read from their texts.
use Rattle.std.proofs.Common.{◌≡◌, ℕ, zero, suc, ◌+◌, true, false, eqb, List, [], ◌∷◌, ◌++◌, drop, replicate, Option, Some, None, Ok, refl, sym, ap, ◌∙◌, arith}
use Rattle.std.specs.Prelude.{IfSome}
use Rattle.std.specs.List.{All, flat_map, join_with_byte}
use Rattle.std.proofs.lemmas.Bool.{and_parts, cond-false}
use Rattle.std.proofs.lemmas.List.{append_assoc}
use Rattle.std.proofs.lemmas.List.Elements.{All-head, All-tail}
use Rattle.dv_defs.specs.declared.names.Base.{Base}
use Rattle.dv_defs.specs.declared.names.Base.TheVariants as base
use Rattle.dv_defs.specs.declared.names.Ty.{Ty}
use Rattle.dv_defs.specs.declared.names.Proto.{Proto}
use Rattle.dv_names.specs.Descriptors.{base_text, descriptor, return_text, prototype, IsBase, IsType, IsProto}
use Rattle.dv_names.specs.Grammar.{type_refusal, proto_refusal}
use Rattle.dv_coderead.specs.Words.{begins_with}
use Rattle.dv_coderead.specs.References.{brackets, base_of, type_of, type_in, Between, InClass, and_type, types_of, result_of, proto_parts, proto_of, proto_in, unless_refused}
use Rattle.dv_coderead.proofs.Lacking.{lacks, names_lack, types_lack}
use Rattle.dv_coderead.proofs.Cuts.{cut_lacking, not_true}

-- ---- types

base_brackets : (b : Base) → IsBase b → brackets (base_text b) ≡ 0
base_brackets base.Z is = refl
base_brackets base.B is = refl
base_brackets base.C is = refl
base_brackets base.S is = refl
base_brackets base.I is = refl
base_brackets base.J is = refl
base_brackets (base.Class name) is = ap brackets is.spelled

all_brackets : (n : ℕ) (b : Base) → IsBase b → brackets (replicate n 91 ++ base_text b) ≡ n
all_brackets zero b is = base_brackets b is
all_brackets (suc n) b is = ap suc (all_brackets n b is)

behind_brackets : (n : ℕ) (w : List ℕ) → drop n (replicate n 91 ++ w) ≡ w
behind_brackets zero w = refl
behind_brackets (suc n) w = behind_brackets n w

class_base : (w : List ℕ) → base_of (76 ∷ w) ≡ base.Class (76 ∷ w)
class_base [] = refl
class_base (b ∷ w) = refl

base_back : (b : Base) → IsBase b → base_of (base_text b) ≡ b
base_back base.Z is = refl
base_back base.B is = refl
base_back base.C is = refl
base_back base.S is = refl
base_back base.I is = refl
base_back base.J is = refl
base_back (base.Class name) is = ap base_of is.spelled ∙ class_base _ ∙ ap (λ w. base.Class w) (sym is.spelled)

pub type_back : (t : Ty) → IsType t → type_of (descriptor t) ≡ t
type_back t is =
    let dims = all_brackets t.dims t.base is.1 in
    let own : base_of (drop (brackets (descriptor t)) (descriptor t)) ≡ t.base =
    ap (λ n. base_of (drop n (descriptor t))) dims ∙ ap base_of (behind_brackets t.dims (base_text t.base)) ∙ base_back t.base is.1 in
    λ i. record { dims = dims i; base = own i }

pub type_read : (w : List ℕ) (t : Ty) → type_refusal w ≡ None → IsType t → descriptor t ≡ w → type_in w ≡ Ok t
unfolding type_in
type_read w t none is same = ap (λ o. unless_refused o (type_of w)) none ∙ ap (λ v. Ok (type_of v)) (sym same) ∙ ap (λ u. Ok u) (type_back t is)

-- ---- types one after another

dims_read : (n k : ℕ) (rest : List ℕ) → types_of (Between k) (replicate n 91 ++ rest) ≡ types_of (Between (k + n)) rest
dims_read zero k rest = let e : k ≡ k + 0 = omega arith in ap (λ i. types_of (Between i) rest) e
dims_read (suc n) k rest = let e : suc k + n ≡ k + suc n = omega arith in dims_read n (suc k) rest ∙ ap (λ i. types_of (Between i) rest) e

class_read : (w front rest : List ℕ) (dims : ℕ) → lacks 59 w ≡ true
    → types_of (InClass dims front) (w ++ 59 ∷ rest) ≡ and_type dims (base.Class (front ++ (w ++ 59 ∷ []))) (types_of (Between 0) rest)
class_read [] front rest dims none = refl
class_read (b ∷ w) front rest dims none =
    let p = and_parts _ _ none in
    cond-false (eqb b 59) _ _ (not_true (eqb b 59) p.0) ∙ class_read w (front ++ b ∷ []) rest dims p.1
    ∙ ap (λ l. and_type dims (base.Class l) (types_of (Between 0) rest)) (append_assoc front (b ∷ []) (w ++ 59 ∷ []))

base_read : (b : Base) (dims : ℕ) (rest : List ℕ) → IsBase b → types_of (Between dims) (base_text b ++ rest) ≡ and_type dims b (types_of (Between 0) rest)
base_read base.Z dims rest is = refl
base_read base.B dims rest is = refl
base_read base.C dims rest is = refl
base_read base.S dims rest is = refl
base_read base.I dims rest is = refl
base_read base.J dims rest is = refl
base_read (base.Class name) dims rest is =
    let names = join_with_byte 47 (is.first ∷ is.others) in
    ap (λ l. types_of (Between dims) (l ++ rest)) is.spelled
    ∙ ap (types_of (InClass dims (76 ∷ []))) (append_assoc names (59 ∷ []) rest)
    ∙ class_read names (76 ∷ []) rest dims (names_lack 59 refl refl refl refl (is.first ∷ is.others) is.are_names)
    ∙ ap (λ l. and_type dims (base.Class l) (types_of (Between 0) rest)) (sym is.spelled)

one_read : (t : Ty) (rest : List ℕ) → IsType t → types_of (Between 0) (descriptor t ++ rest) ≡ t ∷ types_of (Between 0) rest
one_read t rest is =
    let e : 0 + t.dims ≡ t.dims = omega arith in
    ap (types_of (Between 0)) (append_assoc (replicate t.dims 91) (base_text t.base) rest)
    ∙ dims_read t.dims 0 (base_text t.base ++ rest) ∙ base_read t.base (0 + t.dims) rest is.1
    ∙ ap (λ n. and_type n t.base (types_of (Between 0) rest)) e

types_back : (ts : List Ty) → All IsType ts → types_of (Between 0) (flat_map descriptor ts) ≡ ts
types_back [] are = refl
types_back (t ∷ ts) are = one_read t (flat_map descriptor ts) (All-head IsType t ts are) ∙ ap (λ us. t ∷ us) (types_back ts (All-tail IsType t ts are))

-- ---- prototypes

base_no_void : (b : Base) → IsBase b → begins_with 86 (base_text b) ≡ false
base_no_void base.Z is = refl
base_no_void base.B is = refl
base_no_void base.C is = refl
base_no_void base.S is = refl
base_no_void base.I is = refl
base_no_void base.J is = refl
base_no_void (base.Class name) is = ap (begins_with 86) is.spelled

no_void : (n : ℕ) (b : Base) → IsBase b → begins_with 86 (replicate n 91 ++ base_text b) ≡ false
no_void zero b is = base_no_void b is
no_void (suc n) b is = refl

result_back : (r : Option Ty) → IfSome r IsType → result_of (return_text r) ≡ r
result_back None is = refl
result_back (Some t) is = cond-false (begins_with 86 (descriptor t)) _ _ (no_void t.dims t.base is.1) ∙ ap (λ u. Some u) (type_back t is)

pub proto_back : (p : Proto) → IsProto p → proto_of (prototype p) ≡ p
proto_back p is =
    let params = types_back p.params is.0 in
    let result = result_back p.ret is.1 in
    ap proto_parts (cut_lacking 41 (flat_map descriptor p.params) (return_text p.ret) (types_lack p.params is.0))
    ∙ (λ i. record { params = params i; ret = result i })

pub proto_read : (w : List ℕ) (p : Proto) → proto_refusal w ≡ None → IsProto p → prototype p ≡ w → proto_in w ≡ Ok p
unfolding proto_in
proto_read w p none is same = ap (λ o. unless_refused o (proto_of w)) none ∙ ap (λ v. Ok (proto_of v)) (sym same) ∙ ap (λ q. Ok q) (proto_back p is)
