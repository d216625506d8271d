-- What a table has while the methods of classes are entered.
use Rattle.std.specs.Prelude.{ℕ, zero, suc, ◌≡◌, ◌<◌, ◌≤◌, ◌+◌, All, IfSome, Bool, true, false, List, [], ◌∷◌, length, drop, Option, Some, None, slice_get, sum_by}
use Rattle.std.proofs.Common.{refl, sym, ap, subst, ◌∙◌, arith, cond, get_or}
use Rattle.std.proofs.lemmas.List.{drop_more, length-map}
use Rattle.dv_defs.specs.declared.names.ClassId.{ClassId}
use Rattle.dv_defs.specs.declared.names.MethodId.{MethodId}
use Rattle.dv_defs.specs.declared.class.MethodDef.{MethodDef}
use Rattle.dv_defs.specs.declared.image.ClassInfo.{ClassInfo}
use Rattle.dv_defs.specs.Order.{numbers}
use Rattle.dv_defs.specs.Pools.{methods_of}
use Rattle.dv_vtable.specs.Chains.{key_in, is_in_tables, first_method, entered_chain}
use Rattle.dv_vtable.specs.Numbered.{all_methods, key_number, number_in, numbers_in, entered_numbers, numbered}
use Rattle.dv_vtable.proofs.FirstLaws.{methods_stand}
use Rattle.dv_vtable.proofs.MethodNumbers.{first_within}
use Rattle.dv_vtable.proofs.NumberLaws.{AreAmong, method_among, entered_numbered}

-- ---- one class

pub own_among : (cs : List ClassInfo) (c : ℕ) (info : ClassInfo) → slice_get cs c ≡ Some info → AreAmong (all_methods cs) info.def.methods
own_among cs c info at k m there = method_among (all_methods cs) (first_method cs c + k) m (methods_stand cs c info at k m there)

pub class_there : (cs : List ClassInfo) (c : ℕ) → c < length cs → (info : ClassInfo) × (slice_get cs c ≡ Some info)
class_there [] c within = absurd (omega arith)
class_there (info ∷ cs) zero within = (info, refl)
class_there (info ∷ cs) (suc c) within = class_there cs c (omega arith)

-- there are as many numbers as methods
pub key_count : (all : List MethodDef) (ks : List (Option ℕ)) → ks ≡ numbers_in all all → length ks ≡ length all
key_count all ks are = ap (λ (os : List (Option ℕ)). length os) are ∙ length-map all (number_in all)

pub few_own : (cs : List ClassInfo) (c first : ℕ) (info : ClassInfo) (own : List (Option ℕ)) → slice_get cs c ≡ Some info
    → own ≡ numbers_in (all_methods cs) (methods_of (slice_get cs c)) → first ≡ first_method cs c
    → first + length own ≤ sum_by (λ d. length d.def.methods) cs
few_own cs c first info own at are is =
    let many : length own ≡ length info.def.methods =
    ap (λ (os : List (Option ℕ)). length os) are ∙ (length-map (methods_of (slice_get cs c)) (number_in (all_methods cs)) ∙ ap (λ o. length (methods_of o)) at) in
    omega (arith, many, is, first_within cs c info at)

-- the numbers of a class's methods are below a count
pub numbers_below : (cs : List ClassInfo) (c count : ℕ) (info : ClassInfo) (own : List (Option ℕ)) → slice_get cs c ≡ Some info
    → own ≡ numbers_in (all_methods cs) (methods_of (slice_get cs c)) → count ≡ length (all_methods cs)
    → All (λ key. IfSome key (λ n. n < count)) own
numbers_below cs c count info own at are many i d within =
    let ms = info.def.methods in
    let same : own ≡ numbers_in (all_methods cs) ms = are ∙ ap (λ o. numbers_in (all_methods cs) (methods_of o)) at in
    subst (λ ks. (k : ℕ) (e : Option ℕ) → k < length ks → IfSome (get_or ks k e) (λ n. n < count)) (sym same)
    (below ms (λ k m there. rw many (own_among cs c info at k m there))) i d within
  where
    one : (m : MethodDef) → key_number (all_methods cs) (key_in m) < count → IfSome (number_in (all_methods cs) m) (λ n. n < count)
    one m small = go (is_in_tables m)
      where
        go : (b : Bool) → IfSome (cond b (Some (key_number (all_methods cs) (key_in m))) None) (λ n. n < count)
        go true = small
        go false = tt

    below : (ms : List MethodDef) → ((k : ℕ) (m : MethodDef) → slice_get ms k ≡ Some m → key_number (all_methods cs) (key_in m) < count)
        → (k : ℕ) (e : Option ℕ) → k < length (numbers_in (all_methods cs) ms) → IfSome (get_or (numbers_in (all_methods cs) ms) k e) (λ n. n < count)
    below [] small k e inside = absurd (omega arith)
    below (m ∷ ms) small zero e inside = one m (small 0 m refl)
    below (m ∷ ms) small (suc k) e inside = below ms (λ j n there. small (suc j) n there) k e (omega arith)

-- ---- chains

-- the turn of a loop over a chain, from its end on
pub chain_next : (cs : List ClassInfo) (chain : List ClassId) (k first : ℕ) (id : ClassId) (info : ClassInfo) (own : List (Option ℕ)) (es new : List (ℕ × MethodId))
    → k < length chain → id ≡ get_or chain k id → slice_get cs id.0 ≡ Some info
    → own ≡ numbers_in (all_methods cs) (methods_of (slice_get cs id.0)) → first ≡ first_method cs id.0
    → es ≡ numbered (all_methods cs) (entered_chain cs [] (numbers (drop (k + 1) chain)))
    → new ≡ entered_numbers es first own
    → new ≡ numbered (all_methods cs) (entered_chain cs [] (numbers (drop k chain)))
chain_next cs chain k first id info own es new within is at are number so_far put =
    let all = all_methods cs in
    let above = entered_chain cs [] (numbers (drop (k + 1) chain)) in
    let left : numbers (drop k chain) ≡ id.0 ∷ numbers (drop (k + 1) chain) =
    ap numbers (drop_more chain k id within) ∙ (λ j. (sym is j).0 ∷ numbers (drop (k + 1) chain)) in
    let among : AreAmong all (methods_of (slice_get cs id.0)) = subst (λ o. AreAmong all (methods_of o)) (sym at) (own_among cs id.0 info at) in
    put
    ∙ ((λ j. entered_numbers (so_far j) (number j) (are j))
    ∙ (entered_numbered all (methods_of (slice_get cs id.0)) (first_method cs id.0) above among
    ∙ ap (λ ns. numbered all (entered_chain cs [] ns)) (sym left)))
