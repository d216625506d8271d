-- The search for a main method.
use Rattle.std.proofs.Common.{◌≡◌, ◌≤◌, ℕ, suc, Bool, true, false, ◌&&◌, List, [], ◌∷◌, length, Option, Some, None, Result, Ok, Err, refl, sym, ap, subst, ◌∙◌, arith}
use Rattle.std.specs.Prelude.{option_map, sum_by}
use Rattle.std.specs.Option.{option_or}
use Rattle.std.proofs.lemmas.List.{length-append, length-map}
use Rattle.std.proofs.lemmas.List.FromFn.{length-map-range_with_len}
use Rattle.std.proofs.lemmas.List.Sums.{sum_by-cons}
use Rattle.dv_defs.specs.declared.class.ClassDef.{ClassDef}
use Rattle.dv_defs.specs.declared.names.MethodId.{MethodId}
use Rattle.dv_defs.specs.declared.names.Ty.{Ty}
use Rattle.dv_defs.specs.declared.faults.LinkError.{LinkError}
use Rattle.dv_defs.specs.declared.faults.LinkError.TheVariants as error
use Rattle.dv_defs.specs.declared.faults.LinkKind.{LinkKind}
use Rattle.dv_defs.specs.declared.faults.LinkKind.TheVariants as kind
use Rattle.dv_defs.specs.Images.{Image}
use Rattle.dv_defs.specs.LinkFaults.{Fails, Found, boot_fault, limit_fault, first_fault_by, found, is_twice}
use Rattle.dv_defs.specs.Linked.{IsImage, defs, first_phases, linked, main_found, main_of, method_phase, method_with_pools, pool_phase, resolved, slotted, tabled, unless_found}
use Rattle.dv_defs.specs.Numbering.{all_methods_declared, declared, methods_declared, numbered}
use Rattle.dv_defs.specs.Pools.{Method, class_named}
use Rattle.dv_defs.specs.Types.{same_types, ty_eq}
use Rattle.law_linking.proofs.Bounds.{few_methods}
use Rattle.law_linking.proofs.First.{or_none}
use Rattle.dv_resolve.specs.Answers.{Answers, numbered_main}
use Rattle.dv_resolve.specs.Ids.{method_id}
use Rattle.dv_resolve.specs.Mains.{main_or_none}

-- ---- parameters

and_false : (b : Bool) → false ≡ (b && false)
and_false true = refl
and_false false = refl

-- several types are not just one
pub several_types : (ts : List Ty) (t : Ty) → 2 ≤ length ts → false ≡ same_types ts (t ∷ [])
several_types [] t many = refl
several_types (a ∷ []) t many = absurd (omega arith)
several_types (a ∷ (b ∷ ts)) t many = and_false (ty_eq a t)

-- a type is not none
pub some_types : (ts : List Ty) → 1 ≤ length ts → false ≡ same_types ts []
some_types [] some = absurd (omega arith)
some_types (a ∷ ts) some = refl

-- ---- how many methods there are

linked_by : {Y : Type 0} (o : Option Found) (y z : Y) → unless_found o y ≡ Ok z → (o ≡ None) × (y ≡ z)
linked_by None y z h = (refl, ap (λ (r : Result _ Found). elim r [ Ok v ↦ v | Err f ↦ y ]) h)
linked_by (Some f) y z h = absurd (cc)

methods_count : (i : ℕ) (cs : List ClassDef) → length (all_methods_declared i cs) ≡ sum_by (λ c. length c.methods) cs
methods_count i [] = refl
methods_count i (c ∷ cs) =
    let rest : length (all_methods_declared (suc i) cs) ≡ sum_by (λ c. length c.methods) cs = methods_count (suc i) cs in
    let own : length (methods_declared i c) ≡ length c.methods = length-map-range_with_len _ 0 (length c.methods) in
    omega (arith, length-append (methods_declared i c) (all_methods_declared (suc i) cs), sum_by-cons (λ (c : ClassDef). length c.methods) c cs, rest, own)

linked_count : (cs : List ClassDef) (boot : ℕ) → length (resolved (tabled (slotted (numbered cs boot)))).methods ≡ sum_by (λ c. length c.methods) cs
unfolding resolved tabled slotted numbered
linked_count cs boot = length-map (all_methods_declared 0 cs) (method_with_pools (tabled (slotted (numbered cs boot)))) ∙ methods_count 0 cs

few_linked : (cs : List ClassDef) (boot : ℕ) (image : Image) → linked cs boot ≡ Ok image → length image.methods ≤ 19618
unfolding linked first_phases
few_linked cs boot image is =
    let parts = linked_by (option_or (first_phases cs boot) (option_or (method_phase cs boot) (pool_phase cs boot))) (resolved (tabled (slotted (numbered cs boot)))) image is in
    let first = (or_none (first_phases cs boot) (option_or (method_phase cs boot) (pool_phase cs boot)) parts.0).0 in
    let a = or_none (boot_fault cs boot) _ first in
    let b = or_none (limit_fault cs boot) _ a.1 in
    let c = or_none (first_fault_by (is_twice (declared cs boot)) cs) _ b.1 in
    let count : length image.methods ≡ sum_by (λ c. length c.methods) cs = ap (λ (i : Image). length i.methods) (sym parts.1) ∙ linked_count cs boot in
    omega (arith, few_methods cs boot a.0 b.0 c.0, count)

pub few_in_image : (image : Image) → IsImage image → length image.methods ≤ 19618
few_in_image image is = few_linked (defs image.classes) image.boot image is.is_linked

-- ---- refusals

-- an error that tells a fault answers for it
pub refused : {X : Type 0} (given : Result X Found) (class : List ℕ) (k : LinkKind) (e : LinkError) → given ≡ Err (found class k)
    → ((fault : Option Found) → fault ≡ Some (found class k) → Fails e fault) → Answers given (Err e)
refused given class k error.Memory is told = tt
refused given class k (error.At c l) is told =
    let same : Some (found class k) ≡ Some (found c l) = told (Some (found class k)) refl in
    is ∙ ap (λ (o : Option Found). elim o as (λ _. Result _ Found) [ None ↦ Err (found class k) | Some f ↦ Err f ]) same

-- a class has no main method
pub none_found : (name : List ℕ) (o : Option Method) → None ≡ option_map method_id o → numbered_main (main_or_none name o) ≡ Err (found name kind.NoMain)
none_found name None is = refl
none_found name (Some m) is = absurd (cc)

-- ---- the class of a name

abbrev given_by : Image → List ℕ → Option ℕ → Result Method Found
given_by image name None = Err (found name (kind.NoClass name))
given_by image name (Some c) = main_or_none name (main_of image c)

looked_up : (image : Image) (name : List ℕ) → main_found image name ≡ given_by image name (class_named image name)
unfolding main_found
looked_up image name = by (class_named image name)
  where
    of_class : (o : Option Method) → elim o as (λ _. Result Method Found) [ None ↦ Err (found name kind.NoMain) | Some m ↦ Ok m ] ≡ main_or_none name o
    of_class None = refl
    of_class (Some m) = refl

    by : (o : Option ℕ) → elim o as (λ _. Result Method Found) [ None ↦ Err (found name (kind.NoClass name)) | Some c ↦ elim (main_of image c) [ None ↦ Err (found name kind.NoMain) | Some m ↦ Ok m ] ] ≡ given_by image name o
    by None = refl
    by (Some c) = of_class (main_of image c)

-- where there is the class, its main method is asked for
pub answers_found : (image : Image) (name : List ℕ) (c : ℕ) (x : Result MethodId LinkError) → Some c ≡ class_named image name
    → Answers (numbered_main (main_or_none name (main_of image c))) x → Answers (numbered_main (main_found image name)) x
answers_found image name c x is answer =
    let given : main_found image name ≡ main_or_none name (main_of image c) = looked_up image name ∙ ap (given_by image name) (sym is) in
    subst (λ (r : Result Method Found). Answers (numbered_main r) x) (sym given) answer

-- where there is none, it is not there
pub answers_missing : (image : Image) (name text : List ℕ) (e : LinkError) → None ≡ class_named image name → text ≡ name
    → ((fault : Option Found) → fault ≡ Some (found name (kind.NoClass text)) → Fails e fault) → Answers (numbered_main (main_found image name)) (Err e)
answers_missing image name text e is same told =
    let given : main_found image name ≡ Err (found name (kind.NoClass text)) =
    looked_up image name ∙ ap (given_by image name) (sym is) ∙ ap (λ (n : List ℕ). Err (found name (kind.NoClass n))) (sym same) in
    refused (numbered_main (main_found image name)) name (kind.NoClass text) e (ap numbered_main given) told
