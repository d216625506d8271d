-- Faults of pools, one pass after another and class by class.
use Rattle.std.proofs.Common.{◌≡◌, ◌+◌, ◌<◌, ℕ, List, [], ◌∷◌, length, Option, Some, None, Result, Err, get_or, refl, sym, ap, subst, ◌∙◌, arith}
use Rattle.std.specs.Prelude.{filter_map, option_map, option_and_then}
use Rattle.std.specs.List.{cons_option}
use Rattle.std.specs.Option.{option_or}
use Rattle.std.proofs.lemmas.List.{length-map, get_or-map}
use Rattle.dv_defs.specs.declared.class.ClassDef.{ClassDef}
use Rattle.dv_defs.specs.declared.class.MethodDef.{MethodDef}
use Rattle.dv_defs.specs.declared.code.Body.{Body}
use Rattle.dv_defs.specs.declared.image.ClassInfo.{ClassInfo}
use Rattle.dv_defs.specs.declared.faults.LinkError.{LinkError}
use Rattle.dv_defs.specs.declared.faults.LinkKind.{LinkKind}
use Rattle.dv_defs.specs.First.{first_in, first_below}
use Rattle.dv_defs.specs.Images.{Image}
use Rattle.dv_defs.specs.LinkFaults.{Checks, Fails, LinkTest, bodies, fault_at, first_fault_by, found, wrong_pools}
use Rattle.dv_defs.specs.Linked.{defs}
use Rattle.dv_hier.proofs.AboveLaws.{classes_more, classes_told, first_told, then_checked}

-- ---- bodies

-- what a test of bodies says of a method
abbrev pub of_body : (Body → Option LinkKind) → MethodDef → Option LinkKind
of_body f m = option_and_then f m.body

one_body : (f : Body → Option LinkKind) (o : Option Body) (bs : List Body) → option_or (option_and_then f o) (first_in f bs) ≡ first_in f (cons_option o bs)
one_body f None bs = refl
one_body f (Some b) bs = refl

-- over methods it finds what it finds over their bodies
over_bodies : (f : Body → Option LinkKind) (ms : List MethodDef) → first_in (of_body f) ms ≡ first_in f (filter_map (λ m. m.body) ms)
over_bodies f [] = refl
over_bodies f (m ∷ ms) =
    ap (option_or (option_and_then f m.body)) (over_bodies f ms) ∙ one_body f m.body (filter_map (λ m. m.body) ms)

-- the same of the methods of a class
of_class : (f : Body → Option LinkKind) (c : ClassDef) (items : List MethodDef) → items ≡ c.methods → first_in (of_body f) items ≡ first_in f (bodies c)
of_class f c items same = ap (first_in (of_body f)) same ∙ over_bodies f c.methods

pub bodies_told : (f : Body → Option LinkKind) (c : ClassDef) (items : List MethodDef) (e : LinkError) → items ≡ c.methods → Fails e (option_map (found c.name) (first_in (of_body f) items)) → Fails e (option_map (found c.name) (first_in f (bodies c)))
bodies_told f c items e same told = subst (λ (o : Option LinkKind). Fails e (option_map (found c.name) o)) (of_class f c items same) told

pub bodies_none : (f : Body → Option LinkKind) (c : ClassDef) (items : List MethodDef) → items ≡ c.methods → option_map (found c.name) (first_in (of_body f) items) ≡ None → option_map (found c.name) (first_in f (bodies c)) ≡ None
bodies_none f c items same none = ap (option_map (found c.name)) (sym (of_class f c items same)) ∙ none

pub bodies_checked : (f : Body → Option LinkKind) (c : ClassDef) (items : List MethodDef) (x : Result (Unit {0}) LinkError) → items ≡ c.methods → Checks x (option_map (found c.name) (first_in (of_body f) items)) → Checks x (option_map (found c.name) (first_in f (bodies c)))
bodies_checked f c items x same told = subst (λ (o : Option LinkKind). Checks x (option_map (found c.name) o)) (of_class f c items same) told

-- ---- four checks, one after another

abbrev pub one_of : Option LinkKind → Option LinkKind → Option LinkKind → Option LinkKind → Option LinkKind
one_of p q r s = option_or p (option_or q (option_or r s))

pub second_of : (class : List ℕ) (e : LinkError) (p q r s : Option LinkKind) → option_map (found class) p ≡ None
    → Fails e (option_map (found class) q) → Fails e (option_map (found class) (one_of p q r s))
second_of class e p q r s first told =
    then_checked {Y = Unit {0}} class (Err e) p (option_or q (option_or r s)) first (first_told class e q (option_or r s) told)

pub third_of : (class : List ℕ) (e : LinkError) (p q r s : Option LinkKind) → option_map (found class) p ≡ None → option_map (found class) q ≡ None
    → Fails e (option_map (found class) r) → Fails e (option_map (found class) (one_of p q r s))
third_of class e p q r s first second told =
    then_checked {Y = Unit {0}} class (Err e) p (option_or q (option_or r s)) first
    (then_checked {Y = Unit {0}} class (Err e) q (option_or r s) second (first_told class e r s told))

pub last_of : (class : List ℕ) (x : Result (Unit {0}) LinkError) (p q r s : Option LinkKind) → option_map (found class) p ≡ None → option_map (found class) q ≡ None
    → option_map (found class) r ≡ None → Checks x (option_map (found class) s) → Checks x (option_map (found class) (one_of p q r s))
last_of class x p q r s first second third told =
    then_checked class x p (option_or q (option_or r s)) first (then_checked class x q (option_or r s) second (then_checked class x r s third told))

-- ---- classes

defs_count : (infos : List ClassInfo) → length (defs infos) ≡ length infos
defs_count infos = length-map infos (λ (c : ClassInfo). c.def)

def_at : (infos : List ClassInfo) (i : ℕ) (c : ClassInfo) → i < length infos → c ≡ get_or infos i c → get_or (defs infos) i c.def ≡ c.def
def_at infos i c within is = get_or-map (λ (c : ClassInfo). c.def) infos i c c.def within ∙ ap (λ (c : ClassInfo). c.def) (sym is)

-- one turn of a loop over the definitions in an image's classes
pub defs_more : (test : LinkTest) (infos : List ClassInfo) (i : ℕ) (c : ClassInfo) → first_below (fault_at test (defs infos)) i ≡ None → i < length infos → c ≡ get_or infos i c
    → option_map (found c.def.name) (test i c.def) ≡ None → first_below (fault_at test (defs infos)) (i + 1) ≡ None
defs_more test infos i c before within is none =
    classes_more test (defs infos) i c.def before (omega (arith, defs_count infos)) (sym (def_at infos i c within is)) none

pub defs_told : (test : LinkTest) (e : LinkError) (infos : List ClassInfo) (i : ℕ) (c : ClassInfo) → first_below (fault_at test (defs infos)) i ≡ None → i < length infos → c ≡ get_or infos i c
    → Fails e (option_map (found c.def.name) (test i c.def)) → Fails e (first_fault_by test (defs infos))
defs_told test e infos i c before within is told =
    classes_told test e (defs infos) i c.def before (omega (arith, defs_count infos)) (sym (def_at infos i c within is)) told

-- the classes of an image are those that a loop goes over
pub told_of_image : (image : Image) (infos : List ClassInfo) (e : LinkError) → image.classes ≡ infos → Fails e (first_fault_by (wrong_pools image) (defs infos)) → Fails e (first_fault_by (wrong_pools image) (defs image.classes))
told_of_image image infos e same told = subst (λ (cs : List ClassInfo). Fails e (first_fault_by (wrong_pools image) (defs cs))) (sym same) told
