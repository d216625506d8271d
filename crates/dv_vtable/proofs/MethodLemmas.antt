-- Methods of one name and prototype, and what a class's methods are checked for.
use Rattle.std.proofs.Common.{◌≡◌, ◌+◌, ◌<◌, ◌≤◌, ℕ, Bool, true, false, not, List, length, take, get_or, position, Option, Some, None, refl, sym, ap, ◌∙◌, arith}
use Rattle.std.specs.Prelude.{nat_eq, nat_lt, option_map, slice_get}
use Rattle.std.specs.List.{list_any}
use Rattle.std.proofs.lemmas.List.{take_all, length-map, get_or-map}
use Rattle.std.proofs.lemmas.Option.{slice_get_read}
use Rattle.dv_defs.specs.declared.class.MethodDef.{MethodDef}
use Rattle.dv_defs.specs.declared.faults.LinkError.{LinkError}
use Rattle.dv_defs.specs.declared.faults.LinkKind.{LinkKind}
use Rattle.dv_defs.specs.declared.faults.LinkKind.TheVariants as kind
use Rattle.dv_defs.specs.declared.image.ClassInfo.{ClassInfo}
use Rattle.dv_defs.specs.First.{first_below, first_in, when}
use Rattle.dv_defs.specs.LinkFaults.{LinkTest, Fails, fault_at, first_fault_by, found, same_method, method_twice, is_number}
use Rattle.dv_defs.specs.Linked.{defs}
use Rattle.law_linking.proofs.First.{first_below_found, first_below_more}
use Rattle.dv_hier.proofs.AboveLaws.{classes_more, classes_told}
use Rattle.dv_hier.proofs.Twice.{first_here, first_before, some_place, some_of, none_of}
use Rattle.dv_vtable.specs.declared.keys.MethodKey.{MethodKey}
use Rattle.dv_vtable.proofs.KeyLemmas.{is_like, like_key, method_same}

at_place : (ms : List MethodDef) (i : ℕ) (m : MethodDef) (o : Option ℕ) → i < length ms → m ≡ get_or ms i m → position (same_method m) ms ≡ o → method_twice ms i ≡ when (not (is_number i o)) (kind.MethodTwice m.name)
at_place ms i m o within is e =
    ap (λ (g : Option MethodDef). elim g as (λ _. Option LinkKind) [ None ↦ None | Some m ↦ when (not (is_number i (position (same_method m) ms))) (kind.MethodTwice m.name) ]) (slice_get_read ms (length ms) i m refl within is) ∙
    ap (λ (o : Option ℕ). when (not (is_number i o)) (kind.MethodTwice m.name)) e

-- an earlier method is like this one
method_told : (ms : List MethodDef) (i : ℕ) (m : MethodDef) → i < length ms → m ≡ get_or ms i m → list_any (same_method m) (take i ms) ≡ true → method_twice ms i ≡ Some (kind.MethodTwice m.name)
method_told ms i m within is there =
    let at = some_of (position (same_method m) (take i ms)) (some_place (same_method m) (take i ms) ∙ there) in
    let parts = first_before (same_method m) ms i at.0 m at.1 (omega arith) in
    at_place ms i m (Some at.0) within is parts.0 ∙ other i at.0 (kind.MethodTwice m.name) parts.1
  where
    other : (i k : ℕ) (fault : LinkKind) → k < i → when (not (nat_eq i k)) fault ≡ Some fault
    other i k fault less = grind arith

-- no earlier method is like this one
method_new : (ms : List MethodDef) (i : ℕ) (m : MethodDef) → i < length ms → m ≡ get_or ms i m → list_any (same_method m) (take i ms) ≡ false → method_twice ms i ≡ None
method_new ms i m within is new =
    let none = none_of (position (same_method m) (take i ms)) (some_place (same_method m) (take i ms) ∙ new) in
    let same : same_method m (get_or ms i m) ≡ true = ap (same_method m) (sym is) ∙ method_same m in
    at_place ms i m (Some i) within is (first_here (same_method m) ms i m none within same) ∙ itself i (kind.MethodTwice m.name)
  where
    itself : (i : ℕ) (fault : LinkKind) → when (not (nat_eq i i)) fault ≡ None
    itself i fault = grind arith

pub several_are : (n : ℕ) → 1 < n → nat_lt 1 n ≡ true
several_are n more = grind arith

was_there : (had added : Bool) → added ≡ not had → added ≡ false → had ≡ true
was_there true added e h = refl
was_there false added e h = absurd (cc)

was_new : (had added : Bool) → added ≡ not had → added ≡ true → had ≡ false
was_new true added e h = absurd (cc)
was_new false added e h = refl

-- the turn of a loop whose set has the key of the method
pub twice_found : (ms : List MethodDef) (i : ℕ) (m : MethodDef) (k : MethodKey) (had added : Bool) (name : List ℕ) → first_below (method_twice ms) i ≡ None → i < length ms → m ≡ get_or ms i m → k.name.now ≡ m.name → k.proto.now ≡ m.proto → had ≡ list_any (is_like k) (take i ms) → added ≡ not had → added ≡ false → name ≡ k.name.now → first_below (method_twice ms) (length ms) ≡ Some (kind.MethodTwice name)
twice_found ms i m k had added name before within is named proto told new old same =
    let there : list_any (same_method m) (take i ms) ≡ true = ap (λ (p : MethodDef → Bool). list_any p (take i ms)) (sym (like_key k m named proto)) ∙ (sym told ∙ was_there had added new old) in
    first_below_found (method_twice ms) (length ms) i (kind.MethodTwice name) before (method_told ms i m within is there ∙ ap (λ (n : List ℕ). Some (kind.MethodTwice n)) (sym (same ∙ named))) within

-- the turn of a loop whose set hasn't
pub twice_more : (ms : List MethodDef) (i : ℕ) (m : MethodDef) (k : MethodKey) (had added : Bool) → first_below (method_twice ms) i ≡ None → i < length ms → m ≡ get_or ms i m → k.name.now ≡ m.name → k.proto.now ≡ m.proto → had ≡ list_any (is_like k) (take i ms) → added ≡ not had → added ≡ true → first_below (method_twice ms) (i + 1) ≡ None
twice_more ms i m k had added before within is named proto told new fresh =
    let none : list_any (same_method m) (take i ms) ≡ false = ap (λ (p : MethodDef → Bool). list_any p (take i ms)) (sym (like_key k m named proto)) ∙ (sym told ∙ was_new had added new fresh) in
    first_below_more (method_twice ms) i before (method_new ms i m within is none)

-- a method that stands alone
pub alone_more : (ms : List MethodDef) (i : ℕ) (m : MethodDef) → first_below (method_twice ms) i ≡ None → i < length ms → m ≡ get_or ms i m → length ms ≤ 1 → first_below (method_twice ms) (i + 1) ≡ None
alone_more ms i m before within is alone =
    let first : i ≡ 0 = omega arith in
    first_below_more (method_twice ms) i before (method_new ms i m within is (ap (λ (n : ℕ). list_any (same_method m) (take n ms)) first))

pub alone_told : (n : ℕ) → n ≤ 1 → nat_lt 1 n ≡ true → {X : Type 0} → X
alone_told n alone several = absurd (grind arith)

-- ---- each method for itself

-- the end of a loop in which no method was found
pub none_told : (f : MethodDef → Option LinkKind) (class : List ℕ) (items ms : List MethodDef) (i : ℕ) → items ≡ ms → length items ≤ i → first_in f (take i items) ≡ None → option_map (found class) (first_in f ms) ≡ None
none_told f class items ms i same over none =
    ap (λ (xs : List MethodDef). option_map (found class) (first_in f xs)) (sym same ∙ sym (take_all i items over)) ∙ ap (option_map (found class)) none

-- ---- over classes

defs_count : (infos : List ClassInfo) → length (defs infos) ≡ length infos
defs_count infos = length-map infos (λ (c : ClassInfo). c.def)

def_at : (infos : List ClassInfo) (i : ℕ) (c : ClassInfo) → i < length infos → c ≡ get_or infos i c → c.def ≡ get_or (defs infos) i c.def
def_at infos i c within is = sym (get_or-map (λ (c : ClassInfo). c.def) infos i c c.def within ∙ ap (λ (c : ClassInfo). c.def) (sym is))

pub def_there : (infos : List ClassInfo) (i : ℕ) (c : ClassInfo) → i < length infos → c ≡ get_or infos i c → slice_get (defs infos) i ≡ Some c.def
def_there infos i c within is = slice_get_read (defs infos) (length infos) i c.def (sym (defs_count infos)) within (def_at infos i c within is)

-- one turn of a loop over classes that found nothing
pub class_more : (test : LinkTest) (infos : List ClassInfo) (i : ℕ) (c : ClassInfo) → first_below (fault_at test (defs infos)) i ≡ None → i < length infos → c ≡ get_or infos i c → option_map (found c.def.name) (test i c.def) ≡ None → first_below (fault_at test (defs infos)) (i + 1) ≡ None
class_more test infos i c before within is none = classes_more test (defs infos) i c.def before (omega (arith, defs_count infos)) (def_at infos i c within is) none

-- the turn that found something
pub class_told : (test : LinkTest) (e : LinkError) (infos : List ClassInfo) (i : ℕ) (c : ClassInfo) → first_below (fault_at test (defs infos)) i ≡ None → i < length infos → c ≡ get_or infos i c → Fails e (option_map (found c.def.name) (test i c.def)) → Fails e (first_fault_by test (defs infos))
class_told test e infos i c before within is told = classes_told test e (defs infos) i c.def before (omega (arith, defs_count infos)) (def_at infos i c within is) told

-- the end of the loop
pub classes_done : (test : LinkTest) (infos : List ClassInfo) (i : ℕ) → first_below (fault_at test (defs infos)) i ≡ None → length infos ≤ i → i ≤ length infos → first_fault_by test (defs infos) ≡ None
classes_done test infos i before over upto =
    let all : length (defs infos) ≡ i = omega (arith, defs_count infos) in
    ap (first_below (fault_at test (defs infos))) all ∙ before
