-- What is known of the numbered classes where the first phases find nothing: numbers in range, no cycles, superclasses and interfaces.
use Rattle.std.proofs.Common.{◌≡◌, ◌<◌, ℕ, zero, suc, Bool, true, false, not, ◌&&◌, ◌||◌, List, [], ◌∷◌, length, map, Option, Some, None, refl, sym, ap, subst, ◌∙◌, arith}
use Rattle.std.specs.Prelude.{nat_eq, bytes_eq, position, slice_get, filter_map, option_map, option_and_then, All, IfSome}
use Rattle.std.specs.Option.{option_or}
use Rattle.std.specs.List.{list_any, cons_option}
use Rattle.std.proofs.lemmas.Bool.{eqb-true, not-false, or_parts}
use Rattle.std.proofs.lemmas.Slice.Eq.{bytes_eq-Decides}
use Rattle.std.proofs.lemmas.Option.{slice_get-map, slice_get_within}
use Rattle.std.proofs.lemmas.List.{length-map}
use Rattle.std.proofs.lemmas.List.Elements.{All-nil, All-cons}
use Rattle.std.proofs.lemmas.List.Quantifiers.{position-Some}
use Rattle.dv_defs.specs.declared.class.ClassDef.{ClassDef}
use Rattle.dv_defs.specs.declared.names.ClassId.{ClassId}
use Rattle.dv_defs.specs.declared.faults.LinkKind.{LinkKind}
use Rattle.dv_defs.specs.declared.faults.LinkKind.TheVariants as kind
use Rattle.dv_defs.specs.declared.flags.Flag.TheVariants as flag
use Rattle.dv_defs.specs.Images.{Image}
use Rattle.dv_defs.specs.First.{when}
use Rattle.dv_defs.specs.Flags.{has_flag}
use Rattle.dv_defs.specs.Names.{object_name}
use Rattle.dv_defs.specs.Pools.{class_named, class_number, parent_of, parent_at, flags_of, is_interface}
use Rattle.dv_defs.specs.Order.{has_number, numbers, interfaces_of, above, any_of, implements, names_interface}
use Rattle.dv_defs.specs.LookUp.{interfaces_at}
use Rattle.dv_defs.specs.Numbering.{class_id, class_declared, class_numbered, declared, numbered, names_of}
use Rattle.dv_defs.specs.LinkFaults.{first_fault_by, boot_fault, limit_fault, is_twice, is_number, no_class, names_no_class, wrong_superclass, wrong_kind, wrong_above, final_at, on_cycle, has_field_twice}
use Rattle.dv_defs.specs.Linked.{first_phases}
use Rattle.law_linking.specs.Stripped.{def_names, IsInRange, AreInRange}
use Rattle.law_linking.proofs.First.{or_none, when_none}
use Rattle.law_linking.proofs.Names.{named_is_position, declared_is_position}
use Rattle.law_linking.proofs.Bounds.{fails_nowhere}

-- ---- the phases one by one

pub record HasNoFirstFault (cs : List ClassDef) (boot : ℕ) : Type 0 where
  pub boots : boot_fault cs boot ≡ None
  pub limits : limit_fault cs boot ≡ None
  pub twice : first_fault_by (is_twice (declared cs boot)) cs ≡ None
  pub above : first_fault_by (wrong_above (declared cs boot)) cs ≡ None
  pub cycles : first_fault_by (on_cycle (numbered cs boot)) cs ≡ None
  pub fields : first_fault_by has_field_twice cs ≡ None

pub no_first_fault : (cs : List ClassDef) (boot : ℕ) → first_phases cs boot ≡ None → HasNoFirstFault cs boot
unfolding first_phases
no_first_fault cs boot none =
    let a = or_none (boot_fault cs boot) _ none in
    let b = or_none (limit_fault cs boot) _ a.1 in
    let c = or_none (first_fault_by (is_twice (declared cs boot)) cs) _ b.1 in
    let d = or_none (first_fault_by (wrong_above (declared cs boot)) cs) _ c.1 in
    let e = or_none (first_fault_by (on_cycle (numbered cs boot)) cs) (first_fault_by has_field_twice cs) d.1 in
    record { boots = a.0; limits = b.0; twice = c.0; above = d.0; cycles = e.0; fields = e.1 }

-- ---- classes by place

pub class_at : (cs : List ClassDef) (i : ℕ) → i < length cs → (c : ClassDef) × (slice_get cs i ≡ Some c)
class_at [] i within = absurd (omega arith)
class_at (c ∷ cs) zero within = (c, refl)
class_at (c ∷ cs) (suc i) within = class_at cs i (omega arith)

pub numbered_at : (cs : List ClassDef) (boot i : ℕ) → slice_get (numbered cs boot).classes i ≡ option_map (class_numbered (declared cs boot)) (slice_get cs i)
unfolding numbered
numbered_at cs boot i = slice_get-map (class_numbered (declared cs boot)) cs i

pub declared_at : (cs : List ClassDef) (boot i : ℕ) → slice_get (declared cs boot).classes i ≡ option_map class_declared (slice_get cs i)
unfolding declared
declared_at cs boot i = slice_get-map class_declared cs i

pub numbered_length : (cs : List ClassDef) (boot : ℕ) → length (numbered cs boot).classes ≡ length cs
unfolding numbered
numbered_length cs boot = length-map cs (class_numbered (declared cs boot))

flags_same : (image : Image) (o : Option ClassDef) → flags_of (option_map (class_numbered image) o) ≡ flags_of (option_map class_declared o)
flags_same image None = refl
flags_same image (Some c) = refl

-- flags are those that the classes declare
pub interface_same : (cs : List ClassDef) (boot i : ℕ) → is_interface (numbered cs boot) i ≡ is_interface (declared cs boot) i
interface_same cs boot i =
    ap (λ o. has_flag (flags_of o) flag.Interface) (numbered_at cs boot i) ∙
    ap (λ f. has_flag f flag.Interface) (flags_same (declared cs boot) (slice_get cs i)) ∙
    sym (ap (λ o. has_flag (flags_of o) flag.Interface) (declared_at cs boot i))

-- ---- classes by name

names_numbered : (image : Image) (cs : List ClassDef) → names_of (map (class_numbered image) cs) ≡ def_names cs
names_numbered image [] = refl
names_numbered image (c ∷ cs) = ap (λ ns. c.name ∷ ns) (names_numbered image cs)

pub numbered_is_position : (cs : List ClassDef) (boot : ℕ) (name : List ℕ) → class_named (numbered cs boot) name ≡ position (bytes_eq name) (def_names cs)
unfolding numbered
numbered_is_position cs boot name =
    named_is_position (numbered cs boot) name ∙ ap (position (bytes_eq name)) (names_numbered (declared cs boot) cs)

-- names mean the same before and after numbering
pub named_same : (cs : List ClassDef) (boot : ℕ) (name : List ℕ) → class_named (numbered cs boot) name ≡ class_named (declared cs boot) name
named_same cs boot name = numbered_is_position cs boot name ∙ sym (declared_is_position cs boot name)

pub named_within : (cs : List ClassDef) (boot : ℕ) (name : List ℕ) (k : ℕ) → class_named (declared cs boot) name ≡ Some k → k < length cs
named_within cs boot name k named =
    let placed : position (bytes_eq name) (def_names cs) ≡ Some k = sym (declared_is_position cs boot name) ∙ named in
    let found = position-Some (bytes_eq name) (def_names cs) k [] placed in
    omega (arith, found.0, length-map cs (λ c. c.name))

number_is : (i : ℕ) (o : Option ℕ) → not (is_number i o) ≡ false → o ≡ Some i
number_is i None h = absurd (cc)
number_is i (Some j) h = let same : i ≡ j = eqb-true i j (not-false (nat_eq i j) h) in ap Some (sym same)

-- where no name is told twice, a class is found under its own
pub named_at : (cs : List ClassDef) (boot : ℕ) → first_fault_by (is_twice (declared cs boot)) cs ≡ None → (i : ℕ) (c : ClassDef) → slice_get cs i ≡ Some c → class_named (declared cs boot) c.name ≡ Some i
named_at cs boot none i c at =
    let fails : is_twice (declared cs boot) i c ≡ None = fails_nowhere (is_twice (declared cs boot)) cs none i c at (slice_get_within cs i c at) in
    number_is i (class_named (declared cs boot) c.name) (when_none (not (is_number i (class_named (declared cs boot) c.name))) kind.ClassTwice fails)

-- ---- numbers are in range

abbrev NamesWithin : Image → ℕ → Type 0
NamesWithin image n = (name : List ℕ) (k : ℕ) → class_named image name ≡ Some k → k < n

parent_in : (image : Image) (n : ℕ) → NamesWithin image n → (o : Option (List ℕ)) → IfSome (option_map class_id (option_and_then (class_named image) o)) (λ p. p.0 < n)
parent_in image n within None = tt
parent_in image n within (Some name) = by (class_named image name) (within name)
  where
    by : (o : Option ℕ) → ((k : ℕ) → o ≡ Some k → k < n) → IfSome (option_map class_id o) (λ p. p.0 < n)
    by None h = tt
    by (Some k) h = h k refl

interfaces_in : (image : Image) (n : ℕ) → NamesWithin image n → (names : List (List ℕ)) → All (λ i. i.0 < n) (map class_id (filter_map (class_named image) names))
interfaces_in image n within [] = All-nil (λ (i : ClassId). i.0 < n)
interfaces_in image n within (name ∷ names) = by (class_named image name) (within name) (interfaces_in image n within names)
  where
    by : (o : Option ℕ) → ((k : ℕ) → o ≡ Some k → k < n) → All (λ i. i.0 < n) (map class_id (filter_map (class_named image) names)) → All (λ i. i.0 < n) (map class_id (cons_option o (filter_map (class_named image) names)))
    by None h rest = rest
    by (Some k) h rest = All-cons (λ (i : ClassId). i.0 < n) (class_id k) (map class_id (filter_map (class_named image) names)) (h k refl) rest

all_in : (image : Image) (n : ℕ) → NamesWithin image n → (cs : List ClassDef) → All (IsInRange n) (map (class_numbered image) cs)
all_in image n within [] = All-nil (IsInRange n)
all_in image n within (c ∷ cs) =
    All-cons (IsInRange n) (class_numbered image c) (map (class_numbered image) cs) (record { parent = parent_in image n within c.parent; interfaces = interfaces_in image n within c.interfaces }) (all_in image n within cs)

pub numbered_range : (cs : List ClassDef) (boot : ℕ) → AreInRange (numbered cs boot).classes
unfolding numbered
numbered_range cs boot =
    subst (λ n. All (IsInRange n) (map (class_numbered (declared cs boot)) cs)) (sym (length-map cs (class_numbered (declared cs boot)))) (all_in (declared cs boot) (length cs) (named_within cs boot) cs)

-- ---- no class depends on itself

pub numbered_acyclic : (cs : List ClassDef) (boot : ℕ) → first_fault_by (on_cycle (numbered cs boot)) cs ≡ None → (c : ℕ) → c < length (numbered cs boot).classes → any_of (λ d. implements (numbered cs boot) d c) (above (numbered cs boot) c) ≡ false
numbered_acyclic cs boot none c within =
    let inside : c < length cs = omega (arith, within, numbered_length cs boot) in
    let there = class_at cs c inside in
    when_none (any_of (λ d. implements (numbered cs boot) d c) (above (numbered cs boot) c)) kind.SuperCycle (fails_nowhere (on_cycle (numbered cs boot)) cs none c there.0 there.1 inside)

-- ---- what stands above a class

-- what is known of a class of which nothing above is wrong
pub record IsSound (image : Image) (c : ClassDef) : Type 0 where
  pub parent : option_and_then (no_class image) c.parent ≡ None
  pub superclass : wrong_superclass image c ≡ false
  pub interfaces : list_any (λ name. not (names_interface image (Some name))) c.interfaces ≡ false

sound_by : (image : Image) (c : ClassDef) (i : ℕ) → wrong_above image i c ≡ None → IsSound image c
sound_by image c i none =
    let a = or_none (names_no_class image c) (option_or (when (wrong_kind image c) kind.SuperKind) (when (final_at image (option_and_then (class_named image) c.parent)) kind.FinalSuper)) none in
    let b = or_none (option_and_then (no_class image) c.parent) _ a.0 in
    let d = or_none (when (wrong_kind image c) kind.SuperKind) (when (final_at image (option_and_then (class_named image) c.parent)) kind.FinalSuper) a.1 in
    let e = or_parts (wrong_superclass image c) (list_any (λ name. not (names_interface image (Some name))) c.interfaces) (when_none (wrong_kind image c) kind.SuperKind d.0) in
    record { parent = b.0; superclass = e.0; interfaces = e.1 }

pub sound_at : (cs : List ClassDef) (boot : ℕ) → first_fault_by (wrong_above (declared cs boot)) cs ≡ None → (i : ℕ) (c : ClassDef) → slice_get cs i ≡ Some c → IsSound (declared cs boot) c
sound_at cs boot none i c at =
    sound_by (declared cs boot) c i (fails_nowhere (wrong_above (declared cs boot)) cs none i c at (slice_get_within cs i c at))

-- a name of a class has a number
class_there : (image : Image) (name : List ℕ) → no_class image name ≡ None → (k : ℕ) × (class_named image name ≡ Some k)
class_there image name none = by (class_named image name) none
  where
    by : (o : Option ℕ) → elim o as (λ _. Option LinkKind) [ None ↦ Some (kind.NoClass name) | Some c ↦ None ] ≡ None → (k : ℕ) × (o ≡ Some k)
    by None h = absurd (cc)
    by (Some k) h = (k, refl)

pub parent_numbered : (cs : List ClassDef) (boot i : ℕ) (c : ClassDef) → slice_get cs i ≡ Some c → parent_at (numbered cs boot) i ≡ class_number (option_map class_id (option_and_then (class_named (declared cs boot)) c.parent))
parent_numbered cs boot i c at =
    ap parent_of (numbered_at cs boot i) ∙ ap (λ o. parent_of (option_map (class_numbered (declared cs boot)) o)) at

pub interfaces_numbered : (cs : List ClassDef) (boot i : ℕ) (c : ClassDef) → slice_get cs i ≡ Some c → interfaces_at (numbered cs boot) i ≡ numbers (map class_id (filter_map (class_named (declared cs boot)) c.interfaces))
interfaces_numbered cs boot i c at =
    ap interfaces_of (numbered_at cs boot i) ∙ ap (λ o. interfaces_of (option_map (class_numbered (declared cs boot)) o)) at

-- a class without a superclass has Object's name
pub rootless : (image : Image) (c : ClassDef) → IsSound image c → class_number (option_map class_id (option_and_then (class_named image) c.parent)) ≡ None → c.name ≡ object_name
rootless image c sound none = by c.parent refl
  where
    by : (o : Option (List ℕ)) → c.parent ≡ o → c.name ≡ object_name
    by None e =
        let told : not (bytes_eq c.name object_name) ≡ false = sym (ap (λ (o : Option (List ℕ)). elim o as (λ _. Bool) [ None ↦ not (bytes_eq c.name object_name) | Some name ↦ names_interface image (Some name) || (has_flag c.flags flag.Interface && not (bytes_eq name object_name)) ]) e) ∙ sound.superclass in
        (bytes_eq-Decides c.name object_name).0 (not-false (bytes_eq c.name object_name) told)
    by (Some name) e =
        let known : no_class image name ≡ None = sym (ap (option_and_then (no_class image)) e) ∙ sound.parent in
        let there = class_there image name known in
        let numbered_is : class_number (option_map class_id (option_and_then (class_named image) c.parent)) ≡ Some there.0 = ap (λ o. class_number (option_map class_id (option_and_then (class_named image) o))) e ∙ ap (λ o. class_number (option_map class_id o)) there.1 in
        absurd (let both : None ≡ Some there.0 = sym none ∙ numbered_is in cc)

-- an interface's superclass is that of Object's name, where it has one
pub under_object : (image : Image) (c : ClassDef) (name : List ℕ) → IsSound image c → c.parent ≡ Some name → has_flag c.flags flag.Interface ≡ true → name ≡ object_name
under_object image c name sound e interface =
    let told : (names_interface image (Some name) || (has_flag c.flags flag.Interface && not (bytes_eq name object_name))) ≡ false =
    sym (ap (λ (o : Option (List ℕ)). elim o as (λ _. Bool) [ None ↦ not (bytes_eq c.name object_name) | Some name ↦ names_interface image (Some name) || (has_flag c.flags flag.Interface && not (bytes_eq name object_name)) ]) e) ∙ sound.superclass in
    let second = (or_parts (names_interface image (Some name)) (has_flag c.flags flag.Interface && not (bytes_eq name object_name)) told).1 in
    let other : not (bytes_eq name object_name) ≡ false = sym (ap (λ (b : Bool). b && not (bytes_eq name object_name)) interface) ∙ second in
    (bytes_eq-Decides name object_name).0 (not-false (bytes_eq name object_name) other)

-- each number among those of names is an interface's
among_interfaces : (image : Image) (names : List (List ℕ)) → list_any (λ name. not (names_interface image (Some name))) names ≡ false → (d : ℕ) → has_number d (numbers (map class_id (filter_map (class_named image) names))) ≡ true → is_interface image d ≡ true
among_interfaces image [] none d has = absurd (cc)
among_interfaces image (name ∷ names) none d has =
    let parts = or_parts (not (names_interface image (Some name))) (list_any (λ n. not (names_interface image (Some n))) names) none in
    by (class_named image name) (not-false (names_interface image (Some name)) parts.0) (among_interfaces image names parts.1 d) has
  where
    here : (k : ℕ) (b : Bool) → nat_eq k d ≡ b → is_interface image k ≡ true → (has_number d (numbers (map class_id (filter_map (class_named image) names))) ≡ true → is_interface image d ≡ true) → elim b [ true ↦ true | false ↦ has_number d (numbers (map class_id (filter_map (class_named image) names))) ] ≡ true → is_interface image d ≡ true
    here k true e first rest h = subst (λ x. is_interface image x ≡ true) (eqb-true k d e) first
    here k false e first rest h = rest h

    by : (o : Option ℕ) → elim o [ None ↦ false | Some c ↦ is_interface image c ] ≡ true → (has_number d (numbers (map class_id (filter_map (class_named image) names))) ≡ true → is_interface image d ≡ true) → has_number d (numbers (map class_id (cons_option o (filter_map (class_named image) names)))) ≡ true → is_interface image d ≡ true
    by None first rest h = absurd (cc)
    by (Some k) first rest h = here k (nat_eq k d) refl first rest h

pub interfaces_are : (cs : List ClassDef) (boot : ℕ) → first_fault_by (wrong_above (declared cs boot)) cs ≡ None → (c d : ℕ) → has_number d (interfaces_at (numbered cs boot) c) ≡ true → is_interface (numbered cs boot) d ≡ true
interfaces_are cs boot none c d has = by (slice_get cs c) refl
  where
    by : (o : Option ClassDef) → slice_get cs c ≡ o → is_interface (numbered cs boot) d ≡ true
    by None at =
        let nothing : interfaces_at (numbered cs boot) c ≡ [] = ap interfaces_of (numbered_at cs boot c) ∙ ap (λ o. interfaces_of (option_map (class_numbered (declared cs boot)) o)) at in
        absurd (let found : false ≡ true = sym (ap (has_number d) nothing) ∙ has in cc)
    by (Some def) at =
        interface_same cs boot d ∙
        among_interfaces (declared cs boot) def.interfaces (sound_at cs boot none c def at).interfaces d (sym (ap (has_number d) (interfaces_numbered cs boot c def at)) ∙ has)
