-- A name that an earlier class has is a fault.
use Rattle.std.proofs.Common.{◌≡◌, ◌+◌, ◌<◌, ℕ, true, false, not, List, [], ◌∷◌, ◌++◌, length, take, get_or, position, bytes_eq, Option, Some, None, is_some, refl, sym, ap, ◌∙◌, arith, option_map}
use Rattle.std.specs.Prelude.{nat_eq}
use Rattle.std.proofs.lemmas.List.{get_or-map, take_more}
use Rattle.std.proofs.lemmas.Option.{slice_get_read}
use Rattle.std.proofs.lemmas.Slice.Eq.{bytes_eq-Decides}
use Rattle.std.proofs.Math.ListN.{length-map}
use Rattle.dv_defs.specs.declared.class.ClassDef.{ClassDef}
use Rattle.dv_defs.specs.declared.faults.LinkKind.TheVariants as kind
use Rattle.dv_defs.specs.Entries.{with_entry}
use Rattle.dv_defs.specs.First.{first_below, when}
use Rattle.dv_defs.specs.LinkFaults.{found, first_fault_by, fault_at, tested, is_twice, is_number}
use Rattle.dv_defs.specs.Numbering.{declared}
use Rattle.dv_defs.specs.Pools.{class_named}
use Rattle.law_linking.specs.Stripped.{def_names}
use Rattle.law_linking.proofs.Names.{declared_is_position}
use Rattle.law_linking.proofs.First.{first_below_found, first_below_more}
use Rattle.dv_hier.proofs.Twice.{first_here, first_before, some_of, none_of}

bytes_same : (xs : List ℕ) → bytes_eq xs xs ≡ true
bytes_same xs = (bytes_eq-Decides xs xs).1 refl

names_count : (cs : List ClassDef) → length (def_names cs) ≡ length cs
names_count cs = length-map cs (λ (c : ClassDef). c.name)

name_at : (cs : List ClassDef) (i : ℕ) (c : ClassDef) → i < length cs → c ≡ get_or cs i c → get_or (def_names cs) i c.name ≡ c.name
name_at cs i c within is = get_or-map (λ (c : ClassDef). c.name) cs i c c.name within ∙ ap (λ (c : ClassDef). c.name) (sym is)

-- a list with an entry where it has no place yet
abbrev at_end : List (List ℕ) → List ℕ → Option ℕ → List (List ℕ)
at_end names name o = elim o [ None ↦ names ++ name ∷ [] | Some k ↦ names ]

-- the names with one more class's
names_more : (cs : List ClassDef) (i : ℕ) (c : ClassDef) (names more : List (List ℕ)) → i < length cs → c ≡ get_or cs i c → names ≡ take i (def_names cs) → position (bytes_eq c.name) names ≡ None → more ≡ with_entry bytes_eq names c.name → more ≡ take (i + 1) (def_names cs)
names_more cs i c names more within is before new added =
    let room : i < length (def_names cs) = omega (arith, names_count cs) in
    let put : with_entry bytes_eq names c.name ≡ names ++ c.name ∷ [] = ap (λ (o : Option ℕ). at_end names c.name o) new in
    added ∙ (put ∙ ((λ j. before j ++ (sym (name_at cs i c within is) j ∷ [])) ∙ sym (take_more (def_names cs) i c.name room)))

twice_by : (i : ℕ) (c : ClassDef) (o p : Option ℕ) → o ≡ p → option_map (found c.name) (when (not (is_number i o)) kind.ClassTwice) ≡ option_map (found c.name) (when (not (is_number i p)) kind.ClassTwice)
twice_by i c o p e = ap (λ (o : Option ℕ). option_map (found c.name) (when (not (is_number i o)) kind.ClassTwice)) e

at_place : (cs : List ClassDef) (boot i : ℕ) (c : ClassDef) (o : Option ℕ) → i < length cs → c ≡ get_or cs i c → position (bytes_eq c.name) (def_names cs) ≡ o → fault_at (is_twice (declared cs boot)) cs i ≡ option_map (found c.name) (when (not (is_number i o)) kind.ClassTwice)
at_place cs boot i c o within is e =
    ap (tested (is_twice (declared cs boot)) i) (slice_get_read cs (length cs) i c refl within is) ∙
    twice_by i c (class_named (declared cs boot) c.name) o (declared_is_position cs boot c.name ∙ e)

-- an earlier class has the name
told_twice : (cs : List ClassDef) (boot i k : ℕ) (c : ClassDef) (names : List (List ℕ)) → i < length cs → c ≡ get_or cs i c → names ≡ take i (def_names cs) → position (bytes_eq c.name) names ≡ Some k → fault_at (is_twice (declared cs boot)) cs i ≡ Some (found c.name kind.ClassTwice)
told_twice cs boot i k c names within is before there =
    let parts = first_before (bytes_eq c.name) (def_names cs) i k c.name (ap (position (bytes_eq c.name)) (sym before) ∙ there) (omega (arith, names_count cs)) in
    at_place cs boot i c (Some k) within is parts.0 ∙ other i k c (omega (arith, parts.1))
  where
    other : (i k : ℕ) (c : ClassDef) → k < i → option_map (found c.name) (when (not (nat_eq i k)) kind.ClassTwice) ≡ Some (found c.name kind.ClassTwice)
    other i k c less = grind arith

-- no earlier class has the name
told_once : (cs : List ClassDef) (boot i : ℕ) (c : ClassDef) (names : List (List ℕ)) → i < length cs → c ≡ get_or cs i c → names ≡ take i (def_names cs) → position (bytes_eq c.name) names ≡ None → fault_at (is_twice (declared cs boot)) cs i ≡ None
told_once cs boot i c names within is before new =
    let same : bytes_eq c.name (get_or (def_names cs) i c.name) ≡ true = ap (bytes_eq c.name) (name_at cs i c within is) ∙ bytes_same c.name in
    at_place cs boot i c (Some i) within is
    (first_here (bytes_eq c.name) (def_names cs) i c.name (ap (position (bytes_eq c.name)) (sym before) ∙ new) (omega (arith, names_count cs)) same) ∙ itself i c
  where
    itself : (i : ℕ) (c : ClassDef) → option_map (found c.name) (when (not (nat_eq i i)) kind.ClassTwice) ≡ None
    itself i c = grind arith

-- the turn of a loop that finds a name among the earlier ones
pub name_found : (cs : List ClassDef) (boot i : ℕ) (c : ClassDef) (names : List (List ℕ)) → first_below (fault_at (is_twice (declared cs boot)) cs) i ≡ None → i < length cs → c ≡ get_or cs i c → names ≡ take i (def_names cs) → is_some (position (bytes_eq c.name) names) ≡ true → first_fault_by (is_twice (declared cs boot)) cs ≡ Some (found c.name kind.ClassTwice)
name_found cs boot i c names before within is earlier there =
    let at = some_of (position (bytes_eq c.name) names) there in
    first_below_found (fault_at (is_twice (declared cs boot)) cs) (length cs) i (found c.name kind.ClassTwice) before (told_twice cs boot i at.0 c names within is earlier at.1) within

-- the turn of a loop that doesn't
pub name_new : (cs : List ClassDef) (boot i : ℕ) (c : ClassDef) (names : List (List ℕ)) → first_below (fault_at (is_twice (declared cs boot)) cs) i ≡ None → i < length cs → c ≡ get_or cs i c → names ≡ take i (def_names cs) → is_some (position (bytes_eq c.name) names) ≡ false → first_below (fault_at (is_twice (declared cs boot)) cs) (i + 1) ≡ None
name_new cs boot i c names before within is earlier new =
    first_below_more (fault_at (is_twice (declared cs boot)) cs) i before (told_once cs boot i c names within is earlier (none_of (position (bytes_eq c.name) names) new))

pub name_added : (cs : List ClassDef) (i : ℕ) (c : ClassDef) (names more : List (List ℕ)) → i < length cs → c ≡ get_or cs i c → names ≡ take i (def_names cs) → is_some (position (bytes_eq c.name) names) ≡ false → more ≡ with_entry bytes_eq names c.name → more ≡ take (i + 1) (def_names cs)
name_added cs i c names more within is earlier new added =
    names_more cs i c names more within is earlier (none_of (position (bytes_eq c.name) names) new) added
