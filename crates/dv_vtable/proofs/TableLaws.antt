-- Classes that declare no method twice, chains of superclasses, and classes with their tables.
use Rattle.std.specs.Prelude.{All, ℕ, zero, suc, ◌≡◌, ◌<◌, ◌+◌, false, not, List, [], ◌∷◌, length, map, zip, position, Option, Some, None, slice_get}
use Rattle.std.specs.List.{range_with_len, enumerate_from, list_any}
use Rattle.std.proofs.Common.{refl, ap, sym, subst, ◌∙◌, arith, get_or}
use Rattle.std.proofs.lemmas.Bool.Decides.{nat_tests}
use Rattle.std.proofs.lemmas.List.{length-map, get_or-map}
use Rattle.std.proofs.lemmas.List.Quantifiers.{position-Some}
use Rattle.std.proofs.lemmas.Option.{slice_get_within, slice_get-get_or}
use Rattle.dv_defs.specs.declared.names.ClassId.{ClassId}
use Rattle.dv_defs.specs.declared.class.ClassDef.{ClassDef}
use Rattle.dv_defs.specs.declared.class.MethodDef.{MethodDef}
use Rattle.dv_defs.specs.declared.image.ClassInfo.{ClassInfo}
use Rattle.dv_defs.specs.declared.image.Select.{Select}
use Rattle.dv_defs.specs.declared.faults.LinkKind.TheVariants as kind
use Rattle.dv_defs.specs.Images.{Image}
use Rattle.dv_defs.specs.First.{first_below, when}
use Rattle.dv_defs.specs.LinkFaults.{same_method, method_twice, is_number}
use Rattle.dv_defs.specs.Pools.{methods_of, parent_at, walk, supers}
use Rattle.dv_defs.specs.Linked.{defs, table_at, priors_at, class_with_table, tabled}
use Rattle.dv_hier.specs.Slots.{walked}
use Rattle.law_linking.proofs.First.{first_below_none, when_none}
use Rattle.dv_vtable.specs.Chains.{same_key, key_in, chain_of, info_with}
use Rattle.dv_vtable.proofs.Inserting.{like}
use Rattle.dv_vtable.proofs.SameKeys.{key_laws}
use Rattle.dv_vtable.proofs.CallableLaws.{IsApartBy, AreApart}

-- ---- no class declares a method twice

-- each item is unlike the earlier ones
abbrev AreUnlike : List MethodDef → Type 0
AreUnlike ms = (k j : ℕ) (m n : MethodDef) → j < k → slice_get ms k ≡ Some m → slice_get ms j ≡ Some n → same_method m n ≡ false

later_unlike : (m : MethodDef) (ms : List MethodDef) → ((k : ℕ) (n : MethodDef) → slice_get ms k ≡ Some n → same_method n m ≡ false)
    → list_any (like same_key key_in m) ms ≡ false
later_unlike m [] unlike = refl
later_unlike m (n ∷ ms) unlike =
    let here : same_key (key_in m) (key_in n) ≡ false = key_laws.symm (key_in m) (key_in n) ∙ unlike 0 n refl in
    rw here (later_unlike m ms (λ k x there. unlike (suc k) x there))

unlike_apart : (ms : List MethodDef) → AreUnlike ms → IsApartBy key_in ms
unlike_apart [] unlike = tt
unlike_apart (m ∷ ms) unlike = (
  later_unlike m ms (λ k n there. unlike (suc k) 0 n m (omega arith) there refl),
  unlike_apart ms (λ k j x y less there earlier. unlike (suc k) (suc j) x y (omega arith) there earlier),
)

number_is : (k : ℕ) (o : Option ℕ) → not (is_number k o) ≡ false → o ≡ Some k
number_is k None is = absurd (cc)
number_is k (Some j) is = let same : j ≡ k = grind (arith, nat_tests) in ap (λ n. Some n) same

first_place : (ms : List MethodDef) → first_below (method_twice ms) (length ms) ≡ None → (k : ℕ) (m : MethodDef) → slice_get ms k ≡ Some m
    → position (same_method m) ms ≡ Some k
first_place ms once k m there =
    let none = first_below_none (method_twice ms) (length ms) k once (slice_get_within ms k m there) in
    let told : when (not (is_number k (position (same_method m) ms))) (kind.MethodTwice m.name) ≡ None = rw (there, method_twice) at none in
    number_is k (position (same_method m) ms) (when_none (not (is_number k (position (same_method m) ms))) (kind.MethodTwice m.name) told)

once_unlike : (ms : List MethodDef) → first_below (method_twice ms) (length ms) ≡ None → AreUnlike ms
once_unlike ms once k j m n less there earlier =
    let parts = position-Some (same_method m) ms k n (first_place ms once k m there) in
    let within = slice_get_within ms j n earlier in
    let is : get_or ms j n ≡ n = (let got = slice_get-get_or ms j n within in cc) in
    subst (λ x. same_method m x ≡ false) is (parts.2 j less)

abbrev pub AreOnce : List ClassDef → Type 0
AreOnce cs = All (λ c. first_below (method_twice c.methods) (length c.methods) ≡ None) cs

pub once_apart : (infos : List ClassInfo) → AreOnce (defs infos) → AreApart infos
once_apart infos once c = go (slice_get infos c) refl
  where
    go : (o : Option ClassInfo) → slice_get infos c ≡ o → IsApartBy key_in (methods_of o)
    go None there = tt
    go (Some info) there =
        let within = slice_get_within infos c info there in
        let is : get_or infos c info ≡ info = (let got = slice_get-get_or infos c info within in cc) in
        let counted : length (defs infos) ≡ length infos = length-map infos (λ (d : ClassInfo). d.def) in
        let own : get_or (defs infos) c info.def ≡ info.def =
        get_or-map (λ (d : ClassInfo). d.def) infos c info info.def within ∙ ap (λ (d : ClassInfo). d.def) is in
        let told = once c info.def (omega arith) in
        unlike_apart info.def.methods (once_unlike info.def.methods
        (subst (λ (d : ClassDef). first_below (method_twice d.methods) (length d.methods) ≡ None) own told))

-- ---- chains

walk_is : (image : Image) (n : ℕ) (o : Option ℕ) → walk image n o ≡ walked image.classes n o
walk_is image zero o = refl
walk_is image (suc n) None = refl
walk_is image (suc n) (Some c) = ap (λ cs. c ∷ cs) (walk_is image n (parent_at image c))

pub chain_is : (image : Image) (c : ℕ) → chain_of image.classes c ≡ supers image c
chain_is image c = sym (walk_is image (length image.classes) (Some c))

-- ---- all classes

joined_are : (image : Image) (a : ℕ) (cs : List ClassInfo)
    → map info_with (zip (zip cs (map (table_at image) (range_with_len a (length cs)))) (map (priors_at image) (range_with_len a (length cs)))) ≡ map (class_with_table image) (enumerate_from a cs)
joined_are image a [] = refl
joined_are image a (c ∷ cs) = ap (λ ds. class_with_table image (a, c) ∷ ds) (joined_are image (a + 1) cs)

-- the classes that are made
pub made_tables : (image : Image) (infos made : List ClassInfo) (tables : List (List Select)) (priors : List (List ClassId)) → image.classes ≡ infos
    → tables ≡ map (table_at image) (range_with_len 0 (length infos)) → priors ≡ map (priors_at image) (range_with_len 0 (length infos))
    → made ≡ map info_with (zip (zip infos tables) priors) → made ≡ (tabled image).classes
unfolding tabled
made_tables image infos made tables priors are below before joined =
    joined ∙ ((λ j. map info_with (zip (zip infos (below j)) (before j)))
    ∙ (ap (λ cs. map info_with (zip (zip cs (map (table_at image) (range_with_len 0 (length cs)))) (map (priors_at image) (range_with_len 0 (length cs))))) (sym are) ∙ joined_are image 0 image.classes))
