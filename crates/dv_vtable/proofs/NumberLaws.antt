-- The numbers of keys tell the keys apart.
use Rattle.std.proofs.Common.{◌≡◌, ◌<◌, ℕ, zero, suc, Bool, true, false, cond, ◌||◌, List, [], ◌∷◌, length, get_or, position, Some, None, refl, sym, ap, ◌∙◌, arith}
use Rattle.std.specs.Prelude.{nat_eq, slice_get}
use Rattle.std.specs.List.{list_any}
use Rattle.std.proofs.lemmas.Bool.{eqb-true}
use Rattle.std.proofs.lemmas.Bool.Decides.{nat_tests}
use Rattle.std.proofs.lemmas.List.Folds.{list_any_at}
use Rattle.std.proofs.lemmas.List.Sums.{passes_at_first}
use Rattle.std.proofs.lemmas.Option.{slice_get_within, get_or_from_slice_get}
use Rattle.dv_defs.specs.declared.names.MethodId.{MethodId}
use Rattle.dv_defs.specs.declared.class.MethodDef.{MethodDef}
use Rattle.dv_hier.proofs.Twice.{some_place, some_of}
use Rattle.dv_vtable.specs.Chains.{insert_entry, Key, same_key, key_in, is_in_tables, method_number, entered}
use Rattle.dv_vtable.specs.Numbered.{has_key, key_number, numbers_in, numbers_of, entered_numbers, numbered}
use Rattle.dv_vtable.proofs.SameKeys.{key_is, key_laws}

-- ---- which keys have one number

-- a method has the key
abbrev pub IsAmong : List MethodDef → Key → Type 0
IsAmong all k = key_number all k < length all

pub number_at : (all : List MethodDef) (k : Key) (i : ℕ) → position (has_key k) all ≡ Some i → (key_number all k ≡ i) × IsAmong all k
number_at all k i found = (grind arith, grind arith)

pub method_among : (all : List MethodDef) (i : ℕ) (m : MethodDef) → slice_get all i ≡ Some m → IsAmong all (key_in m)
method_among all i m at =
    let here : has_key (key_in m) (get_or all i m) ≡ true =
    ap (has_key (key_in m)) (get_or_from_slice_get all i m m at) ∙ key_laws.refl (key_in m) in
    let some : list_any (has_key (key_in m)) all ≡ true = list_any_at (has_key (key_in m)) all i m (slice_get_within all i m at) here in
    let place = some_of (position (has_key (key_in m)) all) (some_place (has_key (key_in m)) all ∙ some) in
    (number_at all (key_in m) place.0 place.1).1

-- what has the number of a method's key is the key
same_number : (all : List MethodDef) (k q : Key) (d : MethodDef) → IsAmong all k → key_number all k ≡ key_number all q → k ≡ q
same_number all k q d among same =
    let first : same_key k (key_in (get_or all (key_number all k) d)) ≡ true = passes_at_first (has_key k) all d among in
    let second : same_key q (key_in (get_or all (key_number all q) d)) ≡ true = passes_at_first (has_key q) all d (rw (sym same) among) in
    key_is k (key_in (get_or all (key_number all k) d)) first
    ∙ sym (key_is q (key_in (get_or all (key_number all k) d)) (rw same second))

any_method : (all : List MethodDef) → zero < length all → MethodDef
any_method [] within = absurd (omega arith)
any_method (m ∷ all) within = m

pub numbers_tell : (all : List MethodDef) (k q : Key) → IsAmong all k → nat_eq (key_number all k) (key_number all q) ≡ same_key k q
numbers_tell all k q among = go (same_key k q) refl (nat_eq (key_number all k) (key_number all q)) refl
  where
    go : (s : Bool) → same_key k q ≡ s → (b : Bool) → nat_eq (key_number all k) (key_number all q) ≡ b → b ≡ s
    go true is true e = refl
    go true is false e =
        let same : key_number all k ≡ key_number all q = ap (key_number all) (key_is k q is) in
        absurd (grind (arith, nat_tests))
    go false is false e = refl
    go false is true e =
        let same : key_number all k ≡ key_number all q = eqb-true (key_number all k) (key_number all q) e in
        let keys : k ≡ q = same_number all k q (any_method all (omega (arith, among))) among same in
        let wrong : true ≡ false = sym (key_laws.refl k) ∙ (ap (same_key k) keys ∙ is) in
        absurd (cc)

-- ---- entries by number

inserted_number : (all : List MethodDef) (es : List (Key × MethodId)) (k : Key) (v : MethodId) → IsAmong all k
    → insert_entry nat_eq (numbered all es) (key_number all k) v ≡ numbered all (insert_entry same_key es k v)
inserted_number all [] k v among = refl
inserted_number all (e ∷ es) k v among = go (same_key k e.0) refl (inserted_number all es k v among)
  where
    go : (b : Bool) → same_key k e.0 ≡ b
        → insert_entry nat_eq (numbered all es) (key_number all k) v ≡ numbered all (insert_entry same_key es k v)
        → insert_entry nat_eq (numbered all (e ∷ es)) (key_number all k) v ≡ numbered all (insert_entry same_key (e ∷ es) k v)
    go true is rest = rw (numbers_tell all k e.0 among, is) refl
    go false is rest = rw (numbers_tell all k e.0 among, is) (ap (λ fs. (key_number all e.0, e.1) ∷ fs) rest)

-- all of these methods are among others
abbrev pub AreAmong : List MethodDef → List MethodDef → Type 0
AreAmong all ms = (i : ℕ) (m : MethodDef) → slice_get ms i ≡ Some m → IsAmong all (key_in m)

pub entered_numbered : (all ms : List MethodDef) (id : ℕ) (es : List (Key × MethodId)) → AreAmong all ms
    → entered_numbers (numbered all es) id (numbers_in all ms) ≡ numbered all (entered es id ms)
entered_numbered all [] id es among = refl
entered_numbered all (m ∷ ms) id es among =
    go (is_in_tables m) refl (λ fs. entered_numbered all ms (suc id) fs (λ i n at. among (suc i) n at))
  where
    by_number : (b : Bool) → is_in_tables m ≡ b
        → entered_numbers (numbered all es) id (numbers_in all (m ∷ ms))
        ≡ entered_numbers (elim (cond b (Some (key_number all (key_in m))) None) as (λ _. List (ℕ × MethodId))
        [ Some n ↦ insert_entry nat_eq (numbered all es) n (method_number id) | None ↦ numbered all es ]) (suc id) (numbers_in all ms)
    by_number b is =
        λ j. entered_numbers (elim (cond (is j) (Some (key_number all (key_in m))) None) as (λ _. List (ℕ × MethodId))
        [ Some n ↦ insert_entry nat_eq (numbered all es) n (method_number id) | None ↦ numbered all es ]) (suc id) (numbers_in all ms)

    by_key : (b : Bool) → is_in_tables m ≡ b
        → numbered all (entered es id (m ∷ ms))
        ≡ numbered all (entered (elim b as (λ _. List (Key × MethodId)) [ true ↦ insert_entry same_key es (key_in m) (method_number id) | false ↦ es ]) (suc id) ms)
    by_key b is =
        λ j. numbered all (entered (elim (is j) as (λ _. List (Key × MethodId)) [ true ↦ insert_entry same_key es (key_in m) (method_number id) | false ↦ es ]) (suc id) ms)

    go : (b : Bool) → is_in_tables m ≡ b
        → ((fs : List (Key × MethodId)) → entered_numbers (numbered all fs) (suc id) (numbers_in all ms) ≡ numbered all (entered fs (suc id) ms))
        → entered_numbers (numbered all es) id (numbers_in all (m ∷ ms)) ≡ numbered all (entered es id (m ∷ ms))
    go true is rest =
        by_number true is
        ∙ (ap (λ fs. entered_numbers fs (suc id) (numbers_in all ms)) (inserted_number all es (key_in m) (method_number id) (among 0 m refl))
        ∙ (rest (insert_entry same_key es (key_in m) (method_number id)) ∙ sym (by_key true is)))
    go false is rest = by_number false is ∙ (rest es ∙ sym (by_key false is))

-- ---- the numbers that have entries

pub any_inserted : (es : List (ℕ × MethodId)) (n q : ℕ) (v : MethodId)
    → list_any (nat_eq q) (numbers_of (insert_entry nat_eq es n v)) ≡ (list_any (nat_eq q) (numbers_of es) || nat_eq n q)
any_inserted [] n q v = grind (arith, nat_tests)
any_inserted (e ∷ es) n q v = go (nat_eq n e.0) refl (any_inserted es n q v)
  where
    with_same : (a b c : ℕ) (rest : Bool) → nat_eq a b ≡ true → (nat_eq c b || rest) ≡ ((nat_eq c b || rest) || nat_eq a c)
    with_same a b c true is = grind (arith, nat_tests)
    with_same a b c false is = grind (arith, nat_tests)

    or_more : (a b c : Bool) → (a || (b || c)) ≡ ((a || b) || c)
    or_more true b c = refl
    or_more false b c = refl

    go : (b : Bool) → nat_eq n e.0 ≡ b
        → list_any (nat_eq q) (numbers_of (insert_entry nat_eq es n v)) ≡ (list_any (nat_eq q) (numbers_of es) || nat_eq n q)
        → list_any (nat_eq q) (numbers_of (insert_entry nat_eq (e ∷ es) n v)) ≡ (list_any (nat_eq q) (numbers_of (e ∷ es)) || nat_eq n q)
    go true is rest = rw is (with_same n e.0 q (list_any (nat_eq q) (numbers_of es)) is)
    go false is rest = rw is (ap (λ b. nat_eq q e.0 || b) rest ∙ or_more (nat_eq q e.0) (list_any (nat_eq q) (numbers_of es)) (nat_eq n q))
