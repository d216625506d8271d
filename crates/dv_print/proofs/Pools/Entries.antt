-- The entries of a pool: what is named stands in it, at its index.
use Rattle.std.proofs.Common.{◌≡◌, ℕ, ◌<◌, ◌≤◌, zero, suc, Bool, true, false, ◌&&◌, List, [], ◌∷◌, ◌++◌, length, get_or, position, bytes_eq, nat_lt, nat_eq, Option, Some, None, cond, refl, ap, sym, ◌∙◌, subst, arith}
use Rattle.std.specs.Option.{unwrap_or}
use Rattle.std.specs.List.{slice_get, position_or_len}
use Rattle.std.proofs.lemmas.Bool.{eqb-true, lt-ltb}
use Rattle.std.proofs.lemmas.Bool.Decides.{nat_tests}
use Rattle.std.proofs.lemmas.List.Quantifiers.{position-Some}
use Rattle.std.proofs.lemmas.List.Sums.{fails_before_first, passes_at_first}
use Rattle.std.proofs.lemmas.Option.{slice_get_within, slice_get-get_or, get_or_from_slice_get}
use Rattle.dv_defs.specs.declared.names.Base.{Base}
use Rattle.dv_defs.specs.declared.names.Base.TheVariants as base
use Rattle.dv_defs.specs.declared.names.Ty.{Ty}
use Rattle.dv_defs.specs.declared.names.Proto.{Proto}
use Rattle.dv_defs.specs.declared.names.FieldRef.{FieldRef}
use Rattle.dv_defs.specs.declared.names.MethodRef.{MethodRef}
use Rattle.dv_defs.specs.Types.{base_eq, ty_eq, same_types, same_result, same_proto}
use Rattle.dv_draft.specs.Pools.{with_entry_if_any, with_entries}
use Rattle.dv_defs.specs.Entries.{with_entry}
use Rattle.dv_defs.specs.Types.{field_eq, method_eq}
use Rattle.dv_print.proofs.Truth.{both, itself as number_itself}

-- ---- tests of equality

-- a test that holds of equal values alone
pub record Tells {X : Type 0} (eq : X → X → Bool) : Type 0 where
  pub same : (a b : X) → eq a b ≡ true → a ≡ b
  pub itself : (a : X) → eq a a ≡ true

pub joined : (a b : Bool) → a ≡ true → b ≡ true → (a && b) ≡ true
joined true b e h = h
joined false b e h = absurd (cc)

pub bytes_same : (a b : List ℕ) → bytes_eq a b ≡ true → a ≡ b
bytes_same [] [] e = refl
bytes_same [] (y ∷ b) e = absurd (cc)
bytes_same (x ∷ a) [] e = absurd (cc)
bytes_same (x ∷ a) (y ∷ b) e =
    let p = both (nat_eq x y) (bytes_eq a b) e in
    let first : x ≡ y = eqb-true x y p.0 in
    cc (first, bytes_same a b p.1)

pub bytes_itself : (a : List ℕ) → bytes_eq a a ≡ true
bytes_itself [] = refl
bytes_itself (x ∷ a) = joined (nat_eq x x) (bytes_eq a a) (number_itself x) (bytes_itself a)

pub bytes_tell : Tells bytes_eq
bytes_tell = record { same = bytes_same; itself = bytes_itself }

base_same : (a b : Base) → base_eq a b ≡ true → a ≡ b
base_same base.Z base.Z e = refl
base_same base.B base.B e = refl
base_same base.C base.C e = refl
base_same base.S base.S e = refl
base_same base.I base.I e = refl
base_same base.J base.J e = refl
base_same (base.Class a) (base.Class b) e = ap base.Class (bytes_same a b e)
base_same a b e = absurd (cc)

base_itself : (a : Base) → base_eq a a ≡ true
base_itself base.Z = refl
base_itself base.B = refl
base_itself base.C = refl
base_itself base.S = refl
base_itself base.I = refl
base_itself base.J = refl
base_itself (base.Class a) = bytes_itself a

ty_by : (m n : ℕ) (a b : Base) → m ≡ n → a ≡ b → (let t : Ty = record { dims = m; base = a } in t) ≡ record { dims = n; base = b }
ty_by m n a b e h = cc

ty_same : (a b : Ty) → ty_eq a b ≡ true → a ≡ b
ty_same a b e =
    let p = both (nat_eq a.dims b.dims) (base_eq a.base b.base) e in
    ty_by a.dims b.dims a.base b.base (eqb-true a.dims b.dims p.0) (base_same a.base b.base p.1)

ty_itself : (a : Ty) → ty_eq a a ≡ true
ty_itself a = joined (nat_eq a.dims a.dims) (base_eq a.base a.base) (number_itself a.dims) (base_itself a.base)

pub types_tell : Tells ty_eq
types_tell = record { same = ty_same; itself = ty_itself }

field_by : (a b : Ty) (m n : List ℕ) (t u : Ty) → a ≡ b → m ≡ n → t ≡ u → (let f : FieldRef = record { class = a; name = m; ty = t } in f) ≡ record { class = b; name = n; ty = u }
field_by a b m n t u e h k = cc

field_same : (a b : FieldRef) → field_eq a b ≡ true → a ≡ b
field_same a b e =
    let p = both (ty_eq a.class b.class) (bytes_eq a.name b.name && ty_eq a.ty b.ty) e in
    let q = both (bytes_eq a.name b.name) (ty_eq a.ty b.ty) p.1 in
    field_by a.class b.class a.name b.name a.ty b.ty (ty_same a.class b.class p.0) (bytes_same a.name b.name q.0) (ty_same a.ty b.ty q.1)

field_itself : (a : FieldRef) → field_eq a a ≡ true
field_itself a = joined (ty_eq a.class a.class) _ (ty_itself a.class) (joined (bytes_eq a.name a.name) _ (bytes_itself a.name) (ty_itself a.ty))

pub fields_tell : Tells field_eq
fields_tell = record { same = field_same; itself = field_itself }

all_same : (a b : List Ty) → same_types a b ≡ true → a ≡ b
all_same [] [] e = refl
all_same [] (y ∷ b) e = absurd (cc)
all_same (x ∷ a) [] e = absurd (cc)
all_same (x ∷ a) (y ∷ b) e =
    let p = both (ty_eq x y) (same_types a b) e in
    cc (ty_same x y p.0, all_same a b p.1)

all_itself : (a : List Ty) → same_types a a ≡ true
all_itself [] = refl
all_itself (x ∷ a) = joined (ty_eq x x) (same_types a a) (ty_itself x) (all_itself a)

result_same : (a b : Option Ty) → same_result a b ≡ true → a ≡ b
result_same None None e = refl
result_same (Some a) (Some b) e = ap Some (ty_same a b e)
result_same None (Some b) e = absurd (cc)
result_same (Some a) None e = absurd (cc)

result_itself : (a : Option Ty) → same_result a a ≡ true
result_itself None = refl
result_itself (Some a) = ty_itself a

proto_by : (a b : List Ty) (r s : Option Ty) → a ≡ b → r ≡ s → (let p : Proto = record { params = a; ret = r } in p) ≡ record { params = b; ret = s }
proto_by a b r s e h = cc

proto_same : (p q : Proto) → same_proto p q ≡ true → p ≡ q
proto_same p q e =
    let h = both (same_types p.params q.params) (same_result p.ret q.ret) e in
    proto_by p.params q.params p.ret q.ret (all_same p.params q.params h.0) (result_same p.ret q.ret h.1)

proto_itself : (p : Proto) → same_proto p p ≡ true
proto_itself p = joined (same_types p.params p.params) _ (all_itself p.params) (result_itself p.ret)

method_by : (a b : Ty) (m n : List ℕ) (p q : Proto) → a ≡ b → m ≡ n → p ≡ q → (let f : MethodRef = record { class = a; name = m; proto = p } in f) ≡ record { class = b; name = n; proto = q }
method_by a b m n p q e h k = cc

method_same : (a b : MethodRef) → method_eq a b ≡ true → a ≡ b
method_same a b e =
    let p = both (ty_eq a.class b.class) (bytes_eq a.name b.name && same_proto a.proto b.proto) e in
    let q = both (bytes_eq a.name b.name) (same_proto a.proto b.proto) p.1 in
    method_by a.class b.class a.name b.name a.proto b.proto (ty_same a.class b.class p.0) (bytes_same a.name b.name q.0) (proto_same a.proto b.proto q.1)

method_itself : (a : MethodRef) → method_eq a a ≡ true
method_itself a = joined (ty_eq a.class a.class) _ (ty_itself a.class) (joined (bytes_eq a.name a.name) _ (bytes_itself a.name) (proto_itself a.proto))

pub methods_tell : Tells method_eq
methods_tell = record { same = method_same; itself = method_itself }

-- ---- what stands in a pool

pub appended : {X : Type 0} (xs ys : List X) (j : ℕ) (y : X) → slice_get xs j ≡ Some y → slice_get (xs ++ ys) j ≡ Some y
appended [] ys j y e = absurd (cc)
appended (x ∷ xs) ys zero y e = e
appended (x ∷ xs) ys (suc j) y e = appended xs ys j y e

pushed : {X : Type 0} (xs : List X) (x : X) → slice_get (xs ++ x ∷ []) (length xs) ≡ Some x
pushed [] x = refl
pushed (y ∷ xs) x = pushed xs x

kept_by : {X : Type 0} (xs : List X) (x : X) (place : Option ℕ) (j : ℕ) (y : X) → slice_get xs j ≡ Some y → slice_get {X = X} (elim place [ None ↦ xs ++ x ∷ [] | Some k ↦ xs ]) j ≡ Some y
kept_by xs x None j y e = appended xs (x ∷ []) j y e
kept_by xs x (Some k) j y e = e

kept_if : {X : Type 0} (eq : X → X → Bool) (xs : List X) (o : Option X) (j : ℕ) (y : X) → slice_get xs j ≡ Some y → slice_get (with_entry_if_any eq xs o) j ≡ Some y
kept_if eq xs None j y e = e
kept_if eq xs (Some x) j y e = kept_by xs x (position (eq x) xs) j y e

-- what stands in a pool stays in its place
pub kept : {X Y : Type 0} (eq : X → X → Bool) (entry : Y → Option X) (xs : List X) (ys : List Y) (j : ℕ) (y : X) → slice_get xs j ≡ Some y → slice_get (with_entries eq entry xs ys) j ≡ Some y
kept eq entry xs [] j y e = e
kept eq entry xs (z ∷ ys) j y e = kept eq entry (with_entry_if_any eq xs (entry z)) ys j y (kept_if eq xs (entry z) j y e)

pub record Holds {X : Type 0} (eq : X → X → Bool) (x : X) (xs : List X) : Type 0 where
  pub place : ℕ
  pub found : X
  pub stands : slice_get xs place ≡ Some found
  pub equal : eq x found ≡ true

holds_by : {X : Type 0} (eq : X → X → Bool) → Tells eq → (xs : List X) (x : X) (place : Option ℕ) → position (eq x) xs ≡ place → Holds {X = X} eq x (elim place [ None ↦ xs ++ x ∷ [] | Some k ↦ xs ])
holds_by eq t xs x None e = record { place = length xs; found = x; stands = pushed xs x; equal = t.itself x }
holds_by eq t xs x (Some k) e =
    let p = position-Some (eq x) xs k x e in
    record { place = k; found = get_or xs k x; stands = slice_get-get_or xs k x p.0; equal = p.1 }

holds_here : {X : Type 0} (eq : X → X → Bool) → Tells eq → (xs : List X) (x : X) → Holds eq x (with_entry eq xs x)
holds_here eq t xs x = holds_by eq t xs x (position (eq x) xs) refl

-- what an item names stands in the pool
pub holds : {X Y : Type 0} (eq : X → X → Bool) (entry : Y → Option X) → Tells eq → (xs : List X) (ys : List Y) (k : ℕ) (y : Y) (x : X) → slice_get ys k ≡ Some y → entry y ≡ Some x → Holds eq x (with_entries eq entry xs ys)
holds eq entry t xs [] k y x e h = absurd (cc)
holds {X} {Y} eq entry t xs (z ∷ ys) zero y x e h =
    let same : z ≡ y = cc in
    let named : entry z ≡ Some x = ap entry same ∙ h in
    let here = holds_here eq t xs x in
    let P : Option X → Type 0 = λ o. Holds eq x (with_entries eq entry (with_entry_if_any eq xs o) ys) in
    subst P (sym named) (record { place = here.place; found = here.found; stands = kept eq entry (with_entry eq xs x) ys here.place here.found here.stands; equal = here.equal })
holds eq entry t xs (z ∷ ys) (suc k) y x e h = holds eq entry t (with_entry_if_any eq xs (entry z)) ys k y x e h

pub not_before : {X : Type 0} (p : X → Bool) (xs : List X) (j : ℕ) (d : X) → p (get_or xs j d) ≡ true → position_or_len p xs ≤ j
not_before p xs j d e = at (nat_lt j (position_or_len p xs)) refl
  where
    at : (b : Bool) → nat_lt j (position_or_len p xs) ≡ b → position_or_len p xs ≤ j
    at true h =
        let before : j < position_or_len p xs = grind (arith, nat_tests) in
        absurd (cc (e, fails_before_first p xs j d before))
    at false h = grind (arith, nat_tests)

-- the entry at the index of what stands in a pool is it
pub at_index : {X : Type 0} (eq : X → X → Bool) → Tells eq → (x : X) (xs : List X) → Holds eq x xs → slice_get xs (unwrap_or (position (eq x) xs) 0) ≡ Some x
at_index {X} eq t x xs h =
    let first = position_or_len (eq x) xs in
    let test : eq x (get_or xs h.place x) ≡ true = ap (eq x) (get_or_from_slice_get xs h.place h.found x h.stands) ∙ h.equal in
    let less : first < length xs = omega (arith, not_before (eq x) xs h.place x test, slice_get_within xs h.place h.found h.stands) in
    let place : position (eq x) xs ≡ Some first = ap (λ b. cond b (Some first) None) (lt-ltb first (length xs) less) in
    let same : x ≡ get_or xs first x = t.same x (get_or xs first x) (passes_at_first (eq x) xs x less) in
    ap (λ o. slice_get xs (unwrap_or o 0)) place ∙ (slice_get-get_or xs first x less ∙ ap Some (sym same))
