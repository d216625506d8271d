-- A map that takes the members of a class one by one, where none is under its key yet, leads from each key to the first.
use Rattle.std.proofs.Common.{◌≡◌, ◌+◌, ◌<◌, ◌≤◌, ℕ, suc, Bool, true, false, cond, ◌&&◌, List, length, drop, get_or, Option, Some, None, refl, sym, ap, ◌∙◌, arith, add-one, if◌then◌else◌}
use Rattle.std.proofs.Math.Seq.{drop-cons}
use Rattle.std.proofs.lemmas.List.{drop_all}
use Rattle.std.specs.Prelude.{nat_eq, bytes_eq}
use Rattle.std.specs.declared.cmp.Ordering.{Ordering}
use Rattle.std.specs.Ordering.{is_eq, eq_by_cmp}
use Rattle.std.specs.Cmp.{IsEquivalence}
use Rattle.std.specs.BTreeMap.{BTreeMap, get}
use Rattle.std.proofs.lemmas.Cmp.{eq_by_cmp_equiv}
use Rattle.std.specs.Map.{lookup}
use Rattle.std.specs.Option.{option_or, is_some}
use Rattle.dv_defs.proofs.Keys.{protos, type_keys}
use Rattle.dv_defs.specs.declared.class.FieldDef.{FieldDef}
use Rattle.dv_defs.specs.declared.class.MethodDef.{MethodDef}
use Rattle.dv_defs.specs.declared.names.ClassId.{ClassId}
use Rattle.dv_defs.specs.Numbering.{class_id}
use Rattle.dv_resolve.specs.declared.members.Member.{Member}
use Rattle.dv_resolve.specs.declared.members.MethodKey.{MethodKey}
use Rattle.dv_resolve.specs.declared.members.FieldKey.{FieldKey}
use Rattle.dv_resolve.specs.contracts.members.MethodKeyOrd.TheImpl.Laws as of_methods
use Rattle.dv_resolve.specs.contracts.members.FieldKeyOrd.TheImpl.Laws as of_fields
use Rattle.dv_resolve.specs.Firsts.{first_own, is_method_under, is_field_under}
use Rattle.dv_resolve.specs.Members.{method_key_cmp, field_key_cmp}

pub method_laws : IsEquivalence (eq_by_cmp method_key_cmp)
method_laws = eq_by_cmp_equiv of_methods.total-law

pub field_laws : IsEquivalence (eq_by_cmp field_key_cmp)
field_laws = eq_by_cmp_equiv of_fields.total-law

-- what a member is kept under
abbrev pub method_key : ClassId → MethodDef → MethodKey
method_key c m = record { class = c; name = record { ref_ptr = (0, 0); now = m.name }; proto = record { ref_ptr = (0, 0); now = m.proto } }

abbrev pub field_key : ClassId → FieldDef → FieldKey
field_key c f = record { class = c; name = record { ref_ptr = (0, 0); now = f.name }; ty = record { ref_ptr = (0, 0); now = f.ty } }

-- the key of a method is like the keys that the method is under
pub method_under : (q k : MethodKey) (c : ℕ) (m : MethodDef) → q.class.0 ≡ c → q.name.now ≡ m.name → q.proto.now ≡ m.proto → is_eq (method_key_cmp q k) ≡ is_method_under k c m
method_under q k c m class name proto = sym (of_methods.matches_eq-law q k) ∙ λ j. nat_eq (class j) k.class.0 && (bytes_eq (name j) k.name.now && protos (proto j) k.proto.now j)

pub field_under : (q k : FieldKey) (c : ℕ) (f : FieldDef) → q.class.0 ≡ c → q.name.now ≡ f.name → q.ty.now ≡ f.ty → is_eq (field_key_cmp q k) ≡ is_field_under k c f
field_under q k c f class name ty = sym (of_fields.matches_eq-law q k) ∙ λ j. nat_eq (class j) k.class.0 && (bytes_eq (name j) k.name.now && type_keys j (ty j) k.ty.now)

or_nothing : {X : Type 0} (o : Option X) → option_or o None ≡ o
or_nothing None = refl
or_nothing (Some x) = refl

there_step : {X : Type 0} (b : Bool) (o here rest : Option X) (x : X) → (b ≡ true → o ≡ here) → is_some here ≡ true → option_or o rest ≡ option_or o (if b then Some x else rest)
there_step false o here rest x same there = refl
there_step true (Some y) here rest x same there = refl
there_step true None here rest x same there = let none : None ≡ here = same refl in let seen : is_some here ≡ false = ap is_some (sym none) in absurd (cc)

new_step : {X : Type 0} (b : Bool) (o here new rest : Option X) (x : X) → (b ≡ true → o ≡ here) → is_some here ≡ false → new ≡ cond b (Some x) o → option_or new rest ≡ option_or o (if b then Some x else rest)
new_step false o here new rest x same absent added = ap (λ n. option_or n rest) added
new_step true (Some y) here new rest x same absent added = let some : Some y ≡ here = same refl in let seen : is_some here ≡ true = ap is_some (sym some) in absurd (cc)
new_step true None here new rest x same absent added = ap (λ n. option_or n rest) added

-- the members from a place on are the one there, and those behind it
cut : {M : Type 0} (like : ℕ → M → Bool) (flags : M → ℕ) (xs : List M) (c first place : ℕ) (m : M) → place < length xs → m ≡ get_or xs place m
    → first_own like flags c (first + place) (drop place xs)
    ≡ (if like c m then Some (record { id = first + place; class = class_id c; flags = flags m }) else first_own like flags c (first + (place + 1)) (drop (place + 1) xs))
cut like flags xs c first place m within is =
    let e : first + (place + 1) ≡ suc (first + place) = omega arith in
    rw (e, drop-cons xs place m within, ← is, add-one) refl

module _ {K M : Type 0} (cmp : K → K → Ordering) (laws : IsEquivalence (eq_by_cmp cmp)) (like : K → ℕ → M → Bool) (flags : M → ℕ) where
  same_found : (found : BTreeMap K Member) (q k : K) → is_eq (cmp q k) ≡ true → get cmp found k ≡ get cmp found q
  same_found found q k e = sym (λ i. lookup (λ z. laws.congr q k z e i) found.entries)

  -- a member whose key is there
  pub there_more : (found : BTreeMap K Member) (xs : List M) (c first place : ℕ) (m : M) (q : K) (aim : K → Option Member)
      → place < length xs → m ≡ get_or xs place m → ((k : K) → is_eq (cmp q k) ≡ like k c m)
      → is_some (get cmp found q) ≡ true
      → ((k : K) → option_or (get cmp found k) (first_own (like k) flags c (first + place) (drop place xs)) ≡ aim k)
      → (k : K) → option_or (get cmp found k) (first_own (like k) flags c (first + (place + 1)) (drop (place + 1) xs)) ≡ aim k
  there_more found xs c first place m q aim within is under there before k =
      there_step (like k c m) (get cmp found k) (get cmp found q) (first_own (like k) flags c (first + (place + 1)) (drop (place + 1) xs))
      (record { id = first + place; class = class_id c; flags = flags m })
      (λ e. same_found found q k (under k ∙ e)) there
      ∙ (ap (option_or (get cmp found k)) (sym (cut (like k) flags xs c first place m within is)) ∙ before k)

  -- a member that is added
  pub new_more : (found new : BTreeMap K Member) (xs : List M) (c first place : ℕ) (m : M) (q : K) (aim : K → Option Member)
      → place < length xs → m ≡ get_or xs place m → ((k : K) → is_eq (cmp q k) ≡ like k c m)
      → is_some (get cmp found q) ≡ false
      → ((k : K) → get cmp new k ≡ cond (is_eq (cmp q k)) (Some (record { id = first + place; class = class_id c; flags = flags m })) (get cmp found k))
      → ((k : K) → option_or (get cmp found k) (first_own (like k) flags c (first + place) (drop place xs)) ≡ aim k)
      → (k : K) → option_or (get cmp new k) (first_own (like k) flags c (first + (place + 1)) (drop (place + 1) xs)) ≡ aim k
  new_more found new xs c first place m q aim within is under absent added before k =
      new_step (like k c m) (get cmp found k) (get cmp found q) (get cmp new k) (first_own (like k) flags c (first + (place + 1)) (drop (place + 1) xs))
      (record { id = first + place; class = class_id c; flags = flags m })
      (λ e. same_found found q k (under k ∙ e)) absent
      (added k ∙ ap (λ b. cond b (Some (record { id = first + place; class = class_id c; flags = flags m })) (get cmp found k)) (under k))
      ∙ (ap (option_or (get cmp found k)) (sym (cut (like k) flags xs c first place m within is)) ∙ before k)

  -- nothing is left
  pub all_found : (found : BTreeMap K Member) (xs : List M) (c first place : ℕ) (aim : K → Option Member) → length xs ≤ place
      → ((k : K) → option_or (get cmp found k) (first_own (like k) flags c (first + place) (drop place xs)) ≡ aim k)
      → (k : K) → get cmp found k ≡ aim k
  all_found found xs c first place aim all before k =
      let none : first_own (like k) flags c (first + place) (drop place xs) ≡ None = ap (first_own (like k) flags c (first + place)) (drop_all place xs all) in
      sym (or_nothing (get cmp found k)) ∙ (ap (option_or (get cmp found k)) (sym none) ∙ before k)
