-- The classes that declare a member: one more, and all of them once each member's class is added.
use Rattle.std.specs.Prelude.{ℕ, ◌≡◌, Bool, true, false, List, [], ◌∷◌, ◌++◌, Option, Some, None, is_some, option_map, nat_eq, if◌then◌else◌, cond}
use Rattle.std.proofs.Common.{refl, ap, sym, ◌∙◌, ◌⊎◌, inl, inr, ⊎_elim}
use Rattle.std.specs.Cmp.{IsEquivalence}
use Rattle.std.specs.Global.{Vec}
use Rattle.std.specs.declared.cmp.Ordering.{Ordering}
use Rattle.std.specs.Ordering.{is_eq, eq_by_cmp}
use Rattle.std.specs.BTreeMap.{BTreeMap, get, is_at}
use Rattle.std.proofs.lemmas.Cmp.{eq_by_cmp_equiv}
use Rattle.std.specs.Map.{lookup}
use Rattle.std.proofs.lemmas.Bool.{eqb-true, and_parts}
use Rattle.dv_defs.specs.declared.names.ClassId.{ClassId}
use Rattle.dv_defs.specs.Order.{has_number, numbers}
use Rattle.law_linking.proofs.Reach.{number_first}
use Rattle.law_linking.proofs.Upward.{has_left, has_right}
use Rattle.dv_resolve.specs.declared.members.Member.{Member}
use Rattle.dv_resolve.specs.declared.members.MethodKey.{MethodKey}
use Rattle.dv_resolve.specs.declared.members.FieldKey.{FieldKey}
use Rattle.dv_resolve.specs.contracts.declarers.MethodNameOrd.TheImpl.Laws as of_method_names
use Rattle.dv_resolve.specs.contracts.declarers.FieldNameOrd.TheImpl.Laws as of_field_names
use Rattle.dv_resolve.specs.contracts.declarers.MethodNamePartialEq.TheImpl as same_method_names
use Rattle.dv_resolve.specs.contracts.declarers.FieldNamePartialEq.TheImpl as same_field_names
use Rattle.dv_resolve.specs.contracts.members.MethodKeyOrd.TheImpl.Laws as of_method_keys
use Rattle.dv_resolve.specs.contracts.members.FieldKeyOrd.TheImpl.Laws as of_field_keys
use Rattle.dv_resolve.specs.Declarers.{classes_in, field_key_cmp, field_name, field_name_cmp, method_key_cmp, method_name, method_name_cmp}

numbers_append : (xs ys : List ClassId) → numbers (xs ++ ys) ≡ numbers xs ++ numbers ys
numbers_append [] ys = refl
numbers_append (x ∷ xs) ys = ap (λ ns. x.0 ∷ ns) (numbers_append xs ys)

pub some_mapped : {X Y : Type 0} (of : X → Y) (o : Option X) → is_some (option_map of o) ≡ is_some o
some_mapped of None = refl
some_mapped of (Some x) = refl

more_classes : (xs : List ClassId) (b : Bool) (d : ClassId) (c : ℕ) → has_number c (numbers xs) ≡ true → has_number c (numbers (xs ++ (if b then d ∷ [] else []))) ≡ true
more_classes xs b d c there = ap (has_number c) (numbers_append xs (if b then d ∷ [] else [])) ∙ has_left c (numbers xs) (numbers (if b then d ∷ [] else [])) there

last_class : (xs : List ClassId) (b : Bool) (d : ClassId) → b ≡ true → has_number d.0 (numbers (xs ++ (if b then d ∷ [] else []))) ≡ true
last_class xs b d same =
    ap (λ (t : Bool). has_number d.0 (numbers (xs ++ (if t then d ∷ [] else [])))) same
    ∙ (ap (has_number d.0) (numbers_append xs (d ∷ [])) ∙ has_right d.0 (numbers xs) (d.0 ∷ []) (number_first d.0 []))

-- the class of a key is among those that the key's name leads to
abbrev pub IsTold : {K N : Type 0} → (N → N → Ordering) → (K → N) → (K → ClassId) → BTreeMap N (Vec ClassId) → K → Type 0
IsTold cmp name class declarers k = has_number (class k).0 (numbers (classes_in (get cmp declarers (name k)))) ≡ true

-- entries have a key
abbrev pub has_key : {K : Type 0} → (K → K → Ordering) → List (K × Member) → K → Bool
has_key cmp es k = is_some (lookup (is_at (cmp k)) es)

-- each key of entries is told, but for those of the entries that are left
abbrev pub AreTold : {K N : Type 0} → (K → K → Ordering) → (N → N → Ordering) → (K → N) → (K → ClassId) → List (K × Member) → BTreeMap N (Vec ClassId) → List (K × Member) → Type 0
AreTold {K} key_cmp cmp name class es declarers left = (k : K) → has_key key_cmp es k ≡ true → IsTold cmp name class declarers k ⊎ (has_key key_cmp left k ≡ true)

module _ {K N : Type 0} (key_cmp : K → K → Ordering) (cmp : N → N → Ordering) (laws : IsEquivalence (eq_by_cmp cmp)) (name : K → N) (class : K → ClassId)
    (alike : (k q : K) → is_eq (key_cmp k q) ≡ true → ((class k).0 ≡ (class q).0) × (is_eq (cmp (name k) (name q)) ≡ true)) where
  -- the class of one more key is added
  pub told_more : (es rest left : List (K × Member)) (q : K) (v : Member) (old new : BTreeMap N (Vec ClassId)) → rest ≡ (q, v) ∷ left
      → ((n : N) → classes_in (get cmp new n) ≡ classes_in (get cmp old n) ++ (if is_eq (cmp (name q) n) then class q ∷ [] else []))
      → AreTold key_cmp cmp name class es old rest → AreTold key_cmp cmp name class es new left
  told_more es rest left q v old new next added before k found = ⊎_elim earlier (λ later. by (is_eq (key_cmp k q)) refl (ap (λ ds. has_key key_cmp ds k) (sym next) ∙ later)) (before k found)
    where
      earlier : IsTold cmp name class old k → IsTold cmp name class new k ⊎ (has_key key_cmp left k ≡ true)
      earlier told =
          inl (ap (λ (cs : List ClassId). has_number (class k).0 (numbers cs)) (added (name k))
          ∙ more_classes (classes_in (get cmp old (name k))) (is_eq (cmp (name q) (name k))) (class q) (class k).0 told)

      by : (b : Bool) → is_eq (key_cmp k q) ≡ b → is_some (cond (is_eq (key_cmp k q)) (Some v) (lookup (is_at (key_cmp k)) left)) ≡ true → IsTold cmp name class new k ⊎ (has_key key_cmp left k ≡ true)
      by true same later =
          let like = alike k q same in
          inl (ap (λ n. has_number n (numbers (classes_in (get cmp new (name k))))) like.0
          ∙ (ap (λ (cs : List ClassId). has_number (class q).0 (numbers cs)) (added (name k))
          ∙ last_class (classes_in (get cmp old (name k))) (is_eq (cmp (name q) (name k))) (class q) (laws.symm (name q) (name k) ∙ like.1)))
      by false other later = inr (ap (λ b. is_some (cond b (Some v) (lookup (is_at (key_cmp k)) left))) (sym other) ∙ later)

  -- each key is told, once no entry is left
  pub all_told : (es left : List (K × Member)) (declarers : BTreeMap N (Vec ClassId)) → left ≡ []
      → AreTold key_cmp cmp name class es declarers left → (k : K) → has_key key_cmp es k ≡ true → IsTold cmp name class declarers k
  all_told es left declarers none before k found = ⊎_elim (λ told. told) (λ later. wrong (ap (λ ds. has_key key_cmp ds k) (sym none) ∙ later)) (before k found)
    where
      wrong : false ≡ true → IsTold cmp name class declarers k
      wrong e = absurd (cc)

pub method_names : IsEquivalence (eq_by_cmp method_name_cmp)
method_names = eq_by_cmp_equiv of_method_names.total-law

pub field_names : IsEquivalence (eq_by_cmp field_name_cmp)
field_names = eq_by_cmp_equiv of_field_names.total-law

pub methods_alike : (k q : MethodKey) → is_eq (method_key_cmp k q) ≡ true → (k.class.0 ≡ q.class.0) × (is_eq (method_name_cmp (method_name k) (method_name q)) ≡ true)
methods_alike k q same =
    let p = and_parts (nat_eq k.class.0 q.class.0) ((same_method_names.ghosts).eq (method_name k) (method_name q)) (of_method_keys.matches_eq-law k q ∙ same) in
    (eqb-true k.class.0 q.class.0 p.0, sym (of_method_names.matches_eq-law (method_name k) (method_name q)) ∙ p.1)

pub fields_alike : (k q : FieldKey) → is_eq (field_key_cmp k q) ≡ true → (k.class.0 ≡ q.class.0) × (is_eq (field_name_cmp (field_name k) (field_name q)) ≡ true)
fields_alike k q same =
    let p = and_parts (nat_eq k.class.0 q.class.0) ((same_field_names.ghosts).eq (field_name k) (field_name q)) (of_field_keys.matches_eq-law k q ∙ same) in
    (eqb-true k.class.0 q.class.0 p.0, sym (of_field_names.matches_eq-law (field_name k) (field_name q)) ∙ p.1)
