-- The rules of the table: each is computed over the whole table or all 256 opcodes, and then holds at each.
use Rattle.std.proofs.Common.{◌≡◌, ℕ, suc, ◌+◌, ◌<◌, ◌&&◌, Bool, true, false, not, IsTrue, IfSome, List, [], ◌∷◌, map, length, slice_index, slice_get, refl, sym, ◌∙◌, ap, ap₂, subst, arith, Option, Some, None, option_map, option_and_then, is_some, nat_lt, bytes_eq, Decides, if◌then◌else◌}
use Rattle.std.proofs.lemmas.Bool.{ltb-true}
use Rattle.std.proofs.lemmas.Option.{slice_get-map}
use Rattle.std.proofs.lemmas.Slice.Eq.{bytes_eq-Decides}
use Rattle.std.specs.List.{range_with_len}
use Rattle.std.specs.List.Sorted.{IsStrictlyIncreasing}
use Rattle.std.specs.Prelude.{unwrap_or}
use Rattle.dv_optable.specs.Families.{can_throw, is_local, is_return, is_instance_of}
use Rattle.dv_optable.specs.Table.{table, entry_at, Entry, opcode_named, opcode_in, is_float, IsPlain}
use Rattle.dv_optable.proofs.Rows.{agree, named_entry}

-- ---- floats

no_floats : map (λ op. is_float op && is_some (entry_at op)) (range_with_len 0 256) ≡ map (λ op. false) (range_with_len 0 256)
unfolding table entry_at is_float
no_floats = refl

no_row_of_float : (op : ℕ) → op < 256 → is_float op && is_some (entry_at op) ≡ false
no_row_of_float op below = agree (λ op. is_float op && is_some (entry_at op)) (λ op. false) 256 op no_floats below

-- ---- names

all_named : map (λ op. option_and_then (λ e. opcode_named e.name) (entry_at op)) (range_with_len 0 256) ≡ map (λ op. option_map (λ e. op) (entry_at op)) (range_with_len 0 256)
unfolding table entry_at opcode_named
all_named = refl

-- ---- the order

pub length-table : length table ≡ 182
unfolding table
length-table = refl

all_rise : map (λ k. nat_lt (slice_index (map (λ e. e.opcode) table) k) (slice_index (map (λ e. e.opcode) table) (k + 1))) (range_with_len 0 181) ≡ map (λ k. true) (range_with_len 0 181)
unfolding table
all_rise = refl

opcode_below : (k : ℕ) → k + 1 < 182 → slice_index (map (λ e. e.opcode) table) k < slice_index (map (λ e. e.opcode) table) (k + 1)
opcode_below k below = ltb-true _ _ (agree (λ k. nat_lt (slice_index (map (λ e. e.opcode) table) k) (slice_index (map (λ e. e.opcode) table) (k + 1))) (λ k. true) 181 k all_rise (omega arith))

length-opcodes : length (map (λ e. e.opcode) table) ≡ 182
unfolding table
length-opcodes = refl

pub rising : IsStrictlyIncreasing (map (λ e. e.opcode) table)
rising k below = opcode_below k (subst (λ n. k + 1 < n) length-opcodes below)

-- ---- what is said of an opcode with a row

pub name_known : (op : ℕ) (e : Entry) → op < 256 → Some e ≡ entry_at op → opcode_named e.name ≡ Some op
name_known op e below is =
    ap (option_and_then (λ e. opcode_named e.name)) is
    ∙ (agree (λ op. option_and_then (λ e. opcode_named e.name) (entry_at op)) (λ op. option_map (λ e. op) (entry_at op)) 256 op all_named below
    ∙ ap (option_map (λ e. op)) (sym is))

pub no_float : (op : ℕ) (e : Entry) → op < 256 → Some e ≡ entry_at op → is_float op ≡ false
no_float op e below is = first (is_float op) (ap (λ o. is_float op && is_some o) is ∙ no_row_of_float op below) where
  first : (b : Bool) → b && true ≡ false → b ≡ false
  first true h = h
  first false h = refl

-- ---- the name of an opcode that was found

some-injective : {X : Type 0} (a b : X) → Some a ≡ Some b → a ≡ b
some-injective a b same = ap (λ o. unwrap_or o a) same

found_first : (same : Bool) (x : List ℕ × ℕ) (xs : List (List ℕ × ℕ)) (name : List ℕ) (op : ℕ) → Decides same (x.0 ≡ name)
    → (if same then Some x.1 else opcode_in xs name) ≡ Some op → (opcode_in xs name ≡ Some op → (k : ℕ) × (slice_get xs k ≡ Some (name, op)))
    → (k : ℕ) × (slice_get (x ∷ xs) k ≡ Some (name, op))
found_first true x xs name op decides found later = (0, ap₂ (λ n o. Some (n, o)) (decides.0 refl) (some-injective _ _ found))
found_first false x xs name op decides found later = let rest = later found in (suc rest.0, rest.1)

found_at : (xs : List (List ℕ × ℕ)) (name : List ℕ) (op : ℕ) → opcode_in xs name ≡ Some op → (k : ℕ) × (slice_get xs k ≡ Some (name, op))
found_at [] name op found = absurd (cc)
found_at (x ∷ xs) name op found = found_first (bytes_eq x.0 name) x xs name op (bytes_eq-Decides x.0 name) found (found_at xs name op)

pairs_back : map (λ x. option_map (λ e. e.name) (entry_at x.1)) (map named_entry table) ≡ map (λ x. Some x.0) (map named_entry table)
unfolding table entry_at
pairs_back = refl

pub named-back : (name : List ℕ) (op : ℕ) → opcode_named name ≡ Some op → option_map (λ e. e.name) (entry_at op) ≡ Some name
unfolding opcode_named
named-back name op found =
    let place = found_at (map named_entry table) name op found in
    let back = λ (x : List ℕ × ℕ). option_map (λ e. e.name) (entry_at x.1) in
    let itself = λ (x : List ℕ × ℕ). Some x.0 in
    some-injective _ _
    (ap (option_map back) (sym place.1)
    ∙ (sym (slice_get-map back (map named_entry table) place.0)
    ∙ (ap (λ xs. slice_get xs place.0) pairs_back
    ∙ (slice_get-map itself (map named_entry table) place.0
    ∙ ap (option_map itself) place.1))))

pub found-laws : (name : List ℕ) (found : Option ℕ) → found ≡ opcode_named name → record {
  opcode : found ≡ opcode_named name;
  named : IfSome found (λ op. option_map (λ e. e.name) (entry_at op) ≡ Some name);
}
found-laws name None same = record { opcode = same; named = tt }
found-laws name (Some op) same = record { opcode = same; named = named-back name op (sym same) }

-- ---- no two opcodes have one name

name_of_entry : (a : ℕ) (e : Entry) → a < 256 → entry_at a ≡ Some e → opcode_named e.name ≡ Some a
name_of_entry a e below is = name_known a e below (sym is)

pub distinct_names : (a b : ℕ) (e f : Entry) → a < 256 → b < 256 → entry_at a ≡ Some e → entry_at b ≡ Some f → e.name ≡ f.name → a ≡ b
distinct_names a b e f below_a below_b is_a is_b same =
    some-injective a b (sym (name_of_entry a e below_a is_a) ∙ (ap opcode_named same ∙ name_of_entry b f below_b is_b))

-- ---- local instructions

none_of : (throws return instance : Bool) → not throws && not return && not instance ≡ true → (throws ≡ false) × (return ≡ false) × (instance ≡ false)
none_of false false false h = (refl, refl, refl)
none_of false false true h = absurd (cc)
none_of false true i h = absurd (cc)
none_of true r i h = absurd (cc)

pub local_plain : (e : Entry) → IsTrue (is_local e.family) → IsPlain e
local_plain e is_local =
    let parts = none_of (can_throw e.family) (is_return e.family) (is_instance_of e.family) is_local in
    record { no_throw = parts.0; no_return = parts.1; no_instance_of = parts.2 }
