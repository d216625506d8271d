-- The rows of the code are the table's.
use Rattle.std.proofs.Common.{◌≡◌, ℕ, ◌<◌, List, map, get_or, refl, sym, ◌∙◌, ap, arith, Option, Some, None}
use Rattle.std.proofs.lemmas.List.FromFn.{get_or-map-range_with_len}
use Rattle.std.specs.List.{range_with_len}
use Rattle.std.specs.Prelude.{option_and_then, slice_get}
use Rattle.dv_optable.specs.Table.{table, entry_at, Entry, place_at, opcode_named, opcode_in, row}
use Rattle.dv_optable.specs.declared.table.TheConstants.{OPCODES}

-- two functions that agree below n, as the lists of their values show
pub agree : {X : Type 0} (f g : ℕ → X) (n k : ℕ) → map f (range_with_len 0 n) ≡ map g (range_with_len 0 n) → k < n → f k ≡ g k
agree f g n k same below =
    sym (get_or-map-range_with_len f 0 n k k (f k) below (omega arith)) ∙ (ap (λ xs. get_or xs k (f k)) same ∙ get_or-map-range_with_len g 0 n k k (f k) below (omega arith))

-- ---- rows

pub rows_same : map (λ r. row r.0 r.1.now r.2 r.3) OPCODES ≡ table
unfolding table
rows_same = refl

abbrev entry_by_place : ℕ → Option Entry
entry_by_place op = option_and_then (slice_get table) (place_at op)

all_entries : map entry_by_place (range_with_len 0 256) ≡ map entry_at (range_with_len 0 256)
unfolding table entry_at
all_entries = refl

entry_placed : (op : ℕ) (place : Option ℕ) → op < 256 → place ≡ place_at op → option_and_then (slice_get table) place ≡ entry_at op
entry_placed op place below is = ap (option_and_then (slice_get table)) is ∙ agree entry_by_place entry_at 256 op all_entries below

pub no_row : (op : ℕ) → op < 256 → None ≡ place_at op → None ≡ entry_at op
no_row op below is = entry_placed op None below is

pub row_known : (entries : List Entry) (op place : ℕ) (e : Entry) → entries ≡ table → op < 256 → Some place ≡ place_at op → slice_get entries place ≡ Some e → Some e ≡ entry_at op
row_known entries op place e same below is here = sym here ∙ (ap (λ xs. slice_get xs place) same ∙ entry_placed op (Some place) below is)

-- ---- names

abbrev pub named_entry : Entry → List ℕ × ℕ
named_entry e = (e.name, e.opcode)

names_same : map (λ r. (r.1.now, r.0)) OPCODES ≡ map named_entry table
unfolding table
names_same = refl

pub named : (name : List ℕ) → opcode_in (map (λ r. (r.1.now, r.0)) OPCODES) name ≡ opcode_named name
unfolding opcode_named
named name = ap (λ xs. opcode_in xs name) names_same
