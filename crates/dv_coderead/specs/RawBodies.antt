-- The raw body that lines give.
use Rattle.std.specs.Prelude.{ℕ, ◌+◌, ◌&&◌, Bool, true, false, List, [], ◌∷◌, ◌++◌, length, position, Option, Some, None, Result, Ok, Err, nat_eq, if◌then◌else◌}
use Rattle.dv_defs.specs.declared.faults.LineKind.TheVariants.{Missing}
use Rattle.dv_defs.specs.declared.code.Handler.{Handler}
use Rattle.dv_defs.specs.declared.code.Try.{Try}
use Rattle.dv_defs.specs.declared.names.Ty.{Ty}
use Rattle.dv_defs.specs.Body.{BodyValue}
use Rattle.dv_defs.specs.Types.{ty_eq}
use Rattle.dv_draft.specs.declared.draft.PoolRef.{PoolRef}
use Rattle.dv_draft.specs.declared.pools.Pools.{Pools}
use Rattle.dv_draft.specs.Pools.{no_pools, with_ref, with_entries}
use Rattle.dv_lex.specs.declared.line.Stop.{Stop}
use Rattle.dv_coderead.specs.declared.raw_line.RawPlace.{RawPlace}
use Rattle.dv_coderead.specs.declared.raw_line.RawPlace.TheVariants as place
use Rattle.dv_coderead.specs.declared.raw_line.RawHandler.{RawHandler}
use Rattle.dv_coderead.specs.declared.raw_line.RawLine.{RawLine}
use Rattle.dv_coderead.specs.declared.raw_line.RawLine.TheVariants as line
use Rattle.dv_coderead.specs.Giving.{◌>>>◌, on_line}
use Rattle.dv_coderead.specs.Kept.{TextLine, kept, open_behind}
use Rattle.dv_coderead.specs.Bodies.{number_behind}
use Rattle.dv_coderead.specs.RawLines.{raw_line}

-- ---- what lines say

-- where the next line stands
abbrev pub place_next : RawPlace → RawLine → RawPlace
place_next p (line.Registers n) = place.Pools
place_next p line.Begin = place.Units 0
place_next (place.Units before) (line.Units us) = place.Units (before + length us)
place_next p line.End = place.Behind
place_next p l = p

abbrev pub and_raw : RawLine → Result (List RawLine) Stop → Result (List RawLine) Stop
and_raw l (Ok ls) = Ok (l ∷ ls)
and_raw l (Err e) = Err e

-- what these lines say, each judged by where it stands; or the first bad line
unfoldable pub raw_told_by : RawPlace → List TextLine → Result (List RawLine) Stop
raw_told_by p [] = Ok []
raw_told_by p (l ∷ ls) = on_line l.number (raw_line p l.pieces) >>> λ s. and_raw s (raw_told_by (place_next p s) ls)

-- where they end
unfoldable pub place_behind : RawPlace → List RawLine → RawPlace
place_behind p [] = p
place_behind p (l ∷ ls) = place_behind (place_next p l) ls

-- ---- the parts of a body

abbrev pub count_by : RawLine → ℕ → ℕ
count_by (line.Registers n) m = n
count_by l m = m

-- the count of registers, where it was so before
unfoldable pub raw_registers : ℕ → List RawLine → ℕ
raw_registers n [] = n
raw_registers n (l ∷ ls) = raw_registers (count_by l n) ls

abbrev pub and_ref : RawLine → List PoolRef → List PoolRef
and_ref (line.Entry r) rs = r ∷ rs
and_ref l rs = rs

-- the entries of the pools
unfoldable pub raw_refs : List RawLine → List PoolRef
raw_refs [] = []
raw_refs (l ∷ ls) = and_ref l (raw_refs ls)

abbrev pub and_units : RawLine → List ℕ → List ℕ
and_units (line.Units us) vs = us ++ vs
and_units l vs = vs

unfoldable pub raw_units : List RawLine → List ℕ
raw_units [] = []
raw_units (l ∷ ls) = and_units l (raw_units ls)

abbrev pub and_handler : RawLine → List RawHandler → List RawHandler
and_handler (line.Handler h) hs = h ∷ hs
and_handler l hs = hs

unfoldable pub raw_handlers : List RawLine → List RawHandler
raw_handlers [] = []
raw_handlers (l ∷ ls) = and_handler l (raw_handlers ls)

-- ---- pools: an entry that stands again adds nothing

abbrev pub with_refs : Pools → List PoolRef → Pools
with_refs pools [] = pools
with_refs pools (r ∷ rs) = with_refs (with_ref pools r) rs

abbrev pub kind_caught : RawHandler → Option Ty
kind_caught h = h.kind

-- the types, and then those that handlers catch
abbrev pub with_caught : List Ty → List RawHandler → List Ty
with_caught types hs = with_entries ty_eq kind_caught types hs

-- ---- try entries: neighbouring handlers of one range are one entry

abbrev pub place_of_kind : List Ty → Option Ty → Option ℕ
place_of_kind types None = None
place_of_kind types (Some t) = position (ty_eq t) types

abbrev pub raw_handler : List Ty → RawHandler → Handler
raw_handler types h = record { kind = place_of_kind types h.kind; at = h.at }

abbrev pub has_range : RawHandler → Try → Bool
has_range h t = nat_eq t.start h.start && nat_eq t.end h.end

abbrev pub and_entry : List Ty → RawHandler → List Try → List Try
and_entry types h [] = record { start = h.start; end = h.end; handlers = raw_handler types h ∷ [] } ∷ []
and_entry types h (t ∷ ts) =
    if has_range h t then record { start = h.start; end = h.end; handlers = raw_handler types h ∷ t.handlers } ∷ ts
    else record { start = h.start; end = h.end; handlers = raw_handler types h ∷ [] } ∷ t ∷ ts

unfoldable pub raw_tries : List Ty → List RawHandler → List Try
raw_tries types [] = []
raw_tries types (h ∷ hs) = and_entry types h (raw_tries types hs)

-- ---- the body

abbrev pub raw_body_with : ℕ → Pools → List Ty → List ℕ → List RawHandler → BodyValue
raw_body_with registers pools types units handlers = record {
  registers = registers;
  units = units;
  tries = raw_tries types handlers;
  strings = pools.strings;
  types = types;
  fields = pools.fields;
  methods = pools.methods;
  raw = true;
}

abbrev pub raw_body_by : ℕ → Pools → List ℕ → List RawHandler → BodyValue
raw_body_by registers pools units handlers = raw_body_with registers pools (with_caught pools.types handlers) units handlers

-- the body of what lines say
abbrev pub raw_body : List RawLine → BodyValue
raw_body ls = raw_body_by (raw_registers 0 ls) (with_refs no_pools (raw_refs ls)) (raw_units ls) (raw_handlers ls)

abbrev pub is_behind : RawPlace → Bool
is_behind place.Behind = true
is_behind p = false

-- what is missing is missed on the line behind the last
abbrev pub raw_finished : ℕ → ℕ → RawPlace → BodyValue → Result BodyValue Stop
raw_finished past annotations p b = if is_behind p && nat_eq annotations 0 then Ok b else Err (record { line = past; kind = Missing })

-- the raw body of the lines that count, with so many annotations open behind them, where the number of the line behind is `past`
abbrev pub raw_body_from : ℕ → ℕ → List TextLine → Result BodyValue Stop
raw_body_from past annotations ls = raw_told_by place.Start ls >>> λ ts.
    raw_finished past annotations (place_behind place.Start ts) (raw_body ts)

-- the raw body of these lines, or the first bad line
unfoldable pub raw_body_of : List TextLine → Result BodyValue Stop
raw_body_of ls = raw_body_from (number_behind ls) (open_behind 0 ls) (kept 0 ls)
