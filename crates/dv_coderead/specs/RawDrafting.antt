-- A raw body that is being read: what the lines so far have given, and what those behind them add.
use Rattle.std.specs.Prelude.{◌≡◌, ℕ, ◌≤◌, ◌&&◌, Bool, true, List, [], ◌∷◌, ◌++◌, length, nat_eq, Result, Ok, Err, if◌then◌else◌}
use Rattle.dv_defs.specs.declared.code.Handler.{Handler}
use Rattle.dv_defs.specs.declared.code.Try.{Try}
use Rattle.dv_defs.specs.Body.{BodyValue, most_units}
use Rattle.dv_defs.specs.declared.faults.LineError.{LineError}
use Rattle.dv_draft.specs.declared.pools.Pools.{Pools}
use Rattle.dv_lex.specs.declared.line.Stop.{Stop}
use Rattle.dv_coderead.specs.Giving.{Stops}
use Rattle.dv_coderead.specs.declared.raw_line.RawPlace.{RawPlace}
use Rattle.dv_coderead.specs.declared.raw_line.RawPlace.TheVariants as place
use Rattle.dv_coderead.specs.declared.raw_line.RawHandler.{RawHandler}
use Rattle.dv_coderead.specs.declared.raw_line.RawLine.{RawLine}
use Rattle.dv_coderead.specs.declared.raw_body.RawDrafting.{RawDrafting}
use Rattle.dv_coderead.specs.RawBodies.{raw_refs, raw_units, raw_handlers, raw_registers, with_refs, raw_body_by, place_next}

-- the body with what these lines say, which are the last
abbrev pub raw_with : RawDrafting → List RawLine → BodyValue
raw_with d ls =
    raw_body_by (raw_registers d.registers ls) (with_refs d.pools (raw_refs ls)) (d.units.items ++ raw_units ls) (d.handlers.items ++ raw_handlers ls)

-- how many units there are so far
abbrev pub HasUnits : RawPlace → List ℕ → Type 0
HasUnits (place.Units before) us = length us ≡ before
HasUnits place.Behind us = Unit {0}
HasUnits p us = length us ≡ 0

pub record IsRawDrafting (d : RawDrafting) : Type 0 where
  pub registers : d.registers ≤ 256
  pub short : length d.units.items ≤ most_units
  pub units : HasUnits d.place d.units.items

-- what is read of a line makes of one draft another, whatever lines stand behind it
pub record TakesLine (old : RawDrafting) (read : Result RawLine Stop) (new : RawDrafting) : Type 0 where
  pub says : RawLine
  pub is : read ≡ Ok says
  pub drafting : IsRawDrafting new
  pub place : new.place ≡ place_next old.place says
  pub body : (ls : List RawLine) → raw_with new ls ≡ raw_with old (says ∷ ls)

-- what a call answers that adds to a draft what is read of a line
abbrev pub Takes : RawDrafting → Result RawLine Stop → Result (Unit {0}) LineError → RawDrafting → Type 0
Takes old read (Ok done) new = TakesLine old read new
Takes old read (Err e) new = Stops e read

-- the body of its units, its try entries and its pools
abbrev pub raw_body_made : ℕ → List ℕ → List Try → Pools → BodyValue
raw_body_made registers units tries pools = record {
  registers = registers;
  units = units;
  tries = tries;
  strings = pools.strings;
  types = pools.types;
  fields = pools.fields;
  methods = pools.methods;
  raw = true;
}

-- ---- try entries, one behind another

-- an entry of this range alone
abbrev pub entry_of : RawHandler → Handler → Try
entry_of h own = record { start = h.start; end = h.end; handlers = own ∷ [] }

-- whether an entry has a handler's range
abbrev pub stands_in : Try → RawHandler → Bool
stands_in t h = nat_eq h.start t.start && nat_eq h.end t.end

abbrev pub have_same_range : Try → Try → Bool
have_same_range t u = nat_eq u.start t.start && nat_eq u.end t.end

-- an entry before others: one with the first of them, where they have one range
abbrev pub joined : Try → List Try → List Try
joined t [] = t ∷ []
joined t (u ∷ us) = if have_same_range t u then record { start = t.start; end = t.end; handlers = t.handlers ++ u.handlers } ∷ us else t ∷ u ∷ us

-- entries before others: the last of the former and the first of the latter are one, where they have one range
abbrev pub glued : List Try → List Try → List Try
glued [] us = us
glued (t ∷ []) us = joined t us
glued (t ∷ s ∷ ts) us = t ∷ glued (s ∷ ts) us
