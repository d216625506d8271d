-- A draft that is being read: what the lines so far have given, and what those behind them add.
use Rattle.std.specs.Prelude.{◌≡◌, ℕ, ◌%◌, ◌≤◌, List, [], ◌∷◌, ◌++◌, length, All, Option, Some, None, IfSome, Result, Ok, Err, if◌then◌else◌}
use Rattle.dv_defs.specs.declared.faults.LineKind.TheVariants.{Missing}
use Rattle.dv_defs.specs.declared.faults.LineError.{LineError}
use Rattle.dv_draft.specs.declared.draft.Item.{Item}
use Rattle.dv_draft.specs.declared.draft.Catch.{Catch}
use Rattle.dv_draft.specs.declared.draft.What.{What}
use Rattle.dv_draft.specs.declared.draft.What.TheVariants as what
use Rattle.dv_draft.specs.Draft.{DraftValue, IsFormed}
use Rattle.dv_lex.specs.declared.line.Stop.{Stop}
use Rattle.dv_coderead.specs.declared.words.Frame.{Frame}
use Rattle.dv_coderead.specs.declared.body_line.Opening.{Opening}
use Rattle.dv_coderead.specs.declared.body_line.Opening.TheVariants as opening
use Rattle.dv_coderead.specs.declared.body_line.BodyLine.{BodyLine}
use Rattle.dv_coderead.specs.declared.drafting.Open.{Open}
use Rattle.dv_coderead.specs.declared.drafting.Drafting.{Drafting}
use Rattle.dv_coderead.specs.Giving.{Stops}
use Rattle.dv_coderead.specs.BodyLines.{HasWidth}
use Rattle.dv_coderead.specs.Bodies.{Told, told_next, targets, keys, case_labels, data_bytes, items_of, catches_of, told_behind, is_whole, registers_of}

-- a payload that began so and has had these lines, with those behind them
abbrev pub payload_with : Opening → Open → List Told → What
payload_with (opening.Packed first) o ts = what.Packed first (o.labels.items ++ targets ts)
payload_with opening.Sparse o ts = what.Sparse (o.keys.items ++ keys ts) (o.labels.items ++ case_labels ts)
payload_with (opening.Data width) o ts = what.Data width (o.bytes.items ++ data_bytes width ts)

-- the item of the payload that is open
abbrev pub open_item : Option Opening → Open → List Told → List Item
open_item None o ts = []
open_item (Some began) o ts = record { line = o.line; what = payload_with began o ts } ∷ []

-- the items with those of these lines
abbrev pub items_with : Drafting → List Told → List Item
items_with d ts = d.items.items ++ open_item d.context.block d.open ts ++ items_of ts

abbrev pub catches_with : Drafting → List Told → List Catch
catches_with d ts = d.catches.items ++ catches_of ts

-- the draft with what these lines say, which are the last
abbrev pub draft_with : Drafting → List Told → DraftValue
draft_with d ts = record { registers = registers_of (told_behind d.context ts).frame; items = items_with d ts; catches = catches_with d ts }

abbrev pub finished_with : ℕ → ℕ → Drafting → List Told → Result DraftValue Stop
finished_with past annotations d ts =
    if is_whole (told_behind d.context ts) annotations then Ok (draft_with d ts) else Err (record { line = past; kind = Missing })

-- ---- what a draft keeps while it is read

-- what is open can be an item: as many labels as keys, and whole elements
abbrev pub IsOpen : Option Opening → Open → Type 0
IsOpen None o = (o.labels.items ≡ []) × (o.keys.items ≡ []) × (o.bytes.items ≡ [])
IsOpen (Some (opening.Packed first)) o = (o.keys.items ≡ []) × (o.bytes.items ≡ [])
IsOpen (Some opening.Sparse) o = (length o.labels.items ≡ length o.keys.items) × (o.bytes.items ≡ [])
IsOpen (Some (opening.Data width)) o = (o.labels.items ≡ []) × (o.keys.items ≡ []) × (length o.bytes.items % width ≡ 0)

abbrev pub FewRegisters : Frame → Type 0
FewRegisters f = f.registers ≤ 256

pub record IsDrafting (d : Drafting) : Type 0 where
  pub registers : IfSome d.context.frame FewRegisters
  pub width : IfSome d.context.block HasWidth
  pub items : All (λ (i : Item). IsFormed i.what) d.items.items
  pub payload : IsOpen d.context.block d.open

-- the line of this number, which says this, makes of one draft another, whatever lines stand behind it
pub record Adds (old : Drafting) (n : ℕ) (says : BodyLine) (new : Drafting) : Type 0 where
  pub drafting : IsDrafting new
  pub context : new.context ≡ told_next old.context says
  pub items : (ts : List Told) → items_with new ts ≡ items_with old (record { number = n; says = says } ∷ ts)
  pub catches : (ts : List Told) → catches_with new ts ≡ catches_with old (record { number = n; says = says } ∷ ts)

-- what is read of the line of this number makes of one draft another
pub record TakesLine (n : ℕ) (old : Drafting) (read : Result BodyLine Stop) (new : Drafting) : Type 0 where
  pub says : BodyLine
  pub is : read ≡ Ok says
  pub adds : Adds old n says new

-- what a call answers that adds to a draft what is read of a line
abbrev pub Takes : ℕ → Drafting → Result BodyLine Stop → Result (Unit {0}) LineError → Drafting → Type 0
Takes n old read (Ok done) new = TakesLine n old read new
Takes n old read (Err e) new = Stops e read
