-- Rows between heads of straight code.
use Rattle.std.specs.Prelude.{◌≡◌, ◌<◌, ◌≤◌, ℕ, List, Option, Some, None, option_map, slice_set}
use Rattle.dv_defs.specs.Op.{Code}
use Rattle.dv_typing.specs.declared.typing.RegState.{RegState}
use Rattle.dv_typing.specs.Statics.{fetch}
use Rattle.dv_worklist.specs.Beside.{Kept, fits_beside}
use Rattle.dv_worklist.specs.Flow.{AllFit, assigned}
use Rattle.law_gather.specs.Gathered.{fits_gathered}
use Rattle.law_blocks.specs.Blocks.{Before, state_after}
use Rattle.dv_bases.specs.Bases.{Names}

abbrev pub Rows : Type 0
Rows = List (Option (Kept RegState Names))

-- each row is kept with the names, and fits its place
abbrev pub FitsAll : Names → Code → Rows → Type 0
FitsAll names code rows = AllFit (fits_beside names (fits_gathered names.image code)) (assigned rows)

-- a row that is kept with the names, of the state after the instruction at an address
pub record IsRowAfter (names : Names) (code : Code) (at : ℕ) (row after : Option (Kept RegState Names)) : Type 0 where
  pub state : option_map (λ r. r.state) after ≡ state_after names.image code at (fetch names.image code.method.id at) (option_map (λ r. r.state) row)
  pub kept : (r : Kept RegState Names) → after ≡ Some r → r.beside ≡ names

-- the row at an address is as it was at a head, and else the one after the instruction before it
abbrev pub IsFilledAt : Names → Code → ℕ → Option ℕ → Rows → Rows → Type 0
IsFilledAt names code at None old new = new ≡ old
IsFilledAt names code at (Some from) old new =
    (row : Option (Kept RegState Names)) × (new ≡ slice_set old at row) × IsRowAfter names code from (assigned old from) row

-- the rows below an address are filled in, and those from there on are as they were
pub record AreFilledTo (names : Names) (code : Code) (before : Before) (n : ℕ) (old new : Rows) : Type 0 where
  pub heads : (to : ℕ) → to < n → before to ≡ None → assigned new to ≡ assigned old to
  pub steps :
      (at to : ℕ) → to < n → before to ≡ Some at →
      option_map (λ r. r.state) (assigned new to) ≡ state_after names.image code at (fetch names.image code.method.id at) (option_map (λ r. r.state) (assigned new at))
  pub rest : (to : ℕ) → n ≤ to → assigned new to ≡ assigned old to
