-- The laws of spelling.
use Rattle.std.specs.Prelude.{ℕ, ◌≡◌, ◌≤◌, ◌↔◌, List, length, take, Some, Ok, IsOk}
use Rattle.dv_defs.specs.declared.code.Insn.{Insn}
use Rattle.dv_defs.specs.declared.code.Payload.{Payload}
use Rattle.dv_defs.specs.Spelling.{spelling, AreUnits}
use Rattle.dv_defs.specs.Decoding.{insn_here}
use Rattle.dv_defs.specs.Tiling.{Item, Tile, tiling}
use Rattle.dv_defs.specs.Payloads.{payload_spelling, payload_here}
use Rattle.dv_defs.specs.Layout.{item_spelling, AreTiles}

-- An instruction is determined by its spelling, and no other's spelling begins it.
abbrev pub SpellingsAreApart : Type 0
SpellingsAreApart = (i j : Insn) (us vs : List ℕ) → spelling i ≡ Some us → spelling j ≡ Some vs → us ≡ take (length us) vs → i ≡ j

-- The same for items: no spelling of an instruction or a payload begins that of another.
abbrev pub ItemsAreApart : Type 0
ItemsAreApart = (x y : Item) (us vs : List ℕ) → item_spelling x ≡ Some us → item_spelling y ≡ Some vs → us ≡ take (length us) vs → x ≡ y

-- The instruction that is computed from units is the one whose spelling stands at their beginning.
abbrev pub InsnHereIsSpelled : Type 0
InsnHereIsSpelled = (us : List ℕ) (i : Insn) (n : ℕ) → AreUnits us →
    (insn_here us ≡ Some (record { insn = i; size = n })) ↔ ((n ≤ length us) × (spelling i ≡ Some (take n us)))

-- The same for a payload.
abbrev pub PayloadHereIsSpelled : Type 0
PayloadHereIsSpelled = (us : List ℕ) (p : Payload) (n : ℕ) → AreUnits us →
    (payload_here us ≡ Some (record { payload = p; size = n })) ↔ ((n ≤ length us) × (payload_spelling p ≡ Some (take n us)))

-- Tiles whose spellings are the units, one after another from 0, are those that `tiling` computes.
abbrev pub TilingIsUnique : Type 0
TilingIsUnique = (us : List ℕ) (ts : List Tile) → AreUnits us → (tiling us ≡ Ok ts) ↔ AreTiles 0 ts us

-- `tiling` finds tiles exactly where there are some.
abbrev pub TilingIsFound : Type 0
TilingIsFound = (us : List ℕ) → AreUnits us → IsOk (tiling us) ↔ ((ts : List Tile) × AreTiles 0 ts us)
