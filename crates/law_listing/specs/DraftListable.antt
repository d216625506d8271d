-- Drafts that can be printed so that they are read again.
use Rattle.std.specs.Prelude.{◌≡◌, ℕ, ◌≤◌, ◌<◌, ◌%◌, IsTrue, List, length, All, Option, Some, None}
use Rattle.dv_defs.specs.declared.names.Ty.{Ty}
use Rattle.dv_defs.specs.Spelling.{fits_signed}
use Rattle.dv_defs.specs.Payloads.{all_fit_signed}
use Rattle.dv_defs.specs.Tiling.{is_width}
use Rattle.dv_draft.specs.declared.draft.Item.{Item}
use Rattle.dv_draft.specs.declared.draft.What.{What}
use Rattle.dv_draft.specs.declared.draft.What.TheVariants as what
use Rattle.dv_draft.specs.declared.draft.Catch.{Catch}
use Rattle.dv_draft.specs.Draft.{DraftValue}
use Rattle.dv_coderead.specs.References.{is_class_type}
use Rattle.law_listing.specs.Listable.{IsNameText, IsTypeText, IsListedOp}

abbrev pub AreNameTexts : List (List ℕ) → Type 0
AreNameTexts names = All IsNameText names

-- a label, an instruction, or a payload in its form
abbrev pub IsListedWhat : What → Type 0
IsListedWhat (what.Label name) = IsNameText name
IsListedWhat (what.Op op) = IsListedOp op
IsListedWhat (what.Packed first targets) = IsTrue (fits_signed 32 first) × AreNameTexts targets
IsListedWhat (what.Sparse keys targets) = IsTrue (all_fit_signed keys) × (length targets ≡ length keys) × AreNameTexts targets
IsListedWhat (what.Data width bytes) = IsTrue (is_width width) × (length bytes % width ≡ 0) × All (λ b. b < 256) bytes

abbrev pub IsListedItem : Item → Type 0
IsListedItem item = IsListedWhat item.what

-- a class, and no array
abbrev pub IsClassText : Ty → Type 0
IsClassText t = IsTypeText t × (t.dims ≡ 0) × IsTrue (is_class_type t.base)

abbrev pub IsKindText : Option Ty → Type 0
IsKindText None = Unit {0}
IsKindText (Some t) = IsClassText t

-- a handler, at labels that are names
pub record IsListedCatch (c : Catch) : Type 0 where
  pub kind : IsKindText c.kind
  pub from : IsNameText c.from
  pub to : IsNameText c.to
  pub at : IsNameText c.at

pub record IsListedDraft (d : DraftValue) : Type 0 where
  pub registers : d.registers ≤ 256
  pub items : All IsListedItem d.items
  pub catches : All IsListedCatch d.catches
