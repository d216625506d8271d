-- What a draft is behind the last line.
use Rattle.std.proofs.Common.{◌≡◌, ℕ, true, false, List, [], ◌++◌, Option, Some, None, Ok, Err, refl, ap, ◌∙◌, append-nil}
use Rattle.std.specs.Prelude.{is_some}
use Rattle.dv_defs.specs.declared.faults.LineKind.TheVariants.{Missing}
use Rattle.dv_draft.specs.declared.draft.Item.{Item}
use Rattle.dv_draft.specs.declared.draft.Catch.{Catch}
use Rattle.dv_coderead.specs.declared.words.Frame.{Frame}
use Rattle.dv_coderead.specs.declared.body_line.Opening.{Opening}
use Rattle.dv_coderead.specs.declared.drafting.Drafting.{Drafting}
use Rattle.dv_coderead.specs.Bodies.{told_behind, items_of, catches_of}
use Rattle.dv_coderead.specs.Drafting.{finished_with, items_with}

module _ (past : ℕ) (d : Drafting) where
  -- there is no count of registers
  pub no_frame : d.context.frame ≡ None → finished_with past 0 d [] ≡ Err (record { line = past; kind = Missing })
  unfolding told_behind
  no_frame none = rw none refl

  -- a payload is left open
  pub left_open : (f : Frame) → d.context.frame ≡ Some f → is_some d.context.block ≡ true → finished_with past 0 d [] ≡ Err (record { line = past; kind = Missing })
  unfolding told_behind
  left_open f some is = rw (some, is) refl

  -- no payload is open
  pub not_open : (block : Option Opening) → is_some block ≡ false → block ≡ None
  not_open None is = refl
  not_open (Some o) is = cc

  -- all items are there where no payload is open
  all_items : d.context.block ≡ None → items_with d [] ≡ d.items.items
  unfolding items_of
  all_items none = rw none (append-nil (d.items.items ++ []) ∙ append-nil d.items.items)

  -- nothing is missing
  pub is_whole : (f : Frame) → d.context.frame ≡ Some f → is_some d.context.block ≡ false
      → finished_with past 0 d [] ≡ Ok (record { registers = f.registers; items = d.items.items; catches = d.catches.items })
  unfolding told_behind items_of catches_of
  is_whole f some is = rw (some, is)
      (ap (λ (items : List Item). Ok (record { registers = f.registers; items = items; catches = d.catches.items ++ [] })) (all_items (not_open d.context.block is))
      ∙ ap (λ (catches : List Catch). Ok (record { registers = f.registers; items = d.items.items; catches = catches })) (append-nil d.catches.items))
