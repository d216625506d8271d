-- The draft that is made of a laid-out body is laid out as that body.
use Rattle.std.proofs.Common.{◌≡◌, ℕ, false, List, length, None, IsTrue, refl, ap, ◌∙◌}
use Rattle.std.specs.List.{flat_map}
use Rattle.dv_defs.specs.declared.code.Try.{Try}
use Rattle.dv_defs.specs.declared.names.Ty.{Ty}
use Rattle.dv_defs.specs.Body.{BodyValue}
use Rattle.dv_defs.specs.Spelling.{all_fit}
use Rattle.dv_draft.specs.declared.draft.Item.{Item}
use Rattle.dv_draft.specs.declared.draft.Catch.{Catch}
use Rattle.dv_draft.specs.declared.pools.Pools.{Pools}
use Rattle.dv_draft.specs.Draft.{DraftValue, AreFormed}
use Rattle.dv_asm.specs.Refusals.{refusal}
use Rattle.dv_draft.specs.Pools.{pools_of}
use Rattle.dv_asm.specs.Layout.{types_of, tries_of, units_of, body_of, layout}
use Rattle.dv_print.specs.Drafting.{catches_of_try, draft_of}
use Rattle.dv_print.specs.Laws.{HaveNumbers}
use Rattle.dv_print.proofs.Pools.KeptEntries.{units_are, draft_keeps_entries}
use Rattle.dv_print.proofs.Places.PieceItems.{even_tiles}
use Rattle.dv_print.proofs.Units.KeptAddresses.{tiles_are, draft_starts}
use Rattle.dv_print.proofs.Units.KeptUnits.{units_kept}
use Rattle.dv_print.proofs.Units.LaidOut.{are_short}
use Rattle.dv_print.proofs.Units.SpelledAgain.{Laid, tiles_spelled}
use Rattle.dv_print.proofs.Ranges.KeptHandlers.{handlers_kept}
use Rattle.dv_print.proofs.Again.LaidDraft.{IsLaidOut, laid_out, after_of, pieces, all_named, tiles, known, rebased, items_labelled, handler_leads}

-- ---- units

same_units : (d : DraftValue) → IsLaidOut d → units_of (after_of d) (pools_of d.items) (length (after_of d)) ≡ (layout d).units
same_units d l =
    let laid : Laid d.items (after_of d) (layout d) (pieces d) (all_named d) = record {
      known = known d l;
      formed = l.formed;
      labelled = items_labelled d.items d.catches l.labels;
      short = are_short d.items l.none;
      rebased = rebased d l;
    } in
    units_kept (layout d) (pieces d) (all_named d) (after_of d) (pools_of d.items) (tiles d) (draft_starts d l.formed l.numbers l.none l.fit) (tiles_are d l.formed l.numbers l.none l.fit) (even_tiles d.items (pools_of d.items))
    (tiles_spelled d.items (after_of d) (layout d) (pieces d) (all_named d) laid)

-- ---- the body

body_by : (registers : ℕ) (units units' : List ℕ) (tries tries' : List Try) (types types' : List Ty) (pools pools' : Pools) → units ≡ units' → tries ≡ tries' → types ≡ types' → pools ≡ pools' →
    (let b : BodyValue = record { registers = registers; units = units; tries = tries; strings = pools.strings; types = types; fields = pools.fields; methods = pools.methods; raw = false } in b) ≡
    record { registers = registers; units = units'; tries = tries'; strings = pools'.strings; types = types'; fields = pools'.fields; methods = pools'.methods; raw = false }
body_by registers units units' tries tries' types types' pools pools' e h k m = cc

bodies : (registers : ℕ) (before after : List Item) (catches again : List Catch) → units_of after (pools_of after) (length after) ≡ units_of before (pools_of before) (length before) → types_of after again ≡ types_of before catches → tries_of after again (types_of before catches) ≡ tries_of before catches (types_of before catches) → pools_of after ≡ pools_of before → body_of registers after again ≡ body_of registers before catches
unfolding body_of
bodies registers before after catches again units types tries pools =
    body_by registers _ _ _ _ _ _ (pools_of after) (pools_of before) units (ap (tries_of after again) types ∙ tries) types pools

draft_is : (d : DraftValue) → layout (draft_of (layout d)) ≡ body_of d.registers (after_of d) (flat_map (catches_of_try (types_of d.items d.catches)) (tries_of d.items d.catches (types_of d.items d.catches)))
unfolding draft_of body_of
draft_is d = refl

pub draft_is_kept : (d : DraftValue) → AreFormed d.items → HaveNumbers d.items → refusal d ≡ None → IsTrue (all_fit 16 (layout d).units) → layout (draft_of (layout d)) ≡ layout d
draft_is_kept d formed numbers none fit =
    let l = laid_out d formed numbers none fit in
    let pools = (draft_keeps_entries d formed numbers l.none fit).pools in
    let handlers = handlers_kept d.items (after_of d) d.catches l.ranges (handler_leads d l) pools in
    draft_is d ∙
    bodies d.registers d.items (after_of d) d.catches _ (ap (λ p. units_of (after_of d) p (length (after_of d))) pools ∙ (same_units d l ∙ units_are d)) handlers.0 handlers.1 pools
