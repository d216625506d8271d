use Rattle.std.proofs.Common.{List, Option, Ok, length, sym, ap, subst, ◌∙◌}
use Rattle.std.proofs.lemmas.Result.{IfOk-weaker, err_from_is_err_and}
use Rattle.dv_draft.specs.Draft.{DraftValue, AreFormed}
use Rattle.dv_draft.specs.declared.draft.Item.{Item}
use Rattle.dv_asm.specs.Refusals.{Refusal, Checks}
use Rattle.dv_draft.specs.Pools.{pools_of}
use Rattle.dv_asm.specs.Layout.{AreWritable, body_of}
use Rattle.dv_asm.specs.Tiles.{tiles_of}
use Rattle.dv_asm.proofs.Telling.{told_labels, told_items, left_ranges}
use Rattle.dv_asm.proofs.Writing.{are_writable}
use Rattle.dv_asm.proofs.assembling.with_places.Goals as goal

pub with_catches-body-requires-clause-writable : goal.with_catches-body-requires-clause-writable
with_catches-body-requires-clause-writable c =
    let P : List Item → Type 0 = λ items. AreWritable items (pools_of items) in
    let same = c.requires ∙ ap (λ (x : DraftValue). x.items) (sym c.draft.view_is) in
    subst P (sym c.in_ok-short.ensures.value) (are_writable c.args.places.now (subst AreFormed (sym same) c.draft.invariant.formed) c.in_ok-short.ensures.checks)

pub returns-in_err-check_labels-clause-checks : goal.returns-in_err-check_labels-clause-checks
returns-in_err-check_labels-clause-checks c =
    let p = err_from_is_err_and c.from_residual.result c.from_residual.ensures.1 in
    let caught = c.items-catches.ensures ∙ ap (λ (x : DraftValue). x.catches) c.draft.view_is in
    rw (p.1, p.2)
    (told_labels c.args.draft.now c.args.places.now c.items-catches.result.now c.requires caught _ c.in_err-check_labels.ensures)

pub returns-in_err-short-clause-checks : goal.returns-in_err-short-clause-checks
returns-in_err-short-clause-checks c =
    let p = err_from_is_err_and c.from_residual-in_err-short.result c.from_residual-in_err-short.ensures.1 in
    let caught = c.items-catches.ensures ∙ ap (λ (x : DraftValue). x.catches) c.draft.view_is in
    rw (p.1, p.2)
    (told_items c.args.draft.now c.args.places.now c.items-catches.result.now c.requires caught c.in_ok-check_labels.ensures _ c.in_err-short.ensures.checks)

pub returns-clause-checks : goal.returns-clause-checks
returns-clause-checks c =
    let caught = c.items-catches.ensures ∙ ap (λ (x : DraftValue). x.catches) c.draft.view_is in
    let P : Option Refusal → Type 0 = λ q. Checks c.with_catches-body.result q in
    subst P (left_ranges c.args.draft.now c.args.places.now c.items-catches.result.now c.requires caught c.in_ok-check_labels.ensures c.in_ok-short.short c.in_ok-short.ensures.checks c.in_ok-short.ensures.value) c.with_catches-body.ensures.checks

pub returns-clause-value : goal.returns-clause-value
returns-clause-value c =
    let caught = c.items-catches.ensures ∙ ap (λ (x : DraftValue). x.catches) c.draft.view_is in
    let same = c.in_ok-short.ensures.value ∙ c.requires in
    let registers = ap (λ (x : DraftValue). x.registers) c.draft.view_is in
    IfOk-weaker c.with_catches-body.result _ _ (λ body is. is ∙ (λ i. body_of (registers i) (same i) (caught i))) c.with_catches-body.ensures.value

pub returns-clause-tiled : goal.returns-clause-tiled
returns-clause-tiled c =
    let same = c.in_ok-short.ensures.value ∙ c.requires in
    IfOk-weaker c.with_catches-body.result _ _ (λ body is. is ∙ ap (λ (items : List Item). Ok (tiles_of items (pools_of items) (length items))) same) c.with_catches-body.ensures.tiled
