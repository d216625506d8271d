use Rattle.std.proofs.Common.{◌∙◌, ap}
use Rattle.dv_draft.specs.Draft.{DraftValue}
use Rattle.dv_asm.specs.Refusals.{refusal}
use Rattle.dv_asm.proofs.Telling.{sound, refused}
use Rattle.dv_asm.proofs.assembling.assemble.Goals as goal

pub with_places-requires : goal.with_places-requires
with_places-requires c = c.in_ok-places.ensures ∙ (c.items.ensures ∙ ap (λ (x : DraftValue). x.items) c.draft.view_is)

pub returns-clause-sound : goal.returns-clause-sound
returns-clause-sound c = sound c.with_places.result (refusal c.args.draft.now) c.with_places.ensures.checks

pub returns-clause-refused : goal.returns-clause-refused
returns-clause-refused c = refused c.with_places.result (refusal c.args.draft.now) c.with_places.ensures.checks
