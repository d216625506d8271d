use Rattle.std.proofs.Common.{◌∙◌, sym}
use Rattle.dv_sound.proofs.Going.{alike, watchable}
use Rattle.dv_sound.proofs.Played.{held_told, one_held, one_past, past_told}
use Rattle.dv_sound.proofs.playing.refusal.Goals as goal

pub returns-in-Some : goal.returns-in-Some
returns-in-Some c T m good at t may =
    let image = c.args.image.now in
    let told = sym (c.ending.ensures (watchable image T c.args.vm.now m good at) ∙ (alike image T c.args.vm.now m good at).ending) ∙ c.in-Some.is in
    past_told c.args.entry _ (one_past image c.args.entry t m _ told)

pub returns-in-None : goal.returns-in-None
returns-in-None c T m good at t may =
    let image = c.args.image.now in
    let told = sym (c.ending.ensures (watchable image T c.args.vm.now m good at) ∙ (alike image T c.args.vm.now m good at).ending) ∙ c.in-None.is in
    held_told c.args.entry _ (one_held image c.args.entry t m told may)
