use Rattle.std.proofs.Common.{◌∙◌, sym}
use Rattle.std.proofs.lemmas.Result.{err_from_is_err_and}
use Rattle.dv_sound.proofs.Going.{alike, watchable}
use Rattle.dv_sound.proofs.Played.{stops_refused}
use Rattle.dv_sound.proofs.playing.play_to_end.Goals as goal

pub returns-in_err-play_all : goal.returns-in_err-play_all
returns-in_err-play_all c T m good at =
    let p = err_from_is_err_and c.from_residual.result c.from_residual.ensures.1 in
    rw (p.1, p.2) (stops_refused c.args.image.now c.args.log.now m c.in_err-play_all.field-0.0 (c.in_err-play_all.ensures T m good at))

pub returns-in_ok-entries-in-None : goal.returns-in_ok-entries-in-None
returns-in_ok-entries-in-None c T m good at =
    let image = c.args.image.now in
    let l = c.in_ok-play_all.ensures T m good at in
    let told = c.ending.ensures (watchable image T c.play_all.new.vm l.after good l.stands) ∙ (alike image T c.play_all.new.vm l.after good l.stands).ending in
    (c.in_ok-entries-in-None.ensures, (l.after, l.leads, sym told ∙ c.in-None.is))

pub returns-in-Some : goal.returns-in-Some
returns-in-Some c T m good at =
    let image = c.args.image.now in
    let l = c.in_ok-play_all.ensures T m good at in
    let told = c.ending.ensures (watchable image T c.play_all.new.vm l.after good l.stands) ∙ (alike image T c.play_all.new.vm l.after good l.stands).ending in
    record { after = l.after; leads = l.leads; stands = l.stands; limits = l.limits; ending = c.in-Some.field-0; ends = sym told ∙ c.in-Some.is }
