use Rattle.std.proofs.Common.{◌≡◌, suc, List, ◌∷◌, drop-cons, sym, subst, add-one, arith}
use Rattle.std.specs.Prelude.{drop, slice_index_or}
use Rattle.std.proofs.lemmas.Result.{err_from_is_err_and}
use Rattle.dv_defs.specs.declared.run.Entry.{Entry}
use Rattle.dv_machine.specs.Replaying.{replay_from, steps_of}
use Rattle.dv_sound.specs.Replays.{Refuses}
use Rattle.dv_sound.proofs.Played.{Lefts, left_entry, left_refused, refused_on}
use Rattle.dv_sound.proofs.playing.play_all.Goals as goal

pub returns-in_err-play : goal.returns-in_err-play
returns-in_err-play c =
    let p = err_from_is_err_and c.from_residual-in_err-play.result c.from_residual-in_err-play.ensures.1 in
    let one : Entry = slice_index_or c.args.log.now c.loop-number.number (record { worker = 0; thread = 0; steps = 0 }) in
    let split : drop c.loop-number.number c.args.log.now ≡ one ∷ drop (suc c.loop-number.number) c.args.log.now = drop-cons c.args.log.now c.loop-number.number (record { worker = 0; thread = 0; steps = 0 }) (omega (arith, c.loop-number-test.true, c.in_ok-count.ensures)) in
    rw (p.1, p.2) (left_refused c.args.image.now c.args.vm.now c.loop-number.vm (replay_from c.args.image.now 0 c.args.log.now) (replay_from c.args.image.now c.loop-number.number (drop c.loop-number.number c.args.log.now)) c.in_err-play.field-0.0 c.loop-number.invariant
    (λ T m good at. subst (λ (es : List Entry). Refuses c.in_err-play.field-0.0 (replay_from c.args.image.now c.loop-number.number es m)) (sym split)
    (refused_on c.in_err-play.field-0.0 (steps_of c.args.image.now c.loop-number.number one.thread one.steps m) (replay_from c.args.image.now (suc c.loop-number.number) (drop (suc c.loop-number.number) c.args.log.now)) (c.in_err-play.ensures T m good at))))

pub loop-number-preserved : goal.loop-number-preserved
loop-number-preserved c =
    let one : Entry = slice_index_or c.args.log.now c.loop-number.number (record { worker = 0; thread = 0; steps = 0 }) in
    let split : drop c.loop-number.number c.args.log.now ≡ one ∷ drop (suc c.loop-number.number) c.args.log.now = drop-cons c.args.log.now c.loop-number.number (record { worker = 0; thread = 0; steps = 0 }) (omega (arith, c.loop-number-test.true, c.in_ok-count.ensures)) in
    rw add-one
    (left_entry c.args.image.now c.args.vm.now c.loop-number.vm c.play.new.vm (replay_from c.args.image.now 0 c.args.log.now) c.loop-number.number one (drop (suc c.loop-number.number) c.args.log.now)
    (subst (λ (es : List Entry). Lefts c.args.image.now c.args.vm.now c.loop-number.vm (replay_from c.args.image.now 0 c.args.log.now) (replay_from c.args.image.now c.loop-number.number es)) split c.loop-number.invariant)
    c.in_ok-play.ensures)
