use Rattle.std.proofs.Common.{◌≡◌, refl, sym, ap, ◌∙◌}
use Rattle.std.specs.Prelude.{slice_get}
use Rattle.std.specs.Vec.{with_items}
use Rattle.std.proofs.lemmas.Option.{same_Some}
use Rattle.dv_threads.specs.declared.threads.Threads.{Threads}
use Rattle.dv_image.proofs.Reading.{read_at}
use Rattle.dv_words.specs.declared.state.Frame.{Frame}
use Rattle.dv_words.specs.declared.state.Kept.TheVariants as kept
use Rattle.dv_words.specs.Stacks.{given, gone}
use Rattle.dv_words.specs.Threads.{object_of_thread, own_object}
use Rattle.dv_threads.proofs.Begins.{object_at}
use Rattle.dv_threads.proofs.Leaving.{rewritten, went}
use Rattle.dv_threads.proofs.starting.current.Goals as goal

pub returns : goal.returns
returns c own h is =
    let old = c.args.threads.now in
    let new : Threads = record { stacks = with_items old.stacks c.give.new.stacks; ends = old.ends; objects = old.objects; monitors = old.monitors } in
    let object = c.in-Some.object.now in
    let read = c.in-Some.ensures.lookup in
    let there = read_at c.deref.result.now old.objects.items c.args.thread object c.deref.ensures.value read.0 read.1 in
    let same : object ≡ own.object = same_Some object own.object (sym there ∙ object_at old.stacks.items old.ends.items old.objects.items c.args.thread own is.there) in
    let mine : own_object h ≡ own.object = (λ j. object_of_thread (slice_get (is.threads j) (is.number j))) ∙ ap object_of_thread is.there in
    let found : object ≡ own_object h = same ∙ sym mine in
    let g : Frame → Frame = λ f. given (gone f c.args.next) (kept.One object) in
    went old new c.args.thread c.args.next own h is g (given (gone h.frame h.next) (kept.One (own_object h))) h.shared.monitors
    (λ j. given (gone h.frame (sym is.after j)) (kept.One (found j)))
    (rewritten old c.give.new.stacks c.deref_mut.result.now c.args.thread g c.give.ensures c.deref_mut.ensures.value) refl refl is.monitors
