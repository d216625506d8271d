use Rattle.std.proofs.Common.{List, All, subst}
use Rattle.dv_words.specs.State.{WordStack}
use Rattle.dv_sound.specs.Words.{StackFits}
use Rattle.dv_sound.proofs.Erased.{zipped_fit}
use Rattle.dv_sound.proofs.words.machine_fits.Goals as goal

pub returns : goal.returns
returns c =
    let ts = c.args.vm.now.guest.threads in (
      zipped_fit ts.stacks.items ts.ends.items ts.objects.items (subst (λ (ss : List WordStack). All StackFits ss) c.deref.ensures.value c.stacks_fit.ensures),
      c.reads_fit.ensures.heap,
    )
