-- What is needed to tell what holds threads up holds in words that stand for a well-typed state of an accepted image.
use Rattle.std.proofs.Common.{◌≡◌, ◌∙◌, ℕ, List, [], ◌∷◌, Some, refl, sym}
use Rattle.std.specs.Prelude.{slice_get}
use Rattle.dv_defs.specs.declared.machine.End.TheVariants as end
use Rattle.dv_defs.specs.Images.{Image}
use Rattle.dv_typing.specs.Statics.{fetch}
use Rattle.dv_machine.specs.Accepted.{Accepted}
use Rattle.dv_machine.specs.State.{Machine}
use Rattle.dv_machine.specs.WellTyped.{Typings}
use Rattle.dv_words.specs.declared.state.Frame.{Frame}
use Rattle.dv_words.specs.declared.state.Level.{Level}
use Rattle.dv_words.specs.declared.state.Level.TheVariants as level
use Rattle.dv_words.specs.State.{WordThread}
use Rattle.law_words.specs.StepLaws.{StringsFit}
use Rattle.law_words.proofs.Fitting.{fetched_operands_fit}
use Rattle.law_engine.specs.Laws.{IsSimulated}
use Rattle.law_engine.proofs.Fields.{accepted_images_fit}
use Rattle.dv_threads.specs.Kept.{threads_of}
use Rattle.dv_core.specs.declared.vm.Vm.{Vm}
use Rattle.dv_core.specs.Machines.{machine_of}
use Rattle.dv_core.specs.Watching.{IsTopWatched, IsWatched, WatchesFit}
use Rattle.dv_core.proofs.Callers.{met_top, placed_stands, same_fetch}

module _ (image : Image) (T : Typings) (v : Vm) (m : Machine) (acc : Accepted image T) (strings : StringsFit image) (sim : IsSimulated image T (machine_of v) m) (t : ℕ) (own : WordThread) (there : slice_get (threads_of v.guest.threads) t ≡ Some own) (living : own.end ≡ end.Living) where
  frame_watched : (f : Frame) (ls : List Level) → own.levels ≡ level.Code f ∷ ls → IsWatched image f
  frame_watched f ls levels =
      let met = met_top image T (machine_of v) m t own f ls sim.typed sim.stands there living levels in
      record {
        stands = placed_stands image T m.shared.heap _ f met.frame acc met.placed met.stands;
        call = λ x fetched.
            let found : fetch image met.frame.method.0 met.frame.at ≡ Some x = sym (same_fetch image f met.frame met.stands) ∙ fetched in
            (fetched_operands_fit image (accepted_images_fit image T acc) strings met.frame.method.0 met.frame.at x found).1;
      }

  top_watched : (ls : List Level) → own.levels ≡ ls → IsTopWatched image ls
  top_watched [] e = tt
  top_watched (level.Code f ∷ ls) e = frame_watched f ls e
  top_watched (level.Init c r ∷ ls) e = tt

pub watches_fit : WatchesFit
watches_fit image T v m acc strings sim ordered few = record {
  ordered = ordered;
  few = few;
  tops = λ t own there living. top_watched image T v m acc strings sim t own there living own.levels refl;
}
