-- The example images of the machine, as linked images.
use Rattle.std.specs.Prelude.{List, [], ◌∷◌, All}
use Rattle.dv_defs.specs.Images.{Image}
use Rattle.dv_defs.specs.Linked.{IsImage}
use Rattle.dv_machine.specs.WellTyped.{Typings}
use Rattle.dv_machine.specs.Accepted.{Accepted}
use Rattle.test_machine.specs.Numbers.{adding, dividing, long_kept, longs, shifting, narrowing, switching, choosing}
use Rattle.test_machine.specs.Verifying.{boot_alone, unwritten, written, half_written, null_and_zero, computed_zero, two_of_one, one_a_turn, inner, inner_call}
use Rattle.test_machine.specs.Typing.{falling, wrong_class, moved_int, no_result_left, nothing_caught, mixed, no_array, constructed_twice, early, wrong_form, puts_upper}
use Rattle.test_machine.specs.Statics.{raw_bodies}
use Rattle.test_machine.specs.Objects.{calling, arrays, texts}
use Rattle.test_machine.specs.Selecting.{defaults}
use Rattle.test_machine.specs.Exceptions.{exiting, throwing}
use Rattle.test_machine.specs.Classes.{crossing, failing, ordering, failing_main}
use Rattle.test_machine.specs.Threads.{waiting_program, boxing, summing}
use Rattle.test_machine.specs.Limits.{fitting, filling, deep, deeper, wide, wider, looping, printing, starting}
use Rattle.test_machine.specs.Stuck.{undefined, broken, half, uninitialised, reference, number, mixing, resultless, uncaught_program, falls_off, twice}
use Rattle.test_machine.specs.Seeded.{four_steps, two_threads}

-- programs that the verifier accepts: all boot classes, calls of each kind, handlers, initialisers, threads and monitors
unfoldable pub accepted_examples : List Image
accepted_examples =
    adding ∷ switching ∷ boot_alone ∷ written ∷ null_and_zero ∷ one_a_turn ∷ inner ∷ calling ∷ arrays ∷
    texts ∷ defaults ∷ exiting ∷ throwing ∷ crossing ∷ failing ∷ waiting_program ∷ boxing ∷ summing ∷ []

-- all others, those that it refuses among them
unfoldable pub further_examples : List Image
further_examples =
    dividing ∷ long_kept ∷ longs ∷ shifting ∷ narrowing ∷ choosing ∷ unwritten ∷ half_written ∷
    computed_zero ∷ two_of_one ∷ inner_call ∷ falling ∷ wrong_class ∷ moved_int ∷ no_result_left ∷
    nothing_caught ∷ mixed ∷ no_array ∷ constructed_twice ∷ early ∷ wrong_form ∷ puts_upper ∷ raw_bodies ∷
    ordering ∷ failing_main ∷ fitting ∷ filling ∷ deep ∷ deeper ∷ wide ∷ wider ∷ looping ∷ printing ∷
    starting ∷ undefined ∷ broken ∷ half ∷ uninitialised ∷ reference ∷ number ∷ mixing ∷ resultless ∷
    uncaught_program ∷ falls_off ∷ twice ∷ four_steps ∷ two_threads ∷ []

-- each is what linking gives of the definitions in it
pub record ExamplesAreLinked : Type 0 where
  pub accepted : All IsImage accepted_examples
  pub further : All IsImage further_examples

-- some typings of its methods make an image one of which the laws speak
abbrev pub IsAccepted : Image → Type 0
IsAccepted image = (T : Typings) × Accepted image T

-- the laws speak of some images
abbrev pub ExamplesAreAccepted : Type 0
ExamplesAreAccepted = All IsAccepted accepted_examples
