-- All example images are linked, and the accepted ones are what the laws take.
use Rattle.std.specs.Prelude.{List, [], ◌∷◌, slice_index_or, All}
use Rattle.std.proofs.lemmas.List.Elements.{All-nil, All-cons}
use Rattle.dv_defs.specs.Images.{Image}
use Rattle.dv_typing.specs.Accepting.{Accepts}
use Rattle.dv_defs.specs.Linked.{IsImage}
use Rattle.law_machine.proofs.lemmas.Bridge.Laws.{bridge_holds}
use Rattle.test_machine.specs.Linked.{accepted_examples, further_examples, ExamplesAreLinked, ExamplesAreAccepted}
use Rattle.law_linked.proofs.LinkedLaw.{linked_images_have_linking}
use Rattle.test_machine.proofs.Linked.Numbers.{adding_is_linked, dividing_is_linked, long_kept_is_linked, longs_is_linked, shifting_is_linked, narrowing_is_linked, switching_is_linked, choosing_is_linked}
use Rattle.test_machine.proofs.Linked.Verifying.{boot_alone_is_linked, unwritten_is_linked, written_is_linked, half_written_is_linked, null_and_zero_is_linked, computed_zero_is_linked, two_of_one_is_linked, one_a_turn_is_linked, inner_is_linked, inner_call_is_linked}
use Rattle.test_machine.proofs.Linked.Typing.{falling_is_linked, wrong_class_is_linked, moved_int_is_linked, no_result_left_is_linked, nothing_caught_is_linked, mixed_is_linked, no_array_is_linked, constructed_twice_is_linked, early_is_linked, wrong_form_is_linked, puts_upper_is_linked}
use Rattle.test_machine.proofs.Linked.Statics.{raw_bodies_is_linked}
use Rattle.test_machine.proofs.Linked.Objects.{calling_is_linked, arrays_is_linked, texts_is_linked}
use Rattle.test_machine.proofs.Linked.Selecting.{defaults_is_linked}
use Rattle.test_machine.proofs.Linked.Exceptions.{exiting_is_linked, throwing_is_linked}
use Rattle.test_machine.proofs.Linked.Classes.{crossing_is_linked, failing_is_linked, ordering_is_linked, failing_main_is_linked}
use Rattle.test_machine.proofs.Linked.Threads.{waiting_program_is_linked, boxing_is_linked, summing_is_linked}
use Rattle.test_machine.proofs.Linked.Limits.{fitting_is_linked, filling_is_linked, deep_is_linked, deeper_is_linked, wide_is_linked, wider_is_linked, looping_is_linked, printing_is_linked, starting_is_linked}
use Rattle.test_machine.proofs.Linked.Stuck.{undefined_is_linked, broken_is_linked, half_is_linked, uninitialised_is_linked, reference_is_linked, number_is_linked, mixing_is_linked, resultless_is_linked, uncaught_program_is_linked, falls_off_is_linked, twice_is_linked}
use Rattle.test_machine.proofs.Linked.Seeded.{four_steps_is_linked, two_threads_is_linked}
use Rattle.test_machine.proofs.Computed.Numbers.{numbers}
use Rattle.test_machine.proofs.Computed.Verifying.{verifying}
use Rattle.test_machine.proofs.Computed.Objects.{objects}
use Rattle.test_machine.proofs.Computed.Selecting.{selecting}
use Rattle.test_machine.proofs.Computed.Exceptions.{exceptions}
use Rattle.test_machine.proofs.Computed.Classes.{initialising}
use Rattle.test_machine.proofs.Computed.Threads.{threads}

-- a proof for each image of a list, side by side
abbrev Each : (Image → Type 0) → List Image → Type 0
Each P [] = Unit {0}
Each P (x ∷ xs) = P x × Each P xs

infixr 30 ◌&◌
◌&◌ : {A B : Type 0} → A → B → A × B
a & b = (a, b)

all_of : (P : Image → Type 0) (xs : List Image) → Each P xs → All P xs
all_of P [] e = All-nil P
all_of P (x ∷ xs) e = All-cons P x xs e.0 (all_of P xs e.1)

accepted_are_linked : All IsImage accepted_examples
unfolding accepted_examples
accepted_are_linked =
    all_of IsImage accepted_examples
    (adding_is_linked & switching_is_linked & boot_alone_is_linked & written_is_linked &
    null_and_zero_is_linked & one_a_turn_is_linked & inner_is_linked & calling_is_linked & arrays_is_linked &
    texts_is_linked & defaults_is_linked & exiting_is_linked & throwing_is_linked & crossing_is_linked &
    failing_is_linked & waiting_program_is_linked & boxing_is_linked & summing_is_linked & tt)

further_are_linked : All IsImage further_examples
unfolding further_examples
further_are_linked =
    all_of IsImage further_examples
    (dividing_is_linked & long_kept_is_linked & longs_is_linked & shifting_is_linked & narrowing_is_linked &
    choosing_is_linked & unwritten_is_linked & half_written_is_linked & computed_zero_is_linked &
    two_of_one_is_linked & inner_call_is_linked & falling_is_linked & wrong_class_is_linked &
    moved_int_is_linked & no_result_left_is_linked & nothing_caught_is_linked & mixed_is_linked &
    no_array_is_linked & constructed_twice_is_linked & early_is_linked & wrong_form_is_linked &
    puts_upper_is_linked & raw_bodies_is_linked & ordering_is_linked & failing_main_is_linked &
    fitting_is_linked & filling_is_linked & deep_is_linked & deeper_is_linked & wide_is_linked &
    wider_is_linked & looping_is_linked & printing_is_linked & starting_is_linked & undefined_is_linked &
    broken_is_linked & half_is_linked & uninitialised_is_linked & reference_is_linked & number_is_linked &
    mixing_is_linked & resultless_is_linked & uncaught_program_is_linked & falls_off_is_linked &
    twice_is_linked & four_steps_is_linked & two_threads_is_linked & tt)

pub examples_are_linked : ExamplesAreLinked
examples_are_linked = record { accepted = accepted_are_linked; further = further_are_linked }

accepted_are_accepted : All Accepts accepted_examples
unfolding accepted_examples
accepted_are_accepted =
    all_of Accepts accepted_examples
    (numbers.sum_is_accepted & numbers.switch_is_accepted & verifying.boot_bodies &
    verifying.merge_of_written & verifying.zero_is_both & verifying.one_object_a_turn &
    verifying.own_field_before_super & objects.calling_is_accepted & objects.arrays_are_accepted &
    objects.texts_are_accepted & selecting.defaults_are_accepted & exceptions.exiting_is_accepted &
    exceptions.throwing_is_accepted & initialising.crossing_is_accepted & initialising.failing_is_accepted &
    threads.waiting_is_accepted & threads.boxing_is_accepted & threads.summing_is_accepted & tt)

pub examples_are_accepted : ExamplesAreAccepted
examples_are_accepted k image within =
    bridge_holds (slice_index_or accepted_examples k image)
    (linked_images_have_linking (slice_index_or accepted_examples k image) (accepted_are_linked k image within))
    (accepted_are_accepted k image within)
