-- Each law by its lemma.
use Rattle.law_machine.proofs.lemmas.Bridge.Decoding.{decoding_inverts_spelling}
use Rattle.law_types.proofs.Laws.{types_are_ordered}
use Rattle.law_types.proofs.States.{states_are_ordered}
use Rattle.law_types.proofs.Joins.{join_is_least}
use Rattle.law_types.proofs.Transfer.{transfer_is_monotone}
use Rattle.law_types.proofs.Satisfied.{demand_is_antitone}
use Rattle.law_machine.proofs.lemmas.Bridge.Records.{acceptance_gives_records}
use Rattle.law_machine.proofs.lemmas.Bridge.Selected.{look_ups_find}
use Rattle.law_machine.proofs.lemmas.Registers.Written.{write_keeps, long_write_keeps}
use Rattle.law_machine.proofs.lemmas.Registers.Made.{new_instance_keeps, constructor_keeps, own_constructor_keeps}
use Rattle.law_machine.proofs.lemmas.Heap.Added.{object_is_added, array_is_added, string_is_added}
use Rattle.law_machine.proofs.lemmas.Heap.Interned.{string_is_interned, class_object_is_got}
use Rattle.law_machine.proofs.lemmas.Growth.Keeps.{growth_keeps}
use Rattle.law_machine.proofs.lemmas.Heap.Stored.{store_keeps, static_store_keeps}
use Rattle.law_machine.proofs.lemmas.Local.Fine.{local_steps_are_fine}
use Rattle.law_machine.proofs.lemmas.HeapSteps.Fine.{heap_steps_are_fine}
use Rattle.law_machine.proofs.lemmas.Calls.Entered.{entry_conforms}
use Rattle.law_machine.proofs.lemmas.Calls.Push.{invokes_push}
use Rattle.law_machine.proofs.lemmas.Returns.Fine.{returns_pop}
use Rattle.law_machine.proofs.lemmas.Monitors.Steps.{monitor_steps_are_fine}
use Rattle.law_machine.proofs.lemmas.Records.Started.{new_thread_is_fine}
use Rattle.law_machine.proofs.lemmas.Exceptions.Callers.{thrower_is_handled, callers_are_handled, needers_are_handled}
use Rattle.law_machine.proofs.lemmas.Exceptions.Records.{flights_are_fine}
use Rattle.law_machine.proofs.lemmas.Records.Needed.{needs_are_fine}
use Rattle.law_machine.proofs.lemmas.Records.Fine.{records_are_fine}
use Rattle.law_machine.proofs.lemmas.Growth.Threads.{left_is_well_typed}
use Rattle.law_machine.proofs.lemmas.Exceptions.Flown.{settled_is_well_typed, settled_record_is_well_typed}
use Rattle.law_machine.proofs.lemmas.Opening.State.{opening_is_well_typed}
use Rattle.law_machine.proofs.lemmas.Steps.HeldUp.{blocked_steps_wait, ended_steps_stay}
use Rattle.law_machine.proofs.lemmas.Steps.Sound.{steps_are_sound}
use Rattle.law_machine.proofs.sound.all_laws.Goals as goal

pub returns : goal.returns
returns c = record {
  law = record {
    decoding_inverts_spelling = decoding_inverts_spelling;
    types_are_ordered = types_are_ordered;
    states_are_ordered = states_are_ordered;
    join_is_least = join_is_least;
    transfer_is_monotone = transfer_is_monotone;
    demand_is_antitone = demand_is_antitone;
    acceptance_gives_records = acceptance_gives_records;
    look_ups_find = look_ups_find;
    write_keeps = write_keeps;
    long_write_keeps = long_write_keeps;
    new_instance_keeps = new_instance_keeps;
    constructor_keeps = constructor_keeps;
    own_constructor_keeps = own_constructor_keeps;
    object_is_added = object_is_added;
    array_is_added = array_is_added;
    string_is_added = string_is_added;
    string_is_interned = string_is_interned;
    class_object_is_got = class_object_is_got;
    growth_keeps = growth_keeps;
    store_keeps = store_keeps;
    static_store_keeps = static_store_keeps;
    local_steps_are_fine = local_steps_are_fine;
    heap_steps_are_fine = heap_steps_are_fine;
    entry_conforms = entry_conforms;
    invokes_push = invokes_push;
    returns_pop = returns_pop;
    monitor_steps_are_fine = monitor_steps_are_fine;
    new_thread_is_fine = new_thread_is_fine;
    thrower_is_handled = thrower_is_handled;
    callers_are_handled = callers_are_handled;
    needers_are_handled = needers_are_handled;
    flights_are_fine = flights_are_fine;
    needs_are_fine = needs_are_fine;
    records_are_fine = records_are_fine;
    blocked_steps_wait = blocked_steps_wait;
    ended_steps_stay = ended_steps_stay;
    left_is_well_typed = left_is_well_typed;
    settled_is_well_typed = settled_is_well_typed;
    settled_record_is_well_typed = settled_record_is_well_typed;
    opening_is_well_typed = opening_is_well_typed;
    steps_are_sound = steps_are_sound;
  };
}
