-- The statements of the laws, side by side.
use Rattle.law_machine.specs.Laws.{DecodingInvertsSpelling, AcceptanceGivesRecords, LookUpsFind}
use Rattle.law_types.specs.Laws.{TypesAreOrdered, StatesAreOrdered, JoinIsLeast, TransferIsMonotone, DemandIsAntitone}
use Rattle.law_machine.specs.StepLaws.{WriteKeeps, LongWriteKeeps, NewInstanceKeeps, ConstructorKeeps, OwnConstructorKeeps, ObjectIsAdded, ArrayIsAdded, StringIsAdded, StringIsInterned, ClassObjectIsGot, GrowthKeeps, StoreKeeps, StaticStoreKeeps, EntryConforms, InvokesPush, ReturnsPop, LocalStepsAreFine, HeapStepsAreFine, ThrowerIsHandled, CallersAreHandled, NeedersAreHandled, FlightsAreFine, NeedsAreFine, RecordsAreFine, MonitorStepsAreFine, NewThreadIsFine, BlockedStepsWait, EndedStepsStay, LeftIsWellTyped, SettledIsWellTyped, SettledRecordIsWellTyped, OpeningIsWellTyped, StepsAreSound}

pub record AllLaws : Type 0 where
  -- instructions and units
  pub decoding_inverts_spelling : DecodingInvertsSpelling
  -- order, join, transfer and demand
  pub types_are_ordered : TypesAreOrdered
  pub states_are_ordered : StatesAreOrdered
  pub join_is_least : JoinIsLeast
  pub transfer_is_monotone : TransferIsMonotone
  pub demand_is_antitone : DemandIsAntitone
  -- acceptance and look-up
  pub acceptance_gives_records : AcceptanceGivesRecords
  pub look_ups_find : LookUpsFind
  -- registers
  pub write_keeps : WriteKeeps
  pub long_write_keeps : LongWriteKeeps
  pub new_instance_keeps : NewInstanceKeeps
  pub constructor_keeps : ConstructorKeeps
  pub own_constructor_keeps : OwnConstructorKeeps
  -- the heap
  pub object_is_added : ObjectIsAdded
  pub array_is_added : ArrayIsAdded
  pub string_is_added : StringIsAdded
  pub string_is_interned : StringIsInterned
  pub class_object_is_got : ClassObjectIsGot
  pub growth_keeps : GrowthKeeps
  pub store_keeps : StoreKeeps
  pub static_store_keeps : StaticStoreKeeps
  -- steps, sort by sort
  pub local_steps_are_fine : LocalStepsAreFine
  pub heap_steps_are_fine : HeapStepsAreFine
  pub entry_conforms : EntryConforms
  pub invokes_push : InvokesPush
  pub returns_pop : ReturnsPop
  pub monitor_steps_are_fine : MonitorStepsAreFine
  pub new_thread_is_fine : NewThreadIsFine
  -- exceptions and class initialisation
  pub thrower_is_handled : ThrowerIsHandled
  pub callers_are_handled : CallersAreHandled
  pub needers_are_handled : NeedersAreHandled
  pub flights_are_fine : FlightsAreFine
  pub needs_are_fine : NeedsAreFine
  pub records_are_fine : RecordsAreFine
  -- threads that don't go on
  pub blocked_steps_wait : BlockedStepsWait
  pub ended_steps_stay : EndedStepsStay
  -- whole steps
  pub left_is_well_typed : LeftIsWellTyped
  pub settled_is_well_typed : SettledIsWellTyped
  pub settled_record_is_well_typed : SettledRecordIsWellTyped
  pub opening_is_well_typed : OpeningIsWellTyped
  pub steps_are_sound : StepsAreSound
