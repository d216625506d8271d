use Rattle.std.proofs.Common.{◌≡◌, ◌++◌, None, Ok, List, refl, sym, ap, ◌∙◌}
use Rattle.dv_defs.specs.declared.run.Entry.{Entry}
use Rattle.dv_machine.specs.Running.{ending_of}
use Rattle.dv_machine.specs.State.{Reads}
use Rattle.dv_sound.specs.Runs.{Run}
use Rattle.dv_sound.proofs.Keeping.{on_each_err}
use Rattle.dv_sound.proofs.Places.{none_is, same_then, some_is, typed_at}
use Rattle.dv_sound.proofs.Seeding.{may_turn, seeding_begins, seeding_ends, seeding_goes_on, seeding_stops}
use Rattle.dv_sound.proofs.safe.SafeVm.seeded.Goals as goal

pub loop-words-init : goal.loop-words-init
loop-words-init c = record {
  same = record { verified = refl; main = refl; limits = refl; lent = refl };
  seeding = λ main m at empty. seeding_begins c.args.self.now c.seed_from_u64-words.result main m c.args.seed at empty c.requires.home c.seed_from_u64-words.ensures;
}

pub returns-in_err-take_turn-clause-part : goal.returns-in_err-take_turn-clause-part
returns-in_err-take_turn-clause-part c =
    on_each_err c.from_residual.result _
    (λ main m at empty.
    let r = c.loop-words.self in
    let s = c.loop-words.invariant.seeding main m at empty in
    let fine = typed_at r main s.machine c.ending.ensures.leads s.at in
    let stops = seeding_stops r c.loop-words.words main c.args.seed s c.args.self.now c.loop-words.invariant.same fine in
    (stops.0, stops.1 ∙ ap (λ (x : Run). let k : Reads (List Entry) = Ok (x.log ++ stops.0) in k) (sym c.in_err-take_turn.ensures.refused)))

-- the thread that is picked may turn
pub take_turn-requires-clause-may : goal.take_turn-requires-clause-may
take_turn-requires-clause-may c main m at =
    let r = c.loop-words.self in
    let going : ending_of r.verified.image m ≡ None = sym (c.ending.ensures.ending main m at) ∙ none_is c.ending.result c.is_none.result c.is_none.ensures c.loop-words-test.true in
    may_turn r m c.picked-thread.result c.next_u32-word.result (c.loop-words.invariant.same.lent ∙ c.requires.home) going (c.picked-thread.ensures main m at)

pub loop-words-preserved : goal.loop-words-preserved
loop-words-preserved c = record {
  same = same_then c.args.self.now c.loop-words.self c.take_turn.new.self c.loop-words.invariant.same c.take_turn.ensures.same;
  seeding = λ main m at empty.
      let r = c.loop-words.self in
      let s = c.loop-words.invariant.seeding main m at empty in
      let going : ending_of r.verified.image s.machine ≡ None = sym (c.ending.ensures.ending main s.machine s.at) ∙ none_is c.ending.result c.is_none.result c.is_none.ensures c.loop-words-test.true in
      let is = c.picked-thread.ensures main s.machine s.at in
      let turned = c.in_ok-take_turn.ensures.turned main s.machine s.at in
      seeding_goes_on r c.loop-words.words main c.args.seed s c.take_turn.new.self c.next_u32-word.new.self c.picked-thread.result c.next_u32-word.result c.in_ok-take_turn.field-0 c.take_turn.ensures.same
      (typed_at r main s.machine c.ending.ensures.leads s.at) going is turned c.next_u32-word.ensures;
}

pub returns-clause-done : goal.returns-clause-done
returns-clause-done c main m at empty =
    let r = c.loop-words.self in
    let s = c.loop-words.invariant.seeding main m at empty in
    seeding_ends r c.loop-words.words main c.args.seed s c.args.self.now c.loop-words.invariant.same
    (λ going. some_is c.ending.result c.is_none.result c.is_none.ensures c.loop-words-test.false (c.ending.ensures.ending main s.machine s.at ∙ going))
