use Rattle.std.proofs.Common.{arith, length, nat_eq, ◌<◌, ◌∙◌}
use Rattle.std.specs.HashMap.{get}
use Rattle.dv_monitor.proofs.PlaceLaws.{indexed-taken_out, mapped-there, present-taken_out, within-object}
use Rattle.dv_monitor.proofs.slots.take_out.Goals as goal

pub forget-requires : goal.forget-requires
forget-requires c = mapped-there c.args.slots.now.items (get nat_eq c.args.places.now) c.requires.indexed c.args.object c.args.place c.requires.stands

pub index_mut-requires : goal.index_mut-requires
index_mut-requires c =
    let inside : c.args.place < length c.args.slots.now.items = within-object c.args.slots.now.items c.args.place c.args.object c.requires.stands in
    omega (arith, c.args.slots.now.ok)

pub close_up-requires : goal.close_up-requires
close_up-requires c = record {
  indexed =
      indexed-taken_out c.args.slots.now.items c.drop_empty_end.new.slots.items (get nat_eq c.args.places.now) (get nat_eq c.forget.new.places) c.args.object c.args.place c.requires.indexed
      c.requires.stands c.drop_empty_end.ensures.slots c.forget.ensures.gone c.forget.ensures.others;
}

pub returns-else-len-clause-indexed : goal.returns-else-len-clause-indexed
returns-else-len-clause-indexed c =
    indexed-taken_out c.args.slots.now.items c.drop_empty_end.new.slots.items (get nat_eq c.args.places.now) (get nat_eq c.forget.new.places) c.args.object c.args.place c.requires.indexed
    c.requires.stands c.drop_empty_end.ensures.slots c.forget.ensures.gone c.forget.ensures.others

pub returns-then-len-clause-present : goal.returns-then-len-clause-present
returns-then-len-clause-present c =
    c.close_up.ensures.present
    ∙ present-taken_out c.args.slots.now.items c.drop_empty_end.new.slots.items (get nat_eq c.args.places.now) (get nat_eq c.forget.new.places) c.args.object c.args.place
    c.requires.indexed c.requires.stands c.drop_empty_end.ensures.slots

pub returns-else-len-clause-present : goal.returns-else-len-clause-present
returns-else-len-clause-present c =
    present-taken_out c.args.slots.now.items c.drop_empty_end.new.slots.items (get nat_eq c.args.places.now) (get nat_eq c.forget.new.places) c.args.object c.args.place
    c.requires.indexed c.requires.stands c.drop_empty_end.ensures.slots
