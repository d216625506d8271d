use Rattle.std.proofs.Common.{ap, nat_eq}
use Rattle.std.specs.HashMap.{get}
use Rattle.dv_monitor.specs.Slots.{object_in}
use Rattle.dv_monitor.proofs.PlaceLaws.{emptied-after, indexed-moved, mapped-there}
use Rattle.dv_monitor.proofs.SlotLaws.{present-moved}
use Rattle.dv_monitor.proofs.slots.move_down.Goals as goal

pub note_move-requires-clause-stood : goal.note_move-requires-clause-stood
note_move-requires-clause-stood c =
    mapped-there c.args.slots.now.items (get nat_eq c.args.places.now) c.requires.indexed c.args.holding.object c.args.from (ap object_in c.requires.stands)

pub returns-clause-indexed : goal.returns-clause-indexed
returns-clause-indexed c =
    indexed-moved c.args.slots.now.items (get nat_eq c.args.places.now) (get nat_eq c.note_move.new.places) c.args.to c.args.from c.args.holding c.requires.indexed
    c.requires.stands c.requires.down c.requires.empty c.note_move.ensures.there c.note_move.ensures.others

pub returns-clause-present : goal.returns-clause-present
returns-clause-present c = present-moved c.args.slots.now.items c.args.to c.args.from c.args.holding c.requires.down c.requires.stands c.requires.empty

pub returns-clause-empty : goal.returns-clause-empty
returns-clause-empty c = emptied-after c.args.slots.now.items c.args.to c.args.from c.args.holding c.requires.stands c.requires.empty
