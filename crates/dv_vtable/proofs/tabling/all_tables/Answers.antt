use Rattle.std.proofs.Common.{map, ◌∙◌}
use Rattle.dv_defs.specs.Linked.{key_of, keyed_at, table_at}
use Rattle.dv_vtable.proofs.RowLaws.{ranged_more}
use Rattle.dv_vtable.proofs.tabling.all_tables.Goals as goal

pub loop-class-preserved : goal.loop-class-preserved
loop-class-preserved c = record {
  room = c.in_ok-row.ensures.room;
  tables = λ image of. ranged_more (table_at image) c.loop-class.class c.loop-class.tables.items c.push.new.self.items c.of.result
      (c.of.ensures ∙ c.in_ok-row.ensures.selects image of) (c.loop-class.invariant.tables image of) c.in_ok-push.ensures.items;
  places = λ image of. ranged_more (λ d. map (key_of image) (keyed_at image d)) c.loop-class.class c.loop-class.places.items c.push-in-loop-class.new.self.items c.of-in-loop-class.result
      (c.of-in-loop-class.ensures ∙ c.in_ok-row.ensures.numbers image of) (c.loop-class.invariant.places image of) c.in_ok-push-2.ensures.items;
}
