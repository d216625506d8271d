use Rattle.std.proofs.Common.{◌≡◌, map}
use Rattle.std.specs.List.{range_with_len}
use Rattle.dv_defs.specs.Images.{Image}
use Rattle.dv_defs.specs.Linked.{key_of, keyed_at, table_at}
use Rattle.dv_vtable.specs.Rows.{IsRoom}
use Rattle.dv_vtable.specs.Sources.{IsOf}
use Rattle.dv_vtable.proofs.tabling.all_tables.Given as goal

abbrev pub invariant-loop-class : goal.invariant-loop-class
invariant-loop-class l = record {
  room : IsRoom l.sources l.room;
  tables : (image : Image) → IsOf l.sources image → l.tables.items ≡ map (table_at image) (range_with_len 0 l.class);
  places : (image : Image) → IsOf l.sources image → l.places.items ≡ map (λ c. map (key_of image) (keyed_at image c)) (range_with_len 0 l.class);
}
