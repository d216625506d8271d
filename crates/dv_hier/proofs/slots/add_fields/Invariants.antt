use Rattle.std.proofs.Common.{◌≡◌, ◌+◌, ◌++◌, drop}
use Rattle.dv_hier.specs.Slots.{infos_from, words_in}
use Rattle.dv_hier.proofs.slots.add_fields.Given as goal

abbrev pub invariant-loop-place : goal.invariant-loop-place
invariant-loop-place l =
    (l.fields.items ++ infos_from l.class l.id.0 l.place l.end (drop l.place l.class.fields) ≡ l.initial.fields.items ++ infos_from l.class l.id.0 0 l.words l.class.fields)
    × (l.end + words_in l.class (drop l.place l.class.fields) ≡ l.words + words_in l.class l.class.fields)
