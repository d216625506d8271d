use Rattle.std.proofs.Common.{◌≡◌, ◌%◌, true, drop, sym, ◌∙◌, arith, length-drop}
use Rattle.std.specs.Prelude.{nat_eq}
use Rattle.std.proofs.lemmas.Bool.{eq-eqb}
use Rattle.dv_units.proofs.Headers.{even_tail, odd_tail, below_256}
use Rattle.dv_units.proofs.header.has_clear_tail.Goals as goal

pub returns-then-bytes-eq0 : goal.returns-then-bytes-eq0
returns-then-bytes-eq0 c = let t : nat_eq (c.args.bytes % 2) 0 ≡ true = eq-eqb (c.args.bytes % 2) 0 c.if-bytes-eq0.true in t ∙ sym (even_tail c.args.bytes (drop 4 c.args.units.now) (omega arith) (omega (arith, c.requires, length-drop 4 c.args.units.now)))

pub returns-else-bytes-eq0 : goal.returns-else-bytes-eq0
returns-else-bytes-eq0 c = below_256 _ ∙ sym (odd_tail c.args.bytes c.args.units.now (omega arith) c.requires)
