use Rattle.std.proofs.Common.{◌≡◌, rules}
use Rattle.std.specs.Prelude.{bytes_eq}
use Rattle.dv_heap.proofs.Kept.{entry_added}
use Rattle.dv_heap.proofs.making.add_text.Goals as goal

pub returns-clause-text : goal.returns-clause-text
returns-clause-text c =
    let same : c.in_ok-key.key ≡ c.args.units.now = search rules in
    entry_added bytes_eq c.args.texts.now.entries c.reserve.new.self.entries c.insert.new.self.entries c.args.units.now c.in_ok-key.key c.in_ok-number.number c.requires c.reserve.ensures.entries same c.in_ok-insert.ensures.entries
