use Rattle.dv_asm.proofs.RangeLemmas.{is_some_range, put_apart}
use Rattle.dv_asm.proofs.catches.put.Goals as goal

pub returns-clause-apart : goal.returns-clause-apart
returns-clause-apart c =
    (put_apart c.args.range c.args.sorted.now.entries c.insert.new.self.entries (is_some_range c.args.range c.requires.some) c.requires.apart c.requires.none c.in_ok-insert.ensures.entries).0

pub returns-clause-value : goal.returns-clause-value
returns-clause-value c =
    (put_apart c.args.range c.args.sorted.now.entries c.insert.new.self.entries (is_some_range c.args.range c.requires.some) c.requires.apart c.requires.none c.in_ok-insert.ensures.entries).1
