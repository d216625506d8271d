use Rattle.dv_units.proofs.Decoding.{from_reader}
use Rattle.dv_units.proofs.read.read_at.Goals as goal

pub returns : goal.returns
returns c = from_reader _ c.read.result c.args.units.now _ c.args.at c.split_at.ensures.back c.requires.opcode c.read.ensures
