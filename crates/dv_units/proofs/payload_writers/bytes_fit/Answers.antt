use Rattle.dv_units.proofs.PayloadParts.{bytes_of_slice}
use Rattle.dv_units.proofs.payload_writers.bytes_fit.Goals as goal

pub returns : goal.returns
returns c = bytes_of_slice c.args.bytes.now c.type_inv.bytes
