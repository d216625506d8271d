use Rattle.dv_units.proofs.PayloadParts.{bytes_of_slice}
use Rattle.dv_asm.proofs.units.bytes_fit.Goals as goal

pub returns : goal.returns
returns c = bytes_of_slice c.args.bytes.now c.type_inv.bytes
