use Rattle.dv_coderead.specs.declared.raw_line.RawPlace.TheVariants as place
use Rattle.dv_coderead.proofs.RawAdding.{adds_begin, adds_end, adds_registers}
use Rattle.dv_coderead.proofs.raw_body.RawDrafting.add.Goals as goal

pub returns-in-Registers-clause-with : goal.returns-in-Registers-clause-with
returns-in-Registers-clause-with c = rw c.in-Registers.is (adds_registers c.args.self.now c.in-Registers.registers place.Pools)

pub returns-in-Begin-clause-with : goal.returns-in-Begin-clause-with
returns-in-Begin-clause-with c = rw c.in-Begin.is (adds_begin c.args.self.now (place.Units 0))

pub returns-in-End-clause-with : goal.returns-in-End-clause-with
returns-in-End-clause-with c = rw c.in-End.is (adds_end c.args.self.now place.Behind)
