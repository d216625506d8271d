use Rattle.std.proofs.Common.{◌≡◌, Some, true, rules, take, drop, sym, ◌∙◌, ap, arith}
use Rattle.dv_defs.specs.Formats.{size_at, size_by}
use Rattle.dv_defs.specs.Spelling.{spelling}
use Rattle.dv_units.specs.Tables.{has_format}
use Rattle.dv_units.specs.Reading.{opcode_at, NoneStandsAt}
use Rattle.dv_units.proofs.Decoding.{is_at, only_there, stands_there, units_fit, none_here, none_cut, here}
use Rattle.dv_units.proofs.read.decode.Goals as goal

pub returns-in_err-format-clause-every : goal.returns-in_err-format-clause-every
returns-in_err-format-clause-every c insn us p e =
    let s = is_at insn us c.args.units.now c.args.at p e in
    let known : has_format c.bytes-op.result.1 ≡ true = ap has_format c.bytes-op.ensures.low ∙ s.known in
    absurd (cc (c.in_err-format.ensures.known.1 known))

pub returns-then-units-at-clause-every : goal.returns-then-units-at-clause-every
returns-then-units-at-clause-every c insn us p e =
    let s = is_at insn us c.args.units.now c.args.at p e in
    let size : size_at (opcode_at c.args.units.now c.args.at) ≡ c.units_of-size.result = ap size_at (sym c.bytes-op.ensures.low) ∙ ap size_by c.in_ok-format.ensures.format ∙ sym c.units_of-size.ensures in
    absurd (omega (arith, size, s.room))

pub returns-clause-every : goal.returns-clause-every
returns-clause-every c insn us p e =
    let size : c.units_of-size.result ≡ size_at (opcode_at c.args.units.now c.args.at) = c.units_of-size.ensures ∙ sym (ap size_by c.in_ok-format.ensures.format) ∙ ap size_at c.bytes-op.ensures.low in
    let read : spelling c.in_ok-insn.insn ≡ Some (take c.units_of-size.result (drop c.args.at c.args.units.now)) = search rules in
    let o = only_there c.in_ok-insn.insn insn us c.args.units.now c.args.at c.units_of-size.result size (omega arith) read p e in
    cc

pub returns-clause-operand_range : goal.returns-clause-operand_range
returns-clause-operand_range c =
    let read : spelling c.in_ok-insn.insn ≡ Some (take c.units_of-size.result (drop c.args.at c.args.units.now)) = search rules in
    (λ h. absurd (cc), λ h. absurd (h.2 c.in_ok-insn.insn _ read (stands_there c.units_of-size.result c.args.units.now c.args.at (omega arith))))

pub returns-then-units-at-clause-none_here : goal.returns-then-units-at-clause-none_here
returns-then-units-at-clause-none_here c =
    let size : size_at (opcode_at c.args.units.now c.args.at) ≡ c.units_of-size.result = ap size_at (sym c.bytes-op.ensures.low) ∙ ap size_by c.in_ok-format.ensures.format ∙ sym c.units_of-size.ensures in
    none_here c.args.units.now c.args.at (units_fit c.args.units.now c.type_inv.units) (none_cut c.args.units.now c.args.at c.units_of-size.result size c.if-units-at.true)

pub returns-in_err-insn-clause-none_here : goal.returns-in_err-insn-clause-none_here
returns-in_err-insn-clause-none_here c =
    let none : NoneStandsAt c.args.units.now c.args.at = search rules in
    let here = none_here c.args.units.now c.args.at (units_fit c.args.units.now c.type_inv.units) none in
    search (rules, here)

pub returns-clause-here : goal.returns-clause-here
returns-clause-here c =
    let read : spelling c.in_ok-insn.insn ≡ Some (take c.units_of-size.result (drop c.args.at c.args.units.now)) = search rules in
    here c.in_ok-insn.insn c.units_of-size.result c.args.units.now c.args.at (units_fit c.args.units.now c.type_inv.units) (omega arith) read
