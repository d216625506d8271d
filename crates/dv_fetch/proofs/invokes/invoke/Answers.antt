use Rattle.std.proofs.Common.{◌∙◌, ◌%◌, ◌/◌, ◌≤◌, ℕ, List, Option, Ok, sym, ap, arith}
use Rattle.std.specs.Prelude.{slice_get, take}
use Rattle.dv_defs.specs.Decoding.{five, nibble}
use Rattle.dv_defs.specs.Families as family
use Rattle.dv_defs.specs.Op.{Invoke, named_registers, on_pool, resolved_method}
use Rattle.dv_defs.specs.Pools.{Method}
use Rattle.dv_defs.specs.Spelling.{few}
use Rattle.dv_ops.specs.declared.op.Op.TheVariants as op
use Rattle.dv_ops.specs.Meaning.{code_of, method_of}
use Rattle.dv_units.specs.Tables.{standard_call}
use Rattle.dv_fetch.proofs.Formats.{named_few, spells_35c}
use Rattle.dv_fetch.proofs.invokes.invoke.Goals as goal

pub returns : goal.returns
returns c at us =
    let i = c.args.image.now in
    let code = code_of c.args.code.now in
    let k = standard_call c.args.call in
    let f = c.args.first in
    let w = c.args.third in
    let a = f / 256 / 16 in
    let g = f / 256 % 16 in
    let regs = c.registers-regs.result in
    let less : a ≤ 5 = omega (arith, c.registers-regs.ensures.count, c.if-regs-gt5.false) in
    let named = named_few a (nibble 0 w) (nibble 1 w) (nibble 2 w) (nibble 3 w) g less ∙ sym (c.registers-regs.ensures.named less) in
    spells_35c i code at f c.args.opcode c.requires.opcode (family.Invoke k) c.requires.family (op.Invoke c.args.call regs c.in_ok-method.method) c.args.second w c.requires.format us
    (ap (λ (n : ℕ). on_pool (resolved_method i (slice_get code.method.info.methods n)) (λ m. Ok (Invoke k (named_registers (few (take a (five g w)))) m))) (sym c.from.ensures) ∙
    (ap (λ (o : Option Method). on_pool o (λ m. Ok (Invoke k (named_registers (few (take a (five g w)))) m))) c.in_ok-method.ensures ∙
    ap (λ (ns : List ℕ). Ok (Invoke k ns (method_of c.in_ok-method.method))) named))
