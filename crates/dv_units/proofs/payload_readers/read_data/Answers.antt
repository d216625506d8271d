use Rattle.std.proofs.Common.{◌≡◌, ◌+◌, ◌-◌, ◌/◌, ◌%◌, ap, take, drop, ◌∙◌, arith}
use Rattle.dv_defs.specs.Tiling.{bytes_in}
use Rattle.dv_units.proofs.Decoding.{units_fit}
use Rattle.dv_units.proofs.PayloadParts.{data_parts}
use Rattle.dv_units.proofs.payload_readers.read_data.Goals as goal

pub returns : goal.returns
returns c =
    let size : 4 + c.args.count / 2 + c.args.count % 2 - 4 ≡ (c.args.count + 1) / 2 = omega arith in
    data_parts c.args.width c.args.count c.args.units.now c.of.result (units_fit c.args.units.now c.type_inv.units) c.requires (c.of.ensures ∙ (c.in_ok-bytes.ensures ∙ ap (λ n. take c.args.count (bytes_in (take n (drop 4 c.args.units.now)))) size))
