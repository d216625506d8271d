use Rattle.std.proofs.Common.{◌≡◌, ℕ, ◌+◌, ◌-◌, Some, subst, arith}
use Rattle.dv_defs.specs.Tiling.{IsInsn, tile_at, tiles_in, tiling}
use Rattle.dv_units.proofs.Decoding.{units_fit}
use Rattle.dv_ops.proofs.Standing.{stands, read_stands}
use Rattle.dv_ops.proofs.fetch.insn_in.Goals as goal

pub decode-requires : goal.decode-requires
decode-requires c =
    let (i, n, s) = stands c.args.units.now c.args.at (units_fit c.args.units.now c.type_inv.units) c.requires.begins in
    omega (arith, s.fits.positive, s.fits.within)

pub unreachable-requires : goal.unreachable-requires
unreachable-requires c =
    let (i, n, s) = stands c.args.units.now c.args.at (units_fit c.args.units.now c.type_inv.units) c.requires.begins in
    cc (c.in-Err.ensures.none_here, s.here)

pub returns-clause-tile : goal.returns-clause-tile
returns-clause-tile c =
    let s = read_stands c.args.units.now c.args.at c.in-Ok.insn c.in-Ok.size (units_fit c.args.units.now c.type_inv.units) c.requires.begins c.in-Ok.ensures.here in
    let size : c.in-Ok.size ≡ c.args.at + c.in-Ok.size - c.args.at = omega arith in
    let P : ℕ → Type 0 = λ n. tile_at (tiles_in (tiling c.args.units.now)) c.args.at ≡ Some (record { at = c.args.at; size = n; item = IsInsn c.in-Ok.insn }) in
    subst P size s.tile

pub returns-clause-next : goal.returns-clause-next
returns-clause-next c =
    (read_stands c.args.units.now c.args.at c.in-Ok.insn c.in-Ok.size (units_fit c.args.units.now c.type_inv.units) c.requires.begins c.in-Ok.ensures.here).next
