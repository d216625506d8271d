use Rattle.std.proofs.Common.{◌≡◌, ℕ, take, drop, Some, Result, Ok, ap, ◌∙◌}
use Rattle.dv_defs.specs.declared.code.Insn.{Insn}
use Rattle.dv_units.specs.declared.error.UnitError.{UnitError}
use Rattle.dv_defs.specs.Tiling.{tiling, tiles_in}
use Rattle.dv_units.proofs.PayloadsHere.{taken_stands}
use Rattle.dv_rules.proofs.Standing.{insn_stands}
use Rattle.dv_rules.proofs.switches.insn_at.Goals as goal

same_insn : (r : Result (Insn × ℕ) UnitError) (x y : Insn) (n m : ℕ) → r ≡ Ok (x, n) → r ≡ Ok (y, m) → x ≡ y
same_insn r x y n m e h = let both : (let p : Insn × ℕ = (x, n) in p) ≡ (y, m) = cc in ap (λ p. p.0) both

pub decode-requires : goal.decode-requires
decode-requires c =
    let us = c.args.units.now in
    (insn_stands (tiles_in (tiling us)) us c.args.at c.units_fit.ensures c.requires.tiled c.requires.begins).inside

pub unreachable-requires : goal.unreachable-requires
unreachable-requires c =
    let us = c.args.units.now in
    let s = insn_stands (tiles_in (tiling us)) us c.args.at c.units_fit.ensures c.requires.tiled c.requires.begins in
    let read = c.decode.ensures.every s.insn (take s.size (drop c.args.at us)) s.spelled (taken_stands s.size (drop c.args.at us) s.room) in
    cc (read, c.in-Err.is)

pub returns-clause-there : goal.returns-clause-there
returns-clause-there c =
    let us = c.args.units.now in
    let s = insn_stands (tiles_in (tiling us)) us c.args.at c.units_fit.ensures c.requires.tiled c.requires.begins in
    let read = c.decode.ensures.every s.insn (take s.size (drop c.args.at us)) s.spelled (taken_stands s.size (drop c.args.at us) s.room) in
    s.is_there ∙ ap Some (same_insn c.decode.result s.insn c.in-Ok.insn _ c.in-Ok.field-0-1 read c.in-Ok.is)

pub returns-clause-inside : goal.returns-clause-inside
returns-clause-inside c =
    let us = c.args.units.now in
    (insn_stands (tiles_in (tiling us)) us c.args.at c.units_fit.ensures c.requires.tiled c.requires.begins).inside
