use Rattle.std.proofs.Common.{◌⊎◌, inl, inr, ◌≡◌, Some, Err, take, drop, ap, sym, ◌∙◌}
use Rattle.dv_defs.specs.Tiling.{tiling, tiles_in}
use Rattle.dv_units.specs.declared.error.UnitError.{UnitError}
use Rattle.dv_units.specs.declared.error.UnitError.TheVariants.{BadPayload, Memory}
use Rattle.dv_units.proofs.PayloadsHere.{taken_stands}
use Rattle.dv_rules.proofs.Standing.{payload_stands}
use Rattle.dv_rules.proofs.switches.payload_at.Goals as goal

bad_by : (e : UnitError) → (e ≡ BadPayload) ⊎ (e ≡ Memory) → (e ≡ Memory → ⊥) → e ≡ BadPayload
bad_by e (inl h) other = h
bad_by e (inr h) other = absurd (other h)

pub unreachable-requires : goal.unreachable-requires
unreachable-requires c =
    let us = c.args.units.now in
    let s = payload_stands (tiles_in (tiling us)) us c.args.at c.units_fit.ensures c.requires.tiled c.requires.there in
    let bad = bad_by c.in-Err.error c.in-Err.ensures.only c.in_default.not-Memory in
    c.decode_payload.ensures.bad_payload.0 (c.in-Err.is ∙ ap Err bad) s.payload (take s.size (drop c.args.at us)) s.spelled (taken_stands s.size (drop c.args.at us) s.room)

pub returns-in-Ok-clause-value : goal.returns-in-Ok-clause-value
returns-in-Ok-clause-value c =
    let us = c.args.units.now in
    let s = payload_stands (tiles_in (tiling us)) us c.args.at c.units_fit.ensures c.requires.tiled c.requires.there in
    s.is_there ∙ ap Some (sym (c.in-Ok.ensures.every s.payload (take s.size (drop c.args.at us)) s.spelled (taken_stands s.size (drop c.args.at us) s.room)))
