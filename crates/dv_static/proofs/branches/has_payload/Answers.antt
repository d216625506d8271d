use Rattle.std.proofs.Common.{ap, ◌∙◌}
use Rattle.std.specs.Prelude.{map, option_map}
use Rattle.dv_defs.specs.Families.{family_at}
use Rattle.dv_defs.specs.Tiling.{payload_at}
use Rattle.dv_ops.specs.Meaning.{has_payload_of}
use Rattle.dv_static.specs.Tiles.{tile_of}
use Rattle.dv_static.proofs.branches.has_payload.Goals as goal

pub returns : goal.returns
returns c =
    c.is_of_family.ensures ∙
    (ap (λ f. has_payload_of f (option_map (λ p. p.now) c.payload_at-payload.result)) c.family_of.ensures ∙
    ap (has_payload_of (family_at c.args.insn.now.op)) (c.payload_at-payload.ensures ∙ ap (payload_at (map tile_of c.args.starts.now)) c.target.ensures))
