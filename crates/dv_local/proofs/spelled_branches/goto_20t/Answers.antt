use Rattle.std.proofs.Common.{◌+◌, ◌/◌, [], ◌∙◌, refl, ap}
use Rattle.dv_defs.specs.Formats.{F20t}
use Rattle.dv_defs.specs.Families as family
use Rattle.dv_defs.specs.Numbers.{jump, signed_at}
use Rattle.dv_defs.specs.Op.{Goto}
use Rattle.dv_defs.specs.Spelling.{few, with_offset}
use Rattle.dv_frames.specs.Heads.{frame}
use Rattle.dv_words.specs.Local.{word_local}
use Rattle.dv_local.specs.Spelled.{rest_of, unit_after}
use Rattle.dv_local.proofs.Doing.{did_one}
use Rattle.dv_local.proofs.Formats.{read_as, reads_20t}
use Rattle.std.proofs.Common.{rules, w32, SFits}
use Rattle.std.proofs.lemmas.Int.{to_z-of_z}
use Rattle.dv_local.proofs.spelled_branches.goto_20t.Goals as goal

pub returns : goal.returns
returns c =
    did_one c.args.here.now 2 (with_offset c.args.opcode (few []) (signed_at 16 (unit_after c.args.here.now 0))) family.Goto (Goto (jump c.args.here.now.at (signed_at 16 (unit_after c.args.here.now 0)))) _ _
    (read_as c.args.here.now c.args.opcode F20t 2 _ c.requires.opcode c.requires.format (reads_20t c.args.opcode (c.args.here.now.first / 256) (rest_of c.args.here.now)))
    c.requires.family (λ image code. refl) (refl)
    (c.goto.ensures (c.args.here.now.at + 2) ∙ ap (λ o. word_local (Goto o) (frame c.args.head.now c.args.words.now) (c.args.here.now.at + 2)) (c.jump.ensures ∙ ap (jump c.args.here.now.at) ((let f : SFits w32 c.signed_unit.result = search rules in to_z-of_z w32 c.signed_unit.result f) ∙ c.signed_unit.ensures ∙ ap (signed_at 16) c.unit.ensures)))
