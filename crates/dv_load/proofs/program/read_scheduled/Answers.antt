use Rattle.std.proofs.Common.{sym, subst}
use Rattle.dv_defs.specs.Linked.{AreNamed}
use Rattle.dv_lex.specs.Lines.{reading_of}
use Rattle.dv_load.proofs.LinkedTexts.{read_classes_are_named}
use Rattle.dv_load.proofs.program.read_scheduled.Goals as goal

pub link_program-requires : goal.link_program-requires
link_program-requires c =
    let named : AreNamed c.in_ok-read.read.classes = read_classes_are_named _ (reading_of c.args.text.now) c.in_ok-read.read c.in_ok-read.ensures in
    record { named = subst AreNamed (sym c.into_vec.ensures) named }
