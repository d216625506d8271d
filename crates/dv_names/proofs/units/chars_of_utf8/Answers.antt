use Rattle.std.proofs.Common.{◌∙◌, sym, ap}
use Rattle.std.specs.List.{flat_map}
use Rattle.std.specs.Char.Escape.{encode_utf16}
use Rattle.std.proofs.lemmas.List.{map-id}
use Rattle.std.proofs.lemmas.Iterator.{YieldsList-from_chars}
use Rattle.std.proofs.lemmas.Iterator.Consumers.{YieldsList-end}
use Rattle.dv_defs.specs.Texts.{utf8}
use Rattle.dv_names.proofs.Texts.{utf8_is}
use Rattle.dv_names.proofs.RoundTrip.{text_back}
use Rattle.dv_names.proofs.units.chars_of_utf8.Goals as goal

pub returns-clause-units : goal.returns-clause-units
returns-clause-units c =
    let end = YieldsList-end (YieldsList-from_chars c.args.text.now c.utf8.text cc) c.loop-c.yielded _ c.loop-c.yielded_by _ _ c.in-None.is c.next.ensures.steps in
    c.of.ensures ∙ c.loop-c.invariant ∙ ap (flat_map encode_utf16) (sym (map-id c.loop-c.yielded) ∙ end.0)

pub returns-clause-back : goal.returns-clause-back
returns-clause-back c = ap utf8 (returns-clause-units c) ∙ utf8_is _ ∙ text_back c.args.text.now c.utf8.text
