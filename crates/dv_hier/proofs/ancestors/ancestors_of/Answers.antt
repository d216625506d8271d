use Rattle.std.proofs.Common.{◌≡◌, List, Bool, false, length, replicate, ap, ◌∙◌, arith}
use Rattle.std.proofs.lemmas.Grind.{common_steps}
use Rattle.dv_hier.specs.Upwards.{is_marked}
use Rattle.dv_hier.proofs.AncestorLaws.{listed_in_range, row_is}
use Rattle.dv_hier.proofs.ancestors.ancestors_of.Goals as goal

pub mark_above-requires-clause-interfaces : goal.mark_above-requires-clause-interfaces
mark_above-requires-clause-interfaces c = listed_in_range c.args.infos.now c.args.interfaces.now c.requires.ordered.range c.requires.interfaces

pub returns : goal.returns
returns c =
    let n = length c.args.infos.now in
    let start : c.as_mut_slice.result.now ≡ replicate n false = c.as_mut_slice.ensures.value ∙ c.in_ok-row.ensures.items_if_clones_equal (λ y same. same) in
    let row : c.of.result ≡ c.mark_above.new.row = c.of.ensures ∙ grind (arith, common_steps) in
    λ d. ap (λ (ms : List Bool). is_marked ms d) row ∙
    row_is c.args.infos.now c.args.interfaces.now c.args.class.0 c.as_mut_slice.result.now c.mark_above.new.row c.requires.ordered c.requires.interfaces c.requires.class_in start c.mark_above.ensures d
