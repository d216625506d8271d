use Rattle.std.proofs.Common.{List, not, get_or, ap, sym, ◌∙◌}
use Rattle.std.proofs.lemmas.List.{drop_all}
use Rattle.dv_defs.specs.Order.{numbers}
use Rattle.dv_defs.specs.declared.names.ClassId.{ClassId}
use Rattle.dv_hier.specs.Interfaces.{are_ready}
use Rattle.dv_hier.proofs.RoundLaws.{nobody, absent_at, listed_at, one_ready}
use Rattle.dv_hier.proofs.interfaces.are_listed.Goals as goal

pub returns-in_default : goal.returns-in_default
returns-in_default c =
    let lists = c.args.lists.now in
    let is = c.args.interfaces.now in
    let i = c.loop-id.id-index in
    sym (one_ready lists is i nobody _ c.loop-id-test.true (absent_at lists (get_or is i nobody).0 c.get.result c.get.ensures.lookup.0 c.in_default.is)) ∙ c.loop-id.invariant

pub returns-then-is_none : goal.returns-then-is_none
returns-then-is_none c =
    let lists = c.args.lists.now in
    let is = c.args.interfaces.now in
    let i = c.loop-id.id-index in
    let at = c.in-Some.ensures.lookup in
    sym (one_ready lists is i nobody _ c.loop-id-test.true
    (listed_at lists (get_or is i nobody).0 c.in-Some.list.now at.3.0 at.1 ∙ (c.is_none.ensures ∙ ap not c.if-is_none.true))) ∙ c.loop-id.invariant

pub loop-id-preserved : goal.loop-id-preserved
loop-id-preserved c =
    let lists = c.args.lists.now in
    let is = c.args.interfaces.now in
    let i = c.loop-id.id-index in
    let at = c.in-Some.ensures.lookup in
    sym (one_ready lists is i nobody _ c.loop-id-test.true
    (listed_at lists (get_or is i nobody).0 c.in-Some.list.now at.3.0 at.1 ∙ (c.is_none.ensures ∙ ap not c.if-is_none.false))) ∙ c.loop-id.invariant

pub returns : goal.returns
returns c =
    sym (ap (λ (ds : List ClassId). are_ready c.args.lists.now (numbers ds)) (drop_all c.loop-id.id-index c.args.interfaces.now c.loop-id-test.false)) ∙ c.loop-id.invariant
