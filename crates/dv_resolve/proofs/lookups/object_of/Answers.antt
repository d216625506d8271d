use Rattle.std.proofs.Common.{◌≡◌, true, false, bytes_eq, ap, sym, ◌∙◌}
use Rattle.dv_defs.specs.Names.{object_name}
use Rattle.dv_defs.specs.Pools.{find_from}
use Rattle.dv_resolve.proofs.Walking.{named_from, named_here, named_later, named_nowhere}
use Rattle.dv_resolve.proofs.lookups.object_of.Goals as goal

pub returns-then-eq : goal.returns-then-eq
returns-then-eq c = λ image knows.
    let infos = c.args.members.now.infos.now in
    let same : bytes_eq c.info-item.result.def.name object_name ≡ true = ap (λ n. bytes_eq n object_name) (sym c.bytes.ensures) ∙ (sym c.eq.ensures ∙ c.if-eq.true) in
    named_here infos c.loop-i.i c.info-item.result object_name (find_from infos 0 object_name) c.loop-i-test.true
    c.info-item.is same c.loop-i.invariant
    ∙ named_from image infos object_name knows.classes

pub loop-i-preserved : goal.loop-i-preserved
loop-i-preserved c =
    let infos = c.args.members.now.infos.now in
    let other : bytes_eq c.info-item.result.def.name object_name ≡ false = ap (λ n. bytes_eq n object_name) (sym c.bytes.ensures) ∙ (sym c.eq.ensures ∙ c.if-eq.false) in
    named_later infos c.loop-i.i c.info-item.result object_name (find_from infos 0 object_name) c.loop-i-test.true
    c.info-item.is other c.loop-i.invariant

pub returns : goal.returns
returns c = λ image knows.
    let infos = c.args.members.now.infos.now in
    named_nowhere infos c.loop-i.i object_name (find_from infos 0 object_name) c.loop-i-test.false c.loop-i.invariant ∙ named_from image infos object_name knows.classes
