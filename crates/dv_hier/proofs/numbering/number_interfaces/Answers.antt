use Rattle.std.proofs.Common.{◌<◌, List, length, sym, ap, ◌∙◌, subst}
use Rattle.std.specs.Prelude.{All}
use Rattle.std.proofs.lemmas.List.Elements.{All-push}
use Rattle.dv_defs.specs.declared.names.ClassId.{ClassId}
use Rattle.dv_defs.specs.Numbering.{class_id, declared}
use Rattle.dv_defs.specs.Pools.{class_named}
use Rattle.dv_hier.proofs.NumberingLaws.{given_more, none_more}
use Rattle.dv_hier.proofs.numbering.number_interfaces.Goals as goal
use Rattle.dv_hier.proofs.numbering.number_interfaces.Goals.{in-Some+in_ok-push, in_default}

pub loop-name-preserved : goal.loop-name-preserved
loop-name-preserved c =
    let interfaces = c.args.interfaces.now in
    let i = c.loop-name.name-index in
    let name = c.name-item.result in
    let ids = c.loop-name.ids.items in
    let is_number = λ (id : ClassId). id.0 < length c.args.names.now in
    elim c.match-number_of.branch [
      | in-Some+in_ok-push w ↦
          let id = w.in-Some.id in
          let added = ap (λ v. v.items) w.ids-is ∙ w.in_ok-push.ensures.items in
          record {
            numbered = λ cs boot known.
                given_more (class_named (declared cs boot)) class_id interfaces i name id ids c.match-number_of.ids.items c.loop-name-test.true c.name-item.is
                (c.loop-name.invariant.numbered cs boot known) (w.in-Some.ensures.numbered cs boot known) added;
            range = subst (λ (xs : List ClassId). All is_number xs) (sym added) (All-push is_number ids id c.loop-name.invariant.range w.in-Some.ensures.range);
          }
      | in_default w ↦
          let same = ap (λ v. v.items) w.ids-is in
          record {
            numbered = λ cs boot known.
                none_more (class_named (declared cs boot)) class_id interfaces i name ids c.match-number_of.ids.items c.loop-name-test.true c.name-item.is
                (c.loop-name.invariant.numbered cs boot known) (sym w.in_default.is ∙ c.number_of.ensures.numbered cs boot known) same;
            range = subst (λ (xs : List ClassId). All is_number xs) (sym same) c.loop-name.invariant.range;
          }
    ]
