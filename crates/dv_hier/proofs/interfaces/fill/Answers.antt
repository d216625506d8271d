use Rattle.std.proofs.Common.{List, Option, Vec, Global, ap, arith}
use Rattle.dv_defs.specs.declared.names.ClassId.{ClassId}
use Rattle.dv_hier.proofs.RoundLaws.{round_start, turn_put, turn_open, turn_listed}
use Rattle.dv_hier.proofs.interfaces.fill.Goals.{then-is_none+then-are_listed+in_ok-list_above+in-Some-1, then-is_none+then-are_listed+in_ok-list_above+in-None-1, then-is_none+else-are_listed, else-is_none}
use Rattle.dv_hier.proofs.interfaces.fill.Goals as goal

abbrev Kept : Type 0
Kept = Vec (Option (List ClassId)) Global

pub loop-class-init : goal.loop-class-init
loop-class-init c = round_start c.args.infos.now c.args.lists.now.items c.requires

pub loop-class-preserved : goal.loop-class-preserved
loop-class-preserved c =
    elim c.if-is_none.branch [
      | then-is_none+then-are_listed+in_ok-list_above+in-Some-1 w ↦
          turn_put c.args.infos.now c.args.lists.now.items c.loop-class.lists.items w.deref.result.now w.deref-then-are_listed.result.now c.if-is_none.lists.items
          c.loop-class.is_whole c.if-is_none.is_whole w.are_listed.result c.loop-class.class w.index-infos-class.result w.in_ok-list_above.field-0 w.items-interfaces.result.now
          c.loop-class.invariant c.loop-class-test.true w.items-interfaces.ensures w.deref.ensures.value w.are_listed.ensures w.if-are_listed.true
          w.deref-then-are_listed.ensures.value w.in_ok-list_above.ensures (ap (λ (v : Kept). v.items) w.lists-is) w.is_whole-is
      | then-is_none+then-are_listed+in_ok-list_above+in-None-1 w ↦
          turn_put c.args.infos.now c.args.lists.now.items c.loop-class.lists.items w.deref.result.now w.deref-then-are_listed.result.now c.if-is_none.lists.items
          c.loop-class.is_whole c.if-is_none.is_whole w.are_listed.result c.loop-class.class w.index-infos-class.result w.in_ok-list_above.field-0 w.items-interfaces.result.now
          c.loop-class.invariant c.loop-class-test.true w.items-interfaces.ensures w.deref.ensures.value w.are_listed.ensures w.if-are_listed.true
          w.deref-then-are_listed.ensures.value w.in_ok-list_above.ensures (ap (λ (v : Kept). v.items) w.lists-is) w.is_whole-is
      | then-is_none+else-are_listed w ↦
          turn_open c.args.infos.now c.args.lists.now.items c.loop-class.lists.items w.deref.result.now c.if-is_none.lists.items
          c.loop-class.is_whole c.if-is_none.is_whole w.are_listed.result c.loop-class.class w.index-infos-class.result w.items-interfaces.result.now
          c.loop-class.invariant c.loop-class-test.true w.items-interfaces.ensures w.deref.ensures.value w.are_listed.ensures w.if-are_listed.false
          (ap (λ (v : Kept). v.items) w.lists-is) w.is_whole-is
      | else-is_none w ↦
          turn_listed c.args.infos.now c.args.lists.now.items c.loop-class.lists.items c.if-is_none.lists.items
          c.loop-class.is_whole c.if-is_none.is_whole c.is_none.result c.loop-class.class c.index.result.now
          c.loop-class.invariant c.loop-class-test.true c.index.ensures c.is_none.ensures w.if-is_none.false
          (ap (λ (v : Kept). v.items) w.lists-is) w.is_whole-is
    ]

pub returns-clause-right : goal.returns-clause-right
returns-clause-right c = c.loop-class.invariant.right

pub returns-clause-kept : goal.returns-clause-kept
returns-clause-kept c = c.loop-class.invariant.kept

pub returns-clause-ready : goal.returns-clause-ready
returns-clause-ready c = λ k within. c.loop-class.invariant.ready k (omega (arith, within, c.loop-class-test.false))

pub returns-clause-whole : goal.returns-clause-whole
returns-clause-whole c = λ all k within. c.loop-class.invariant.all all k (omega (arith, within, c.loop-class-test.false))
