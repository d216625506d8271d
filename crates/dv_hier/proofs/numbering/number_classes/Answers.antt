use Rattle.std.proofs.Common.{List, length, sym, ◌∙◌, subst}
use Rattle.std.specs.Prelude.{All}
use Rattle.std.proofs.lemmas.List.Elements.{All-push}
use Rattle.std.proofs.lemmas.Iterator.Adapters.{YieldsList-from_vec}
use Rattle.std.proofs.lemmas.Iterator.Consumers.{YieldsList-end}
use Rattle.dv_defs.specs.declared.image.ClassInfo.{ClassInfo}
use Rattle.dv_defs.specs.Numbering.{class_numbered, declared, numbered}
use Rattle.law_linking.specs.Stripped.{IsInRange}
use Rattle.dv_hier.proofs.NumberingLaws.{each_more, each_made, range_made}
use Rattle.dv_hier.proofs.numbering.number_classes.Goals as goal

pub loop-class-preserved : goal.loop-class-preserved
loop-class-preserved c =
    let cs = c.args.classes.items in
    let infos = c.loop-class.infos.items in
    let info = c.in_ok-number_class.field-0 in
    let is_in_range = IsInRange (length c.args.names.now) in
    record {
      numbered = λ boot.
          each_more (class_numbered (declared cs boot)) c.loop-class.yielded c.in-Some.class info infos c.push.new.self.items
          (c.loop-class.invariant.numbered boot) (c.in_ok-number_class.ensures.numbered cs boot c.requires.names) c.in_ok-push.ensures.items;
      range = subst (λ (xs : List ClassInfo). All is_in_range xs) (sym {A = List ClassInfo} c.in_ok-push.ensures.items)
          (All-push is_in_range infos info c.loop-class.invariant.range c.in_ok-number_class.ensures.range);
    }

pub returns-clause-numbered : goal.returns-clause-numbered
unfolding numbered
returns-clause-numbered c =
    let cs = c.args.classes.items in
    let given = c.into_iter-class-iterator.ensures.into_iter_gives in
    let source = YieldsList-from_vec {s = c.into_iter-class-iterator.result} cs given.0 (given.1 ∙ c.args.classes.ok.0) in
    let all = YieldsList-end source c.loop-class.yielded c.loop-class.class-iterator c.loop-class.yielded_by c.next.result c.next.new.self c.in-None.is c.next.ensures.steps in
    λ boot. each_made (class_numbered (declared cs boot)) c.loop-class.yielded cs c.loop-class.infos.items (c.loop-class.invariant.numbered boot) all.0

pub returns-clause-range : goal.returns-clause-range
returns-clause-range c =
    let cs = c.args.classes.items in
    let given = c.into_iter-class-iterator.ensures.into_iter_gives in
    let source = YieldsList-from_vec {s = c.into_iter-class-iterator.result} cs given.0 (given.1 ∙ c.args.classes.ok.0) in
    let all = YieldsList-end source c.loop-class.yielded c.loop-class.class-iterator c.loop-class.yielded_by c.next.result c.next.new.self c.in-None.is c.next.ensures.steps in
    let numbers = class_numbered (declared cs 0) in
    range_made c.args.names.now cs numbers c.loop-class.infos.items c.requires.names
    (each_made numbers c.loop-class.yielded cs c.loop-class.infos.items (c.loop-class.invariant.numbered 0) all.0) c.loop-class.invariant.range
