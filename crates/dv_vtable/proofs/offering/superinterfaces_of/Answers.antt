use Rattle.std.proofs.Common.{◌≡◌, ◌<◌, length, get_or, subst, ◌∙◌}
use Rattle.std.specs.Prelude.{All}
use Rattle.std.proofs.lemmas.List.{get_or_default}
use Rattle.dv_defs.specs.declared.names.ClassId.{ClassId}
use Rattle.dv_defs.specs.Order.{numbers}
use Rattle.dv_vtable.proofs.OfferingLaws.{above_all, above_more}
use Rattle.dv_vtable.proofs.SourceLaws.{listed_inside}
use Rattle.dv_vtable.proofs.offering.superinterfaces_of.Goals as goal

pub add_unmarked-requires-clause-range : goal.add_unmarked-requires-clause-range
add_unmarked-requires-clause-range c =
    rw (c.interfaces_of.ensures, c.loop-class.auto.marks, c.requires.count) (listed_inside c.args.sources.now c.requires.sources _)

pub loop-class-preserved : goal.loop-class-preserved
loop-class-preserved c =
    let none : ClassId = record { 0 = 0 } in
    let cs = c.args.chain.now in
    let i = c.loop-class.class-index in
    let id : ClassId = get_or cs i none in
    let count : length c.loop-class.marks ≡ length c.args.sources.now.infos.now = c.loop-class.auto.marks ∙ c.requires.count in
    record {
      range = subst (λ n. All (λ d. d.0 < n) c.add_unmarked.new.found.items) count c.in_ok-add_unmarked.ensures.range;
      marked = c.in_ok-add_unmarked.ensures.marked;
      found = above_more c.args.sources.now.interfaces.now cs i id (numbers c.loop-class.found.items) (numbers c.add_unmarked.new.found.items) c.interfaces_of.result.now
          c.loop-class-test.true (get_or_default cs i none id c.loop-class-test.true) c.interfaces_of.ensures c.loop-class.invariant.found c.in_ok-add_unmarked.ensures.found;
    }

pub returns-clause-found : goal.returns-clause-found
returns-clause-found c = λ image of.
    above_all image c.args.sources.now.interfaces.now c.args.chain.now c.loop-class.class-index (numbers c.loop-class.found.items)
    (c.requires.sources.interfaces image of.classes) c.loop-class-test.false c.loop-class.invariant.found
