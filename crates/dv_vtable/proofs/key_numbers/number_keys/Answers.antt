use Rattle.std.proofs.Common.{length, ap, ◌∙◌}
use Rattle.dv_vtable.specs.Numbered.{all_methods, key_numbers_in, numbers_in}
use Rattle.dv_vtable.proofs.FirstLaws.{next_stand, next_count, all_taken}
use Rattle.dv_vtable.proofs.key_numbers.number_keys.Goals as goal

pub loop-info-preserved : goal.loop-info-preserved
loop-info-preserved c =
    let cs = c.args.infos.now in
    let n = length c.loop-info.keys.items in
    let stand = next_stand cs c.loop-info.info-index n c.info-item.result c.items.result.now c.loop-info-test.true c.info-item.is c.items.ensures c.loop-info.invariant.count in
    record {
      count = next_count cs c.loop-info.info-index n (length c.add_keys.new.keys.items) c.info-item.result c.items.result.now
          c.loop-info-test.true c.info-item.is c.items.ensures c.loop-info.invariant.count c.in_ok-add_keys.ensures.count;
      numbered = c.in_ok-add_keys.ensures.numbered (all_methods cs) stand c.loop-info.invariant.numbered;
    }

pub returns-clause-numbers : goal.returns-clause-numbers
returns-clause-numbers c =
    let cs = c.args.infos.now in
    c.loop-info.invariant.numbered.numbers
    ∙ ap (key_numbers_in (all_methods cs)) (all_taken cs c.loop-info.info-index (length c.loop-info.keys.items) c.loop-info-test.false c.loop-info.invariant.count)

pub returns-clause-keys : goal.returns-clause-keys
returns-clause-keys c =
    let cs = c.args.infos.now in
    c.loop-info.invariant.numbered.keys
    ∙ ap (numbers_in (all_methods cs)) (all_taken cs c.loop-info.info-index (length c.loop-info.keys.items) c.loop-info-test.false c.loop-info.invariant.count)
