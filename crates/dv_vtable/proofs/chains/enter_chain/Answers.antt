use Rattle.std.proofs.Common.{◌≡◌, ◌+◌, ◌-◌, ◌<◌, [], length, drop, get_or, ap, ◌∙◌, arith}
use Rattle.std.proofs.lemmas.List.{get_or_default}
use Rattle.dv_defs.specs.declared.names.ClassId.{ClassId}
use Rattle.dv_defs.specs.Order.{numbers}
use Rattle.dv_vtable.specs.Chains.{first_method, entered_chain}
use Rattle.dv_vtable.specs.Numbered.{TableValue, all_methods, numbered}
use Rattle.dv_vtable.proofs.EnteredLaws.{class_there, key_count, few_own, numbers_below, chain_next}
use Rattle.dv_vtable.proofs.MethodNumbers.{as_many_firsts, first_at}
use Rattle.dv_vtable.proofs.chains.enter_chain.Goals as goal

pub index-requires : goal.index-requires
index-requires c =
    let none : ClassId = record { 0 = 0 } in
    let within : c.loop-k.k - 1 < length c.args.chain.now = omega (arith, c.loop-k-test.true, c.loop-k.auto.k) in
    omega (
      arith,
      as_many_firsts c.args.infos.now c.args.keys.now.firsts.items c.requires.numbers.firsts,
      c.requires.range (c.loop-k.k - 1) none within,
      c.args.keys.now.firsts.ok.0,
    )

pub enter-requires-clause-few_methods : goal.enter-requires-clause-few_methods
enter-requires-clause-few_methods c =
    let cs = c.args.infos.now in
    let none : ClassId = record { 0 = 0 } in
    let within : c.loop-k.k - 1 < length c.args.chain.now = omega (arith, c.loop-k-test.true, c.loop-k.auto.k) in
    let class = (get_or c.args.chain.now (c.loop-k.k - 1) none).0 in
    let inside : class < length cs = c.requires.range (c.loop-k.k - 1) none within in
    let there = class_there cs class inside in
    let few = few_own cs class c.index.result.now there.0 c.own.result.now there.1 c.own.ensures
    (c.index.ensures ∙ first_at cs c.args.keys.now.firsts.items class c.index.result.now c.requires.numbers.firsts inside) in
    omega (arith, few, c.requires.few_methods)

pub enter-requires-clause-range : goal.enter-requires-clause-range
enter-requires-clause-range c =
    let cs = c.args.infos.now in
    let none : ClassId = record { 0 = 0 } in
    let within : c.loop-k.k - 1 < length c.args.chain.now = omega (arith, c.loop-k-test.true, c.loop-k.auto.k) in
    let class = (get_or c.args.chain.now (c.loop-k.k - 1) none).0 in
    let inside : class < length cs = c.requires.range (c.loop-k.k - 1) none within in
    let there = class_there cs class inside in
    let count : c.loop-k.table.count ≡ length (all_methods cs) =
    c.loop-k.invariant.0 ∙ (ap (λ (t : TableValue). t.count) c.requires.table ∙ key_count (all_methods cs) c.args.keys.now.keys.items c.requires.numbers.keys) in
    numbers_below cs class c.loop-k.table.count there.0 c.own.result.now there.1 c.own.ensures count

pub loop-k-preserved : goal.loop-k-preserved
loop-k-preserved c =
    let cs = c.args.infos.now in
    let chain = c.args.chain.now in
    let k = c.loop-k.k - 1 in
    let none : ClassId = record { 0 = 0 } in
    let within : k < length chain = omega (arith, c.loop-k-test.true, c.loop-k.auto.k) in
    let id = get_or chain k none in
    let inside : id.0 < length cs = c.requires.range k none within in
    let there = class_there cs id.0 inside in
    let first : c.index.result.now ≡ first_method cs id.0 =
    c.index.ensures ∙ first_at cs c.args.keys.now.firsts.items id.0 c.index.result.now c.requires.numbers.firsts inside in
    let next : c.loop-k.k ≡ k + 1 = omega (arith, c.loop-k-test.true) in
    let above : c.loop-k.table.entries ≡ numbered (all_methods cs) (entered_chain cs [] (numbers (drop (k + 1) chain))) =
    c.loop-k.invariant.1 ∙ ap (λ n. numbered (all_methods cs) (entered_chain cs [] (numbers (drop n chain)))) next in (
      ap (λ (t : TableValue). t.count) c.in_ok-enter.ensures ∙ c.loop-k.invariant.0,
      chain_next cs chain k c.index.result.now id there.0 c.own.result.now c.loop-k.table.entries c.enter.new.table.entries within
          (get_or_default chain k none id within) there.1 c.own.ensures first above (ap (λ (t : TableValue). t.entries) c.in_ok-enter.ensures),
    )
