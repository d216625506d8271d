use Rattle.std.proofs.Common.{◌≡◌, get_or, ◌∙◌, arith}
use Rattle.std.proofs.lemmas.List.{get_or_default}
use Rattle.dv_defs.specs.declared.names.ClassId.{ClassId}
use Rattle.dv_vtable.specs.Chains.{first_method}
use Rattle.dv_vtable.specs.Numbered.{all_methods, numbers_of}
use Rattle.dv_vtable.proofs.EnteredLaws.{class_there, few_own, key_count, numbers_below}
use Rattle.dv_vtable.proofs.MethodNumbers.{as_many_firsts, first_at}
use Rattle.dv_vtable.proofs.OfferingLaws.{offers_more, own_offered}
use Rattle.dv_vtable.proofs.SourceLaws.{has_methods}
use Rattle.dv_vtable.proofs.offering.offer_all.Goals as goal

pub index-requires : goal.index-requires
index-requires c =
    let s = c.args.sources.now in
    omega (
      arith,
      as_many_firsts s.infos.now s.keys.now.firsts.items c.requires.sources.numbered.firsts,
      c.requires.range c.loop-interface.interface-index (record { 0 = 0 }) c.loop-interface-test.true,
      s.keys.now.firsts.ok.0,
    )

pub offer_own-requires-clause-few_methods : goal.offer_own-requires-clause-few_methods
offer_own-requires-clause-few_methods c =
    let s = c.args.sources.now in
    let id : ClassId = get_or c.args.interfaces.now c.loop-interface.interface-index (record { 0 = 0 }) in
    let inside = c.requires.range c.loop-interface.interface-index (record { 0 = 0 }) c.loop-interface-test.true in
    let there = class_there s.infos.now id.0 inside in
    let few = few_own s.infos.now id.0 c.index.result.now there.0 c.own-own.result.now there.1 c.own-own.ensures
    (c.index.ensures ∙ first_at s.infos.now s.keys.now.firsts.items id.0 c.index.result.now c.requires.sources.numbered.firsts inside) in
    omega (arith, few, c.requires.sources.few_methods)

pub offer_own-requires-clause-chain : goal.offer_own-requires-clause-chain
offer_own-requires-clause-chain c =
    let s = c.args.sources.now in
    let id : ClassId = get_or c.args.interfaces.now c.loop-interface.interface-index (record { 0 = 0 }) in
    let inside = c.requires.range c.loop-interface.interface-index (record { 0 = 0 }) c.loop-interface-test.true in
    let there = class_there s.infos.now id.0 inside in
    numbers_below s.infos.now id.0 c.args.chain.now.count there.0 c.own-own.result.now there.1 c.own-own.ensures
    (c.requires.chain ∙ key_count (all_methods s.infos.now) s.keys.now.keys.items c.requires.sources.numbered.keys)

pub offer_own-requires-clause-offers : goal.offer_own-requires-clause-offers
offer_own-requires-clause-offers c =
    let s = c.args.sources.now in
    let id : ClassId = get_or c.args.interfaces.now c.loop-interface.interface-index (record { 0 = 0 }) in
    let inside = c.requires.range c.loop-interface.interface-index (record { 0 = 0 }) c.loop-interface-test.true in
    let there = class_there s.infos.now id.0 inside in
    numbers_below s.infos.now id.0 c.loop-interface.offers.count there.0 c.own-own.result.now there.1 c.own-own.ensures
    (c.loop-interface.invariant.count ∙ (c.requires.offers ∙ key_count (all_methods s.infos.now) s.keys.now.keys.items c.requires.sources.numbered.keys))

pub loop-interface-preserved : goal.loop-interface-preserved
loop-interface-preserved c =
    let s = c.args.sources.now in
    let is = c.args.interfaces.now in
    let i = c.loop-interface.interface-index in
    let id : ClassId = get_or is i (record { 0 = 0 }) in
    let inside = c.requires.range i (record { 0 = 0 }) c.loop-interface-test.true in
    let first : c.index.result.now ≡ first_method s.infos.now id.0 =
    c.index.ensures ∙ first_at s.infos.now s.keys.now.firsts.items id.0 c.index.result.now c.requires.sources.numbered.firsts inside in
    record {
      count = c.in_ok-offer_own.ensures.count ∙ c.loop-interface.invariant.count;
      offers = λ image of.
          let put = c.in_ok-offer_own.ensures.offers
          ∙ own_offered image s.infos.now of.classes (has_methods s c.requires.sources image of) (numbers_of c.args.chain.now.entries) c.loop-interface.offers.entries id.0
          c.index.result.now c.own-own.result.now first c.own-own.ensures in
          offers_more image (numbers_of c.args.chain.now.entries) c.args.offers.now.entries c.loop-interface.offers.entries c.offer_own.new.offers.entries is i id
          c.loop-interface-test.true (get_or_default is i (record { 0 = 0 }) id c.loop-interface-test.true) (c.loop-interface.invariant.offers image of) put;
    }
