use Rattle.std.proofs.Common.{◌∙◌, arith, ◌≡◌, length, vec_len, false}
use Rattle.std.proofs.lemmas.List.{get_or_read_under}
use Rattle.dv_hier.proofs.UpwardsLaws.{begun, next_in, next_range, goes_on, search_ends}
use Rattle.dv_hier.proofs.cycles.comes_back.Goals as goal

pub loop-id-init : goal.loop-id-init
loop-id-init c =
    begun c.args.infos.now c.args.class c.index-infos-class.result c.args.search.now.met.items c.args.search.now.waiting.items c.meet_above.new.self.met.items c.meet_above.new.self.waiting.items c.requires.class_in c.index-infos-class.is c.requires.met c.requires.waiting c.in_ok-meet_above.ensures

pub bounds-infos-id : goal.bounds-infos-id
bounds-infos-id c =
    next_in c.args.infos.now c.args.class c.in-Some.id c.loop-id.search.met.items c.loop-id.search.waiting.items c.pop.new.self.items c.in-Some.ensures.items c.loop-id.invariant

pub meet_above-requires-in-Some : goal.meet_above-requires-in-Some
meet_above-requires-in-Some c =
    next_range c.args.infos.now c.in-Some.id.0 (vec_len c.loop-id.search.met) c.index-infos-id.result c.requires.range
    (next_in c.args.infos.now c.args.class c.in-Some.id c.loop-id.search.met.items c.loop-id.search.waiting.items c.pop.new.self.items c.in-Some.ensures.items c.loop-id.invariant)
    c.index-infos-id.is (let many = c.loop-id.invariant.many in omega arith)

pub loop-id-preserved : goal.loop-id-preserved
loop-id-preserved c =
    goes_on c.args.infos.now c.args.class c.requires.range c.in-Some.id c.index-infos-id.result c.loop-id.search.met.items c.loop-id.search.waiting.items c.pop.new.self.items c.meet_above-in-Some.new.self.met.items c.meet_above-in-Some.new.self.waiting.items c.index-infos-id.is c.in-Some.ensures.items c.loop-id.invariant c.in_ok-meet_above-2.ensures

pub returns : goal.returns
returns c =
    let none : length c.loop-id.search.waiting.items ≡ 0 = let ended = c.in_default.ensures.cases.0 in omega arith in
    get_or_read_under c.loop-id.search.met.items c.args.class c.loop-id.search.met.len c.index.result.now false c.index.ensures (let many = c.loop-id.invariant.many in omega arith) (omega arith)
    ∙ search_ends c.args.infos.now c.args.class c.loop-id.search.met.items c.loop-id.search.waiting.items c.loop-id.invariant none
