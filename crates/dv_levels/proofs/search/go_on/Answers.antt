use Rattle.std.proofs.Common.{◌≡◌, ◌≤◌, ◌-◌, List, [], length, false, sym, ap, ◌∙◌, subst, arith}
use Rattle.std.specs.Prelude.{All, nat_lt, slice_index_or}
use Rattle.law_gather.specs.Gathered.{addresses}
use Rattle.law_levels.specs.Levels.{IsBounded}
use Rattle.dv_ops.specs.Meaning.{code_of}
use Rattle.dv_plan.specs.declared.hops.Hop.{Hop}
use Rattle.dv_levels.proofs.Leading.{handlers_bounded}
use Rattle.dv_levels.proofs.search.go_on.Goals as goal

pub returns-else-level-count : goal.returns-else-level-count
returns-else-level-count c = λ first own bounded all.
    let names = c.args.bases.now in
    let code = code_of c.args.code.now in
    let hops = c.args.plan.now.hops.items in
    let level = c.args.level in
    let long = ap length c.units_of-count.ensures.units in
    let behind : addresses code ≤ level.place = omega (arith, c.if-level-count.false, long) in
    let past : nat_lt level.place (addresses code) ≡ false = grind (arith, behind) in
    let same : c.hops_from.result.now ≡ slice_index_or hops (level.place - addresses code) [] = c.hops_from.ensures ∙ ap (λ n. slice_index_or hops (level.place - n) []) long in
    c.to_handlers.ensures names.image code first own
    (subst (λ (hs : List Hop). All (λ (hop : Hop). IsBounded names.image code first own hop.to level.register level.fewer) hs) (sym same)
    (handlers_bounded names code c.args.plan.now c.requires first own level.place level.register level.fewer bounded past)) all
