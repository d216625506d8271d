use Rattle.std.proofs.lemmas.Grind.{common_steps}
use Rattle.std.proofs.Common.{◌<◌, List, length, get_or, ap, ◌∙◌, arith}
use Rattle.std.proofs.lemmas.List.{get_or-map}
use Rattle.dv_asm.specs.declared.tries.TryRange.{TryRange}
use Rattle.dv_asm.specs.Refusals.{range_of, no_catch}
use Rattle.dv_asm.proofs.catches.Catches.range_at.Goals as goal

pub returns : goal.returns
returns c =
    let catches = c.args.self.now.catches.now in
    let k = c.args.k in
    let within : k < length catches = omega arith in
    let range = c.index.result.now in
    c.index.ensures ∙ (ap (λ (rs : List TryRange). get_or rs k range) c.args.self.now.are_ranges ∙ get_or-map (range_of c.args.self.now.short.now) catches k no_catch range within)

pub index-requires : goal.index-requires
index-requires c = grind (arith, common_steps)
