use Rattle.std.proofs.Common.{◌≡◌, Some, arith}
use Rattle.std.proofs.lemmas.List.Elements.{All-pop}
use Rattle.dv_ops.specs.Meaning.{code_of}
use Rattle.dv_levels.specs.Takes.{IsLevel}
use Rattle.dv_levels.proofs.Leading.{back}
use Rattle.dv_levels.proofs.search.holds_no_class.Goals as goal

pub returns-then-level : goal.returns-then-level
returns-then-level c = λ _.
    let image = c.args.bases.now.image in
    let code = code_of c.args.code.now in
    let level = c.in-Some.level in
    let popped = All-pop (IsLevel image code c.args.place c.args.register) c.loop-left.open.items c.pop.new.self.items (Some level) c.in-Some.ensures.items c.loop-left.invariant in
    let place : level.place ≡ c.args.place = omega (arith, c.if-level-place.true) in
    let register : level.register ≡ c.args.register = omega (arith, c.if-level-register.true) in
    back image code c.args.place c.args.register level place register c.if-level.true popped.1

pub loop-left-preserved : goal.loop-left-preserved
loop-left-preserved c =
    let image = c.args.bases.now.image in
    let code = code_of c.args.code.now in
    let level = c.in-Some.level in
    let popped = All-pop (IsLevel image code c.args.place c.args.register) c.loop-left.open.items c.pop.new.self.items (Some level) c.in-Some.ensures.items c.loop-left.invariant in
    c.in_ok-go_on.ensures c.args.place c.args.register popped.1 popped.0
