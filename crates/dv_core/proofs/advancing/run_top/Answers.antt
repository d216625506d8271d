use Rattle.std.proofs.Common.{◌≡◌, ◌∙◌, ◌<◌, length, refl, sym, subst, arith}
use Rattle.std.proofs.lemmas.Option.{same_Some}
use Rattle.dv_words.specs.State.{WordStack}
use Rattle.dv_local.specs.Tops.{RanTop}
use Rattle.dv_core.proofs.Advanced.{ran_bounds, ran_few, set_bounds}
use Rattle.dv_core.proofs.Seen.{got_there, got_within}
use Rattle.dv_core.proofs.advancing.run_top.Goals as goal

pub returns-then-place-len-clause-ran : goal.returns-then-place-len-clause-ran
returns-then-place-len-clause-ran c s has =
    let stacks = c.args.stacks.now in
    let within = got_within stacks.items c.args.thread s has in
    absurd (omega (arith, within, c.if-place-len.true, c.len.ensures, stacks.ok.0))

pub returns-clause-few : goal.returns-clause-few
returns-clause-few c = ran_few c.args.image.now c.args.most c.steps_top.result c.index_mut.result.now c.steps_top.new.stack c.steps_top.ensures

pub returns-clause-ran : goal.returns-clause-ran
returns-clause-ran c s has =
    let stacks = c.args.stacks.now in
    let t = c.args.thread in
    let stack = c.index_mut.result.now in
    let within : t < length stacks.items = omega (arith, c.if-place-len.false, c.len.ensures, stacks.ok.0) in
    let same : stack ≡ s = same_Some stack s (sym (got_there stacks.items t stack stack within c.index_mut.ensures.value) ∙ has) in
    record {
      stack = c.steps_top.new.stack;
      ran = subst (λ (x : WordStack). RanTop c.args.image.now c.args.most c.steps_top.result x c.steps_top.new.stack) same c.steps_top.ensures;
      set = refl;
    }

pub returns-clause-bounds : goal.returns-clause-bounds
returns-clause-bounds c =
    let stacks = c.args.stacks.now in
    let t = c.args.thread in
    let stack = c.index_mut.result.now in
    let within : t < length stacks.items = omega (arith, c.if-place-len.false, c.len.ensures, stacks.ok.0) in
    set_bounds stacks.items t stack c.steps_top.new.stack (got_there stacks.items t stack stack within c.index_mut.ensures.value)
    (ran_bounds c.args.image.now c.args.most c.steps_top.result stack c.steps_top.new.stack c.steps_top.ensures)
