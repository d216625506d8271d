use Rattle.std.proofs.Common.{◌≡◌, refl, sym, ◌∙◌, subst, arith}
use Rattle.std.proofs.lemmas.Option.{same_Some}
use Rattle.dv_image.proofs.Reading.{read_at}
use Rattle.dv_words.specs.State.{WordStack}
use Rattle.dv_words.specs.Answering.{IsStackOf}
use Rattle.dv_threads.proofs.Leaving.{got_within}
use Rattle.dv_threads.proofs.step.next_of.Goals as goal

pub returns-in-Some : goal.returns-in-Some
returns-in-Some c s h insn o has stack same op at =
    let own = c.in-Some.stack.now in
    let read = c.in-Some.ensures.lookup in
    let there = read_at c.args.stacks.now c.args.stacks.now c.args.thread own refl read.0 read.1 in
    let is : s ≡ own = same_Some s own (sym has ∙ there) in
    let P : WordStack → Type 0 = λ z. IsStackOf z h in
    c.address_after.ensures h insn o (subst P is stack) same op at

pub returns-in-None : goal.returns-in-None
returns-in-None c s h insn o has stack same op at =
    let within = got_within c.args.stacks.now c.args.thread s has in
    absurd (omega (arith, within, c.in-None.ensures.lookup.3))
