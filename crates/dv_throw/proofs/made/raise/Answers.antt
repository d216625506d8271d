use Rattle.std.proofs.Common.{Option, sym, subst, ◌∙◌}
use Rattle.dv_words.specs.Heaps.{Got}
use Rattle.dv_throw.specs.Unwound.{IsObject}
use Rattle.dv_throw.proofs.Raising.{raised_error, raised_wrapped}
use Rattle.dv_throw.proofs.made.raise.Goals as goal

pub returns-then-is_of_class : goal.returns-then-is_of_class
returns-then-is_of_class c =
    raised_error c.args.image.now c.args.heap.now c.args.flying (sym c.is_of_class.ensures ∙ c.if-is_of_class.true)

pub returns : goal.returns
returns c =
    let P : Option Got → Type 0 = λ g. IsObject c.wrap.result g c.args.heap.now c.wrap.new.heap in
    subst P (sym (raised_wrapped c.args.image.now c.args.heap.now c.args.flying (sym c.is_of_class.ensures ∙ c.if-is_of_class.false))) c.wrap.ensures
