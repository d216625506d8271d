use Rattle.std.proofs.Common.{◌≡◌, ◌∙◌, ap, ◌+◌, ℕ, Option, add-one, arith}
use Rattle.dv_asm.specs.First.{first_line, earlier}
use Rattle.dv_asm.proofs.lines.first_line.Goals as goal

one_more : (f : ℕ → Option ℕ) (k : ℕ) (a b r : Option ℕ) → r ≡ earlier a b → a ≡ first_line f k → b ≡ f k → r ≡ first_line f (k + 1)
one_more f k a b r e h i =
    rw add-one (e ∙ ap (λ (x : Option ℕ). earlier x b) h ∙ ap (λ (x : Option ℕ). earlier (first_line f k) x) i)

pub loop-k-preserved : goal.loop-k-preserved
loop-k-preserved g c = λ f h.
    one_more f c.loop-k.k _ _ _ c.earlier-line.ensures (c.loop-k.invariant f h) (h c.loop-k.k _ c.loop-k-test.true c.line_at.ensures)

pub returns : goal.returns
returns g c = λ f h.
    let whole : c.loop-k.k ≡ c.args.bound = omega arith in
    c.loop-k.invariant f h ∙ ap (first_line f) whole
