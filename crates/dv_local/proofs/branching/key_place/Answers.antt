use Rattle.std.proofs.Common.{◌≡◌, ◌+◌, ◌*◌, ◌<ℤ◌, ◌≤ℤ◌, ◌∙◌, ap, sym, arith, rules, w32, SFits, of_z, to_z}
use Rattle.std.proofs.lemmas.Int.{ints, to_z-of_z}
use Rattle.dv_local.specs.Switching.{int_at}
use Rattle.dv_local.proofs.Searching.{above_on, below_on}
use Rattle.dv_local.proofs.branching.key_place.Goals as goal

pub loop-low-preserved-then-number-key-2 : goal.loop-low-preserved-then-number-key-2
loop-low-preserved-then-number-key-2 c =
    let number : to_z w32 (of_z w32 c.int_at-number.result) ≡ c.int_at-number.result = (let f : SFits w32 c.int_at-number.result = search rules in to_z-of_z w32 c.int_at-number.result f) in
    let less : to_z w32 (of_z w32 c.int_at-number.result) <ℤ to_z w32 (of_z w32 c.args.key) = omega (arith, ints, c.if-number-key-2.true) in
    record {
      ordered = omega arith;
      within = omega arith;
      below = below_on c.args.units.now c.args.place c.args.count _ (to_z w32 (of_z w32 c.int_at-number.result)) (to_z w32 (of_z w32 c.args.key)) (number ∙ c.int_at-number.ensures ∙ ap (λ m. int_at c.args.units.now (c.args.place + 2 * m)) c.from.ensures) less (omega arith);
      above = c.loop-low.invariant.above;
    }

pub loop-low-preserved : goal.loop-low-preserved
loop-low-preserved c =
    let number : to_z w32 (of_z w32 c.int_at-number.result) ≡ c.int_at-number.result = (let f : SFits w32 c.int_at-number.result = search rules in to_z-of_z w32 c.int_at-number.result f) in
    let key : to_z w32 (of_z w32 c.args.key) ≡ c.args.key = (let f : SFits w32 c.args.key = search rules in to_z-of_z w32 c.args.key f) in
    let least : to_z w32 (of_z w32 c.args.key) ≤ℤ to_z w32 (of_z w32 c.int_at-number.result) = omega (arith, ints, c.if-number-key-2.false) in
    record {
      ordered = omega arith;
      within = omega arith;
      below = c.loop-low.invariant.below;
      above = above_on c.args.units.now c.args.place c.args.count _ (to_z w32 (of_z w32 c.int_at-number.result)) (to_z w32 (of_z w32 c.args.key)) (number ∙ c.int_at-number.ensures ∙ ap (λ m. int_at c.args.units.now (c.args.place + 2 * m)) c.from.ensures) least
          (λ e. c.if-number-key.false (ap (of_z w32) (sym number ∙ e ∙ key)));
    }
