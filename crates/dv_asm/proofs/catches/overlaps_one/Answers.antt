use Rattle.std.proofs.Common.{ℕ, Bool, ap, sym, ◌∙◌}
use Rattle.std.specs.BTreeMap.Range.{range_contains}
use Rattle.std.specs.declared.ops.Bound.TheVariants.{Unbounded, Excluded}
use Rattle.std.specs.Ordering.{nat_cmp}
use Rattle.dv_asm.specs.Refusals.{overlaps}
use Rattle.dv_asm.proofs.RangeLemmas.{before_end, none_before, last_tells}
use Rattle.dv_asm.proofs.catches.overlaps_one.Goals as goal

pub returns-in-Some : goal.returns-in-Some
returns-in-Some c =
    let r = c.args.range in
    let test : ℕ × ℕ → Bool = λ e. range_contains nat_cmp Unbounded (Excluded r.end) e.0 in
    (c.overlaps.ensures ∙ ap (overlaps r) c.between.ensures) ∙
    sym (last_tells r test (λ e. before_end r.end e.0) c.args.sorted.now.entries c.next_back.new.self (c.in-Some.start.now, c.in-Some.end.now) c.requires (sym (c.range.ensures.between tt) ∙ c.in-Some.ensures.steps))

pub returns-in-None : goal.returns-in-None
returns-in-None c =
    let r = c.args.range in
    let test : ℕ × ℕ → Bool = λ e. range_contains nat_cmp Unbounded (Excluded r.end) e.0 in
    sym (none_before r test (λ e. before_end r.end e.0) c.args.sorted.now.entries (sym (c.range.ensures.between tt) ∙ c.in-None.ensures.steps.0))
