use Rattle.std.proofs.Common.{◌≡◌, [], None, take}
use Rattle.std.specs.Prelude.{fold}
use Rattle.dv_asm.specs.First.{first_line}
use Rattle.dv_asm.specs.Refusals.{ranges_of, try_overlap_at}
use Rattle.dv_asm.specs.Layout.{with_range}
use Rattle.dv_asm.specs.Ranges.{AreApart, ranges_in}
use Rattle.dv_asm.proofs.catches.Catches.sorted.Given as goal

abbrev pub invariant-loop-k : goal.invariant-loop-k
invariant-loop-k l = record {
  apart : AreApart l.sorted.entries;
  ranges : ranges_in l.sorted.entries ≡ fold with_range [] (take l.k (ranges_of l.self.short.now l.self.catches.now));
  none : first_line (try_overlap_at l.self.short.now l.self.catches.now) l.k ≡ None;
}
