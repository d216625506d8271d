use Rattle.std.proofs.Common.{◌≡◌, ◌+◌, ◌<◌, ℕ, Bool, false, List, [], length, take, get_or, None, ap, sym, ◌∙◌, arith}
use Rattle.std.specs.Prelude.{fold}
use Rattle.std.specs.List.{list_any}
use Rattle.std.proofs.lemmas.List.{get_or-map, length-map}
use Rattle.std.proofs.lemmas.List.Sums.{fold_more}
use Rattle.dv_draft.specs.declared.draft.Item.{Item}
use Rattle.dv_draft.specs.declared.draft.Catch.{Catch}
use Rattle.dv_asm.specs.declared.tries.TryRange.{TryRange}
use Rattle.dv_asm.specs.First.{first_line, earlier, when}
use Rattle.dv_asm.specs.Refusals.{no_catch, catch_at, range_of, ranges_of, is_empty, overlaps, overlaps_earlier, try_range_at, try_overlap_at}
use Rattle.dv_asm.specs.Layout.{with_range}
use Rattle.dv_asm.specs.Ranges.{ranges_in}
use Rattle.dv_asm.proofs.FirstLemmas.{first_line_more, first_line_none, not_when}
use Rattle.dv_asm.proofs.RangeLemmas.{any_sorted}
use Rattle.dv_asm.proofs.catches.Catches.sorted.Goals as goal

-- what is told of the ranges by their starts is told of those of the earlier handlers
told_earlier : (items : List Item) (catches : List Catch) (k : ℕ) (r : TryRange) (es : List (ℕ × ℕ)) (found : Bool) → ranges_in es ≡ fold with_range [] (take k (ranges_of items catches)) → r ≡ range_of items (catch_at catches k) → found ≡ list_any (overlaps r) (ranges_in es) → overlaps_earlier items catches k ≡ found
told_earlier items catches k r es found sorted is tells =
    let earlier : List TryRange = take k (ranges_of items catches) in
    sym (tells ∙ (ap (list_any (overlaps r)) sorted ∙ (any_sorted (overlaps r) earlier ∙ ap (λ (x : TryRange). list_any (overlaps x) earlier) is)))

-- one more range in its place
sorted_more : (items : List Item) (catches : List Catch) (k : ℕ) (r : TryRange) (old new : List TryRange) → k < length catches → old ≡ fold with_range [] (take k (ranges_of items catches)) → r ≡ range_of items (catch_at catches k) → new ≡ with_range old r → new ≡ fold with_range [] (take (k + 1) (ranges_of items catches))
sorted_more items catches k r old new within before is put =
    let none : TryRange = record { start = 0; end = 0 } in
    let ranges : List TryRange = ranges_of items catches in
    let there : k < length ranges = omega (arith, length-map catches (range_of items)) in
    let read : get_or ranges k none ≡ range_of items (catch_at catches k) = get_or-map (range_of items) catches k no_catch none within in
    put ∙ ((λ i. with_range (before i) ((is ∙ sym read) i)) ∙ sym (fold_more with_range [] ranges k none there))

none_more : (items : List Item) (catches : List Catch) (k : ℕ) → first_line (try_overlap_at items catches) k ≡ None → overlaps_earlier items catches k ≡ false → first_line (try_overlap_at items catches) (k + 1) ≡ None
none_more items catches k before here =
    first_line_more (try_overlap_at items catches) k ∙ (λ i. earlier (before i) (when (here i) (catch_at catches k).line))

pub put-requires-clause-some : goal.put-requires-clause-some
put-requires-clause-some c =
    let items = c.args.self.now.short.now in
    let catches = c.args.self.now.catches.now in
    let k = c.loop-k.k in
    ap is_empty c.range_at-range.ensures ∙
    not_when (is_empty (range_of items (catch_at catches k))) (catch_at catches k).line (first_line_none (try_range_at items catches) (length catches) k c.requires c.loop-k-test.true)

pub put-requires-clause-none : goal.put-requires-clause-none
put-requires-clause-none c = sym c.overlaps_one.ensures ∙ c.if-overlaps_one.false

pub overlap_from-requires-clause-here : goal.overlap_from-requires-clause-here
overlap_from-requires-clause-here c =
    told_earlier c.args.self.now.short.now c.args.self.now.catches.now c.loop-k.k c.range_at-range.result c.loop-k.sorted.entries c.overlaps_one.result c.loop-k.invariant.ranges c.range_at-range.ensures c.overlaps_one.ensures ∙ c.if-overlaps_one.true

pub loop-k-preserved : goal.loop-k-preserved
loop-k-preserved c =
    let items = c.args.self.now.short.now in
    let catches = c.args.self.now.catches.now in
    let k = c.loop-k.k in
    record {
      apart = c.in_ok-put.ensures.apart;
      ranges = sorted_more items catches k c.range_at-range.result _ _ c.loop-k-test.true c.loop-k.invariant.ranges c.range_at-range.ensures c.in_ok-put.ensures.value;
      none = none_more items catches k c.loop-k.invariant.none
          (told_earlier items catches k c.range_at-range.result c.loop-k.sorted.entries c.overlaps_one.result c.loop-k.invariant.ranges c.range_at-range.ensures c.overlaps_one.ensures ∙ c.if-overlaps_one.false);
    }
