use Rattle.std.proofs.Common.{◌≡◌, ℕ, ◌+◌, ◌<◌, List, ◌++◌, length, take, get_or, ℤ, SFits, w64, of_z, to_z, sym, ap, ◌∙◌, rules}
use Rattle.std.specs.Prelude.{pos}
use Rattle.std.specs.Int.{to_le_bytes}
use Rattle.std.specs.List.{flat_map}
use Rattle.std.proofs.lemmas.Int.{to_z-of_z}
use Rattle.std.proofs.lemmas.List.{flat_map_more, take_more}
use Rattle.dv_coderead.specs.Bodies.{element_bytes}
use Rattle.dv_coderead.proofs.drafting.add_bytes.Goals as goal

-- the bytes of an element, as code makes them
bytes_made : (width n bits : ℕ) (z : ℤ) (all : List ℕ) → n ≡ width → bits ≡ of_z w64 (to_z w64 (of_z w64 z)) → SFits w64 z → all ≡ to_le_bytes w64 bits → take n all ≡ element_bytes width z
bytes_made width n bits z all same is fits made =
    ap (λ k. take k all) same ∙ ap (take width) (made ∙ ap (to_le_bytes w64) (is ∙ ap (of_z w64) (to_z-of_z w64 z fits)))

-- the bytes of one element more
element_more : (f : ℤ → List ℕ) (zs : List ℤ) (i : ℕ) (start before now : List ℕ) → i < length zs → before ≡ start ++ flat_map f (take i zs) → now ≡ before ++ f (get_or zs i (pos 0)) → now ≡ start ++ flat_map f (take (i + 1) zs)
element_more f zs i start before now lt so_far more =
    more ∙ (ap (λ bs. bs ++ f (get_or zs i (pos 0))) so_far ∙ (flat_map_more f start (take i zs) (get_or zs i (pos 0)) ∙ ap (λ ys. start ++ flat_map f ys) (sym (take_more zs i (pos 0) lt))))

pub loop-element-preserved : goal.loop-element-preserved
loop-element-preserved c =
    let i = c.loop-element.element-index in
    let zs = c.args.elements.now in
    let bytes = c.loop-element.bytes.items in
    let fits : SFits w64 (get_or zs i (pos 0)) = search rules in
    let made = bytes_made c.args.width c.from.result c.cast_unsigned.result (get_or zs i (pos 0)) c.to_le_bytes-all.result c.from.ensures c.cast_unsigned.ensures fits c.to_le_bytes-all.ensures in
    element_more (element_bytes c.args.width) zs i c.args.bytes.now.items bytes c.extend_from_slice.new.self.items c.loop-element-test.true c.loop-element.invariant
    (c.in_ok-extend_from_slice.ensures.items ∙ ap (λ b. bytes ++ b) made)
