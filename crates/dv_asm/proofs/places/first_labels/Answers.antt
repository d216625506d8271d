use Rattle.std.proofs.Common.{ℕ, Option, ap, sym, ◌∙◌, arith}
use Rattle.std.specs.Option.{option_or}
use Rattle.dv_asm.specs.First.{when}
use Rattle.dv_asm.specs.Items.{is_named}
use Rattle.dv_asm.proofs.LabelLemmas.{place_more}
use Rattle.dv_asm.proofs.places.first_labels.Goals as goal

pub loop-k-preserved : goal.loop-k-preserved
loop-k-preserved c name =
    let k = c.loop-k.k in
    let item = c.index-items-k.result in
    let more = place_more c.args.items.now k item name (omega arith) c.index-items-k.is in
    c.in-Ok.ensures name ∙ (ap (λ (place : Option ℕ). option_or place (when (is_named name item) k)) (c.loop-k.invariant name) ∙ sym more)
