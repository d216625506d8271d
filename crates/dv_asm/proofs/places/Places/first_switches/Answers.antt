use Rattle.std.proofs.Common.{ℕ, Option, ap, sym, ◌∙◌, arith}
use Rattle.std.specs.Option.{option_or}
use Rattle.dv_asm.specs.First.{when}
use Rattle.dv_asm.specs.Items.{item_at}
use Rattle.dv_asm.specs.Places.{address_named_by}
use Rattle.dv_asm.specs.Refusals.{is_address}
use Rattle.dv_asm.proofs.LabelLemmas.{position_more}
use Rattle.dv_asm.proofs.places.Places.first_switches.Goals as goal

pub loop-k-preserved : goal.loop-k-preserved
loop-k-preserved c address =
    let items = c.args.self.now in
    let k = c.loop-k.k in
    c.in-Ok.ensures address ∙
    (ap (λ (place : Option ℕ). option_or place (when (is_address address (address_named_by items (item_at items k))) k)) (c.loop-k.invariant address) ∙
    sym (position_more (address_named_by items) (is_address address) items k (omega arith)))
