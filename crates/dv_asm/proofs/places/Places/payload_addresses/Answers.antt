use Rattle.std.proofs.Common.{Bool, ◌||◌, ap, sym, ◌∙◌}
use Rattle.dv_asm.specs.Refusals.{is_payload_at}
use Rattle.dv_asm.proofs.FirstLemmas.{any_below_more}
use Rattle.dv_asm.proofs.places.Places.payload_addresses.Goals as goal

pub loop-k-preserved : goal.loop-k-preserved
loop-k-preserved c address =
    let here : Bool = is_payload_at c.args.self.now address c.loop-k.k in
    c.in-Ok.ensures address ∙ (ap (λ (b : Bool). b || here) (c.loop-k.invariant address) ∙ sym (any_below_more (is_payload_at c.args.self.now address) c.loop-k.k))
