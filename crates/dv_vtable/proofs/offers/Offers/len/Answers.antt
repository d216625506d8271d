use Rattle.std.proofs.Common.{length, ap, arith}
use Rattle.dv_vtable.specs.Offers.{OffersValue}
use Rattle.dv_vtable.proofs.OfferEntries.{offers_length}
use Rattle.dv_vtable.proofs.offers.Offers.len.Goals as goal

pub returns : goal.returns
returns c =
    let os = c.self.inside.others.items in
    let whole = ap (λ (v : OffersValue). length v.entries) c.self.view_is in
    omega (arith, whole, offers_length c.self.inside.firsts.entries os c.self.invariant, c.self.invariant, c.len.ensures, c.self.inside.others.ok.0)
