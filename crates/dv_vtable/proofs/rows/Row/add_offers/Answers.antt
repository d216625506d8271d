use Rattle.std.proofs.Common.{◌∷◌, refl}
use Rattle.dv_defs.specs.Selecting.{chosen}
use Rattle.dv_vtable.specs.Choosing.{methods_at}
use Rattle.dv_vtable.proofs.RowLaws.{mapped_more}
use Rattle.dv_vtable.proofs.rows.Row.add_offers.Goals as goal

pub loop-place-preserved : goal.loop-place-preserved
loop-place-preserved c =
    let es = c.args.offers.now.entries in
    let i = c.loop-place.place in
    let offer = c.at-offer.result in
    let inv = c.loop-place.invariant in
    record {
      marks = c.chosen.ensures.marks;
      selects = λ image of.
          mapped_more (λ e. chosen image (methods_at image e.1)) es i (offer.number, offer.first ∷ offer.others.now) _ c.loop-place.self.selects.items c.add.new.self.selects.items
          c.chosen.result c.at-offer.ensures (c.chosen.ensures.select image of) (inv.selects image of) c.in_ok-add.ensures.selects;
      numbers = mapped_more (λ e. e.0) es i (offer.number, offer.first ∷ offer.others.now) _ c.loop-place.self.numbers.items c.add.new.self.numbers.items
          offer.number c.at-offer.ensures refl inv.numbers c.in_ok-add.ensures.numbers;
    }
