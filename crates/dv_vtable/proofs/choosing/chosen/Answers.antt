use Rattle.std.proofs.Common.{◌∷◌, false, true, cond, get_or, ap, sym, ◌∙◌}
use Rattle.dv_defs.specs.Selecting.{chosen}
use Rattle.dv_vtable.specs.Choosing.{above_any, methods_at}
use Rattle.dv_vtable.proofs.ChoosingLaws.{alone_chosen, chosen_by, no_others, unmarked_again}
use Rattle.dv_vtable.proofs.SourceLaws.{image_of, own_image}
use Rattle.dv_vtable.proofs.choosing.chosen.Goals as goal

pub returns-then-is_empty-clause-select : goal.returns-then-is_empty-clause-select
returns-then-is_empty-clause-select c = λ image of.
    let none = no_others c.args.offer.others.now c.if-is_empty.ensures in
    c.itself.ensures image of
    ∙ (alone_chosen image (c.requires.sources.ordered image of.classes) c.args.offer.first
    ∙ ap (λ ids. chosen image (methods_at image (c.args.offer.first ∷ ids))) (sym none))

pub returns-clause-marks : goal.returns-clause-marks
returns-clause-marks c = λ d.
    let image = image_of c.args.sources.now in
    let of = own_image c.args.sources.now in
    unmarked_again (get_or c.mark_offer-2.new.marks d false) (get_or c.mark_offer.new.marks d false) (get_or c.args.marks.now d false)
    (above_any image (methods_at image (c.args.offer.first ∷ c.args.offer.others.now)) d) (c.mark_offer-2.ensures image of d) (c.mark_offer.ensures image of d) (c.requires.marks d)

pub returns-clause-select : goal.returns-clause-select
returns-clause-select c = λ image of.
    let ms = methods_at image (c.args.offer.first ∷ c.args.offer.others.now) in
    chosen_by image ms c.mark_offer.new.marks c.unmarked-select.result
    (λ d. c.mark_offer.ensures image of d ∙ ap (λ b. cond (above_any image ms d) true b) (c.requires.marks d))
    (c.unmarked-select.ensures image of)
