use Rattle.std.proofs.Common.{◌≡◌, ap, ◌∙◌}
use Rattle.std.proofs.lemmas.Result.{on_ok_weaker}
use Rattle.dv_defs.specs.Images.{Image}
use Rattle.dv_defs.specs.Order.{numbers}
use Rattle.dv_vtable.specs.Chains as spec
use Rattle.dv_vtable.specs.Numbered.{TableValue}
use Rattle.dv_vtable.specs.Offers.{OffersValue}
use Rattle.dv_vtable.specs.Rows.{chain_at}
use Rattle.dv_vtable.specs.Sources.{IsOf}
use Rattle.dv_vtable.proofs.RowLaws.{chain_told, offers_told}
use Rattle.dv_vtable.proofs.SourceLaws.{has_methods}
use Rattle.dv_vtable.proofs.TableLaws.{once_apart}
use Rattle.dv_vtable.proofs.rows.Room.gather.Goals as goal

-- the methods of the class and its superclasses are there
chain_there : (c : goal.After-drop-supers-2) (image : Image) → IsOf c.args.sources.now image → c.enter_chain.new.table.entries ≡ chain_at image c.args.class.0
chain_there c image of =
    let s = c.args.sources.now in
    let walked : numbers c.deref.result.now ≡ spec.chain_of s.infos.now c.args.class.0 = ap numbers c.deref.ensures.value ∙ c.in_ok-supers.ensures.chain in
    chain_told image s.infos.now of.classes (has_methods s c.requires.sources image of) (once_apart s.infos.now c.requires.sources.each_once) c.args.class.0
    c.enter_chain.new.table.entries (numbers c.deref.result.now) walked (ap (λ (t : TableValue). t.entries) c.in_ok-enter_chain.ensures)

pub returns-clause-chain : goal.returns-clause-chain
returns-clause-chain c = λ image of. on_ok_weaker c.offer_all.result (λ _. chain_there c image of) c.offer_all.ensures.count

pub returns-clause-offers : goal.returns-clause-offers
returns-clause-offers c = λ image of.
    let s = c.args.sources.now in
    let walked : numbers c.deref-2.result.now ≡ spec.chain_of s.infos.now c.args.class.0 = ap numbers c.deref-2.ensures.value ∙ c.in_ok-supers.ensures.chain in
    on_ok_weaker c.offer_all.result
    (offers_told image s.infos.now of.classes c.args.class.0 c.enter_chain.new.table.entries (numbers c.deref-2.result.now) (numbers c.deref-3.result.now) c.clear-2.new.self.entries
    c.offer_all.new.offers.entries (chain_there c image of) walked (ap numbers c.deref-3.ensures.value ∙ c.in_ok-interfaces.ensures.found image of)
    (ap (λ (v : OffersValue). v.entries) c.clear-2.ensures))
    (c.offer_all.ensures.offers image of)
