use Rattle.std.proofs.Common.{◌≡◌, ◌<◌, ◌∷◌, ℕ, length, get_or, ap, sym, refl, ◌∙◌, arith, rules, Some}
use Rattle.std.specs.Prelude.{slice_get}
use Rattle.std.proofs.lemmas.Option.{slice_get-get_or, slice_get_read}
use Rattle.dv_defs.specs.declared.names.MethodId.{MethodId}
use Rattle.dv_vtable.specs.Offers.{OffersValue}
use Rattle.dv_vtable.proofs.OfferEntries.{offer_at, offers_length}
use Rattle.dv_vtable.proofs.offers.Offers.at.Goals as goal

-- the place is one of the entries
within : (c : goal.After-entries) → c.args.place < length c.self.inside.firsts.entries
within c =
    let whole = ap (λ (v : OffersValue). length v.entries) c.self.view_is in
    omega (arith, whole, offers_length c.self.inside.firsts.entries c.self.inside.others.items c.self.invariant, c.requires)

pub offset_bounds-entries-place : goal.offset_bounds-entries-place
offset_bounds-entries-place c =
    let inside : c.args.place < length c.entries.result.now = rw c.entries.ensures (within c) in
    search rules

pub bounds-entries-place : goal.bounds-entries-place
bounds-entries-place c = rw c.entries.ensures (within c)

pub bounds-entries-place-2 : goal.bounds-entries-place-2
bounds-entries-place-2 c = rw c.entries.ensures (within c)

pub index-requires : goal.index-requires
index-requires c =
    let whole = ap (λ (v : OffersValue). length v.entries) c.self.view_is in
    omega (
      arith,
      whole,
      offers_length c.self.inside.firsts.entries c.self.inside.others.items c.self.invariant,
      c.self.invariant,
      c.requires,
      c.self.inside.others.ok.0,
    )

pub returns : goal.returns
returns c =
    let es = c.self.inside.firsts.entries in
    let os = c.self.inside.others.items in
    let i = c.args.place in
    let none : ℕ × MethodId = (0, record { 0 = 0 }) in
    let whole = ap (λ (v : OffersValue). length v.entries) c.self.view_is in
    let inside : i < length es = omega (arith, whole, offers_length es os c.self.invariant, c.requires) in
    let there : slice_get es i ≡ Some (get_or c.entries.result.now i none) =
    slice_get-get_or es i none inside ∙ ap (λ fs. Some (get_or fs i none)) (sym c.entries.ensures) in
    let others : slice_get os i ≡ Some c.index.result.now = slice_get_read os (length os) i c.index.result.now refl (omega (arith, c.self.invariant, inside)) c.index.ensures in
    ap (λ (v : OffersValue). slice_get v.entries i) (sym c.self.view_is)
    ∙ (offer_at es os i (get_or c.entries.result.now i none) c.index.result.now there others
    ∙ ap (λ ms. Some ((get_or c.entries.result.now i none).0, (get_or c.entries.result.now i none).1 ∷ ms)) (sym c.items.ensures))
