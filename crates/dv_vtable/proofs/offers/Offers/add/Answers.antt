use Rattle.std.proofs.Common.{◌≡◌, ◌+◌, ◌++◌, ◌∷◌, [], List, false, length, position, set, get_or, Some, None, is_some, ap, sym, ◌∙◌}
use Rattle.std.specs.Prelude.{nat_eq}
use Rattle.std.specs.List.{list_any}
use Rattle.std.proofs.lemmas.List.{length_push}
use Rattle.std.proofs.lemmas.List.Quantifiers.{position-Some}
use Rattle.dv_defs.specs.declared.names.MethodId.{MethodId}
use Rattle.dv_hier.proofs.Twice.{some_place}
use Rattle.dv_vtable.specs.Numbered.{TableValue, numbers_of}
use Rattle.dv_vtable.specs.Offers.{OffersValue, offer_entry, offers_in}
use Rattle.dv_vtable.proofs.OfferEntries.{offered_at, offered_last}
use Rattle.dv_vtable.proofs.TablePlaces.{inserted_last}
use Rattle.dv_vtable.proofs.offers.Offers.add.Goals as goal

-- a number without an entry gets one at the end
entered : (c : goal.After-push_reserved) → (list_any (nat_eq c.args.number) (numbers_of c.self.inside.firsts.entries) ≡ false)
    × (c.enter.new.self ≡ record { entries = c.self.inside.firsts.entries ++ (c.args.number, c.args.method) ∷ []; count = c.self.inside.firsts.count })
    × (c.push_reserved.new.self.items ≡ c.self.inside.others.items ++ [] ∷ [])
entered c =
    let es = c.self.inside.firsts.entries in
    let n = c.args.number in
    let none : position (nat_eq n) (numbers_of es) ≡ None = sym c.place_of.ensures ∙ c.in-None.is in
    let new : list_any (nat_eq n) (numbers_of es) ≡ false = sym (some_place (nat_eq n) (numbers_of es)) ∙ ap is_some none in
    let first : c.of.result ≡ [] = c.of.ensures ∙ c.new.ensures.items in (
      new,
      c.in_ok-enter-in-None.ensures.ok ∙ (λ j. record { entries = inserted_last nat_eq es n c.args.method new j; count = c.self.inside.firsts.count }),
      c.push_reserved.ensures.items ∙ (λ j. c.reserve.ensures.items j ++ first j ∷ []),
    )

pub invariant_of-self-in_err-enter-in-None : goal.invariant_of-self-in_err-enter-in-None
invariant_of-self-in_err-enter-in-None c =
    ap (λ (os : List (List MethodId)). length os) c.reserve.ensures.items
    ∙ (c.self.invariant ∙ ap (λ (t : TableValue). length t.entries) (sym c.in_err-enter-in-None.ensures.err))

pub invariant_of-self-in-None : goal.invariant_of-self-in-None
invariant_of-self-in-None c =
    let done = entered c in
    ap (λ (os : List (List MethodId)). length os) done.2
    ∙ (length_push c.self.inside.others.items []
    ∙ (ap (λ n. n + 1) c.self.invariant
    ∙ (sym (length_push c.self.inside.firsts.entries (c.args.number, c.args.method)) ∙ ap (λ (t : TableValue). length t.entries) (sym done.1))))

pub returns-in_ok-push-in-Some : goal.returns-in_ok-push-in-Some
returns-in_ok-push-in-Some c =
    let es = c.self.inside.firsts.entries in
    let os = c.self.inside.others.items in
    let n = c.args.number in
    let place = c.in-Some.place in
    let found : position (nat_eq n) (numbers_of es) ≡ Some place = sym c.place_of.ensures ∙ c.in-Some.is in
    let at = position-Some (nat_eq n) (numbers_of es) place n found in
    let pushed : c.push.new.self ≡ get_or os place c.index_mut.result.now ++ c.args.method ∷ [] =
    c.in_ok-push-in-Some.ensures.ok ∙ ap (λ ms. ms ++ c.args.method ∷ []) c.index_mut.ensures.value in
    let entries : offers_in es (set os place c.push.new.self) ≡ offer_entry nat_eq c.args.self.now.entries n c.args.method =
    ap (λ ms. offers_in es (set os place ms)) pushed
    ∙ (offered_at es os n place n c.index_mut.result.now c.args.method c.self.invariant at.0 at.1 at.2
    ∙ ap (λ (v : OffersValue). offer_entry nat_eq v.entries n c.args.method) c.self.view_is) in
    let count : c.self.inside.firsts.count ≡ c.args.self.now.count = ap (λ (v : OffersValue). v.count) c.self.view_is in
    λ j. record { entries = entries j; count = count j }

pub returns-in_ok-enter-in-None : goal.returns-in_ok-enter-in-None
returns-in_ok-enter-in-None c =
    let es = c.self.inside.firsts.entries in
    let os = c.self.inside.others.items in
    let n = c.args.number in
    let done = entered c in
    let entries : offers_in c.enter.new.self.entries c.push_reserved.new.self.items ≡ offer_entry nat_eq c.args.self.now.entries n c.args.method =
    (λ j. offers_in (done.1 j).entries (done.2 j))
    ∙ (offered_last es os n c.args.method c.self.invariant done.0 ∙ ap (λ (v : OffersValue). offer_entry nat_eq v.entries n c.args.method) c.self.view_is) in
    let count : c.enter.new.self.count ≡ c.args.self.now.count =
    ap (λ (t : TableValue). t.count) done.1 ∙ ap (λ (v : OffersValue). v.count) c.self.view_is in
    λ j. record { entries = entries j; count = count j }
