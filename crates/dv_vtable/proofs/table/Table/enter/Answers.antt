use Rattle.std.proofs.Common.{◌≡◌, ◌+◌, ◌-◌, ◌<◌, ◌++◌, ◌∷◌, [], ℕ, List, false, length, set, position, Some, None, is_some, ap, sym, subst, ◌∙◌, arith}
use Rattle.std.specs.Prelude.{nat_eq, slice_get}
use Rattle.std.specs.List.{list_any}
use Rattle.std.proofs.lemmas.List.{length-map, length-set, length_push}
use Rattle.std.proofs.lemmas.List.Quantifiers.{position-Some}
use Rattle.dv_defs.specs.declared.names.MethodId.{MethodId}
use Rattle.dv_hier.proofs.Twice.{some_place}
use Rattle.dv_vtable.specs.Chains.{insert_entry}
use Rattle.dv_vtable.specs.Numbered.{TableValue, HavePlaces, numbers_of}
use Rattle.dv_vtable.proofs.TablePlaces.{inserted_at, inserted_last, keys_replaced, keys_pushed, places_pushed}
use Rattle.dv_vtable.proofs.table.Table.enter.Goals as goal

pub invariant_of-self : goal.invariant_of-self
invariant_of-self c =
    let es = c.self.inside.entries.items in
    let n = c.args.number in
    let found : position (nat_eq n) (numbers_of es) ≡ Some c.in-Some.place =
    ap (λ (t : TableValue). position (nat_eq n) (numbers_of t.entries)) c.self.view_is ∙ (sym c.place_of.ensures ∙ c.in-Some.is) in
    let at = position-Some (nat_eq n) (numbers_of es) c.in-Some.place n found in
    let same : numbers_of (set es c.in-Some.place (c.index_mut.result.now.0, c.args.method)) ≡ numbers_of es =
    keys_replaced es c.in-Some.place c.index_mut.result.now c.args.method c.index_mut.ensures.value at.0 in
    λ i m there. c.self.invariant i m (ap (λ ns. slice_get ns i) (sym same) ∙ there)

pub invariant_of-self-in-None : goal.invariant_of-self-in-None
invariant_of-self-in-None c =
    let es = c.self.inside.entries.items in
    let places = c.self.inside.places.items in
    let n = c.args.number in
    let none : position (nat_eq n) (numbers_of es) ≡ None =
    ap (λ (t : TableValue). position (nat_eq n) (numbers_of t.entries)) c.self.view_is ∙ (sym c.place_of.ensures ∙ c.in-None.is) in
    let new : list_any (nat_eq n) (numbers_of es) ≡ false = sym (some_place (nat_eq n) (numbers_of es)) ∙ ap is_some none in
    let within : n < length places = rw (ap (λ (t : TableValue). t.count) c.self.view_is) c.requires in
    let items : c.push.new.self.items ≡ es ++ (n, c.args.method) ∷ [] = c.in_ok-push-in-None.ensures.items in
    let pushed : numbers_of c.push.new.self.items ≡ numbers_of es ++ n ∷ [] = ap (λ fs. numbers_of fs) items ∙ keys_pushed es n c.args.method in
    let many : length c.push.new.self.items ≡ length es + 1 = ap (λ (fs : List (ℕ × MethodId)). length fs) items ∙ length_push es (n, c.args.method) in
    let first : ℕ × MethodId → ℕ = λ e. e.0 in
    let last : c.len.result - 1 ≡ length (numbers_of es) = omega (arith, c.len.ensures, c.push.new.self.ok.0, many, length-map es first) in
    let whole = places_pushed (numbers_of es) places n c.self.invariant within new in
    subst (λ ns. HavePlaces ns (set places n (c.len.result - 1))) (sym pushed) (subst (λ k. HavePlaces (numbers_of es ++ n ∷ []) (set places n k)) (sym last) whole)

pub returns-in-Some-clause-ok : goal.returns-in-Some-clause-ok
returns-in-Some-clause-ok c =
    let es = c.self.inside.entries.items in
    let n = c.args.number in
    let place = c.in-Some.place in
    let item = c.index_mut.result.now in
    let found : position (nat_eq n) (numbers_of es) ≡ Some place =
    ap (λ (t : TableValue). position (nat_eq n) (numbers_of t.entries)) c.self.view_is ∙ (sym c.place_of.ensures ∙ c.in-Some.is) in
    let at = position-Some (nat_eq n) (numbers_of es) place n found in
    let entries : set es place (item.0, c.args.method) ≡ insert_entry nat_eq c.args.self.now.entries n c.args.method =
    ap (λ (e : ℕ × MethodId). set es place (e.0, c.args.method)) c.index_mut.ensures.value
    ∙ (sym (inserted_at nat_eq es n c.args.method place n item at.0 at.1 at.2)
    ∙ ap (λ (t : TableValue). insert_entry nat_eq t.entries n c.args.method) c.self.view_is) in
    let count : length c.self.inside.places.items ≡ c.args.self.now.count = ap (λ (t : TableValue). t.count) c.self.view_is in
    λ j. record { entries = entries j; count = count j }

pub returns-in_ok-push-in-None-clause-ok : goal.returns-in_ok-push-in-None-clause-ok
returns-in_ok-push-in-None-clause-ok c =
    let es = c.self.inside.entries.items in
    let places = c.self.inside.places.items in
    let n = c.args.number in
    let none : position (nat_eq n) (numbers_of es) ≡ None =
    ap (λ (t : TableValue). position (nat_eq n) (numbers_of t.entries)) c.self.view_is ∙ (sym c.place_of.ensures ∙ c.in-None.is) in
    let new : list_any (nat_eq n) (numbers_of es) ≡ false = sym (some_place (nat_eq n) (numbers_of es)) ∙ ap is_some none in
    let entries : c.push.new.self.items ≡ insert_entry nat_eq c.args.self.now.entries n c.args.method =
    c.in_ok-push-in-None.ensures.items
    ∙ (sym (inserted_last nat_eq es n c.args.method new)
    ∙ ap (λ (t : TableValue). insert_entry nat_eq t.entries n c.args.method) c.self.view_is) in
    let count : length (set places n (c.len.result - 1)) ≡ c.args.self.now.count =
    length-set places n (c.len.result - 1) ∙ ap (λ (t : TableValue). t.count) c.self.view_is in
    λ j. record { entries = entries j; count = count j }
