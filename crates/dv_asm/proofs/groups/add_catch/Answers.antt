use Rattle.std.proofs.Common.{◌≡◌, ◌++◌, ◌∷◌, [], Bool, true, false, cond, List, map, Option, Some, None, if◌then◌else◌, refl, ap, sym, ◌∙◌, append-nil}
use Rattle.std.specs.Borrow.{Bor}
use Rattle.std.specs.Global.{Vec}
use Rattle.std.specs.BTreeMap.{get}
use Rattle.dv_draft.specs.declared.draft.Catch.{Catch}
use Rattle.dv_asm.specs.declared.tries.TryRange.{TryRange}
use Rattle.dv_asm.specs.Refusals.{is_same}
use Rattle.dv_asm.specs.Ranges.{found, range_cmp}
use Rattle.dv_asm.proofs.RangeLemmas.{same_range, same_by_order}
use Rattle.dv_asm.proofs.groups.add_catch.Goals as goal

-- a range that has no handlers yet
first_of : (same : Bool) (old new : Option (Vec (Bor Catch))) (group : Vec (Bor Catch)) (catch : Catch) → new ≡ cond same (Some group) old → (same ≡ true → old ≡ None) → found (Some group) ≡ catch ∷ [] → found new ≡ found old ++ (if same then catch ∷ [] else [])
first_of true old new group catch is none one = ap found is ∙ (one ∙ sym (ap (λ o. found o ++ (catch ∷ [])) (none refl)))
first_of false old new group catch is none one = ap found is ∙ sym (append-nil (found old))

pub returns-in_ok-insert-in-None : goal.returns-in_ok-insert-in-None
returns-in_ok-insert-in-None c r =
    let range = c.args.range in
    let none : is_same range r ≡ true → get range_cmp c.args.groups.now r ≡ None = λ same. ap (λ (x : TryRange). get range_cmp c.args.groups.now x) (sym (same_range range r same)) ∙ sym c.in-None.ensures.value in
    let one : found (Some c.push-in-None.new.self) ≡ c.args.catch.now ∷ [] = ap (map (λ (x : Bor Catch). x.now)) (c.in_ok-push-in-None.ensures.items ∙ ap (λ (xs : List (Bor Catch)). xs ++ c.args.catch ∷ []) c.new-group.ensures.items) in
    first_of (is_same range r) (get range_cmp c.args.groups.now r) (get range_cmp c.insert.new.self r) c.push-in-None.new.self c.args.catch.now (c.in_ok-insert-in-None.ensures.updates.0 r ∙ (λ i. cond (sym (same_by_order range r) i) (Some c.push-in-None.new.self) (get range_cmp (c.get_mut.follows.holds-at-none i) r))) none one
