-- Each step on the slot keeps the rule.
use Rattle.std.proofs.Common.{◌≡◌, ℕ, zero, suc, List, [], ◌∷◌, ◌++◌, set, inl, inr, ⊎_elim, Bool, true, false, refl, sym, ap, ◌∙◌, subst, Option, Some, slice_index}
use Rattle.std.proofs.lemmas.Bool.{false_from_ne_true, true≢false}
use mathlib.Core.Option.{some, none, some-injective, some-ne-none}
use lib.ListN.{get_elem?}
use Rattle.atomic_table.specs.Table.{Me, takes, gives, keeps, Allows, Splits, opening, rest, put_back}
use Rattle.atomic_table.proofs.Lists.{at_set, at_snoc, at_longer, set_again}
use Rattle.dv_workers.specs.declared.view.Names.{Names}
use Rattle.dv_workers.specs.declared.view.View.{View}
use Rattle.dv_workers.specs.Rule.{aside, held, let_go, Fits, Kept, Took}

differ : (b : Bool) → b ≡ true → b ≡ false → ⊥
differ b t f = true≢false (sym t ∙ f)

module _ {A : Type 0} where
  set_at : (l : List A) (i : ℕ) (a b : A) → get_elem? l i ≡ some a → get_elem? (set l i b) i ≡ some b
  set_at [] i a b e = absurd (some-ne-none a (sym e))
  set_at (x ∷ xs) zero a b e = refl
  set_at (x ∷ xs) (suc i) a b e = set_at xs i a b e

  one_at : (a b : A) (i : ℕ) → get_elem? (a ∷ []) i ≡ some b → a ≡ b
  one_at a b zero e = some-injective a b e
  one_at a b (suc i) e = absurd (some-ne-none b (sym e))

module _ {D : Type 0} (named : D → Names) (n : Names) where
  abbrev AllFit : List View → Type 0
  AllFit views = (seat : ℕ) (v : View) → get_elem? views seat ≡ some v → Fits n v

  fit_set : (views : List View) (id : ℕ) (w : View) → AllFit views → Fits n w → AllFit (set views id w)
  fit_set views id w all fit seat v at = ⊎_elim (λ t. subst (Fits n) t.1 fit) (λ t. all seat v t.1) (at_set views id seat w v at)

  fit_more : (views : List View) (w : View) → AllFit views → Fits n w → AllFit (views ++ w ∷ [])
  fit_more views w all fit seat v at = ⊎_elim (λ t. all seat v t) (λ t. subst (Fits n) t fit) (at_snoc views w v seat at)

  pub starts : (d : D) → named d ≡ n → Kept named n (opening (1 ∷ []) (Some d ∷ []) (aside n))
  starts d is = record {
    fit = λ seat v at. ap (λ (u : View). u.of) (sym (one_at (aside n) v seat at));
    place = inl (d, refl, refl, is, λ seat v at. ap (λ (u : View). u.holds) (sym (one_at (aside n) v seat at)));
  }

  pub takes_or_not : (slots id : ℕ) (m : Me (Option D) View) → m.0.of ≡ n → Allows (Kept named n) slots id m 0 (λ _. 0) (Took named m)
  takes_or_not slots id m of s kept one at small = ⊎_elim
      (λ h.
      let got : Took named m 1 (held m.0, (0, Some h.0) ∷ m.1) = (h.0, refl, of ∙ sym h.3) in (
        held m.0,
        takes 0 (Some h.0),
        subst (λ hs. get_elem? hs 0 ≡ some (some (Some h.0))) (sym h.2) refl,
        record {
          fit = fit_set s.views id (held m.0) kept.fit of;
          place = inr (
            id,
            held m.0,
            ap (λ ws. set ws 0 0) h.1,
            ap (λ hs. set hs 0 none) h.2,
            set_at s.views id m.0 (held m.0) at,
            refl,
            λ seat v at' holds. ⊎_elim (λ t. t.0) (λ t. absurd (differ v.holds holds (h.4 seat v t.1))) (at_set s.views id seat (held m.0) v at'),
          );
        },
        subst (λ (ws : List ℕ). Took named m (slice_index ws 0) (held m.0, (0, Some h.0) ∷ m.1)) (sym h.1) got,
      ))
      (λ o.
      let e = set_again s.views id m.0 at in
      let none_found : Took named m 0 m = refl in (
        m.0,
        keeps,
        tt,
        record {
          fit = subst AllFit (sym e) kept.fit;
          place = inr (
            o.0,
            o.1,
            ap (λ ws. set ws 0 0) o.2,
            o.3,
            subst (λ vs. get_elem? vs o.0 ≡ some o.1) (sym e) o.4,
            o.5,
            λ seat v at'. o.6 seat v (subst (λ vs. get_elem? vs seat ≡ some v) e at'),
          );
        },
        subst (λ (ws : List ℕ). Took named m (slice_index ws 0) m) (sym o.2) none_found,
      ))
      kept.place

  pub puts_back : (slots id : ℕ) (m : Me (Option D) View) (d : D) → named d ≡ n → m.1 ≡ (0, Some d) ∷ rest m.1 → m.0.of ≡ n → m.0.holds ≡ true
      → Allows (Kept named n) slots id m 0 (λ _. 1) (λ _ w. w ≡ (let_go m.0, rest m.1))
  puts_back slots id m d is has of holds s kept one at small = ⊎_elim
      (λ h. absurd (differ m.0.holds holds (h.4 id m.0 at)))
      (λ o. (
        let_go m.0,
        gives,
        tt,
        record {
          fit = fit_set s.views id (let_go m.0) kept.fit of;
          place = inl (
            d,
            ap (λ ws. set ws 0 1) o.2,
            ap (λ c. put_back s.homes c) has ∙ ap (λ hs. set hs 0 (some (Some d))) o.3,
            is,
            λ seat v at'. ⊎_elim (λ t. ap (λ (u : View). u.holds) (sym t.1))
                (λ t. false_from_ne_true v.holds (λ yes. t.0 (o.6 seat v t.1 yes ∙ sym (o.6 id m.0 at holds)))) (at_set s.views id seat (let_go m.0) v at'),
          );
        },
        refl,
      ))
      kept.place

  pub splits : (id : ℕ) (x : View) → x.of ≡ n → x.holds ≡ false → Splits (Kept named n) id x x x
  splits id x of not s kept at =
      let e = set_again s.views id x at in
      subst (λ vs. Kept named n (record { words = s.words; homes = s.homes; views = vs ++ x ∷ [] })) (sym e)
      (record {
        fit = fit_more s.views x kept.fit of;
        place = ⊎_elim
            (λ h. inl (h.0, h.1, h.2, h.3, λ seat v at'. ⊎_elim (λ t. h.4 seat v t) (λ t. ap (λ (u : View). u.holds) (sym t) ∙ not) (at_snoc s.views x v seat at')))
            (λ o. inr (
              o.0,
              o.1,
              o.2,
              o.3,
              at_longer s.views (x ∷ []) o.0 o.1 o.4,
              o.5,
              λ seat v at' yes. ⊎_elim (λ t. o.6 seat v t yes) (λ t. absurd (differ v.holds yes (ap (λ (u : View). u.holds) (sym t) ∙ not))) (at_snoc s.views x v seat at'),
            ))
            kept.place;
      })
