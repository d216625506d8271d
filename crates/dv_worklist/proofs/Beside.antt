-- The least assignment of states that are kept with something is that of the states alone.
use Rattle.std.proofs.Common.{◌≡◌, ◌<◌, ℕ, zero, suc, true, List, [], ◌∷◌, map, Option, Some, None, refl, sym, ap, ◌∙◌, subst, inl, inr, ◌⊎◌}
use Rattle.std.specs.Prelude.{slice_get, option_map}
use Rattle.std.proofs.lemmas.Option.{slice_get-map, same_Some}
use Rattle.dv_worklist.specs.Flow.{Onward, Flow, Assignment, assigned, HasAbove, IsClosed, IsUnder, IsLeast, AllFit, IsLawful, IsImplied}
use Rattle.dv_worklist.specs.Beside.{Kept, kept, onward_kept, flow_beside, fits_beside, rank_beside, alone}

-- what a mapped option has comes from what the option has
record From {A B : Type 0} (f : A → B) (o : Option A) (b : B) : Type 0 where
  pub from : A
  pub there : o ≡ Some from
  pub is : f from ≡ b

from : {A B : Type 0} (f : A → B) (o : Option A) (b : B) → option_map f o ≡ Some b → From f o b
from f None b e = absurd (cc)
from f (Some a) b e = record { from = a; there = refl; is = same_Some (f a) b e }

alone_at : {S T : Type 0} (xs : List (Option (Kept S T))) (place : ℕ) → assigned (alone xs) place ≡ option_map (λ a. a.state) (assigned xs place)
alone_at [] place = refl
alone_at (x ∷ xs) zero = refl
alone_at (x ∷ xs) (suc place) = alone_at xs place

module _ {S T : Type 0} (t : T) (f : Flow S) where
  -- ---- order and flow

  module _ (fits : ℕ → S → Type 0) (rank : S → ℕ) (top : ℕ) (law : IsLawful f fits rank top) where
    abbrev Fits : ℕ → Kept S T → Type 0
    Fits = fits_beside t fits

    equal : (a b : Kept S T) → a.beside ≡ t → b.beside ≡ t → a.state ≡ b.state → a ≡ b
    equal a b at bt e = λ i. record { state = e i; beside = (at ∙ sym bt) i }

    near : (place : ℕ) (a b : Kept S T) → Fits place a → Fits place b → f.under a.state b.state ≡ true → (a ≡ b) ⊎ (rank b.state < rank a.state)
    near place a b fa fb u =
        elim (law.order.near place a.state b.state fa.1 fb.1 u) [
          | inl e ↦ inl (equal a b fa.0 fb.0 e)
          | inr less ↦ inr less
        ]

    onward_fits : (place : ℕ) (a : Kept S T) → Fits place a → (k : ℕ) (o : Onward (Kept S T)) → slice_get (map (onward_kept a.beside) (f.onward place a.state)) k ≡ Some o →
        Fits o.to o.state × (o.to < f.size)
    onward_fits place a fa k o e =
        let was = from (onward_kept a.beside) (slice_get (f.onward place a.state) k) o (sym (slice_get-map (onward_kept a.beside) (f.onward place a.state) k) ∙ e) in
        let there = law.onward_fits place a.state fa.1 k was.from was.there in
        subst (λ (p : Onward (Kept S T)). Fits p.to p.state × (p.to < f.size)) was.is ((fa.0, there.0), there.1)

    monotone : (place : ℕ) (a b : Kept S T) → Fits place a → f.under a.state b.state ≡ true → (k : ℕ) (o : Onward (Kept S T)) →
        slice_get (map (onward_kept a.beside) (f.onward place a.state)) k ≡ Some o →
        (p : Onward (Kept S T)) × (slice_get (map (onward_kept b.beside) (f.onward place b.state)) k ≡ Some p) × (p.to ≡ o.to) × (f.under o.state.state p.state.state ≡ true)
    monotone place a b fa u k o e =
        let was = from (onward_kept a.beside) (slice_get (f.onward place a.state) k) o (sym (slice_get-map (onward_kept a.beside) (f.onward place a.state) k) ∙ e) in
        let goes = law.monotone place a.state b.state fa.1 u k was.from was.there in
        let p = goes.0 in
        let there = slice_get-map (onward_kept b.beside) (f.onward place b.state) k ∙ ap (option_map (onward_kept b.beside)) goes.1 in (
          onward_kept b.beside p,
          there,
          goes.2 ∙ ap (λ (q : Onward (Kept S T)). q.to) was.is,
          subst (λ (q : Onward (Kept S T)). f.under q.state.state p.state ≡ true) was.is goes.3,
        )

    pub lawful_beside : IsLawful (flow_beside t f) (fits_beside t fits) (rank_beside rank) top
    lawful_beside =
        record {
          order = record {
            same = λ a. law.order.same a.state;
            trans = λ a b c. law.order.trans a.state b.state c.state;
            first = λ place a b fa fb. law.order.first place a.state b.state fa.1 fb.1;
            second = λ place a b fa fb. law.order.second place a.state b.state fa.1 fb.1;
            lowest = λ place a b c fa fb. law.order.lowest place a.state b.state c.state fa.1 fb.1;
            joined = λ place a b fa fb. (fa.0, law.order.joined place a.state b.state fa.1 fb.1);
            near = near;
          };
          monotone = monotone;
          entry_fits = (refl, law.entry_fits);
          onward_fits = onward_fits;
          below = λ place a fa. law.below place a.state fa.1;
        }

  -- ---- assignments

  pub alone_fit : (fits : ℕ → S → Type 0) (xs : List (Option (Kept S T))) → AllFit (fits_beside t fits) (assigned xs) → AllFit fits (assigned (alone xs))
  alone_fit fits xs fit place s e =
      let was = from (λ (a : Kept S T). a.state) (assigned xs place) s (sym (alone_at xs place) ∙ e) in
      subst (fits place) was.is (fit place was.from was.there).1

  -- the states of an assignment alone
  module _ (b : Assignment (Kept S T)) where
    abbrev states_of : Assignment S
    states_of place = option_map (λ a. a.state) (b place)

    above_states : (place : ℕ) (a : Kept S T) → HasAbove (flow_beside t f) b place a → HasAbove f states_of place a.state
    above_states place a has = record { state = has.state.state; there = ap (option_map (λ a. a.state)) has.there; above = has.above }

    above_kept : (place : ℕ) (a : Kept S T) → HasAbove f states_of place a.state → HasAbove (flow_beside t f) b place a
    above_kept place a has =
        let was = from (λ (a : Kept S T). a.state) (b place) has.state has.there in
        record { state = was.from; there = was.there; above = subst (λ (s : S). f.under a.state s ≡ true) (sym was.is) has.above }

    closed_states : IsClosed (flow_beside t f) b → IsClosed f states_of
    closed_states closed =
        record {
          entry = above_states 0 (kept t f.entry) closed.entry;
          arrives = λ place s e k o q.
              let was = from (λ (a : Kept S T). a.state) (b place) s e in
              let a = was.from in
              let goes = subst (λ (v : S). slice_get (f.onward place v) k ≡ Some o) (sym was.is) q in
              let there = slice_get-map (onward_kept a.beside) (f.onward place a.state) k ∙ ap (option_map (onward_kept a.beside)) goes in
              above_states o.to (kept a.beside o.state) (closed.arrives place a was.there k (onward_kept a.beside o) there);
        }

  -- what states imply, those that are kept imply too
  pub implied_beside : (fits : ℕ → S → Type 0) (place : ℕ) (a b more : Kept S T) → more.beside ≡ t → IsImplied f fits place a.state b.state more.state →
      IsImplied (flow_beside t f) (fits_beside t fits) place a b more
  implied_beside fits place a b more beside is =
      record {
        fit = (beside, is.fit);
        bound = λ c closed first second. above_kept c place more (is.bound (states_of c) (closed_states c closed) (above_states c place a first) (above_states c place b second));
      }

  module _ (xs : List (Option (Kept S T))) where
    -- above in the one and in the other
    above_alone : (place : ℕ) (a : Kept S T) → HasAbove (flow_beside t f) (assigned xs) place a → HasAbove f (assigned (alone xs)) place a.state
    above_alone place a has =
        record {
          state = has.state.state;
          there = alone_at xs place ∙ ap (option_map (λ a. a.state)) has.there;
          above = has.above;
        }

    closed_alone : IsClosed (flow_beside t f) (assigned xs) → IsClosed f (assigned (alone xs))
    closed_alone closed =
        record {
          entry = above_alone 0 (kept t f.entry) closed.entry;
          arrives = λ place s e k o q.
              let was = from (λ (a : Kept S T). a.state) (assigned xs place) s (sym (alone_at xs place) ∙ e) in
              let a = was.from in
              let goes = subst (λ (v : S). slice_get (f.onward place v) k ≡ Some o) (sym was.is) q in
              let there = slice_get-map (onward_kept a.beside) (f.onward place a.state) k ∙ ap (option_map (onward_kept a.beside)) goes in
              above_alone o.to (kept a.beside o.state) (closed.arrives place a was.there k (onward_kept a.beside o) there);
        }

    -- an assignment of states, each kept with t
    abbrev with_it : Assignment S → Assignment (Kept S T)
    with_it b place = option_map (kept t) (b place)

    above_with : (b : Assignment S) (place : ℕ) (a : Kept S T) → HasAbove f b place a.state → HasAbove (flow_beside t f) (with_it b) place a
    above_with b place a has = record { state = kept t has.state; there = ap (option_map (kept t)) has.there; above = has.above }

    closed_with : (b : Assignment S) → IsClosed f b → IsClosed (flow_beside t f) (with_it b)
    closed_with b closed =
        record {
          entry = above_with b 0 (kept t f.entry) closed.entry;
          arrives = λ place a e k o q.
              let was = from (kept t) (b place) a e in
              let s = was.from in
              let goes : slice_get (map (onward_kept t) (f.onward place s)) k ≡ Some o = subst (λ (v : Kept S T). slice_get (map (onward_kept v.beside) (f.onward place v.state)) k ≡ Some o) (sym was.is) q in
              let went = from (onward_kept t) (slice_get (f.onward place s) k) o (sym (slice_get-map (onward_kept t) (f.onward place s) k) ∙ goes) in
              let there = closed.arrives place s was.there k went.from went.there in
              subst (λ (p : Onward (Kept S T)). HasAbove (flow_beside t f) (with_it b) p.to p.state) went.is (above_with b went.from.to (kept t went.from.state) there);
        }

    under_with : (b : Assignment S) → IsUnder (flow_beside t f) (assigned xs) (with_it b) → IsUnder f (assigned (alone xs)) b
    under_with b under place s e =
        let was = from (λ (a : Kept S T). a.state) (assigned xs place) s (sym (alone_at xs place) ∙ e) in
        let has = under place was.from was.there in
        let high = from (kept t) (b place) has.state has.there in
        record {
          state = high.from;
          there = high.there;
          above = subst (λ (v : S). f.under v high.from ≡ true) was.is (subst (λ (v : Kept S T). f.under was.from.state v.state ≡ true) (sym high.is) has.above);
        }

    pub least_alone : IsLeast (flow_beside t f) (assigned xs) → IsLeast f (assigned (alone xs))
    least_alone least =
        record {
          closed = closed_alone least.closed;
          least = λ b closed. under_with b (least.least (with_it b) (closed_with b closed));
        }
