-- Marks, one instruction after another.
use Rattle.std.proofs.Common.{◌≡◌, ◌≢◌, ℕ, zero, suc, ◌+◌, Bool, true, false, List, [], ◌∷◌, length, map, replicate, Option, Some, None, refl, ap, sym, ◌∙◌, subst, arith, ◌⊎◌, inl, inr}
use Rattle.std.specs.Prelude.{slice_get, slice_set, filter, option_map, IfSome}
use Rattle.std.proofs.lemmas.Bool.{cases_eq, cases_lt}
use Rattle.std.proofs.lemmas.List.{get_or-set_same, get_or-set_other, get_or_past, set_past}
use Rattle.std.proofs.lemmas.Option.{same_Some, slice_get-map}
use Rattle.dv_defs.specs.Images.{Image}
use Rattle.dv_defs.specs.Op.{Code}
use Rattle.dv_defs.specs.Tiling.{begins_insn}
use Rattle.dv_typing.specs.Statics.{At, fetch}
use Rattle.dv_typing.specs.Flow.{targets}
use Rattle.law_blocks.specs.Blocks.{GoesStraight}
use Rattle.dv_plan.specs.declared.marks.Mark.{Mark}
use Rattle.dv_plan.specs.declared.marks.Mark.TheVariants as mark
use Rattle.dv_plan.specs.declared.hops.Hop.{Hop}
use Rattle.dv_plan.specs.declared.ways.Ways.{Ways}
use Rattle.dv_plan.specs.Ways.{IsNextAlone, IsWays, HasWays}
use Rattle.dv_plan.specs.Marks.{mark_at, AreMarks, LeadToHeads, met, headed, headed_lists, marked_by, marked}

-- ---- a mark that is set

at_set : (marks : List Mark) (to : ℕ) (m : Mark) → (mark_at (slice_set marks to m) to ≡ m) ⊎ (mark_at (slice_set marks to m) to ≡ mark.Head)
at_set marks to m =
    elim (cases_lt to (length marks)) [
      | inl h ↦ inl (get_or-set_same marks to m mark.Head h)
      | inr past ↦ inr (ap (λ ms. mark_at ms to) (set_past marks to m past) ∙ get_or_past marks to mark.Head past)
    ]

pub at_head : (marks : List Mark) (to : ℕ) → mark_at (slice_set marks to mark.Head) to ≡ mark.Head
at_head marks to = elim (at_set marks to mark.Head) [ inl e ↦ e | inr e ↦ e ]

at_other : (marks : List Mark) (to k : ℕ) (m : Mark) → k ≢ to → mark_at (slice_set marks to m) k ≡ mark_at marks k
at_other marks to k m differs = get_or-set_other marks to k m mark.Head differs

no_unseen : (m : Mark) → m ≡ mark.Head → m ≡ mark.Unseen → ⊥
no_unseen m h u = let e : mark.Head ≡ mark.Unseen = sym h ∙ u in cc

no_after : (m : Mark) (p : ℕ) → m ≡ mark.Head → m ≡ mark.After p → ⊥
no_after m p h a = let e : mark.Head ≡ mark.After p = sym h ∙ a in cc

-- ---- heads

stays_after_one : (marks : List Mark) (to k : ℕ) → mark_at marks k ≡ mark.Head → mark_at (slice_set marks to mark.Head) k ≡ mark.Head
stays_after_one marks to k h =
    elim (cases_eq k to) [
      | inl same ↦ subst (λ (j : ℕ). mark_at (slice_set marks to mark.Head) j ≡ mark.Head) (sym same) (at_head marks to)
      | inr differs ↦ at_other marks to k mark.Head differs ∙ h
    ]

stays_head : (marks : List Mark) (tos : List ℕ) (k : ℕ) → mark_at marks k ≡ mark.Head → mark_at (headed marks tos) k ≡ mark.Head
stays_head marks [] k h = h
stays_head marks (to ∷ tos) k h = stays_head (slice_set marks to mark.Head) tos k (stays_after_one marks to k h)

pub becomes_head : (marks : List Mark) (tos : List ℕ) (i to : ℕ) → slice_get tos i ≡ Some to → mark_at (headed marks tos) to ≡ mark.Head
becomes_head marks [] i to e = absurd (cc)
becomes_head marks (t ∷ tos) zero to e =
    stays_head (slice_set marks t mark.Head) tos to (subst (λ (j : ℕ). mark_at (slice_set marks t mark.Head) j ≡ mark.Head) (same_Some t to e) (at_head marks t))
becomes_head marks (t ∷ tos) (suc i) to e = becomes_head (slice_set marks t mark.Head) tos i to e

-- what a filter keeps
kept_if : (test : ℕ → Bool) (t : ℕ) (ts : List ℕ) (b : Bool) → test t ≡ b → (i to : ℕ) → slice_get (filter test ts) i ≡ Some to → (j : ℕ) × (slice_get (filter test (t ∷ ts)) j ≡ Some to)
kept_if test t ts true e i to there = (suc i, rw (e, filter) there)
kept_if test t ts false e i to there = (i, rw (e, filter) there)

kept_first : (test : ℕ → Bool) (t : ℕ) (ts : List ℕ) → test t ≡ true → slice_get (filter test (t ∷ ts)) 0 ≡ Some t
kept_first test t ts e = rw (e, filter) refl

kept_there : (test : ℕ → Bool) (ts : List ℕ) (k to : ℕ) → slice_get ts k ≡ Some to → test to ≡ true → (i : ℕ) × (slice_get (filter test ts) i ≡ Some to)
kept_there test [] k to e passes = absurd (cc)
kept_there test (t ∷ ts) zero to e passes =
    let same = same_Some t to e in
    (0, kept_first test t ts (ap test same ∙ passes) ∙ ap Some same)
kept_there test (t ∷ ts) (suc k) to e passes =
    let later = kept_there test ts k to e passes in
    kept_if test t ts (test t) refl later.0 to later.1

only_one : (t to k : ℕ) → slice_get (t ∷ []) k ≡ Some to → to ≡ t
only_one t to zero e = sym (same_Some t to e)
only_one t to (suc k) e = absurd (cc)

module _ (image : Image) (code : Code) (n : ℕ) where
  -- one more head changes nothing of the others
  pub head_keeps : (marks : List Mark) (to : ℕ) → AreMarks image code n marks → AreMarks image code n (slice_set marks to mark.Head)
  head_keeps marks to a =
      let other : (k : ℕ) (m : Mark) → m ≢ mark.Head → mark_at (slice_set marks to mark.Head) k ≡ m → mark_at marks k ≡ m =
      λ k m no_head e.
      elim (cases_eq k to) [
        | inl same ↦ absurd (no_head (sym e ∙ subst (λ (j : ℕ). mark_at (slice_set marks to mark.Head) j ≡ mark.Head) (sym same) (at_head marks to)))
        | inr differs ↦ sym (at_other marks to k mark.Head differs) ∙ e
      ] in
      record {
        unseen = λ k e. a.unseen k (other k mark.Unseen (λ h. no_unseen mark.Head refl (sym h)) e);
        straight = λ p k e. a.straight p k (other k (mark.After p) (λ h. no_after mark.Head p refl (sym h)) e);
        alone = λ p k e. a.alone p k (other k (mark.After p) (λ h. no_after mark.Head p refl (sym h)) e);
      }

  pub headed_keeps : (marks : List Mark) (tos : List ℕ) → AreMarks image code n marks → AreMarks image code n (headed marks tos)
  headed_keeps marks [] a = a
  headed_keeps marks (to ∷ tos) a = headed_keeps (slice_set marks to mark.Head) tos (head_keeps marks to a)

  pub lists_keep : (marks : List Mark) (hops : List (List Hop)) → AreMarks image code n marks → AreMarks image code n (headed_lists marks hops)
  lists_keep marks [] a = a
  lists_keep marks (hs ∷ hops) a = lists_keep (headed marks (map (λ (h : Hop). h.to) hs)) hops (headed_keeps marks (map (λ (h : Hop). h.to) hs) a)

  -- ---- what an instruction leads to

  -- more units, of which the last leads nowhere
  pub no_insn : (marks : List Mark) → ((x : At) → fetch image code.method.id n ≡ Some x → ⊥) → AreMarks image code n marks → AreMarks image code (n + 1) marks
  no_insn marks none a =
      record {
        unseen = λ to e begins at x h f k there.
            elim (cases_eq at n) [
              | inl same ↦ none x (subst (λ (j : ℕ). fetch image code.method.id j ≡ Some x) same f)
              | inr differs ↦ a.unseen to e begins at x (omega (arith, h, differs)) f k there
            ];
        straight = a.straight;
        alone = λ p to e at x h f k there.
            elim (cases_eq at n) [
              | inl same ↦ absurd (none x (subst (λ (j : ℕ). fetch image code.method.id j ≡ Some x) same f))
              | inr differs ↦ a.alone p to e at x (omega (arith, h, differs)) f k there
            ];
      }

  module _ (x : At) (w : Ways) (fetched : fetch image code.method.id n ≡ Some x) (is : IsWays code n x w) where
    one : (at : ℕ) (y : At) → at ≡ n → fetch image code.method.id at ≡ Some y → x ≡ y
    one at y same f = same_Some x y (sym fetched ∙ subst (λ (j : ℕ). fetch image code.method.id j ≡ Some y) same f)

    -- it leads to several addresses, or jumps
    is_target : (y : At) (k to : ℕ) → x ≡ y → slice_get (targets y) k ≡ Some to → begins_insn code.tiles to ≡ true → (i : ℕ) × (slice_get w.targets i ≡ Some to)
    is_target y k to same there begins =
        let here : slice_get (targets x) k ≡ Some to = subst (λ (z : At). slice_get (targets z) k ≡ Some to) (sym same) there in
        let kept = kept_there (begins_insn code.tiles) (targets x) k to here begins in
        (kept.0, ap (λ ts. slice_get ts kept.0) is.targets ∙ kept.1)

    pub leads_apart : (marks : List Mark) → AreMarks image code n marks → AreMarks image code (n + 1) (headed marks w.targets)
    leads_apart marks a =
        let b = headed_keeps marks w.targets a in
        record {
          unseen = λ to e begins at y h f k there.
              elim (cases_eq at n) [
                | inl same ↦
                    let t = is_target y k to (one at y same f) there begins in
                    no_unseen (mark_at (headed marks w.targets) to) (becomes_head marks w.targets t.0 to t.1) e
                | inr differs ↦ b.unseen to e begins at y (omega (arith, h, differs)) f k there
              ];
          straight = b.straight;
          alone = λ p to e at y h f k there.
              elim (cases_eq at n) [
                | inl same ↦
                    let t = is_target y k to (one at y same f) there (b.straight p to e).leads in
                    absurd (no_after (mark_at (headed marks w.targets) to) p (becomes_head marks w.targets t.0 to t.1) e)
                | inr differs ↦ b.alone p to e at y (omega (arith, h, differs)) f k there
              ];
        }

    -- it goes on to the next one alone
    module _ (next : ℕ) (goes : IsNextAlone code n x next) where
      straight_on : GoesStraight image code n next
      straight_on = record { insn = x; fetched = fetched; next = goes.next; only = goes.alone; rises = goes.rises; leads = goes.begins }

      is_next : (y : At) (k to : ℕ) → x ≡ y → slice_get (targets y) k ≡ Some to → to ≡ next
      is_next y k to same there = only_one next to k (subst (λ ts. slice_get ts k ≡ Some to) goes.alone (subst (λ (z : At). slice_get (targets z) k ≡ Some to) (sym same) there))

      -- where something else leads there too it is a head
      to_head : (marks : List Mark) → AreMarks image code n marks → AreMarks image code (n + 1) (slice_set marks next mark.Head)
      to_head marks a =
          let b = head_keeps marks next a in
          let new = slice_set marks next mark.Head in
          record {
            unseen = λ to f begins at y h g k there.
                elim (cases_eq at n) [
                  | inl now ↦ no_unseen (mark_at new to) (subst (λ (j : ℕ). mark_at new j ≡ mark.Head) (sym (is_next y k to (one at y now g) there)) (at_head marks next)) f
                  | inr before ↦ b.unseen to f begins at y (omega (arith, h, before)) g k there
                ];
            straight = b.straight;
            alone = λ p to f at y h g k there.
                elim (cases_eq at n) [
                  | inl now ↦ absurd (no_after (mark_at new to) p (subst (λ (j : ℕ). mark_at new j ≡ mark.Head) (sym (is_next y k to (one at y now g) there)) (at_head marks next)) f)
                  | inr before ↦ b.alone p to f at y (omega (arith, h, before)) g k there
                ];
          }

      -- the mark before it tells which mark it gets
      by_mark : (marks : List Mark) → AreMarks image code n marks → (m : Mark) → mark_at marks next ≡ m → AreMarks image code (n + 1) (slice_set marks next (met m n))
      by_mark marks a mark.Unseen e =
          let new = slice_set marks next (mark.After n) in
          let other : (k : ℕ) → k ≢ next → mark_at new k ≡ mark_at marks k = λ k differs. at_other marks next k (mark.After n) differs in
          let here : (m : Mark) → m ≢ mark.Head → mark_at new next ≡ m → m ≡ mark.After n =
          λ m no_head f. elim (at_set marks next (mark.After n)) [ inl g ↦ sym f ∙ g | inr g ↦ absurd (no_head (sym f ∙ g)) ] in
          record {
            unseen = λ to f begins at y h g k there.
                elim (cases_eq to next) [
                  | inl same ↦ absurd (let z = here mark.Unseen (λ q. no_unseen mark.Head refl (sym q)) (subst (λ (j : ℕ). mark_at new j ≡ mark.Unseen) same f) in cc)
                  | inr differs ↦ elim (cases_eq at n) [
                    | inl now ↦ differs (is_next y k to (one at y now g) there)
                    | inr before ↦ a.unseen to (sym (other to differs) ∙ f) begins at y (omega (arith, h, before)) g k there
                  ]
                ];
            straight = λ p to f.
                elim (cases_eq to next) [
                  | inl same ↦
                      let z = here (mark.After p) (λ q. no_after mark.Head p refl (sym q)) (subst (λ (j : ℕ). mark_at new j ≡ mark.After p) same f) in
                      let q : n ≡ p = cc in
                      subst (λ (j : ℕ). GoesStraight image code p j) (sym same) (subst (λ (j : ℕ). GoesStraight image code j next) q straight_on)
                  | inr differs ↦ a.straight p to (sym (other to differs) ∙ f)
                ];
            alone = λ p to f at y h g k there.
                elim (cases_eq to next) [
                  | inl same ↦
                      let z = here (mark.After p) (λ q. no_after mark.Head p refl (sym q)) (subst (λ (j : ℕ). mark_at new j ≡ mark.After p) same f) in
                      let q : n ≡ p = cc in
                      elim (cases_eq at n) [
                        | inl now ↦ sym q ∙ sym now
                        | inr before ↦ absurd (a.unseen next e goes.begins at y (omega (arith, h, before)) g k (subst (λ (j : ℕ). slice_get (targets y) k ≡ Some j) same there))
                      ]
                  | inr differs ↦ elim (cases_eq at n) [
                    | inl now ↦ absurd (differs (is_next y k to (one at y now g) there))
                    | inr before ↦ a.alone p to (sym (other to differs) ∙ f) at y (omega (arith, h, before)) g k there
                  ]
                ];
          }
      by_mark marks a (mark.After q) e = to_head marks a
      by_mark marks a mark.Head e = to_head marks a

    by_next : (marks : List Mark) → AreMarks image code n marks → (o : Option ℕ) → IfSome o (IsNextAlone code n x) → AreMarks image code (n + 1) (marked_by marks n w.targets o)
    by_next marks a (Some next) goes = by_mark next goes marks a (mark_at marks next) refl
    by_next marks a None goes = leads_apart marks a

    pub leads_on : (marks : List Mark) → AreMarks image code n marks → AreMarks image code (n + 1) (marked_by marks n w.targets w.next)
    leads_on marks a = by_next marks a w.next is.next

  nothing_there : HasWays image code n None → (x : At) → fetch image code.method.id n ≡ Some x → ⊥
  nothing_there has x f = let e = (has.there x f).1 in cc

  -- by what the ways say
  pub one_more : (marks : List Mark) (o : Option Ways) → HasWays image code n o → AreMarks image code n marks → AreMarks image code (n + 1) (marked marks n o)
  one_more marks None has a = no_insn marks (nothing_there has) a
  one_more marks (Some w) has a =
      let x = has.only w refl in
      let v = has.there x.0 x.1 in
      leads_on x.0 w x.1 (subst (λ (u : Ways). IsWays code n x.0 u) (sym (same_Some w v.0 v.1)) v.2) marks a

fresh : (n to : ℕ) → (mark_at (replicate n mark.Unseen) to ≡ mark.Unseen) ⊎ (mark_at (replicate n mark.Unseen) to ≡ mark.Head)
fresh zero to = inr refl
fresh (suc n) zero = inl refl
fresh (suc n) (suc to) = fresh n to

not_after : (m : Mark) (p : ℕ) → (m ≡ mark.Unseen) ⊎ (m ≡ mark.Head) → m ≡ mark.After p → ⊥
not_after m p (inl u) a = let e : mark.Unseen ≡ mark.After p = sym u ∙ a in cc
not_after m p (inr h) a = no_after m p h a

-- at first nothing is seen
pub none_seen : (image : Image) (code : Code) (n : ℕ) → AreMarks image code 0 (replicate n mark.Unseen)
none_seen image code n =
    record {
      unseen = λ to e begins at x h. absurd (omega (arith, h));
      straight = λ p to e. absurd (not_after (mark_at (replicate n mark.Unseen) to) p (fresh n to) e);
      alone = λ p to e at x h. absurd (omega (arith, h));
    }

-- ---- handlers

stays_listed : (marks : List Mark) (hops : List (List Hop)) (k : ℕ) → mark_at marks k ≡ mark.Head → mark_at (headed_lists marks hops) k ≡ mark.Head
stays_listed marks [] k h = h
stays_listed marks (hs ∷ hops) k h = stays_listed (headed marks (map (λ (j : Hop). j.to) hs)) hops k (stays_head marks (map (λ (j : Hop). j.to) hs) k h)

pub lists_lead : (marks : List Mark) (hops : List (List Hop)) → LeadToHeads (headed_lists marks hops) hops
lists_lead marks [] entry k h e = absurd (cc)
lists_lead marks (hs ∷ hops) zero k h e =
    let to : slice_get (map (λ (j : Hop). j.to) hs) k ≡ Some h.to = slice_get-map (λ (j : Hop). j.to) hs k ∙ ap (option_map (λ (j : Hop). j.to)) e in
    stays_listed (headed marks (map (λ (j : Hop). j.to) hs)) hops h.to (becomes_head marks (map (λ (j : Hop). j.to) hs) k h.to to)
lists_lead marks (hs ∷ hops) (suc entry) k h e = lists_lead (headed marks (map (λ (j : Hop). j.to) hs)) hops entry k h e

-- one more head changes nothing of that
pub heads_stay : (marks : List Mark) (to : ℕ) (hops : List (List Hop)) → LeadToHeads marks hops → LeadToHeads (slice_set marks to mark.Head) hops
heads_stay marks to hops l entry k h e = stays_after_one marks to h.to (l entry k h e)
