-- Laws of what is marked on the ways up.
use Rattle.std.specs.Prelude.{ℕ, zero, suc, ◌≡◌, ◌≢◌, ◌+◌, ◌<◌, nat_eq, Bool, true, false, ◌&&◌, ◌||◌, not, List, [], ◌∷◌, ◌++◌, length, Option, Some, None, ◌⊎◌}
use Rattle.std.specs.Bool.{MatchBool}
use Rattle.std.specs.List.{list_all}
use Rattle.std.proofs.Common.{refl, sym, ◌∙◌, ap, subst, inl, inr, ⊎_elim, arith, cond, get_or, set, replicate, take}
use Rattle.std.proofs.lemmas.Bool.{or_cases}
use Rattle.std.proofs.lemmas.List.Elements.{All-get_or}
use Rattle.std.proofs.lemmas.Option.{slice_get_read}
use Rattle.std.proofs.lemmas.List.Sums.{sum_by-set}
use Rattle.std.proofs.lemmas.Bool.Decides.{eqb_tells}
use Rattle.std.proofs.lemmas.List.{length-set, get_or-set_same, get_or-set_other, length-append, length-replicate, take_more}
use Rattle.dv_defs.specs.declared.names.ClassId.{ClassId}
use Rattle.dv_defs.specs.declared.image.ClassInfo.{ClassInfo}
use Rattle.dv_defs.specs.Pools.{class_number, parent_of}
use Rattle.dv_defs.specs.Order.{has_number, numbers, interfaces_of, with_parent, above, any_of, implements}
use Rattle.law_linking.specs.Stripped.{IsInRange, AreInRange}
use Rattle.law_linking.proofs.Reach.{number_first, number_later, number_cases, apart_from_closed, decided_by_closed, reached_beyond, reached_at_once}
use Rattle.dv_hier.specs.Upwards.{bare, above_of, is_self_dependent, is_marked, is_parent_marked, is_ready, AreFree, HasEachReady, unmarked, HasMet}

less_or_same : (i n : ℕ) → i < suc n → (i < n) ⊎ (i ≡ n)
less_or_same i n within = grind arith

-- ---- lists of numbers

has_all : (h m : Bool) → (h ≡ true → m ≡ false) → h ≡ h && not m
has_all false m f = refl
has_all true m f = rw (f refl) refl

abbrev or_else : Bool → Bool → Bool
or_else b c = elim b [ true ↦ true | false ↦ c ]

or_two : (b c h : Bool) → or_else b (c || h) ≡ or_else b c || h
or_two true c h = refl
or_two false c h = refl

pub has_both : (d : ℕ) (xs ys : List ℕ) → has_number d (xs ++ ys) ≡ has_number d xs || has_number d ys
has_both d [] ys = refl
has_both d (x ∷ xs) ys = ap (or_else (nat_eq x d)) (has_both d xs ys) ∙ (or_two (nat_eq x d) (has_number d xs) (has_number d ys))

pub numbers_both : (xs ys : List ClassId) → numbers (xs ++ ys) ≡ numbers xs ++ numbers ys
numbers_both [] ys = refl
numbers_both (x ∷ xs) ys = ap (λ zs. x.0 ∷ zs) (numbers_both xs ys)

only : (d c : ℕ) → has_number d (c ∷ []) ≡ true → c ≡ d
only d c h = ⊎_elim (λ same. same) (λ none. absurd (cc)) (number_cases d c [] h)

true_or_false : (b : Bool) → (b ≡ true) ⊎ (b ≡ false)
true_or_false true = inl refl
true_or_false false = inr refl

has_only : (d c : ℕ) → c ≢ d → has_number d (c ∷ []) ≡ false
has_only d c other = ⊎_elim (λ h. absurd (other (only d c h))) (λ h. h) (true_or_false (has_number d (c ∷ [])))

or_first : (a b : Bool) → a ≡ true → a || b ≡ true
or_first true b h = refl
or_first false b h = absurd (cc)

or_second : (a b : Bool) → b ≡ true → a || b ≡ true
or_second true b h = refl
or_second false b h = h

none_of_both : (a b : Bool) → a || b ≡ false → a ≡ false
none_of_both true b h = h
none_of_both false b h = refl

new_waits : (w h m : Bool) → h ≡ true → m ≡ false → w || (h && not m) ≡ true
new_waits w h m has free = or_second w (h && not m) (subst (λ b. h && not b ≡ true) (sym free) (subst (λ b. b && true ≡ true) (sym has) refl))

and_first : (a b : Bool) → a && b ≡ true → a ≡ true
and_first true b h = refl
and_first false b h = h

-- ---- marks

unmarked_set : (marks : List Bool) (i : ℕ) → i < length marks → is_marked marks i ≡ false → suc (unmarked (set marks i true)) ≡ unmarked marks
unmarked_set marks i within free =
    let e : unmarked (set marks i true) + 1 ≡ unmarked marks + 0 = subst (λ b. unmarked (set marks i true) + cond (not b) 1 0 ≡ unmarked marks + 0) free (sum_by-set (λ b. cond (not b) 1 0) marks i true false within) in
    omega arith

pub marked_set : (marks : List Bool) (i d : ℕ) → i < length marks → is_marked (set marks i true) d ≡ is_marked marks d || has_number d (i ∷ [])
marked_set marks i d within =
    ⊎_elim
    (λ same. subst (λ x. is_marked (set marks i true) x ≡ is_marked marks x || has_number x (i ∷ [])) (same.1) (get_or-set_same marks i true false within ∙ sym (or_second (is_marked marks i) (has_number i (i ∷ [])) (number_first i []))))
    (λ other. get_or-set_other marks i d true false (λ e. other.1 (sym e)) ∙ or_false (is_marked marks d) (has_number d (i ∷ [])) (has_only d i other.1))
    (eqb_tells i d)
  where
    or_false : (b c : Bool) → c ≡ false → b ≡ b || c
    or_false true c h = refl
    or_false false c h = sym h

marked_cases : (marks : List Bool) (i d : ℕ) → i < length marks → is_marked (set marks i true) d ≡ true → (is_marked marks d ≡ true) ⊎ (i ≡ d)
marked_cases marks i d within h =
    ⊎_elim (λ before. inl before) (λ here. inr (only d i here)) (or_cases (is_marked marks d) (has_number d (i ∷ [])) (sym (marked_set marks i d within) ∙ h))

marked_kept : (marks : List Bool) (i d : ℕ) → i < length marks → is_marked marks d ≡ true → is_marked (set marks i true) d ≡ true
marked_kept marks i d within h = marked_set marks i d within ∙ ap (λ b. b || has_number d (i ∷ [])) h

-- ---- what stands directly above a class

pub above_is : (cs : List ClassInfo) (i : ℕ) (info : ClassInfo) → i < length cs → info ≡ get_or cs i info → above (bare cs) i ≡ above_of info
above_is cs i info within is =
    ap (λ o. with_parent (parent_of o) (interfaces_of o)) (slice_get_read cs (length cs) i info refl within is)

both : (a b : Bool) → a && b ≡ true → (a ≡ true) × (b ≡ true)
both true b h = (refl, h)
both false b h = absurd (cc)

both_hold : (a b : Bool) → a ≡ true → b ≡ true → a && b ≡ true
both_hold true b h holds = holds
both_hold false b h holds = absurd (cc)

all_marked : (marks : List Bool) (cs : List ClassId) → list_all (λ c. is_marked marks c.0) cs ≡ true → (d : ℕ) → has_number d (numbers cs) ≡ true → is_marked marks d ≡ true
all_marked marks [] h d has = absurd (cc)
all_marked marks (c ∷ cs) h d has =
    let parts = both (is_marked marks c.0) (list_all (λ c. is_marked marks c.0) cs) h in
    ⊎_elim (λ same. subst (λ x. is_marked marks x ≡ true) same parts.0) (λ later. all_marked marks cs parts.1 d later) (number_cases d c.0 (numbers cs) has)

all_ready : (marks : List Bool) (parent : Option ClassId) (cs : List ClassId) → list_all (λ c. is_marked marks c.0) cs ≡ true → is_parent_marked marks parent ≡ true → (d : ℕ) → has_number d (with_parent (class_number parent) (numbers cs)) ≡ true → is_marked marks d ≡ true
all_ready marks None cs h parent d has = all_marked marks cs h d has
all_ready marks (Some p) cs h parent d has =
    ⊎_elim (λ same. subst (λ x. is_marked marks x ≡ true) same parent) (λ later. all_marked marks cs h d later) (number_cases d p.0 (numbers cs) has)

ready_marks : (marks : List Bool) (info : ClassInfo) → is_ready marks info ≡ true → (d : ℕ) → has_number d (above_of info) ≡ true → is_marked marks d ≡ true
ready_marks marks info ready d has =
    let parts = both (list_all (λ c. is_marked marks c.0) info.interfaces) (is_parent_marked marks info.parent) ready in
    all_ready marks info.parent info.interfaces parts.0 parts.1 d has

-- ---- classes that don't depend on themselves

pub unmarked_all : (n d : ℕ) → is_marked (replicate n false) d ≡ false
unmarked_all zero d = refl
unmarked_all (suc n) zero = refl
unmarked_all (suc n) (suc d) = unmarked_all n d

-- one more, above which all is marked
free_more : (cs : List ClassInfo) (marks : List Bool) (i : ℕ) (info : ClassInfo) → AreFree cs marks → length marks ≡ length cs → i < length cs → info ≡ get_or cs i info → is_marked marks i ≡ false → is_ready marks info ≡ true → AreFree cs (set marks i true)
unfolding is_self_dependent
free_more cs marks i info free many within is unmarked ready =
    let inside : i < length marks = omega arith in
    let begun = λ (d : ℕ) (has : has_number d (above (bare cs) i) ≡ true). ready_marks marks info ready d (subst (λ xs. has_number d xs ≡ true) (above_is cs i info within is) has) in
    record {
      closed = λ c d marked has.
          marked_kept marks i d inside
          (⊎_elim (λ before. free.closed c d before has) (λ here. begun d (subst (λ x. has_number d (above (bare cs) x) ≡ true) (sym here) has)) (marked_cases marks i c inside marked));
      free = λ c marked.
          ⊎_elim
          (λ before. free.free c before)
          (λ here. subst (λ x. is_self_dependent cs x ≡ false) here (apart_from_closed (bare cs) (is_marked marks) free.closed i unmarked begun))
          (marked_cases marks i c inside marked);
    }

-- ---- rounds

all_if : (marks : List Bool) (cs : List ClassId) → ((d : ℕ) → has_number d (numbers cs) ≡ true → is_marked marks d ≡ true) → list_all (λ c. is_marked marks c.0) cs ≡ true
all_if marks [] h = refl
all_if marks (c ∷ cs) h =
    both_hold (is_marked marks c.0) (list_all (λ c. is_marked marks c.0) cs) (h c.0 (number_first c.0 (numbers cs))) (all_if marks cs (λ d has. h d (number_later d c.0 (numbers cs) has)))

ready_if_marked : (marks : List Bool) (parent : Option ClassId) (cs : List ClassId) → ((d : ℕ) → has_number d (with_parent (class_number parent) (numbers cs)) ≡ true → is_marked marks d ≡ true) → list_all (λ c. is_marked marks c.0) cs && is_parent_marked marks parent ≡ true
ready_if_marked marks None cs h = both_hold (list_all (λ c. is_marked marks c.0) cs) true (all_if marks cs h) refl
ready_if_marked marks (Some p) cs h =
    both_hold (list_all (λ c. is_marked marks c.0) cs) (is_marked marks p.0) (all_if marks cs (λ d has. h d (number_later d p.0 (numbers cs) has))) (h p.0 (number_first p.0 (numbers cs)))

each_more : (cs : List ClassInfo) (marks : List Bool) (i : ℕ) → HasEachReady cs marks i → (((d : ℕ) → has_number d (above (bare cs) i) ≡ true → is_marked marks d ≡ true) → is_marked marks i ≡ true) → HasEachReady cs marks (i + 1)
each_more cs marks i before here c within ready =
    ⊎_elim
    (λ less. before c less ready)
    (λ same. subst (λ x. is_marked marks x ≡ true) (sym same) (here (λ d has. ready d (subst (λ x. has_number d (above (bare cs) x) ≡ true) (sym same) has))))
    (less_or_same c i (let e : c < suc i = omega arith in e))

at_false : (b : Bool) (A B C : Type 0) → (B → C) → MatchBool b A B → MatchBool b A C
at_false true A B C to h = h
at_false false A B C to h = to h

-- a round as far as the first i classes: where none was marked, each above which all is marked was
abbrev pub IsRound : List ClassInfo → ℕ → List Bool → Bool → ℕ → Type 0
IsRound cs start marks changed i =
    AreFree cs marks × MatchBool changed (unmarked marks < start) ((unmarked marks ≡ start) × HasEachReady cs marks i)

-- a turn at a class that is marked, or above which not all is marked
turn_by : (cs : List ClassInfo) (start : ℕ) (marks : List Bool) (changed : Bool) (i : ℕ) → (((d : ℕ) → has_number d (above (bare cs) i) ≡ true → is_marked marks d ≡ true) → is_marked marks i ≡ true) → IsRound cs start marks changed i → IsRound cs start marks changed (i + 1)
turn_by cs start marks changed i here before =
    (before.0, at_false changed (unmarked marks < start) ((unmarked marks ≡ start) × HasEachReady cs marks i) ((unmarked marks ≡ start) × HasEachReady cs marks (i + 1)) (λ h. (h.0, each_more cs marks i h.1 here)) before.1)

pub turn_marked : (cs : List ClassInfo) (start : ℕ) (marks : List Bool) (changed : Bool) (i : ℕ) → is_marked marks i ≡ true → IsRound cs start marks changed i → IsRound cs start marks changed (i + 1)
turn_marked cs start marks changed i marked = turn_by cs start marks changed i (λ ready. marked)

pub turn_unready : (cs : List ClassInfo) (start : ℕ) (marks : List Bool) (changed : Bool) (i : ℕ) (info : ClassInfo) → i < length cs → info ≡ get_or cs i info → is_ready marks info ≡ false → IsRound cs start marks changed i → IsRound cs start marks changed (i + 1)
turn_unready cs start marks changed i info within is unready =
    turn_by cs start marks changed i
    (λ ready. absurd (let e = ready_if_marked marks info.parent info.interfaces (λ d has. ready d (subst (λ xs. has_number d xs ≡ true) (sym (above_is cs i info within is)) has)) in cc))

fewer_left : (start now next : ℕ) (changed : Bool) (E : Type 0) → suc next ≡ now → MatchBool changed (now < start) ((now ≡ start) × E) → next < start
fewer_left start now next true E fewer h = omega arith
fewer_left start now next false E fewer h = let same = h.0 in omega arith

-- a turn that marks a class
pub turn_marks : (cs : List ClassInfo) (start : ℕ) (marks : List Bool) (changed : Bool) (i : ℕ) (info : ClassInfo) → length marks ≡ length cs → i < length cs → info ≡ get_or cs i info → is_marked marks i ≡ false → is_ready marks info ≡ true → IsRound cs start marks changed i → IsRound cs start (set marks i true) true (i + 1)
turn_marks cs start marks changed i info many within is free ready before =
    (free_more cs marks i info before.0 many within is free ready, fewer_left start (unmarked marks) (unmarked (set marks i true)) changed (HasEachReady cs marks i) (unmarked_set marks i (let inside : i < length marks = omega arith in inside) free) before.1)

-- ---- what was met

pub met_first : (marks : List Bool) (waiting : List ClassId) (id : ClassId) → id.0 < length marks → is_marked marks id.0 ≡ false → HasMet (id.0 ∷ []) marks waiting (set marks id.0 true) (waiting ++ id ∷ [])
met_first marks waiting id within free = record {
  many = length-set marks id.0 true;
  marked = λ d. marked_set marks id.0 d within;
  waits = λ d.
      ap (has_number d) (numbers_both waiting (id ∷ []))
      ∙ (has_both d (numbers waiting) (id.0 ∷ [])
      ∙ ap (λ b. has_number d (numbers waiting) || b) (has_all (has_number d (id.0 ∷ [])) (is_marked marks d) (λ h. subst (λ x. is_marked marks x ≡ false) (only d id.0 h) free)));
  left = let fewer = unmarked_set marks id.0 within free in let more = length-append waiting (id ∷ []) in omega arith;
}

pub both_marked : (a x y b c : Bool) → b ≡ a || x → c ≡ b || y → c ≡ a || (x || y)
both_marked true x y b c e f = f ∙ rw e refl
both_marked false x y b c e f = f ∙ rw e refl

both_wait : (w x y m n v u : Bool) → v ≡ w || (x && not m) → n ≡ m || x → u ≡ v || (y && not n) → u ≡ w || ((x || y) && not m)
both_wait w x y m n v u e f g =
    g ∙ (ap (λ b. b || (y && not n)) e ∙ (ap (λ b. (w || (x && not m)) || (y && not b)) f ∙ by_cases w x y m))
  where
    by_cases : (w x y m : Bool) → (w || (x && not m)) || (y && not (m || x)) ≡ w || ((x || y) && not m)
    by_cases true x y m = refl
    by_cases false true true true = refl
    by_cases false true true false = refl
    by_cases false true false true = refl
    by_cases false true false false = refl
    by_cases false false true true = refl
    by_cases false false true false = refl
    by_cases false false false true = refl
    by_cases false false false false = refl

-- one after the other
pub met_then : (xs ys : List ℕ) (a : List Bool) (u : List ClassId) (b : List Bool) (v : List ClassId) (c : List Bool) (w : List ClassId) → HasMet xs a u b v → HasMet ys b v c w → HasMet (xs ++ ys) a u c w
met_then xs ys a u b v c w first then = record {
  many = then.many ∙ first.many;
  marked = λ d.
      both_marked (is_marked a d) (has_number d xs) (has_number d ys) (is_marked b d) (is_marked c d) (first.marked d) (then.marked d)
      ∙ ap (λ h. is_marked a d || h) (sym (has_both d xs ys));
  waits = λ d.
      both_wait (has_number d (numbers u)) (has_number d xs) (has_number d ys) (is_marked a d) (is_marked b d) (has_number d (numbers v)) (has_number d (numbers w)) (first.waits d) (first.marked d) (then.waits d)
      ∙ ap (λ h. has_number d (numbers u) || (h && not (is_marked a d))) (sym (has_both d xs ys));
  left = then.left ∙ first.left;
}

-- a turn of a loop
pub met_more : (ids : List ClassId) (i : ℕ) (id : ClassId) (a : List Bool) (u : List ClassId) (b : List Bool) (v : List ClassId) (c : List Bool) (w : List ClassId) → i < length ids → HasMet (numbers (take i ids)) a u b v → HasMet ((get_or ids i id).0 ∷ []) b v c w → HasMet (numbers (take (i + 1) ids)) a u c w
met_more ids i id a u b v c w within first then =
    subst (λ xs. HasMet xs a u c w) (sym (ap numbers (take_more ids i id within) ∙ numbers_both (take i ids) (get_or ids i id ∷ [])))
    (met_then (numbers (take i ids)) ((get_or ids i id).0 ∷ []) a u b v c w first then)

-- ---- a search

-- each class that was met is reached from those directly above the class, and where it doesn't wait, those above it were met
pub record IsSearch (cs : List ClassInfo) (c : ℕ) (met : List Bool) (waiting : List ClassId) : Type 0 where
  pub many : length met ≡ length cs
  pub begun : (d : ℕ) → has_number d (above (bare cs) c) ≡ true → is_marked met d ≡ true
  pub reached : (d : ℕ) → is_marked met d ≡ true → any_of (λ b. implements (bare cs) b d) (above (bare cs) c) ≡ true
  pub closed : (d e : ℕ) → is_marked met d ≡ true → has_number d (numbers waiting) ≡ false → has_number e (above (bare cs) d) ≡ true → is_marked met e ≡ true
  pub waits : (d : ℕ) → has_number d (numbers waiting) ≡ true → is_marked met d ≡ true

pub search_begins : (cs : List ClassInfo) (c : ℕ) (n : ℕ) (met : List Bool) (waiting : List ClassId) → n ≡ length cs → HasMet (above (bare cs) c) (replicate n false) [] met waiting → IsSearch cs c met waiting
search_begins cs c n met waiting many now =
    let begun = λ (d : ℕ) (has : has_number d (above (bare cs) c) ≡ true). now.marked d ∙ or_second (is_marked (replicate n false) d) (has_number d (above (bare cs) c)) has in
    let is_above = λ (d : ℕ) (marked : is_marked met d ≡ true). above_if (is_marked (replicate n false) d) (has_number d (above (bare cs) c)) (unmarked_all n d) (sym (now.marked d) ∙ marked) in
    record {
      many = now.many ∙ (length-replicate n false ∙ many);
      begun = begun;
      reached = λ d marked. reached_at_once (bare cs) c d (is_above d marked);
      closed = λ d e marked free has. absurd (let waits = now.waits d ∙ new_waits false (has_number d (above (bare cs) c)) (is_marked (replicate n false) d) (is_above d marked) (unmarked_all n d) in cc);
      waits = λ d waits. begun d (and_first (has_number d (above (bare cs) c)) (not (is_marked (replicate n false) d)) (sym (now.waits d) ∙ waits));
    }
  where
    above_if : (m h : Bool) → m ≡ false → m || h ≡ true → h ≡ true
    above_if true h free e = absurd (cc)
    above_if false h free e = e

pub search_goes_on : (cs : List ClassInfo) (c : ℕ) → AreInRange cs → (id : ClassId) (before : List Bool) (rest : List ClassId) (met : List Bool) (waiting : List ClassId) → IsSearch cs c before (rest ++ id ∷ []) → HasMet (above (bare cs) id.0) before rest met waiting → IsSearch cs c met waiting
search_goes_on cs c range id before rest met waiting so_far now =
    let up = above (bare cs) id.0 in
    let kept = λ (d : ℕ) (marked : is_marked before d ≡ true). now.marked d ∙ or_first (is_marked before d) (has_number d up) marked in
    let next = λ (d : ℕ) (has : has_number d up ≡ true). now.marked d ∙ or_second (is_marked before d) (has_number d up) has in
    let waited = λ (d : ℕ). ap (has_number d) (numbers_both rest (id ∷ [])) ∙ has_both d (numbers rest) (id.0 ∷ []) in
    let id_met = so_far.waits id.0 (waited id.0 ∙ or_second (has_number id.0 (numbers rest)) (has_number id.0 (id.0 ∷ [])) (number_first id.0 [])) in
    record {
      many = now.many ∙ so_far.many;
      begun = λ d has. kept d (so_far.begun d has);
      reached = λ d marked.
          ⊎_elim
          (λ old. so_far.reached d old)
          (λ new. reached_beyond (bare cs) range c id.0 d (so_far.reached id.0 id_met) new)
          (or_cases (is_marked before d) (has_number d up) (sym (now.marked d) ∙ marked));
      closed = λ d e marked free has.
          ⊎_elim
          (λ old.
          ⊎_elim
          (λ same. next e (subst (λ x. has_number e (above (bare cs) x) ≡ true) (sym same.1) has))
          (λ other. kept e (so_far.closed d e old (waited d ∙ (ap (λ b. b || has_number d (id.0 ∷ [])) (none_of_both (has_number d (numbers rest)) (has_number d up && not (is_marked before d)) (sym (now.waits d) ∙ free)) ∙ has_only d id.0 other.1)) has))
          (eqb_tells id.0 d))
          (λ fresh.
          absurd
          (let new = new_if (is_marked before d) (has_number d up) fresh (sym (now.marked d) ∙ marked) in
          let waits = now.waits d ∙ new_waits (has_number d (numbers rest)) (has_number d up) (is_marked before d) new fresh in
          cc))
          (true_or_false (is_marked before d));
      waits = λ d waits.
          ⊎_elim
          (λ old. kept d (so_far.waits d (waited d ∙ or_first (has_number d (numbers rest)) (has_number d (id.0 ∷ [])) old)))
          (λ new. next d (and_first (has_number d up) (not (is_marked before d)) new))
          (or_cases (has_number d (numbers rest)) (has_number d up && not (is_marked before d)) (sym (now.waits d) ∙ waits));
    }
  where
    new_if : (m h : Bool) → m ≡ false → m || h ≡ true → h ≡ true
    new_if true h free e = absurd (cc)
    new_if false h free e = e

pub search_ends : (cs : List ClassInfo) (c : ℕ) (met : List Bool) (waiting : List ClassId) → IsSearch cs c met waiting → length waiting ≡ 0 → is_marked met c ≡ is_self_dependent cs c
unfolding is_self_dependent
search_ends cs c met [] whole none =
    decided_by_closed (bare cs) (is_marked met) (λ d e marked has. whole.closed d e marked refl has) c whole.begun (whole.reached c)
search_ends cs c met (id ∷ waiting) whole none = absurd (omega arith)

-- ---- a search's turns as the code has them

marked_in : (marks : List Bool) (i : ℕ) → is_marked marks i ≡ true → i < length marks
marked_in [] i marked = absurd (cc)
marked_in (m ∷ marks) zero marked = omega arith
marked_in (m ∷ marks) (suc i) marked = let below = marked_in marks i marked in omega arith

pub begun : (cs : List ClassInfo) (c : ℕ) (info : ClassInfo) (before : List Bool) (none : List ClassId) (met : List Bool) (waiting : List ClassId) → c < length cs → info ≡ get_or cs c info → before ≡ replicate (length cs) false → none ≡ [] → HasMet (above_of info) before none met waiting → IsSearch cs c met waiting
begun cs c info before none met waiting within is unmarked empty now =
    search_begins cs c (length cs) met waiting refl
    (subst (λ xs. HasMet xs (replicate (length cs) false) [] met waiting) (sym (above_is cs c info within is))
    (subst (λ u. HasMet (above_of info) (replicate (length cs) false) u met waiting) empty
    (subst (λ a. HasMet (above_of info) a none met waiting) unmarked now)))

pub next_in : (cs : List ClassInfo) (c : ℕ) (id : ClassId) (before : List Bool) (all rest : List ClassId) → all ≡ rest ++ id ∷ [] → IsSearch cs c before all → id.0 < length cs
next_in cs c id before all rest is so_far =
    let waits = ap (λ ids. has_number id.0 (numbers ids)) is ∙ (ap (has_number id.0) (numbers_both rest (id ∷ [])) ∙ (has_both id.0 (numbers rest) (id.0 ∷ []) ∙ or_second (has_number id.0 (numbers rest)) (has_number id.0 (id.0 ∷ [])) (number_first id.0 []))) in
    let below = marked_in before id.0 (so_far.waits id.0 waits) in
    let many = so_far.many in
    omega arith

pub goes_on : (cs : List ClassInfo) (c : ℕ) → AreInRange cs → (id : ClassId) (info : ClassInfo) (before : List Bool) (all rest : List ClassId) (met : List Bool) (waiting : List ClassId) → info ≡ get_or cs id.0 info → all ≡ rest ++ id ∷ [] → IsSearch cs c before all → HasMet (above_of info) before rest met waiting → IsSearch cs c met waiting
goes_on cs c range id info before all rest met waiting is popped so_far now =
    search_goes_on cs c range id before rest met waiting
    (subst (λ ids. IsSearch cs c before ids) popped so_far)
    (subst (λ xs. HasMet xs before rest met waiting) (sym (above_is cs id.0 info (next_in cs c id before all rest popped so_far) is)) now)

pub next_range : (cs : List ClassInfo) (i n : ℕ) (info : ClassInfo) → AreInRange cs → i < length cs → info ≡ get_or cs i info → n ≡ length cs → IsInRange n info
next_range cs i n info range within is many =
    subst (λ m. IsInRange m info) (sym many)
    (subst (λ x. IsInRange (length cs) x) (sym is) (All-get_or (IsInRange (length cs)) cs i info within range))
