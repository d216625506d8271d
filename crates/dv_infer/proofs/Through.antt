-- Straight code, one instruction after another.
use Rattle.std.proofs.Common.{◌≡◌, ℕ, suc, Bool, true, false, List, [], ◌∷◌, ◌++◌, map, Option, Some, None, refl, sym, ap, ◌∙◌, subst, arith, append_assoc}
use Rattle.std.specs.Prelude.{filter, nat_eq}
use Rattle.std.proofs.lemmas.List.{map-append}
use Rattle.std.proofs.lemmas.Bool.{eqb-true}
use Rattle.std.proofs.lemmas.Option.{same_Some}
use Rattle.dv_worklist.specs.Flow.{Onward}
use Rattle.dv_worklist.specs.Beside.{Kept, onward_kept}
use Rattle.dv_typing.specs.declared.typing.RegState.{RegState}
use Rattle.dv_defs.specs.Op.{Code}
use Rattle.dv_defs.specs.Tiling.{begins_insn}
use Rattle.dv_typing.specs.Statics.{At, fetch}
use Rattle.dv_typing.specs.Transfer.{out}
use Rattle.dv_typing.specs.Flow.{targets}
use Rattle.law_infer.specs.Flowing.{goes_to}
use Rattle.law_gather.specs.Gathered.{covering_entry, hands_on}
use Rattle.law_blocks.specs.Blocks.{Before, AreBefore, GoesStraight, is_before, onward_through}
use Rattle.law_blocks.proofs.Through.{insn_through}
use Rattle.dv_bases.specs.Bases.{Names}
use Rattle.dv_plan.specs.declared.marks.Mark.{Mark}
use Rattle.dv_plan.specs.declared.ways.Ways.{Ways}
use Rattle.dv_plan.specs.Marks.{before_by}
use Rattle.dv_plan.specs.Ways.{IsWays}
use Rattle.dv_infer.specs.Along.{to_target}
use Rattle.dv_infer.specs.Straight.{follows_if, follows_in}
use Rattle.dv_infer.proofs.Carrying.{kept_targets}

-- ---- what follows

before_is : (at : ℕ) (o : Option ℕ) → is_before at o ≡ true → o ≡ Some at
before_is at None e = absurd (cc)
before_is at (Some p) e = ap Some (eqb-true p at e)

abbrev follows_by : Bool → ℕ → Option ℕ
follows_by b to = elim b [ true ↦ Some to | false ↦ None ]

by_test : (b : Bool) (t to : ℕ) → follows_by b t ≡ Some to → (b ≡ true) × (t ≡ to)
by_test true t to e = (refl, same_Some t to e)
by_test false t to e = absurd (cc)

-- one that follows is the only target, and has the other before it
pub one_follows : (marks : List Mark) (tos : List ℕ) (at to : ℕ) → follows_in marks tos at ≡ Some to → (tos ≡ to ∷ []) × (before_by marks to ≡ Some at)
one_follows marks [] at to e = absurd (cc)
one_follows marks (t ∷ []) at to e =
    let b = by_test (is_before at (before_by marks t)) t to e in
    (ap (λ (k : ℕ). k ∷ []) b.1, subst (λ (k : ℕ). before_by marks k ≡ Some at) b.1 (before_is at (before_by marks t) b.0))
one_follows marks (t ∷ u ∷ tos) at to e = absurd (cc)

it_follows : (marks : List Mark) (at to : ℕ) (o : Option ℕ) → before_by marks to ≡ o → o ≡ Some at → follows_if marks at to ≡ Some to
it_follows marks at to o e s =
    let same : nat_eq at at ≡ true = grind arith in
    let test : is_before at (before_by marks to) ≡ true = ap (is_before at) (e ∙ s) ∙ same in
    ap (λ b. follows_by b to) test

module _ (names : Names) (code : Code) (marks : List Mark) (are : AreBefore names.image code (before_by marks)) (at : ℕ) (x : At) (w : Ways) (fetched : fetch names.image code.method.id at ≡ Some x) (is : IsWays code at x w) where
  abbrev before : Before
  before = before_by marks

  own : (to : ℕ) (g : GoesStraight names.image code at to) → g.insn ≡ x
  own to g = same_Some g.insn x (sym g.fetched ∙ fetched)

  -- where one follows it is the next
  pub goes_next : (to : ℕ) → follows_in marks w.targets at ≡ Some to → (x.next ≡ to) × GoesStraight names.image code at to
  goes_next to e =
      let b = one_follows marks w.targets at to e in
      let g = are.straight at to b.1 in
      (ap (λ (y : At). y.next) (sym (own to g)) ∙ g.next, g)

  pub test_true : (to : ℕ) → follows_in marks w.targets at ≡ Some to → is_before at (before x.next) ≡ true
  test_true to e =
      let b = one_follows marks w.targets at to e in
      let same : nat_eq at at ≡ true = grind arith in
      ap (λ (k : ℕ). is_before at (before k)) (goes_next to e).0 ∙ (ap (is_before at) b.1 ∙ same)

  kept_alone : (to : ℕ) → begins_insn code.tiles to ≡ true → filter (begins_insn code.tiles) (to ∷ []) ≡ to ∷ []
  kept_alone to e = rw (e, filter) refl

  by_case : (b : Bool) → is_before at (before x.next) ≡ b → follows_in marks w.targets at ≡ None → b ≡ false
  by_case false q none = refl
  by_case true q none =
      let there : before x.next ≡ Some at = before_is at (before x.next) q in
      let g = are.straight at x.next there in
      let only : targets x ≡ x.next ∷ [] = subst (λ (y : At). targets y ≡ x.next ∷ []) (own x.next g) g.only in
      let tos : w.targets ≡ x.next ∷ [] = is.targets ∙ (ap (filter (begins_insn code.tiles)) only ∙ kept_alone x.next g.leads) in
      let some : follows_in marks w.targets at ≡ Some x.next = ap (λ ts. follows_in marks ts at) tos ∙ it_follows marks at x.next (before x.next) refl there in
      absurd (let e = sym none ∙ some in cc)

  pub test_false : follows_in marks w.targets at ≡ None → is_before at (before x.next) ≡ false
  test_false none = by_case (is_before at (before x.next)) refl none

  -- ---- what has gone on

  abbrev Through : ℕ → ℕ → RegState → List (Onward (Kept RegState Names))
  Through n k s = map (onward_kept names) (onward_through names.image code before n k s)

  module _ (n : ℕ) (s after : RegState) (a : after ≡ out names.image code.method at x.op s) (whole done handed : List (Onward (Kept RegState Names)))
      (so_far : whole ≡ done ++ Through (suc n) at s) (pushed : handed ≡ done ++ map (onward_kept names) (hands_on code s w.covering)) where
    abbrev hands : List (Onward RegState)
    hands = hands_on code s (covering_entry code at x)

    split : (rest : List (Onward RegState)) → onward_through names.image code before (suc n) at s ≡ hands ++ rest → whole ≡ handed ++ map (onward_kept names) rest
    split rest e =
        let here : map (onward_kept names) (hands_on code s w.covering) ≡ map (onward_kept names) hands = ap (λ o. map (onward_kept names) (hands_on code s o)) is.covering in
        so_far ∙ (ap (λ os. done ++ map (onward_kept names) os) e ∙ (ap (λ os. done ++ os) (map-append (onward_kept names) hands rest) ∙
        (sym (append_assoc done (map (onward_kept names) hands) (map (onward_kept names) rest)) ∙ ap (λ os. os ++ map (onward_kept names) rest) (sym (pushed ∙ ap (λ os. done ++ os) here)))))

    pub goes_further : (to : ℕ) → follows_in marks w.targets at ≡ Some to → whole ≡ handed ++ Through n to after
    goes_further to e =
        split (onward_through names.image code before n x.next (out names.image code.method at x.op s)) (insn_through names.image code before n at s x fetched true (test_true to e)) ∙
        ap (λ os. handed ++ map (onward_kept names) os) (λ i. onward_through names.image code before n ((goes_next to e).0 i) (sym a i))

    pub ends_here : (all : List (Onward (Kept RegState Names))) → follows_in marks w.targets at ≡ None → all ≡ handed ++ map (to_target names after) w.targets → whole ≡ all
    ends_here all none e =
        let last : map (onward_kept names) (goes_to code (out names.image code.method at x.op s) (targets x)) ≡ map (to_target names after) w.targets =
        ap (λ (t : RegState). map (onward_kept names) (goes_to code t (targets x))) (sym a) ∙
        (kept_targets names after (filter (begins_insn code.tiles) (targets x)) ∙ ap (map (to_target names after)) (sym is.targets)) in
        split (goes_to code (out names.image code.method at x.op s) (targets x)) (insn_through names.image code before n at s x fetched false (test_false none)) ∙
        (ap (λ os. handed ++ os) last ∙ sym e)
