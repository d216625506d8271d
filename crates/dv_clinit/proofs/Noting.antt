-- What is known of classes once the interfaces before the first of them are looked at.
use Rattle.std.proofs.Common.{◌≡◌, ◌≢◌, ◌<◌, ◌≤◌, ◌+◌, ℕ, zero, suc, Bool, true, false, ◌&&◌, List, [], ◌∷◌, length, get_or, set, take, Option, Some, None, refl, sym, ap, subst, ◌∙◌, arith}
use Rattle.std.specs.Prelude.{is_none, is_some, nat_eq}
use Rattle.std.specs.Option.{option_eq}
use Rattle.std.proofs.lemmas.Bool.{eqb-true, eq-eqb}
use Rattle.std.proofs.lemmas.Grind.{get_or-set_at}
use Rattle.std.proofs.lemmas.List.{get_or-set_other, get_or_default, length-set, take_all}
use Rattle.dv_defs.specs.declared.names.ClassId.{ClassId}
use Rattle.dv_defs.specs.Images.{Image}
use Rattle.dv_defs.specs.Linked.{IsImage}
use Rattle.dv_defs.specs.Order.{has_number, numbers}
use Rattle.dv_defs.specs.Pools.{initialiser}
use Rattle.dv_defs.specs.Prior.{prior_at}
use Rattle.dv_machine.specs.Classes.{Fresh}
use Rattle.dv_machine.specs.Opening.{none_initialised}
use Rattle.law_linking.proofs.Reach.{number_first, number_later}
use Rattle.dv_clinit.specs.declared.states.State.{State}
use Rattle.dv_clinit.specs.declared.states.State.TheVariants as state
use Rattle.dv_clinit.specs.contracts.states.StatePartialEq.TheImpl as of_state
use Rattle.dv_clinit.specs.Births.{AreKnown, BeginsAsParent, DeclaresNone, IsKnown, first_state}
use Rattle.dv_clinit.specs.States.{class_state}
use Rattle.dv_clinit.proofs.BirthLaws.{both_true, none_unless_fresh}
use Rattle.dv_clinit.proofs.PriorLaws.{prior_lower}

-- ---- what is initialised before a class

number_at : (cs : List ClassId) (j : ℕ) (d : ClassId) → j < length cs → has_number (get_or cs j d).0 (numbers cs) ≡ true
number_at [] j d within = absurd (omega arith)
number_at (c ∷ cs) zero d within = number_first c.0 (numbers cs)
number_at (c ∷ cs) (suc j) d within = number_later (get_or cs j d).0 c.0 (numbers cs) (number_at cs j d (omega arith))

pub each_has : (image : Image) (c : ℕ) (cs : List ClassId) → numbers cs ≡ prior_at image c → (j : ℕ) (d : ClassId) → j < length cs → has_number (get_or cs j d).0 (prior_at image c) ≡ true
each_has image c cs told j d within = ap (has_number (get_or cs j d).0) (sym told) ∙ number_at cs j d within

pub each_inside : (image : Image) → IsImage image → (c : ℕ) (cs : List ClassId) → numbers cs ≡ prior_at image c → (j : ℕ) (d : ClassId) → j < length cs → (get_or cs j d).0 < length image.classes
each_inside image is c cs told j d within = (prior_lower image is c (get_or cs j d).0 (each_has image c cs told j d within)).inside

none_step : (image : Image) (cs : List ClassId) (j : ℕ) (d : ClassId) → j < length cs → none_initialised image (numbers (take j cs)) ≡ true → initialiser image (get_or cs j d).0 ≡ None
    → none_initialised image (numbers (take (suc j) cs)) ≡ true
none_step image [] j d within before none = absurd (omega arith)
none_step image (c ∷ cs) zero d within before none = ap (λ o. is_none o && true) none
none_step image (c ∷ cs) (suc j) d within before none =
    let parts = both_true (is_none (initialiser image c.0)) (none_initialised image (numbers (take j cs))) before in
    ap (λ b. b && none_initialised image (numbers (take (suc j) cs))) parts.0 ∙ none_step image cs j d (omega arith) parts.1 none

pub none_more : (image : Image) (cs : List ClassId) (j : ℕ) (d : ClassId) → j < length cs → none_initialised image (numbers (take j cs)) ≡ true → initialiser image (get_or cs j d).0 ≡ None
    → none_initialised image (numbers (take (j + 1) cs)) ≡ true
none_more image cs j d within before none =
    let more : j + 1 ≡ suc j = omega arith in
    rw more (none_step image cs j d within before none)

pub none_at_last : (image : Image) (c : ℕ) (cs : List ClassId) → numbers cs ≡ prior_at image c → (j : ℕ) → length cs ≤ j → none_initialised image (numbers (take j cs)) ≡ true → none_initialised image (prior_at image c) ≡ true
none_at_last image c cs told j all none =
    ap (none_initialised image) (sym told) ∙ (ap (λ ps. none_initialised image (numbers ps)) (sym (take_all j cs all)) ∙ none)

-- ---- one class is looked at

-- a class declares no initialiser, and if it is among the first classes it begins as its superclass
pub record IsStillOpen (image : Image) (i c : ℕ) : Type 0 where
  pub declares : DeclaresNone image c
  pub begins : c < i → BeginsAsParent image c

pub still_open : (image : Image) (known : List (Option State)) (P Q : ℕ → Type 0) → ((c : ℕ) → c < length known → P c → Q c) → AreKnown image P known → AreKnown image Q known
still_open image known P Q turn are =
    record { linked = are.linked; count = are.count; at = λ c d within. by c within (get_or known c d) (are.at c d within) }
  where
    by : (c : ℕ) → c < length known → (o : Option State) → IsKnown image P c o → IsKnown image Q c o
    by c within None still = turn c within still
    by c within (Some s) is = is

-- of the class of which nothing was known so much is known
pub noted : (image : Image) (i : ℕ) (known : List (Option State)) (o : Option State) → i < length known → DeclaresNone image i → IsKnown image (BeginsAsParent image) i o
    → AreKnown image (IsStillOpen image i) known → AreKnown image (IsStillOpen image (i + 1)) (set known i o)
noted image i known o within none is are =
    record {
      linked = are.linked;
      count = length-set known i o ∙ are.count;
      at = λ c d inside. by (nat_eq c i) c refl d (omega (arith, inside, length-set known i o));
    }
  where
    own : (p : Option State) → IsKnown image (BeginsAsParent image) i p → IsKnown image (IsStillOpen image (i + 1)) i p
    own None begins = record { declares = none; begins = λ less. begins }
    own (Some s) state = state

    later : (c : ℕ) → c ≢ i → (p : Option State) → IsKnown image (IsStillOpen image i) c p → IsKnown image (IsStillOpen image (i + 1)) c p
    later c other None still = record { declares = still.declares; begins = λ less. still.begins (omega (arith, less, other)) }
    later c other (Some s) state = state

    by : (b : Bool) (c : ℕ) → nat_eq c i ≡ b → (d : Option State) → c < length known → IsKnown image (IsStillOpen image (i + 1)) c (get_or (set known i o) c d)
    by true c test d inside =
        let same : c ≡ i = eqb-true c i test in
        subst (λ k. IsKnown image (IsStillOpen image (i + 1)) k (get_or (set known i o) k d)) (sym same)
        (subst (IsKnown image (IsStillOpen image (i + 1)) i) (sym (get_or-set_at known i i o d refl within)) (own o is))
    by false c test d inside =
        let other : c ≢ i = λ same. (let equal : nat_eq c i ≡ true = eq-eqb c i same in cc) in
        subst (IsKnown image (IsStillOpen image (i + 1)) c) (sym (get_or-set_other known i c o d other)) (later c other (get_or known c d) (are.at c d inside))

-- nothing is known
pub none_by_test : (o : Option State) → is_some o ≡ false → o ≡ None
none_by_test None test = refl
none_by_test (Some s) test = absurd (cc)

-- a class of which something was known
pub passed : (image : Image) (i : ℕ) (known : List (Option State)) (e : Option State) → is_some (get_or known i e) ≡ true → AreKnown image (IsStillOpen image i) known → AreKnown image (IsStillOpen image (i + 1)) known
passed image i known e some are =
    record { linked = are.linked; count = are.count; at = λ c d inside. by c d inside (get_or known c d) refl (are.at c d inside) }
  where
    by : (c : ℕ) (d : Option State) → c < length known → (o : Option State) → get_or known c d ≡ o → IsKnown image (IsStillOpen image i) c o → IsKnown image (IsStillOpen image (i + 1)) c o
    by c d inside (Some s) here state = state
    by c d inside None here still =
        let other : c ≢ i = λ same. (let nothing : is_some (get_or known i e) ≡ false = ap is_some (ap (λ k. get_or known k e) (sym same) ∙ (get_or_default known c e d inside ∙ here)) in cc) in
        record { declares = still.declares; begins = λ less. still.begins (omega (arith, less, other)) }

-- ---- a class that is known to be fresh, and one that isn't

fresh_state : (s : State) → class_state s ≡ Fresh → s ≡ state.Fresh
fresh_state state.Fresh is = refl
fresh_state (state.InProgress t) is = absurd (cc)
fresh_state state.Ready is = absurd (cc)
fresh_state state.Erroneous is = absurd (cc)

fresh_by_test : (s : State) → (of_state.ghosts).eq s state.Fresh ≡ true → s ≡ state.Fresh
fresh_by_test state.Fresh is = refl
fresh_by_test (state.InProgress t) is = absurd (cc)
fresh_by_test state.Ready is = absurd (cc)
fresh_by_test state.Erroneous is = absurd (cc)

-- the test whether a class is known to be fresh
pub known_by_test : (o : Option State) → option_eq (of_state.ghosts).eq o (Some state.Fresh) ≡ true → o ≡ Some state.Fresh
known_by_test None is = absurd (cc)
known_by_test (Some s) is = ap Some (fresh_by_test s is)

pub unknown_by_test : (o : Option State) → option_eq (of_state.ghosts).eq o (Some state.Fresh) ≡ false → o ≢ Some state.Fresh
unknown_by_test o fails is =
    let passes : option_eq (of_state.ghosts).eq o (Some state.Fresh) ≡ true = ap (λ p. option_eq (of_state.ghosts).eq p (Some state.Fresh)) is in
    cc

pub fresh_if_known : (image : Image) (IsOpen : ℕ → Type 0) (known : List (Option State)) → AreKnown image IsOpen known → (c : ℕ) (d : Option State) → c < length known → get_or known c d ≡ Some state.Fresh → first_state image c ≡ Fresh
fresh_if_known image IsOpen known are c d within is = sym (subst (IsKnown image IsOpen c) is (are.at c d within))

-- the latter declares no initialiser
pub none_unless_known : (image : Image) (known : List (Option State)) → AreKnown image (DeclaresNone image) known → (c : ℕ) (d : Option State) → c < length known → get_or known c d ≢ Some state.Fresh → initialiser image c ≡ None
none_unless_known image known are c d within other = by (get_or known c d) refl (are.at c d within)
  where
    by : (o : Option State) → get_or known c d ≡ o → IsKnown image (DeclaresNone image) c o → initialiser image c ≡ None
    by None at none = none
    by (Some s) at is =
        none_unless_fresh image are.linked c (omega (arith, are.count)) (λ fresh. other (at ∙ ap Some (fresh_state s (is ∙ fresh))))
