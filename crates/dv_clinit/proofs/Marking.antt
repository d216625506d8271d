-- What is known of classes once the first of an image's methods are looked at.
use Rattle.std.proofs.Common.{◌≡◌, ◌≢◌, ◌<◌, ◌≤◌, ◌+◌, ℕ, Bool, true, false, List, length, get_or, set, Option, Some, None, refl, sym, ap, subst, ◌∙◌, arith}
use Rattle.std.specs.Prelude.{nat_eq}
use Rattle.std.proofs.lemmas.Bool.{eqb-true, eq-eqb}
use Rattle.std.proofs.lemmas.Grind.{get_or-set_at}
use Rattle.std.proofs.lemmas.List.{get_or-set_other, length-set}
use Rattle.dv_machine.specs.Classes.{Fresh}
use Rattle.dv_defs.specs.Images.{Image}
use Rattle.dv_defs.specs.Linked.{IsImage}
use Rattle.dv_defs.specs.Pools.{Method}
use Rattle.dv_clinit.specs.declared.states.State.{State}
use Rattle.dv_clinit.specs.declared.states.State.TheVariants as state
use Rattle.dv_clinit.specs.Initialisers.{initialiser_at}
use Rattle.dv_clinit.specs.States.{class_state}
use Rattle.dv_clinit.specs.Births.{AreKnown, DeclaresNone, IsKnown, first_state}
use Rattle.dv_clinit.proofs.BirthLaws.{fresh_with_own}
use Rattle.dv_clinit.proofs.Declared.{class_inside, declares, declares_none}

-- nothing is known only of a class of which none of the first methods is the initialiser
abbrev pub IsMarked : Image → ℕ → ℕ → Option State → Type 0
IsMarked image i c None = (j : ℕ) (m : Method) → j < i → initialiser_at image j ≡ Some m → m.info.class.0 ≢ c
IsMarked image i c (Some s) = class_state s ≡ first_state image c

pub record AreMarked (image : Image) (i : ℕ) (known : List (Option State)) : Type 0 where
  pub linked : IsImage image
  pub count : length known ≡ length image.classes
  pub at : (c : ℕ) (d : Option State) → c < length known → IsMarked image i c (get_or known c d)

-- a method that initialises no class
pub pass_over : (image : Image) (i : ℕ) (known : List (Option State)) → AreMarked image i known → initialiser_at image i ≡ None → AreMarked image (i + 1) known
pass_over image i known are none =
    record { linked = are.linked; count = are.count; at = λ c d within. by c (get_or known c d) (are.at c d within) }
  where
    later : (c : ℕ) → IsMarked image i c None → (j : ℕ) (m : Method) → j < i + 1 → initialiser_at image j ≡ Some m → m.info.class.0 ≢ c
    later c before j m less some = step (nat_eq j i) refl
      where
        step : (b : Bool) → nat_eq j i ≡ b → m.info.class.0 ≢ c
        step true test =
            let nothing : initialiser_at image j ≡ None = ap (initialiser_at image) (eqb-true j i test) ∙ none in
            absurd (cc)
        step false test =
            let other : j ≢ i = λ same. (let equal : nat_eq j i ≡ true = eq-eqb j i same in cc) in
            before j m (omega (arith, other)) some

    by : (c : ℕ) (o : Option State) → IsMarked image i c o → IsMarked image (i + 1) c o
    by c None before = later c before
    by c (Some s) is = is

-- a method that initialises its class
pub mark : (image : Image) (i : ℕ) (known : List (Option State)) (m : Method) → AreMarked image i known → initialiser_at image i ≡ Some m → AreMarked image (i + 1) (set known m.info.class.0 (Some state.Fresh))
mark image i known m are some =
    record {
      linked = are.linked;
      count = length-set known m.info.class.0 (Some state.Fresh) ∙ are.count;
      at = λ c d within. by (nat_eq c m.info.class.0) c refl d (omega (arith, within, length-set known m.info.class.0 (Some state.Fresh)));
    }
  where
    fresh : first_state image m.info.class.0 ≡ Fresh
    fresh = let n = declares image i m some in fresh_with_own image m.info.class.0 n.0 (class_inside image i m some) n.1

    later : (c : ℕ) → c ≢ m.info.class.0 → (o : Option State) → IsMarked image i c o → IsMarked image (i + 1) c o
    later c other None before = λ j n less is. step j n less is (nat_eq j i) refl
      where
        step : (j : ℕ) (n : Method) → j < i + 1 → initialiser_at image j ≡ Some n → (b : Bool) → nat_eq j i ≡ b → n.info.class.0 ≢ c
        step j n less is true test same =
            let both : Some n ≡ Some m = sym is ∙ (ap (initialiser_at image) (eqb-true j i test) ∙ some) in
            let equal : n ≡ m = cc in
            other (sym same ∙ ap (λ (x : Method). x.info.class.0) equal)
        step j n less is false test same =
            let apart : j ≢ i = λ equal. (let passes : nat_eq j i ≡ true = eq-eqb j i equal in cc) in
            before j n (omega (arith, apart)) is same
    later c other (Some s) is = is

    by : (b : Bool) (c : ℕ) → nat_eq c m.info.class.0 ≡ b → (d : Option State) → c < length known → IsMarked image (i + 1) c (get_or (set known m.info.class.0 (Some state.Fresh)) c d)
    by true c test d within =
        let same : c ≡ m.info.class.0 = eqb-true c m.info.class.0 test in
        let here : get_or (set known m.info.class.0 (Some state.Fresh)) c d ≡ Some state.Fresh = get_or-set_at known m.info.class.0 c (Some state.Fresh) d same (omega (arith, same)) in
        subst (IsMarked image (i + 1) c) (sym here) (sym (ap (first_state image) same ∙ fresh))
    by false c test d within =
        let other : c ≢ m.info.class.0 = λ same. (let equal : nat_eq c m.info.class.0 ≡ true = eq-eqb c m.info.class.0 same in cc) in
        subst (IsMarked image (i + 1) c) (sym (get_or-set_other known m.info.class.0 c (Some state.Fresh) d other)) (later c other (get_or known c d) (are.at c d within))

-- all methods are looked at
pub all_marked : (image : Image) (i : ℕ) (known : List (Option State)) → AreMarked image i known → length image.methods ≤ i → AreKnown image (DeclaresNone image) known
all_marked image i known are all =
    record { linked = are.linked; count = are.count; at = λ c d within. by c (get_or known c d) (are.at c d within) }
  where
    by : (c : ℕ) (o : Option State) → IsMarked image i c o → IsKnown image (DeclaresNone image) c o
    by c None before = declares_none image c (λ k m within some. before k m (omega arith) some)
    by c (Some s) is = is
