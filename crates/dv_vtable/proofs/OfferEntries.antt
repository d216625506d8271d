-- Offers as they are kept: the first methods of numbers, and by their places the others.
use Rattle.std.specs.Prelude.{ℕ, zero, suc, ◌≡◌, ◌<◌, true, false, List, [], ◌∷◌, ◌++◌, length, nat_eq, slice_get, Some}
use Rattle.std.specs.List.{list_any}
use Rattle.std.proofs.Common.{refl, ap, arith, get_or, set}
use Rattle.dv_defs.specs.declared.names.MethodId.{MethodId}
use Rattle.dv_vtable.specs.Numbered.{numbers_of}
use Rattle.dv_vtable.specs.Offers.{offer_entry, offers_in}
use Rattle.dv_vtable.proofs.Inserting.{neither}

abbrev pub Others : Type 0
Others = List (List MethodId)

pub offers_length : (es : List (ℕ × MethodId)) (os : Others) → length os ≡ length es → length (offers_in es os) ≡ length es
offers_length [] os many = refl
offers_length (e ∷ es) [] many = absurd (omega arith)
offers_length (e ∷ es) (o ∷ os) many = ap suc (offers_length es os (omega arith))

pub offer_at : (es : List (ℕ × MethodId)) (os : Others) (i : ℕ) (e : ℕ × MethodId) (o : List MethodId) → slice_get es i ≡ Some e → slice_get os i ≡ Some o
    → slice_get (offers_in es os) i ≡ Some (e.0, e.1 ∷ o)
offer_at [] os i e o first others = absurd (cc)
offer_at (f ∷ es) [] i e o first others = absurd (cc)
offer_at (f ∷ es) (p ∷ os) zero e o first others =
    let firsts : f ≡ e = cc in
    let rest : p ≡ o = cc in
    λ j. Some ((firsts j).0, (firsts j).1 ∷ rest j)
offer_at (f ∷ es) (p ∷ os) (suc i) e o first others = offer_at es os i e o first others

-- one more of a number that is there
pub offered_at : (es : List (ℕ × MethodId)) (os : Others) (n i d : ℕ) (o : List MethodId) (v : MethodId) → length os ≡ length es → i < length (numbers_of es)
    → nat_eq n (get_or (numbers_of es) i d) ≡ true → ((j : ℕ) → j < i → nat_eq n (get_or (numbers_of es) j d) ≡ false)
    → offers_in es (set os i (get_or os i o ++ v ∷ [])) ≡ offer_entry nat_eq (offers_in es os) n v
offered_at [] os n i d o v many within here before = absurd (omega arith)
offered_at (e ∷ es) [] n i d o v many within here before = absurd (omega arith)
offered_at (e ∷ es) (p ∷ os) n zero d o v many within here before = rw here refl
offered_at (e ∷ es) (p ∷ os) n (suc i) d o v many within here before =
    rw (before 0 (omega arith)) (ap (λ fs. (e.0, e.1 ∷ p) ∷ fs) (offered_at es os n i d o v (omega arith) (omega arith) here (λ j less. before (suc j) (omega arith))))

-- the first of a number
pub offered_last : (es : List (ℕ × MethodId)) (os : Others) (n : ℕ) (v : MethodId) → length os ≡ length es → list_any (nat_eq n) (numbers_of es) ≡ false
    → offers_in (es ++ (n, v) ∷ []) (os ++ [] ∷ []) ≡ offer_entry nat_eq (offers_in es os) n v
offered_last [] [] n v many none = refl
offered_last [] (o ∷ os) n v many none = absurd (omega arith)
offered_last (e ∷ es) [] n v many none = absurd (omega arith)
offered_last (e ∷ es) (o ∷ os) n v many none =
    let parts = neither (nat_eq n e.0) (list_any (nat_eq n) (numbers_of es)) none in
    rw parts.0 (ap (λ fs. (e.0, e.1 ∷ o) ∷ fs) (offered_last es os n v (omega arith) parts.1))
