-- What a table by class says of the places of kinds stays true.
use Rattle.std.proofs.Common.{◌≡◌, ℕ, zero, suc, ◌++◌, inl, inr, Some, List, [], ◌∷◌, sym, ap, ◌∙◌, subst}
use Rattle.std.specs.Prelude.{slice_get}
use Rattle.dv_words.specs.declared.state.Kind.{Kind}
use Rattle.dv_heap.specs.Objects.{IsContinued}
use Rattle.dv_heap.specs.Placing.{kind_of_class, AreNoted, NotesAtMost}

-- ---- as kinds are added

get_still : (ks more : List Kind) (k : Kind) (p : ℕ) → slice_get ks p ≡ Some k → slice_get (ks ++ more) p ≡ Some k
get_still [] more k p e = absurd (cc)
get_still (x ∷ ks) more k zero e = e
get_still (x ∷ ks) more k (suc p) e = get_still ks more k p e

pub noted_still : (ks ks' : List Kind) (es : List ℕ) → AreNoted ks es → IsContinued ks ks' → AreNoted ks' es
noted_still ks ks' es h c class place e =
    subst (λ (us : List Kind). slice_get us place ≡ Some (kind_of_class class)) (sym c.1) (get_still ks c.0 (kind_of_class class) place (h class place e))

-- ---- as a place is noted

pub noted_more : (ks : List Kind) (es es' : List ℕ) (class place : ℕ) → AreNoted ks es → slice_get ks place ≡ Some (kind_of_class class) → NotesAtMost class place es es' → AreNoted ks es'
noted_more ks es es' class place h g n other there e =
    elim (n other there e) [
      | inl old ↦ h other there old
      | inr is ↦ ap (slice_get ks) is.1 ∙ g ∙ ap (λ (c : ℕ). Some (kind_of_class c)) (sym is.0)
    ]
