-- The ways on from one address after another.
use Rattle.std.proofs.Common.{◌≡◌, ℕ, ◌+◌, ◌<◌, false, List, [], ◌∷◌, ◌++◌, map, Option, Some, None, refl, ap, sym, ◌∙◌, subst, arith, inl, inr}
use Rattle.std.specs.Prelude.{IfSome, slice_index_or, filter}
use Rattle.std.proofs.lemmas.Bool.{cases_eq}
use Rattle.std.proofs.lemmas.List.{get_or_push, get_or_append_left, length_push}
use Rattle.std.proofs.lemmas.Option.{same_Some}
use Rattle.dv_defs.specs.Images.{Image}
use Rattle.dv_defs.specs.Op.{Code}
use Rattle.dv_defs.specs.Tiling.{begins_insn}
use Rattle.dv_typing.specs.Statics.{At, fetch}
use Rattle.dv_typing.specs.Flow.{targets}
use Rattle.law_flow.specs.Clean.{IsClean}
use Rattle.dv_rules.specs.declared.flow.Edge.{Edge}
use Rattle.dv_rules.specs.Edges.{plain_edge}
use Rattle.dv_rules.specs.EdgeParts.{target_edges}
use Rattle.dv_plan.specs.declared.ways.Ways.{Ways}
use Rattle.law_gather.specs.Gathered.{covering_entry}
use Rattle.dv_plan.specs.Ways.{IsNextAlone, IsWays, HasWays, AreWays}

pub none_yet : (image : Image) (code : Code) → AreWays image code 0 []
none_yet image code = record { count = refl; each = λ at h. absurd (omega (arith, h)) }

pub one_more : (image : Image) (code : Code) (n : ℕ) (ways : List (Option Ways)) (o : Option Ways) → AreWays image code n ways → HasWays image code n o → AreWays image code (n + 1) (ways ++ o ∷ [])
one_more image code n ways o a has =
    record {
      count = length_push ways o ∙ omega (arith, a.count);
      each = λ at h.
          elim (cases_eq at n) [
            | inl same ↦
                subst (λ (k : ℕ). HasWays image code k (slice_index_or (ways ++ o ∷ []) k None)) (sym same)
                (subst (λ (p : Option Ways). HasWays image code n p) (sym (get_or_push ways o None n a.count)) has)
            | inr other ↦
                let less : at < n = omega (arith, h, other) in
                subst (λ (p : Option Ways). HasWays image code at p) (sym (get_or_append_left ways (o ∷ []) None at (omega (arith, less, a.count)))) (a.each at less)
          ];
    }

-- where no instruction begins nothing is fetched
pub none_there : (image : Image) (code : Code) (at : ℕ) → IsClean image code → begins_insn code.tiles at ≡ false → HasWays image code at None
none_there image code at clean none = record { there = λ x fetched. absurd (let is = clean.only at x fetched in cc (is, none)); only = λ w e. absurd (cc) }

addresses_back : (tos : List ℕ) → map (λ (e : Edge). e.to) (map plain_edge tos) ≡ tos
addresses_back [] = refl
addresses_back (to ∷ tos) = ap (λ ts. to ∷ ts) (addresses_back tos)

-- the ways on, by the edges to targets
pub are_ways : (code : Code) (at : ℕ) (x : At) (w : Ways) (edges : List Edge) → edges ≡ target_edges code x → w.targets ≡ map (λ (e : Edge). e.to) edges → IfSome w.next (IsNextAlone code at x) → w.covering ≡ covering_entry code at x → IsWays code at x w
are_ways code at x w edges are tos next covering =
    let goes = filter (begins_insn code.tiles) (targets x) in
    let back : w.targets ≡ goes = tos ∙ (ap (map (λ (e : Edge). e.to)) are ∙ addresses_back goes) in
    record { targets = back; next = next; covering = covering }

-- what is fetched is one
pub of_fetched : (image : Image) (code : Code) (at : ℕ) (x y : At) (w : Ways) → fetch image code.method.id at ≡ Some x → fetch image code.method.id at ≡ Some y → IsWays code at x w → IsWays code at y w
of_fetched image code at x y w fx fy is = subst (λ (z : At). IsWays code at z w) (same_Some x y (sym fx ∙ fy)) is
