-- What has gone on is what goes on in the flow that gathers.
use Rattle.std.proofs.Common.{◌≡◌, ℕ, List, [], ◌∷◌, map, refl, sym, ap, ◌∙◌}
use Rattle.dv_worklist.specs.Beside.{onward_kept}
use Rattle.dv_typing.specs.declared.typing.RegState.{RegState}
use Rattle.dv_typing.specs.Flow.{Catcher}
use Rattle.law_gather.specs.Gathered.{onward_caught}
use Rattle.dv_rules.specs.Edges.{handler_edge}
use Rattle.dv_bases.specs.Bases.{Names}
use Rattle.dv_plan.specs.declared.hops.Hop.{Hop}
use Rattle.dv_plan.specs.Hops.{hop_edge, LeadTo}
use Rattle.dv_infer.specs.Along.{gone_along, to_target, to_handler}

-- ---- to targets

pub kept_targets : (names : Names) (after : RegState) (tos : List ℕ) → map (onward_kept names) (map (λ (to : ℕ). record { to = to; state = after }) tos) ≡ map (to_target names after) tos
kept_targets names after [] = refl
kept_targets names after (to ∷ tos) = ap (λ os. to_target names after to ∷ os) (kept_targets names after tos)

-- ---- from a try entry

along_hops : (names : Names) (s : RegState) (hs : List Hop) → map (onward_kept names) (map (gone_along s s) (map (hop_edge names) hs)) ≡ map (to_handler names s) hs
along_hops names s [] = refl
along_hops names s (h ∷ hs) = ap (λ os. to_handler names s h ∷ os) (along_hops names s hs)

along_caught : (s : RegState) (cs : List Catcher) → map (gone_along s s) (map handler_edge cs) ≡ onward_caught s cs
along_caught s [] = refl
along_caught s (c ∷ cs) = ap (λ os. gone_along s s (handler_edge c) ∷ os) (along_caught s cs)

pub kept_caught : (names : Names) (s : RegState) (hs : List Hop) (cs : List Catcher) → LeadTo names hs (map handler_edge cs) → map (to_handler names s) hs ≡ map (onward_kept names) (onward_caught s cs)
kept_caught names s hs cs l =
    sym (along_hops names s hs) ∙ (ap (λ es. map (onward_kept names) (map (gone_along s s) es)) l.lead ∙ ap (map (onward_kept names)) (along_caught s cs))
