-- Hops one after another, by names that get more.
use Rattle.std.proofs.Common.{◌≡◌, ℕ, ◌+◌, ◌<◌, true, List, [], ◌∷◌, ◌++◌, length, map, take, Some, All, refl, ap, sym, ◌∙◌, subst, arith, inl, inr}
use Rattle.std.specs.Prelude.{slice_get, slice_index_or}
use Rattle.std.proofs.lemmas.Bool.{cases_eq}
use Rattle.std.proofs.lemmas.List.{get_or_push, get_or_append_left, length_push, map_push, take_more}
use Rattle.std.proofs.lemmas.List.Elements.{All-nil, All-cons, All-head, All-tail, All-weaker, All-push}
use Rattle.std.proofs.lemmas.Option.{same_Some}
use Rattle.dv_defs.specs.declared.code.Body.{Body}
use Rattle.dv_defs.specs.declared.code.Try.{Try}
use Rattle.dv_typing.specs.Flow.{Catcher, catchers}
use Rattle.dv_rules.specs.declared.flow.Edge.{Edge}
use Rattle.dv_rules.specs.Edges.{handler_edge}
use Rattle.dv_bases.specs.Bases.{Names, IsNumbered, IsWider}
use Rattle.dv_bases.proofs.Wider.{type_wider, numbered_wider}
use Rattle.dv_plan.specs.declared.hops.Hop.{Hop}
use Rattle.dv_plan.specs.Hops.{hop_edge, has_handler, LeadTo, AreHops}

pub to_handlers : (cs : List Catcher) → All (λ e. has_handler e ≡ true) (map handler_edge cs)
to_handlers [] = All-nil (λ e. has_handler e ≡ true)
to_handlers (c ∷ cs) = All-cons (λ e. has_handler e ≡ true) (handler_edge c) (map handler_edge cs) refl (to_handlers cs)

pub of_handlers : (cs : List Catcher) (edges : List Edge) → edges ≡ map handler_edge cs → All (λ e. has_handler e ≡ true) edges
of_handlers cs edges e = subst (λ es. All (λ x. has_handler x ≡ true) es) (sym e) (to_handlers cs)

abbrev Numbered : Names → List Hop → Type 0
Numbered names hops = All (λ h. IsNumbered names h.caught) hops

all_wider : (old new : Names) → IsWider old new → (hops : List Hop) → Numbered old hops → Numbered new hops
all_wider old new w hops all = All-weaker (λ h. IsNumbered old h.caught) (λ h. IsNumbered new h.caught) (λ h is. numbered_wider old new w h.caught is) hops all

same_edges : (old new : Names) → IsWider old new → (hops : List Hop) → Numbered old hops → map (hop_edge new) hops ≡ map (hop_edge old) hops
same_edges old new w [] all = refl
same_edges old new w (h ∷ hops) all =
    let first : hop_edge new h ≡ hop_edge old h = λ i. record { to = h.to; handler = Some (type_wider old new w h.caught (All-head (λ x. IsNumbered old x.caught) h hops all) i) } in
    (λ i. first i ∷ same_edges old new w hops (All-tail (λ x. IsNumbered old x.caught) h hops all) i)

-- what hops lead to stays
pub leads_wider : (old new : Names) → IsWider old new → (hops : List Hop) (edges : List Edge) → LeadTo old hops edges → LeadTo new hops edges
leads_wider old new w hops edges l = record { numbered = all_wider old new w hops l.numbered; lead = same_edges old new w hops l.numbered ∙ l.lead }

-- ---- one after another

pub none_lead : (names : Names) → LeadTo names [] []
none_lead names = record { numbered = All-nil (λ h. IsNumbered names h.caught); lead = refl }

-- one more of the edges
pub one_more : (old new : Names) → IsWider old new → (hops : List Hop) (h : Hop) (edges : List Edge) (k : ℕ) (edge : Edge) → LeadTo old hops (take k edges) → IsNumbered new h.caught → k < length edges → edge ≡ slice_index_or edges k edge → hop_edge new h ≡ edge
    → LeadTo new (hops ++ h ∷ []) (take (k + 1) edges)
one_more old new w hops h edges k edge l numbered within there leads =
    let wide = leads_wider old new w hops (take k edges) l in
    record {
      numbered = All-push (λ x. IsNumbered new x.caught) hops h wide.numbered numbered;
      lead = map_push (hop_edge new) hops h ∙ (ap (λ es. es ++ hop_edge new h ∷ []) wide.lead ∙ (ap (λ e. take k edges ++ e ∷ []) (leads ∙ there) ∙ sym (take_more edges k edge within)));
    }

-- and of the lists
pub all_none : (names : Names) (body : Body) → AreHops names body 0 []
all_none names body = record { count = refl; each = λ k entry h e. absurd (omega (arith, h)) }

pub list_more : (old new : Names) → IsWider old new → (body : Body) (n : ℕ) (hops : List (List Hop)) (hs : List Hop) (entry : Try) → AreHops old body n hops → slice_get body.tries n ≡ Some entry → LeadTo new hs (map handler_edge (catchers body entry.handlers))
    → AreHops new body (n + 1) (hops ++ hs ∷ [])
list_more old new w body n hops hs entry a at l =
    record {
      count = length_push hops hs ∙ omega (arith, a.count);
      each = λ k other h e.
          elim (cases_eq k n) [
            | inl same ↦
                let is : other ≡ entry = same_Some other entry (sym e ∙ (ap (slice_get body.tries) same ∙ at)) in
                let there : slice_index_or (hops ++ hs ∷ []) k [] ≡ hs = subst (λ (j : ℕ). slice_index_or (hops ++ hs ∷ []) j [] ≡ hs) (sym same) (get_or_push hops hs [] n a.count) in
                subst (λ xs. LeadTo new xs (map handler_edge (catchers body other.handlers))) (sym there)
                (subst (λ (t : Try). LeadTo new hs (map handler_edge (catchers body t.handlers))) (sym is) l)
            | inr differs ↦
                let less : k < n = omega (arith, h, differs) in
                subst (λ xs. LeadTo new xs (map handler_edge (catchers body other.handlers))) (sym (get_or_append_left hops (hs ∷ []) [] k (omega (arith, less, a.count))))
                (leads_wider old new w (slice_index_or hops k []) (map handler_edge (catchers body other.handlers)) (a.each k other less e))
          ];
    }

pub hops_wider : (old new : Names) → IsWider old new → (body : Body) (n : ℕ) (hops : List (List Hop)) → AreHops old body n hops → AreHops new body n hops
hops_wider old new w body n hops a =
    record { count = a.count; each = λ k entry h e. leads_wider old new w (slice_index_or hops k []) (map handler_edge (catchers body entry.handlers)) (a.each k entry h e) }
