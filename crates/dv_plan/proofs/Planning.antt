-- The parts of a plan, by the names that there are in the end.
use Rattle.std.specs.Prelude.{slice_get, slice_index_or, option_map}
use Rattle.std.proofs.lemmas.Option.{same_Some, slice_get-map, slice_get_within}
use Rattle.dv_typing.specs.Statics.{At, fetch}
use Rattle.dv_typing.specs.Flow.{Catcher, catchers}
use Rattle.law_flow.specs.Clean.{IsClean}
use Rattle.law_infer.proofs.Tiles.{within}
use Rattle.law_blocks.specs.Blocks.{AreBefore}
use Rattle.dv_rules.specs.declared.flow.Edge.{Edge}
use Rattle.dv_rules.specs.Edges.{handler_edge}
use Rattle.dv_plan.specs.declared.hops.Hop.{Hop}
use Rattle.dv_plan.specs.declared.marks.Mark.{Mark}
use Rattle.dv_plan.specs.declared.marks.Mark.TheVariants as mark
use Rattle.dv_plan.specs.Hops.{hop_edge}
use Rattle.dv_plan.specs.Marks.{mark_at, address_in, before_by, AreMarks, LeadToHeads}
use Rattle.std.proofs.Common.{ℕ, ap, ◌≡◌, length, sym, ◌∙◌, subst, ◌<◌, List, [], Option, Some, None, refl, arith}
use Rattle.dv_defs.specs.Images.{Image}
use Rattle.dv_defs.specs.Pools.{class_type}
use Rattle.dv_defs.specs.Op.{Code}
use Rattle.dv_typing.specs.declared.typing.RegType.TheVariants as ty
use Rattle.dv_typing.specs.Transfer.{entry_state}
use Rattle.dv_bases.specs.Bases.{Names, IsWider}
use Rattle.dv_bases.specs.States.{AreWords, state_of}
use Rattle.dv_bases.proofs.Wider.{wider_trans}
use Rattle.dv_effects.specs.Effects.{object_type}
use Rattle.dv_effects.specs.Said.{Says}
use Rattle.dv_effects.proofs.Making.{own_wider, words_wider, state_wider}
use Rattle.dv_plan.specs.declared.plan.Plan.{Plan}
use Rattle.dv_plan.specs.Hops.{AreHops}
use Rattle.dv_plan.specs.Ways.{AreWays}
use Rattle.dv_plan.specs.Steps.{AreStepsTo}
use Rattle.dv_plan.specs.Plans.{IsPlan}
use Rattle.dv_plan.proofs.Hopping.{hops_wider}

-- ---- what the marks say

after_of : (m : Mark) (p : ℕ) → address_in m ≡ Some p → m ≡ mark.After p
after_of (mark.After q) p e = ap mark.After (same_Some q p e)
after_of mark.Unseen p e = absurd (cc)
after_of mark.Head p e = absurd (cc)

hop_there : (names : Names) (o : Option Hop) (h : Catcher) → option_map (hop_edge names) o ≡ Some (handler_edge h) → (hop : Hop) × (o ≡ Some hop) × (hop.to ≡ h.to)
hop_there names None h e = absurd (cc)
hop_there names (Some hop) h e = (hop, refl, ap (λ (x : Edge). x.to) (same_Some (hop_edge names hop) (handler_edge h) e))

pub are_before : (image : Image) (code : Code) (names : Names) (marks : List Mark) (hops : List (List Hop)) → IsClean image code → AreMarks image code (length code.body.units) marks → mark_at marks 0 ≡ mark.Head →
    LeadToHeads marks hops → AreHops names code.body (length code.body.tries) hops → AreBefore image code (before_by marks)
are_before image code names marks hops clean are first lead have =
    let inside : (at : ℕ) (x : At) → fetch image code.method.id at ≡ Some x → at < length code.body.units =
    λ at x f. let w = (within code.body.units 0 0 code.tiles clean.tiled at (clean.only at x f)).1 in omega (arith, w) in
    record {
      entry = ap address_in first;
      straight = λ at to e. are.straight at to (after_of (mark_at marks to) at e);
      alone = λ at x f k to there p e. are.alone p to (after_of (mark_at marks to) p e) at x (inside at x f) f k there;
      handlers = λ entry t at k h there.
          let hs = slice_index_or hops entry [] in
          let l = have.each entry t (slice_get_within code.body.tries entry t at) at in
          let edge : option_map (hop_edge names) (slice_get hs k) ≡ Some (handler_edge h) =
          sym (slice_get-map (hop_edge names) hs k) ∙ (ap (λ es. slice_get es k) l.lead ∙ (slice_get-map handler_edge (catchers code.body t.handlers) k ∙ ap (option_map handler_edge) there)) in
          let hop = hop_there names (slice_get hs k) h edge in
          ap address_in (subst (λ (to : ℕ). mark_at marks to ≡ mark.Head) hop.2 (lead entry k hop.0 hop.1));
    }

module _ (image : Image) (code : Code) (first entered owned hopped stepped : Names) (same : first.image ≡ image)
    (one : IsWider first entered) (two : IsWider entered owned) (three : IsWider owned hopped) (four : IsWider hopped stepped) where
  later : IsWider owned stepped
  later = wider_trans owned hopped stepped three four

  all_later : IsWider entered stepped
  all_later = wider_trans entered owned stepped two later

  pub whole : IsWider first stepped
  whole = wider_trans first entered stepped one all_later

  owned_image : owned.image ≡ image
  owned_image = two.image ∙ (one.image ∙ same)

  pub is_plan : (p : Plan) → AreWords entered p.entry → state_of entered p.entry ≡ entry_state image code.method code.body.registers →
      Says owned p.own (object_type image code.method.info.class.0) → AreHops hopped code.body (length code.body.tries) p.hops.items →
      AreStepsTo image stepped code (length code.body.units) p.steps.items → AreWays image code (length code.body.units) p.ways.items → AreBefore image code (before_by p.marks.items) → IsPlan image stepped code p
  is_plan p words state own hops steps ways before =
      record {
        entry_words = words_wider entered stepped all_later p.entry words;
        entry_state = state_wider entered stepped all_later p.entry words ∙ state;
        own = own_wider owned stepped later code p.own (subst (λ (i : Image). Says owned p.own (ty.Class (class_type i code.method.info.class.0))) (sym owned_image) own);
        steps = steps;
        ways = ways;
        before = before;
        hops = hops_wider hopped stepped four code.body (length code.body.tries) p.hops.items hops;
      }
