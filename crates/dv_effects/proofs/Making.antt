-- Steps tell what is made, and what a method's steps and words are stays when there are more names.
use Rattle.std.proofs.Common.{◌≡◌, ◌≤◌, ◌+◌, ℕ, List, length, Option, Some, None, refl, sym, ap, ◌∙◌, subst, arith, length-append}
use Rattle.std.specs.Prelude.{IfSome, map, option_map}
use Rattle.dv_defs.specs.Images.{Image}
use Rattle.dv_defs.specs.Op.{Code}
use Rattle.dv_defs.specs.Pools.{own_type}
use Rattle.dv_typing.specs.declared.typing.RegType.{RegType}
use Rattle.dv_typing.specs.declared.typing.RegType.TheVariants as ty
use Rattle.dv_typing.specs.Statics.{At, fetch}
use Rattle.dv_typing.specs.Demands.{made_at, made_by}
use Rattle.dv_bases.specs.declared.words.Reference.{Reference}
use Rattle.dv_bases.specs.declared.states.Words.{Words}
use Rattle.dv_bases.specs.Bases.{Names, base_count, word_type, IsNumbered, IsWord, IsWider}
use Rattle.dv_bases.specs.States.{AreWords, caught_of, state_of}
use Rattle.dv_bases.proofs.Wider.{type_wider}
use Rattle.dv_effects.specs.declared.effects.Step.{Step}
use Rattle.dv_effects.specs.Effects.{object_type}
use Rattle.dv_effects.specs.Made.{AreMade, AreSteps, HasStep, IsMade, IsOwn, makes_at, makes_in}
use Rattle.dv_effects.proofs.StepWider.{all_wider, pending_wider, says_wider, step_wider}

abbrev made_of : Option At → Option ℕ
made_of o = elim o [ None ↦ None | Some x ↦ made_by x.op ]

-- the step at an address tells what is made there
pub step_made_there : (names : Names) (code : Code) (steps : List (Option Step)) (a : ℕ) → HasStep names code steps a → IsMade names code steps a
step_made_there names code steps a has =
    let there : makes_at steps a ≡ has.step.makes = ap makes_in has.there in
    let by : made_by has.insn.op ≡ made_at names.image code.method a = sym (ap made_of has.fetched) in
    record {
      told = ap (option_map (word_type names)) there ∙ (has.is_step.made ∙ ap (option_map (object_type names.image)) by);
      word = subst (λ o. IfSome o (IsWord names)) (sym there) has.is_step.made_word;
    }

-- the steps of a method tell what its instructions make
pub steps_made : (names : Names) (code : Code) (steps : List (Option Step)) → AreSteps names code steps → AreMade names code steps
steps_made names code steps are = λ a begins. step_made_there names code steps a (are a begins)

module _ (old new : Names) (wider : IsWider old new) where
  has_step_wider : (code : Code) (steps : List (Option Step)) (a : ℕ) → HasStep old code steps a → HasStep new code steps a
  has_step_wider code steps a has =
      record {
        insn = has.insn;
        fetched = ap (λ (i : Image). fetch i code.method.id a) wider.image ∙ has.fetched;
        step = has.step;
        there = has.there;
        is_step = step_wider old new wider code a has.insn.op has.step has.is_step;
      }

  pub steps_wider : (code : Code) (steps : List (Option Step)) → AreSteps old code steps → AreSteps new code steps
  steps_wider code steps are = λ a begins. has_step_wider code steps a (are a begins)

  pub own_wider : (code : Code) (own : ℕ) → IsOwn old code own → IsOwn new code own
  own_wider code own is =
      let t : Image → RegType = λ i. ty.Class (own_type i code.method) in
      record { word = (says_wider old new wider own (t old.image) is).word; said = (says_wider old new wider own (t old.image) is).said ∙ sym (ap t wider.image) }

  more_bases : base_count old ≤ base_count new
  more_bases =
      let classes : length new.image.classes ≡ length old.image.classes = ap (λ (i : Image). length i.classes) wider.image in
      let more : length new.more ≡ length old.more + length wider.behind = ap length wider.more ∙ length-append old.more wider.behind in
      omega (arith, classes, more)

  caught_wider : (c : Option Reference) → IfSome c (IsNumbered old) → IfSome c (IsNumbered new)
  caught_wider None h = tt
  caught_wider (Some r) h = omega (arith, h, more_bases)

  caught_same : (c : Option Reference) → IfSome c (IsNumbered old) → caught_of new c ≡ caught_of old c
  caught_same None h = refl
  caught_same (Some r) h = ap Some (type_wider old new wider r h)

  -- words of the fewer names are words of the more, and say the same
  pub words_wider : (w : Words) → AreWords old w → AreWords new w
  words_wider w h =
      record {
        regs = (all_wider old new wider w.regs.items (map (word_type old) w.regs.items) (record { words = h.regs; said = refl })).words;
        result = (pending_wider old new wider w.result (state_of old w).result (record { word = h.result; said = refl })).word;
        caught = caught_wider w.caught h.caught;
      }

  pub state_wider : (w : Words) → AreWords old w → state_of new w ≡ state_of old w
  state_wider w h =
      let regs = all_wider old new wider w.regs.items (map (word_type old) w.regs.items) (record { words = h.regs; said = refl }) in
      let result = pending_wider old new wider w.result (state_of old w).result (record { word = h.result; said = refl }) in
      (λ i. record { regs = regs.said i; result = result.said i; caught = caught_same w.caught h.caught i; this_pending = w.this_pending })
