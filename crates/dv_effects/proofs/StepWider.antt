-- Words, effects and steps stay what they are when there are more names.
use Rattle.std.proofs.Common.{◌≡◌, ℕ, List, [], ◌∷◌, Bool, Option, Some, None, refl, sym, ap, ◌∙◌, subst}
use Rattle.std.specs.Prelude.{All, IfSome, map, option_map}
use Rattle.std.proofs.lemmas.List.Elements.{All-head, All-tail}
use Rattle.dv_defs.specs.Images.{Image}
use Rattle.dv_defs.specs.Op.{Op, Code}
use Rattle.dv_defs.specs.Pools.{Method}
use Rattle.dv_typing.specs.declared.typing.RegType.{RegType}
use Rattle.dv_typing.specs.declared.typing.PendingType.{PendingType}
use Rattle.dv_typing.specs.declared.typing.PendingType.TheVariants as pend
use Rattle.dv_typing.specs.declared.typing.RegState.{RegState}
use Rattle.dv_typing.specs.RegTypes.{Types, type_at}
use Rattle.dv_typing.specs.Demands.{made_by}
use Rattle.dv_typing.specs.Transfer.{after_constructor, out, write_type}
use Rattle.dv_bases.specs.declared.states.PendingWord.{PendingWord}
use Rattle.dv_bases.specs.declared.states.PendingWord.TheVariants as word
use Rattle.dv_bases.specs.Bases.{Names, word_type, IsWord, IsWider}
use Rattle.dv_bases.specs.States.{IsPending, pending_of}
use Rattle.dv_bases.proofs.Wider.{word_wider, is_word_wider}
use Rattle.dv_effects.specs.declared.effects.Effect.{Effect}
use Rattle.dv_effects.specs.declared.effects.Effect.TheVariants as effect
use Rattle.dv_effects.specs.declared.effects.Step.{Step}
use Rattle.dv_effects.specs.Effects.{HasRoomFor, HasWords, IsStep, object_type, registers_after}
use Rattle.dv_effects.specs.Said.{Says, SayAll, SaysPending}
use Rattle.dv_effects.proofs.Saying.{says_none, says_cons}

module _ (old new : Names) (wider : IsWider old new) where
  pub says_wider : (w : ℕ) (t : RegType) → Says old w t → Says new w t
  says_wider w t s = record { word = is_word_wider old new wider w s.word; said = word_wider old new wider w s.word ∙ s.said }

  each_wider : (ws : List ℕ) → All (IsWord old) ws → SayAll new ws (map (word_type old) ws)
  each_wider [] all = says_none new
  each_wider (w ∷ ws) all =
      says_cons new w (word_type old w) ws (map (word_type old) ws)
      (says_wider w (word_type old w) (record { word = All-head (IsWord old) w ws all; said = refl }))
      (each_wider ws (All-tail (IsWord old) w ws all))

  pub all_wider : (ws : List ℕ) (ts : Types) → SayAll old ws ts → SayAll new ws ts
  all_wider ws ts h = subst (λ us. SayAll new ws us) h.said (each_wider ws h.words)

  pending_word_wider : (p : PendingWord) → IsPending old p → IsPending new p
  pending_word_wider (word.One w) h = is_word_wider old new wider w h
  pending_word_wider word.None h = tt
  pending_word_wider word.Long h = tt

  pending_same : (p : PendingWord) → IsPending old p → pending_of new p ≡ pending_of old p
  pending_same (word.One w) h = ap pend.One (word_wider old new wider w h)
  pending_same word.None h = refl
  pending_same word.Long h = refl

  pub pending_wider : (p : PendingWord) (t : PendingType) → SaysPending old p t → SaysPending new p t
  pending_wider p t s = record { word = pending_word_wider p s.word; said = pending_same p s.word ∙ s.said }

  pub has_words_wider : (e : Effect) → HasWords old e → HasWords new e
  has_words_wider (effect.Put k w) h = is_word_wider old new wider w h
  has_words_wider (effect.New k at) h = h
  has_words_wider e h = tt

  registers_same : (m : Method) (e : Effect) (s : RegState) → HasWords old e → registers_after new m e s ≡ registers_after old m e s
  registers_same m (effect.Put k w) s h = ap (write_type s.regs k) (word_wider old new wider w h)
  registers_same m (effect.Construct k) s h = ap (λ (i : Image). (after_constructor i m s (type_at s.regs k)).regs) wider.image
  registers_same m e s h = refl

  image_same : (X : Type 0) (f : Image → X) → f old.image ≡ f new.image
  image_same X f = sym (ap f wider.image)

  module _ (m : Method) (at : ℕ) (op : Op) (e : Effect) (h : HasWords old e) where
    pub registers_wider : ((s : RegState) → registers_after old m e s ≡ (out old.image m at op s).regs) → (s : RegState) → registers_after new m e s ≡ (out new.image m at op s).regs
    registers_wider is s = registers_same m e s h ∙ (is s ∙ image_same Types (λ i. (out i m at op s).regs))

  word_same : (o : Option ℕ) → IfSome o (IsWord old) → option_map (word_type new) o ≡ option_map (word_type old) o
  word_same None h = refl
  word_same (Some w) h = ap Some (word_wider old new wider w h)

  some_word_wider : (o : Option ℕ) → IfSome o (IsWord old) → IfSome o (IsWord new)
  some_word_wider None h = tt
  some_word_wider (Some w) h = is_word_wider old new wider w h

  -- a step of the fewer names is one of the more
  pub step_wider : (code : Code) (at : ℕ) (op : Op) (step : Step) → IsStep old code at op step → IsStep new code at op step
  step_wider code at op step is =
      record {
        registers = registers_wider code.method at op step.effect is.effect_words is.registers;
        pending = (λ s. pending_same step.pending is.pending_word ∙ (is.pending s ∙ image_same PendingType (λ i. (out i code.method at op s).result)));
        this = (λ s. is.this s ∙ image_same Bool (λ i. (out i code.method at op s).this_pending));
        made = word_same step.makes is.made_word ∙ (is.made ∙ image_same (Option RegType) (λ i. option_map (object_type i) (made_by op)));
        effect_words = has_words_wider step.effect is.effect_words;
        pending_word = pending_word_wider step.pending is.pending_word;
        made_word = some_word_wider step.makes is.made_word;
      }

room_of : (names : Names) (e : Effect) → HasWords names e → HasRoomFor e
room_of names (effect.New k at) h = h
room_of names e h = tt

-- a word has room for the address in a step's effect
pub step_has_room : (names : Names) (code : Code) (at : ℕ) (op : Op) (step : Step) → IsStep names code at op step → HasRoomFor step.effect
step_has_room names code at op step is = room_of names step.effect is.effect_words
