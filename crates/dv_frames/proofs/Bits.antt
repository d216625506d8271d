-- What a frame holds has 32 bits where the words of the arena and its head do.
use Rattle.std.proofs.Common.{◌≡◌, ℕ, List, [], ◌∷◌, Option, Some, None, drop, subst, sym}
use Rattle.std.proofs.lemmas.List.Elements.{All-drop}
use Rattle.std.proofs.lemmas.Option.{same_Some}
use Rattle.dv_words.specs.declared.state.Frame.{Frame}
use Rattle.dv_words.specs.declared.state.Level as word_level
use Rattle.dv_words.specs.declared.state.Level.TheVariants as words
use Rattle.dv_words.specs.Stacks.{first}
use Rattle.dv_words.specs.Standing.{AllFit, CaughtFits, Fits, IsSmall, KeptFits}
use Rattle.dv_frames.specs.declared.levels.Level.{Level}
use Rattle.dv_frames.specs.declared.levels.Level.TheVariants as level
use Rattle.dv_frames.specs.Arena.{cut, on_top_of}
use Rattle.dv_frames.specs.Heads.{frame}

-- the head on top, where that is code, fits
abbrev HeadFits : Option Level → Type 0
HeadFits (Some (level.Code h b)) = KeptFits h.result × CaughtFits h.caught
HeadFits l = Unit {0}

pub on_top : (ls : List Level) (ws : List ℕ) → AllFit ws → HeadFits (on_top_of ls) → (f : Frame) → first (cut ls ws) ≡ Some (words.Code f) → IsSmall f
on_top [] ws fit head f is = absurd (cc)
on_top (level.Init c r ∷ ls) ws fit head f is = absurd (cc)
on_top (level.Code h b ∷ ls) ws fit head f is =
    let same : frame h (drop b ws) ≡ f = code_is (frame h (drop b ws)) f (same_Some (words.Code (frame h (drop b ws))) (words.Code f) is) in
    subst IsSmall same (record { regs = All-drop Fits b ws fit; result = head.0; caught = head.1 })
  where
    code_is : (g f : Frame) → (let x : word_level.Level = words.Code g in x) ≡ words.Code f → g ≡ f
    code_is g f e = cc
