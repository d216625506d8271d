-- Where the words of each level lie.
use Rattle.std.specs.Prelude.{◌≡◌, ◌≤◌, ◌<◌, ◌^◌, ℕ, List, [], ◌∷◌, length, take, drop, reverse, true, Option, Some, None}
use Rattle.dv_words.specs.declared.state.Level as word_level
use Rattle.dv_words.specs.declared.state.Level.TheVariants as word_level_of
use Rattle.dv_frames.specs.declared.heads.Head.{Head}
use Rattle.dv_frames.specs.declared.levels.Level.{Level}
use Rattle.dv_frames.specs.declared.levels.Level.TheVariants as level
use Rattle.dv_frames.specs.Heads.{frame}

-- the levels, the top one first: the words of a frame are those from its base on
abbrev pub cut : List Level → List ℕ → List word_level.Level
cut [] ws = []
cut (level.Code h b ∷ ls) ws = word_level_of.Code (frame h (drop b ws)) ∷ cut ls (take b ws)
cut (level.Init c r ∷ ls) ws = word_level_of.Init c r ∷ cut ls ws

-- no base lies past the words, and no words lie below the last level
abbrev pub AreLaid : List Level → List ℕ → Type 0
AreLaid [] ws = ws ≡ []
AreLaid (level.Code h b ∷ ls) ws = (b ≤ length ws) × AreLaid ls (take b ws)
AreLaid (level.Init c r ∷ ls) ws = AreLaid ls ws

-- the levels stand in the order in which they were pushed
pub record IsArena (levels : List Level) (words : List ℕ) (room_for_levels room_for_words most_levels most_words : ℕ) : Type 0 where
  pub laid : AreLaid (reverse levels) words
  pub few_levels : length levels ≤ most_levels
  pub few_words : length words ≤ most_words
  -- the levels can be counted in 32 bits
  pub counted : most_levels < 2 ^ 32
  -- there is room for all that may be pushed
  pub level_room : most_levels ≤ room_for_levels
  pub word_room : most_words ≤ room_for_words

-- the level on top, of levels with the top one first
abbrev pub on_top_of : List Level → Option Level
on_top_of [] = None
on_top_of (l ∷ ls) = Some l

-- the level on top has another head, where that is code
abbrev pub with_head : List Level → Head → List Level
with_head (level.Code h b ∷ ls) g = level.Code g b ∷ ls
with_head ls g = ls

-- the record on top is running, where that is one
abbrev pub with_running : List Level → List Level
with_running (level.Init c r ∷ ls) = level.Init c true ∷ ls
with_running ls = ls

-- where the words on top begin, at the end where that isn't code
abbrev pub top_base : List Level → ℕ → ℕ
top_base (level.Code h b ∷ ls) end = b
top_base ls end = end
