-- Blocks of words in one list: each is its tag, the number of its words, and its words.
use Rattle.std.specs.Prelude.{◌≡◌, ℕ, ◌+◌, List, [], ◌∷◌, length, map, take, drop, replicate, slice_index, slice_index_or, slice_set}
use Rattle.std.specs.List.{flat_map}
use Rattle.dv_heap.specs.declared.contents.Contents.{Contents}
use Rattle.dv_heap.specs.declared.contents.Contents.TheVariants as contents

pub record Block : Type 0 where
  pub tag : ℕ
  pub words : List ℕ

abbrev pub no_block : Block
no_block = record { tag = 0; words = [] }

abbrev pub block_at : List Block → ℕ → Block
block_at bs i = slice_index_or bs i no_block

-- a word of a block is written
abbrev pub written : Block → ℕ → ℕ → Block
written b k w = record { tag = b.tag; words = slice_set b.words k w }

-- the words that a new block is filled with
abbrev pub filling : Contents → List ℕ
filling (contents.Zeros count) = replicate count 0
filling (contents.Units units) = units.now
filling (contents.Words words) = words.now

-- ---- how blocks lie

abbrev pub laid_block : Block → List ℕ
laid_block b = b.tag ∷ length b.words ∷ b.words

-- one after another
abbrev pub laid : List Block → List ℕ
laid bs = flat_map laid_block bs

-- where each begins, the first at this place
abbrev pub starts_from : ℕ → List Block → List ℕ
starts_from at [] = []
starts_from at (b ∷ bs) = at ∷ starts_from (at + length (laid_block b)) bs

-- the block that begins at a place
abbrev pub read_at : List ℕ → ℕ → Block
read_at ws start = record { tag = slice_index ws start; words = take (slice_index ws (start + 1)) (drop (start + 2) ws) }

abbrev pub read_all : List ℕ → List ℕ → List Block
read_all starts ws = map (read_at ws) starts

-- the words are those of the blocks that begin at these places, and no others
pub record AreLaid (starts ws : List ℕ) : Type 0 where
  pub as_laid : ws ≡ laid (read_all starts ws)
  pub in_order : starts ≡ starts_from 0 (read_all starts ws)
