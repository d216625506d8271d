-- The words of blocks have 32 bits where those do that they are read of.
use Rattle.std.proofs.Common.{ℕ, List, [], ◌∷◌, All, ◌+◌, take, drop, map}
use Rattle.std.proofs.lemmas.List.Elements.{All-nil, All-cons, All-take, All-drop}
use Rattle.std.specs.Prelude.{slice_index}
use Rattle.dv_words.specs.Standing.{AllFit, Fits}
use Rattle.dv_heap.specs.Blocks.{read_all}
use Rattle.dv_heap.specs.Objects.{words_by}

pub read_fits : (starts ws : List ℕ) → AllFit ws → All AllFit (map words_by (read_all starts ws))
read_fits [] ws fit = All-nil AllFit
read_fits (k ∷ ks) ws fit =
    All-cons AllFit (take (slice_index ws (k + 1)) (drop (k + 2) ws)) (map words_by (read_all ks ws))
    (All-take Fits (slice_index ws (k + 1)) (drop (k + 2) ws) (All-drop Fits (k + 2) ws fit)) (read_fits ks ws fit)
