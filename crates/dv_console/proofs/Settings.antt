-- What the words that are left set a key to.
use Rattle.std.proofs.Common.{ℕ, List, [], ◌∷◌, Option, Some, None}
use Rattle.dv_console.specs.declared.keys.Key.{Key}
use Rattle.dv_console.specs.Words.{texts_of, set_by}

-- what these texts set a key to, where those before them set it to `found`
abbrev pub set_after : Key → Option ℕ → List (List ℕ) → Option (Option ℕ)
set_after k None texts = set_by k texts
set_after k (Some n) [] = Some (Some n)
set_after k (Some n) (text ∷ texts) = None

abbrev pub left : Key → Option ℕ → List (List ℕ) → Option (Option ℕ)
left k found words = set_after k found (texts_of k words)
