-- A state as words, beside what its words say.
use Rattle.std.specs.Prelude.{◌≡◌, ℕ, List, map}
use Rattle.dv_defs.specs.Images.{Image}
use Rattle.dv_typing.specs.RegTypes.{Types}
use Rattle.dv_bases.specs.declared.states.Words.{Words}
use Rattle.dv_bases.specs.Bases.{Names, word_type}
use Rattle.dv_bases.specs.States.{AreWords}

-- the types of words
abbrev pub types_of : Names → List ℕ → Types
types_of names words = map (word_type names) words

-- its words are words, and the table is that of the classes that have numbers
pub record IsRowOf (names : Names) (image : Image) (words : Words) : Type 0 where
  pub are : AreWords names words
  pub same : image ≡ names.image
