-- Words of objects that aren't initialised, and what becomes of them.
use Rattle.std.specs.Prelude.{ℕ, Bool, true, false, nat_eq}
use Rattle.dv_bases.specs.declared.words.Part.{Part}
use Rattle.dv_bases.specs.declared.words.Part.TheVariants as part
use Rattle.dv_bases.specs.Words.{part_in}
use Rattle.dv_effects.specs.declared.objects.Objects.{Objects}
use Rattle.dv_effects.specs.declared.objects.Objects.TheVariants as objects

-- whether a word's object is among them
abbrev pub is_among : Objects → Part → Bool
is_among (objects.Made a) (part.Uninit b) = nat_eq a b
is_among objects.This part.UninitThis = true
is_among objects.Every (part.Uninit b) = true
is_among objects.Every part.UninitThis = true
is_among which p = false

-- each of them becomes another word
abbrev pub renewed : Objects → ℕ → ℕ → ℕ
renewed which by word = elim (is_among which (part_in word)) [ true ↦ by | false ↦ word ]
