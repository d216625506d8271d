-- Whether a byte stands in a text.
use Rattle.std.proofs.Common.{◌≡◌, ℕ, ◌==◌, ◌||◌, Bool, true, false, List, [], ◌∷◌, Option, Some, None, refl, ap, ◌∙◌, if◌then◌else◌}
use Rattle.std.specs.Prelude.{is_some}
use Rattle.std.specs.List.{list_any}
use Rattle.dv_coderead.specs.References.{cut_at, with_byte}

-- one byte more
byte_or_rest : (t : Bool) (b : ℕ) (bs : List ℕ) (rest : Option (List ℕ × List ℕ)) → (t || is_some rest) ≡ is_some (if t then Some ([], bs) else with_byte b rest)
byte_or_rest true b bs rest = refl
byte_or_rest false b bs None = refl
byte_or_rest false b bs (Some p) = refl

-- a text has a byte where it can be cut at it
pub has_byte : (c : ℕ) (w : List ℕ) → list_any (λ b. b == c) w ≡ is_some (cut_at c w)
unfolding cut_at
has_byte c [] = refl
has_byte c (b ∷ bs) = ap (λ t. (b == c) || t) (has_byte c bs) ∙ byte_or_rest (b == c) b bs (cut_at c bs)
