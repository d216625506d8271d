-- Literals of either kind as pieces.
use Rattle.std.proofs.Common.{◌≡◌, ℕ, ◌-◌, List, [], ◌∷◌, length, take, drop, get_or, ap, ◌∙◌, arith}
use Rattle.std.specs.Str.{chars}
use Rattle.dv_lex.specs.Literals.{IsLiteral, IsCharacter}
use Rattle.dv_lex.proofs.Literals.Fronts.{inner_is}
use Rattle.dv_coderead.specs.Words.{string_of, units_of}
use Rattle.dv_coderead.proofs.Strings.{written}

two_less : (n : ℕ) → n - 2 ≡ n - 1 - 1
two_less n = omega arith

pub literal_written : (q : ℕ) (units text : List ℕ) → IsLiteral q units text → string_of text ≡ units
literal_written q units text is =
    let inside : take (length text - 2) (drop 1 text) ≡ is.inner = ap (λ n. take n (drop 1 text)) (two_less (length text)) ∙ inner_is q units text is in
    ap (λ l. units_of 0 (chars l)) inside ∙ written is.writes

pub character_is : (unit : ℕ) (text : List ℕ) → IsCharacter unit text → get_or (string_of text) 0 0 ≡ unit
character_is unit text is = ap (λ (us : List ℕ). get_or us 0 0) (literal_written 39 (unit ∷ []) text is)
