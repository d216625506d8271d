-- What has been read already, in front of what is read of the rest.
use Rattle.std.proofs.Common.{◌≡◌, List, [], ◌∷◌, ◌++◌, ℕ, Ok, Err, refl, sym, ap, ◌∙◌, append_assoc}
use Rattle.std.proofs.lemmas.List.{map_push, append-nil}
use Rattle.dv_defs.specs.declared.faults.LineKind.{LineKind}
use Rattle.dv_lex.specs.declared.token.Token.{Token}
use Rattle.dv_lex.specs.Lexemes.{Lexeme, Lexemes, put}
use Rattle.dv_lex.specs.Lines.{Read, Reading, lexeme_in, lexemes_in}

-- ---- lexemes in front

abbrev pub with_front : List Lexeme → Lexemes → Lexemes
with_front front (Ok ls) = Ok (front ++ ls)
with_front front (Err k) = Err k

front_put : (front : List Lexeme) (l : Lexeme) (r : Lexemes) → with_front front (put l r) ≡ with_front (front ++ l ∷ []) r
front_put front l (Ok ls) = ap (λ (qs : List Lexeme). Ok qs) (sym (append_assoc front (l ∷ []) ls))
front_put front l (Err k) = refl

pub front_none : (r : Lexemes) → with_front [] r ≡ r
front_none (Ok ls) = refl
front_none (Err k) = refl

-- one more token
pub front_more : (line : List ℕ) (ts : List Token) (t : Token) (rest more total : Lexemes) → more ≡ put (lexeme_in line t) rest
    → with_front (lexemes_in line ts) more ≡ total → with_front (lexemes_in line (ts ++ t ∷ [])) rest ≡ total
front_more line ts t rest more total e so_far =
    rw (map_push (lexeme_in line) ts t) (sym (front_put (lexemes_in line ts) (lexeme_in line t) rest) ∙ ap (with_front (lexemes_in line ts)) (sym e) ∙ so_far)

pub front_err : (front : List Lexeme) (more total : Lexemes) (k : LineKind) → more ≡ Err k → with_front front more ≡ total → total ≡ Err k
front_err front more total k e so_far = sym so_far ∙ ap (with_front front) e

pub front_done : (front : List Lexeme) (more total : Lexemes) → more ≡ Ok [] → with_front front more ≡ total → total ≡ Ok front
front_done front more total e so_far = sym so_far ∙ ap (with_front front) e ∙ ap (λ (qs : List Lexeme). Ok qs) (append-nil front)

-- ---- lines in front

abbrev pub with_lines : List Read → Reading → Reading
with_lines front r = record { lines = front ++ r.lines; stop = r.stop }
