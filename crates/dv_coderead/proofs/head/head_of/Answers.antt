use Rattle.std.proofs.Common.{◌≡◌, ℕ, List, [], ◌∷◌, drop, Some, refl, ap, ◌∙◌}
use Rattle.dv_lex.specs.declared.token.Token.{Token}
use Rattle.dv_lex.specs.Lines.{lexemes_in}
use Rattle.dv_coderead.specs.Heads.{first_word, head_of, word_head}
use Rattle.dv_coderead.specs.Pieces.{Piece, AWord, AMark, AString, ACharacter, pieces_of}
use Rattle.dv_coderead.proofs.Cuts.{rest_range}
use Rattle.dv_coderead.proofs.head.head_of.Goals as goal

-- a line that begins with a word is told by it and the word behind it
by_word : (ps : List Piece) (w : List ℕ) → Some w ≡ first_word ps → word_head w (first_word (drop 1 ps)) ≡ head_of ps
unfolding head_of
by_word [] w e = absurd (cc)
by_word (AWord v ∷ ps) w e = let same : w ≡ v = cc in ap (λ u. word_head u (first_word ps)) same
by_word (AMark b ∷ ps) w e = absurd (cc)
by_word (AString us ∷ ps) w e = absurd (cc)
by_word (ACharacter u ∷ ps) w e = absurd (cc)

-- the pieces behind the first
behind_first : (text : List ℕ) (ts : List Token) → pieces_of (lexemes_in text (drop 1 ts)) ≡ drop 1 (pieces_of (lexemes_in text ts))
behind_first text [] = refl
behind_first text (t ∷ ts) = refl

pub returns-in-Some : goal.returns-in-Some
returns-in-Some c =
    let text = c.args.text.now in
    let ts = c.args.tokens.now in
    let w = c.in-Some.word.now in
    let second = c.first_word-in-Some.ensures ∙ ap (λ l. first_word (pieces_of (lexemes_in text l))) (rest_range ts 1) ∙ ap first_word (behind_first text ts) in
    c.word_head.ensures ∙ ap (word_head w) second ∙ by_word (pieces_of (lexemes_in text ts)) w c.in-Some.ensures
