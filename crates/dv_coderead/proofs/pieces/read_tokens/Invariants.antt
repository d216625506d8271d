use Rattle.std.proofs.Common.{◌≡◌, take}
use Rattle.dv_lex.specs.Lines.{lexemes_in}
use Rattle.dv_coderead.specs.Pieces.{pieces_in, pieces_of}
use Rattle.dv_coderead.proofs.pieces.read_tokens.Given as goal

abbrev pub invariant-loop-token : goal.invariant-loop-token
invariant-loop-token l = pieces_in l.pieces.items ≡ pieces_of (lexemes_in l.text (take l.token-index l.tokens))
