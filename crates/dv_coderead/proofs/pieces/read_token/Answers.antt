use Rattle.std.proofs.Common.{ap, refl, sym, subst, ◌∙◌}
use Rattle.dv_lex.specs.Literals.{IsCharacter}
use Rattle.dv_coderead.specs.Pieces.{AString, ACharacter}
use Rattle.dv_coderead.specs.Words.{string_of}
use Rattle.dv_coderead.proofs.Characters.{character_is}
use Rattle.dv_coderead.proofs.pieces.read_token.Goals.{in-Word, in-Mark, in-Str+in_ok-string-in-Str, in-Char}
use Rattle.dv_coderead.proofs.pieces.read_token.Goals as goal

pub returns : goal.returns
returns c = elim c.match-token.branch [
  | in-Word w ↦ rw (w.result-is, w.in-Word.is, c.bytes-word.ensures) refl
  | in-Mark w ↦ rw (w.result-is, w.in-Mark.is, c.bytes-word.ensures) refl
  | in-Str+in_ok-string-in-Str w ↦ rw (w.result-is, w.in-Str.is) (ap AString (w.in_ok-string-in-Str.ensures ∙ ap string_of c.bytes-word.ensures))
  | in-Char w ↦
      let of_kind = rw w.in-Char.is at c.requires.token.of_kind in
      let unit = w.char_unit.ensures of_kind.0 (subst (IsCharacter of_kind.0) (sym c.bytes-word.ensures) of_kind.1) in
      rw (w.result-is, w.in-Char.is) (ap ACharacter (unit ∙ sym (character_is of_kind.0 _ of_kind.1)))
]
