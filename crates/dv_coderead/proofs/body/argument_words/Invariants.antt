use Rattle.std.proofs.Common.{◌≡◌, ◌+◌, ◌*◌, ◌≤◌, drop}
use Rattle.dv_defs.specs.Types.{words_of_all}
use Rattle.dv_coderead.specs.Bodies.{argument_words}
use Rattle.dv_coderead.proofs.body.argument_words.Given as goal

abbrev pub invariant-loop-ty : goal.invariant-loop-ty
invariant-loop-ty l = record {
  few : l.words ≤ 1 + 2 * l.ty-index;
  all : l.words + words_of_all (drop l.ty-index l.ty-items) ≡ argument_words l.proto l.is_static;
}
