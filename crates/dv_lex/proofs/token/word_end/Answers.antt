use Rattle.std.proofs.Common.{arith, ◌∙◌, sym}
use Rattle.dv_lex.proofs.Steps.{word_begins, word_goes_on, plain_is}
use Rattle.dv_lex.proofs.token.word_end.Goals as goal

pub loop-at-init : goal.loop-at-init
loop-at-init c = record { past = omega arith; inside = omega arith; so_far = word_begins c.args.line.now c.args.start c.requires.inside c.requires.word }

pub loop-at-preserved : goal.loop-at-preserved
loop-at-preserved c =
    let i = c.loop-at.invariant in
    record {
      past = omega arith;
      inside = omega arith;
      so_far = i.so_far ∙ word_goes_on c.args.line.now c.args.start c.loop-at.at (omega arith) c.loop-at-test.true (plain_is _ (sym c.is_plain.ensures ∙ c.if-is_plain.true));
    }
