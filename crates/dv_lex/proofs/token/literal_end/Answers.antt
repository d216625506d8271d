use Rattle.std.proofs.Common.{arith, ◌∙◌, sym, eq-eqb, ap, get_or, ◌+◌}
use Rattle.std.proofs.lemmas.Bool.{ne_eqb}
use Rattle.dv_lex.specs.Bytes.{is_escape, escape_length}
use Rattle.dv_lex.proofs.Steps.{begun_few, literal_begins, literal_ends, literal_lacks, literal_control, literal_bad, literal_more, literal_escape, literal_open, tail_is}
use Rattle.dv_lex.proofs.token.literal_end.Goals as goal

pub loop-at-init : goal.loop-at-init
loop-at-init c = record { past = omega arith; inside = omega arith; few = omega arith; so_far = literal_begins c.args.line.now c.args.start c.requires.inside c.requires.literal }

pub returns-then-lacks_one_unit : goal.returns-then-lacks_one_unit
returns-then-lacks_one_unit c =
    let i = c.loop-at.invariant in
    i.so_far ∙ literal_lacks c.args.line.now c.args.start c.loop-at.at _ _ (omega arith) c.loop-at-test.true (eq-eqb _ _ c.if-byte-quote.true) (sym c.lacks_one_unit.ensures ∙ c.if-lacks_one_unit.true)

pub returns-else-lacks_one_unit : goal.returns-else-lacks_one_unit
returns-else-lacks_one_unit c =
    let i = c.loop-at.invariant in
    let end = literal_ends c.args.line.now c.args.start c.loop-at.at _ _ (omega arith) c.loop-at-test.true c.if-byte-quote.true (eq-eqb _ _ c.if-byte-quote.true) (sym c.lacks_one_unit.ensures ∙ c.if-lacks_one_unit.false) in
    (omega arith, omega arith, i.so_far ∙ end)

pub returns-then-is_control : goal.returns-then-is_control
returns-then-is_control c =
    let i = c.loop-at.invariant in
    i.so_far ∙ literal_control c.args.line.now c.args.start c.loop-at.at _ _ c.loop-at-test.true (ne_eqb _ _ c.if-byte-quote.false) (sym c.is_control.ensures ∙ c.if-is_control.true)

pub returns-then-not-is_escape : goal.returns-then-not-is_escape
returns-then-not-is_escape c =
    let i = c.loop-at.invariant in
    let no_escape = sym (ap is_escape (tail_is c.args.line.now (c.loop-at.at + 1))) ∙ sym c.is_escape.ensures ∙ c.if-not-is_escape.true in
    i.so_far ∙ literal_bad c.args.line.now c.args.start c.loop-at.at _ _ c.loop-at-test.true (ne_eqb _ _ c.if-byte-quote.false) (sym c.is_control.ensures ∙ c.if-is_control.false) (eq-eqb _ _ c.if-byte-eq92.true) no_escape

pub loop-at-preserved-then-byte-eq92 : goal.loop-at-preserved-then-byte-eq92
loop-at-preserved-then-byte-eq92 c =
    let i = c.loop-at.invariant in
    let an_escape = sym (ap is_escape (tail_is c.args.line.now (c.loop-at.at + 1))) ∙ sym c.is_escape.ensures ∙ c.if-not-is_escape.false in
    let m = literal_escape c.args.line.now c.args.start c.loop-at.at _ c.loop-at.units (omega arith) c.loop-at-test.true (ne_eqb _ _ c.if-byte-quote.false) (sym c.is_control.ensures ∙ c.if-is_control.false) (eq-eqb _ _ c.if-byte-eq92.true) an_escape in
    let long = c.escape_length-at.ensures ∙ ap escape_length (tail_is c.args.line.now (c.loop-at.at + 1)) in
    rw long (record { past = omega arith; inside = m.0; few = omega arith; so_far = i.so_far ∙ m.1 })

pub loop-at-preserved : goal.loop-at-preserved
loop-at-preserved c =
    let i = c.loop-at.invariant in
    rw c.units_begun-units.ensures (record {
      past = omega arith;
      inside = omega arith;
      few = omega (arith, begun_few (get_or c.args.line.now c.loop-at.at 0));
      so_far = i.so_far ∙ literal_more c.args.line.now c.args.start c.loop-at.at _ c.loop-at.units (omega arith) c.loop-at-test.true (ne_eqb _ _ c.if-byte-quote.false) (sym c.is_control.ensures ∙ c.if-is_control.false) (ne_eqb _ _ c.if-byte-eq92.false);
    })

pub returns : goal.returns
returns c = let i = c.loop-at.invariant in i.so_far ∙ literal_open c.args.line.now c.args.start c.loop-at.at _ _ c.loop-at-test.false
