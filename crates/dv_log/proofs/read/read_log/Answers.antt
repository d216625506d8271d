use Rattle.std.proofs.Common.{arith, subst}
use Rattle.dv_log.specs.Reading.{Reads}
use Rattle.dv_log.proofs.Front.{front_more, front_none, over_blank, over_entry, at_bad, at_end}
use Rattle.dv_log.proofs.read.read_log.Goals.{in-Nothing, in-One+in_ok-push-in-One}
use Rattle.dv_log.proofs.read.read_log.Goals as goal

pub returns-in-Other : goal.returns-in-Other
returns-in-Other c =
    let l = c.loop-line in
    let bad = rw c.in-Other.is at c.in_ok-read_line.ensures in
    l.invariant.so_far _ (at_bad l.number l.line-index c.args.lines.now c.line-item.result c.bytes.result.now c.loop-line-test.true c.line-item.is c.bytes.ensures bad)

pub loop-line-preserved : goal.loop-line-preserved
loop-line-preserved c = elim c.match-branch-2.branch [
  | in-Nothing w ↦
      let l = c.loop-line in
      let blank = rw w.in-Nothing.is at c.in_ok-read_line.ensures in
      rw w.entries-is (record {
        counted = omega arith;
        so_far = λ r h. l.invariant.so_far r (over_blank l.number l.line-index c.args.lines.now c.line-item.result c.bytes.result.now c.loop-line-test.true c.line-item.is c.bytes.ensures blank r h);
      })
  | in-One+in_ok-push-in-One w ↦
      let l = c.loop-line in
      let e = w.in-One.entry in
      let is = rw w.in-One.is at c.in_ok-read_line.ensures in
      rw (w.entries-is, w.in_ok-push-in-One.ensures.items) (record {
        counted = omega arith;
        so_far = λ r h. subst (Reads c.args.first c.args.lines.now) (front_more l.entries.items e r)
            (l.invariant.so_far _ (over_entry l.number l.line-index c.args.lines.now c.line-item.result c.bytes.result.now c.loop-line-test.true c.line-item.is c.bytes.ensures e is r h));
      })
]

pub returns : goal.returns
returns c =
    let l = c.loop-line in
    subst (Reads c.args.first c.args.lines.now) (front_none l.entries.items) (l.invariant.so_far _ (at_end l.number l.line-index c.args.lines.now c.loop-line-test.false))
