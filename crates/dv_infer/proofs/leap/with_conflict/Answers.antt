use Rattle.std.proofs.Common.{◌≡◌}
use Rattle.std.specs.Prelude.{slice_set}
use Rattle.dv_bases.specs.States.{caught_of, pending_of}
use Rattle.dv_infer.proofs.Leaping.{conflict_said}
use Rattle.dv_infer.proofs.leap.with_conflict.Goals as goal

pub returns-clause-state : goal.returns-clause-state
returns-clause-state c =
    let names = c.args.bases.now in
    let words = c.args.words.now in
    let regs = c.put.new.regs.items in
    let set : regs ≡ slice_set words.regs.items c.args.register c.word_of.result = cc (c.put.ensures, c.in_ok-regs.ensures) in
    let said = conflict_said names words.regs.items regs c.args.register c.word_of.result c.word_of.ensures set in
    (λ i. record {
      regs = said i;
      result = pending_of names words.result;
      caught = caught_of names words.caught;
      this_pending = words.this_pending;
    })
