use Rattle.std.proofs.Common.{◌≡◌, ◌<◌, ◌≤◌, ◌+◌, ◌-◌, ◌++◌, ℕ, length, map}
use Rattle.dv_worklist.specs.Beside.{onward_kept}
use Rattle.law_infer.specs.Flowing.{fits_at}
use Rattle.law_gather.specs.Gathered.{addresses}
use Rattle.law_blocks.specs.Blocks.{onward_through}
use Rattle.dv_ops.specs.Meaning.{code_of}
use Rattle.dv_bases.specs.States.{AreWords, state_of}
use Rattle.dv_plan.specs.Marks.{before_by}
use Rattle.dv_infer.proofs.onward.onward_through.Given as goal

abbrev pub invariant-loop-words : goal.invariant-loop-words
invariant-loop-words l =
    record {
      left : ℕ;
      room : addresses (code_of l.code) ≤ left + l.at;
      inside : l.at < addresses (code_of l.code);
      are : AreWords l.bases l.words;
      fits : fits_at l.bases.image (code_of l.code) l.at (state_of l.bases l.words);
      done : map (onward_kept l.bases) (onward_through l.bases.image (code_of l.code) (before_by l.plan.marks.items) (addresses (code_of l.code)) l.fn.place (state_of l.bases l.fn.words)) ≡
          l.onwards ++ map (onward_kept l.bases) (onward_through l.bases.image (code_of l.code) (before_by l.plan.marks.items) left l.at (state_of l.bases l.words));
    }

abbrev pub decreases-loop-words : goal.decreases-loop-words
decreases-loop-words l = length l.code.body.now.units - l.at
