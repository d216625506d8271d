use Rattle.std.proofs.Common.{◌≡◌, ◌-◌, ◌≤◌, length}
use Rattle.dv_coderead.specs.Kept.{text_lines}
use Rattle.dv_coderead.specs.Bodies.{body_of}
use Rattle.dv_coderead.specs.Drafting.{IsDrafting}
use Rattle.dv_coderead.proofs.Drafts.{draft_from}
use Rattle.dv_coderead.proofs.body.read_body.Given as goal

abbrev pub invariant-loop-place : goal.invariant-loop-place
invariant-loop-place l = record {
  place : l.at ≤ length l.lines;
  drafting : IsDrafting l.drafting;
  same : draft_from l.arguments l.text l.lines l.at l.drafting ≡ body_of l.arguments (text_lines l.text l.lines);
}

abbrev pub decreases-loop-place : goal.decreases-loop-place
decreases-loop-place l = length l.lines - l.at
