use Rattle.std.proofs.Common.{◌≡◌, ◌≤◌, ◌++◌, take, drop, map, vec_capacity}
use Rattle.dv_defs.specs.Op.{named_registers}
use Rattle.dv_words.specs.Words.{word_at}
use Rattle.dv_frames.proofs.arguments.add_args.Given as goal

abbrev pub invariant-loop-k : goal.invariant-loop-k
invariant-loop-k l = record {
  items : l.words.items ≡ l.fn.words.items ++ map (word_at (drop l.from (take l.end l.fn.words.items))) (take l.k (named_registers l.args));
  room : vec_capacity l.fn.words ≤ vec_capacity l.words;
}
