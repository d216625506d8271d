use Rattle.std.proofs.Common.{◌≡◌, ◌≤◌, map, drop, string_bytes, IfSome}
use Rattle.dv_console.specs.Words.{setting, greatest}
use Rattle.dv_console.proofs.Settings.{left}
use Rattle.dv_console.proofs.keys.setting.Given as goal

abbrev pub invariant-loop-word : goal.invariant-loop-word
invariant-loop-word l = (setting l.key (map string_bytes l.words) ≡ left l.key l.found (map string_bytes (drop l.word-index l.words))) × IfSome l.found (λ n. n ≤ greatest l.key)
