use Rattle.std.proofs.Common.{◌≡◌, ◌++◌, take}
use Rattle.std.specs.List.{flat_map}
use Rattle.dv_print.specs.Draft.{catch_text}
use Rattle.dv_print.proofs.catches.add_catches.Given as goal

abbrev pub invariant-loop-catch : goal.invariant-loop-catch
invariant-loop-catch l = l.text.items ≡ l.fn.text.items ++ flat_map catch_text (take l.catch-index l.catches)
