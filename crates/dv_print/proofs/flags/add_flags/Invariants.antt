use Rattle.std.proofs.Common.{◌≡◌, ◌++◌, take}
use Rattle.std.specs.List.{flat_map}
use Rattle.dv_print.specs.Listing.{flag_text}
use Rattle.dv_print.proofs.flags.add_flags.Given as goal

abbrev pub invariant-loop-flag : goal.invariant-loop-flag
invariant-loop-flag l = l.text.items ≡ l.fn.text.items ++ flat_map (flag_text l.flags) (take l.flag-index l.list)
