-- What is asked of one handler, and of one try entry.
use Rattle.std.specs.Prelude.{ℕ, Bool, ◌&&◌, ◌||◌, List, ◌++◌, length, Some, None, slice_get, nat_eq, nat_lt, nat_le}
use Rattle.dv_defs.specs.declared.code.Try.{Try}
use Rattle.dv_defs.specs.declared.code.Handler.{Handler}
use Rattle.dv_defs.specs.declared.faults.Rule.TheVariants as rule
use Rattle.dv_defs.specs.Images.{Image}
use Rattle.dv_defs.specs.Tiling.{begins_insn, begins_item}
use Rattle.dv_defs.specs.Op.{Code}
use Rattle.dv_typing.specs.Accepting.{Place, place_unless, is_handler_type, handlers_good}

-- a handler of S18, by whether it is the last
abbrev pub handler_good : Image → Code → Bool → Handler → Bool
handler_good image code is_last h =
    begins_insn code.tiles h.at && elim h.kind [ None ↦ is_last | Some k ↦ is_handler_type image (slice_get code.body.types k) ]

-- S17, after an entry that ends at an address
abbrev pub range_good : Code → ℕ → Try → Bool
range_good code before t =
    begins_insn code.tiles t.start && nat_lt t.start t.end && (begins_item code.tiles t.end || nat_eq t.end (length code.body.units)) &&
    nat_le before t.start

-- S17 and S18 of one entry
abbrev pub entry_places : Image → Code → ℕ → Try → List Place
entry_places image code before t =
    place_unless (range_good code before t) t.start (rule.S 17) ++
    place_unless (nat_lt 0 (length t.handlers) && handlers_good image code t.handlers) t.start (rule.S 18)
