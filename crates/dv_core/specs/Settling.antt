-- Where a thread stands whose exception is to fly.
use Rattle.std.specs.Prelude.{ℕ, Option, Some, None, if◌then◌else◌}
use Rattle.dv_typing.specs.Flow.{is_exit}
use Rattle.dv_typing.specs.Statics.{At}

-- behind a monitor-exit
abbrev pub behind_exit : At → Option ℕ
behind_exit x = if is_exit x.op then Some x.next else None
