use Rattle.std.proofs.Common.{arith}
use Rattle.dv_frames.proofs.Room.{room_found, levels_full, words_full}
use Rattle.dv_frames.proofs.stack.Stack.check_room.Goals as goal
use Rattle.dv_frames.proofs.stack.Stack.check_room.Goals.{else-len-self-via-then-len-self+else-more-saturating_sub, else-len-self-via-else-len-self}

pub returns-then-more-saturating_sub-clause-room : goal.returns-then-more-saturating_sub-clause-room
returns-then-more-saturating_sub-clause-room c = room_found c.self.inside c.args.self.now c.args.more c.self.view_is c.self.invariant.laid (omega (arith, c.saturating_sub.ensures)) (omega (arith, c.saturating_sub.ensures))

pub returns-else-len-self-clause-full : goal.returns-else-len-self-clause-full
returns-else-len-self-clause-full c =
    elim c.else-len-self.branch [
      | else-len-self-via-then-len-self+else-more-saturating_sub w ↦ words_full c.self.inside c.args.self.now c.args.more c.self.view_is c.self.invariant.laid (omega (arith, w.saturating_sub.ensures))
      | else-len-self-via-else-len-self w ↦ levels_full c.self.inside c.args.self.now c.args.more c.self.view_is c.self.invariant.laid (omega arith)
    ]
