use Rattle.std.proofs.Common.{arith}
use Rattle.std.specs.Prelude.{false, vec_capacity}
use Rattle.dv_frames.proofs.Adding.{record_added}
use Rattle.dv_frames.proofs.Room.{few_levels}
use Rattle.dv_frames.proofs.stack.Stack.push_record.Goals as goal

pub add_level-requires : goal.add_level-requires
add_level-requires c = let few = few_levels c.self.inside c.args.self.now 0 c.self.view_is c.self.invariant.laid c.in_ok-check_room.ensures.room in omega arith

pub invariant_of-self : goal.invariant_of-self
invariant_of-self c =
    let few = few_levels c.self.inside c.args.self.now 0 c.self.view_is c.self.invariant.laid c.in_ok-check_room.ensures.room in
    record_added c.self.inside.levels.items c.add_level.new.levels.items c.self.inside.words.items c.args.class false (vec_capacity c.self.inside.levels) (vec_capacity c.add_level.new.levels) (vec_capacity c.self.inside.words) c.self.inside.most_levels c.self.inside.most_words c.self.invariant few c.add_level.ensures.items c.add_level.ensures.room
