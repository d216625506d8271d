use Rattle.std.proofs.Common.{arith, ◌++◌, ◌∙◌, ap, append_assoc, length, length-append, replicate, ℕ, List}
use Rattle.std.specs.Prelude.{vec_capacity}
use Rattle.std.proofs.lemmas.List.{length-replicate}
use Rattle.dv_frames.proofs.Adding.{frame_added}
use Rattle.dv_frames.proofs.Room.{few_levels, few_words}
use Rattle.dv_frames.proofs.stack.Stack.push.Goals as goal

pub add_zeros-requires : goal.add_zeros-requires
add_zeros-requires c = let few = few_words c.self.inside c.args.self.now c.max.result c.self.view_is c.self.invariant.laid c.in_ok-check_room.ensures.room in omega (arith, c.max.ensures, c.saturating_sub-zeros.ensures)

pub add_words-requires : goal.add_words-requires
add_words-requires c =
    let few = few_words c.self.inside c.args.self.now c.max.result c.self.view_is c.self.invariant.laid c.in_ok-check_room.ensures.room in
    omega (arith, c.max.ensures, c.saturating_sub-zeros.ensures, ap length c.add_zeros.ensures.items, length-append c.self.inside.words.items (replicate c.saturating_sub-zeros.result 0), length-replicate {A = ℕ} c.saturating_sub-zeros.result 0, c.self.inside.words.ok.0, c.add_zeros.new.words.ok.0)

pub add_level-requires : goal.add_level-requires
add_level-requires c = let few = few_levels c.self.inside c.args.self.now c.max.result c.self.view_is c.self.invariant.laid c.in_ok-check_room.ensures.room in omega (arith, c.max.ensures, c.saturating_sub-zeros.ensures)

pub invariant_of-self : goal.invariant_of-self
invariant_of-self c =
    let levels = few_levels c.self.inside c.args.self.now c.max.result c.self.view_is c.self.invariant.laid c.in_ok-check_room.ensures.room in
    let words = few_words c.self.inside c.args.self.now c.max.result c.self.view_is c.self.invariant.laid c.in_ok-check_room.ensures.room in
    let added = c.add_words.ensures.items ∙ ap (λ (ws : List ℕ). ws ++ c.args.args.now) c.add_zeros.ensures.items ∙ append_assoc c.self.inside.words.items (replicate c.saturating_sub-zeros.result 0) c.args.args.now in
    frame_added c.self.inside.levels.items c.add_level.new.levels.items c.self.inside.words.items c.add_words.new.words.items (replicate c.saturating_sub-zeros.result 0 ++ c.args.args.now) c.begin-head.result c.len-base.result (vec_capacity c.self.inside.levels) (vec_capacity c.add_level.new.levels) (vec_capacity c.self.inside.words) (vec_capacity c.add_words.new.words) c.self.inside.most_levels c.self.inside.most_words c.self.invariant levels
    (omega (arith, c.max.ensures, c.saturating_sub-zeros.ensures, length-append (replicate c.saturating_sub-zeros.result 0) c.args.args.now, length-replicate {A = ℕ} c.saturating_sub-zeros.result 0))
    (c.len-base.ensures ∙ c.self.inside.words.ok.0)
    c.add_level.ensures.items
    added
    c.add_level.ensures.room
    (omega (arith, c.add_words.ensures.room, c.add_zeros.ensures.room))
