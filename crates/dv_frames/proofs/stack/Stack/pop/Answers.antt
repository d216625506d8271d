use Rattle.std.proofs.Common.{◌++◌, ◌∷◌, [], ◌∙◌, ap}
use Rattle.dv_frames.specs.declared.levels.Level.{Level}
use Rattle.dv_frames.proofs.Popping.{room_for_frame, room_for_record}
use Rattle.dv_frames.proofs.stack.Stack.pop.Goals as goal

pub returns-in-Some-Code-clause-room : goal.returns-in-Some-Code-clause-room
returns-in-Some-Code-clause-room c =
    let top = c.in-Some-Code.ensures.items ∙ ap (λ (l : Level). c.pop.new.self.items ++ l ∷ []) c.in-Some-Code.field-0-is in
    room_for_frame c.self.inside c.args.self.now c.pop.new.self.items c.in-Some-Code.head c.in-Some-Code.base c.truncate.new.self.items c.self.view_is c.self.invariant.laid c.self.invariant.few_levels c.self.invariant.few_words top c.truncate.ensures.items

pub returns-in-Some-Init-clause-room : goal.returns-in-Some-Init-clause-room
returns-in-Some-Init-clause-room c =
    let top = c.in-Some-Init.ensures.items ∙ ap (λ (l : Level). c.pop.new.self.items ++ l ∷ []) c.in-Some-Init.field-0-is in
    room_for_record c.self.inside c.args.self.now c.pop.new.self.items c.in-Some-Init.class c.in-Some-Init.running c.self.view_is c.self.invariant.laid c.self.invariant.few_levels c.self.invariant.few_words top
