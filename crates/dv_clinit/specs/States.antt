-- States of classes as the definitions have them.
use Rattle.std.specs.Prelude.{List, map}
use Rattle.dv_machine.specs.Classes.{ClassState, Classes, Fresh, InProgress, Ready, Erroneous}
use Rattle.dv_clinit.specs.declared.states.State.{State}
use Rattle.dv_clinit.specs.declared.states.State.TheVariants as state

abbrev pub class_state : State → ClassState
class_state state.Fresh = Fresh
class_state (state.InProgress t) = InProgress t
class_state state.Ready = Ready
class_state state.Erroneous = Erroneous

-- by class
abbrev pub class_states : List State → Classes
class_states states = map class_state states
