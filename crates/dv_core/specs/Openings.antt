-- The stack and the heap with which a run begins, call by call.
use Rattle.std.specs.Prelude.{◌≡◌, ◌≤◌, ℕ, Bool, true, false, List, ◌∷◌, [], All, unwrap_or, if◌then◌else◌}
use Rattle.dv_machine.specs.Classes.{ClassState, Fresh}
use Rattle.dv_defs.specs.declared.machine.End.TheVariants as end
use Rattle.dv_defs.specs.declared.run.Limits.{Limits}
use Rattle.dv_defs.specs.Images.{Image}
use Rattle.dv_defs.specs.Names.{string_name}
use Rattle.dv_defs.specs.declared.names.Base.TheVariants as base
use Rattle.dv_defs.specs.Pools.{Method}
use Rattle.dv_machine.specs.Opening.{first_states}
use Rattle.dv_monitor.specs.State.{no_monitors}
use Rattle.dv_words.specs.Calls.{entered_frame}
use Rattle.dv_words.specs.declared.state.Level.{Level}
use Rattle.dv_words.specs.declared.state.Level.TheVariants as level
use Rattle.dv_words.specs.Heaps.{uncounted}
use Rattle.dv_words.specs.State.{WordStack}
use Rattle.dv_words.specs.Stacks.{empty, pushed}
use Rattle.dv_threads.specs.declared.threads.Threads.{Threads}
use Rattle.dv_threads.specs.Kept.{AreAligned, HasRoom, threads_of}
use Rattle.dv_core.specs.declared.guest.Guest.{Guest}

-- what main takes, where it takes anything, is an array of strings
abbrev pub TakesStrings : Method → Type 0
TakesStrings m = All (λ t. t ≡ record { dims = 1; base = base.Class string_name }) m.def.proto.params

-- a stack has room for main's frame and the record of its class
pub record HasMainRoom (l : Limits) : Type 0 where
  pub room : HasRoom l
  pub levels : 2 ≤ l.levels

-- a level more, where there is room
abbrev pub with_level : WordStack → Level → WordStack
with_level s l = unwrap_or (pushed s l) s

-- main's frame, and above it the record of its class, where that isn't born initialised
abbrev pub stack_with_main : Limits → Method → List ℕ → WordStack
stack_with_main l m args = with_level (empty l.levels l.words) (level.Code (entered_frame m args))

abbrev pub opening_stack : Limits → Method → List ℕ → Bool → WordStack
opening_stack l m args born = if born then stack_with_main l m args else with_level (stack_with_main l m args) (level.Init m.info.class false)

-- nobody has begun
abbrev pub is_fresh : ClassState → Bool
is_fresh Fresh = true
is_fresh s = false

-- no threads
pub record HasNone (ts : Threads) : Type 0 where
  pub stacks : ts.stacks.items ≡ []
  pub ends : ts.ends.items ≡ []
  pub objects : ts.objects.items ≡ []
  pub monitors : ts.monitors.monitors ≡ no_monitors

-- nothing is done: no threads, no objects, and nothing printed
pub record IsIdle (image : Image) (g : Guest) : Type 0 where
  pub threads : HasNone g.threads
  pub heap : g.heap ≡ uncounted image
  pub classes : g.classes ≡ first_states image image.classes 0
  pub output : g.output.items ≡ []

-- one living thread with this stack and this Thread object
pub record IsAlone (ts : Threads) (s : WordStack) (object : ℕ) : Type 0 where
  pub stacks : ts.stacks.items ≡ s ∷ []
  pub threads : threads_of ts ≡ record { levels = s.levels; end = end.Living; object = object } ∷ []
  pub aligned : AreAligned ts
  pub monitors : ts.monitors.monitors ≡ no_monitors
