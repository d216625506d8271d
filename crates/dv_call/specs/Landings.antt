-- What an invoke comes to, before anything is done (AOSP, "invoke-kind"; JLS 15.12.4).
use Rattle.std.specs.Prelude.{◌≡◌, ℕ, zero, suc, Bool, true, false, List, [], ◌∷◌, map, Option, Some, None, if◌then◌else◌}
use Rattle.dv_defs.specs.declared.names.Proto.{Proto}
use Rattle.dv_defs.specs.declared.image.Select.{Select}
use Rattle.dv_defs.specs.declared.image.Select.TheVariants as select
use Rattle.dv_defs.specs.declared.run.Named.{Named}
use Rattle.dv_defs.specs.declared.run.Named.TheVariants as named
use Rattle.dv_defs.specs.declared.run.Native.{Native}
use Rattle.dv_defs.specs.Images.{Image}
use Rattle.dv_defs.specs.Parts.{Call}
use Rattle.dv_defs.specs.Pools.{Method, is_abstract, is_constructor, is_static, method_at}
use Rattle.dv_defs.specs.Selecting.{selected}
use Rattle.dv_machine.specs.Calls.{Landing, Lacks, Lands, native_of, unless_abstract}
use Rattle.dv_machine.specs.State.{Did, Throws}
use Rattle.dv_ops.specs.Meaning.{method_of}
use Rattle.dv_words.specs.declared.state.Level.{Level}
use Rattle.dv_words.specs.declared.state.Level.TheVariants as level
use Rattle.dv_words.specs.Stacks.{first}
use Rattle.dv_words.specs.State.{WordHeap, WordStack}
use Rattle.dv_words.specs.Answering.{IsStackOf}
use Rattle.dv_words.specs.Calls.{dispatch, enter, invoked}
use Rattle.dv_words.specs.Local.{reg_word}
use Rattle.dv_words.specs.Natives.{native_step}
use Rattle.dv_words.specs.Steps.{At, Left, left}
use Rattle.dv_call.specs.declared.landings.Landed as code
use Rattle.dv_call.specs.declared.landings.Landed.TheVariants as landed

-- a method's frame is pushed, a native runs, an exception is thrown, or nothing happens
pub data Landed : Type 0 where
  Enters : (method : Method) → Landed
  Runs : (native : Native) → Landed
  Fails : (named : Named) → Landed
  Stays : Landed

-- what the code answers
abbrev pub landed_of : code.Landed → Landed
landed_of (landed.Method m) = Enters (method_of m)
landed_of (landed.Native n) = Runs n
landed_of (landed.Throws n) = Fails n
landed_of landed.Nothing = Stays

-- a native has no frame
abbrev pub run_by : Method → Option Native → Landed
run_by m None = Enters m
run_by m (Some n) = Runs n

abbrev pub on_landing : Image → Landing → Landed
on_landing image (Lacks n) = Fails n
on_landing image (Lands m) = run_by m (native_of image m)

abbrev pub constructs : Method → Landed
constructs g = if is_abstract g then Fails named.AbstractMethod else Enters g

-- null, or an object
abbrev pub on_object : Image → WordHeap → Method → Call → Method → ℕ → Landed
on_object image heap own c g zero = Fails named.NullPointer
on_object image heap own c g (suc o) = on_landing image (dispatch image heap own c g (suc o))

-- the first argument word is the receiver
abbrev pub on_receiver : Image → WordHeap → Method → Call → Method → Option ℕ → Landed
on_receiver image heap own c g None = Stays
on_receiver image heap own c g (Some r) = if is_constructor g then constructs g else on_object image heap own c g r

abbrev pub first_of : List ℕ → Option ℕ
first_of [] = None
first_of (w ∷ ws) = Some w

-- a call by this method, of words in the registers that the invoke names
abbrev pub called_in : Image → WordHeap → Method → Call → Method → List ℕ → Landed
called_in image heap own c g ws =
    if is_static g then on_landing image (unless_abstract g) else on_receiver image heap own c g (first_of ws)

abbrev pub called : At → Call → Method → List ℕ → Landed
called h c g ws = called_in h.image h.shared.heap h.own c g ws

abbrev pub is_native : Landed → Bool
is_native (Runs n) = true
is_native x = false

-- an invoke of the words in these registers runs a native
abbrev pub runs_native : At → Call → List ℕ → Method → Bool
runs_native h c ks g = is_native (called h c g (map (reg_word h.frame) ks))

-- what a step does then
abbrev pub done : At → List ℕ → Landed → Did Left
done h ws (Enters m) = enter h m ws
done h ws (Runs n) = native_step h n ws
done h ws (Fails n) = Throws n
done h ws Stays = left h.shared (level.Code h.frame ∷ h.rest)

-- an invoke does just this
abbrev pub InvokesLand : Type 0
InvokesLand = (h : At) (c : Call) (g : Method) (ws : List ℕ) → invoked h c g ws ≡ done h ws (called h c g ws)

-- ---- what calls see

-- the image, the heap and the stack of the thread that steps
pub record IsSeenByCalls (image : Image) (heap : WordHeap) (stack : WordStack) (h : At) : Type 0 where
  pub same_image : h.image ≡ image
  pub same_heap : h.shared.heap ≡ heap
  pub is_stack : IsStackOf stack h

-- the method that runs in the frame
abbrev pub IsOwn : At → Type 0
IsOwn h = method_at h.image h.frame.method.0 ≡ Some h.own

-- a method of the image
abbrev pub IsNumbered : Image → Method → Type 0
IsNumbered image g = method_at image g.id ≡ Some g

-- the method that runs in a frame on top
abbrev pub running_in : Image → Option Level → Option Method
running_in image (Some (level.Code f)) = method_at image f.method.0
running_in image l = None

abbrev pub IsRunning : Image → WordStack → Method → Type 0
IsRunning image stack own = running_in image (first stack.levels) ≡ Some own

-- what is selected from a class; nothing where there is none
abbrev pub selection : Image → Option ℕ → List ℕ → Proto → Select
selection image None name proto = select.Abstract
selection image (Some c) name proto = selected image c name proto
