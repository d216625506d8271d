-- Invokes and returns on words: as the tagged machine's, with no read that can fail.
use Rattle.std.specs.Prelude.{ℕ, Bool, true, false, ◌&&◌, not, List, [], ◌∷◌, map, Option, Some, None, if◌then◌else◌}
use Rattle.dv_defs.specs.declared.names.Ty.{Ty}
use Rattle.dv_defs.specs.declared.run.Named.TheVariants as named
use Rattle.dv_defs.specs.declared.run.Native.{Native}
use Rattle.dv_defs.specs.Images.{Image}
use Rattle.dv_defs.specs.Order.{instance}
use Rattle.dv_defs.specs.Parts.{Call}
use Rattle.dv_defs.specs.Pools.{Method, is_abstract, is_constructor, is_interface, is_static, own_type, parent_at}
use Rattle.dv_typing.specs.Statics as statics
use Rattle.dv_typing.specs.Statics.{fetch}
use Rattle.dv_defs.specs.Types.{is_long}
use Rattle.dv_machine.specs.Calls.{Landing, Lacks, Lands, native_of, registers_of, selected_from, unless_abstract}
use Rattle.dv_machine.specs.Mem.{on_object}
use Rattle.dv_machine.specs.State.{Did, Throws}
use Rattle.dv_words.specs.declared.state.Frame.{Frame}
use Rattle.dv_words.specs.declared.state.Kept.{Kept}
use Rattle.dv_words.specs.declared.state.Kept.TheVariants as kept
use Rattle.dv_words.specs.declared.state.Level.{Level}
use Rattle.dv_words.specs.declared.state.Level.TheVariants as level
use Rattle.dv_words.specs.Heaps.{kind_of}
use Rattle.dv_words.specs.Stacks.{entered, given, gone}
use Rattle.dv_words.specs.State.{WordHeap}
use Rattle.dv_words.specs.Local.{reg_word}
use Rattle.dv_words.specs.Mem.{type_of}
use Rattle.dv_words.specs.Natives.{native_step}
use Rattle.dv_words.specs.Steps.{At, Left, left, pushed}
use Rattle.dv_words.specs.Threads.{class_of_kind}

-- ---- where a call lands

-- the object is of a class that implements the method's interface
abbrev pub implements_it : Image → WordHeap → Method → ℕ → Bool
implements_it image heap g o = instance image (type_of image heap o) (own_type image g)

-- the method's class is an interface that the object's class lacks
abbrev pub lacks_interface : Image → WordHeap → Method → ℕ → Bool
lacks_interface image heap g o = is_interface image g.info.class.0 && not (implements_it image heap g o)

-- a call by the object's class
abbrev pub by_object : Image → WordHeap → Method → ℕ → Landing
by_object image heap g o =
    if lacks_interface image heap g o then Lacks named.ClassChange
    else selected_from image (class_of_kind image (kind_of heap o)) g.def.name g.def.proto

-- the method that a call on an object that isn't null lands on (AOSP "invoke-kind"; JLS 15.12.4.4)
abbrev pub dispatch : Image → WordHeap → Method → Call → Method → ℕ → Landing
dispatch image heap own Call.Static g o = unless_abstract g
dispatch image heap own Call.Direct g o = unless_abstract g
dispatch image heap own Call.Super g o = selected_from image (parent_at image own.info.class.0) g.def.name g.def.proto
dispatch image heap own Call.Virtual g o = by_object image heap g o
dispatch image heap own Call.Interface g o = by_object image heap g o

-- ---- invokes

-- the first frame of a method, its argument words in the last registers
abbrev pub entered_frame : Method → List ℕ → Frame
entered_frame m ws = entered (record { 0 = m.id }) (registers_of m) ws

-- a call's frame is pushed on the caller's, which stays at its invoke
abbrev pub enter : At → Method → List ℕ → Did Left
enter h m ws = pushed h h.shared (level.Code (entered_frame m ws)) (level.Code h.frame ∷ h.rest)

-- a native is one step without a level
abbrev pub landed_on : At → Method → List ℕ → Option Native → Did Left
landed_on h m ws None = enter h m ws
landed_on h m ws (Some n) = native_step h n ws

-- a call that lands, or throws
abbrev pub landed : At → Landing → List ℕ → Did Left
landed h (Lacks n) ws = Throws n
landed h (Lands m) ws = landed_on h m ws (native_of h.image m)

abbrev pub construct : At → Method → List ℕ → Did Left
construct h g ws = if is_abstract g then Throws named.AbstractMethod else enter h g ws

-- the first argument word is the receiver
abbrev pub call_instance : At → Call → Method → List ℕ → ℕ → Did Left
call_instance h c g ws r = on_object (λ o. landed h (dispatch h.image h.shared.heap h.own c g o) ws) r

abbrev pub with_receiver : At → Call → Method → List ℕ → Did Left
with_receiver h c g [] = left h.shared (level.Code h.frame ∷ h.rest)
with_receiver h c g (r ∷ ws) = if is_constructor g then construct h g (r ∷ ws) else call_instance h c g (r ∷ ws) r

-- of the words in the registers that it names
abbrev pub invoked : At → Call → Method → List ℕ → Did Left
invoked h c g ws = if is_static g then landed h (unless_abstract g) ws else with_receiver h c g ws

abbrev pub invoke : At → Call → List ℕ → Method → Did Left
invoke h c ks g = invoked h c g (map (reg_word h.frame) ks)

-- ---- returns

-- the caller goes on after its invoke, with this result
abbrev pub back_to : At → Kept → Frame → List Level → Option statics.At → Did Left
back_to h k g ls None = left h.shared (level.Code g ∷ ls)
back_to h k g ls (Some x) = left h.shared (level.Code (given (gone g x.next) k) ∷ ls)

-- the frame is dropped; a caller takes the result, a record takes none
abbrev pub back_on : At → Kept → List Level → Did Left
back_on h k [] = left h.shared []
back_on h k (level.Init c r ∷ ls) = left h.shared (level.Init c r ∷ ls)
back_on h k (level.Code g ∷ ls) = back_to h k g ls (fetch h.image g.method.0 g.at)

abbrev pub back : At → Kept → Did Left
back h k = back_on h k h.rest

abbrev pub is_wide : Option Ty → Bool
is_wide None = false
is_wide (Some t) = is_long t

-- one word, or the two of a long, by the method's result
abbrev pub kept_at : Frame → ℕ → Bool → Kept
kept_at s a true = kept.Two (reg_word s a) (reg_word s (ℕ.suc a))
kept_at s a false = kept.One (reg_word s a)

abbrev pub return_form : At → ℕ → Did Left
return_form h a = back h (kept_at h.frame a (is_wide h.own.def.proto.ret))

abbrev pub return_void : At → Did Left
return_void h = back h kept.None
