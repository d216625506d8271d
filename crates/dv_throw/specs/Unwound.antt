-- What the parts of a step make of an exception in flight.
use Rattle.std.specs.Prelude.{◌≡◌, ℕ, Option, Some, None, Result, Ok, Err, codes, option_map, if◌then◌else◌, List, []}
use Rattle.std.specs.declared.alloc.AllocError.{AllocError}
use Rattle.dv_defs.specs.declared.run.Named.TheVariants as named
use Rattle.dv_defs.specs.declared.run.Next.{Next}
use Rattle.dv_defs.specs.declared.run.Next.TheVariants as next
use Rattle.dv_machine.specs.Classes.{Classes, Erroneous, with_state}
use Rattle.dv_defs.specs.Images.{Image}
use Rattle.dv_defs.specs.Names.{error_name}
use Rattle.dv_defs.specs.Order.{instance}
use Rattle.dv_defs.specs.Types.{of_class}
use Rattle.dv_machine.specs.Unwinding.{throwable_slot}
use Rattle.dv_words.specs.declared.state.Level.{Level}
use Rattle.dv_words.specs.Heaps.{Got, newest, with_word}
use Rattle.dv_words.specs.Stacks.{below, changed, handling, popped, with_levels}
use Rattle.dv_words.specs.State.{WordHeap, WordStack}
use Rattle.dv_words.specs.Mem.{type_of}
use Rattle.dv_words.specs.Unwinding.{is_opening, made_object}

-- ---- objects

-- the object, with the heap that has it; none where words are lacking
abbrev pub IsObject : Result (Option ℕ) AllocError → Option Got → WordHeap → WordHeap → Type 0
IsObject (Ok (Some o)) got old new = got ≡ Some (record { object = o; heap = new })
IsObject (Ok None) got old new = (got ≡ None) × (new ≡ old)
IsObject (Err memory) got old new = new ≡ old

-- the newest object has this cause
abbrev pub caused_by : Image → ℕ → WordHeap → Got
caused_by image o heap =
    record { object = newest heap; heap = with_word heap (newest heap) (throwable_slot image (codes "cause")) o }

-- what flies on where an initialiser ended by an exception: an Error itself, anything else as the cause of a new one
abbrev pub raised : Image → WordHeap → ℕ → Option Got
raised image heap o =
    if instance image (type_of image heap o) (of_class error_name) then Some (record { object = o; heap = heap })
    else option_map (caused_by image o) (made_object image heap named.InInitializer)

-- ---- levels

-- without thread 0's first frame, where the record above it was the one that the opening made
abbrev pub below_opening : Image → ℕ → ℕ → List Level → List Level
below_opening image t c ls = if is_opening image t c ls then [] else ls

-- the frame on top enters a handler, or is dropped where none catches the exception
abbrev pub IsThrough : Next → Option ℕ → ℕ → WordStack → WordStack → Type 0
IsThrough next.On (Some to) o stack stack' = stack' ≡ changed (λ f. handling f to o) stack
IsThrough (next.ThrowRef p) None o stack stack' = (p ≡ o) × (stack' ≡ popped stack)
IsThrough answer to o stack stack' = ⊥

-- the record on top is dropped, and its class is erroneous
pub record IsEnded (image : Image) (t c : ℕ) (stack stack' : WordStack) (classes classes' : Classes) : Type 0 where
  pub classes_are : classes' ≡ with_state classes c Erroneous
  pub stack_is : stack' ≡ with_levels stack (below_opening image t c (below stack.levels))

-- it has ended, and what was raised flies on; where the words for that are lacking, the heap is as before. Where memory is wanting all stays
abbrev pub Ends : Result Next AllocError → Option Got → WordHeap → WordHeap → Type 0 → Type 0 → Type 0
Ends (Ok (next.ThrowRef o)) (Some g) heap heap' ended stays = (g ≡ record { object = o; heap = heap' }) × ended
Ends (Ok next.NoWords) None heap heap' ended stays = (heap' ≡ heap) × ended
Ends (Err memory) g heap heap' ended stays = stays
Ends answer g heap heap' ended stays = ⊥
