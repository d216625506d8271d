-- Stacks on words: what each call makes of them.
use Rattle.std.specs.Prelude.{ℕ, suc, ◌+◌, ◌-◌, ◌++◌, Bool, true, false, ◌&&◌, List, [], ◌∷◌, length, map, replicate, Option, Some, None, slice_set, nat_le}
use Rattle.dv_defs.specs.declared.code.Regs.{Regs}
use Rattle.dv_defs.specs.declared.names.ClassId.{ClassId}
use Rattle.dv_defs.specs.declared.names.MethodId.{MethodId}
use Rattle.dv_defs.specs.Op.{named_registers}
use Rattle.dv_words.specs.declared.state.Frame.{Frame}
use Rattle.dv_words.specs.declared.state.Kept.{Kept}
use Rattle.dv_words.specs.declared.state.Kept.TheVariants as kept
use Rattle.dv_words.specs.declared.state.Level.{Level}
use Rattle.dv_words.specs.declared.state.Level.TheVariants as level
use Rattle.dv_words.specs.State.{WordStack}
use Rattle.dv_words.specs.Words.{word_at}

-- ---- frames

-- with these registers
abbrev pub with_regs : Frame → List ℕ → Frame
with_regs f regs = record { method = f.method; at = f.at; regs = regs; result = f.result; caught = f.caught }

-- a register is written, where it is there
abbrev pub with_word : Frame → ℕ → ℕ → Frame
with_word f r w = with_regs f (slice_set f.regs r w)

-- on at an address: no result is kept, and nothing is caught
abbrev pub gone : Frame → ℕ → Frame
gone f to = record { method = f.method; at = to; regs = f.regs; result = kept.None; caught = None }

abbrev pub given : Frame → Kept → Frame
given f k = record { method = f.method; at = f.at; regs = f.regs; result = k; caught = f.caught }

-- the word of a result, of a long its low word; 0 where none is kept
abbrev pub low_word : Kept → ℕ
low_word kept.None = 0
low_word (kept.One w) = w
low_word (kept.Two low high) = low

-- the high word of a long, 0 where none is kept
abbrev pub high_word : Kept → ℕ
high_word (kept.Two low high) = high
high_word k = 0

-- on at a handler that caught an object
abbrev pub handling : Frame → ℕ → ℕ → Frame
handling f to o = record { method = f.method; at = to; regs = f.regs; result = kept.None; caught = Some o }

-- as a method begins: zeros, but for the argument words in its last registers
abbrev pub entered : MethodId → ℕ → List ℕ → Frame
entered m registers args =
    record { method = m; at = 0; regs = replicate (registers - length args) 0 ++ args; result = kept.None; caught = None }

-- ---- levels

abbrev pub size_of : Level → ℕ
size_of (level.Code f) = length f.regs
size_of (level.Init c r) = 0

-- the register words of levels
abbrev pub words_in : List Level → ℕ
words_in [] = 0
words_in (l ∷ ls) = size_of l + words_in ls

abbrev pub first : List Level → Option Level
first [] = None
first (l ∷ ls) = Some l

abbrev pub below : List Level → List Level
below [] = []
below (l ∷ ls) = ls

-- the registers on top, none where that isn't code
abbrev pub top_regs : List Level → List ℕ
top_regs (level.Code f ∷ ls) = f.regs
top_regs ls = []

-- the frame on top is changed, where there is one
abbrev pub on_top : (Frame → Frame) → List Level → List Level
on_top g (level.Code f ∷ ls) = level.Code (g f) ∷ ls
on_top g ls = ls

-- ---- stacks

abbrev pub with_levels : WordStack → List Level → WordStack
with_levels s ls = record { levels = ls; most_levels = s.most_levels; most_words = s.most_words }

abbrev pub empty : ℕ → ℕ → WordStack
empty levels words = record { levels = []; most_levels = levels; most_words = words }

abbrev pub changed : (Frame → Frame) → WordStack → WordStack
changed g s = with_levels s (on_top g s.levels)

abbrev pub popped : WordStack → WordStack
popped s = with_levels s (below s.levels)

-- whether there is room for one level more with so many words
abbrev pub has_room : WordStack → ℕ → Bool
has_room s n = nat_le (suc (length s.levels)) s.most_levels && nat_le (n + words_in s.levels) s.most_words

-- one level more; none where it is full
abbrev pub pushed : WordStack → Level → Option WordStack
pushed s l = elim (has_room s (size_of l)) [ true ↦ Some (with_levels s (l ∷ s.levels)) | false ↦ None ]

-- the words of the registers that an instruction names, in the frame on top
abbrev pub arg_words : WordStack → Regs → List ℕ
arg_words s r = map (word_at (top_regs s.levels)) (named_registers r)
