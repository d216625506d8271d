-- The first of the words that an instruction names.
use Rattle.std.proofs.Common.{◌≡◌, ℕ, zero, suc, ◌<◌, Bool, true, false, List, [], ◌∷◌, length, map, take, Some, refl, ap, ◌∙◌, arith}
use Rattle.std.specs.Prelude.{slice_get, slice_index, slice_index_or}
use Rattle.dv_defs.specs.declared.code.Regs.{Regs}
use Rattle.dv_defs.specs.Op.{count_up, named_registers}
use Rattle.dv_words.specs.Stacks.{arg_words, top_regs}
use Rattle.dv_words.specs.State.{WordStack, WordThread}
use Rattle.dv_words.specs.Words.{word_at}
use Rattle.dv_words.specs.Local.{reg_word}
use Rattle.dv_words.specs.Natives.{arg}
use Rattle.dv_words.specs.Steps.{At}
use Rattle.dv_threads.specs.declared.threads.Threads.{Threads}
use Rattle.dv_threads.specs.Kept.{IsThreadOf}

named_by : ℕ → List ℕ → Bool → List ℕ
named_by n xs b = elim b as (λ _. List ℕ) [ true ↦ count_up (slice_index xs 0) n | false ↦ take n xs ]

first_by : (ws : List ℕ) (n : ℕ) (xs : List ℕ) (b : Bool) → (n ≡ 0 → ⊥) → 0 < length xs → slice_index_or (map (word_at ws) (named_by n xs b)) 0 0 ≡ word_at ws (slice_index xs 0)
unfolding named_by
first_by ws zero xs b some long = absurd (some refl)
first_by ws (suc n) [] b some long = absurd (omega arith)
first_by ws (suc n) (x ∷ xs) true some long = refl
first_by ws (suc n) (x ∷ xs) false some long = refl

pub first_named : (ws : List ℕ) (r : Regs) → (r.count ≡ 0 → ⊥) → 0 < length r.first → slice_index_or (map (word_at ws) (named_registers r)) 0 0 ≡ word_at ws (slice_index r.first 0)
unfolding named_by
first_named ws r some long = first_by ws r.count r.first r.range some long

-- the word by its thread
pub object_is : (old : Threads) (thread next : ℕ) (own : WordThread) (h : At) (is : IsThreadOf old thread next own h) (r : Regs) (w : ℕ) (ss : List WordStack) → ss ≡ old.stacks.items
    → ((s : WordStack) → slice_get ss thread ≡ Some s → w ≡ arg (arg_words s r) 0) → w ≡ arg (map (reg_word h.frame) (named_registers r)) 0
object_is old thread next own h is r w ss same reads =
    reads is.stack (ap (λ xs. slice_get xs thread) same ∙ is.has_stack) ∙
    ap (λ ls. arg (map (word_at (top_regs ls)) (named_registers r)) 0) is.is_stack.levels
