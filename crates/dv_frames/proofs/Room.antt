-- The room that is left in the arena.
use Rattle.std.proofs.Common.{◌≡◌, ℕ, suc, ◌+◌, ◌<◌, ◌≤◌, List, length, reverse, refl, sym, ◌∙◌, ap, arith}
use Rattle.std.specs.Prelude.{true, false, ◌&&◌, nat_le}
use Rattle.std.proofs.lemmas.List.{length-reverse}
use Rattle.std.proofs.lemmas.Bool.Decides.{nat_tests}
use Rattle.dv_words.specs.State.{WordStack}
use Rattle.dv_words.specs.Stacks.{has_room}
use Rattle.dv_frames.specs.declared.levels.Level.{Level}
use Rattle.dv_frames.specs.declared.stack.Stack.TheInside.{Inside}
use Rattle.dv_frames.specs.Arena.{cut, AreLaid}
use Rattle.dv_frames.proofs.Cutting.{length_cut, words_cut}

-- what a clause sees of levels and words
abbrev pub stack_of : List Level → List ℕ → ℕ → ℕ → WordStack
stack_of levels ws ml mw = record { levels = cut (reverse levels) ws; most_levels = ml; most_words = mw }

abbrev pub stack_in : Inside → WordStack
stack_in a = stack_of a.levels.items a.words.items a.most_levels a.most_words

abbrev pub IsLaid : Inside → Type 0
IsLaid a = AreLaid (reverse a.levels.items) a.words.items

both_pass : (a b c d : ℕ) → a < b → c ≤ d → (nat_le (suc a) b && nat_le c d) ≡ true
both_pass a b c d p q = grind (arith, nat_tests)

first_passed : (a b c d : ℕ) → (nat_le (suc a) b && nat_le c d) ≡ true → a < b
first_passed a b c d e = grind (arith, nat_tests)

second_passed : (a b c d : ℕ) → (nat_le (suc a) b && nat_le c d) ≡ true → c ≤ d
second_passed a b c d e = grind (arith, nat_tests)

first_fails : (a b c d : ℕ) → b ≤ a → (nat_le (suc a) b && nat_le c d) ≡ false
first_fails a b c d p = grind (arith, nat_tests)

second_fails : (a b c d : ℕ) → d < c → (nat_le (suc a) b && nat_le c d) ≡ false
second_fails a b c d p = grind (arith, nat_tests)

room_is : (levels : List Level) (ws : List ℕ) (ml mw n : ℕ) → AreLaid (reverse levels) ws → has_room (stack_of levels ws ml mw) n ≡ (nat_le (suc (length levels)) ml && nat_le (n + length ws) mw)
room_is levels ws ml mw n l = rw (length_cut (reverse levels) ws, length-reverse levels, words_cut (reverse levels) ws l) refl

pub has_space : (levels : List Level) (ws : List ℕ) (ml mw n : ℕ) → AreLaid (reverse levels) ws → length levels < ml → n + length ws ≤ mw → has_room (stack_of levels ws ml mw) n ≡ true
has_space levels ws ml mw n l p q = room_is levels ws ml mw n l ∙ both_pass (length levels) ml (n + length ws) mw p q

-- ---- of a stack that is open

room_in : (a : Inside) (s : WordStack) (n : ℕ) → stack_in a ≡ s → IsLaid a → has_room s n ≡ (nat_le (suc (length a.levels.items)) a.most_levels && nat_le (n + length a.words.items) a.most_words)
room_in a s n e l = ap (λ (z : WordStack). has_room z n) (sym e) ∙ room_is a.levels.items a.words.items a.most_levels a.most_words n l

pub room_found : (a : Inside) (s : WordStack) (n : ℕ) → stack_in a ≡ s → IsLaid a → length a.levels.items < a.most_levels → n + length a.words.items ≤ a.most_words → has_room s n ≡ true
room_found a s n e l p q = room_in a s n e l ∙ both_pass (length a.levels.items) a.most_levels (n + length a.words.items) a.most_words p q

pub levels_full : (a : Inside) (s : WordStack) (n : ℕ) → stack_in a ≡ s → IsLaid a → a.most_levels ≤ length a.levels.items → has_room s n ≡ false
levels_full a s n e l p = room_in a s n e l ∙ first_fails (length a.levels.items) a.most_levels (n + length a.words.items) a.most_words p

pub words_full : (a : Inside) (s : WordStack) (n : ℕ) → stack_in a ≡ s → IsLaid a → a.most_words < n + length a.words.items → has_room s n ≡ false
words_full a s n e l p = room_in a s n e l ∙ second_fails (length a.levels.items) a.most_levels (n + length a.words.items) a.most_words p

pub few_levels : (a : Inside) (s : WordStack) (n : ℕ) → stack_in a ≡ s → IsLaid a → has_room s n ≡ true → length a.levels.items < a.most_levels
few_levels a s n e l r = first_passed (length a.levels.items) a.most_levels (n + length a.words.items) a.most_words (sym (room_in a s n e l) ∙ r)

pub few_words : (a : Inside) (s : WordStack) (n : ℕ) → stack_in a ≡ s → IsLaid a → has_room s n ≡ true → n + length a.words.items ≤ a.most_words
few_words a s n e l r = second_passed (length a.levels.items) a.most_levels (n + length a.words.items) a.most_words (sym (room_in a s n e l) ∙ r)
