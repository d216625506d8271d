-- What a word stands for is what it is the erasure of; the same of lists of words.
use Rattle.std.proofs.Common.{◌≡◌, ℕ, ℤ, pos, negsuc, List, [], ◌∷◌, All, map, refl, sym, ap, ◌∙◌}
use Rattle.std.specs.Int.{w32}
use Rattle.std.specs.List.{AllZip}
use Rattle.std.proofs.lemmas.List.Elements.{All-head, All-tail}
use Rattle.std.proofs.lemmas.Int.{of_z-to_z, to_z_pos}
use Rattle.std.proofs.Math.Facts.{to_z-neg}
use Rattle.dv_machine.specs.Value.{Value}
use Rattle.dv_machine.specs.Value as v
use Rattle.dv_words.specs.Erasure.{erased, erased_values}
use Rattle.law_words.specs.ErasureLaws.{ErasureIsExact}
use Rattle.dv_words.specs.Standing.{AllFit, AreWhole, AreWords, Fits, FitsInt, IsWhole, IsWord}
use Rattle.dv_words.specs.Words.{int_of, word_of}

int_again : (n : ℤ) → FitsInt n → int_of (word_of n) ≡ n
int_again (pos n) l = to_z_pos w32 n l
int_again (negsuc n) l = to_z-neg w32 n l

pub of_word : (w : ℕ) (x : Value) → Fits w → IsWord w x → w ≡ erased x
of_word w v.Undef l i = i
of_word w v.Zero l i = i
of_word w (v.Num n) l i = sym (of_z-to_z w32 w l) ∙ ap word_of i
of_word w (v.Lo n) l i = i
of_word w (v.Hi n) l i = i
of_word w (v.Ref o) l i = i
of_word w (v.Uninit a o) l i = i
of_word w (v.UninitThis o) l i = i

pub to_word : (w : ℕ) (x : Value) → IsWhole x → w ≡ erased x → IsWord w x
to_word w v.Undef l i = i
to_word w v.Zero l i = i
to_word w (v.Num n) l i = ap int_of i ∙ int_again n l
to_word w (v.Lo n) l i = i
to_word w (v.Hi n) l i = i
to_word w (v.Ref o) l i = i
to_word w (v.Uninit a o) l i = i
to_word w (v.UninitThis o) l i = i

pub exact : ErasureIsExact
exact w x l h = (of_word w x l, to_word w x h)

pub same_words : (ws : List ℕ) (xs : List Value) → AllFit ws → AreWords ws xs → ws ≡ erased_values xs
same_words [] [] f are = refl
same_words [] (x ∷ xs) f are = absurd are
same_words (w ∷ ws) [] f are = absurd are
same_words (w ∷ ws) (x ∷ xs) f are = ap (λ u. u ∷ ws) (of_word w x (All-head Fits w ws f) are.0) ∙ ap (λ us. erased x ∷ us) (same_words ws xs (All-tail Fits w ws f) are.1)

pub stand_words : (xs : List Value) → AreWhole xs → AreWords (erased_values xs) xs
stand_words [] h = tt
stand_words (x ∷ xs) h = (to_word (erased x) x (All-head IsWhole x xs h) refl, stand_words xs (All-tail IsWhole x xs h))

pub same_lists : (wss : List (List ℕ)) (xss : List (List Value)) → All AllFit wss → AllZip AreWords wss xss → wss ≡ map erased_values xss
same_lists [] [] f are = refl
same_lists [] (xs ∷ xss) f are = absurd are
same_lists (ws ∷ wss) [] f are = absurd are
same_lists (ws ∷ wss) (xs ∷ xss) f are =
    ap (λ us. us ∷ wss) (same_words ws xs (All-head AllFit ws wss f) are.0) ∙ ap (λ uss. erased_values xs ∷ uss) (same_lists wss xss (All-tail AllFit ws wss f) are.1)

pub stand_lists : (xss : List (List Value)) → All AreWhole xss → AllZip AreWords (map erased_values xss) xss
stand_lists [] h = tt
stand_lists (xs ∷ xss) h = (stand_words xs (All-head AreWhole xs xss h), stand_lists xss (All-tail AreWhole xs xss h))
