-- Tests of words decide as tests of values.
use Rattle.std.proofs.Common.{◌≡◌, ℕ, Bool, true, false, not, Ok, ℤ, pos, refl, sym, ap, ◌∙◌, subst}
use Rattle.std.specs.Int.{w32}
use Rattle.std.specs.Ordering.{int_eq}
use Rattle.std.proofs.lemmas.Bool.Decides.{Decides-int_eq}
use Rattle.std.proofs.lemmas.Int.{of_z-to_z}
use Rattle.dv_machine.specs.Value.{Value}
use Rattle.dv_machine.specs.Value as v
use Rattle.dv_defs.specs.Numbers.{compare}
use Rattle.dv_defs.specs.Parts.{Test, is_equality}
use Rattle.dv_machine.specs.Local.{compare_words, read_word, test_both}
use Rattle.dv_machine.specs.State.{Reads, on_next, read_int}
use Rattle.dv_words.specs.Standing.{Fits, IsWord}
use Rattle.dv_words.specs.Words.{int_of, word_of}

both_ways : (r s : Bool) → (r ≡ true → s ≡ true) → (s ≡ true → r ≡ true) → r ≡ s
both_ways true s to back = sym (to refl)
both_ways false true to back = back refl
both_ways false false to back = refl

-- words are the same where the ints are
same_word : (w u : ℕ) → Fits w → Fits u → int_of w ≡ int_of u → w ≡ u
same_word w u f g e = sym (of_z-to_z w32 w f) ∙ ap word_of e ∙ of_z-to_z w32 u g

-- objects are the same where their numbers, read as ints, are
equal_alike : (w u : ℕ) → Fits w → Fits u → int_eq (pos w) (pos u) ≡ int_eq (int_of w) (int_of u)
equal_alike w u f g =
    both_ways _ _
    (λ e. let d : pos w ≡ pos u = (Decides-int_eq (pos w) (pos u)).0 e in let same : w ≡ u = cc in (Decides-int_eq (int_of w) (int_of u)).1 (ap int_of same))
    (λ e. let d : int_of w ≡ int_of u = (Decides-int_eq (int_of w) (int_of u)).0 e in (Decides-int_eq (pos w) (pos u)).1 (ap pos (same_word w u f g d)))

compare_alike : (t : Test) (w u : ℕ) → is_equality t ≡ true → Fits w → Fits u → compare t (pos w) (pos u) ≡ compare t (int_of w) (int_of u)
compare_alike Test.Eq w u is f g = equal_alike w u f g
compare_alike Test.Ne w u is f g = ap not (equal_alike w u f g)
compare_alike t w u is f g = absurd (cc)

-- zero is the int and null; an int and an object aren't compared
module _ {A : Type 0} (t : Test) (is : is_equality t ≡ true) (w u : ℕ) (fits : Fits w) (more : Fits u) (go : Bool → Reads A) (g : A) where
  abbrev Decided : Type 0
  Decided = go (compare t (int_of w) (int_of u)) ≡ Ok g

  ints : (n m : ℤ) → int_of w ≡ n → int_of u ≡ m → go (compare t n m) ≡ Ok g → Decided
  ints n m a b e = rw (a, b) e

  objects : (o p : ℕ) → w ≡ o → u ≡ p → go (compare t (pos o) (pos p)) ≡ Ok g → Decided
  objects o p a b e =
      let d : go (compare t (pos w) (pos u)) ≡ Ok g = rw (a, b) e in
      subst (λ (r : Bool). go r ≡ Ok g) (compare_alike t w u is fits more) d

  pub equal_words : (x y : Value) → IsWord w x → IsWord u y → on_next (on_next (read_word x) (λ a. on_next (read_word y) (λ b. compare_words t a b))) go ≡ Ok g → Decided
  equal_words v.Zero v.Zero a b e = objects 0 0 a b e
  equal_words v.Zero (v.Num m) a b e = ints (pos 0) m (ap int_of a) b e
  equal_words v.Zero (v.Ref p) a b e = objects 0 p a b e
  equal_words v.Zero y a b e = absurd (cc)
  equal_words (v.Num n) v.Zero a b e = ints n (pos 0) a (ap int_of b) e
  equal_words (v.Num n) (v.Num m) a b e = ints n m a b e
  equal_words (v.Num n) y a b e = absurd (cc)
  equal_words (v.Ref o) v.Zero a b e = objects o 0 a b e
  equal_words (v.Ref o) (v.Ref p) a b e = objects o p a b e
  equal_words (v.Ref o) y a b e = absurd (cc)
  equal_words x y a b e = absurd (cc)

module _ {A : Type 0} (t : Test) (w u : ℕ) (go : Bool → Reads A) (g : A) where
  pub compared_ints : (x y : Value) → IsWord w x → IsWord u y → on_next (on_next (read_int x) (λ a. on_next (read_int y) (λ b. Ok (compare t a b)))) go ≡ Ok g → go (compare t (int_of w) (int_of u)) ≡ Ok g
  compared_ints v.Zero v.Zero a b e = rw (a, b) e
  compared_ints v.Zero (v.Num m) a b e = rw (a, b) e
  compared_ints v.Zero y a b e = absurd (cc)
  compared_ints (v.Num n) v.Zero a b e = rw (a, b) e
  compared_ints (v.Num n) (v.Num m) a b e = rw (a, b) e
  compared_ints (v.Num n) y a b e = absurd (cc)
  compared_ints x y a b e = absurd (cc)

-- a test of values that isn't stuck decides as the test of their words
pub on_test : {A : Type 0} (t : Test) (x y : Value) (w u : ℕ) (go : Bool → Reads A) (g : A) → Fits w → Fits u → IsWord w x → IsWord u y → on_next (test_both t x y) go ≡ Ok g → go (compare t (int_of w) (int_of u)) ≡ Ok g
on_test Test.Eq x y w u go g f h a b e = equal_words Test.Eq refl w u f h go g x y a b e
on_test Test.Ne x y w u go g f h a b e = equal_words Test.Ne refl w u f h go g x y a b e
on_test Test.Lt x y w u go g f h a b e = compared_ints Test.Lt w u go g x y a b e
on_test Test.Ge x y w u go g f h a b e = compared_ints Test.Ge w u go g x y a b e
on_test Test.Gt x y w u go g f h a b e = compared_ints Test.Gt w u go g x y a b e
on_test Test.Le x y w u go g f h a b e = compared_ints Test.Le w u go g x y a b e
