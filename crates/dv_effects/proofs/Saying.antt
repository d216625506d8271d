-- Words that say types: one, a list's, and what writes leave.
use Rattle.std.proofs.Common.{◌≡◌, ◌<◌, ◌≤◌, ℕ, zero, suc, List, [], ◌∷◌, ◌++◌, length, get_or, set, refl, sym, ap, ◌∙◌, subst, arith, rules}
use Rattle.std.specs.Prelude.{map, replicate, All}
use Rattle.std.proofs.lemmas.List.{map-set, map-append, get_or_past, get_or-map, length-map}
use Rattle.std.proofs.lemmas.List.Elements.{All-set, All-append, All-get_or, All-cons, All-head, All-tail}
use Rattle.dv_typing.specs.declared.typing.RegType.{RegType}
use Rattle.dv_typing.specs.declared.typing.RegType.TheVariants as ty
use Rattle.dv_typing.specs.declared.typing.PendingType.{PendingType}
use Rattle.dv_typing.specs.RegTypes.{Types, type_at}
use Rattle.dv_bases.specs.declared.words.Part.{Part}
use Rattle.dv_bases.specs.declared.words.Part.TheVariants as part
use Rattle.dv_bases.specs.declared.states.PendingWord.{PendingWord}
use Rattle.dv_bases.specs.declared.states.PendingWord.TheVariants as word
use Rattle.dv_bases.specs.Words.{part_in}
use Rattle.dv_bases.specs.Bases.{Names, type_in, word_type, IsPart, IsWord}
use Rattle.dv_effects.specs.Said.{Says, SayAll, SaysPending}

-- a word says what its part is
pub part_says : (names : Names) (w : ℕ) (p : Part) → part_in w ≡ p → IsPart names p → Says names w (type_in names p)
part_says names w p e h = record { word = subst (IsPart names) (sym e) h; said = ap (type_in names) e }

-- and its part is of the type that it says
pub part_read : (names : Names) (w : ℕ) (p : Part) (t : RegType) → Says names w t → p ≡ part_in w → type_in names p ≡ t
part_read names w p t s e = ap (type_in names) e ∙ s.said

-- the word of a pending result says it
pub pending_says : (names : Names) (q : PendingWord) (p : PendingType) (w : ℕ) → SaysPending names q p → q ≡ word.One w → SaysPending names (word.One w) p
pending_says names q p w s e = subst (λ r. SaysPending names r p) e s

module _ (names : Names) (ws : List ℕ) (ts : Types) (h : SayAll names ws ts) where
  pub same_length : length ws ≡ length ts
  same_length = sym (length-map ws (word_type names)) ∙ ap length h.said

  pub says_at : (k : ℕ) → k < length ws → Says names (get_or ws k 0) (type_at ts k)
  says_at k within =
      record {
        word = All-get_or (IsWord names) ws k 0 within h.words;
        said = sym (get_or-map (word_type names) ws k 0 ty.Conflict within) ∙ ap (λ us. get_or us k ty.Conflict) h.said;
      }

  past_at : (k : ℕ) → length ws ≤ k → ty.Conflict ≡ type_at ts k
  past_at k past = sym (get_or_past ts k ty.Conflict (omega (arith, past, same_length)))

  pub says_past : (w k : ℕ) → part_in w ≡ part.Conflict → length ws ≤ k → Says names w (type_at ts k)
  says_past w k e past = subst (Says names w) (past_at k past) (part_says names w part.Conflict e tt)

  pub says_set : (k w : ℕ) (t : RegType) → Says names w t → SayAll names (set ws k w) (set ts k t)
  says_set k w t s =
      record {
        words = All-set (IsWord names) ws k w s.word h.words;
        said = map-set (word_type names) ws k w ∙ (λ i. set (h.said i) k (s.said i));
      }

  pub says_append : (vs : List ℕ) (us : Types) → SayAll names vs us → SayAll names (ws ++ vs) (ts ++ us)
  says_append vs us g =
      record {
        words = All-append (IsWord names) ws vs h.words g.words;
        said = map-append (word_type names) ws vs ∙ (λ i. h.said i ++ g.said i);
      }

pub says_none : (names : Names) → SayAll names [] []
says_none names = record { words = search rules; said = refl }

pub says_cons : (names : Names) (w : ℕ) (t : RegType) (ws : List ℕ) (ts : Types) → Says names w t → SayAll names ws ts → SayAll names (w ∷ ws) (t ∷ ts)
says_cons names w t ws ts s h = record { words = All-cons (IsWord names) w ws s.word h.words; said = (λ i. s.said i ∷ h.said i) }

pub says_repeated : (names : Names) (w : ℕ) (t : RegType) (n : ℕ) → Says names w t → SayAll names (replicate n w) (replicate n t)
says_repeated names w t zero s = says_none names
says_repeated names w t (suc n) s = says_cons names w t (replicate n w) (replicate n t) s (says_repeated names w t n s)

-- what is done to each word is done to each type
pub says_each : (names : Names) (f : ℕ → ℕ) (g : RegType → RegType) → ((w : ℕ) (t : RegType) → Says names w t → Says names (f w) (g t)) →
    (ws : List ℕ) (ts : Types) → SayAll names ws ts → SayAll names (map f ws) (map g ts)
says_each names f g each ws ts h = subst (λ us. SayAll names (map f ws) (map g us)) h.said (over ws h.words)
  where
    over : (xs : List ℕ) → All (IsWord names) xs → SayAll names (map f xs) (map g (map (word_type names) xs))
    over [] all = says_none names
    over (x ∷ xs) all =
        says_cons names (f x) (g (word_type names x)) (map f xs) (map g (map (word_type names) xs))
        (each x (word_type names x) (record { word = All-head (IsWord names) x xs all; said = refl }))
        (over xs (All-tail (IsWord names) x xs all))
