-- What std strips of a text is what is told by its front.
use Rattle.std.proofs.Common.{◌≡◌, ℕ, Bool, true, false, List, ◌++◌, Option, Some, None, MatchOption, Bor, length, take, drop, bytes_eq, if◌then◌else◌, sym, ap, ◌∙◌, refl}
use Rattle.std.specs.Prelude.{option_map}
use Rattle.std.specs.Str.Pattern.{FindsTextPrefix, StripsPrefix}
use Rattle.std.proofs.Math.Seq.{take-append_seam}
use Rattle.std.proofs.lemmas.List.{take-append-drop}
use Rattle.std.proofs.lemmas.Slice.Eq.{bytes_eq-Decides}

abbrev pub front_off : List ℕ → List ℕ → Option (List ℕ)
front_off p s = if bytes_eq (take (length p) s) p then Some (drop (length p) s) else None

off_by : (p s : List ℕ) (b : Bool) → bytes_eq (take (length p) s) p ≡ b → front_off p s ≡ (if b then Some (drop (length p) s) else None)
off_by p s b e = ap (λ x. if x then Some (drop (length p) s) else None) e

-- a text with this front begins with it
front_is : (p s : List ℕ) → bytes_eq (take (length p) s) p ≡ true → s ≡ p ++ drop (length p) s
front_is p s e = sym (take-append-drop (length p) s) ∙ ap (λ t. t ++ drop (length p) s) ((bytes_eq-Decides _ _).0 e)

lacks : (p s : List ℕ) → ((rest : List ℕ) → drop 0 s ≡ p ++ rest → ⊥) → (b : Bool) → bytes_eq (take (length p) s) p ≡ b → front_off p s ≡ None
lacks p s never false e = off_by p s false e
lacks p s never true e = absurd (never (drop (length p) s) (front_is p s e))

has : (p s rest : List ℕ) → s ≡ p ++ rest → bytes_eq (take (length p) s) p ≡ true
has p s rest e = (bytes_eq-Decides _ _).1 (ap (take (length p)) e ∙ take-append_seam p rest)

pub stripped : (p s : List ℕ) (r : Option (Bor (List ℕ))) → MatchOption r (FindsTextPrefix p s None) (λ x. StripsPrefix (FindsTextPrefix p) s x.now) → option_map (λ t. t.now) r ≡ front_off p s
stripped p s None h = sym (lacks p s h _ refl)
stripped p s (Some x) h =
    let e : x.now ≡ drop (length p) s = h.2 ∙ ap (λ n. drop n s) h.1.0 in
    ap Some e ∙ sym (off_by p s true (has p s (drop h.0 s) h.1.1))
