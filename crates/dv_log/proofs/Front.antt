-- What has been read already, in front of what is read of the rest.
use Rattle.std.proofs.Common.{◌≡◌, ℕ, ◌+◌, ◌<◌, ◌≤◌, List, [], ◌∷◌, ◌++◌, length, get_or, drop, Result, Ok, Err, refl, append_assoc, ap, sym, ◌∙◌, subst}
use Rattle.std.proofs.lemmas.List.{append-nil, drop_more, at_drop_all}
use Rattle.dv_defs.specs.declared.run.Entry.{Entry}
use Rattle.dv_log.specs.Reading.{with_entry, IsBlankLine, IsEntryLine, IsBadLine, Reads, End, Blank, One, Bad}

abbrev pub with_front : List Entry → Result (List Entry) ℕ → Result (List Entry) ℕ
with_front front (Ok es) = Ok (front ++ es)
with_front front (Err line) = Err line

pub front_more : (front : List Entry) (e : Entry) (r : Result (List Entry) ℕ) → with_front front (with_entry e r) ≡ with_front (front ++ e ∷ []) r
front_more front e (Ok es) = ap (λ (xs : List Entry). Ok xs) (sym (append_assoc front (e ∷ []) es))
front_more front e (Err line) = refl

-- ---- one line more

module _ (n k : ℕ) (ls : List (List ℕ)) (line bytes : List ℕ) (lt : k < length ls) (here : line ≡ get_or ls k line) (same : bytes ≡ line) where
  step : (r : Result (List Entry) ℕ) → Reads n (bytes ∷ drop (k + 1) ls) r → Reads n (drop k ls) r
  step r h =
      let there : bytes ∷ drop (k + 1) ls ≡ drop k ls = ap (λ (l : List ℕ). l ∷ drop (k + 1) ls) (same ∙ here) ∙ sym (drop_more ls k line lt) in
      subst (λ (xs : List (List ℕ)). Reads n xs r) there h

  pub over_blank : IsBlankLine bytes → (r : Result (List Entry) ℕ) → Reads (n + 1) (drop (k + 1) ls) r → Reads n (drop k ls) r
  over_blank blank r h = step r (Blank n bytes (drop (k + 1) ls) r blank h)

  pub over_entry : (e : Entry) → IsEntryLine bytes e → (r : Result (List Entry) ℕ) → Reads (n + 1) (drop (k + 1) ls) r → Reads n (drop k ls) (with_entry e r)
  over_entry e is r h = step (with_entry e r) (One n bytes (drop (k + 1) ls) r e is h)

  pub at_bad : IsBadLine bytes → Reads n (drop k ls) (Err n)
  at_bad is = step (Err n) (Bad n bytes (drop (k + 1) ls) is)

pub at_end : (n k : ℕ) (ls : List (List ℕ)) → length ls ≤ k → Reads n (drop k ls) (Ok [])
at_end n k ls le = subst (λ (xs : List (List ℕ)). Reads n xs (Ok [])) (sym (at_drop_all (λ (xs : List (List ℕ)). xs) ls k le)) (End n)

-- what was read in front, with nothing behind it
pub front_none : (front : List Entry) → with_front front (Ok []) ≡ Ok front
front_none front = ap (λ (xs : List Entry). Ok xs) (append-nil front)
