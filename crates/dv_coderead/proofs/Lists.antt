-- Registers between braces, one after another.
use Rattle.std.proofs.Common.{◌≡◌, ℕ, zero, suc, ◌-◌, true, false, List, [], ◌∷◌, ◌++◌, Ok, Err, refl, sym, ap, append_assoc, arith}
use Rattle.dv_defs.specs.declared.faults.LineKind.{LineKind}
use Rattle.dv_defs.specs.declared.faults.LineKind.TheVariants.{Operands}
use Rattle.dv_coderead.specs.declared.words.Frame.{Frame}
use Rattle.dv_coderead.specs.Pieces.{Piece}
use Rattle.dv_coderead.specs.Operands.{Part, list_at, more_at, register_at, with_front, with_register}

less_one : (k room : ℕ) → room ≡ suc k → room - 1 ≡ k
less_one k room e = omega (arith, e)

module _ (frame : Frame) (ps : List Piece) where
  pub no_room : (front : List ℕ) → with_front front (list_at 0 frame ps) ≡ Err Operands
  unfolding list_at
  no_room front = refl

  pub no_register : (room : ℕ) (front : List ℕ) (k : LineKind) → (room ≡ 0 → ⊥) → register_at frame ps ≡ Err k → with_front front (list_at room frame ps) ≡ Err k
  unfolding list_at
  no_register zero front k some e = absurd (some refl)
  no_register (suc n) front k some e = rw e refl

  pub no_more : (room r : ℕ) (rest : List Piece) (front : List ℕ) (k : LineKind) → (room ≡ 0 → ⊥) → register_at frame ps ≡ Ok (r, rest) → more_at rest ≡ Err k
      → with_front front (list_at room frame ps) ≡ Err k
  unfolding list_at
  no_more zero r rest front k some e f = absurd (some refl)
  no_more (suc n) r rest front k some e f = rw (e, f) refl

  pub at_end : (room r : ℕ) (rest behind : List Piece) (front : List ℕ) → (room ≡ 0 → ⊥) → register_at frame ps ≡ Ok (r, rest) → more_at rest ≡ Ok (false, behind)
      → with_front front (list_at room frame ps) ≡ Ok (front ++ r ∷ [], behind)
  unfolding list_at
  at_end zero r rest behind front some e f = absurd (some refl)
  at_end (suc n) r rest behind front some e f = rw (e, f) refl

  front_more : (front : List ℕ) (r : ℕ) (x : Part (List ℕ)) → with_front front (with_register r x) ≡ with_front (front ++ r ∷ []) x
  front_more front r (Ok x) = ap (λ (rs : List ℕ). Ok (rs, x.1)) (sym (append_assoc front (r ∷ []) x.0))
  front_more front r (Err k) = refl

  pub goes_on : (room r : ℕ) (rest behind : List Piece) (front : List ℕ) → (room ≡ 0 → ⊥) → register_at frame ps ≡ Ok (r, rest) → more_at rest ≡ Ok (true, behind)
      → with_front front (list_at room frame ps) ≡ with_front (front ++ r ∷ []) (list_at (room - 1) frame behind)
  unfolding list_at
  goes_on zero r rest behind front some e f = absurd (some refl)
  goes_on (suc n) r rest behind front some e f = rw (e, f, less_one n (suc n) refl) (front_more front r (list_at n frame behind))
