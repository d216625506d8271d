-- The tiles of units stand within them, one after another.
use Rattle.std.specs.Prelude.{nat_eq, is_some}
use Rattle.std.proofs.Common.{◌≡◌, ◌⊎◌, inl, inr, ℕ, zero, suc, ◌+◌, ◌-◌, ◌<◌, ◌≤◌, List, [], ◌∷◌, length, Bool, true, false, Option, Some, None, Result, Ok, Err, refl, sym, subst, arith}
use Rattle.std.proofs.lemmas.Bool.{eqb-true}
use Rattle.dv_defs.specs.Tiling.{Tile, Piece, piece_here, with_tile, tiled, tile_at, insn_in, begins_insn}
use Rattle.law_types.proofs.Facts.{no}

-- an instruction begins at the first tile or at one of the others
pub here_or_later : (t : Tile) (ts : List Tile) (a : ℕ) → begins_insn (t ∷ ts) a ≡ true → (t.at ≡ a) ⊎ (begins_insn ts a ≡ true)
here_or_later t ts a = by_test (nat_eq t.at a) refl
  where
    by_test : (b : Bool) → nat_eq t.at a ≡ b → is_some (elim (elim b as (λ w. Option Tile) [ true ↦ Some t | false ↦ tile_at ts a ]) [ None ↦ None | Some u ↦ insn_in u.item ]) ≡ true → (t.at ≡ a) ⊎ (begins_insn ts a ≡ true)
    by_test true e h = inl (eqb-true t.at a e)
    by_test false e h = inr h

-- where a tile begins, the others follow
pub record IsSplit (at : ℕ) (us : List ℕ) (ts : List Tile) : Type 0 where
  pub tile : Tile
  pub here : tile.at ≡ at
  pub passing : ℕ
  pub rest : List Tile
  pub later : tiled (suc at) passing us ≡ Ok rest
  pub is : ts ≡ tile ∷ rest

split_rest : (at n : ℕ) (us : List ℕ) (ts : List Tile) (t : Tile) (r : Result (List Tile) ℕ) → t.at ≡ at → tiled (suc at) n us ≡ r → with_tile t r ≡ Ok ts → IsSplit at us ts
split_rest at n us ts t (Err a) here later e = absurd (cc)
split_rest at n us ts t (Ok rest) here later e = record { tile = t; here = here; passing = n; rest = rest; later = later; is = cc }

split_piece : (at : ℕ) (us : List ℕ) (ts : List Tile) (o : Option Piece) →
    elim o as (λ w. Result (List Tile) ℕ) [ None ↦ Err at | Some p ↦ with_tile (record { at = at; size = p.size; item = p.item }) (tiled (suc at) (p.size - 1) us) ] ≡ Ok ts → IsSplit at us ts
split_piece at us ts None e = absurd (cc)
split_piece at us ts (Some p) e = split_rest at (p.size - 1) us ts (record { at = at; size = p.size; item = p.item }) (tiled (suc at) (p.size - 1) us) refl refl e

pub split : (at u : ℕ) (us : List ℕ) (ts : List Tile) → tiled at zero (u ∷ us) ≡ Ok ts → IsSplit at us ts
split at u us ts e = split_piece at us ts (piece_here (u ∷ us)) e

-- an instruction begins within the units
pub within : (us : List ℕ) (at k : ℕ) (ts : List Tile) → tiled at k us ≡ Ok ts → (a : ℕ) → begins_insn ts a ≡ true → (at ≤ a) × (a < at + length us)
within [] at zero ts e a b =
    let none : [] ≡ ts = cc in
    no (subst (λ (z : List Tile). begins_insn z a ≡ true) (sym none) b)
within [] at (suc k) ts e a b = absurd (cc)
within (u ∷ us) at (suc k) ts e a b = let w = within us (suc at) k ts e a b in (omega (arith, w.0), omega (arith, w.1))
within (u ∷ us) at zero ts e a b =
    let s = split at u us ts e in
    elim (here_or_later s.tile s.rest a (subst (λ (z : List Tile). begins_insn z a ≡ true) s.is b)) [
      | inl same ↦ (let here = s.here in (omega (arith, here, same), omega (arith, here, same)))
      | inr later ↦ (let w = within us (suc at) s.passing s.rest s.later a later in (omega (arith, w.0), omega (arith, w.1)))
    ]
