-- The cases of switches and the targets of their payloads.
use Rattle.std.proofs.Common.{◌≡◌, ℕ, ◌&&◌, List, [], ◌∷◌, length, take, refl, ap}
use Rattle.std.specs.Prelude.{ℤ, pos, ◌+ℤ◌, Some}
use Rattle.dv_defs.specs.declared.code.Payload.TheVariants as payload
use Rattle.dv_defs.specs.Numbers.{jump}
use Rattle.dv_defs.specs.Tiling.{Tile, begins_insn}
use Rattle.dv_static.specs.Jumps.{cases_lead, offsets_lead}

pub packed_cases : (tiles : List Tile) (at : ℕ) (k : ℤ) (ts : List ℤ) → cases_lead tiles at (Some (payload.Packed k ts)) ≡ offsets_lead tiles at ts
packed_cases tiles at k [] = refl
packed_cases tiles at k (t ∷ ts) = ap (λ b. begins_insn tiles (jump at t) && b) (packed_cases tiles at (k +ℤ pos 1) ts)

pub sparse_cases : (tiles : List Tile) (at : ℕ) (ks ts : List ℤ) → cases_lead tiles at (Some (payload.Sparse ks ts)) ≡ offsets_lead tiles at (take (length ks) ts)
sparse_cases tiles at [] ts = refl
sparse_cases tiles at (k ∷ ks) [] = refl
sparse_cases tiles at (k ∷ ks) (t ∷ ts) = ap (λ b. begins_insn tiles (jump at t) && b) (sparse_cases tiles at ks ts)
