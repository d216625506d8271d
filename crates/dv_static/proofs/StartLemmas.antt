-- The place of an item by its address, and the item there.
use Rattle.std.proofs.Common.{◌≡◌, ℕ, zero, suc, ◌+◌, ◌-◌, ◌<◌, ◌≤◌, Bool, true, false, List, [], ◌∷◌, length, drop, get_or, Option, Some, None, Result, Ok, Err, refl, sym, ap, ◌∙◌, subst, arith}
use Rattle.std.specs.Prelude.{map, nat_eq, All, IfSome}
use Rattle.std.proofs.lemmas.List.{get_or_read, get_or_past}
use Rattle.dv_defs.specs.Tiling as tiling
use Rattle.dv_defs.specs.Tiling.{tile_at, tiled, with_tile, piece_here}
use Rattle.dv_static.specs.declared.tiles.Tile.{Tile}
use Rattle.dv_static.specs.Tiles.{tile_of}
use Rattle.dv_static.specs.Starting.{place_from, AreStarts}

-- ---- from places to items

-- the item at the place that stands for an address
pub record Found (k j : ℕ) (ts : List Tile) (at : ℕ) : Type 0 where
  pub place : ℕ
  pub is : j ≡ k + place
  pub within : place < length ts
  pub there : (d : Tile) → tile_at (map tile_of ts) at ≡ Some (tile_of (get_or ts place d))

abbrev place_if : Bool → ℕ → List Tile → ℕ → Option ℕ
place_if b k ts at = elim b [ true ↦ Some k | false ↦ place_from (suc k) ts at ]

abbrev tile_if : Bool → tiling.Tile → List tiling.Tile → ℕ → Option tiling.Tile
tile_if b t ts at = elim b [ true ↦ Some t | false ↦ tile_at ts at ]

found_by : (b : Bool) (k j : ℕ) (t : Tile) (ts : List Tile) (at : ℕ) → nat_eq t.at at ≡ b → ((k : ℕ) → place_from k ts at ≡ Some j → Found k j ts at) → place_if b k ts at ≡ Some j → Found k j (t ∷ ts) at
found_by true k j t ts at test rest e =
    let same : k ≡ j = cc in
    record {
      place = 0;
      is = omega arith;
      within = omega arith;
      there = λ d. ap (λ b. tile_if b (tile_of t) (map tile_of ts) at) test;
    }
found_by false k j t ts at test rest e =
    let f = rest (suc k) e in
    record {
      place = suc f.place;
      is = omega (arith, f.is);
      within = omega (arith, f.within);
      there = λ d. ap (λ b. tile_if b (tile_of t) (map tile_of ts) at) test ∙ f.there d;
    }

pub found : (k j : ℕ) (ts : List Tile) (at : ℕ) → place_from k ts at ≡ Some j → Found k j ts at
found k j [] at e = absurd (cc)
found k j (t ∷ ts) at e = found_by (nat_eq t.at at) k j t ts at refl (λ i. found i j ts at) e

missing_by : (b : Bool) (k : ℕ) (t : Tile) (ts : List Tile) (at : ℕ) → nat_eq t.at at ≡ b → ((k : ℕ) → place_from k ts at ≡ None → tile_at (map tile_of ts) at ≡ None) → place_if b k ts at ≡ None → tile_at (map tile_of (t ∷ ts)) at ≡ None
missing_by true k t ts at test rest e = absurd (cc)
missing_by false k t ts at test rest e = ap (λ b. tile_if b (tile_of t) (map tile_of ts) at) test ∙ rest (suc k) e

pub missing : (k : ℕ) (ts : List Tile) (at : ℕ) → place_from k ts at ≡ None → tile_at (map tile_of ts) at ≡ None
missing k [] at e = refl
missing k (t ∷ ts) at e = missing_by (nat_eq t.at at) k t ts at refl (λ i. missing i ts at) e

-- what `Starts` finds at an address
pub place_read : (ts : List Tile) (places : List (Option ℕ)) (at : ℕ) (r : Option ℕ) → AreStarts ts places → at < length places → r ≡ get_or places at r → r ≡ place_from 0 ts at
place_read ts places at r s h e = get_or_read places at r h e None ∙ s.starts at

pub place_past : (ts : List Tile) (places : List (Option ℕ)) (at : ℕ) → AreStarts ts places → length places ≤ at → None ≡ place_from 0 ts at
place_past ts places at s h = sym (get_or_past places at None h) ∙ s.starts at

within_by : (o : Option ℕ) (ts : List Tile) (at : ℕ) → place_from 0 ts at ≡ o → IfSome o (λ k. k < length ts)
within_by None ts at e = tt
within_by (Some j) ts at e = let f = found 0 j ts at e in omega (arith, f.is, f.within)

pub place_within : (r : Option ℕ) (ts : List Tile) (at : ℕ) → r ≡ place_from 0 ts at → IfSome r (λ k. k < length ts)
place_within r ts at e = within_by r ts at (sym e)

pub tile_found : (ts : List Tile) (at k : ℕ) (d : Tile) → Some k ≡ place_from 0 ts at → Some (tile_of (get_or ts k d)) ≡ tile_at (map tile_of ts) at
tile_found ts at k d e =
    let f = found 0 k ts at (sym e) in
    let same : k ≡ f.place = omega (arith, f.is) in
    ap (λ i. Some (tile_of (get_or ts i d))) same ∙ sym (f.there d)

pub tile_missing : (ts : List Tile) (at : ℕ) → None ≡ place_from 0 ts at → None ≡ tile_at (map tile_of ts) at
tile_missing ts at e = sym (missing 0 ts at (sym e))

-- ---- making them, the last item first

-- the places of the items from one on
pub record AreStartsFrom (k : ℕ) (ts : List Tile) (places : List (Option ℕ)) : Type 0 where
  pub starts : (at : ℕ) → get_or places at None ≡ place_from k (drop k ts) at

-- ---- the items of a whole tiling begin below its end

abbrev AllBelow : ℕ → Result (List tiling.Tile) ℕ → Type 0
AllBelow n (Err at) = Unit
AllBelow n (Ok ts) = (k : ℕ) (d : tiling.Tile) → k < length ts → (get_or ts k d).at < n

below_with : (n : ℕ) (t : tiling.Tile) (r : Result (List tiling.Tile) ℕ) → t.at < n → AllBelow n r → AllBelow n (with_tile t r)
below_with n t (Err at) h b = tt
below_with n t (Ok ts) h b = λ k d. here k d
  where
    here : (k : ℕ) (d : tiling.Tile) → k < suc (length ts) → (get_or (t ∷ ts) k d).at < n
    here zero d l = h
    here (suc k) d l = b k d (omega arith)

abbrev tile_first : ℕ → Option tiling.Piece → List ℕ → Result (List tiling.Tile) ℕ
tile_first at o us = elim o [ None ↦ Err at | Some p ↦ with_tile (record { at = at; size = p.size; item = p.item }) (tiled (suc at) (p.size - 1) us) ]

below_first : (o : Option tiling.Piece) (at n : ℕ) (us : List ℕ) → at < n → ((k : ℕ) → AllBelow n (tiled (suc at) k us)) → AllBelow n (tile_first at o us)
below_first None at n us h b = tt
below_first (Some p) at n us h b = below_with n (record { at = at; size = p.size; item = p.item }) (tiled (suc at) (p.size - 1) us) h (b (p.size - 1))

below : (at k n : ℕ) (us : List ℕ) → at + length us ≤ n → AllBelow n (tiled at k us)
below at zero n [] h = λ k d l. absurd (omega arith)
below at (suc k) n [] h = tt
below at (suc k) n (u ∷ us) h = below (suc at) k n us (omega arith)
below at zero n (u ∷ us) h = below_first (piece_here (u ∷ us)) at n us (omega arith) (λ k. below (suc at) k n us (omega arith))

get_map : (ts : List Tile) (k : ℕ) (d : Tile) → k < length ts → get_or (map tile_of ts) k (tile_of d) ≡ tile_of (get_or ts k d)
get_map [] k d l = absurd (omega arith)
get_map (t ∷ ts) zero d l = refl
get_map (t ∷ ts) (suc k) d l = get_map ts k d (omega arith)

length_map : (ts : List Tile) → length (map tile_of ts) ≡ length ts
length_map [] = refl
length_map (t ∷ ts) = ap suc (length_map ts)

-- what `Starts::new` asks
pub all_within : (units : List ℕ) (ts : List Tile) → tiling.tiling units ≡ Ok (map tile_of ts) → All (λ t. t.at < length units) ts
all_within units ts e =
    let all = subst (AllBelow (length units)) e (below 0 0 (length units) units (omega arith)) in
    λ k d l. subst (λ (t : tiling.Tile). t.at < length units) (get_map ts k d l) (all k (tile_of d) (omega (arith, length_map ts, l)))

pub all_short : (units : List ℕ) (ts : List Tile) → length units ≤ 16384 → tiling.tiling units ≡ Ok (map tile_of ts) → All (λ t. t.at < 16384) ts
all_short units ts h e = λ k d l. let w = all_within units ts e k d l in omega arith
