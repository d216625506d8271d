-- The items of units from an address on, one after another.
use Rattle.std.proofs.Common.{◌≡◌, ℕ, ◌+◌, ◌-◌, ◌<◌, ◌≤◌, zero, suc, Bool, true, false, List, [], ◌∷◌, length, drop, Option, Some, None, Result, Ok, Err, refl, ap, sym, ◌∙◌, subst, arith, length-drop, nat_eq, ◌⊎◌, inl, inr, is_some}
use Rattle.std.proofs.lemmas.Bool.{eqb-true}
use Rattle.std.proofs.lemmas.List.{drop-drop}
use Rattle.dv_defs.specs.Spelling.{all_fit}
use Rattle.dv_defs.specs.Tiling.{Piece, Tile, piece_here, with_tile, tiled, tile_at}
use Rattle.dv_units.proofs.PiecesHere.{FitsThere, fits_there, next, tile, tile_first}

-- these tiles are the items from an address on
pub record AreFrom (units : List ℕ) (at : ℕ) (ts : List Tile) : Type 0 where
  pub within : at ≤ length units
  pub tiles : tiled at 0 (drop at units) ≡ Ok ts

-- the first tile, with those from the address after it
pub record IsFirst (units : List ℕ) (at : ℕ) (p : Piece) (ts : List Tile) : Type 0 where
  pub fits : FitsThere units at p.size
  pub rest : List Tile
  pub first : ts ≡ tile at p ∷ rest
  pub follow : AreFrom units (at + p.size) rest

is_first : (r : Result (List Tile) ℕ) (units : List ℕ) (at : ℕ) (p : Piece) (ts : List Tile) → FitsThere units at p.size → tiled (at + p.size) 0 (drop (at + p.size) units) ≡ r → with_tile (tile at p) r ≡ Ok ts → IsFirst units at p ts
is_first (Ok rest) units at p ts f e h = record { fits = f; rest = rest; first = cc; follow = record { within = f.within; tiles = e } }
is_first (Err b) units at p ts f e h = absurd (cc)

pub step : (units : List ℕ) (at : ℕ) (p : Piece) (ts : List Tile) → all_fit 16 units ≡ true → AreFrom units at ts → piece_here (drop at units) ≡ Some p → IsFirst units at p ts
step units at p ts t a e =
    let f = fits_there units at p t e in
    let room : p.size ≤ length (drop at units) = omega (arith, f.within, length-drop at units) in
    let on = next at (drop at units) p e f.positive room ∙ ap (λ us. with_tile (tile at p) (tiled (at + p.size) 0 us)) (drop-drop p.size at units) in
    is_first (tiled (at + p.size) 0 (drop (at + p.size) units)) units at p ts f refl (sym on ∙ a.tiles)

ends : (at : ℕ) (us : List ℕ) (ts : List Tile) → piece_here us ≡ None → tiled at 0 us ≡ Ok ts → (ts ≡ []) × (length us ≡ 0)
ends at [] ts e h = (cc, refl)
ends at (u ∷ us) ts e h = let stops : tiled at 0 (u ∷ us) ≡ Err at = ap (λ o. tile_first at o us) e in absurd (cc (stops, h))

-- where no item begins, the units end
pub end : (units : List ℕ) (at : ℕ) (ts : List Tile) → AreFrom units at ts → piece_here (drop at units) ≡ None → (ts ≡ []) × (at ≡ length units)
end units at ts a e =
    let k = ends at (drop at units) ts e a.tiles in
    (k.0, omega (arith, k.1, a.within, length-drop at units))

apart : (a b : ℕ) → b < a → nat_eq a b ≡ false
apart a b h = grind arith

abbrev tile_if : Bool → Tile → List Tile → ℕ → Option Tile
tile_if b t ts at = elim b [ true ↦ Some t | false ↦ tile_at ts at ]

none_with : (t : Tile) (b : ℕ) (r : Result (List Tile) ℕ) (ts : List Tile) → nat_eq t.at b ≡ false → ((rest : List Tile) → r ≡ Ok rest → tile_at rest b ≡ None) → with_tile t r ≡ Ok ts → tile_at ts b ≡ None
none_with t b (Ok rest) ts e none h =
    let same : t ∷ rest ≡ ts = cc in
    ap (λ xs. tile_at xs b) (sym same) ∙ (ap (λ x. tile_if x t rest b) e ∙ none rest refl)
none_with t b (Err at) ts e none h = absurd (cc)

none_first : (o : Option Piece) (us : List ℕ) (at b : ℕ) (ts : List Tile) → b < at → tile_first at o us ≡ Ok ts → ((k : ℕ) (rest : List Tile) → tiled (suc at) k us ≡ Ok rest → tile_at rest b ≡ None) → tile_at ts b ≡ None
none_first None us at b ts h e none = absurd (cc)
none_first (Some p) us at b ts h e none = none_with (tile at p) b (tiled (suc at) (p.size - 1) us) ts (apart at b h) (λ rest k. none (p.size - 1) rest k) e

none_below : (us : List ℕ) (at k b : ℕ) (ts : List Tile) → b < at → tiled at k us ≡ Ok ts → tile_at ts b ≡ None
none_below [] at zero b ts h e = let empty : [] ≡ ts = cc in ap (λ xs. tile_at xs b) (sym empty)
none_below [] at (suc k) b ts h e = absurd (cc)
none_below (u ∷ us) at (suc k) b ts h e = none_below us (suc at) k b ts (omega arith) e
none_below (u ∷ us) at zero b ts h e =
    none_first (piece_here (u ∷ us)) us at b ts h e (λ k rest x. none_below us (suc at) k b rest (omega arith) x)

-- no tile from an address on stands below it
pub none_before : (units : List ℕ) (at b : ℕ) (ts : List Tile) → AreFrom units at ts → b < at → tile_at ts b ≡ None
none_before units at b ts a h = none_below (drop at units) at 0 b ts h a.tiles

-- the first tile is met at its own address alone
pub met_later : (t : Tile) (rest : List Tile) (b : ℕ) → t.at < b → tile_at (t ∷ rest) b ≡ tile_at rest b
met_later t rest b h = ap (λ x. tile_if x t rest b) (let e : nat_eq t.at b ≡ false = grind arith in e)

pub met_first : (t : Tile) (rest : List Tile) (b : ℕ) → t.at ≡ b → tile_at (t ∷ rest) b ≡ Some t
met_first t rest b h = ap (λ x. tile_if x t rest b) (let e : nat_eq t.at b ≡ true = grind arith in e)

-- the item at an address, with what follows it
pub record IsMet (units : List ℕ) (from : ℕ) (ts : List Tile) (at : ℕ) (t : Tile) : Type 0 where
  pub from_on : from ≤ at
  pub own : t.at ≡ at
  pub piece : piece_here (drop at units) ≡ Some (record { item = t.item; size = t.size })
  pub fits : FitsThere units at t.size
  pub rest : List Tile
  pub follow : AreFrom units (at + t.size) rest
  pub same : (b : ℕ) → at < b → tile_at ts b ≡ tile_at rest b

is_met_first : (units : List ℕ) (at : ℕ) (p : Piece) (t : Tile) (ts : List Tile) → piece_here (drop at units) ≡ Some p → IsFirst units at p ts → tile at p ≡ t → IsMet units at ts at t
is_met_first units at p t ts e f h =
    let P : Tile → Type 0 = λ x. IsMet units at ts at x in
    subst P h
    (record {
      from_on = omega arith;
      own = refl;
      piece = e;
      fits = f.fits;
      rest = f.rest;
      follow = f.follow;
      same = λ b k. ap (λ xs. tile_at xs b) f.first ∙ met_later (tile at p) f.rest b k;
    })

is_met_later : (units : List ℕ) (from : ℕ) (p : Piece) (ts : List Tile) (at : ℕ) (t : Tile) (f : IsFirst units from p ts) → IsMet units (from + p.size) f.rest at t → IsMet units from ts at t
is_met_later units from p ts at t f m =
    let above : from < at = omega (arith, m.from_on, f.fits.positive) in
    record {
      from_on = omega arith;
      own = m.own;
      piece = m.piece;
      fits = m.fits;
      rest = m.rest;
      follow = m.follow;
      same = λ b k. ap (λ xs. tile_at xs b) f.first ∙ (met_later (tile from p) f.rest b (omega arith) ∙ m.same b k);
    }

abbrev Meets : List ℕ → List Tile → Type 0
Meets units ts = (from at : ℕ) (t : Tile) → AreFrom units from ts → tile_at ts at ≡ Some t → IsMet units from ts at t

met_by : (b : Bool) (units : List ℕ) (from : ℕ) (p : Piece) (t0 : Tile) (rest : List Tile) (at : ℕ) (t : Tile) → nat_eq t0.at at ≡ b → piece_here (drop from units) ≡ Some p → IsFirst units from p (t0 ∷ rest) → Meets units rest → tile_if b t0 rest at ≡ Some t → IsMet units from (t0 ∷ rest) at t
met_by true units from p t0 rest at t h e f on k =
    let first : t0 ≡ tile from p = cc (f.first) in
    let same : t0 ≡ t = cc (k) in
    let own : t0.at ≡ at = eqb-true _ _ h in
    let here : from ≡ at = cc (ap (λ x. x.at) first, own) in
    let P : ℕ → Type 0 = λ n. IsMet units from (t0 ∷ rest) n t in
    subst P here (is_met_first units from p t (t0 ∷ rest) e f (sym first ∙ same))
met_by false units from p t0 rest at t h e f on k =
    let left : rest ≡ f.rest = cc (f.first) in
    let P : List Tile → Type 0 = λ ts. Meets units ts in
    let Q : List Tile → Type 0 = λ ts. tile_at ts at ≡ Some t in
    is_met_later units from p (t0 ∷ rest) at t f (subst P left on (from + p.size) at t f.follow (subst Q left k))

met_if : (o : Option Piece) (units : List ℕ) (from : ℕ) (t0 : Tile) (rest : List Tile) (at : ℕ) (t : Tile) → all_fit 16 units ≡ true → piece_here (drop from units) ≡ o → AreFrom units from (t0 ∷ rest) → Meets units rest → tile_at (t0 ∷ rest) at ≡ Some t → IsMet units from (t0 ∷ rest) at t
met_if None units from t0 rest at t fit e a on k = absurd (let h = (end units from (t0 ∷ rest) a e).0 in cc (h))
met_if (Some p) units from t0 rest at t fit e a on k = met_by (nat_eq t0.at at) units from p t0 rest at t refl e (step units from p (t0 ∷ rest) fit a e) on k

-- each tile is met on the way
pub meets : (units : List ℕ) → all_fit 16 units ≡ true → (ts : List Tile) → Meets units ts
meets units fit [] from at t a k = absurd (cc (k))
meets units fit (t0 ∷ rest) from at t a k = met_if (piece_here (drop from units)) units from t0 rest at t fit refl a (meets units fit rest) k

-- where the tiles from an address on are so many, one stands at it unless the units end
pub one_or_end : (o : Option Piece) (units : List ℕ) (at : ℕ) (ts : List Tile) → all_fit 16 units ≡ true → piece_here (drop at units) ≡ o → AreFrom units at ts → (is_some (tile_at ts at) ≡ true) ⊎ (at ≡ length units)
one_or_end None units at ts fit e a = inr (end units at ts a e).1
one_or_end (Some p) units at ts fit e a =
    let f = step units at p ts fit a e in
    inl (ap (λ xs. is_some (tile_at xs at)) f.first ∙ ap is_some (met_first (tile at p) f.rest at refl))
