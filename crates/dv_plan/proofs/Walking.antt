-- A walk over the items of a body, for all addresses that are still to come.
use Rattle.std.proofs.Common.{◌≡◌, ℕ, ◌+◌, ◌<◌, ◌≤◌, ◌≢◌, nat_eq, Bool, true, false, List, [], ◌∷◌, ◌++◌, length, drop, Option, Some, None, Ok, refl, ap, sym, ◌∙◌, subst, arith, ◌⊎◌, inl, inr, is_some}
use Rattle.std.specs.Prelude.{option_map, slice_index_or}
use Rattle.std.proofs.lemmas.Bool.{cases_eq, eqb-true}
use Rattle.std.proofs.lemmas.List.{get_or_push, get_or_append_left}
use Rattle.dv_defs.specs.Spelling.{all_fit}
use Rattle.dv_defs.specs.Tiling.{Piece, Tile, piece_here, tiling, tiles_in, tile_at, begins_insn, begins_item}
use Rattle.dv_units.proofs.PiecesHere.{tile, fits_there}
use Rattle.dv_ops.proofs.Tiles.{AreFrom, step, end, met_first}
use Rattle.dv_ops.proofs.Passing.{IsWalk, at_start, passed_by}
use Rattle.dv_plan.specs.Beginnings.{Begin, behind_item, passed_to}

-- ---- what begins at the address that a walk has come to

edge_by : (o : Option Piece) (units : List ℕ) (ts : List Tile) (at : ℕ) → all_fit 16 units ≡ true → AreFrom units at ts → piece_here (drop at units) ≡ o → (is_some (tile_at ts at) ≡ true) ⊎ (at ≡ length units)
edge_by None units ts at t a e = inr (end units at ts a e).1
edge_by (Some p) units ts at t a e =
    let f = step units at p ts t a e in
    inl (ap is_some (ap (λ xs. tile_at xs at) f.first ∙ met_first (tile at p) f.rest at refl))

-- an item begins there, or the units end
pub is_edge : (units : List ℕ) (tiles : List Tile) (at : ℕ) → all_fit 16 units ≡ true → IsWalk units tiles at at → (begins_item tiles at ≡ true) ⊎ (at ≡ length units)
is_edge units tiles at t w =
    elim (edge_by (piece_here (drop at units)) units w.rest at t w.from refl) [
      | inl is ↦ inl (ap is_some w.same ∙ is)
      | inr past ↦ inr past
    ]

-- ---- one item further

size_within_by : (o : Option Piece) (units : List ℕ) (here size : ℕ) → all_fit 16 units ≡ true → piece_here (drop here units) ≡ o → (let r : Option ℕ = Some size in r) ≡ option_map (λ p. p.size) o → here + size ≤ length units
size_within_by None units here size t e r = absurd (cc)
size_within_by (Some p) units here size t e r =
    let same : size ≡ p.size = cc in
    omega (arith, same, (fits_there units here p t e).within)

pub size_within : (units : List ℕ) (here size : ℕ) → all_fit 16 units ≡ true → (let r : Option ℕ = Some size in r) ≡ option_map (λ p. p.size) (piece_here (drop here units)) → here + size ≤ length units
size_within units here size t r = size_within_by (piece_here (drop here units)) units here size t refl r

abbrev behind_by : List ℕ → ℕ → Option Piece → ℕ
behind_by units here o = elim o [ None ↦ length units | Some p ↦ here + p.size ]

some_behind : (o : Option Piece) (units : List ℕ) (here size : ℕ) → (let r : Option ℕ = Some size in r) ≡ option_map (λ p. p.size) o → here + size ≡ behind_by units here o
some_behind None units here size r = absurd (cc)
some_behind (Some p) units here size r = let same : size ≡ p.size = cc in ap (λ n. here + n) same

pub behind_some : (units : List ℕ) (here size : ℕ) → (let r : Option ℕ = Some size in r) ≡ option_map (λ p. p.size) (piece_here (drop here units)) → here + size ≡ behind_item units here
behind_some units here size r = some_behind (piece_here (drop here units)) units here size r

none_behind : (o : Option Piece) (units : List ℕ) (here : ℕ) → (let r : Option ℕ = None in r) ≡ option_map (λ p. p.size) o → length units ≡ behind_by units here o
none_behind None units here r = refl
none_behind (Some p) units here r = absurd (cc)

pub behind_none : (units : List ℕ) (here : ℕ) → (let r : Option ℕ = None in r) ≡ option_map (λ p. p.size) (piece_here (drop here units)) → length units ≡ behind_item units here
behind_none units here r = none_behind (piece_here (drop here units)) units here r

-- ---- all addresses to come

pub record AreToCome (units : List ℕ) (tiles : List Tile) (here from : ℕ) : Type 0 where
  pub past : from ≤ here
  pub walks : (at : ℕ) → from ≤ at → IsWalk units tiles here at

pub to_come : (units : List ℕ) → tiling units ≡ Ok (tiles_in (tiling units)) → AreToCome units (tiles_in (tiling units)) 0 0
to_come units e = record { past = omega arith; walks = λ at h. at_start units at e }

-- past an address that the walk had passed over
pub waited : (units : List ℕ) (tiles : List Tile) (here from : ℕ) → AreToCome units tiles here from → from < here → AreToCome units tiles here (from + 1)
waited units tiles here from c h = record { past = omega (arith, h); walks = λ at k. c.walks at (omega (arith, k)) }

moved_by : (o : Option Piece) (units : List ℕ) (tiles : List Tile) (from : ℕ) → all_fit 16 units ≡ true → AreToCome units tiles from from → from < length units → piece_here (drop from units) ≡ o → AreToCome units tiles (behind_by units from o) (from + 1)
moved_by None units tiles from t c h e =
    let w = c.walks from (omega arith) in
    absurd (let past = (end units from w.rest w.from e).1 in omega (arith, past, h))
moved_by (Some p) units tiles from t c h e =
    let fits = fits_there units from p t e in
    let size : (let r : Option ℕ = Some p.size in r) ≡ option_map (λ q. q.size) (piece_here (drop from units)) = sym (ap (option_map (λ q. q.size)) e) in
    record {
      past = omega (arith, fits.positive);
      walks = λ at k. passed_by units tiles from at p.size t (c.walks at (omega (arith, k))) (omega (arith, k)) size;
    }

-- over the item at an address
pub moved : (units : List ℕ) (tiles : List Tile) (from : ℕ) → all_fit 16 units ≡ true → AreToCome units tiles from from → from < length units → AreToCome units tiles (behind_item units from) (from + 1)
moved units tiles from t c h = moved_by (piece_here (drop from units)) units tiles from t c h refl

abbrev passed_if : List ℕ → ℕ → Bool → ℕ
passed_if units here same = elim same [ true ↦ behind_item units here | false ↦ here ]

on_by : (units : List ℕ) (tiles : List Tile) (here from : ℕ) → all_fit 16 units ≡ true → AreToCome units tiles here from → from < length units → (same : Bool) → nat_eq from here ≡ same → AreToCome units tiles (passed_if units here same) (from + 1)
on_by units tiles here from t c h true e =
    let is : from ≡ here = eqb-true from here e in
    subst (λ (n : ℕ). AreToCome units tiles (behind_item units n) (from + 1)) is (moved units tiles from t (subst (λ (n : ℕ). AreToCome units tiles n from) (sym is) c) h)
on_by units tiles here from t c h false e = waited units tiles here from c (let other : from ≢ here = grind (arith, e) in omega (arith, c.past, other))

-- past an address
pub on : (units : List ℕ) (tiles : List Tile) (here from : ℕ) → all_fit 16 units ≡ true → AreToCome units tiles here from → from < length units → AreToCome units tiles (passed_to units here from) (from + 1)
on units tiles here from t c h = on_by units tiles here from t c h (nat_eq from here) refl

-- ---- flags

pub none_yet : (tiles : List Tile) → Begin tiles [] 0
none_yet tiles at h = absurd (omega (arith, h))

pub one_more : (tiles : List Tile) (flags : List Bool) (n : ℕ) (flag : Bool) → length flags ≡ n → flag ≡ begins_insn tiles n → Begin tiles flags n → Begin tiles (flags ++ flag ∷ []) (n + 1)
one_more tiles flags n flag count is begin at h =
    elim (cases_eq at n) [
      | inl same ↦
          subst (λ (k : ℕ). slice_index_or (flags ++ flag ∷ []) k false ≡ begins_insn tiles k) (sym same) (get_or_push flags flag false n count ∙ is)
      | inr other ↦
          let less : at < n = omega (arith, h, other) in
          get_or_append_left flags (flag ∷ []) false at (omega (arith, less, count)) ∙ begin at less
    ]
