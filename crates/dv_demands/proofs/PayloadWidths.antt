-- A payload of data has the size of its elements, which isn't 0, in its second unit.
use Rattle.std.proofs.Common.{◌≡◌, ℕ, ◌+◌, ◌-◌, ◌/◌, ◌<◌, zero, suc, Bool, true, false, List, [], ◌∷◌, length, drop, get_or, Option, Some, None, Result, Ok, Err, refl, sym, ◌∙◌, subst, arith, length-drop, nat_eq}
use Rattle.std.proofs.lemmas.List.{get_or-drop}
use Rattle.dv_defs.specs.declared.code.Payload.{Payload}
use Rattle.dv_defs.specs.declared.code.Payload.TheVariants as payload
use Rattle.dv_defs.specs.Spelling.{all_fit}
use Rattle.dv_defs.specs.Decoding.{Sized, insn_here}
use Rattle.dv_defs.specs.Tiling.{Piece, Tile, SizedPayload, begins_payload, data_from, doubles, insn_piece, packed_with, payload_at, payload_in, payload_of, payload_piece, piece_here, sparse_with, tile_at, tiled, tiles_in, tiling, with_tile}
use Rattle.dv_ops.specs.Meaning.{is_data, width_in}
use Rattle.dv_ops.proofs.Standing.{met}

-- units begin with a payload of data for elements of this size
pub record HasWidth (us : List ℕ) (n : ℕ) : Type 0 where
  pub some : 0 < n
  pub inside : 1 < length us
  pub second : get_or us 1 0 ≡ n

abbrev Says : List ℕ → Option Piece → Type 0
Says us None = Unit {0}
Says us (Some p) = is_data (payload_in p.item) ≡ true → HasWidth us (width_in (payload_in p.item))

never : {P : Type 0} → (let b : Bool = false in b) ≡ true → P
never e = absurd (cc)

packed : (n : ℕ) (o : Option (List ℕ)) (us : List ℕ) → Says us (payload_piece (packed_with n o))
packed n None us = tt
packed n (Some []) us = tt
packed n (Some (k ∷ ts)) us = never

sparse : (n : ℕ) (o : Option (List ℕ)) (us : List ℕ) → Says us (payload_piece (sparse_with n o))
sparse n None us = tt
sparse n (Some xs) us = never

abbrev data_if : Bool → Bool → Payload → ℕ → Option SizedPayload
data_if fits zeros p size =
    elim fits as (λ _. Option SizedPayload) [
      | true ↦ elim zeros as (λ _. Option SizedPayload) [ true ↦ Some (record { payload = p; size = size }) | false ↦ None ]
      | false ↦ None
    ]

data_by : (fits zeros : Bool) (n : ℕ) (bytes us : List ℕ) (size : ℕ) → 0 < n → 1 < length us → get_or us 1 0 ≡ n →
    Says us (payload_piece (data_if fits zeros (payload.Data n bytes) size))
data_by true true n bytes us size h k e = λ _. record { some = h; inside = k; second = e }
data_by true false n bytes us size h k e = tt
data_by false zeros n bytes us size h k e = tt

-- no elements have no size
data_says : (u n : ℕ) (us : List ℕ) → Says (u ∷ n ∷ us) (payload_piece (data_from n us))
data_says u n [] = tt
data_says u n (lo ∷ []) = tt
data_says u zero (lo ∷ hi ∷ us) = tt
data_says u (suc n) (lo ∷ hi ∷ us) = data_by _ _ (suc n) _ (u ∷ suc n ∷ lo ∷ hi ∷ us) _ (omega arith) (omega arith) refl

kind_by : (one two : Bool) (u n : ℕ) (us : List ℕ) →
    Says (u ∷ n ∷ us)
    (payload_piece
    (elim one as (λ _. Option SizedPayload) [
      | true ↦ packed_with n (doubles (suc n) us)
      | false ↦ elim two as (λ _. Option SizedPayload) [ true ↦ sparse_with n (doubles (n + n) us) | false ↦ data_from n us ]
    ]))
kind_by true two u n us = packed n (doubles (suc n) us) (u ∷ n ∷ us)
kind_by false true u n us = sparse n (doubles (n + n) us) (u ∷ n ∷ us)
kind_by false false u n us = data_says u n us

of_payload : (u : ℕ) (us : List ℕ) → Says (u ∷ us) (payload_piece (payload_of (u / 256) us))
of_payload u [] = tt
of_payload u (n ∷ us) = kind_by (nat_eq (u / 256) 1) (nat_eq (u / 256) 2) u n us

of_insn : (us : List ℕ) (o : Option Sized) → Says us (insn_piece o)
of_insn us None = tt
of_insn us (Some x) = never

piece_by : (b : Bool) (us : List ℕ) (p i : Option Piece) → Says us p → Says us i → Says us (elim b as (λ _. Option Piece) [ true ↦ p | false ↦ i ])
piece_by true us p i h k = h
piece_by false us p i h k = k

says : (us : List ℕ) → Says us (piece_here us)
says [] = tt
says (u ∷ us) =
    piece_by (begins_payload u) (u ∷ us) (payload_piece (payload_of (u / 256) us)) (insn_piece (insn_here (u ∷ us)))
    (of_payload u us)
    (of_insn (u ∷ us) (insn_here (u ∷ us)))

-- ---- at the addresses of units

abbrev payload_by : Option Tile → Option Payload
payload_by o = elim o [ None ↦ None | Some t ↦ payload_in t.item ]

-- the payload of data at an address, by the units from there on
there_by : (o : Option Tile) (units : List ℕ) (at : ℕ) → all_fit 16 units ≡ true → tile_at (tiles_in (tiling units)) at ≡ o → is_data (payload_by o) ≡ true → HasWidth (drop at units) (width_in (payload_by o))
there_by None units at fit e h = absurd (cc (h))
there_by (Some t) units at fit e h =
    let m = met units at t fit e in
    let P : Option Piece → Type 0 = λ o. Says (drop at units) o in
    subst P m.piece (says (drop at units)) h

-- and by its own address
pub record WidthThere (units : List ℕ) (at n : ℕ) : Type 0 where
  pub inside : at + 1 < length units
  pub second : get_or units (at + 1) 0 ≡ n

pub width_there : (units : List ℕ) (at : ℕ) → all_fit 16 units ≡ true → is_data (payload_at (tiles_in (tiling units)) at) ≡ true → WidthThere units at (width_in (payload_at (tiles_in (tiling units)) at))
width_there units at fit h =
    let k = there_by (tile_at (tiles_in (tiling units)) at) units at fit refl h in
    record {
      inside = omega (arith, k.inside, length-drop at units);
      second = sym (get_or-drop at units 1 0) ∙ k.second;
    }

-- ---- the elements of each payload of data in a tiling have a size

abbrev Sized0 : Option Payload → Type 0
Sized0 p = is_data p ≡ true → 0 < width_in p

sized_piece : (us : List ℕ) (o : Option Piece) → Says us o → (p : Piece) → o ≡ Some p → Sized0 (payload_in p.item)
sized_piece us None s p e = absurd (cc (e))
sized_piece us (Some q) s p e =
    let same : q ≡ p = cc (e) in
    let P : Piece → Type 0 = λ x. Sized0 (payload_in x.item) in
    subst P same (λ h. (s h).some)

abbrev AllSized : List Tile → Type 0
AllSized ts = (b : ℕ) → Sized0 (payload_at ts b)

first_sized : (b : Bool) (t : Tile) (ts : List Tile) (at : ℕ) → Sized0 (payload_in t.item) → Sized0 (payload_at ts at) → Sized0 (payload_by (elim b as (λ _. Option Tile) [ true ↦ Some t | false ↦ tile_at ts at ]))
first_sized true t ts at h k = h
first_sized false t ts at h k = k

with_sized : (t : Tile) (r : Result (List Tile) ℕ) → Sized0 (payload_in t.item) → AllSized (tiles_in r) → AllSized (tiles_in (with_tile t r))
with_sized t (Ok ts) h k = λ b. first_sized (nat_eq t.at b) t ts b h (k b)
with_sized t (Err at) h k = λ b. never

tiled_by : (o : Option Piece) (at : ℕ) (us vs : List ℕ) → Says vs o → ((a k : ℕ) → AllSized (tiles_in (tiled a k us))) →
    AllSized (tiles_in (elim o as (λ _. Result (List Tile) ℕ) [ None ↦ Err at | Some p ↦ with_tile (record { at = at; size = p.size; item = p.item }) (tiled (suc at) (p.size - 1) us) ]))
tiled_by None at us vs s on = λ b. never
tiled_by (Some p) at us vs s on =
    with_sized (record { at = at; size = p.size; item = p.item }) (tiled (suc at) (p.size - 1) us) (λ h. (s h).some) (on (suc at) (p.size - 1))

all_sized : (us : List ℕ) (at k : ℕ) → AllSized (tiles_in (tiled at k us))
all_sized [] at zero = λ b. never
all_sized [] at (suc k) = λ b. never
all_sized (u ∷ us) at (suc k) = all_sized us (suc at) k
all_sized (u ∷ us) at zero = tiled_by (piece_here (u ∷ us)) at us (u ∷ us) (says (u ∷ us)) (all_sized us)

pub sized : (units : List ℕ) (at : ℕ) → is_data (payload_at (tiles_in (tiling units)) at) ≡ true → 0 < width_in (payload_at (tiles_in (tiling units)) at)
sized units at h = all_sized units 0 0 at h
