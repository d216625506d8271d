-- The payload of data that stands in units.
use Rattle.std.proofs.Common.{◌≡◌, ℕ, zero, suc, ◌+◌, ◌*◌, ◌/◌, ◌%◌, ◌^◌, ◌<◌, ◌≤◌, List, [], ◌∷◌, length, take, drop, Bool, true, false, ℤ, Option, Some, None, refl, sym, ap, ◌∙◌, subst, arith}
use Rattle.std.specs.Prelude.{nat_eq, nat_le, ◌&&◌}
use Rattle.std.proofs.lemmas.Bool.{and_parts}
use Rattle.std.proofs.lemmas.Bool.Decides.{nat_tests}
use Rattle.std.proofs.lemmas.List.{take-take}
use Rattle.std.proofs.lemmas.Nat.{div-mul-add}
use Rattle.dv_defs.specs.declared.code.Payload.{Payload}
use Rattle.dv_defs.specs.declared.code.Payload.TheVariants as payload
use Rattle.dv_defs.specs.declared.names.Ty.{Ty}
use Rattle.dv_defs.specs.Decoding.{Sized, insn_here}
use Rattle.dv_typing.specs.Demands.{is_fill_type}
use Rattle.dv_defs.specs.Numbers.{elements, low_first, signed_at}
use Rattle.dv_defs.specs.Spelling.{all_fit}
use Rattle.dv_defs.specs.Tiling.{Piece, Tile, SizedPayload, begins_payload, bytes_in, data_from, doubles, insn_piece, is_width, packed_with, payload_at, payload_in, payload_of, payload_piece, piece_here, sparse_with, tile_at, tiles_in, tiling}
use Rattle.dv_ops.specs.Meaning.{is_data, width_in}
use Rattle.dv_ops.proofs.Standing.{met}
use Rattle.dv_mem.specs.Payloads.{HasData}

-- elements have a size only where data stand
pub typed_is_data : (p : Option Payload) (t : Ty) → is_fill_type (width_in p) t ≡ true → is_data p ≡ true
typed_is_data (Some (payload.Data width bytes)) t e = refl
typed_is_data None t e = absurd (cc e)
typed_is_data (Some (payload.Packed k ts)) t e = absurd (cc e)
typed_is_data (Some (payload.Sparse ks ts)) t e = absurd (cc e)

-- ---- elements of the first bytes

none_taken : (m : ℕ) → (let xs : List ℕ = [] in xs) ≡ take m []
none_taken zero = refl
none_taken (suc m) = refl

drop_take : (d m : ℕ) (ys : List ℕ) → drop d (take (d + m) ys) ≡ take m (drop d ys)
drop_take zero m ys = let same : 0 + m ≡ m = omega arith in ap (λ (k : ℕ). take k ys) same
drop_take (suc d) m [] =
    let same : suc d + m ≡ suc (d + m) = omega arith in
    let before : drop (suc d) (take (suc d + m) []) ≡ [] = ap (λ (k : ℕ). drop (suc d) (take k [])) same in
    before ∙ none_taken m
drop_take (suc d) m (y ∷ ys) =
    let same : suc d + m ≡ suc (d + m) = omega arith in
    ap (λ (k : ℕ). drop (suc d) (take k (y ∷ ys))) same ∙ drop_take d m ys

elements_take : (n w : ℕ) (ys : List ℕ) → elements n w (take (n * w) ys) ≡ elements n w ys
elements_take zero w ys = refl
elements_take (suc n) w ys =
    let all : suc n * w ≡ w + n * w = omega arith in
    let E : ℕ → List ℤ = λ k. elements (suc n) w (take k ys) in
    let first : take w (take (w + n * w) ys) ≡ take w ys = take-take w (w + n * w) ys (omega arith) in
    let rest : drop w (take (w + n * w) ys) ≡ take (n * w) (drop w ys) = drop_take w (n * w) ys in
    ap E all ∙
    ap (λ (xs : List ℕ). signed_at (8 * w) (low_first xs) ∷ elements n w (drop w (take (w + n * w) ys))) first ∙
    ap (λ (xs : List ℕ). signed_at (8 * w) (low_first (take w ys)) ∷ elements n w xs) rest ∙
    ap (λ (zs : List ℤ). signed_at (8 * w) (low_first (take w ys)) ∷ zs) (elements_take n w (drop w ys))

bytes_take : (n : ℕ) (us : List ℕ) → bytes_in (take n us) ≡ take (2 * n) (bytes_in us)
bytes_take zero us = refl
bytes_take (suc n) [] = let same : 2 * suc n ≡ suc (suc (2 * n)) = omega arith in ap (λ (k : ℕ). take k []) (sym same)
bytes_take (suc n) (u ∷ us) =
    let same : 2 * suc n ≡ suc (suc (2 * n)) = omega arith in
    ap (λ (bs : List ℕ). u % 256 ∷ u / 256 ∷ bs) (bytes_take n us) ∙ ap (λ (k : ℕ). take k (bytes_in (u ∷ us))) (sym same)

length_bytes : (us : List ℕ) → length (bytes_in us) ≡ 2 * length us
length_bytes [] = refl
length_bytes (u ∷ us) = omega (arith, length_bytes us)

length_of_take : (n : ℕ) (xs : List ℕ) → n ≤ length xs → length (take n xs) ≡ n
length_of_take zero xs l = refl
length_of_take (suc n) [] l = absurd (omega (arith, l))
length_of_take (suc n) (x ∷ xs) l = ap suc (length_of_take n xs (omega (arith, l)))

-- so many bytes of so many units
module _ (c w cu : ℕ) (us : List ℕ) (few : cu ≤ length us) (enough : c * w ≤ 2 * cu) where
  byte_count : length (take (c * w) (bytes_in (take cu us))) ≡ c * w
  byte_count =
      let units : length (take cu us) ≡ cu = length_of_take cu us few in
      let bytes : length (bytes_in (take cu us)) ≡ 2 * cu = length_bytes (take cu us) ∙ ap (λ (n : ℕ). 2 * n) units in
      length_of_take (c * w) (bytes_in (take cu us)) (omega (arith, bytes, enough))

  same_elements : elements c w (take (c * w) (bytes_in (take cu us))) ≡ elements c w (bytes_in us)
  same_elements =
      ap (λ (bs : List ℕ). elements c w (take (c * w) bs)) (bytes_take cu us) ∙ ap (elements c w) (take-take (c * w) (2 * cu) (bytes_in us) enough) ∙
      elements_take c w (bytes_in us)

  count_again : (n : ℕ) → w ≡ suc n → length (take (c * w) (bytes_in (take cu us))) / w ≡ c
  count_again n e =
      let positive : 0 < w = omega (arith, e) in
      let all : c * w ≡ c * w + 0 = omega arith in
      ap (λ (m : ℕ). m / w) (byte_count ∙ all) ∙ div-mul-add c w 0 positive

-- ---- what begins units

abbrev Says : List ℕ → Option Piece → Type 0
Says us None = Unit {0}
Says us (Some p) = is_data (payload_in p.item) ≡ true → HasData us (payload_in p.item)

never : {P : Type 0} → (let b : Bool = false in b) ≡ true → P
never e = absurd (cc)

packed : (n : ℕ) (o : Option (List ℕ)) (us : List ℕ) → Says us (payload_piece (packed_with n o))
packed n None us = tt
packed n (Some []) us = tt
packed n (Some (k ∷ ts)) us = never

sparse : (n : ℕ) (o : Option (List ℕ)) (us : List ℕ) → Says us (payload_piece (sparse_with n o))
sparse n None us = tt
sparse n (Some xs) us = never

abbrev data_if : Bool → Bool → Payload → ℕ → Option SizedPayload
data_if fits zeros p size =
    elim fits as (λ _. Option SizedPayload) [
      | true ↦ elim zeros as (λ _. Option SizedPayload) [ true ↦ Some (record { payload = p; size = size }) | false ↦ None ]
      | false ↦ None
    ]

data_by : (fits zeros : Bool) (n : ℕ) (bytes us : List ℕ) (size : ℕ) → (fits ≡ true → HasData us (Some (payload.Data n bytes))) → Says us (payload_piece (data_if fits zeros (payload.Data n bytes) size))
data_by true true n bytes us size has = λ _. has refl
data_by true false n bytes us size has = tt
data_by false zeros n bytes us size has = tt

within : (a b : ℕ) → nat_le a b ≡ true → a ≤ b
within a b e = grind (arith, nat_tests)

halves : (c : ℕ) → c ≤ 2 * ((c + 1) / 2)
halves c = omega arith

-- no elements have no size
data_says : (u n : ℕ) (us : List ℕ) → Says (u ∷ n ∷ us) (payload_piece (data_from n us))
data_says u n [] = tt
data_says u n (lo ∷ []) = tt
data_says u zero (lo ∷ hi ∷ us) = tt
data_says u (suc n) (lo ∷ hi ∷ us) =
    let c : ℕ = lo + hi * 2 ^ 16 in
    let cu : ℕ = (c * suc n + 1) / 2 in
    data_by (is_width (suc n) && nat_le cu (length us)) _ (suc n) _ (u ∷ suc n ∷ lo ∷ hi ∷ us) _
    (λ fits.
    let few : cu ≤ length us = within cu (length us) (and_parts _ _ fits).1 in
    let enough : c * suc n ≤ 2 * cu = halves (c * suc n) in
    record {
      inside = omega arith;
      are = record {
        width = refl;
        values = sym (same_elements c (suc n) cu us few enough) ∙ ap (λ (m : ℕ). elements m (suc n) (take (c * suc n) (bytes_in (take cu us)))) (sym (count_again c (suc n) cu us few enough n refl));
        whole = omega (arith, few, enough);
      };
    })

kind_by : (one two : Bool) (u n : ℕ) (us : List ℕ) →
    Says (u ∷ n ∷ us)
    (payload_piece
    (elim one as (λ _. Option SizedPayload) [
      | true ↦ packed_with n (doubles (suc n) us)
      | false ↦ elim two as (λ _. Option SizedPayload) [ true ↦ sparse_with n (doubles (n + n) us) | false ↦ data_from n us ]
    ]))
kind_by true two u n us = packed n (doubles (suc n) us) (u ∷ n ∷ us)
kind_by false true u n us = sparse n (doubles (n + n) us) (u ∷ n ∷ us)
kind_by false false u n us = data_says u n us

of_payload : (u : ℕ) (us : List ℕ) → Says (u ∷ us) (payload_piece (payload_of (u / 256) us))
of_payload u [] = tt
of_payload u (n ∷ us) = kind_by (nat_eq (u / 256) 1) (nat_eq (u / 256) 2) u n us

of_insn : (us : List ℕ) (o : Option Sized) → Says us (insn_piece o)
of_insn us None = tt
of_insn us (Some x) = never

piece_by : (b : Bool) (us : List ℕ) (p i : Option Piece) → Says us p → Says us i → Says us (elim b as (λ _. Option Piece) [ true ↦ p | false ↦ i ])
piece_by true us p i h k = h
piece_by false us p i h k = k

says : (us : List ℕ) → Says us (piece_here us)
says [] = tt
says (u ∷ us) =
    piece_by (begins_payload u) (u ∷ us) (payload_piece (payload_of (u / 256) us)) (insn_piece (insn_here (u ∷ us)))
    (of_payload u us)
    (of_insn (u ∷ us) (insn_here (u ∷ us)))

-- ---- at the addresses of units

abbrev payload_by : Option Tile → Option Payload
payload_by o = elim o [ None ↦ None | Some t ↦ payload_in t.item ]

there_by : (o : Option Tile) (units : List ℕ) (at : ℕ) → all_fit 16 units ≡ true → tile_at (tiles_in (tiling units)) at ≡ o → is_data (payload_by o) ≡ true → HasData (drop at units) (payload_by o)
there_by None units at fit e h = absurd (cc (h))
there_by (Some t) units at fit e h =
    let m = met units at t fit e in
    let P : Option Piece → Type 0 = λ o. Says (drop at units) o in
    subst P m.piece (says (drop at units)) h

pub data_there : (units : List ℕ) (at : ℕ) → all_fit 16 units ≡ true → is_data (payload_at (tiles_in (tiling units)) at) ≡ true → HasData (drop at units) (payload_at (tiles_in (tiling units)) at)
data_there units at fit h = there_by (tile_at (tiles_in (tiling units)) at) units at fit refl h
