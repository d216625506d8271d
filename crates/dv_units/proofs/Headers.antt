-- Headers of payloads, and what is read by them.
use Rattle.std.proofs.Common.{◌≡◌, ℕ, ◌+◌, ◌*◌, ◌/◌, ◌%◌, ◌<◌, ◌≤◌, ◌^◌, zero, suc, Bool, true, false, ◌&&◌, List, [], ◌∷◌, length, take, drop, get_or, Option, Some, None, refl, ap, sym, ◌∙◌, subst, arith, length-drop}
use Rattle.std.specs.Prelude.{nat_eq, nat_lt, nat_le}
use Rattle.std.specs.List.{list_all}
use Rattle.std.proofs.lemmas.Bool.{le-leb}
use Rattle.std.proofs.lemmas.Bool.Decides.{nat_tests}
use Rattle.std.proofs.lemmas.List.{length-take-le, get_or-drop}
use Rattle.dv_defs.specs.declared.code.Payload.{Payload}
use Rattle.dv_defs.specs.declared.code.Payload.TheVariants as payload
use Rattle.dv_defs.specs.Numbers.{signed_at}
use Rattle.dv_defs.specs.Decoding.{is_zero}
use Rattle.dv_defs.specs.Tiling.{SizedPayload, doubles, signed_all, bytes_in, packed_with, sparse_with, is_width, data_in, data_of, payload_of, begins_payload}
use Rattle.dv_defs.specs.Payloads.{payload_here}
use Rattle.dv_defs.proofs.PayloadBytes.{length_bytes_in}
use Rattle.dv_defs.proofs.PayloadLaws.{data_fits, data_taken, both}
use Rattle.dv_units.specs.Payloads.{IsHeader, header_size}
use Rattle.dv_units.specs.declared.header.Header.{Header}
use Rattle.dv_units.specs.declared.header.Header.TheVariants as header

abbrev with_number : ℕ → Option (List ℕ) → Option (List ℕ)
with_number k o = elim o [ None ↦ None | Some xs ↦ Some (k ∷ xs) ]

doubles_none : (n : ℕ) (us : List ℕ) → length us < n * 2 → doubles n us ≡ None
doubles_none zero us h = absurd (omega arith)
doubles_none (suc n) [] h = refl
doubles_none (suc n) (v ∷ []) h = refl
doubles_none (suc n) (v ∷ w ∷ us) h = ap (with_number (v + w * 2 ^ 16)) (doubles_none n us (omega arith))

doubles_some : (n : ℕ) (us : List ℕ) → n * 2 ≤ length us → (xs : List ℕ) × (doubles n us ≡ Some xs)
doubles_some zero us h = ([], refl)
doubles_some (suc n) [] h = absurd (omega arith)
doubles_some (suc n) (v ∷ []) h = absurd (omega arith)
doubles_some (suc n) (v ∷ w ∷ us) h =
    let (xs, e) = doubles_some n us (omega arith) in
    ((v + w * 2 ^ 16) ∷ xs, ap (with_number (v + w * 2 ^ 16)) e)

-- a payload of a size that is computed from units
abbrev pub IsSizedHere : List ℕ → ℕ → Type 0
IsSizedHere us n = (p : Payload) × (payload_here us ≡ Some (record { payload = p; size = n }))

packed_sized : (n : ℕ) (us : List ℕ) → suc n * 2 ≤ length us → IsSizedHere (0x0100 ∷ n ∷ us) (n * 2 + 4)
packed_sized n [] h = absurd (omega arith)
packed_sized n (v ∷ []) h = absurd (omega arith)
packed_sized n (v ∷ w ∷ us) h =
    let (ts, e) = doubles_some n us (omega arith) in
    (payload.Packed (signed_at 32 (v + w * 2 ^ 16)) (signed_all ts), ap (λ o. packed_with n (with_number (v + w * 2 ^ 16) o)) e)

sparse_sized : (n : ℕ) (us : List ℕ) → (n + n) * 2 ≤ length us → IsSizedHere (0x0200 ∷ n ∷ us) (n * 4 + 2)
sparse_sized n us h =
    let (xs, e) = doubles_some (n + n) us h in
    (payload.Sparse (signed_all (take n xs)) (signed_all (drop n xs)), ap (sparse_with n) e)

-- the data that is computed from units
pub data_is : (width lo hi m : ℕ) (us : List ℕ) → m ≡ (lo + hi * 2 ^ 16) * width → is_width width ≡ true → (m + 1) / 2 ≤ length us → list_all is_zero (drop m (bytes_in (take ((m + 1) / 2) us))) ≡ true
    → payload_here (0x0300 ∷ width ∷ lo ∷ hi ∷ us) ≡ Some (record { payload = payload.Data width (take m (bytes_in (take ((m + 1) / 2) us))); size = (m + 1) / 2 + 4 })
data_is width lo hi m us e w h z =
    ap (λ k. data_of width k ((k + 1) / 2) us) (sym e) ∙
    (data_fits (is_width width && nat_le ((m + 1) / 2) (length us)) width m us ((m + 1) / 2) (both _ _ w (le-leb _ _ h)) ∙
    data_taken width m (bytes_in (take ((m + 1) / 2) us)) (take m (bytes_in (take ((m + 1) / 2) us))) ((m + 1) / 2) z refl)

-- the payload of a header
pub sized_by : (h : Header) (us : List ℕ) → IsHeader h us → IsSizedHere us (header_size h)
sized_by (header.Packed n) us i =
    let P : List ℕ → Type 0 = λ vs. IsSizedHere vs (n * 2 + 4) in
    subst P (sym i.0) (packed_sized n (drop 2 us) (omega (arith, i.1, length-drop 2 us)))
sized_by (header.Sparse n) us i =
    let P : List ℕ → Type 0 = λ vs. IsSizedHere vs (n * 4 + 2) in
    subst P (sym i.0) (sparse_sized n (drop 2 us) (omega (arith, i.1, length-drop 2 us)))
sized_by (header.Data width m) us i =
    let P : List ℕ → Type 0 = λ vs. IsSizedHere vs ((m + 1) / 2 + 4) in
    subst P (sym i.0) (payload.Data width (take m (bytes_in (take ((m + 1) / 2) (drop 4 us)))), data_is width _ _ m (drop 4 us) i.1 i.2 (omega (arith, i.3, length-drop 4 us)) i.4)

-- the headers that the tests find
pub packed_header : (us : List ℕ) → get_or us 0 0 ≡ 0x0100 → get_or us 1 0 * 2 + 4 ≤ length us → IsHeader (header.Packed (get_or us 1 0)) us
packed_header [] e h = absurd (omega arith)
packed_header (u ∷ []) e h = absurd (omega arith)
packed_header (u ∷ n ∷ us) e h = (ap (λ w. w ∷ n ∷ us) e, h)

pub sparse_header : (us : List ℕ) → get_or us 0 0 ≡ 0x0200 → 2 ≤ length us → get_or us 1 0 * 4 + 2 ≤ length us → IsHeader (header.Sparse (get_or us 1 0)) us
sparse_header [] e l h = absurd (omega arith)
sparse_header (u ∷ []) e l h = absurd (omega arith)
sparse_header (u ∷ n ∷ us) e l h = (ap (λ w. w ∷ n ∷ us) e, h)

pub no_packed : (us : List ℕ) → get_or us 0 0 ≡ 0x0100 → 2 ≤ length us → length us < get_or us 1 0 * 2 + 4 → payload_here us ≡ None
no_packed [] e l h = refl
no_packed (u ∷ []) e l h = absurd (omega arith)
no_packed (u ∷ n ∷ us) e l h = ap (λ w. payload_here (w ∷ n ∷ us)) e ∙ ap (packed_with n) (doubles_none (suc n) us (omega arith))

pub no_sparse : (us : List ℕ) → get_or us 0 0 ≡ 0x0200 → 2 ≤ length us → length us < get_or us 1 0 * 4 + 2 → payload_here us ≡ None
no_sparse [] e l h = refl
no_sparse (u ∷ []) e l h = absurd (omega arith)
no_sparse (u ∷ n ∷ us) e l h = ap (λ w. payload_here (w ∷ n ∷ us)) e ∙ ap (sparse_with n) (doubles_none (n + n) us (omega arith))

abbrev by_mark : Bool → ℕ → List ℕ → Option SizedPayload
by_mark b u us = elim b [ true ↦ payload_of (u / 256) us | false ↦ None ]

is_none : (b : Bool) (u : ℕ) → by_mark b u [] ≡ None
is_none true u = refl
is_none false u = refl

pub no_short : (us : List ℕ) → length us < 2 → payload_here us ≡ None
no_short [] h = refl
no_short (u ∷ []) h = is_none (begins_payload u) u
no_short (u ∷ v ∷ us) h = absurd (omega arith)

no_begin : (u : ℕ) → (u ≡ 0x0100 → ⊥) → (u ≡ 0x0200 → ⊥) → (u ≡ 0x0300 → ⊥) → begins_payload u ≡ false
no_begin u a b c = grind (arith, nat_tests)

pub no_mark : (us : List ℕ) → (get_or us 0 0 ≡ 0x0100 → ⊥) → (get_or us 0 0 ≡ 0x0200 → ⊥) → (get_or us 0 0 ≡ 0x0300 → ⊥) → payload_here us ≡ None
no_mark [] a b c = refl
no_mark (u ∷ us) a b c = ap (λ t. by_mark t u us) (no_begin u a b c)

-- data
pub few_data : (us : List ℕ) → get_or us 0 0 ≡ 0x0300 → length us < 4 → payload_here us ≡ None
few_data [] e h = refl
few_data (u ∷ []) e h = ap (λ w. payload_here (w ∷ [])) e
few_data (u ∷ n ∷ []) e h = ap (λ w. payload_here (w ∷ n ∷ [])) e
few_data (u ∷ n ∷ lo ∷ []) e h = ap (λ w. payload_here (w ∷ n ∷ lo ∷ [])) e
few_data (u ∷ n ∷ lo ∷ hi ∷ us) e h = absurd (omega arith)

abbrev tested : Bool → ℕ → ℕ → List ℕ → Option SizedPayload
tested b width m us = elim b [ true ↦ data_in width m (bytes_in (take ((m + 1) / 2) us)) ((m + 1) / 2) | false ↦ None ]

no_data_at : (us : List ℕ) (m : ℕ) → get_or us 0 0 ≡ 0x0300 → 4 ≤ length us → m ≡ (get_or us 2 0 + get_or us 3 0 * 2 ^ 16) * get_or us 1 0 → (is_width (get_or us 1 0) && nat_le ((m + 1) / 2) (length (drop 4 us))) ≡ false → payload_here us ≡ None
no_data_at [] m e h d t = refl
no_data_at (u ∷ []) m e h d t = absurd (omega arith)
no_data_at (u ∷ w ∷ []) m e h d t = absurd (omega arith)
no_data_at (u ∷ w ∷ lo ∷ []) m e h d t = absurd (omega arith)
no_data_at (u ∷ w ∷ lo ∷ hi ∷ us) m e h d t =
    ap (λ k. payload_here (k ∷ w ∷ lo ∷ hi ∷ us)) e ∙ (ap (λ k. data_of w k ((k + 1) / 2) us) (sym d) ∙ ap (λ b. tested b w m us) t)

and_false : (a b : Bool) → b ≡ false → (a && b) ≡ false
and_false true b h = h
and_false false b h = refl

false_and : (a b : Bool) → a ≡ false → (a && b) ≡ false
false_and a b h = cc

pub no_width : (us : List ℕ) → get_or us 0 0 ≡ 0x0300 → 4 ≤ length us → is_width (get_or us 1 0) ≡ false → payload_here us ≡ None
no_width us e h w = no_data_at us _ e h refl (false_and _ _ w)

pub no_room : (us : List ℕ) (m : ℕ) → get_or us 0 0 ≡ 0x0300 → 4 ≤ length us → m ≡ (get_or us 2 0 + get_or us 3 0 * 2 ^ 16) * get_or us 1 0 → length us < (m + 1) / 2 + 4 → payload_here us ≡ None
no_room us m e h d l =
    let short : length (drop 4 us) < (m + 1) / 2 = omega (arith, length-drop 4 us) in
    let t : nat_le ((m + 1) / 2) (length (drop 4 us)) ≡ false = grind (arith, nat_tests) in
    no_data_at us m e h d (and_false _ _ t)

no_unused_at : (w m : ℕ) (us : List ℕ) → list_all is_zero (drop m (bytes_in (take ((m + 1) / 2) us))) ≡ false → (b : Bool) → tested b w m us ≡ None
no_unused_at w m us z true = ap (λ (b : Bool). elim b as (λ _. Option SizedPayload) [ true ↦ Some (record { payload = payload.Data w (take m (bytes_in (take ((m + 1) / 2) us))); size = (m + 1) / 2 + 4 }) | false ↦ None ]) z
no_unused_at w m us z false = refl

pub no_unused : (us : List ℕ) (m : ℕ) → get_or us 0 0 ≡ 0x0300 → 4 ≤ length us → m ≡ (get_or us 2 0 + get_or us 3 0 * 2 ^ 16) * get_or us 1 0 → list_all is_zero (drop m (bytes_in (take ((m + 1) / 2) (drop 4 us)))) ≡ false → payload_here us ≡ None
no_unused [] m e h d z = refl
no_unused (u ∷ []) m e h d z = absurd (omega arith)
no_unused (u ∷ w ∷ []) m e h d z = absurd (omega arith)
no_unused (u ∷ w ∷ lo ∷ []) m e h d z = absurd (omega arith)
no_unused (u ∷ w ∷ lo ∷ hi ∷ us) m e h d z =
    ap (λ k. payload_here (k ∷ w ∷ lo ∷ hi ∷ us)) e ∙ (ap (λ k. data_of w k ((k + 1) / 2) us) (sym d) ∙ no_unused_at w m us z _)

pub data_header : (us : List ℕ) (m : ℕ) → get_or us 0 0 ≡ 0x0300 → 4 ≤ length us → m ≡ (get_or us 2 0 + get_or us 3 0 * 2 ^ 16) * get_or us 1 0 → is_width (get_or us 1 0) ≡ true → (m + 1) / 2 + 4 ≤ length us → list_all is_zero (drop m (bytes_in (take ((m + 1) / 2) (drop 4 us)))) ≡ true → IsHeader (header.Data (get_or us 1 0) m) us
data_header [] m e h d w l z = absurd (omega arith)
data_header (u ∷ []) m e h d w l z = absurd (omega arith)
data_header (u ∷ n ∷ []) m e h d w l z = absurd (omega arith)
data_header (u ∷ n ∷ lo ∷ []) m e h d w l z = absurd (omega arith)
data_header (u ∷ n ∷ lo ∷ hi ∷ us) m e h d w l z = (ap (λ k. k ∷ n ∷ lo ∷ hi ∷ us) e, d, w, l, z)

all_dropped : (n : ℕ) (xs : List ℕ) → length xs ≤ n → list_all is_zero (drop n xs) ≡ true
all_dropped zero [] h = refl
all_dropped zero (x ∷ xs) h = absurd (omega arith)
all_dropped (suc n) [] h = refl
all_dropped (suc n) (x ∷ xs) h = all_dropped n xs (omega arith)

-- the byte that isn't used
pub even_tail : (m : ℕ) (us : List ℕ) → m % 2 ≡ 0 → (m + 1) / 2 ≤ length us → list_all is_zero (drop m (bytes_in (take ((m + 1) / 2) us))) ≡ true
even_tail m us e h = all_dropped m _ (omega (arith, length_bytes_in (take ((m + 1) / 2) us), length-take-le ((m + 1) / 2) us h))

and_true : (b : Bool) → (b && true) ≡ b
and_true true = refl
and_true false = refl

odd_tail_at : (m n k : ℕ) (us : List ℕ) → n ≡ (m + 1) / 2 → k ≡ m / 2 → m % 2 ≡ 1 → n ≤ length us → list_all is_zero (drop m (bytes_in (take n us))) ≡ nat_eq (get_or us k 0 / 256) 0
odd_tail_at zero n k us a b e h = absurd (omega arith)
odd_tail_at m zero k us a b e h = absurd (omega arith)
odd_tail_at m n k [] a b e h = absurd (omega arith)
odd_tail_at (suc zero) (suc zero) zero (u ∷ us) a b e h = and_true _
odd_tail_at (suc zero) (suc (suc n)) k (u ∷ us) a b e h = absurd (omega arith)
odd_tail_at (suc zero) n (suc k) (u ∷ us) a b e h = absurd (omega arith)
odd_tail_at (suc (suc m)) n zero (u ∷ us) a b e h = absurd (omega arith)
odd_tail_at (suc (suc m)) (suc n) (suc k) (u ∷ us) a b e h = odd_tail_at m n k us (omega arith) (omega arith) (omega arith) (omega arith)

get_dropped : (n k : ℕ) (us : List ℕ) → get_or (drop n us) k 0 ≡ get_or us (n + k) 0
get_dropped n k us = get_or-drop n us k 0

pub odd_tail : (m : ℕ) (us : List ℕ) → m % 2 ≡ 1 → (m + 1) / 2 + 4 ≤ length us → list_all is_zero (drop m (bytes_in (take ((m + 1) / 2) (drop 4 us)))) ≡ nat_eq (get_or us (m / 2 + 4) 0 / 256) 0
odd_tail m us e h =
    odd_tail_at m ((m + 1) / 2) (m / 2) (drop 4 us) refl refl e (omega (arith, length-drop 4 us)) ∙
    ap (λ v. nat_eq (v / 256) 0) (get_dropped 4 (m / 2) us ∙ ap (λ k. get_or us k 0) (let c : 4 + m / 2 ≡ m / 2 + 4 = omega arith in c))

pub below_256 : (u : ℕ) → nat_lt u 256 ≡ nat_eq (u / 256) 0
below_256 u = grind (arith, nat_tests)
