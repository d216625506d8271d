-- `piece_here` is the inverse of the spelling of items, no item's spelling begins another's, and `tiling` finds the
-- one tiling.
use Rattle.std.proofs.Common.{◌≡◌, ℕ, ◌+◌, ◌-◌, ◌*◌, ◌/◌, ◌%◌, ◌<◌, ◌≤◌, zero, suc, Bool, true, false, ◌⊎◌, inl, inr, List, [], ◌∷◌, ◌++◌, length, take, drop, get_or, Option, Some, None, Result, Ok, Err, refl, ap, sym, ◌∙◌, subst, arith, append-nil}
use Rattle.std.proofs.lemmas.List.{length-take-le, take-append-drop, get_or-take}
use Rattle.std.proofs.Math.Seq.{take-length}
use Rattle.dv_defs.specs.declared.code.Insn.{Insn}
use Rattle.dv_defs.specs.declared.code.Payload.{Payload}
use Rattle.dv_defs.specs.declared.code.Payload.TheVariants as payload
use Rattle.dv_defs.specs.Formats.{Format, F10x, size_in, format_at}
use Rattle.dv_defs.specs.Spelling.{all_fit, spelling, spelling_in, spelling_10x}
use Rattle.dv_defs.specs.Decoding.{Sized, insn_here}
use Rattle.dv_defs.specs.Tiling.{SizedPayload, Item, IsInsn, IsPayload, Piece, Tile, payload_of, begins_payload, insn_piece, payload_piece, piece_here, with_tile, tiled}
use Rattle.dv_defs.specs.Payloads.{payload_spelling, payload_here}
use Rattle.dv_defs.specs.Layout.{item_spelling, AreTiles}
use Rattle.dv_defs.proofs.Spelled.{spelled_is}
use Rattle.dv_defs.proofs.SpellingLaws.{Stands, stands, unique_where_both_stand, units_of_positive}
use Rattle.dv_defs.proofs.DecodingFormats.{unit_parts}
use Rattle.dv_defs.proofs.DecodingLaws.{insn_here_spelled, spelled_insn_here}
use Rattle.dv_defs.proofs.PayloadLaws.{where_fits_is, spelled_payload_reads, payload_here_spelled, spelled_payload_here, kind_of}

nop_format : format_at 0 ≡ Some F10x
unfolding format_at
nop_format = refl

-- what begins with the opcode 0 is a unit 0
first_of_nop : (i : Insn) (us : List ℕ) → spelling_10x i ≡ Some (take 1 us) → i.op ≡ 0 → get_or us 0 0 ≡ 0
first_of_nop i [] p e = refl
first_of_nop i (u ∷ us) p e =
    let s = spelled_is i _ _ _ (u ∷ []) p in
    let h : u ≡ 0 * 256 + i.op = cc (s.units) in
    omega (arith, h, e)

no_mark : (f : Format) (i : Insn) (us : List ℕ) → Stands f i us us → get_or us 0 0 % 256 ≡ 0 → get_or us 0 0 ≡ 0
no_mark f i us s z =
    let op : i.op ≡ 0 = s.opcode ∙ z in
    let e : f ≡ F10x = cc (sym s.format, ap format_at op, nop_format) in
    let P : Format → Type 0 = λ g. spelling_in g i ≡ Some (take (size_in g) us) in
    first_of_nop i us (subst P e s.units) op

marks : (u : ℕ) → ((u ≡ 0x0100) ⊎ (u ≡ 0x0200)) ⊎ (u ≡ 0x0300) → (u % 256 ≡ 0) × (u ≡ 0 → ⊥)
marks u (inl (inl e)) = (ap (λ n. n % 256) e, λ z. omega arith)
marks u (inl (inr e)) = (ap (λ n. n % 256) e, λ z. omega arith)
marks u (inr e) = (ap (λ n. n % 256) e, λ z. omega arith)

-- no instruction's spelling begins as a payload's
pub no_payload_mark : (i : Insn) (us : List ℕ) → spelling i ≡ Some us → begins_payload (get_or us 0 0) ≡ true → ⊥
no_payload_mark i us p b =
    let m = marks (get_or us 0 0) (kind_of _ b) in
    let (f, s) = stands i us us p (sym (take-length us)) in
    m.1 (no_mark f i us s m.0)

mark_of : (us vs : List ℕ) → us ≡ vs → begins_payload (get_or us 0 0) ≡ true → begins_payload (get_or vs 0 0) ≡ true
mark_of us vs e h = ap (λ xs. begins_payload (get_or xs 0 0)) (sym e) ∙ h

pub payload_mark : (p : Payload) (us : List ℕ) → payload_spelling p ≡ Some us → begins_payload (get_or us 0 0) ≡ true
payload_mark (payload.Packed first targets) us e = mark_of _ us (where_fits_is _ _ us e).1 refl
payload_mark (payload.Sparse keys targets) us e = mark_of _ us (where_fits_is _ _ us e).1 refl
payload_mark (payload.Data width bytes) us e = mark_of _ us (where_fits_is _ _ us e).1 refl

payloads_are : (x y : SizedPayload) → (let o : Option SizedPayload = Some x in o) ≡ Some y → x.payload ≡ y.payload
payloads_are x y e = let h : x ≡ y = cc in ap (λ z. z.payload) h

same_payload : (p q : Payload) (us vs : List ℕ) → payload_spelling p ≡ Some us → payload_spelling q ≡ Some vs → us ≡ take (length us) vs → p ≡ q
same_payload p q us vs e h k =
    let whole : us ++ drop (length us) vs ≡ vs ++ [] = ap (λ xs. xs ++ drop (length us) vs) k ∙ (take-append-drop (length us) vs ∙ sym (append-nil vs)) in
    let both = sym (spelled_payload_reads p us (drop (length us) vs) e) ∙ (ap payload_here whole ∙ spelled_payload_reads q vs [] h) in
    payloads_are (record { payload = p; size = length us }) (record { payload = q; size = length vs }) both

mark_seen : (us vs : List ℕ) → 0 < length us → us ≡ take (length us) vs → get_or us 0 0 ≡ get_or vs 0 0
mark_seen us vs h e = ap (λ xs. get_or xs 0 0) e ∙ get_or-take (length us) vs 0 0 h

pub insn_positive : (i : Insn) (us : List ℕ) → spelling i ≡ Some us → 0 < length us
insn_positive i us p = let (f, s) = stands i us us p (sym (take-length us)) in omega (arith, s.size, units_of_positive f)

positive : (p : Payload) (us : List ℕ) → payload_spelling p ≡ Some us → 0 < length us
positive p [] e = absurd (let h = spelled_payload_reads p [] [] e in cc h)
positive p (u ∷ us) e = omega arith

pub item_positive : (x : Item) (us : List ℕ) → item_spelling x ≡ Some us → 0 < length us
item_positive (IsInsn i) us e = insn_positive i us e
item_positive (IsPayload p) us e = positive p us e

-- no item's spelling begins another's
pub items_apart : (x y : Item) (us vs : List ℕ) → item_spelling x ≡ Some us → item_spelling y ≡ Some vs → us ≡ take (length us) vs → x ≡ y
items_apart (IsInsn i) (IsInsn j) us vs e h k = ap IsInsn (unique_where_both_stand i j us vs vs e k h (sym (take-length vs)))
items_apart (IsPayload p) (IsPayload q) us vs e h k = ap IsPayload (same_payload p q us vs e h k)
items_apart (IsInsn i) (IsPayload q) us vs e h k =
    let m = ap begins_payload (mark_seen us vs (insn_positive i us e) k) in
    absurd (no_payload_mark i us e (m ∙ payload_mark q vs h))
items_apart (IsPayload p) (IsInsn j) us vs e h k =
    let m = ap begins_payload (mark_seen us vs (positive p us e) k) in
    absurd (no_payload_mark j vs h (sym m ∙ payload_mark p us e))

-- an item that is spelled at the beginning of units
abbrev IsSpelledHere : Item → ℕ → List ℕ → Type 0
IsSpelledHere x n us = (n ≤ length us) × (item_spelling x ≡ Some (take n us))

abbrev piece : Item → ℕ → Option Piece
piece x n = Some (record { item = x; size = n })

piece_parts : (p q : Piece) → (let o : Option Piece = Some p in o) ≡ Some q → (p.item ≡ q.item) × (p.size ≡ q.size)
piece_parts p q e = let h : p ≡ q = cc in (ap (λ z. z.item) h, ap (λ z. z.size) h)

same_spelled : (x y : Item) (m n : ℕ) (us : List ℕ) → x ≡ y → m ≡ n → IsSpelledHere x m us → IsSpelledHere y n us
same_spelled x y m n us e h s =
    let P : Item → Type 0 = λ z. IsSpelledHere z n us in
    let Q : ℕ → Type 0 = λ k. IsSpelledHere x k us in
    subst P e (subst Q h s)

from_payload : (o : Option SizedPayload) (us : List ℕ) (x : Item) (n : ℕ) → all_fit 16 us ≡ true → payload_here us ≡ o → payload_piece o ≡ piece x n → IsSpelledHere x n us
from_payload None us x n t e h = absurd (cc)
from_payload (Some s) us x n t e h =
    let q = piece_parts (record { item = IsPayload s.payload; size = s.size }) (record { item = x; size = n }) h in
    same_spelled (IsPayload s.payload) x s.size n us q.0 q.1 (payload_here_spelled us s.payload s.size t e)

from_insn : (o : Option Sized) (us : List ℕ) (x : Item) (n : ℕ) → all_fit 16 us ≡ true → insn_here us ≡ o → insn_piece o ≡ piece x n → IsSpelledHere x n us
from_insn None us x n t e h = absurd (cc)
from_insn (Some s) us x n t e h =
    let q = piece_parts (record { item = IsInsn s.insn; size = s.size }) (record { item = x; size = n }) h in
    same_spelled (IsInsn s.insn) x s.size n us q.0 q.1 (insn_here_spelled us s.insn s.size t e)

abbrev payload_if : Bool → Option SizedPayload → Option SizedPayload
payload_if b o = elim b [ true ↦ o | false ↦ None ]

abbrev piece_if : Bool → Option SizedPayload → Option Sized → Option Piece
piece_if b o i = elim b [ true ↦ payload_piece o | false ↦ insn_piece i ]

piece_by : (b : Bool) (u : ℕ) (us : List ℕ) (x : Item) (n : ℕ) → all_fit 16 (u ∷ us) ≡ true → begins_payload u ≡ b → piece_if b (payload_of (u / 256) us) (insn_here (u ∷ us)) ≡ piece x n → IsSpelledHere x n (u ∷ us)
piece_by true u us x n t e h = from_payload (payload_of (u / 256) us) (u ∷ us) x n t (ap (λ b. payload_if b (payload_of (u / 256) us)) e) h
piece_by false u us x n t e h = from_insn (insn_here (u ∷ us)) (u ∷ us) x n t refl h

pub piece_here_spelled : (us : List ℕ) (x : Item) (n : ℕ) → all_fit 16 us ≡ true → piece_here us ≡ piece x n → IsSpelledHere x n us
piece_here_spelled [] x n t e = absurd (cc)
piece_here_spelled (u ∷ us) x n t e = piece_by (begins_payload u) u us x n t refl e

-- the units of an item that is spelled here begin as the units do
begins_here : (x : Item) (n u : ℕ) (us : List ℕ) → IsSpelledHere x n (u ∷ us) → get_or (take n (u ∷ us)) 0 0 ≡ u
begins_here x n u us s = get_or-take n (u ∷ us) 0 0 (omega (arith, item_positive x _ s.1, length-take-le n (u ∷ us) s.0))

is_false : (b : Bool) → (b ≡ true → ⊥) → b ≡ false
is_false true h = absurd (h refl)
is_false false h = refl

pub spelled_piece_here : (us : List ℕ) (x : Item) (n : ℕ) → all_fit 16 us ≡ true → n ≤ length us → item_spelling x ≡ Some (take n us) → piece_here us ≡ piece x n
spelled_piece_here [] x n t h e = absurd (omega (arith, item_positive x _ e, length-take-le {A = ℕ} n [] h))
spelled_piece_here (u ∷ us) (IsInsn i) n t h e =
    let first = begins_here (IsInsn i) n u us (h, e) in
    let b : begins_payload u ≡ false = is_false _ (λ m. no_payload_mark i _ e (ap begins_payload first ∙ m)) in
    ap (λ c. piece_if c (payload_of (u / 256) us) (insn_here (u ∷ us))) b ∙ ap insn_piece (spelled_insn_here (u ∷ us) i n t h e)
spelled_piece_here (u ∷ us) (IsPayload p) n t h e =
    let first = begins_here (IsPayload p) n u us (h, e) in
    let b : begins_payload u ≡ true = ap begins_payload (sym first) ∙ payload_mark p _ e in
    let here : payload_of (u / 256) us ≡ Some (record { payload = p; size = n }) = sym (ap (λ c. payload_if c (payload_of (u / 256) us)) b) ∙ spelled_payload_here (u ∷ us) p n h e in
    ap (λ c. piece_if c (payload_of (u / 256) us) (insn_here (u ∷ us))) b ∙ ap payload_piece here

fit_dropped : (n : ℕ) (us : List ℕ) → all_fit 16 us ≡ true → all_fit 16 (drop n us) ≡ true
fit_dropped zero us t = t
fit_dropped (suc n) [] t = refl
fit_dropped (suc n) (u ∷ us) t = fit_dropped n us (unit_parts u us t).1

-- the units of an item are passed over
passed : (at k : ℕ) (us : List ℕ) → k ≤ length us → tiled at k us ≡ tiled (at + k) 0 (drop k us)
passed at zero us h = let e : at ≡ at + 0 = omega arith in ap (λ n. tiled n 0 us) e
passed at (suc k) [] h = absurd (omega arith)
passed at (suc k) (u ∷ us) h =
    let e : suc at + k ≡ at + suc k = omega arith in
    passed (suc at) k us (omega arith) ∙ ap (λ n. tiled n 0 (drop k us)) e

abbrev tile_first : ℕ → Option Piece → List ℕ → Result (List Tile) ℕ
tile_first at o us = elim o [ None ↦ Err at | Some p ↦ with_tile (record { at = at; size = p.size; item = p.item }) (tiled (suc at) (p.size - 1) us) ]

-- the tiling after an item
after : (at n : ℕ) (u : ℕ) (us : List ℕ) → 0 < n → n ≤ length (u ∷ us) → tiled (suc at) (n - 1) us ≡ tiled (at + n) 0 (drop n (u ∷ us))
after at zero u us p h = absurd (omega arith)
after at (suc k) u us p h =
    let e : suc k - 1 ≡ k = omega arith in
    let s : suc at + k ≡ at + suc k = omega arith in
    ap (λ n. tiled (suc at) n us) e ∙ (passed (suc at) k us (omega arith) ∙ ap (λ n. tiled n 0 (drop k us)) s)

same_tile : (a b size : ℕ) (x : Item) → a ≡ b → (let t : Tile = record { at = a; size = size; item = x } in t) ≡ record { at = b; size = size; item = x }
same_tile a b size x e = cc

size_positive : (x : Item) (n : ℕ) (us : List ℕ) → IsSpelledHere x n us → 0 < n
size_positive x n us s = omega (arith, item_positive x _ s.1, length-take-le n us s.0)

one_more : (t : Tile) (ts : List Tile) (at u : ℕ) (us : List ℕ) → all_fit 16 (u ∷ us) ≡ true → t.at ≡ at → IsSpelledHere t.item t.size (u ∷ us) → tiled (at + t.size) 0 (drop t.size (u ∷ us)) ≡ Ok ts → tiled at 0 (u ∷ us) ≡ Ok (t ∷ ts)
one_more t ts at u us f e s h =
    let here = spelled_piece_here (u ∷ us) t.item t.size f s.0 s.1 in
    let rest = after at t.size u us (size_positive t.item t.size (u ∷ us) s) s.0 ∙ h in
    ap (λ o. tile_first at o us) here ∙
    (ap (with_tile (record { at = at; size = t.size; item = t.item })) rest ∙ ap (λ x. Ok (x ∷ ts)) (same_tile at t.at t.size t.item (sym e)))

pub tiles_found : (ts : List Tile) (at : ℕ) (us : List ℕ) → all_fit 16 us ≡ true → AreTiles at ts us → tiled at 0 us ≡ Ok ts
tiles_found [] at us f a = ap (tiled at 0) a
tiles_found (t ∷ ts) at [] f a = absurd (omega (arith, item_positive t.item _ a.2, length-take-le {A = ℕ} t.size [] a.1))
tiles_found (t ∷ ts) at (u ∷ us) f a = one_more t ts at u us f a.0 (a.1, a.2) (tiles_found ts (at + t.size) (drop t.size (u ∷ us)) (fit_dropped t.size (u ∷ us) f) a.3)

abbrev Rest : Tile → List Tile → ℕ → List ℕ → Type 0
Rest t ts at us = (t.at ≡ at) × (t.size ≤ length us) × (item_spelling t.item ≡ Some (take t.size us)) × (tiled (at + t.size) 0 (drop t.size us) ≡ Ok ts)

with_tile_is : (x t : Tile) (ts : List Tile) (r : Result (List Tile) ℕ) → with_tile x r ≡ Ok (t ∷ ts) → (x ≡ t) × (r ≡ Ok ts)
with_tile_is x t ts (Ok xs) e = (cc, cc)
with_tile_is x t ts (Err at) e = absurd (cc)

with_tile_some : (x : Tile) (r : Result (List Tile) ℕ) → with_tile x r ≡ Ok [] → ⊥
with_tile_some x (Ok xs) e = cc
with_tile_some x (Err at) e = cc

first_by : (o : Option Piece) (t : Tile) (ts : List Tile) (at u : ℕ) (us : List ℕ) → all_fit 16 (u ∷ us) ≡ true → piece_here (u ∷ us) ≡ o → tile_first at o us ≡ Ok (t ∷ ts) → Rest t ts at (u ∷ us)
first_by None t ts at u us f e h = absurd (cc)
first_by (Some p) t ts at u us f e h =
    let s = piece_here_spelled (u ∷ us) p.item p.size f e in
    let w = with_tile_is _ t ts _ h in
    let rest = sym (after at p.size u us (size_positive p.item p.size (u ∷ us) s) s.0) ∙ w.1 in
    let P : Tile → Type 0 = λ x. Rest x ts at (u ∷ us) in
    subst P w.0 (refl, s.0, s.1, rest)

none_by : (o : Option Piece) (at : ℕ) (us : List ℕ) → tile_first at o us ≡ Ok [] → ⊥
none_by None at us h = cc
none_by (Some p) at us h = with_tile_some _ _ h

pub found_tiles : (ts : List Tile) (at : ℕ) (us : List ℕ) → all_fit 16 us ≡ true → tiled at 0 us ≡ Ok ts → AreTiles at ts us
found_tiles [] at [] f e = refl
found_tiles [] at (u ∷ us) f e = absurd (none_by (piece_here (u ∷ us)) at us e)
found_tiles (t ∷ ts) at [] f e = absurd (cc)
found_tiles (t ∷ ts) at (u ∷ us) f e =
    let r = first_by (piece_here (u ∷ us)) t ts at u us f refl e in
    (r.0, r.1, r.2, found_tiles ts (at + t.size) (drop t.size (u ∷ us)) (fit_dropped t.size (u ∷ us) f) r.3)
