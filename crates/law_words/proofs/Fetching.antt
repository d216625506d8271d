-- The instruction that is read at an address is the one that the tiling of the units from their start has there.
use Rattle.std.proofs.Common.{◌≡◌, ℕ, zero, suc, ◌+◌, ◌-◌, ◌/◌, List, [], ◌∷◌, drop, Bool, true, false, Option, Some, None, Result, Ok, Err, refl, sym, ap, ◌∙◌, subst, arith}
use Rattle.std.specs.Prelude.{nat_eq}
use Rattle.std.proofs.lemmas.Option.{same_Some}
use Rattle.dv_defs.specs.declared.faults.Rule.{Rule}
use Rattle.dv_defs.specs.Images.{Image}
use Rattle.dv_defs.specs.declared.code.Insn.{Insn}
use Rattle.dv_defs.specs.declared.code.Payload.{Payload}
use Rattle.dv_defs.specs.declared.code.Body.{Body}
use Rattle.dv_defs.specs.Pools.{Method, method_at}
use Rattle.dv_defs.specs.Op.{Code, code_at, code_of, with_body, op_of, Resolved}
use Rattle.dv_words.specs.Fetching.{FetchedIsDecoded, FetchedIsThere, IsFetched, IsSpelled, IsThere, PayloadsAreThere, StandsAt}
use Rattle.dv_typing.specs.Statics.{At, fetch, fetch_in, at_tile, at_of, sound_at, insn_rules}
use Rattle.dv_defs.specs.Decoding.{Sized, insn_here}
use Rattle.dv_defs.specs.Tiling.{Item, IsInsn, IsPayload, Piece, Tile, SizedPayload, tiled, tiling, tiles_in, tile_at, with_tile, piece_here, insn_piece, payload_piece, begins_payload, payload_of, insn_in, payload_at, payload_in}

-- the tile of an address begins where the address is
pub record IsHere (t : Tile) (to : ℕ) (us : List ℕ) : Type 0 where
  pub place : t.at ≡ to
  pub piece : piece_here us ≡ Some (record { item = t.item; size = t.size })

abbrev by_piece : ℕ → List ℕ → Option Piece → Result (List Tile) ℕ
by_piece at us o = elim o [ None ↦ Err at | Some p ↦ with_tile (record { at = at; size = p.size; item = p.item }) (tiled (suc at) (p.size - 1) us) ]

abbrev by_first : Tile → ℕ → Option Tile → Bool → Option Tile
by_first t at rest b = elim b [ true ↦ Some t | false ↦ rest ]

-- so many places on
pub record IsOn (t : Tile) (from to : ℕ) (us : List ℕ) : Type 0 where
  pub on : ℕ
  pub place : from + on ≡ to
  pub here : IsHere t to (drop on us)

same_tiles : (ts us : List Tile) → (let r : Result (List Tile) ℕ = Ok ts in r) ≡ Ok us → ts ≡ us
same_tiles ts us e = cc

nat_eq_is : (a b : ℕ) → nat_eq a b ≡ true → a ≡ b
nat_eq_is a b e = grind arith

module _ (u : ℕ) (us : List ℕ) (from to : ℕ) (t : Tile) where
  abbrev Later : Type 0
  Later = (k : ℕ) (vs : List Tile) → tiled (suc from) k us ≡ Ok vs → tile_at vs to ≡ Some t → IsOn t (suc from) to us

  later : IsOn t (suc from) to us → IsOn t from to (u ∷ us)
  later r = record { on = suc r.on; place = omega (arith, r.place); here = r.here }

  by_place : (p : Piece) (vs : List Tile) (b : Bool) → Later → piece_here (u ∷ us) ≡ Some p → tiled (suc from) (p.size - 1) us ≡ Ok vs → nat_eq from to ≡ b → by_first (record { at = from; size = p.size; item = p.item }) to (tile_at vs to) b ≡ Some t → IsOn t from to (u ∷ us)
  by_place p vs true more is q n m =
      let s = same_Some (record { at = from; size = p.size; item = p.item }) t m in
      let at : from ≡ to = nat_eq_is from to n in
      record { on = 0; place = omega (arith, at); here = subst (λ (z : Tile). IsHere z to (u ∷ us)) s (record { place = at; piece = is }) }
  by_place p vs false more is q n m = later (more (p.size - 1) vs q m)

  by_rest : (p : Piece) (ts : List Tile) (r : Result (List Tile) ℕ) → Later → piece_here (u ∷ us) ≡ Some p → tiled (suc from) (p.size - 1) us ≡ r → with_tile (record { at = from; size = p.size; item = p.item }) r ≡ Ok ts → tile_at ts to ≡ Some t → IsOn t from to (u ∷ us)
  by_rest p ts (Err a) more is q w h = absurd (cc)
  by_rest p ts (Ok vs) more is q w h = by_place p vs (nat_eq from to) more is q refl (ap (λ (z : List Tile). tile_at z to) (same_tiles (record { at = from; size = p.size; item = p.item } ∷ vs) ts w) ∙ h)

  by_one : (ts : List Tile) (o : Option Piece) → Later → piece_here (u ∷ us) ≡ o → by_piece from us o ≡ Ok ts → tile_at ts to ≡ Some t → IsOn t from to (u ∷ us)
  by_one ts None more is d h = absurd (cc)
  by_one ts (Some p) more is d h = by_rest p ts (tiled (suc from) (p.size - 1) us) more is refl d h

pub tile_found : (us : List ℕ) (from k to : ℕ) (ts : List Tile) (t : Tile) → tiled from k us ≡ Ok ts → tile_at ts to ≡ Some t → IsOn t from to us
tile_found [] from zero to ts t e h = let n : [] ≡ ts = same_tiles [] ts e in absurd (let m : tile_at [] to ≡ Some t = ap (λ (z : List Tile). tile_at z to) n ∙ h in cc)
tile_found [] from (suc k) to ts t e h = absurd (cc)
tile_found (u ∷ us) from (suc k) to ts t e h = later u us from to t (tile_found us (suc from) k to ts t e h)
tile_found (u ∷ us) from zero to ts t e h = by_one u us from to t ts (piece_here (u ∷ us)) (λ k vs. tile_found us (suc from) k to vs t) refl e h

-- ---- from the tile to the instruction

pieces_same : (p q : Piece) → (let o : Option Piece = Some p in o) ≡ Some q → p ≡ q
pieces_same p q e = same_Some p q e

no_payload : (p : Payload) (i : Insn) (n m : ℕ) → (let o : Option Piece = Some (record { item = IsPayload p; size = n }) in o) ≡ Some (record { item = IsInsn i; size = m }) → ⊥
no_payload p i n m e = let d : IsPayload p ≡ IsInsn i = ap (λ (z : Piece). z.item) (pieces_same _ _ e) in absurd (cc d)

abbrev sized : Insn → ℕ → Sized
sized i n = record { insn = i; size = n }

same_sized : (x : Sized) (i : Insn) (n : ℕ) → insn_piece (Some x) ≡ Some (record { item = IsInsn i; size = n }) → x ≡ sized i n
same_sized x i n e =
    let p = pieces_same (record { item = IsInsn x.insn; size = x.size }) (record { item = IsInsn i; size = n }) e in
    let a : x.insn ≡ i = same_Some x.insn i (ap (λ (z : Piece). insn_in z.item) p) in
    let b : x.size ≡ n = ap (λ (z : Piece). z.size) p in
    rw (sym a, sym b) refl

abbrev marked : Bool → Option SizedPayload → Option Sized → Option Piece
marked b p i = elim b [ true ↦ payload_piece p | false ↦ insn_piece i ]

-- an instruction that the tiling has is the one that is spelled there
pub insn_of_piece : (us : List ℕ) (i : Insn) (n : ℕ) → piece_here us ≡ Some (record { item = IsInsn i; size = n }) → insn_here us ≡ Some (record { insn = i; size = n })
insn_of_piece [] i n e = absurd (cc)
insn_of_piece (u ∷ us) i n e = by_mark (begins_payload u) e
  where
    from_payload : (o : Option SizedPayload) → payload_piece o ≡ Some (record { item = IsInsn i; size = n }) → insn_here (u ∷ us) ≡ Some (record { insn = i; size = n })
    from_payload None d = absurd (cc)
    from_payload (Some x) d = absurd (no_payload x.payload i x.size n d)

    from_insn : (o : Option Sized) → insn_piece o ≡ Some (record { item = IsInsn i; size = n }) → o ≡ Some (record { insn = i; size = n })
    from_insn None d = absurd (cc)
    from_insn (Some x) d = ap Some (same_sized x i n d)

    by_mark : (b : Bool) → marked b (payload_of (u / 256) us) (insn_here (u ∷ us)) ≡ Some (record { item = IsInsn i; size = n }) → insn_here (u ∷ us) ≡ Some (record { insn = i; size = n })
    by_mark true d = from_payload _ d
    by_mark false d = from_insn _ d

module _ (image : Image) (code : Code) (at : ℕ) (i : Insn) (size : ℕ) (x : At) where
  resolved : (next : ℕ) (r : Resolved) → at_of next r ≡ Some x → (r ≡ Ok x.op) × (x.next ≡ next)
  resolved next (Err n) e = absurd (cc)
  resolved next (Ok op) e = let s = same_Some (record { op = op; next = next }) x e in (ap (λ (z : At). (let r : Resolved = Ok z.op in r)) s, sym (ap (λ (z : At). z.next) s))

  abbrev by_rules : ℕ → Insn → List Rule → Option At
  by_rules next j rs = elim rs [ [] ↦ at_of next (op_of image code at j) | r ∷ rest ↦ None ]

  sound : (rs : List Rule) (next : ℕ) → insn_rules image code at i ≡ rs → by_rules next i rs ≡ Some x → next ≡ at + size → IsFetched image code at i size x
  sound [] next is e n = let (o, m) = resolved next (op_of image code at i) e in record { op = o; next = m ∙ n; rules = is }
  sound (r ∷ rs) next is e n = absurd (cc)

  from_item : (t : Tile) (y : Item) → t.item ≡ y → t.at ≡ at → piece_here (drop at code.body.units) ≡ Some (record { item = y; size = t.size }) → insn_here (drop at code.body.units) ≡ Some (record { insn = i; size = size }) → elim (insn_in y) [ None ↦ None | Some j ↦ sound_at image code t.at (t.at + t.size) j ] ≡ Some x → IsFetched image code at i size x
  from_item t (IsPayload p) is place piece read e = absurd (cc)
  from_item t (IsInsn j) is place piece read e =
      let same = same_Some (let z : Sized = record { insn = j; size = t.size } in z) (record { insn = i; size = size }) (sym (insn_of_piece (drop at code.body.units) j t.size piece) ∙ read) in
      let insns : j ≡ i = ap (λ (z : Sized). z.insn) same in
      let sizes : t.size ≡ size = ap (λ (z : Sized). z.size) same in
      let d : sound_at image code t.at (t.at + t.size) j ≡ Some x = e in
      let c : sound_at image code at (at + size) i ≡ Some x = rw (sym place, sym insns, sym sizes) d in
      sound (insn_rules image code at i) (at + size) refl c refl

-- a method's tiles are those of its units
tiles_of_body : (m : Method) (b : Option Body) (code : Code) → with_body m b ≡ Some code → code.tiles ≡ tiles_in (tiling code.body.units)
tiles_of_body m None code e = absurd (cc)
tiles_of_body m (Some b) code e = let s = same_Some (record { method = m; body = b; tiles = tiles_in (tiling b.units) }) code e in subst (λ (c : Code). c.tiles ≡ tiles_in (tiling c.body.units)) s refl

tiles_of_method : (m : Option Method) (code : Code) → code_of m ≡ Some code → code.tiles ≡ tiles_in (tiling code.body.units)
tiles_of_method None code e = absurd (cc)
tiles_of_method (Some m) code e = tiles_of_body m m.def.body code e

pub tiles_are : (image : Image) (n : ℕ) (code : Code) → code_at image n ≡ Some code → code.tiles ≡ tiles_in (tiling code.body.units)
unfolding code_at
tiles_are image n code e = tiles_of_method (method_at image n) code e

module _ (image : Image) (code : Code) (at : ℕ) (i : Insn) (size : ℕ) (x : At) where
  from_tile : (r : Result (List Tile) ℕ) (o : Option Tile) → tiling code.body.units ≡ r → tile_at (tiles_in r) at ≡ o → insn_here (drop at code.body.units) ≡ Some (record { insn = i; size = size }) → at_tile image code o ≡ Some x → IsFetched image code at i size x
  from_tile (Err a) o is found read e = absurd (let d : None ≡ o = found in let f : at_tile image code None ≡ Some x = ap (at_tile image code) d ∙ e in cc f)
  from_tile (Ok ts) None is found read e = absurd (cc e)
  from_tile (Ok ts) (Some t) is found read e =
      let h = tile_found code.body.units 0 0 at ts t is found in
      let on : h.on ≡ at = sym (omega (arith, h.place)) in
      let piece = subst (λ (k : ℕ). piece_here (drop k code.body.units) ≡ Some (record { item = t.item; size = t.size })) on h.here.piece in
      from_item image code at i size x t t.item refl h.here.place piece read e

  pub is_fetched : (n : ℕ) → code_at image n ≡ Some code → fetch image n at ≡ Some x → insn_here (drop at code.body.units) ≡ Some (record { insn = i; size = size }) → IsFetched image code at i size x
  unfolding fetch
  is_fetched n has e read =
      let f : at_tile image code (tile_at code.tiles at) ≡ Some x = ap (fetch_in image at) (sym has) ∙ e in
      let g : at_tile image code (tile_at (tiles_in (tiling code.body.units)) at) ≡ Some x = ap (λ (ts : List Tile). at_tile image code (tile_at ts at)) (sym (tiles_are image n code has)) ∙ f in
      from_tile (tiling code.body.units) (tile_at (tiles_in (tiling code.body.units)) at) refl refl read g

-- ---- what is fetched is read there

module _ (image : Image) (code : Code) (at : ℕ) (x : At) where
  next_of : (next : ℕ) (r : Resolved) → at_of next r ≡ Some x → x.next ≡ next
  next_of next (Err n) e = absurd (cc)
  next_of next (Ok op) e = sym (ap (λ (z : At). z.next) (same_Some (record { op = op; next = next }) x e))

  next_by : (rs : List Rule) (next : ℕ) (i : Insn) → by_rules image code at i 0 x next i rs ≡ Some x → x.next ≡ next
  next_by [] next i e = next_of next (op_of image code at i) e
  next_by (r ∷ rs) next i e = absurd (cc)

  read_item : (t : Tile) (y : Item) → t.at ≡ at → piece_here (drop at code.body.units) ≡ Some (record { item = y; size = t.size }) → elim (insn_in y) [ None ↦ None | Some j ↦ sound_at image code t.at (t.at + t.size) j ] ≡ Some x → IsThere code.body.units at x
  read_item t (IsPayload p) place piece e = absurd (cc)
  read_item t (IsInsn i) place piece e =
      let d : sound_at image code t.at (t.at + t.size) i ≡ Some x = e in
      let c : sound_at image code at (at + t.size) i ≡ Some x = rw (sym place) d in
      record { insn = i; size = t.size; read = insn_of_piece (drop at code.body.units) i t.size piece; next = next_by (insn_rules image code at i) (at + t.size) i c }

  read_tile : (r : Result (List Tile) ℕ) (o : Option Tile) → tiling code.body.units ≡ r → tile_at (tiles_in r) at ≡ o → at_tile image code o ≡ Some x → IsThere code.body.units at x
  read_tile (Err a) o is found e = absurd (let d : None ≡ o = found in let f : at_tile image code None ≡ Some x = ap (at_tile image code) d ∙ e in cc f)
  read_tile (Ok ts) None is found e = absurd (cc e)
  read_tile (Ok ts) (Some t) is found e =
      let h = tile_found code.body.units 0 0 at ts t is found in
      let on : h.on ≡ at = sym (omega (arith, h.place)) in
      let piece = subst (λ (k : ℕ). piece_here (drop k code.body.units) ≡ Some (record { item = t.item; size = t.size })) on h.here.piece in
      read_item t t.item h.here.place piece e

  pub is_read : (n : ℕ) → code_at image n ≡ Some code → fetch image n at ≡ Some x → IsThere code.body.units at x
  unfolding fetch
  is_read n has e =
      let f : at_tile image code (tile_at code.tiles at) ≡ Some x = ap (fetch_in image at) (sym has) ∙ e in
      let g : at_tile image code (tile_at (tiles_in (tiling code.body.units)) at) ≡ Some x = ap (λ (ts : List Tile). at_tile image code (tile_at ts at)) (sym (tiles_are image n code has)) ∙ f in
      read_tile (tiling code.body.units) (tile_at (tiles_in (tiling code.body.units)) at) refl refl g

-- ---- the address after an instruction

abbrev pub IsAfter : List ℕ → ℕ → ℕ → Type 0
IsAfter units at to = (image : Image) (n : ℕ) (x : At) → StandsAt image n units at x → x.next ≡ to

pub read_here : (image : Image) (n at : ℕ) (units : List ℕ) (x : At) → StandsAt image n units at x → IsThere units at x
read_here image n at units x s = subst (λ (us : List ℕ). IsThere us at x) s.same_units (is_read image s.code at x n s.has_code s.has_at)

pub after_read : (units : List ℕ) (at size : ℕ) (i : Insn) → insn_here (drop at units) ≡ Some (record { insn = i; size = size }) → IsAfter units at (at + size)
after_read units at size i e image n x s =
    let r = read_here image n at units x s in
    let same = same_Some (let z : Sized = record { insn = r.insn; size = r.size } in z) (record { insn = i; size = size }) (sym r.read ∙ e) in
    r.next ∙ ap (λ (z : Sized). at + z.size) same

pub none_after : (units : List ℕ) (at to : ℕ) → insn_here (drop at units) ≡ None → IsAfter units at to
none_after units at to e image n x s = let r = read_here image n at units x s in absurd (let d : None ≡ Some (let z : Sized = record { insn = r.insn; size = r.size } in z) = sym e ∙ r.read in cc d)

-- ---- as laws

pub fetched_is_there : FetchedIsThere
fetched_is_there image n at units x s = read_here image n at units x s

pub fetched_is_decoded : FetchedIsDecoded
fetched_is_decoded image n at code i size x has stands read = is_fetched image code at i size x n has stands read

-- ---- payloads

payload_tile : (o : Option Tile) (p : Payload) → elim o [ None ↦ None | Some t ↦ payload_in t.item ] ≡ Some p → (t : Tile) × (o ≡ Some t) × (t.item ≡ IsPayload p)
payload_tile None p e = absurd (cc)
payload_tile (Some t) p e = (t, refl, item t.item e)
  where
    item : (y : Item) → payload_in y ≡ Some p → y ≡ IsPayload p
    item (IsInsn i) d = absurd (cc)
    item (IsPayload q) d = ap IsPayload (same_Some q p d)

payload_by : (units : List ℕ) (at : ℕ) (p : Payload) (r : Result (List Tile) ℕ) → tiling units ≡ r → payload_at (tiles_in r) at ≡ Some p → IsSpelled units at p
payload_by units at p (Err a) is e = absurd (cc)
payload_by units at p (Ok ts) is e =
    let t = payload_tile (tile_at ts at) p e in
    let h = tile_found units 0 0 at ts t.0 is t.1 in
    let on : h.on ≡ at = sym (omega (arith, h.place)) in
    let piece = subst (λ (k : ℕ). piece_here (drop k units) ≡ Some (record { item = t.0.item; size = t.0.size })) on h.here.piece in
    record { size = t.0.size; read = subst (λ (y : Item). piece_here (drop at units) ≡ Some (record { item = y; size = t.0.size })) t.2 piece }

pub payloads_are_there : PayloadsAreThere
payloads_are_there units at p e = payload_by units at p (tiling units) refl e
