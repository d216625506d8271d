-- Items stand in the units at their addresses.
use Rattle.std.proofs.Common.{◌≡◌, ℕ, ◌+◌, ◌<◌, ◌≤◌, Bool, true, false, ◌⊎◌, inl, inr, List, [], ◌∷◌, length, take, drop, Option, Some, None, Ok, is_some, nat_eq, refl, ap, sym, ◌∙◌, subst, arith, length-drop}
use Rattle.std.proofs.lemmas.Bool.{eqb-true}
use Rattle.std.proofs.lemmas.List.{drop-drop, length-take-le}
use Rattle.dv_defs.specs.declared.code.Insn.{Insn}
use Rattle.dv_defs.specs.declared.code.Payload.{Payload}
use Rattle.dv_defs.specs.Spelling.{spelling, all_fit}
use Rattle.dv_defs.specs.Payloads.{payload_spelling}
use Rattle.dv_defs.specs.Layout.{item_spelling, AreTiles}
use Rattle.dv_defs.specs.Tiling.{Item, IsInsn, IsPayload, Tile, tiling, tile_at, insn_in, payload_in, insn_at, payload_at, begins_insn}
use Rattle.dv_defs.proofs.TilingLaws.{item_positive, found_tiles}

-- the spelling of an item begins these units
pub record IsFirst (x : Item) (us : List ℕ) : Type 0 where
  pub size : ℕ
  pub room : size ≤ length us
  pub spelled : item_spelling x ≡ Some (take size us)

-- it stands at a distance
pub record IsThere (x : Item) (from at : ℕ) (us : List ℕ) : Type 0 where
  pub past : ℕ
  pub at_is : at ≡ from + past
  pub first : IsFirst x (drop past us)

tile_by : (b : Bool) (u t : Tile) (ts : List Tile) (at : ℕ) → nat_eq u.at at ≡ b → elim b [ true ↦ Some u | false ↦ tile_at ts at ] ≡ Some t → ((u ≡ t) × (u.at ≡ at)) ⊎ (tile_at ts at ≡ Some t)
tile_by true u t ts at e h = inl (cc, eqb-true u.at at e)
tile_by false u t ts at e h = inr h

here : (u t : Tile) (from at : ℕ) (us : List ℕ) → u.at ≡ from → IsFirst u.item us → u ≡ t → u.at ≡ at → IsThere t.item from at us
here u t from at us e f same a =
    let P : Tile → Type 0 = λ x. IsFirst x.item us in
    record { past = 0; at_is = omega arith; first = subst P same f }

later : (x : Item) (from size at : ℕ) (us : List ℕ) → IsThere x (from + size) at (drop size us) → IsThere x from at us
later x from size at us t =
    let P : List ℕ → Type 0 = λ vs. IsFirst x vs in
    record { past = size + t.past; at_is = omega (arith, t.at_is); first = subst P (drop-drop t.past size us) t.first }

found_by : (u : Tile) (ts : List Tile) (from at : ℕ) (us : List ℕ) (t : Tile) → AreTiles from (u ∷ ts) us → ((u ≡ t) × (u.at ≡ at)) ⊎ (tile_at ts at ≡ Some t) → (AreTiles (from + u.size) ts (drop u.size us) → tile_at ts at ≡ Some t → IsThere t.item (from + u.size) at (drop u.size us)) → IsThere t.item from at us
found_by u ts from at us t a (inl e) next = here u t from at us a.0 (record { size = u.size; room = a.1; spelled = a.2 }) e.0 e.1
found_by u ts from at us t a (inr e) next = later t.item from u.size at us (next a.3 e)

found : (ts : List Tile) (from at : ℕ) (us : List ℕ) (t : Tile) → AreTiles from ts us → tile_at ts at ≡ Some t → IsThere t.item from at us
found [] from at us t a e = absurd (cc)
found (u ∷ ts) from at us t a e = found_by u ts from at us t a (tile_by (nat_eq u.at at) u t ts at refl e) (found ts (from + u.size) at (drop u.size us) t)

-- the item at an address stands there
pub stands : (us : List ℕ) (ts : List Tile) (at : ℕ) (t : Tile) → all_fit 16 us ≡ true → tiling us ≡ Ok ts → tile_at ts at ≡ Some t → IsFirst t.item (drop at us)
stands us ts at t f e h =
    let k = found ts 0 at us t (found_tiles ts 0 us f e) h in
    let same : k.past ≡ at = omega (arith, k.at_is) in
    let P : ℕ → Type 0 = λ n. IsFirst t.item (drop n us) in
    subst P same k.first

-- an instruction that begins at an address
pub record InsnStands (ts : List Tile) (us : List ℕ) (at : ℕ) : Type 0 where
  pub insn : Insn
  pub size : ℕ
  pub is_there : insn_at ts at ≡ Some insn
  pub room : size ≤ length (drop at us)
  pub spelled : spelling insn ≡ Some (take size (drop at us))
  pub inside : at < length us

insn_first : (ts : List Tile) (us : List ℕ) (at : ℕ) (x : Item) → insn_at ts at ≡ insn_in x → is_some (insn_in x) ≡ true → IsFirst x (drop at us) → InsnStands ts us at
insn_first ts us at (IsInsn j) e h f =
    record {
      insn = j;
      size = f.size;
      is_there = e;
      room = f.room;
      spelled = f.spelled;
      inside = omega (arith, item_positive (IsInsn j) _ f.spelled, length-take-le f.size (drop at us) f.room, f.room, length-drop at us);
    }
insn_first ts us at (IsPayload p) e h f = absurd (cc)

abbrev at_of : Option Tile → Option Insn
at_of o = elim o [ None ↦ None | Some t ↦ insn_in t.item ]

insn_by : (o : Option Tile) (ts : List Tile) (us : List ℕ) (at : ℕ) → all_fit 16 us ≡ true → tiling us ≡ Ok ts → tile_at ts at ≡ o → begins_insn ts at ≡ true → InsnStands ts us at
insn_by None ts us at f e h b = let none = ap (λ o. is_some (at_of o)) h in absurd (cc)
insn_by (Some t) ts us at f e h b =
    let same = ap at_of h in
    insn_first ts us at t.item same (sym (ap is_some same) ∙ b) (stands us ts at t f e h)

pub insn_stands : (ts : List Tile) (us : List ℕ) (at : ℕ) → all_fit 16 us ≡ true → tiling us ≡ Ok ts → begins_insn ts at ≡ true → InsnStands ts us at
insn_stands ts us at f e b = insn_by (tile_at ts at) ts us at f e refl b

-- a payload at an address
pub record PayloadStands (ts : List Tile) (us : List ℕ) (at : ℕ) : Type 0 where
  pub payload : Payload
  pub size : ℕ
  pub is_there : payload_at ts at ≡ Some payload
  pub room : size ≤ length (drop at us)
  pub spelled : payload_spelling payload ≡ Some (take size (drop at us))

payload_first : (ts : List Tile) (us : List ℕ) (at : ℕ) (x : Item) → payload_at ts at ≡ payload_in x → is_some (payload_in x) ≡ true → IsFirst x (drop at us) → PayloadStands ts us at
payload_first ts us at (IsInsn i) e h f = absurd (cc)
payload_first ts us at (IsPayload p) e h f = record { payload = p; size = f.size; is_there = e; room = f.room; spelled = f.spelled }

abbrev payload_of : Option Tile → Option Payload
payload_of o = elim o [ None ↦ None | Some t ↦ payload_in t.item ]

payload_by : (o : Option Tile) (ts : List Tile) (us : List ℕ) (at : ℕ) → all_fit 16 us ≡ true → tiling us ≡ Ok ts → tile_at ts at ≡ o → is_some (payload_at ts at) ≡ true → PayloadStands ts us at
payload_by None ts us at f e h b = let none = ap (λ o. is_some (payload_of o)) h in absurd (cc)
payload_by (Some t) ts us at f e h b =
    let same = ap payload_of h in
    payload_first ts us at t.item same (sym (ap is_some same) ∙ b) (stands us ts at t f e h)

pub payload_stands : (ts : List Tile) (us : List ℕ) (at : ℕ) → all_fit 16 us ≡ true → tiling us ≡ Ok ts → is_some (payload_at ts at) ≡ true → PayloadStands ts us at
payload_stands ts us at f e b = payload_by (tile_at ts at) ts us at f e refl b
