-- In code without static faults the keys of switches rise.
use Rattle.std.proofs.Common.{◌≡◌, ◌<ℤ◌, ◌+ℤ◌, ℕ, zero, suc, ℤ, pos, List, [], ◌∷◌, Bool, true, false, Option, Some, None, Ok, Err, refl, ap, subst, arith}
use Rattle.std.specs.Prelude.{int_lt, nat_eq, slice_get}
use Rattle.std.proofs.lemmas.Bool.{and_parts}
use Rattle.std.proofs.lemmas.Int.{ints}
use Rattle.std.proofs.lemmas.Option.{same_Some}
use Rattle.dv_defs.specs.declared.code.Insn.{Insn}
use Rattle.dv_defs.specs.declared.code.Payload.{Payload}
use Rattle.dv_defs.specs.declared.code.Payload.TheVariants as payload
use Rattle.dv_defs.specs.declared.faults.Rule.TheVariants as rule
use Rattle.dv_defs.specs.declared.names.Ty.{Ty}
use Rattle.dv_typing.specs.Accepting.{is_even, item_places, payload_places, place_unless, rises, tile_places}
use Rattle.dv_defs.specs.Families.{Family, family_at}
use Rattle.dv_defs.specs.Images.{Image}
use Rattle.dv_defs.specs.Numbers.{jump}
use Rattle.dv_defs.specs.Op.{Arg, Case, Code, IntDivide, IntOp, LongDivide, LongOp, LongShift, New, Resolved, cases_packed, cases_sparse, class_of_base, code_at, fill_op, int_op, long_op, move_op, new_op, on_pool, packed_op, resolve, resolve_by, resolved_field, resolved_method, result_op, sparse_op}
use Rattle.dv_defs.specs.Parts.{Bin, Width, is_division, is_shift}
use Rattle.dv_typing.specs.Statics.{fetch, fetch_in}
use Rattle.dv_defs.specs.Tiling.{Item, IsInsn, IsPayload, Tile, payload_at, payload_in, tile_at}
use Rattle.dv_defs.specs.Types.{is_array}
use Rattle.law_flow.proofs.NoPlaces.{no_place, none_left, none_right}
use Rattle.law_flow.proofs.Statics.{is_static_body}
use Rattle.dv_words.specs.Fetching.{StandsAt}
use Rattle.dv_words.specs.Stepping.{AreRising, KeysRise}
use Rattle.law_words.proofs.Fetching.{fetched_is_decoded, fetched_is_there}
use Rattle.law_engine.specs.Laws.{AcceptedKeysRise}

-- ---- cases

abbrev case_at : ℤ → ℕ → Case
case_at key to = record { key = key; to = to }

key_is : (c d : Case) → (let o : Option Case = Some c in o) ≡ Some d → c.key ≡ d.key
key_is c d e = ap (λ (z : Case). z.key) (same_Some c d e)

-- the keys of a packed switch follow one another
packed_key : (at : ℕ) (k : ℤ) (ts : List ℤ) (j : ℕ) (c : Case) → slice_get (cases_packed at k ts) j ≡ Some c → c.key ≡ k +ℤ pos j
packed_key at k [] j c e = absurd (cc e)
packed_key at k (t ∷ ts) zero c e = let same : k ≡ c.key = key_is (case_at k (jump at t)) c e in omega (arith, ints, same)
packed_key at k (t ∷ ts) (suc j) c e = let later : c.key ≡ (k +ℤ pos 1) +ℤ pos j = packed_key at (k +ℤ pos 1) ts j c e in omega (arith, ints, later)

packed_rise : (at : ℕ) (k : ℤ) (ts : List ℤ) → AreRising (cases_packed at k ts)
packed_rise at k ts i j c d l e f =
    let first : c.key ≡ k +ℤ pos i = packed_key at k ts i c e in
    let second : d.key ≡ k +ℤ pos j = packed_key at k ts j d f in
    omega (arith, ints, l, first, second)

less_is : (x y : ℤ) → int_lt x y ≡ true → x <ℤ y
less_is x y e = omega (arith, ints, e)

through : (x y z : ℤ) → x <ℤ y → y <ℤ z → x <ℤ z
through x y z a b = omega (arith, ints, a, b)

rest_rises : (x : ℤ) (xs : List ℤ) → rises (x ∷ xs) ≡ true → rises xs ≡ true
rest_rises x [] r = refl
rest_rises x (y ∷ ys) r = (and_parts (int_lt x y) (rises (y ∷ ys)) r).1

-- a key is below all behind it
first_below : (at : ℕ) (x : ℤ) (xs ts : List ℤ) (j : ℕ) (d : Case) → rises (x ∷ xs) ≡ true → slice_get (cases_sparse at xs ts) j ≡ Some d → x <ℤ d.key
first_below at x [] ts j d r e = absurd (cc e)
first_below at x (y ∷ ys) [] j d r e = absurd (cc e)
first_below at x (y ∷ ys) (t ∷ ts) zero d r e =
    subst (λ (z : ℤ). x <ℤ z) (key_is (case_at y (jump at t)) d e) (less_is x y (and_parts (int_lt x y) (rises (y ∷ ys)) r).0)
first_below at x (y ∷ ys) (t ∷ ts) (suc j) d r e =
    through x y d.key (less_is x y (and_parts (int_lt x y) (rises (y ∷ ys)) r).0) (first_below at y ys ts j d (rest_rises x (y ∷ ys) r) e)

sparse_rise : (at : ℕ) (ks ts : List ℤ) → rises ks ≡ true → AreRising (cases_sparse at ks ts)
sparse_rise at [] ts r i j c d l e f = absurd (cc e)
sparse_rise at (k ∷ ks) [] r i j c d l e f = absurd (cc e)
sparse_rise at (k ∷ ks) (t ∷ ts) r i zero c d l e f = absurd (omega (arith, l))
sparse_rise at (k ∷ ks) (t ∷ ts) r zero (suc j) c d l e f =
    subst (λ (z : ℤ). z <ℤ d.key) (key_is (case_at k (jump at t)) c e) (first_below at k ks ts j d r f)
sparse_rise at (k ∷ ks) (t ∷ ts) r (suc i) (suc j) c d l e f = sparse_rise at ks ts (rest_rises k ks r) i j c d (omega (arith, l)) e f

-- ---- payloads that break no rule

abbrev payload_of_tile : Option Tile → Option Payload
payload_of_tile o = elim o [ None ↦ None | Some t ↦ payload_in t.item ]

-- a payload that breaks no rule where it stands
abbrev IsKept : Payload → Type 0
IsKept p = (place : ℕ) × (payload_places place p ≡ [])

module _ (image : Image) (code : Code) (p : Payload) where
  item_kept : (at : ℕ) (y : Item) → payload_in y ≡ Some p → item_places image code at y ≡ [] → IsKept p
  item_kept at (IsInsn i) e none = absurd (cc e)
  item_kept at (IsPayload q) e none = (at, subst (λ (z : Payload). payload_places at z ≡ []) (same_Some q p e) none)

  payload_kept : (ts : List Tile) (at : ℕ) → tile_places image code ts ≡ [] → payload_at ts at ≡ Some p → IsKept p
  payload_kept [] at none e = absurd (cc e)
  payload_kept (t ∷ ts) at none e =
      by (nat_eq t.at at) (payload_kept ts at (none_right (item_places image code t.at t.item) (tile_places image code ts) none)) e
    where
      by : (b : Bool) → (payload_at ts at ≡ Some p → IsKept p) → payload_of_tile (elim b [ true ↦ Some t | false ↦ tile_at ts at ]) ≡ Some p → IsKept p
      by true later f = item_kept t.at t.item f (none_left (item_places image code t.at t.item) (tile_places image code ts) none)
      by false later f = later f

keys_kept : (ks ts : List ℤ) → IsKept (payload.Sparse ks ts) → rises ks ≡ true
keys_kept ks ts kept = no_place (rises ks) kept.0 (rule.S 9) (none_right (place_unless (is_even kept.0) kept.0 (rule.S 7)) (place_unless (rises ks) kept.0 (rule.S 9)) kept.1)

-- ---- each family

-- where there is an operation, its keys rise
abbrev Rises : Resolved → Type 0
Rises (Err broken) = Unit {0}
Rises (Ok op) = KeysRise op

moved : (w : Width) (a b : ℕ) → KeysRise (move_op w a b)
moved Width.Narrow a b = tt
moved Width.Wide a b = tt
moved Width.Reference a b = tt

resulted : (w : Width) (a : ℕ) → KeysRise (result_op w a)
resulted Width.Narrow a = tt
resulted Width.Wide a = tt
resulted Width.Reference a = tt

calculated : (o : Bin) (a b : ℕ) (c : Arg) → KeysRise (int_op o a b c)
calculated o a b c = by (is_division o)
  where
    by : (d : Bool) → KeysRise (elim d [ true ↦ IntDivide o a b c | false ↦ IntOp o a b c ])
    by true = tt
    by false = tt

calculated_long : (o : Bin) (a b c : ℕ) → KeysRise (long_op o a b c)
calculated_long o a b c = by (is_division o) (is_shift o)
  where
    by : (d e : Bool) → KeysRise (elim d [ true ↦ LongDivide o a b c | false ↦ elim e [ true ↦ LongShift o a b c | false ↦ LongOp o a b c ] ])
    by true e = tt
    by false true = tt
    by false false = tt

pooled : {A : Type 0} (o : Option A) (go : A → Resolved) → ((x : A) → Rises (go x)) → Rises (on_pool o go)
pooled None go each = tt
pooled (Some x) go each = each x

made : (image : Image) (a : ℕ) (t : Ty) → Rises (new_op image a t)
made image a t = by_array (is_array t)
  where
    by_class : (c : Option ℕ) → Rises (elim c [ None ↦ Err (rule.S 16) | Some k ↦ Ok (New a k) ])
    by_class None = tt
    by_class (Some k) = tt

    by_array : (b : Bool) → Rises (elim b [ true ↦ Err (rule.S 16) | false ↦ elim (class_of_base image t.base) [ None ↦ Err (rule.S 16) | Some k ↦ Ok (New a k) ] ])
    by_array true = tt
    by_array false = by_class (class_of_base image t.base)

filled : (a : ℕ) (p : Option Payload) → Rises (fill_op a p)
filled a None = tt
filled a (Some (payload.Packed k ts)) = tt
filled a (Some (payload.Sparse ks ts)) = tt
filled a (Some (payload.Data width bytes)) = tt

packed : (at a : ℕ) (p : Option Payload) → Rises (packed_op at a p)
packed at a None = tt
packed at a (Some (payload.Packed k ts)) = packed_rise at k ts
packed at a (Some (payload.Sparse ks ts)) = tt
packed at a (Some (payload.Data width bytes)) = tt

sparse : (at a : ℕ) (p : Option Payload) → ((ks ts : List ℤ) → p ≡ Some (payload.Sparse ks ts) → rises ks ≡ true) → Rises (sparse_op at a p)
sparse at a None kept = tt
sparse at a (Some (payload.Packed k ts)) kept = tt
sparse at a (Some (payload.Sparse ks ts)) kept = sparse_rise at ks ts (kept ks ts refl)
sparse at a (Some (payload.Data width bytes)) kept = tt

module _ (image : Image) (code : Code) (at : ℕ) (i : Insn) (none : tile_places image code code.tiles ≡ []) where
  rises_of : (f : Family) → Rises (resolve image code at i f)
  rises_of (Family.Move w) = moved w _ _
  rises_of (Family.MoveResult w) = resulted w _
  rises_of Family.ConstString = pooled (slice_get code.body.strings i.index) _ (λ s. tt)
  rises_of Family.ConstClass = pooled (slice_get code.method.info.types i.index) _ (λ t. tt)
  rises_of Family.CheckCast = pooled (slice_get code.method.info.types i.index) _ (λ t. tt)
  rises_of Family.InstanceOf = pooled (slice_get code.method.info.types i.index) _ (λ t. tt)
  rises_of Family.NewInstance = pooled (slice_get code.method.info.types i.index) _ (made image _)
  rises_of Family.NewArray = pooled (slice_get code.method.info.types i.index) _ (λ t. tt)
  rises_of Family.FilledNewArray = pooled (slice_get code.method.info.types i.index) _ (λ t. tt)
  rises_of Family.FillArrayData = filled _ (payload_at code.tiles (jump at i.off))
  rises_of Family.PackedSwitch = packed at _ (payload_at code.tiles (jump at i.off))
  rises_of Family.SparseSwitch =
      sparse at _ (payload_at code.tiles (jump at i.off)) (λ ks ts e. keys_kept ks ts (payload_kept image code (payload.Sparse ks ts) code.tiles (jump at i.off) none e))
  rises_of (Family.FieldGet s) = pooled (resolved_field image (slice_get code.method.info.fields i.index)) _ (λ x. tt)
  rises_of (Family.FieldPut s) = pooled (resolved_field image (slice_get code.method.info.fields i.index)) _ (λ x. tt)
  rises_of (Family.StaticGet s) = pooled (resolved_field image (slice_get code.method.info.fields i.index)) _ (λ x. tt)
  rises_of (Family.StaticPut s) = pooled (resolved_field image (slice_get code.method.info.fields i.index)) _ (λ x. tt)
  rises_of (Family.Invoke c) = pooled (resolved_method image (slice_get code.method.info.methods i.index)) _ (λ m. tt)
  rises_of (Family.IntBinary o) = calculated o _ _ _
  rises_of (Family.IntTwo o) = calculated o _ _ _
  rises_of (Family.IntLiteral o) = calculated o _ _ _
  rises_of (Family.LongBinary o) = calculated_long o _ _ _
  rises_of (Family.LongTwo o) = calculated_long o _ _ _
  rises_of f = tt

  rises_by : (o : Option Family) → Rises (resolve_by image code at i o)
  rises_by None = tt
  rises_by (Some f) = rises_of f

-- ---- each address

pub accepted_keys_rise : AcceptedKeysRise
unfolding fetch
accepted_keys_rise image accepted n at x found = by (code_at image n) refl found
  where
    fetched : fetch image n at ≡ Some x
    fetched = found

    by : (c : Option Code) → code_at image n ≡ c → fetch_in image at c ≡ Some x → KeysRise x.op
    by None is e = absurd (cc)
    by (Some code) is e =
        let stands : StandsAt image n code.body.units at x = record { code = code; has_code = is; same_units = refl; has_at = fetched } in
        let there = fetched_is_there image n at code.body.units x stands in
        let decoded = fetched_is_decoded image n at code there.insn there.size x is fetched there.read in
        let static = is_static_body image n code is (accepted n code is).static in
        subst Rises decoded.op (rises_by image code at there.insn static.items (family_at there.insn.op))
