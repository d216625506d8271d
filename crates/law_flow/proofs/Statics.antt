-- What holds of a body that breaks no static rule: registers for its arguments, and where an instruction begins, one is fetched.
use Rattle.std.specs.Prelude.{nat_eq, nat_le, is_some}
use Rattle.std.proofs.Common.{◌≡◌, ◌≤◌, ◌⊎◌, inl, inr, ℕ, ◌+◌, List, [], ◌∷◌, ◌++◌, Bool, true, false, Option, Some, None, Result, Ok, Err, refl, sym, ap, ◌∙◌, subst}
use Rattle.std.proofs.lemmas.Bool.{leb-true, eqb-true}
use Rattle.dv_defs.specs.declared.code.Insn.{Insn}
use Rattle.dv_defs.specs.declared.names.Ty.{Ty}
use Rattle.dv_defs.specs.Images.{Image}
use Rattle.dv_defs.specs.Tiling.{Tile, Item, IsInsn, IsPayload, tiling, tiles_in, tile_at, insn_in, begins_insn}
use Rattle.dv_defs.specs.Op.{Op, Code, Resolved, code_at, op_of}
use Rattle.dv_typing.specs.Statics.{At, unless, moves_on, registers_below, op_rules, resolved_rules, insn_rules, referred, at_of, sound_at, at_tile, fetch_in, fetch, arg_words}
use Rattle.dv_typing.specs.Accepting.{Place, sorted, place_unless, item_places, tile_places, try_places, first_places, no_units, places_by, static_places}
use Rattle.dv_defs.specs.declared.faults.Rule.{Rule}
use Rattle.dv_defs.specs.declared.faults.Rule.TheVariants as rule
use Rattle.law_types.proofs.Facts.{no}
use Rattle.law_flow.specs.Clean.{IsFetched}
use Rattle.law_flow.proofs.NoPlaces.{none_left, none_right, none_sorted, no_rules, no_place}
use Rattle.law_flow.proofs.MethodCode.{code_is, method_id}

-- ---- a body

-- a body that breaks no static rule
pub record IsStatic (image : Image) (code : Code) : Type 0 where
  pub tiled : tiling code.body.units ≡ Ok code.tiles
  pub first : first_places image code ≡ []
  pub items : tile_places image code code.tiles ≡ []
  pub tries : try_places image code 0 code.body.tries ≡ []

-- without units there is no instruction
abbrev unless_empty : Bool → List Place → List Place
unless_empty b ps = elim b [ true ↦ record { at = 0; broken = rule.S 1 } ∷ [] | false ↦ ps ]

static_from : (image : Image) (code : Code) (r : Result (List Tile) ℕ) → tiling code.body.units ≡ r → code.tiles ≡ tiles_in r → places_by image code r ≡ [] → IsStatic image code
static_from image code (Err at) tiled t e = absurd (cc)
static_from image code (Ok ts) tiled t e = by_units (no_units code.body.units) e
  where
    by_units : (b : Bool) → unless_empty b (sorted (first_places image code ++ tile_places image code ts ++ try_places image code 0 code.body.tries)) ≡ [] → IsStatic image code
    by_units true u = absurd (cc)
    by_units false u =
        let none = none_sorted (first_places image code ++ tile_places image code ts ++ try_places image code 0 code.body.tries) u in
        let both = none_left (first_places image code ++ tile_places image code ts) (try_places image code 0 code.body.tries) none in
        record {
          tiled = tiled ∙ ap Ok (sym t);
          first = none_left (first_places image code) (tile_places image code ts) both;
          items = subst (λ (x : List Tile). tile_places image code x ≡ []) (sym t) (none_right (first_places image code) (tile_places image code ts) both);
          tries = none_right (first_places image code ++ tile_places image code ts) (try_places image code 0 code.body.tries) none;
        }

pub is_static_body : (image : Image) (n : ℕ) (code : Code) → code_at image n ≡ Some code → static_places image code ≡ [] → IsStatic image code
unfolding static_places
is_static_body image n code h e = static_from image code (tiling code.body.units) refl (code_is image n code h).tiles e

-- the first instruction stands at 0
pub has_start : (image : Image) (code : Code) → IsStatic image code → begins_insn code.tiles 0 ≡ true
has_start image code s = no_place (begins_insn code.tiles 0) 0 (rule.S 3) (none_left (place_unless (begins_insn code.tiles 0) 0 (rule.S 3)) (place_unless (nat_le (arg_words code.method) code.body.registers) 0 (rule.S 11)) s.first)

-- the arguments have registers
pub has_room : (image : Image) (code : Code) → IsStatic image code → arg_words code.method ≤ code.body.registers
has_room image code s = leb-true (arg_words code.method) code.body.registers (no_place (nat_le (arg_words code.method) code.body.registers) 0 (rule.S 11) (none_right (place_unless (begins_insn code.tiles 0) 0 (rule.S 3)) (place_unless (nat_le (arg_words code.method) code.body.registers) 0 (rule.S 11)) s.first))

-- ---- an instruction

tile_is : (t : Tile) (ts : List Tile) (at : ℕ) (u : Tile) (b : Bool) → nat_eq t.at at ≡ b → elim b [ true ↦ Some t | false ↦ tile_at ts at ] ≡ Some u → ((t ≡ u) × (t.at ≡ at)) ⊎ (tile_at ts at ≡ Some u)
tile_is t ts at u true same e = inl (cc, eqb-true t.at at same)
tile_is t ts at u false same e = inr e

-- what breaks no rule, at its own address
abbrev IsFineTile : Image → Code → ℕ → Tile → Type 0
IsFineTile image code at u = (u.at ≡ at) × (item_places image code u.at u.item ≡ [])

tile_fine : (image : Image) (code : Code) (ts : List Tile) (at : ℕ) (u : Tile) → tile_places image code ts ≡ [] → tile_at ts at ≡ Some u → IsFineTile image code at u
tile_fine image code [] at u e h = absurd (cc)
tile_fine image code (t ∷ ts) at u e h = elim (tile_is t ts at u (nat_eq t.at at) refl h) [
  | inl same ↦ subst (λ (x : Tile). IsFineTile image code at x) same.0 (same.1, none_left (item_places image code t.at t.item) (tile_places image code ts) e)
  | inr later ↦ tile_fine image code ts at u (none_right (item_places image code t.at t.item) (tile_places image code ts) e) later
]

item_insn : (item : Item) → is_some (insn_in item) ≡ true → (i : Insn) × (item ≡ IsInsn i)
item_insn (IsInsn i) e = (i, refl)
item_insn (IsPayload p) e = no e

tile_insn : (o : Option Tile) → is_some (elim o [ None ↦ None | Some t ↦ insn_in t.item ]) ≡ true → (t : Tile) × (i : Insn) × (o ≡ Some t) × (t.item ≡ IsInsn i)
tile_insn None e = no e
tile_insn (Some t) e = let (i, is) = item_insn t.item e in (t, i, refl, is)

resolved_is : (image : Image) (code : Code) (t : Option Ty) (r : Resolved) → resolved_rules image code t r ≡ [] → (op : Op) × (r ≡ Ok op)
resolved_is image code t (Err rule) u = absurd (cc)
resolved_is image code t (Ok op) u = (op, refl)

-- what an instruction without a broken rule is
record IsSound (image : Image) (code : Code) (at next : ℕ) (i : Insn) : Type 0 where
  op : Op
  is_op : op_of image code at i ≡ Ok op
  found : sound_at image code at next i ≡ Some (record { op = op; next = next })

sound_is : (image : Image) (code : Code) (at next : ℕ) (i : Insn) → insn_rules image code at i ≡ [] → IsSound image code at next i
sound_is image code at next i e =
    let (op, is) = resolved_is image code (referred code i) (op_of image code at i) (none_right (unless (moves_on i) (rule.S 5) ++ unless (registers_below code.body.registers i) (rule.S 11)) (resolved_rules image code (referred code i) (op_of image code at i)) e) in
    record {
      op = op;
      is_op = is;
      found = ap (λ (rules : List Rule). elim rules as (λ w. Option At) [ [] ↦ at_of next (op_of image code at i) | r ∷ rs ↦ None ]) e ∙ ap (at_of next) is;
    }

-- where an instruction begins, one is fetched
pub fetched_at : (image : Image) (code : Code) → code_at image code.method.id ≡ Some code → IsStatic image code → (at : ℕ) → begins_insn code.tiles at ≡ true → (x : At) × IsFetched image code at x
unfolding fetch
fetched_at image code has s at begins =
    let (t, i, there, is) = tile_insn (tile_at code.tiles at) begins in
    let (place, fine) = tile_fine image code code.tiles at t s.items there in
    let own : insn_rules image code t.at i ≡ [] = no_rules t.at (insn_rules image code t.at i) (subst (λ (item : Item). item_places image code t.at item ≡ []) is fine) in
    let sound = sound_is image code t.at (t.at + t.size) i own in
    let x : At = record { op = sound.op; next = t.at + t.size } in
    let by_item : elim (insn_in t.item) [ None ↦ None | Some i ↦ sound_at image code t.at (t.at + t.size) i ] ≡ Some x =
    ap (λ (item : Item). elim (insn_in item) as (λ w. Option At) [ None ↦ None | Some i ↦ sound_at image code t.at (t.at + t.size) i ]) is ∙ sound.found in (
      x,
      record {
        tile = t;
        there = there;
        insn = i;
        is_insn = is;
        keeps_rules = subst (λ (k : ℕ). insn_rules image code k i ≡ []) place own;
        op = subst (λ (k : ℕ). op_of image code k i ≡ Ok sound.op) place sound.is_op;
        next = ap (λ (k : ℕ). k + t.size) place;
        fetched = ap (λ (o : Option Code). fetch_in image at o) has ∙ (ap (at_tile image code) there ∙ by_item);
      },
    )

-- there is an operation
abbrev pub IsThere : Image → ℕ → ℕ → Type 0
IsThere image n to = (y : At) × (fetch image n to ≡ Some y)

-- the body has its method's number
pub own_number : (image : Image) (n : ℕ) (code : Code) → code_at image n ≡ Some code → code.method.id ≡ n
own_number image n code has = method_id image n code.method (code_is image n code has).method

pub own_code : (image : Image) (n : ℕ) (code : Code) → code_at image n ≡ Some code → code_at image code.method.id ≡ Some code
own_code image n code has = subst (λ (k : ℕ). code_at image k ≡ Some code) (sym (own_number image n code has)) has

pub there_at : (image : Image) (n : ℕ) (code : Code) → code_at image n ≡ Some code → IsStatic image code → (to : ℕ) → begins_insn code.tiles to ≡ true → IsThere image n to
there_at image n code has s to e =
    let (x, is) = fetched_at image code (own_code image n code has) s to e in
    (x, subst (λ (k : ℕ). fetch image k to ≡ Some x) (own_number image n code has) is.fetched)

-- ---- what is fetched

insn_begins : (image : Image) (code : Code) (at next : ℕ) (item : Item) (x : At) → elim (insn_in item) [ None ↦ None | Some i ↦ sound_at image code at next i ] ≡ Some x → is_some (insn_in item) ≡ true
insn_begins image code at next (IsInsn i) x e = refl
insn_begins image code at next (IsPayload p) x e = absurd (cc)

tile_begins : (image : Image) (code : Code) (o : Option Tile) (x : At) → at_tile image code o ≡ Some x → is_some (elim o [ None ↦ None | Some t ↦ insn_in t.item ]) ≡ true
tile_begins image code None x e = absurd (cc)
tile_begins image code (Some t) x e = insn_begins image code t.at (t.at + t.size) t.item x e

-- what is fetched is an instruction
pub fetched_begins : (image : Image) (n at : ℕ) (code : Code) (x : At) → code_at image n ≡ Some code → fetch image n at ≡ Some x → begins_insn code.tiles at ≡ true
unfolding fetch
fetched_begins image n at code x has e = tile_begins image code (tile_at code.tiles at) x (sym (ap (λ (o : Option Code). fetch_in image at o) has) ∙ e)

-- an operation breaks no rule, by some type that it names
abbrev pub KeepsRules : Image → Code → Op → Type 0
KeepsRules image code op = (r : Option Ty) × (op_rules image code r op ≡ [])

op_fine : (image : Image) (code : Code) (next : ℕ) (t : Option Ty) (r : Resolved) (x : At) → resolved_rules image code t r ≡ [] → at_of next r ≡ Some x → KeepsRules image code x.op
op_fine image code next t (Err rule) x e h = absurd (cc)
op_fine image code next t (Ok op) x e h =
    let made : At = record { op = op; next = next } in
    let same : made ≡ x = cc in
    (t, subst (λ (y : At). op_rules image code t y.op ≡ []) same e)

insn_fine : (image : Image) (code : Code) (at next : ℕ) (i : Insn) (x : At) (rules : List Rule) → insn_rules image code at i ≡ rules → elim rules [ [] ↦ at_of next (op_of image code at i) | r ∷ rs ↦ None ] ≡ Some x → KeepsRules image code x.op
insn_fine image code at next i x [] e h = op_fine image code next (referred code i) (op_of image code at i) x (none_right (unless (moves_on i) (rule.S 5) ++ unless (registers_below code.body.registers i) (rule.S 11)) (resolved_rules image code (referred code i) (op_of image code at i)) e) h
insn_fine image code at next i x (r ∷ rs) e h = absurd (cc)

item_fine : (image : Image) (code : Code) (at next : ℕ) (item : Item) (x : At) → elim (insn_in item) [ None ↦ None | Some i ↦ sound_at image code at next i ] ≡ Some x → KeepsRules image code x.op
item_fine image code at next (IsInsn i) x e = insn_fine image code at next i x (insn_rules image code at i) refl e
item_fine image code at next (IsPayload p) x e = absurd (cc)

tiled_fine : (image : Image) (code : Code) (o : Option Tile) (x : At) → at_tile image code o ≡ Some x → KeepsRules image code x.op
tiled_fine image code None x e = absurd (cc)
tiled_fine image code (Some t) x e = item_fine image code t.at (t.at + t.size) t.item x e

-- and breaks no static rule
pub fetched_rules : (image : Image) (n at : ℕ) (code : Code) (x : At) → code_at image n ≡ Some code → fetch image n at ≡ Some x → KeepsRules image code x.op
unfolding fetch
fetched_rules image n at code x has e = tiled_fine image code (tile_at code.tiles at) x (sym (ap (λ (o : Option Code). fetch_in image at o) has) ∙ e)
