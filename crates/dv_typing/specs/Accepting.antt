-- The faults of a method and of an image, and acceptance.
use Rattle.std.specs.Prelude.{◌≡◌, ℕ, suc, ◌%◌, Bool, true, false, ◌&&◌, ◌||◌, List, [], ◌∷◌, ◌++◌, length, map, ℤ, pos, ◌+ℤ◌, Option, Some, None, Result, Ok, Err, slice_get, nat_eq, nat_lt, nat_le, int_lt, if◌then◌else◌}
use Rattle.dv_defs.specs.declared.names.Ty.{Ty}
use Rattle.dv_defs.specs.declared.code.Try.{Try}
use Rattle.dv_defs.specs.declared.code.Handler.{Handler}
use Rattle.dv_defs.specs.declared.code.Payload.{Payload}
use Rattle.dv_defs.specs.declared.code.Payload.TheVariants as payload
use Rattle.dv_defs.specs.declared.faults.Rule.{Rule}
use Rattle.dv_defs.specs.declared.faults.Rule.TheVariants as rule
use Rattle.dv_defs.specs.declared.faults.Fault.{Fault}
use Rattle.dv_defs.specs.Images.{Image}
use Rattle.dv_defs.specs.declared.image.MethodInfo.{MethodInfo}
use Rattle.dv_typing.specs.declared.typing.RegState.{RegState}
use Rattle.dv_defs.specs.Names.{throwable_name}
use Rattle.dv_defs.specs.Types.{of_class}
use Rattle.dv_defs.specs.Order.{sub}
use Rattle.dv_defs.specs.Formats.{is_float}
use Rattle.dv_defs.specs.Tiling.{Tile, Item, IsInsn, IsPayload, tiling, begins_insn, begins_item}
use Rattle.dv_defs.specs.Op.{Code, code_at}
use Rattle.dv_typing.specs.Statics.{At, fetch, unless, insn_rules, arg_words}
use Rattle.dv_typing.specs.Demands.{Demand, ok}
use Rattle.dv_typing.specs.Flow.{Typing, IsTyping, IsLeast}

-- ---- the static faults of a method

-- an address with a rule that is broken there
pub record Place : Type 0 where
  pub at : ℕ
  pub broken : Rule

-- the rules in their order: S1, S2 .. and then V1, V2 ..
abbrev pub is_rule_before : Rule → Rule → Bool
is_rule_before (rule.S m) (rule.S n) = nat_lt m n
is_rule_before (rule.S m) (rule.V n) = true
is_rule_before (rule.V m) (rule.S n) = false
is_rule_before (rule.V m) (rule.V n) = nat_lt m n

abbrev pub is_before : Place → Place → Bool
is_before p q = nat_lt p.at q.at || (nat_eq p.at q.at && is_rule_before p.broken q.broken)

-- at its place, where it isn't there yet
abbrev pub inserted : Place → List Place → List Place
inserted p [] = p ∷ []
inserted p (q ∷ qs) =
    elim (is_before p q) [
      | true ↦ p ∷ q ∷ qs
      | false ↦ elim (is_before q p) [ true ↦ q ∷ inserted p qs | false ↦ q ∷ qs ]
    ]

abbrev pub sorted : List Place → List Place
sorted [] = []
sorted (p ∷ ps) = inserted p (sorted ps)

abbrev pub places : ℕ → List Rule → List Place
places at rules = map (λ r. record { at = at; broken = r }) rules

abbrev pub place_unless : Bool → ℕ → Rule → List Place
place_unless good at r = places at (unless good r)

abbrev pub is_even : ℕ → Bool
is_even n = nat_eq (n % 2) 0

-- each is below the next
abbrev pub rises : List ℤ → Bool
rises [] = true
rises (x ∷ xs) = elim xs [ [] ↦ true | y ∷ ys ↦ int_lt x y && rises xs ]

-- S7, S9 and S10
abbrev pub payload_places : ℕ → Payload → List Place
payload_places at (payload.Packed first ts) =
    place_unless (is_even at) at (rule.S 7) ++
    place_unless (nat_eq (length ts) 0 || int_lt (first +ℤ pos (length ts)) (pos 2147483649)) at (rule.S 10)
payload_places at (payload.Sparse keys ts) = place_unless (is_even at) at (rule.S 7) ++ place_unless (rises keys) at (rule.S 9)
payload_places at (payload.Data w bs) = place_unless (is_even at) at (rule.S 7)

abbrev pub item_places : Image → Code → ℕ → Item → List Place
item_places image code at (IsInsn i) = places at (insn_rules image code at i)
item_places image code at (IsPayload p) = payload_places at p

abbrev pub tile_places : Image → Code → List Tile → List Place
tile_places image code [] = []
tile_places image code (t ∷ ts) = item_places image code t.at t.item ++ tile_places image code ts

abbrev pub is_handler_type : Image → Option Ty → Bool
is_handler_type image None = false
is_handler_type image (Some t) = sub image t (of_class throwable_name)

-- S18: handlers stand at instructions, catch what is under Throwable, and a catch-all is last
abbrev pub handlers_good : Image → Code → List Handler → Bool
handlers_good image code [] = true
handlers_good image code (h ∷ hs) =
    begins_insn code.tiles h.at &&
    elim h.kind [ None ↦ nat_eq (length hs) 0 | Some k ↦ is_handler_type image (slice_get code.body.types k) ] &&
    handlers_good image code hs

-- S17 and S18, after an entry that ends at an address
abbrev pub try_places : Image → Code → ℕ → List Try → List Place
try_places image code before [] = []
try_places image code before (t ∷ ts) =
    place_unless
    (begins_insn code.tiles t.start && nat_lt t.start t.end &&
    (begins_item code.tiles t.end || nat_eq t.end (length code.body.units)) && nat_le before t.start)
    t.start (rule.S 17) ++
    place_unless (nat_lt 0 (length t.handlers) && handlers_good image code t.handlers) t.start (rule.S 18) ++
    try_places image code t.end ts

-- S3 and the second part of S11
abbrev pub first_places : Image → Code → List Place
first_places image code =
    place_unless (begins_insn code.tiles 0) 0 (rule.S 3) ++
    place_unless (nat_le (arg_words code.method) code.body.registers) 0 (rule.S 11)

-- at the first address at which no item begins: S2 where a float's opcode stands there, else S1
abbrev pub rule_of_unit : Option ℕ → Rule
rule_of_unit None = rule.S 1
rule_of_unit (Some u) = if is_float (u % 256) then rule.S 2 else rule.S 1

abbrev pub rule_at : List ℕ → ℕ → Rule
rule_at us at = rule_of_unit (slice_get us at)

abbrev pub no_units : List ℕ → Bool
no_units [] = true
no_units (u ∷ us) = false

abbrev pub places_by : Image → Code → Result (List Tile) ℕ → List Place
places_by image code (Err at) = record { at = at; broken = rule_at code.body.units at } ∷ []
places_by image code (Ok ts) =
    elim (no_units code.body.units) [
      | true ↦ record { at = 0; broken = rule.S 1 } ∷ []
      | false ↦ sorted (first_places image code ++ tile_places image code ts ++ try_places image code 0 code.body.tries)
    ]

-- by address, then by rule, each once; where the units aren't tiled, that alone
unfoldable pub static_places : Image → Code → List Place
static_places image code = places_by image code (tiling code.body.units)

-- ---- faults and acceptance

abbrev pub static_fault : ℕ → Place → Fault
static_fault n p = record { method = record { 0 = n }; address = p.at; rule = p.broken }

abbrev pub demand_at : Image → Code → Option At → Option RegState → Demand
demand_at image code (Some x) (Some s) = ok image code.method x s
demand_at image code x s = None

abbrev pub fault_at : ℕ → ℕ → Demand → List Fault
fault_at n at None = []
fault_at n at (Some r) = record { method = record { 0 = n }; address = at; rule = r } ∷ []

-- by a least assignment, at each item in order
abbrev pub typing_faults : Image → Code → Typing → List Tile → List Fault
typing_faults image code typing [] = []
typing_faults image code typing (t ∷ ts) =
    fault_at code.method.id t.at (demand_at image code (fetch image code.method.id t.at) (typing t.at)) ++
    typing_faults image code typing ts

abbrev pub FaultsBy : Image → Code → List Place → List Fault → Type 0
FaultsBy image code (p ∷ ps) fs = fs ≡ map (static_fault code.method.id) (p ∷ ps)
FaultsBy image code [] fs = (typing : Typing) × IsLeast image code typing × (fs ≡ typing_faults image code typing code.tiles)

-- a method's faults: its static ones, else those by the least assignment
abbrev pub AreFaults : Image → Code → List Fault → Type 0
AreFaults image code fs = FaultsBy image code (static_places image code) fs

pub record IsAcceptedMethod (image : Image) (code : Code) : Type 0 where
  pub static : static_places image code ≡ []
  pub typing : Typing
  pub is_typing : IsTyping image code typing

-- no method with a body breaks a static rule, and each has a typing
abbrev pub Accepts : Image → Type 0
Accepts image = (n : ℕ) (code : Code) → code_at image n ≡ Some code → IsAcceptedMethod image code

-- a method without a body has none
abbrev pub FaultsOf : Image → Option Code → List Fault → Type 0
FaultsOf image None fs = fs ≡ []
FaultsOf image (Some code) fs = AreFaults image code fs

-- the faults of the methods from an id on, in order
abbrev pub AreFaultsFrom : Image → List MethodInfo → ℕ → List Fault → Type 0
AreFaultsFrom image [] n fs = fs ≡ []
AreFaultsFrom image (i ∷ is) n fs =
    (own : List Fault) × (rest : List Fault) × FaultsOf image (code_at image n) own ×
    AreFaultsFrom image is (suc n) rest × (fs ≡ own ++ rest)

-- an image's faults
abbrev pub AreImageFaults : Image → List Fault → Type 0
AreImageFaults image fs = AreFaultsFrom image image.methods 0 fs
