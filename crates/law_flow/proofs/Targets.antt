-- Where a body without static faults goes: branches, switches and handlers lead to its instructions.
use Rattle.std.specs.Prelude.{slice_get, nat_eq, nat_lt, nat_le, map, All, IfSome}
use Rattle.std.proofs.Common.{◌≡◌, ℕ, List, [], ◌∷◌, ◌++◌, length, Bool, true, false, ◌&&◌, ◌||◌, Option, Some, None, refl, sym, subst}
use Rattle.std.proofs.lemmas.Bool.{and_parts}
use Rattle.std.proofs.lemmas.List.Elements.{All-nil, All-cons, All-weaker}
use Rattle.dv_defs.specs.declared.code.Body.{Body}
use Rattle.dv_defs.specs.declared.code.Try.{Try}
use Rattle.dv_defs.specs.declared.code.Handler.{Handler}
use Rattle.dv_defs.specs.declared.faults.Rule.TheVariants as rule
use Rattle.dv_defs.specs.declared.names.Ty.{Ty}
use Rattle.dv_defs.specs.Images.{Image}
use Rattle.dv_defs.specs.Names.{throwable_name}
use Rattle.dv_defs.specs.Types.{of_class, is_reference}
use Rattle.dv_defs.specs.Order.{sub, extends}
use Rattle.dv_defs.specs.Tiling.{begins_insn, begins_item}
use Rattle.dv_defs.specs.Op.{Op, Goto, IfBoth, IfZero, Switch, Case, Code, code_at}
use Rattle.dv_typing.specs.Statics.{At, unless, all_lead, leads_to_insn, op_rules, fetch}
use Rattle.dv_typing.specs.Flow.{Catcher, catchers, handlers_of, handlers_in, handlers_at, jumps}
use Rattle.dv_typing.specs.Accepting.{Place, place_unless, is_handler_type, handlers_good, try_places}
use Rattle.law_types.proofs.Facts.{no}
use Rattle.law_types.proofs.Demanded.{only_rule}
use Rattle.law_types.proofs.Types.{under_reference}
use Rattle.law_flow.proofs.NoPlaces.{none_left, none_right, no_place}
use Rattle.law_flow.proofs.Statics.{IsStatic, IsThere, there_at, fetched_rules}

-- ---- targets

-- an instruction begins there
abbrev pub Begins : Code → ℕ → Type 0
Begins code to = begins_insn code.tiles to ≡ true

cases_lead : (code : Code) (cases : List Case) → all_lead code cases ≡ true → All (Begins code) (map (λ c. c.to) cases)
cases_lead code [] e = All-nil (Begins code)
cases_lead code (c ∷ cs) e =
    let p = and_parts (leads_to_insn code c.to) (all_lead code cs) e in
    All-cons (Begins code) c.to (map (λ c. c.to) cs) p.0 (cases_lead code cs p.1)

one_leads : (code : Code) (to : ℕ) → unless (leads_to_insn code to) (rule.S 4) ≡ [] → All (Begins code) (to ∷ [])
one_leads code to e = All-cons (Begins code) to [] (only_rule (leads_to_insn code to) (rule.S 4) e) (All-nil (Begins code))

jumps_by : (image : Image) (code : Code) (r : Option Ty) (op : Op) → op_rules image code r op ≡ [] → All (Begins code) (jumps op)
jumps_by image code r (Goto to) e = one_leads code to e
jumps_by image code r (IfBoth t a b to) e = one_leads code to e
jumps_by image code r (IfZero t a to) e = one_leads code to e
jumps_by image code r (Switch a cases) e = cases_lead code cases (only_rule (all_lead code cases) (rule.S 8) e)
jumps_by image code r op e = All-nil (Begins code)

-- branches and switches lead to instructions
pub jumps_begin : (image : Image) (n at : ℕ) (code : Code) (x : At) → code_at image n ≡ Some code → fetch image n at ≡ Some x → All (Begins code) (jumps x.op)
jumps_begin image n at code x has e = let (r, rules) = fetched_rules image n at code x has e in jumps_by image code r x.op rules

-- and so to operations
pub jumps_there : (image : Image) (n at : ℕ) (code : Code) (x : At) → code_at image n ≡ Some code → IsStatic image code → fetch image n at ≡ Some x → All (IsThere image n) (jumps x.op)
jumps_there image n at code x has s e = All-weaker (Begins code) (IsThere image n) (there_at image n code has s) (jumps x.op) (jumps_begin image n at code x has e)

-- ---- handlers

-- a handler leads to an instruction, and catches a reference type of the body
pub record IsCatcher (code : Code) (c : Catcher) : Type 0 where
  pub leads : begins_insn code.tiles c.to ≡ true
  pub catches : IfSome c.ty (λ t. is_reference t ≡ true)
  pub met : IfSome c.ty (λ t. (k : ℕ) × (slice_get code.body.types k ≡ Some t))

under_throwable : (image : Image) (t : Ty) → sub image t (of_class throwable_name) ≡ true → is_reference t ≡ true
unfolding sub
under_throwable image t u = under_reference image (extends image) t (of_class throwable_name) u refl

catcher_of : (image : Image) (code : Code) (to k : ℕ) (o : Option Ty) → slice_get code.body.types k ≡ o → is_handler_type image o ≡ true → begins_insn code.tiles to ≡ true → IsCatcher code (record { ty = o; to = to })
catcher_of image code to k None is e b = no e
catcher_of image code to k (Some t) is e b = record { leads = b; catches = under_throwable image t e; met = (k, is) }

abbrev with_catcher : Body → Handler → Option ℕ → List Catcher → List Catcher
with_catcher b h o cs = elim o [ None ↦ record { ty = None; to = h.at } ∷ [] | Some k ↦ record { ty = slice_get b.types k; to = h.at } ∷ cs ]

abbrev kind_good : Image → Code → Option ℕ → List Handler → Bool
kind_good image code o hs = elim o [ None ↦ nat_eq (length hs) 0 | Some k ↦ is_handler_type image (slice_get code.body.types k) ]

catcher_by : (image : Image) (code : Code) (h : Handler) (hs : List Handler) (o : Option ℕ) → begins_insn code.tiles h.at ≡ true → kind_good image code o hs ≡ true → All (IsCatcher code) (catchers code.body hs) → All (IsCatcher code) (with_catcher code.body h o (catchers code.body hs))
catcher_by image code h hs None b e more = All-cons (IsCatcher code) (record { ty = None; to = h.at }) [] (record { leads = b; catches = tt; met = tt }) (All-nil (IsCatcher code))
catcher_by image code h hs (Some k) b e more =
    All-cons (IsCatcher code) (record { ty = slice_get code.body.types k; to = h.at }) (catchers code.body hs) (catcher_of image code h.at k (slice_get code.body.types k) refl e b) more

catchers_kept : (image : Image) (code : Code) (hs : List Handler) → handlers_good image code hs ≡ true → All (IsCatcher code) (catchers code.body hs)
catchers_kept image code [] e = All-nil (IsCatcher code)
catchers_kept image code (h ∷ hs) e =
    let kinds : Bool = kind_good image code h.kind hs in
    let p = and_parts (begins_insn code.tiles h.at && kinds) (handlers_good image code hs) e in
    let q = and_parts (begins_insn code.tiles h.at) kinds p.0 in
    catcher_by image code h hs h.kind q.0 q.1 (catchers_kept image code hs p.1)

covered : (at : ℕ) (code : Code) (t : Try) (ts : List Try) (b : Bool) → All (IsCatcher code) (catchers code.body t.handlers) → All (IsCatcher code) (handlers_of code.body ts at) → All (IsCatcher code) (elim b [ true ↦ catchers code.body t.handlers | false ↦ handlers_of code.body ts at ])
covered at code t ts true here later = here
covered at code t ts false here later = later

tries_kept : (image : Image) (at before : ℕ) (code : Code) (ts : List Try) → try_places image code before ts ≡ [] → All (IsCatcher code) (handlers_of code.body ts at)
tries_kept image at before code [] e = All-nil (IsCatcher code)
tries_kept image at before code (t ∷ ts) e =
    let ranges : List Place = place_unless (begins_insn code.tiles t.start && nat_lt t.start t.end && (begins_item code.tiles t.end || nat_eq t.end (length code.body.units)) && nat_le before t.start) t.start (rule.S 17) in
    let good : Bool = nat_lt 0 (length t.handlers) && handlers_good image code t.handlers in
    let own = none_left (ranges ++ place_unless good t.start (rule.S 18)) (try_places image code t.end ts) e in
    let both = and_parts (nat_lt 0 (length t.handlers)) (handlers_good image code t.handlers) (no_place good t.start (rule.S 18) (none_right ranges (place_unless good t.start (rule.S 18)) own)) in
    covered at code t ts (nat_le t.start at && nat_lt at t.end) (catchers_kept image code t.handlers both.1)
    (tries_kept image at t.end code ts (none_right (ranges ++ place_unless good t.start (rule.S 18)) (try_places image code t.end ts) e))

-- handlers lead to instructions, and catch reference types of the body
pub handlers_kept : (image : Image) (n at : ℕ) (code : Code) → code_at image n ≡ Some code → IsStatic image code → All (IsCatcher code) (handlers_at image n at)
unfolding handlers_at
handlers_kept image n at code has s =
    let P : Option Code → Type 0 = λ o. All (IsCatcher code) (handlers_in o at) in
    subst P (sym has) (tries_kept image at 0 code code.body.tries s.tries)

abbrev pub IsCaught : Image → ℕ → Catcher → Type 0
IsCaught image n c = IsThere image n c.to

-- and so to operations
pub handlers_there : (image : Image) (n at : ℕ) (code : Code) → code_at image n ≡ Some code → IsStatic image code → All (IsCaught image n) (handlers_at image n at)
handlers_there image n at code has s =
    All-weaker (IsCatcher code) (IsCaught image n) (λ c kept. there_at image n code has s c.to kept.leads) (handlers_at image n at) (handlers_kept image n at code has s)
