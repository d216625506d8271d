-- Handlers and try entries, one after another.
use Rattle.std.proofs.Common.{◌≡◌, ℕ, ◌+◌, ◌<◌, Bool, true, false, not, ◌&&◌, List, [], ◌∷◌, ◌++◌, length, map, drop, get_or, Option, Some, None, is_some, find, slice_get, nat_le, nat_lt, refl, ap, sym, ◌∙◌, add-one, arith, drop-cons, append_assoc}
use Rattle.std.specs.Prelude.{option_and_then}
use Rattle.dv_defs.specs.declared.code.Body.{Body}
use Rattle.dv_defs.specs.declared.code.Try.{Try}
use Rattle.dv_defs.specs.declared.code.Handler.{Handler}
use Rattle.dv_typing.specs.Flow.{Catcher, catchers, caught_as, handlers_of}
use Rattle.dv_rules.specs.declared.flow.Edge.{Edge}
use Rattle.dv_rules.specs.Edges.{handler_edge}

-- the edge to a handler
abbrev pub edge_by : Body → Handler → Edge
edge_by b h = record { to = h.at; handler = Some (caught_as (option_and_then (slice_get b.types) h.kind)) }

first_all : (b : Body) (k : Option ℕ) (at : ℕ) (hs : List Handler) → is_some k ≡ false →
    map handler_edge (catchers b (record { kind = k; at = at } ∷ hs)) ≡ edge_by b (record { kind = k; at = at }) ∷ []
first_all b None at hs e = refl
first_all b (Some k) at hs e = absurd (cc)

first_typed : (b : Body) (k : Option ℕ) (at : ℕ) (hs : List Handler) → is_some k ≡ true →
    map handler_edge (catchers b (record { kind = k; at = at } ∷ hs)) ≡ edge_by b (record { kind = k; at = at }) ∷ map handler_edge (catchers b hs)
first_typed b None at hs e = absurd (cc)
first_typed b (Some k) at hs e = refl

turned : (b none : Bool) → none ≡ not b → b ≡ not none
turned true none e = sym (ap not e)
turned false none e = sym (ap not e)

here : (hs : List Handler) (i : ℕ) (d : Handler) → i < length hs → drop i hs ≡ get_or hs i d ∷ drop (i + 1) hs
here hs i d h = rw (add-one, drop-cons hs i d) refl

-- the first handler that catches all is the last one
pub last_caught : (b : Body) (hs : List Handler) (i : ℕ) (d : Handler) (none : Bool) (olds edges : List Edge) → i < length hs →
    none ≡ not (is_some (get_or hs i d).kind) → none ≡ true →
    olds ≡ edges ++ map handler_edge (catchers b (drop i hs)) → edges ++ edge_by b (get_or hs i d) ∷ [] ≡ olds
last_caught b hs i d none olds edges h k e kept =
    let all = first_all b (get_or hs i d).kind (get_or hs i d).at (drop (i + 1) hs) (turned _ none k ∙ ap not e) in
    sym (kept ∙ ap (λ xs. edges ++ xs) (ap (λ xs. map handler_edge (catchers b xs)) (here hs i d h) ∙ all))

-- another has more after it
pub more_caught : (b : Body) (hs : List Handler) (i : ℕ) (d : Handler) (none : Bool) (olds edges : List Edge) → i < length hs →
    none ≡ not (is_some (get_or hs i d).kind) → none ≡ false →
    olds ≡ edges ++ map handler_edge (catchers b (drop i hs)) →
    olds ≡ (edges ++ edge_by b (get_or hs i d) ∷ []) ++ map handler_edge (catchers b (drop (i + 1) hs))
more_caught b hs i d none olds edges h k e kept =
    let typed = first_typed b (get_or hs i d).kind (get_or hs i d).at (drop (i + 1) hs) (turned _ none k ∙ ap not e) in
    kept ∙
    (ap (λ xs. edges ++ xs) (ap (λ xs. map handler_edge (catchers b xs)) (here hs i d h) ∙ typed) ∙
    sym (append_assoc edges (edge_by b (get_or hs i d) ∷ []) (map handler_edge (catchers b (drop (i + 1) hs)))))

abbrev covers : Try → ℕ → Bool
covers t at = nat_le t.start at && nat_lt at t.end

abbrev caught_by : Body → Option Try → List Catcher
caught_by b None = []
caught_by b (Some t) = catchers b t.handlers

abbrev found_if : Bool → Try → Option Try → Option Try
found_if c t o = elim c [ true ↦ Some t | false ↦ o ]

found : (b : Body) (t : Try) (ts : List Try) (at : ℕ) (c : Bool) → covers t at ≡ c → handlers_of b ts at ≡ caught_by b (find (λ t. covers t at) ts) →
    handlers_of b (t ∷ ts) at ≡ caught_by b (find (λ t. covers t at) (t ∷ ts))
found b t ts at true e h = grind (arith, e)
found b t ts at false e h = grind (arith, e, h)

-- the handlers of an address are those of the first entry that covers it
pub by_covering : (b : Body) (ts : List Try) (at : ℕ) → handlers_of b ts at ≡ caught_by b (find (λ t. covers t at) ts)
by_covering b [] at = refl
by_covering b (t ∷ ts) at = found b t ts at (covers t at) refl (by_covering b ts at)

pub covered_by : (b : Body) (ts : List Try) (at : ℕ) (t : Try) → find (λ t. covers t at) ts ≡ Some t → handlers_of b ts at ≡ catchers b t.handlers
covered_by b ts at t e = by_covering b ts at ∙ ap (caught_by b) e

pub covered_by_none : (b : Body) (ts : List Try) (at : ℕ) → find (λ t. covers t at) ts ≡ None → handlers_of b ts at ≡ []
covered_by_none b ts at e = by_covering b ts at ∙ ap (caught_by b) e
