-- What the lines of a text say, outside methods line by line, and method by method.
use Rattle.std.specs.Prelude.{◌≡◌, ℕ, ◌+◌, ◌≤◌, ◌<◌, Bool, true, false, List, [], ◌∷◌, ◌++◌, length, slice_range, Option, Some, None, unwrap_or, Result, Ok, Err, MatchResult, nat_lt, if◌then◌else◌}
use Rattle.dv_defs.specs.declared.faults.LineKind.TheVariants as kind
use Rattle.dv_defs.specs.declared.faults.LineError.{LineError}
use Rattle.dv_defs.specs.declared.faults.LineError.TheVariants as error
use Rattle.dv_lex.specs.declared.line.Line.{Line}
use Rattle.dv_lex.specs.declared.line.Stop.{Stop}
use Rattle.dv_coderead.specs.declared.head.Directive.TheVariants as directive
use Rattle.dv_coderead.specs.declared.head.Head.{Head}
use Rattle.dv_coderead.specs.declared.head.Head.TheVariants as head
use Rattle.dv_coderead.specs.Giving.{◌>>>◌, on_line, Stops}
use Rattle.dv_coderead.specs.Operands.{after_first, ended}
use Rattle.dv_coderead.specs.Heads.{head_of}
use Rattle.dv_coderead.specs.Kept.{TextLine, kept, kept_from, line_at, open_behind, open_from, text_lines}
use Rattle.dv_coderead.specs.Bodies.{number_behind}
use Rattle.dv_classread.specs.declared.class_line.Signature.{Signature}
use Rattle.dv_classread.specs.declared.class_line.Standing.{Standing}
use Rattle.dv_classread.specs.declared.class_line.ClassLine.{ClassLine}
use Rattle.dv_classread.specs.declared.class_line.ClassLine.TheVariants as line
use Rattle.dv_classread.specs.declared.method.MethodEnd.{MethodEnd}
use Rattle.dv_classread.specs.declared.method.MethodEnd.TheVariants as end_at
use Rattle.dv_classread.specs.declared.program.BodyDraft.{BodyDraft}
use Rattle.dv_classread.specs.declared.program.MethodDraft.{MethodDraft}
use Rattle.dv_classread.specs.ClassLines.{class_line, stands_next, lacks_super}
use Rattle.dv_classread.specs.Methods.{method_body}

-- what a line of a class says, or a whole method
pub data Told : Type 0 where
  Says : ClassLine → Told
  Method : MethodDraft → Told

abbrev pub and_told : Told → Result (List Told) Stop → Result (List Told) Stop
and_told t (Ok ts) = Ok (t ∷ ts)
and_told t (Err e) = Err e

-- ---- methods that end, and methods that don't

-- the line that ends a method, and lines that leave it unfinished
abbrev pub ends_method : Head → Bool
ends_method (head.Directive directive.EndMethod) = true
ends_method h = false

abbrev pub leaves_method : Head → Bool
leaves_method (head.Directive directive.Method) = true
leaves_method (head.Directive directive.Class) = true
leaves_method (head.Directive directive.Schedule) = true
leaves_method h = false

abbrev pub missing_at : ℕ → Stop
missing_at n = record { line = n; kind = kind.Missing }

-- the earlier of a fault and the bad line that was read, if there is one
abbrev pub first_bad : {A : Type 0} → Stop → Result A Stop → Stop
first_bad e (Ok x) = e
first_bad e (Err f) = if nat_lt f.line e.line then f else e

-- a method that is left or cut off is bad at its first bad line, else there
abbrev pub left_at : Stop → Signature → List TextLine → Result (List Told) Stop
left_at e s ls = Err (first_bad e (method_body s e.line ls))

-- ---- line by line

-- where a line stands: outside methods, or behind these lines of one
pub data Spot : Type 0 where
  InClass : Standing → Spot
  InMethod : Standing → Signature → List TextLine → Spot

-- no line is left: the text ends so, or with the fault of what is unfinished
abbrev pub ended_in : Option Stop → ℕ → Spot → Result (List Told) Stop
ended_in end past (InMethod s sig before) = left_at (unwrap_or end (missing_at past)) sig before
ended_in (Some e) past (InClass s) = Err e
ended_in None past (InClass s) = if lacks_super s then Err (missing_at past) else Ok []

abbrev pub begun : Standing → ClassLine → Spot
begun s (line.Method sig) = InMethod s sig []
begun s l = InClass (stands_next s l)

-- what a line adds: a method is added where it ends
abbrev pub added : ClassLine → Result (List Told) Stop → Result (List Told) Stop
added (line.Method sig) ts = ts
added l ts = and_told (Says l) ts

abbrev pub method_ended : Signature → List TextLine → TextLine → Result (List Told) Stop → Result (List Told) Stop
method_ended sig before l more =
    method_body sig l.number before >>> λ b.
    on_line l.number (ended (after_first (after_first l.pieces))) >>> λ nothing.
    and_told (Method (record { signature = sig; body = b })) more

-- what the lines of a text say behind such a spot, up to an end that is bad or not; past is the number of the line behind the last
unfoldable pub told_from : Option Stop → ℕ → Spot → List TextLine → Result (List Told) Stop
told_from end past spot [] = ended_in end past spot
told_from end past (InClass s) (l ∷ ls) =
    on_line l.number (class_line s l.number l.pieces) >>> λ says. added says (told_from end past (begun s says) ls)
told_from end past (InMethod s sig before) (l ∷ ls) =
    if ends_method (head_of l.pieces) then method_ended sig before l (told_from end past (InClass s) ls)
    else if leaves_method (head_of l.pieces) then left_at (missing_at l.number) sig before
    else told_from end past (InMethod s sig (before ++ l ∷ [])) ls

-- ---- what calls keep and answer

-- these lines end before the line of this number, unless there is none
abbrev pub EndsBefore : ℕ → List TextLine → Type 0
EndsBefore n [] = Unit {0}
EndsBefore n (l ∷ ls) = number_behind (l ∷ ls) ≡ n

abbrev pub as_error : Stop → LineError
as_error e = error.At e.line e.kind

-- the lines of a method that count, from one place up to another
abbrev pub kept_between : List ℕ → List Line → ℕ → ℕ → List TextLine
kept_between text ls from to = kept 0 (text_lines text (slice_range ls from to))

-- what is told from the first line of a method on, if the text has such an end
abbrev pub told_in_method : List ℕ → List Line → ℕ → Option Stop → ℕ → Standing → Signature → Result (List Told) Stop
told_in_method text ls from end past s sig = told_from end past (InMethod s sig []) (kept_from text ls from)

-- between these places no annotation is left open
abbrev pub IsClosed : List ℕ → List Line → ℕ → ℕ → Type 0
IsClosed text ls from to = open_behind 0 (text_lines text (slice_range ls from to)) ≡ 0

-- the method ends with the line at a place
pub record IsEnd (text : List ℕ) (ls : List Line) (from at : ℕ) : Type 0 where
  pub behind : from ≤ at
  pub inside : at < length ls
  pub closed : IsClosed text ls from at
  pub depth : open_from text ls from ≡ open_from text ls (at + 1)
  pub told : (end : Option Stop) (past : ℕ) (s : Standing) (sig : Signature) → told_in_method text ls from end past s sig
      ≡ method_ended sig (kept_between text ls from at) (line_at text ls at) (told_from end past (InClass s) (kept_from text ls (at + 1)))

-- the line at a place leaves the method unfinished
pub record IsLeft (text : List ℕ) (ls : List Line) (from at : ℕ) : Type 0 where
  pub behind : from ≤ at
  pub inside : at < length ls
  pub told : (end : Option Stop) (past : ℕ) (s : Standing) (sig : Signature) → told_in_method text ls from end past s sig
      ≡ left_at (missing_at (line_at text ls at).number) sig (kept_between text ls from at)

abbrev pub Ends : List ℕ → List Line → ℕ → MethodEnd → Type 0
Ends text ls from (end_at.Ended at) = IsEnd text ls from at
Ends text ls from (end_at.Left at) = IsLeft text ls from at
Ends text ls from end_at.CutOff = (end : Option Stop) (past : ℕ) (s : Standing) (sig : Signature) → told_in_method text ls from end past s sig
    ≡ ended_in end past (InMethod s sig (kept_between text ls from (length ls)))

-- from one place to the next the method is told whole
abbrev pub IsToldTo : List ℕ → List Line → ℕ → Signature → Option Stop → ℕ → Standing → MethodDraft → ℕ → Type 0
IsToldTo text ls from sig end past s m next =
    (from ≤ next) × (next ≤ length ls) × (open_from text ls from ≡ open_from text ls next)
    × (told_in_method text ls from end past s sig ≡ and_told (Method m) (told_from end past (InClass s) (kept_from text ls next)))

-- a method ends at this place; or why it is bad, where it is left unfinished
abbrev pub EndsWhole : List ℕ → List Line → ℕ → Signature → Stop → Result ℕ LineError → Type 0
EndsWhole text ls from sig fault result =
    MatchResult result (λ at. IsEnd text ls from at)
    (λ e. (end : Option Stop) (past : ℕ) (s : Standing) → unwrap_or end (missing_at past) ≡ fault → Stops e (told_in_method text ls from end past s sig))

-- A method is told whole, with the place behind it; or why it is bad. An unfinished one is told by this fault where the text ends.
abbrev pub IsWhole : List ℕ → List Line → ℕ → Signature → Stop → Result (MethodDraft × ℕ) LineError → Type 0
IsWhole text ls from sig fault result =
    (end : Option Stop) (past : ℕ) (s : Standing) → unwrap_or end (missing_at past) ≡ fault →
    MatchResult result (λ r. IsToldTo text ls from sig end past s r.0 r.1) (λ e. Stops e (told_in_method text ls from end past s sig))

-- the method of a signature and a body, with the place behind it
abbrev pub of_signature : Signature → Result (Option BodyDraft × ℕ) LineError → Result (MethodDraft × ℕ) LineError
of_signature sig (Ok r) = Ok (record { signature = sig; body = r.0 }, r.1)
of_signature sig (Err e) = Err e
