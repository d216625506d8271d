-- How the operands of an instruction are written, by its format, and what they are read as.
use Rattle.std.specs.Prelude.{◌≡◌, ℕ, zero, suc, ◌+◌, ◌-◌, ◌^◌, ◌<◌, ◌≤◌, ◌&&◌, ℤ, pos, Bool, true, false, List, [], ◌∷◌, ◌++◌, codes, int_rem, bytes_eq, Option, Some, None, Result, Ok, Err, nat_lt, nat_le, ◌==◌, if◌then◌else◌}
use Rattle.std.specs.Ordering.{int_eq}
use Rattle.dv_defs.specs.declared.code.Regs.{Regs}
use Rattle.dv_defs.specs.declared.code.Insn.{Insn}
use Rattle.dv_defs.specs.declared.code.PoolKind.{PoolKind}
use Rattle.dv_defs.specs.declared.code.PoolKind.TheVariants as pool_kind
use Rattle.dv_defs.specs.declared.faults.LineKind.{LineKind}
use Rattle.dv_defs.specs.declared.faults.LineKind.TheVariants.{NumberRange, Operands}
use Rattle.dv_defs.specs.Families.{pool_at}
use Rattle.dv_defs.specs.Spelling.{few, neighbours}
use Rattle.dv_optable.specs.declared.format.Format.{Format}
use Rattle.dv_optable.specs.declared.format.Format.TheVariants as format
use Rattle.dv_optable.specs.Table.{format_at}
use Rattle.dv_draft.specs.declared.draft.Draftop.{Draftop}
use Rattle.dv_draft.specs.declared.draft.PoolRef.{PoolRef}
use Rattle.dv_draft.specs.declared.draft.PoolRef.TheVariants as pool
use Rattle.dv_coderead.specs.Giving.{◌>>=◌}
use Rattle.dv_coderead.specs.Pieces.{Piece, AWord, AMark, AString}
use Rattle.dv_coderead.specs.declared.words.Frame.{Frame}
use Rattle.dv_coderead.specs.Words.{literal_in, label_in, register_in}
use Rattle.dv_coderead.specs.References.{type_in, field_in, method_in}
use Rattle.dv_coderead.specs.declared.shape.Registers.{Registers}
use Rattle.dv_coderead.specs.declared.shape.Registers.TheVariants as registers
use Rattle.dv_coderead.specs.declared.shape.Literal.{Literal}

-- ---- what a format has

abbrev pub registers_in : Option Format → Registers
registers_in (Some format.F10x) = registers.Each 0
registers_in (Some format.F10t) = registers.Each 0
registers_in (Some format.F20t) = registers.Each 0
registers_in (Some format.F30t) = registers.Each 0
registers_in (Some format.F12x) = registers.Each 2
registers_in (Some format.F22x) = registers.Each 2
registers_in (Some format.F22b) = registers.Each 2
registers_in (Some format.F22t) = registers.Each 2
registers_in (Some format.F22s) = registers.Each 2
registers_in (Some format.F22c) = registers.Each 2
registers_in (Some format.F32x) = registers.Each 2
registers_in (Some format.F23x) = registers.Each 3
registers_in (Some format.F35c) = registers.Braces
registers_in (Some format.F3rc) = registers.Neighbours
registers_in f = registers.Each 1

-- a literal of so many bits, whose last so many are 0; const/high16 and const-wide/high16 are written with the whole value
abbrev pub literal_by : Option Format → ℕ → Option Literal
literal_by (Some format.F11n) op = Some (record { bits = 4; zeros = 0 })
literal_by (Some format.F22b) op = Some (record { bits = 8; zeros = 0 })
literal_by (Some format.F21s) op = Some (record { bits = 16; zeros = 0 })
literal_by (Some format.F22s) op = Some (record { bits = 16; zeros = 0 })
literal_by (Some format.F21h) op = if op == 0x15 then Some (record { bits = 32; zeros = 16 }) else Some (record { bits = 64; zeros = 48 })
literal_by (Some format.F31i) op = Some (record { bits = 32; zeros = 0 })
literal_by (Some format.F51l) op = Some (record { bits = 64; zeros = 0 })
literal_by f op = None

abbrev pub has_label : Option Format → Bool
has_label (Some format.F10t) = true
has_label (Some format.F20t) = true
has_label (Some format.F21t) = true
has_label (Some format.F22t) = true
has_label (Some format.F30t) = true
has_label (Some format.F31t) = true
has_label f = false

-- ---- parts of a line

-- a part, and what stands behind it
abbrev pub Part : Type 0 → Type 0
Part A = Result (A × List Piece) LineKind

abbrev pub and_behind : {A : Type 0} → List Piece → Result A LineKind → Part A
and_behind ps (Ok x) = Ok (x, ps)
and_behind ps (Err k) = Err k

-- a word of some meaning
abbrev pub word_at : {A : Type 0} → (List ℕ → Result A LineKind) → List Piece → Part A
word_at f (AWord w ∷ ps) = and_behind ps (f w)
word_at f ps = Err Operands

-- this mark
abbrev pub mark_at : ℕ → List Piece → Result (List Piece) LineKind
mark_at b (AMark c ∷ ps) = if c == b then Ok ps else Err Operands
mark_at b ps = Err Operands

abbrev pub comma_at : List Piece → Result (List Piece) LineKind
comma_at ps = mark_at 44 ps

-- nothing more
abbrev pub ended : List Piece → Result (Unit {0}) LineKind
ended [] = Ok (record {})
ended (p ∷ ps) = Err Operands

-- a whole line, that has this part alone
abbrev pub alone : {A : Type 0} → Part A → Result A LineKind
alone (Ok x) = ended x.1 >>= λ nothing. Ok x.0
alone (Err k) = Err k

-- ---- registers

abbrev pub register_at : Frame → List Piece → Part ℕ
register_at frame ps = word_at (register_in frame) ps

-- one register more, behind a comma
unfoldable pub next_register_at : Frame → List Piece → Part ℕ
next_register_at frame ps = comma_at ps >>= register_at frame

unfoldable pub one_at : Frame → List Piece → Part Regs
one_at frame ps = do
  a ← register_at frame ps
  Ok (few (a.0 ∷ []), a.1)

unfoldable pub two_at : Frame → List Piece → Part Regs
two_at frame ps = do
  a ← register_at frame ps
  b ← next_register_at frame a.1
  Ok (few (a.0 ∷ b.0 ∷ []), b.1)

unfoldable pub three_at : Frame → List Piece → Part Regs
three_at frame ps = do
  a ← register_at frame ps
  b ← next_register_at frame a.1
  c ← next_register_at frame b.1
  Ok (few (a.0 ∷ b.0 ∷ c.0 ∷ []), c.1)

abbrev pub each_at : ℕ → Frame → List Piece → Part Regs
each_at n frame ps =
    if n == 0 then Ok (few [], ps)
    else if n == 1 then one_at frame ps
    else if n == 2 then two_at frame ps
    else three_at frame ps

-- whether the closing brace is next
abbrev pub is_closed : List Piece → Bool
is_closed (AMark c ∷ ps) = c == 125
is_closed ps = false

abbrev pub after_first : List Piece → List Piece
after_first [] = []
after_first (p ∷ ps) = ps

-- what a call that looks for the closing brace answers: what stands behind it, seen by view, if it is next
abbrev pub Closes : {X : Type 0} → (X → List Piece) → Option X → List Piece → Type 0
Closes view None ps = is_closed ps ≡ false
Closes view (Some x) ps = (is_closed ps ≡ true) × (view x ≡ after_first ps)

abbrev pub with_register : ℕ → Part (List ℕ) → Part (List ℕ)
with_register r (Ok x) = Ok (r ∷ x.0, x.1)
with_register r (Err k) = Err k

-- more registers in front
abbrev pub with_front : List ℕ → Part (List ℕ) → Part (List ℕ)
with_front front (Ok x) = Ok (front ++ x.0, x.1)
with_front front (Err k) = Err k

-- whether a comma comes, or the closing brace
abbrev pub more_at : List Piece → Part Bool
more_at ps = if is_closed ps then Ok (false, after_first ps) else comma_at ps >>= λ rest. Ok (true, rest)

-- so many registers at most with commas between, up to the closing brace
unfoldable pub list_at : ℕ → Frame → List Piece → Part (List ℕ)
list_at zero frame ps = Err Operands
list_at (suc room) frame ps = do
  r ← register_at frame ps
  more ← more_at r.1
  if more.0 then with_register r.0 (list_at room frame more.1) else Ok (r.0 ∷ [], more.1)

abbrev pub few_at : Part (List ℕ) → Part Regs
few_at (Ok x) = Ok (few x.0, x.1)
few_at (Err k) = Err k

-- braces with up to five registers
unfoldable pub braces_at : Frame → List Piece → Part Regs
braces_at frame ps = do
  inside ← mark_at 123 ps
  few_at (if is_closed inside then Ok ([], after_first inside) else list_at 5 frame inside)

-- the two dots between the first and the last of neighbouring registers
abbrev pub dots_at : List Piece → Result (List Piece) LineKind
dots_at (AWord w ∷ ps) = if bytes_eq w (codes "..") then Ok ps else Err Operands
dots_at ps = Err Operands

-- from the first register to the last, at most 255
abbrev pub range_of : ℕ → ℕ → Result Regs LineKind
range_of first last = if nat_le first last && nat_lt (last - first) 255 then Ok (neighbours first (last - first + 1)) else Err Operands

unfoldable pub last_at : Frame → ℕ → List Piece → Part Regs
last_at frame first ps = do
  dots ← dots_at ps
  last ← register_at frame dots
  rest ← mark_at 125 last.1
  and_behind rest (range_of first last.0)

-- braces with no register, one, or the first and the last of neighbours
unfoldable pub neighbours_at : Frame → List Piece → Part Regs
neighbours_at frame ps = do
  inside ← mark_at 123 ps
  if is_closed inside then Ok (neighbours 0 0, after_first inside) else register_at frame inside >>= λ a.
      if is_closed a.1 then Ok (neighbours a.0 1, after_first a.1) else last_at frame a.0 a.1

abbrev pub registers_at : Registers → Frame → List Piece → Part Regs
registers_at (registers.Each n) frame ps = each_at n frame ps
registers_at registers.Braces frame ps = braces_at frame ps
registers_at registers.Neighbours frame ps = neighbours_at frame ps

-- ---- the other operands

-- a literal of 1 to 64 bits, not all of them 0
abbrev pub IsLiteral : Literal → Type 0
IsLiteral l = (1 ≤ l.bits) × (l.bits ≤ 64) × (l.zeros < 63)

-- the literal, whose last bits are 0
abbrev pub with_zeros : ℕ → ℤ → Result ℤ LineKind
with_zeros zeros z = if int_eq (int_rem z (pos (2 ^ zeros))) (pos 0) then Ok z else Err NumberRange

abbrev pub value_in : Literal → List ℕ → Result ℤ LineKind
value_in l w = literal_in l.bits w >>= with_zeros l.zeros

unfoldable pub literal_at : Option Literal → List Piece → Part ℤ
literal_at None ps = Ok (pos 0, ps)
literal_at (Some l) ps = comma_at ps >>= word_at (value_in l)

-- a comma, but before the first operand
abbrev pub next_at : Bool → List Piece → Result (List Piece) LineKind
next_at true ps = Ok ps
next_at false ps = comma_at ps

abbrev pub is_first : Registers → Bool
is_first (registers.Each n) = n == 0
is_first r = false

abbrev pub some_label : Part (List ℕ) → Part (Option (List ℕ))
some_label (Ok x) = Ok (Some x.0, x.1)
some_label (Err k) = Err k

unfoldable pub label_at : Bool → Bool → List Piece → Part (Option (List ℕ))
label_at has first ps = if has then (next_at first ps >>= λ rest. some_label (word_at label_in rest)) else Ok (None, ps)

abbrev pub as_entry : {A : Type 0} → (A → PoolRef) → Result A LineKind → Result PoolRef LineKind
as_entry f (Ok x) = Ok (f x)
as_entry f (Err k) = Err k

-- an entry of a pool
abbrev pub entry_in : PoolKind → Piece → Result PoolRef LineKind
entry_in pool_kind.Strings (AString units) = Ok (pool.Str units)
entry_in pool_kind.Types (AWord w) = as_entry pool.OfType (type_in w)
entry_in pool_kind.Fields (AWord w) = as_entry pool.Field (field_in w)
entry_in pool_kind.Methods (AWord w) = as_entry pool.Method (method_in w)
entry_in kind p = Err Operands

abbrev pub entry_of : PoolKind → List Piece → Part PoolRef
entry_of kind [] = Err Operands
entry_of kind (p ∷ ps) = and_behind ps (entry_in kind p)

unfoldable pub entry_at : Option PoolKind → List Piece → Part PoolRef
entry_at None ps = Ok (pool.None, ps)
entry_at (Some kind) ps = comma_at ps >>= entry_of kind

-- ---- an instruction

-- an instruction with what it names: a label, and an entry of a pool
abbrev pub names_in : Insn → Bool → List Piece → Result Draftop LineKind
names_in i first ps = do
  label ← label_at (has_label (format_at i.op)) first ps
  entry ← entry_at (pool_at i.op) label.1
  nothing ← ended entry.1
  Ok (record { insn = i; label = label.0; pool = entry.0 })

-- the instruction of an opcode with these operands: registers, then a literal, a label, and an entry of a pool
unfoldable pub operands_in : Frame → ℕ → List Piece → Result Draftop LineKind
operands_in frame op ps = do
  regs ← registers_at (registers_in (format_at op)) frame ps
  lit ← literal_at (literal_by (format_at op) op) regs.1
  label ← label_at (has_label (format_at op)) (is_first (registers_in (format_at op))) lit.1
  entry ← entry_at (pool_at op) label.1
  nothing ← ended entry.1
  Ok (record { insn = record { op = op; regs = regs.0; lit = lit.0; off = pos 0; index = 0 }; label = label.0; pool = entry.0 })
