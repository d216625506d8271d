-- An opcode with a name is one of the table.
use Rattle.std.proofs.Common.{◌≡◌, ℕ, ◌==◌, Bool, true, false, List, [], ◌∷◌, map, Option, Some, None, refl}
use Rattle.std.specs.Prelude.{bytes_eq, drop, find, is_some, option_map, IsSome, if◌then◌else◌}
use Rattle.std.proofs.lemmas.Bool.{cond_both, eq-eqb}
use Rattle.dv_names.specs.Descriptors.{is_name}
use Rattle.dv_optable.specs.Table.{Entry, entry_at, format_at, opcode_in, opcode_named, table}
use Rattle.dv_coderead.specs.declared.head.Head.TheVariants as head
use Rattle.dv_coderead.specs.Heads.{first_word, head_of, insn_head, is_float_name, word_head}
use Rattle.dv_coderead.specs.Pieces.{Piece, AWord, AMark, AString, ACharacter}
use Rattle.dv_coderead.specs.Words.{begins_with}
use Rattle.dv_coderead.specs.BodyLines.{IsHead}

-- the first row of an opcode
abbrev row_in : List Entry → ℕ → Option Entry
row_in es op = find (λ e. e.opcode == op) es

row_here : (e : Entry) (es : List Entry) (op : ℕ) → (e.opcode == op) ≡ true → is_some (row_in (e ∷ es) op) ≡ true
row_here e es op is = rw is refl

row_behind : (e : Entry) (es : List Entry) (op : ℕ) → is_some (row_in es op) ≡ true → is_some (row_in (e ∷ es) op) ≡ true
row_behind e es op is = cond_both (e.opcode == op) (Some e) (row_in es op) (λ o. is_some o ≡ true) (λ here. refl) (λ other. is)

found_by : (t : Bool) (e : Entry) (es : List Entry) (name : List ℕ) (op : ℕ) (rest : Option ℕ)
    → (if t then Some e.opcode else rest) ≡ Some op → (rest ≡ Some op → is_some (row_in es op) ≡ true) → is_some (row_in (e ∷ es) op) ≡ true
found_by true e es name op rest is behind = let same : e.opcode ≡ op = cc in row_here e es op (eq-eqb _ _ same)
found_by false e es name op rest is behind = row_behind e es op (behind is)

-- an opcode that is found by its name in a table has a row there
named_in : (es : List Entry) (name : List ℕ) (op : ℕ) → opcode_in (map (λ e. (e.name, e.opcode)) es) name ≡ Some op → is_some (row_in es op) ≡ true
named_in [] name op is = absurd (cc)
named_in (e ∷ es) name op is = found_by (bytes_eq e.name name) e es name op (opcode_in (map (λ r. (r.name, r.opcode)) es) name) is (named_in es name op)

has_format : (o : Option Entry) → is_some o ≡ true → IsSome (option_map (λ e. e.format) o)
has_format None is = is
has_format (Some e) is = refl

-- and so a format
named : (name : List ℕ) (op : ℕ) → opcode_named name ≡ Some op → IsSome (format_at op)
unfolding opcode_named format_at entry_at
named name op is = has_format _ (named_in table name op is)

-- ---- heads

insn_named : (w : List ℕ) (o : Option ℕ) → opcode_named w ≡ o → IsHead (insn_head o w)
insn_named w None is = cond_both (is_float_name w) head.Float head.Other IsHead (λ float. tt) (λ other. tt)
insn_named w (Some op) is = named w op is

word_named : (w : List ℕ) (second : Option (List ℕ)) → IsHead (word_head w second)
word_named w second =
    cond_both (begins_with 46 w) _ _ IsHead (λ dot. tt) (λ no_dot. cond_both (begins_with 58 w) _ _ IsHead (λ colon. cond_both (is_name (drop 1 w)) head.Label head.Other IsHead (λ named. tt) (λ other. tt)) (λ no_colon. insn_named w (opcode_named w) refl))

-- the head of a line tells opcodes of the table
pub head_named : (ps : List Piece) → IsHead (head_of ps)
unfolding head_of
head_named [] = tt
head_named (AWord w ∷ ps) = word_named w (first_word ps)
head_named (AMark b ∷ ps) = tt
head_named (AString units ∷ ps) = tt
head_named (ACharacter unit ∷ ps) = tt
