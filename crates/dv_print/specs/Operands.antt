-- The name and the operands of an instruction as they are printed.
use Rattle.std.specs.Prelude.{ℕ, ◌+◌, ◌-◌, ◌&&◌, ℤ, Bool, true, false, nat_eq, nat_le, List, [], ◌∷◌, ◌++◌, map, take, slice_index, codes, decimal, Option, Some, option_map, if◌then◌else◌}
use Rattle.std.specs.Fmt.{signed_decimal}
use Rattle.std.specs.Option.{option_map_or, option_to_list}
use Rattle.std.specs.List.{join_by}
use Rattle.dv_defs.specs.declared.code.Insn.{Insn}
use Rattle.dv_defs.specs.declared.code.Regs.{Regs}
use Rattle.dv_names.specs.Descriptors.{descriptor}
use Rattle.dv_names.specs.Written.{string_text, field_text, method_text}
use Rattle.dv_optable.specs.declared.format.Format.{Format}
use Rattle.dv_optable.specs.declared.format.Format.TheVariants as format
use Rattle.dv_optable.specs.Table.{Entry, entry_at, format_at}
use Rattle.dv_draft.specs.declared.draft.Draftop.{Draftop}
use Rattle.dv_draft.specs.declared.draft.PoolRef.{PoolRef}
use Rattle.dv_draft.specs.declared.draft.PoolRef.TheVariants as pool
use Rattle.dv_print.specs.declared.formats.Form.{Form}
use Rattle.dv_print.specs.declared.formats.Form.TheVariants as form

-- whether a format has a literal
abbrev pub is_literal_format : Option Format → Bool
is_literal_format (Some format.F11n) = true
is_literal_format (Some format.F21s) = true
is_literal_format (Some format.F21h) = true
is_literal_format (Some format.F22b) = true
is_literal_format (Some format.F22s) = true
is_literal_format (Some format.F31i) = true
is_literal_format (Some format.F51l) = true
is_literal_format f = false

abbrev pub name_in : Entry → List ℕ
name_in e = e.name

-- the name of an opcode
unfoldable pub name_of : ℕ → List ℕ
name_of op = option_map_or name_in (entry_at op) []

abbrev pub register_text : ℕ → List ℕ
register_text n = 118 ∷ decimal n

abbrev pub registers_of : Regs → List ℕ
registers_of r = take r.count r.first

-- texts with a comma and a blank between
abbrev pub listed : List (List ℕ) → List ℕ
listed xs = join_by (λ x. x) (codes ", ") xs

abbrev pub braces_text : Regs → List ℕ
braces_text r = codes "{" ++ listed (map register_text (registers_of r)) ++ codes "}"

-- neighbouring registers by the first and the last of them
abbrev pub neighbours_text : ℕ → ℕ → List ℕ
neighbours_text first count =
    if nat_eq count 0 then codes "{}" else codes "{v" ++ decimal first ++ codes " .. v" ++ decimal (first + (count - 1)) ++ codes "}"

-- how the registers of an instruction stand
abbrev pub form_in : Option Format → Form
form_in (Some format.F35c) = form.Braces
form_in (Some format.F3rc) = form.Neighbours
form_in f = form.Each

unfoldable pub form_of : ℕ → Form
form_of op = form_in (format_at op)

abbrev pub register_operands : Form → Regs → List (List ℕ)
register_operands form.Each r = map register_text (registers_of r)
register_operands form.Braces r = braces_text r ∷ []
register_operands form.Neighbours r = neighbours_text (slice_index r.first 0) r.count ∷ []

-- the constants of 64 bits
abbrev pub is_wide : ℕ → Bool
is_wide op = nat_le 0x16 op && nat_le op 0x19

abbrev pub literal_text : ℕ → ℤ → List ℕ
literal_text op lit = if is_wide op then signed_decimal lit ++ codes "L" else signed_decimal lit

unfoldable pub has_literal : ℕ → Bool
has_literal op = is_literal_format (format_at op)

abbrev pub literal_operands : Insn → List (List ℕ)
literal_operands i = if has_literal i.op then literal_text i.op i.lit ∷ [] else []

abbrev pub label_text : List ℕ → List ℕ
label_text name = 58 ∷ name

abbrev pub pool_operands : PoolRef → List (List ℕ)
pool_operands pool.None = []
pool_operands (pool.Str chars) = string_text chars ∷ []
pool_operands (pool.OfType ty) = descriptor ty ∷ []
pool_operands (pool.Field field) = field_text field ∷ []
pool_operands (pool.Method method) = method_text method ∷ []

-- registers, then a literal, a label, and an entry of a pool, as the format has them
abbrev pub operands : Draftop → List (List ℕ)
operands op =
    register_operands (form_of op.insn.op) op.insn.regs ++ literal_operands op.insn ++
    option_to_list (option_map label_text op.label) ++ pool_operands op.pool

abbrev pub operands_text : List (List ℕ) → List ℕ
operands_text [] = []
operands_text (x ∷ xs) = 32 ∷ listed (x ∷ xs)

abbrev pub insn_text : Draftop → List ℕ
insn_text op = name_of op.insn.op ++ operands_text (operands op)
