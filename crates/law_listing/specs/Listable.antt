-- What can be printed so that it is read again: names, types, numbers and forms are those that reading gives.
use Rattle.std.specs.Prelude.{◌≡◌, ℕ, ◌+◌, ◌≤◌, ◌<◌, ◌^◌, true, IsTrue, IsUtf8, pos, List, length, slice_index, All, Option, Some, None}
use Rattle.dv_defs.specs.declared.names.Ty.{Ty}
use Rattle.dv_defs.specs.declared.names.FieldRef.{FieldRef}
use Rattle.dv_defs.specs.declared.names.MethodRef.{MethodRef}
use Rattle.dv_defs.specs.declared.code.Regs.{Regs}
use Rattle.dv_defs.specs.Types.{is_reference}
use Rattle.dv_names.specs.Descriptors.{descriptor, is_name, IsType}
use Rattle.dv_names.specs.Written.{field_text, method_text}
use Rattle.dv_draft.specs.declared.draft.Draftop.{Draftop}
use Rattle.dv_draft.specs.declared.draft.PoolRef.{PoolRef}
use Rattle.dv_draft.specs.declared.draft.PoolRef.TheVariants as pool
use Rattle.dv_draft.specs.Draft.{IsOp}
use Rattle.dv_lex.specs.Laws.Names.{IsFieldRef, IsMethodRef}

-- a name in UTF-8
abbrev pub IsNameText : List ℕ → Type 0
IsNameText name = IsTrue (is_name name) × IsUtf8 name

-- a type, whose class has a name in UTF-8
abbrev pub IsTypeText : Ty → Type 0
IsTypeText t = IsType t × IsUtf8 (descriptor t)

-- a member of a class or an array
abbrev pub IsFieldText : FieldRef → Type 0
IsFieldText f = IsFieldRef f × IsTrue (is_reference f.class) × IsUtf8 (field_text f)

abbrev pub IsMethodText : MethodRef → Type 0
IsMethodText m = IsMethodRef m × IsTrue (is_reference m.class) × IsUtf8 (method_text m)

-- units of 16 bits
abbrev pub AreStringUnits : List ℕ → Type 0
AreStringUnits units = All (λ u. u < 2 ^ 16) units

-- an entry of a pool
abbrev pub IsEntryText : PoolRef → Type 0
IsEntryText pool.None = Unit {0}
IsEntryText (pool.Str units) = AreStringUnits units
IsEntryText (pool.OfType t) = IsTypeText t
IsEntryText (pool.Field f) = IsFieldText f
IsEntryText (pool.Method m) = IsMethodText m

abbrev pub IsLabelText : Option (List ℕ) → Type 0
IsLabelText None = Unit {0}
IsLabelText (Some name) = IsNameText name

-- registers as units have them: in five places, of 16 bits, and so is the last of neighbours
pub record AreRegisters (r : Regs) : Type 0 where
  pub places : length r.first ≡ 5
  pub small : All (λ n. n < 2 ^ 16) r.first
  pub last : r.range ≡ true → slice_index r.first 0 + r.count ≤ 2 ^ 16

-- an instruction of a draft, in its form, whose offset and index are told by its label and its entry
pub record IsListedOp (op : Draftop) : Type 0 where
  pub formed : IsOp op
  pub registers : AreRegisters op.insn.regs
  pub label : IsLabelText op.label
  pub entry : IsEntryText op.pool
  pub offset : op.insn.off ≡ pos 0
  pub index : op.insn.index ≡ 0
