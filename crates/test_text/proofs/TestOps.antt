-- The instructions of the tests are in their forms.
use Rattle.std.proofs.Common.{ℕ, pos, false, List, [], ◌∷◌, Option, None, refl}
use Rattle.dv_defs.specs.declared.code.Insn.{Insn}
use Rattle.dv_defs.specs.Families.{pool_at}
use Rattle.dv_defs.specs.Formats.{format_at}
use Rattle.dv_defs.specs.Spelling.{insn_eq}
use Rattle.dv_draft.specs.declared.draft.Draftop.{Draftop}
use Rattle.dv_draft.specs.declared.draft.PoolRef.{PoolRef}
use Rattle.dv_draft.specs.declared.draft.PoolRef.TheVariants as pool
use Rattle.dv_draft.specs.Draft.{IsOp}

abbrev pub insn_of : ℕ → ℕ → ℕ → ℕ → Insn
insn_of op count a b = record { op = op; regs = record { count = count; first = a ∷ b ∷ 0 ∷ 0 ∷ 0 ∷ []; range = false }; lit = pos 0; off = pos 0; index = 0 }

abbrev pub Forms : Option (List ℕ) → PoolRef → Insn → Type 0
Forms label entry i = IsOp (let op : Draftop = record { insn = i; label = label; pool = entry } in op)

pub nop_forms : Forms None pool.None (insn_of 0x00 0 0 0)
unfolding format_at insn_eq
nop_forms = record { form = refl; registers = refl; label = refl; offset = λ h. refl; entry = refl; kind = λ h. absurd (cc); index = λ h. refl }

pub string_forms : (chars : List ℕ) → Forms None (pool.Str chars) (insn_of 0x1a 1 0 0)
unfolding format_at pool_at insn_eq
string_forms chars = record { form = refl; registers = refl; label = refl; offset = λ h. refl; entry = refl; kind = λ h. refl; index = λ h. refl }
