use Rattle.std.proofs.Common.{pos, false, [], ◌∷◌, None, lit≤, refl}
use Rattle.std.proofs.lemmas.List.Elements.{All-cons, All-nil}
use Rattle.dv_defs.specs.Formats.{format_at}
use Rattle.dv_defs.specs.Spelling.{insn_eq}
use Rattle.dv_draft.specs.declared.draft.Draftop.{Draftop}
use Rattle.dv_draft.specs.declared.draft.Item.{Item}
use Rattle.dv_draft.specs.declared.draft.PoolRef.TheVariants as pool
use Rattle.dv_draft.specs.declared.draft.What.TheVariants as what
use Rattle.dv_draft.specs.Draft.{AreFormed, IsFormed, IsOp}
use Rattle.example_host.proofs.tools.body_of_five.Goals as goal

abbrev five : Draftop
five = record {
  insn = record { op = 0x12; regs = record { count = 1; first = 0 ∷ 0 ∷ 0 ∷ 0 ∷ 0 ∷ []; range = false }; lit = pos 5; off = pos 0; index = 0 };
  label = None;
  pool = pool.None;
}

-- the instruction is in its form
five_is_op : IsOp five
unfolding format_at insn_eq
five_is_op = record { form = refl; registers = refl; label = refl; offset = λ h. refl; entry = refl; kind = λ h. absurd (cc); index = λ h. refl }

five_is_formed : AreFormed (record { line = 1; what = what.Op five } ∷ [])
five_is_formed =
    let P : Item → Type 0 = λ (item : Item). IsFormed item.what in
    All-cons P (record { line = 1; what = what.Op five }) [] five_is_op (All-nil P)

pub invariant_of-draft : goal.invariant_of-draft
invariant_of-draft c = record { few_registers = lit≤ tt; formed = rw (c.of.ensures, c.in_ok-vec.ensures.items) five_is_formed }
