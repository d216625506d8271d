use Rattle.std.proofs.Common.{sym, subst}
use Rattle.std.proofs.lemmas.List.Elements.{All-push}
use Rattle.dv_draft.specs.declared.draft.Item.{Item}
use Rattle.dv_draft.specs.Draft.{AreFormed, IsFormed}
use Rattle.test_text.proofs.asm.Making.add.Goals as goal

pub invariant_of-self-2 : goal.invariant_of-self-2
invariant_of-self-2 c =
    subst AreFormed (sym c.in_ok-push.ensures.items) (All-push (λ (item : Item). IsFormed item.what) _ _ c.self.invariant c.requires)
