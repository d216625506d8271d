use Rattle.std.proofs.Common.{◌≡◌, map, take}
use Rattle.std.specs.Borrow.{Bor}
use Rattle.dv_draft.specs.declared.draft.Catch.{Catch}
use Rattle.dv_asm.specs.Layout.{handler_of}
use Rattle.dv_asm.proofs.catches.Catches.handlers_of.Given as goal

abbrev pub invariant-loop-catch : goal.invariant-loop-catch
invariant-loop-catch l = l.handlers.items ≡ map (λ (c : Bor Catch). handler_of l.self.short.now l.types c.now) (take l.catch-index l.catch-items)
