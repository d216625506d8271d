use Rattle.std.proofs.Common.{◌≡◌, [], ℕ, ◌++◌, map, ap, sym, ◌∙◌, append-nil, refl}
use Rattle.dv_defs.specs.Op.{Code}
use Rattle.dv_typing.specs.Flow.{jumps}
use Rattle.dv_optable.specs.declared.family.Test.{Test}
use Rattle.dv_ops.specs.Meaning.{code_of, meant}
use Rattle.dv_ops.specs.declared.op.Op.{Op}
use Rattle.dv_ops.specs.declared.op.Op.TheVariants as op
use Rattle.dv_rules.specs.Edges.{plain_edge}
use Rattle.dv_rules.proofs.flow.push_jumps.Goals as goal

no_jumps : (code : Code) (at : ℕ) (o : Op) → ((to : ℕ) → o ≡ op.Goto to → ⊥) → ((t : Test) (a b to : ℕ) → o ≡ op.IfBoth t a b to → ⊥) → ((t : Test) (a to : ℕ) → o ≡ op.IfZero t a to → ⊥) → ((a to : ℕ) → o ≡ op.Switch a to → ⊥) → jumps (meant code at o) ≡ []
no_jumps code at (op.Goto to) goto both zero switch = absurd (goto to refl)
no_jumps code at (op.IfBoth t a b to) goto both zero switch = absurd (both t a b to refl)
no_jumps code at (op.IfZero t a to) goto both zero switch = absurd (zero t a to refl)
no_jumps code at (op.Switch a to) goto both zero switch = absurd (switch a to refl)
no_jumps code at o goto both zero switch = refl

pub returns-in-Switch : goal.returns-in-Switch
returns-in-Switch c = c.push_cases.ensures (record { op = meant (code_of c.args.code.now) c.args.at c.args.op.now; next = c.args.next }) c.requires.fetched

pub returns-in_default : goal.returns-in_default
returns-in_default c =
    let none = no_jumps (code_of c.args.code.now) c.args.at c.args.op.now c.in_default.not-Goto c.in_default.not-IfBoth c.in_default.not-IfZero c.in_default.not-Switch in
    sym (ap (λ js. c.args.edges.now.items ++ map plain_edge js) none ∙ append-nil c.args.edges.now.items)
