use Rattle.std.proofs.Common.{◌≡◌, ◌<◌, ℕ, false, nat_eq, length, inl, inr, ap, sym, ◌∙◌, subst, arith}
use Rattle.dv_units.proofs.Decoding.{units_fit}
use Rattle.dv_ops.specs.Meaning.{code_of}
use Rattle.dv_ops.proofs.Passing.{IsWalk, passed_over}
use Rattle.dv_plan.proofs.Walking.{is_edge}
use Rattle.dv_plan.proofs.beginnings.begins_at.Goals as goal

pub begins_insn_next-requires : goal.begins_insn_next-requires
begins_insn_next-requires c =
    let code = code_of c.args.code.now in
    let come = subst (λ (n : ℕ). IsWalk c.args.units.now code.tiles n c.args.at) (sym c.if-at-here.true) c.requires.walk in
    let edge = is_edge c.args.units.now code.tiles c.args.at (units_fit c.args.units.now c.type_inv.units) come in
    elim edge [
      | inl is ↦ inl is
      | inr past ↦ inr (past ∙ ap length c.requires.units)
    ]

pub returns-else-at-here : goal.returns-else-at-here
returns-else-at-here c =
    let apart : nat_eq c.args.at c.args.here ≡ false = grind arith in
    let before : c.args.at < c.args.here = omega (arith, c.requires.come, c.if-at-here.false) in
    apart ∙ passed_over c.args.units.now (code_of c.args.code.now).tiles c.args.here c.args.at c.requires.walk before
