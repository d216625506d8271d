use Rattle.std.proofs.Common.{◌≡◌, ℕ, Result, Ok, Err, length, ap, sym, ◌∙◌, arith}
use Rattle.dv_defs.specs.declared.code.Insn.{Insn}
use Rattle.dv_units.specs.Reading.{StandAt}
use Rattle.dv_units.proofs.Encoding.{written}
use Rattle.example_host.proofs.tools.read_again.Goals as goal

pub decode-requires : goal.decode-requires
decode-requires c =
    let (us, w) = written _ _ _ _ c.in_ok-encode.ensures.written in
    omega (arith, w.inside, ap length c.deref.ensures.value)

-- the instruction that is read
abbrev insn_in : {E : Type 0} → Insn → Result (Insn × ℕ) E → Insn
insn_in none (Ok read) = read.0
insn_in none (Err error) = none

same_insn : {E : Type 0} (r : Result (Insn × ℕ) E) (i j : Insn) (m n : ℕ) → r ≡ Ok (i, m) → r ≡ Ok (j, n) → j ≡ i
same_insn r i j m n e f = ap (insn_in i) (sym f ∙ e)

-- what was written stands at the beginning, so it is what is read
pub returns : goal.returns
returns c =
    let (us, w) = written _ _ _ _ c.in_ok-encode.ensures.written in
    let none = ap length c.new-units.ensures.items in
    let stand = rw none at w.stands in
    let stands : StandAt us c.deref.result.now 0 = rw c.deref.ensures.value stand in
    same_insn c.decode.result c.args.insn.now _ _ _ (c.decode.ensures.every c.args.insn.now us w.spelled stands) c.in_ok-again.was
