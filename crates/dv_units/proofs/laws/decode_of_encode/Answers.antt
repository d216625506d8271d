use Rattle.std.proofs.Common.{◌≡◌, Ok, length, refl, rules, ◌∙◌, ap, arith}
use Rattle.dv_defs.specs.Formats.{size_at}
use Rattle.dv_units.specs.Reading.{StandAt}
use Rattle.dv_units.proofs.Encoding.{written}
use Rattle.dv_units.proofs.laws.decode_of_encode.Goals as goal

pub decode-requires : goal.decode-requires
decode-requires c =
    let (us, w) = written _ _ _ _ c.in_ok-encode.ensures.written in
    omega (arith, w.inside, ap length c.deref.ensures.value)

-- what was written stands at the old end, so it is what is read
read_again : (c : goal.After-decode) → c.decode.result ≡ Ok (c.args.insn.now, size_at c.args.insn.now.op)
read_again c =
    let (us, w) = written _ _ _ _ c.in_ok-encode.ensures.written in
    let at : c.len-at.result ≡ length c.args.out.now.items = omega arith in
    let stands : StandAt us c.deref.result.now c.len-at.result = rw (c.deref.ensures.value, at) w.stands in
    c.decode.ensures.every c.args.insn.now us w.spelled stands ∙
    ap (λ n. Ok (c.args.insn.now, n)) w.size

pub returns-clause-same : goal.returns-clause-same
returns-clause-same c = rw (read_again c) refl

pub returns-clause-size : goal.returns-clause-size
returns-clause-size c = rw (read_again c) refl

pub returns-clause-only_memory : goal.returns-clause-only_memory
returns-clause-only_memory c _ = rw (read_again c) (search rules)
