use Rattle.std.proofs.Common.{◌≡◌, ◌≢◌, [], length, sym, ◌∙◌, subst, rules, arith, vec_len}
use Rattle.std.proofs.lemmas.Bool.{eqb-true}
use Rattle.dv_typing.specs.Accepting.{AreFaults, static_places}
use Rattle.dv_infer.proofs.Telling.{none_broken, are_broken, typing_told, faultless_told, least_told, faults_told, refused_told}
use Rattle.dv_infer.proofs.method.infer_by.Goals as goal

pub returns-then-is_empty-clause-typing : goal.returns-then-is_empty-clause-typing
returns-then-is_empty-clause-typing c code has =
    let empty : length c.in_ok-faults.faults.items ≡ 0 = let e = eqb-true (vec_len c.in_ok-faults.faults) 0 (sym c.is_empty.ensures ∙ c.if-is_empty.true) in omega (arith, c.in_ok-faults.faults.ok.0, e) in
    let none = none_broken c.args.method.0 (static_places c.args.image.now code) c.in_ok-faults.faults.items (c.in_ok-faults.ensures code has) empty in
    typing_told c.args.image.now code none c.judge_unbroken.result (c.judge_unbroken.ensures.typing code has)

pub returns-then-is_empty-clause-faultless : goal.returns-then-is_empty-clause-faultless
returns-then-is_empty-clause-faultless c code has =
    let empty : length c.in_ok-faults.faults.items ≡ 0 = let e = eqb-true (vec_len c.in_ok-faults.faults) 0 (sym c.is_empty.ensures ∙ c.if-is_empty.true) in omega (arith, c.in_ok-faults.faults.ok.0, e) in
    let none = none_broken c.args.method.0 (static_places c.args.image.now code) c.in_ok-faults.faults.items (c.in_ok-faults.ensures code has) empty in
    faultless_told c.args.image.now code none c.judge_unbroken.result (c.judge_unbroken.ensures.typing code has)

pub returns-then-is_empty-clause-least : goal.returns-then-is_empty-clause-least
returns-then-is_empty-clause-least c code has =
    let empty : length c.in_ok-faults.faults.items ≡ 0 = let e = eqb-true (vec_len c.in_ok-faults.faults) 0 (sym c.is_empty.ensures ∙ c.if-is_empty.true) in omega (arith, c.in_ok-faults.faults.ok.0, e) in
    let none = none_broken c.args.method.0 (static_places c.args.image.now code) c.in_ok-faults.faults.items (c.in_ok-faults.ensures code has) empty in
    least_told c.args.image.now code none c.judge_unbroken.result (c.judge_unbroken.ensures.typing code has)

pub returns-then-is_empty-clause-faults : goal.returns-then-is_empty-clause-faults
returns-then-is_empty-clause-faults c code has =
    let empty : length c.in_ok-faults.faults.items ≡ 0 = let e = eqb-true (vec_len c.in_ok-faults.faults) 0 (sym c.is_empty.ensures ∙ c.if-is_empty.true) in omega (arith, c.in_ok-faults.faults.ok.0, e) in
    let none = none_broken c.args.method.0 (static_places c.args.image.now code) c.in_ok-faults.faults.items (c.in_ok-faults.ensures code has) empty in
    faults_told c.args.image.now code none c.judge_unbroken.result (c.judge_unbroken.ensures.faults code has)

pub returns-then-is_empty-clause-refused : goal.returns-then-is_empty-clause-refused
returns-then-is_empty-clause-refused c code has =
    let empty : length c.in_ok-faults.faults.items ≡ 0 = let e = eqb-true (vec_len c.in_ok-faults.faults) 0 (sym c.is_empty.ensures ∙ c.if-is_empty.true) in omega (arith, c.in_ok-faults.faults.ok.0, e) in
    let none = none_broken c.args.method.0 (static_places c.args.image.now code) c.in_ok-faults.faults.items (c.in_ok-faults.ensures code has) empty in
    refused_told c.args.image.now code none c.judge_unbroken.result (c.judge_unbroken.ensures.faults code has)

pub returns-else-is_empty-clause-faults : goal.returns-else-is_empty-clause-faults
returns-else-is_empty-clause-faults c code has =
    let some : c.in_ok-faults.faults.items ≢ [] = search rules in
    subst (AreFaults c.args.image.now code) (sym c.of.ensures)
    (are_broken c.args.image.now c.args.method.0 code c.in_ok-faults.faults.items has (c.in_ok-faults.ensures code has) some)
