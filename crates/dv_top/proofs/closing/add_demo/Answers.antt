use Rattle.std.proofs.Common.{◌≡◌, ◌++◌, ◌+◌, List, ℕ, append_assoc, ap, sym, ◌∙◌}
use Rattle.std.specs.Prelude.{string_bytes, decimal, codes}
use Rattle.dv_machine.specs.Final.{newline}
use Rattle.dv_top.specs.Runs.{demo_line}
use Rattle.dv_top.proofs.closing.add_demo.Goals as goal

-- six pieces one after another
joined : (a b c d e f : List ℕ) → a ++ (b ++ (c ++ (d ++ (e ++ f)))) ≡ a ++ b ++ c ++ d ++ e ++ f
joined a b c d e f =
    sym (append_assoc (a ++ b ++ c ++ d) e f ∙ (append_assoc (a ++ b ++ c) d (e ++ f) ∙ (append_assoc (a ++ b) c (d ++ (e ++ f)) ∙ append_assoc a b (c ++ (d ++ (e ++ f))))))

pub returns : goal.returns
returns c =
    let classes = c.args.classes in
    let threads = c.args.threads in
    let own : ℕ → List ℕ = λ n. codes "#demo classes " ++ (decimal classes ++ (codes " threads " ++ (decimal threads ++ (codes " methods " ++ (decimal n ++ newline))))) in
    let pieces = ap (λ t. codes "#demo classes " ++ t) (joined (decimal classes) (codes " threads ") (decimal threads) (codes " methods ") (decimal (classes + 3)) newline) in
    let line : string_bytes c.in_ok-line.line ≡ demo_line classes threads = c.in_ok-line.ensures.ok ∙ (ap (λ n. own (n + 3)) c.from.ensures ∙ pieces) in
    c.in_ok-extend_from_slice.ensures.items ∙ ap (λ t. c.args.text.now.items ++ t) (c.as_bytes.ensures.value ∙ line)
