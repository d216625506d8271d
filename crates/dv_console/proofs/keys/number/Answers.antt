use Rattle.std.proofs.Common.{sym, ◌∙◌, ap, bytes_eq}
use Rattle.dv_console.proofs.Numbers.{unread, misread, read}
use Rattle.dv_console.proofs.keys.number.Goals as goal

pub returns-in_err-n : goal.returns-in_err-n
returns-in_err-n c = c.from_residual.ensures ∙ sym (unread c.args.text.now _ c.parse.ensures.value.0 (sym c.ok.ensures.value ∙ c.in_err-n.was))

pub returns-then-eq : goal.returns-then-eq
returns-then-eq c =
    sym (read c.args.text.now _ c.parse.ensures.value.0 _ (sym c.ok.ensures.value ∙ c.in_ok-n.was) (ap (λ t. bytes_eq t c.args.text.now) (sym c.format.ensures.text) ∙ sym c.eq.ensures ∙ c.if-eq.true))

pub returns-else-eq : goal.returns-else-eq
returns-else-eq c =
    sym (misread c.args.text.now _ c.parse.ensures.value.0 _ (sym c.ok.ensures.value ∙ c.in_ok-n.was) (ap (λ t. bytes_eq t c.args.text.now) (sym c.format.ensures.text) ∙ sym c.eq.ensures ∙ c.if-eq.false))
