use Rattle.std.proofs.Common.{◌<◌, ap, sym, get_or, ◌∙◌, inl, inr, arith}
use Rattle.dv_names.specs.Descriptors.{is_name_byte}
use Rattle.dv_names.proofs.NamesAt.{name_from, no_name, plain_at}
use Rattle.dv_names.proofs.names.name_end.Goals as goal
use Rattle.dv_names.proofs.names.name_end.Goals.{else-start-text-via-then-start-text+else-text-start-eq60, else-start-text-via-else-start-text}

pub returns-then-text-start-eq60 : goal.returns-then-text-start-eq60
returns-then-text-start-eq60 c = name_from c.args.text.now c.args.start c.if-start-text.true c.if-text-start-eq60.true c.special_end.result c.special_end.ensures

pub returns-then-end-start : goal.returns-then-end-start
returns-then-end-start c =
    let same = c.if-end-start.true in
    let text = c.args.text.now in
    let most = c.name_bytes_end-end.ensures.most in
    no_name text c.args.start (λ lt. sym (ap (λ i. is_name_byte (get_or text i 0)) same) ∙ most (omega (arith, same, lt)))
    (elim c.else-start-text.branch [
      | else-start-text-via-then-start-text+else-text-start-eq60 w ↦ inl (w.if-start-text.true, w.if-text-start-eq60.false)
      | else-start-text-via-else-start-text w ↦ inr w.if-start-text.false
    ])

pub returns : goal.returns
returns c =
    let b = c.name_bytes_end-end.ensures in
    let ne = c.if-end-start.false in
    let past : c.args.start < c.name_bytes_end-end.result = omega (arith, ne, b.within.0) in
    let name = plain_at c.args.text.now c.args.start c.name_bytes_end-end.result past b.within.1 b.bytes b.most in
    ((past, b.within.1), name.0, name.1)
