use Rattle.std.proofs.Common.{◌<◌, get_or, length, sym, ◌∙◌, arith}
use Rattle.std.proofs.lemmas.Option.{slice_get-get_or}
use Rattle.dv_infer.proofs.Leaping.{class_at}
use Rattle.dv_infer.proofs.leap.class_in.Goals as goal

pub returns-then-is_class : goal.returns-then-is_class
returns-then-is_class c = λ names.
    let words = c.args.words.now in
    let register = c.args.register in
    let inside : register < length words = omega (arith, c.if-register-words.true) in
    class_at names words register (get_or words register 0) (slice_get-get_or words register 0 inside) (sym c.is_class.ensures ∙ c.if-is_class.true)
