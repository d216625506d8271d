use Rattle.std.proofs.Common.{◌≡◌, ◌∙◌, ◌+◌, ◌<◌, ℕ, List, length, true, sym, ap, subst, arith}
use Rattle.dv_defs.specs.Op.{Op}
use Rattle.dv_defs.specs.Spelling.{all_fit}
use Rattle.dv_defs.specs.Tiling.{tiles_in, tiling}
use Rattle.dv_ops.specs.Meaning.{code_of, meant, meant_or_rule}
use Rattle.dv_words.specs.declared.state.Frame.{Frame}
use Rattle.dv_words.specs.Mem.{word_mem}
use Rattle.dv_words.specs.Stepping.{Answered}
use Rattle.dv_mem.specs.Operands.{AreOperands}
use Rattle.dv_mem.specs.Stepping.{is_mem}
use Rattle.dv_mem.specs.Tops.{here, top_frame}
use Rattle.dv_mem.proofs.OnTop.{agrees, fits_all, frame_is, frame_on_top, goes_on, may_be_it, means_own, means_there, meant_there, no_rule, on_top_own, op_meant, payload_here}
use Rattle.dv_mem.proofs.step.mem_step.Goals as goal

pub returns-in_default-resolve-clause-does : goal.returns-in_default-resolve-clause-does
returns-in_default-resolve-clause-does c s x goes mem are =
    let own = code_of c.in-Some-coded_at.code in
    let at = c.in-Some.head.at in
    let fit = ap (λ (us : List ℕ). all_fit 16 us) (sym c.units_of-units.ensures.units) ∙ c.is_within.ensures.whole in
    let fits = fits_all c.args.image.now c.args.stack.now c.args.insn.now c.in-Some.head own c.in-Some.ensures c.in-Some-coded_at.ensures fit s goes.on_top in
    let m = goes_on c.args.image.now c.args.stack.now c.args.insn.now s x fits goes in
    let means = means_own c.args.image.now c.args.stack.now c.args.insn.now c.in-Some.head own c.in-Some.ensures c.in-Some-coded_at.ensures s x.op m.meant in
    let e = meant_there c.args.image.now own at c.args.insn.now x.op c.resolve.result c.resolve.ensures means in
    absurd (no_rule own at (c.in_default-resolve).field-0 x.op (sym (ap (meant_or_rule own at) (c.in_default-resolve).is) ∙ e))

pub returns-then-not-may_be-clause-does : goal.returns-then-not-may_be-clause-does
returns-then-not-may_be-clause-does c s x goes mem are =
    let own = code_of c.in-Some-coded_at.code in
    let at = c.in-Some.head.at in
    let fit = ap (λ (us : List ℕ). all_fit 16 us) (sym c.units_of-units.ensures.units) ∙ c.is_within.ensures.whole in
    let fits = fits_all c.args.image.now c.args.stack.now c.args.insn.now c.in-Some.head own c.in-Some.ensures c.in-Some-coded_at.ensures fit s goes.on_top in
    let m = goes_on c.args.image.now c.args.stack.now c.args.insn.now s x fits goes in
    let means = means_own c.args.image.now c.args.stack.now c.args.insn.now c.in-Some.head own c.in-Some.ensures c.in-Some-coded_at.ensures s x.op m.meant in
    let e = meant_there c.args.image.now own at c.args.insn.now x.op c.resolve.result c.resolve.ensures means in
    let is = op_meant own at c.in-Ok.op x.op (sym (ap (meant_or_rule own at) c.in-Ok.is) ∙ e) in
    absurd (may_be_it c.args.image.now own at c.args.insn.now c.in-Ok.op x.op (sym c.may_be.ensures ∙ c.if-not-may_be.true) means is mem)

pub returns-clause-does : goal.returns-clause-does
returns-clause-does c s x goes mem are =
    let own = code_of c.in-Some-coded_at.code in
    let at = c.in-Some.head.at in
    let fit = ap (λ (us : List ℕ). all_fit 16 us) (sym c.units_of-units.ensures.units) ∙ c.is_within.ensures.whole in
    let fits = fits_all c.args.image.now c.args.stack.now c.args.insn.now c.in-Some.head own c.in-Some.ensures c.in-Some-coded_at.ensures fit s goes.on_top in
    let m = goes_on c.args.image.now c.args.stack.now c.args.insn.now s x fits goes in
    let means = means_own c.args.image.now c.args.stack.now c.args.insn.now c.in-Some.head own c.in-Some.ensures c.in-Some-coded_at.ensures s x.op m.meant in
    let e = meant_there c.args.image.now own at c.args.insn.now x.op c.resolve.result c.resolve.ensures means in
    let is = op_meant own at c.in-Ok.op x.op (sym (ap (meant_or_rule own at) c.in-Ok.is) ∙ e) in
    let top = (agrees c.args.image.now c.args.stack.now c.in-Some.head own s goes.code c.in-Some.ensures c.in-Some-coded_at.ensures goes.on_top goes.has_code).same_head in
    let next : at + c.size_of.result ≡ x.next = omega (arith, m.next, c.size_of.ensures.size, ap (λ h. h.at) top) in
    let P : Frame → ℕ → Op → Type 0 = λ f n o.
    is_mem o ≡ true → AreOperands (here c.args.image.now f c.args.heap.now n) o →
    Answered c.operate.result (word_mem (here c.args.image.now f c.args.heap.now n) o) c.args.stack.now c.args.heap.now c.operate.new.stack c.operate.new.heap in
    let done : P (top_frame c.args.stack.now) (at + c.size_of.result) (meant own at c.in-Ok.op) =
    c.operate.ensures.does own at (ap (λ us. tiles_in (tiling us)) (sym c.units_of-units.ensures.units)) in
    let by_op = subst (P (top_frame c.args.stack.now) (at + c.size_of.result)) is done in
    let Q : ℕ → Type 0 = λ n. P (top_frame c.args.stack.now) n x.op in
    let by_next = subst Q next by_op in
    let R : Frame → Type 0 = λ f. P f x.next x.op in
    subst R (frame_is c.args.stack.now s goes.on_top) by_next mem are

pub returns-clause-other : goal.returns-clause-other
returns-clause-other c s op m none =
    let own = code_of c.in-Some-coded_at.code in
    let at = c.in-Some.head.at in
    let means = means_own c.args.image.now c.args.stack.now c.args.insn.now c.in-Some.head own c.in-Some.ensures c.in-Some-coded_at.ensures s op m in
    let e = meant_there c.args.image.now own at c.args.insn.now op c.resolve.result c.resolve.ensures means in
    let is = op_meant own at c.in-Ok.op op (sym (ap (meant_or_rule own at) c.in-Ok.is) ∙ e) in
    (c.operate.ensures.stack_stays own at (ap is_mem is ∙ none), c.operate.ensures.heap_stays own at (ap is_mem is ∙ none))

pub returns-clause-none : goal.returns-clause-none
returns-clause-none c none =
    let own = code_of c.in-Some-coded_at.code in
    let at = c.in-Some.head.at in
    let within : at < length c.units_of-units.result.now = c.is_within.ensures.within.0 c.if-not-is_within.false in
    let inside : at < length own.body.units = omega (arith, within, ap (λ (us : List ℕ). length us) c.units_of-units.ensures.units) in
    let top = frame_on_top c.args.image.now c.args.stack.now c.args.insn.now c.in-Some.head own c.in-Some.ensures c.in-Some-coded_at.ensures in
    let on_top = on_top_own c.args.image.now c.args.stack.now c.args.insn.now c.in-Some.head own c.in-Some.ensures c.in-Some-coded_at.ensures inside in
    let meaning = none top.frame own on_top in
    let payload = payload_here c.args.image.now c.args.stack.now c.args.insn.now c.in-Some.head own c.in-Some.ensures c.in-Some-coded_at.ensures meaning.0 in
    absurd
    (meaning.1 (meant own at c.in-Ok.op)
    (means_there c.args.image.now c.args.stack.now c.args.insn.now c.in-Some.head own c.in-Some.ensures c.in-Some-coded_at.ensures c.in-Ok.op (sym (ap (meant_or_rule own at) c.in-Ok.is) ∙ c.resolve.ensures payload)))
