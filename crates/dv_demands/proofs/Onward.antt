-- Of a body without static faults, an instruction is fetched where one begins, and nothing elsewhere.
use Rattle.std.proofs.Common.{◌≡◌, ℕ, Bool, true, false, Option, Some, None, refl, ap, ◌∙◌, is_some}
use Rattle.dv_defs.specs.Images.{Image}
use Rattle.dv_defs.specs.Op.{Code, Op}
use Rattle.dv_typing.specs.Demands.{Demand, demand, goes_on, onward_ok}
use Rattle.dv_defs.specs.declared.faults.Rule.TheVariants as rule
use Rattle.dv_typing.specs.Statics.{At, fetch}
use Rattle.dv_defs.specs.Tiling.{begins_insn}
use Rattle.law_flow.specs.Clean.{IsClean}

by_begin : (image : Image) (code : Code) (at : ℕ) (b : Bool) (o : Option At) → begins_insn code.tiles at ≡ b → fetch image code.method.id at ≡ o → IsClean image code → b ≡ is_some o
by_begin image code at true (Some x) e f clean = refl
by_begin image code at false None e f clean = refl
by_begin image code at true None e f clean = let there = (clean.each at e).1.fetched in absurd (cc (there, f))
by_begin image code at false (Some x) e f clean = let there = clean.only at x f in absurd (cc (there, e))

is_fetched : (image : Image) (code : Code) (at : ℕ) → IsClean image code → begins_insn code.tiles at ≡ is_some (fetch image code.method.id at)
is_fetched image code at clean = by_begin image code at (begins_insn code.tiles at) (fetch image code.method.id at) refl refl clean

elim_true : (v : Bool) (x : Demand) → v ≡ true → x ≡ elim v as (λ _. Demand) [ true ↦ x | false ↦ None ]
elim_true true x e = refl
elim_true false x e = absurd (cc)

pub goes_on_to : (image : Image) (code : Code) (op : Op) (next : ℕ) → IsClean image code → goes_on op ≡ true → demand (begins_insn code.tiles next) (rule.V 1) ≡ onward_ok image code.method (record { op = op; next = next })
goes_on_to image code op next clean on =
    ap (λ (v : Bool). demand v (rule.V 1)) (is_fetched image code next clean) ∙
    elim_true (goes_on op) (demand (is_some (fetch image code.method.id next)) (rule.V 1)) on
