-- No object is made where no instruction begins.
use Rattle.std.proofs.Common.{◌≡◌, ℕ, true, false, Option, Some, None, refl}
use Rattle.dv_defs.specs.Images.{Image}
use Rattle.dv_defs.specs.Tiling.{begins_insn}
use Rattle.dv_defs.specs.Op.{Code}
use Rattle.dv_typing.specs.Statics.{At, fetch}
use Rattle.dv_typing.specs.Demands.{made_at, made_by}
use Rattle.law_flow.specs.Clean.{IsClean}

abbrev made_of : Option At → Option ℕ
made_of o = elim o [ None ↦ None | Some x ↦ made_by x.op ]

made_of_none : (image : Image) (code : Code) (at : ℕ) (o : Option At) → IsClean image code → begins_insn code.tiles at ≡ false → fetch image code.method.id at ≡ o → None ≡ made_of o
made_of_none image code at None clean b e = refl
made_of_none image code at (Some x) clean b e = absurd (let begins : begins_insn code.tiles at ≡ true = clean.only at x e in cc)

pub nothing_made : (image : Image) (code : Code) (at : ℕ) → IsClean image code → begins_insn code.tiles at ≡ false → None ≡ made_at image code.method at
nothing_made image code at clean b = made_of_none image code at (fetch image code.method.id at) clean b refl
