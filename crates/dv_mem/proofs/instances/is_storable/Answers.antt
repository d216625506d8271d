use Rattle.std.proofs.Common.{◌≡◌, ◌∙◌, ap, sym}
use Rattle.dv_defs.specs.Parts.{Suffix}
use Rattle.dv_units.specs.Tables.{standard_suffix}
use Rattle.dv_words.specs.Mem.{is_storable}
use Rattle.dv_mem.specs.Tops.{here}
use Rattle.dv_mem.proofs.instances.is_storable.Goals as goal

pub returns-in-Object : goal.returns-in-Object
returns-in-Object c good frame next array =
    let suffix : standard_suffix c.args.suffix ≡ Suffix.Object = ap standard_suffix c.in-Object.is in
    c.takes.ensures good frame next array ∙ ap (λ s. is_storable (here c.args.image.now frame c.args.heap.now next) c.args.array s c.args.word) (sym suffix)
