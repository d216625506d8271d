use Rattle.std.proofs.Common.{ap, sym, ◌∙◌}
use Rattle.std.specs.Prelude.{Some}
use Rattle.dv_words.specs.declared.state.Kind.TheVariants as kind
use Rattle.dv_objects.proofs.KindTypes.{none_under, some_under}
use Rattle.dv_objects.proofs.instances.is_of_class.Goals as goal

pub returns-then-not-exists : goal.returns-then-not-exists
returns-then-not-exists c =
    none_under c.args.image.now c.args.heap.now c.args.object c.args.name.now c.is_boot_under.result (sym c.exists.ensures ∙ c.if-not-exists.true) c.is_boot_under.ensures

pub returns-in-Str : goal.returns-in-Str
returns-in-Str c =
    some_under c.args.image.now c.args.heap.now c.args.object c.args.name.now kind.Str c.is_boot_under-in-Str.result (sym c.kind.ensures ∙ ap Some c.in-Str.is) c.is_boot_under-in-Str.ensures

pub returns-in-ClassOf : goal.returns-in-ClassOf
returns-in-ClassOf c =
    some_under c.args.image.now c.args.heap.now c.args.object c.args.name.now (kind.ClassOf c.in-ClassOf.field-0) c.is_boot_under-in-ClassOf.result (sym c.kind.ensures ∙ ap Some c.in-ClassOf.is) c.is_boot_under-in-ClassOf.ensures
