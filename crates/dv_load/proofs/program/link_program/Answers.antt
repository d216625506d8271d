use Rattle.std.proofs.Common.{◌≡◌, true, false, List, ◌++◌, Result, Ok, is_ok, sym, ap, subst, ◌∙◌}
use Rattle.std.specs.Prelude.{if◌then◌else◌}
use Rattle.dv_defs.specs.declared.class.ClassDef.{ClassDef}
use Rattle.dv_defs.specs.Linked.{AreNamed}
use Rattle.dv_load.specs.Images.{boot_classes}
use Rattle.dv_load.proofs.LinkedTexts.{both_named}
use Rattle.dv_load.proofs.program.link_program.Goals as goal

-- what appending leaves, where it found memory
joined : {A E : Type 0} (r : Result A E) (x : A) (boot program list : List ClassDef) → r ≡ Ok x → boot ≡ boot_classes → list ≡ (if is_ok r then boot ++ program else boot)
    → list ≡ boot_classes ++ program
joined {A} {E} r x boot program list ok is told =
    let P : Result A E → Type 0 = λ q. list ≡ (if is_ok q then boot ++ program else boot) in
    let whole : list ≡ boot ++ program = subst P ok told in
    whole ∙ ap (λ cs. cs ++ program) is

-- each class has a name
pub unreachable-requires : goal.unreachable-requires
unreachable-requires c =
    let program = c.args.program.items in
    let same : c.append.new.self.items ≡ boot_classes ++ program =
    joined c.append.result _ c.in_ok-classes.classes.items program c.append.new.self.items c.in_ok-append.was c.in_ok-classes.ensures c.append.ensures.items in
    let found : false ≡ true = c.in-None.ensures.named.1 (subst AreNamed (sym same) (both_named program c.requires.named)) in
    cc
