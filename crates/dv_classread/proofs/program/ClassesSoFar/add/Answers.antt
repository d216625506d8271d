use Rattle.std.proofs.Common.{◌≡◌, List, ◌∷◌, sym, subst}
use Rattle.dv_classread.specs.declared.class_line.ClassLine.{ClassLine}
use Rattle.dv_classread.specs.declared.program.ClassesSoFar.{ClassesSoFar}
use Rattle.dv_classread.specs.Texts.{Told, Says}
use Rattle.dv_classread.specs.Classes.{classes_with}
use Rattle.dv_classread.proofs.Adding.{adds_signature, adds_source}
use Rattle.dv_classread.proofs.program.ClassesSoFar.add.Goals.{in-Class+in_ok-begin-in-Class, in-Super, in-Implements+in_ok-add_interface-in-Implements, in-Field+in_ok-add_field-in-Field, in-Source, in-Method}
use Rattle.dv_classread.proofs.program.ClassesSoFar.add.Goals as goal

pub returns-clause-adds : goal.returns-clause-adds
returns-clause-adds c =
    let old = c.args.self.now in
    let standing = c.stands_next-standing.result in
    let Gives : ClassesSoFar → ClassLine → Type 0 = λ p l. (ts : List Told) → classes_with (record { standing = standing; classes = p.classes; last = p.last }) ts ≡ classes_with old (Says l ∷ ts) in
    elim c.match-says.branch [
      | in-Class+in_ok-begin-in-Class w ↦ subst (λ p. Gives p c.args.says) (sym w.self-is) (subst (Gives w.begin.new.self) (sym w.in-Class.is) w.in_ok-begin-in-Class.ensures)
      | in-Super w ↦ subst (λ p. Gives p c.args.says) (sym w.self-is) (subst (Gives w.add_superclass.new.self) (sym w.in-Super.is) w.add_superclass.ensures)
      | in-Implements+in_ok-add_interface-in-Implements w ↦ subst (λ p. Gives p c.args.says) (sym w.self-is) (subst (Gives w.add_interface.new.self) (sym w.in-Implements.is) w.in_ok-add_interface-in-Implements.ensures)
      | in-Field+in_ok-add_field-in-Field w ↦ subst (λ p. Gives p c.args.says) (sym w.self-is) (subst (Gives w.add_field.new.self) (sym w.in-Field.is) w.in_ok-add_field-in-Field.ensures)
      | in-Source w ↦ subst (λ p. Gives p c.args.says) (sym w.self-is) (subst (Gives old) (sym w.in-Source.is) (adds_source old))
      | in-Method w ↦ subst (λ p. Gives p c.args.says) (sym w.self-is) (subst (Gives old) (sym w.in-Method.is) (adds_signature old w.in-Method.signature))
    ]
