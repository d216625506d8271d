use Rattle.dv_hier.proofs.Acyclic.{acyclic_of}
use Rattle.dv_hier.proofs.Slotted.{made_classes, made_fields}
use Rattle.dv_hier.proofs.slots.add_slots.Goals as goal

pub lay_out-requires-clause-acyclic : goal.lay_out-requires-clause-acyclic
lay_out-requires-clause-acyclic c = rw c.deref-2.ensures.value (acyclic_of c.args.infos.items c.requires.acyclic)

pub returns-clause-classes : goal.returns-clause-classes
returns-clause-classes c cs boot is =
    made_classes cs boot c.args.infos.items c.in_ok-classes.classes.items c.in_ok-layout.layout.slots.items is
    (rw c.deref-2.ensures.value at c.in_ok-layout.ensures.slots) c.in_ok-classes.ensures

pub returns-clause-fields : goal.returns-clause-fields
returns-clause-fields c cs boot is =
    made_fields cs boot c.args.infos.items c.in_ok-layout.layout.fields.items is
    (acyclic_of c.args.infos.items c.requires.acyclic) (rw c.deref-2.ensures.value at c.in_ok-layout.ensures.fields)
