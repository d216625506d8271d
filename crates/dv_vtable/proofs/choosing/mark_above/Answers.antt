use Rattle.std.proofs.Common.{[], false, get_or, cond, ap, ◌∙◌}
use Rattle.std.specs.Prelude.{slice_index_or}
use Rattle.dv_vtable.proofs.ChoosingLaws.{marked_above}
use Rattle.dv_vtable.proofs.SourceLaws.{listed_inside}
use Rattle.dv_vtable.proofs.choosing.mark_above.Goals as goal

pub mark_all-requires : goal.mark_all-requires
mark_all-requires c =
    let s = c.args.sources.now in
    rw (c.interfaces_of.ensures, c.requires.count) (listed_inside s c.requires.sources c.in-Some.declared.class.0)

pub returns-in-Some : goal.returns-in-Some
returns-in-Some c = λ image of d.
    let s = c.args.sources.now in
    let m = c.in-Some.declared in
    c.mark_all.ensures d
    ∙ ap (λ b. cond b c.args.mark (get_or c.args.marks.now d false))
    (marked_above image c.args.method m.class m.def.now (c.in-Some.ensures.method image of) c.interfaces_of.result.now (slice_index_or s.interfaces.now m.class.0 [])
    c.interfaces_of.ensures (c.requires.sources.interfaces image of.classes m.class.0) d)
