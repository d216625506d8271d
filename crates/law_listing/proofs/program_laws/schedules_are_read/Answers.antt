use Rattle.law_listing.proofs.ClassListing.Bodies.{body_lines}
use Rattle.law_listing.proofs.Programs.Read.{classes_listed}
use Rattle.law_listing.proofs.Programs.Schedules.{schedules_read}
use Rattle.law_listing.proofs.program_laws.schedules_are_read.Goals as goal

pub returns : goal.returns
returns c =
    let class = c.class_lines_are_read.ensures in
    let super = c.superclass_lines_are_read.ensures in
    let interface = c.interface_lines_are_read.ensures in
    let field = c.field_lines_are_read.ensures in
    let header = c.method_headers_are_read.ensures in
    let end = c.method_ends_are_read.ensures in
    let bodies = body_lines c.drafts_are_printed.ensures c.draft_lines_count.ensures c.drafts_are_listed_again.ensures c.bodies_are_laid_out_again.ensures c.raw_bodies_are_read.ensures in
    schedules_read c.printed_lines_are_read.ensures (classes_listed bodies class.stand super.stand interface.stand field.stand header.stand end.stand class.read super.read interface.read field.read header.read end.read)
