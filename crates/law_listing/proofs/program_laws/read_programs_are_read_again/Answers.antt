use Rattle.law_listing.proofs.program_laws.read_programs_are_read_again.Goals as goal

pub returns : goal.returns
returns c schedule text r read = c.programs_are_read.ensures r.classes (c.read_classes_are_listed.ensures schedule text r read)
