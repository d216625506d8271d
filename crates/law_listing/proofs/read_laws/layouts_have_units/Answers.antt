use Rattle.law_listing.proofs.SpelledUnits.{layout_units}
use Rattle.law_listing.proofs.read_laws.layouts_have_units.Goals as goal

pub returns : goal.returns
returns c = layout_units
