-- What images give to runs on words.
use Rattle.dv_defs.specs.Images.{Image}
use Rattle.dv_machine.specs.Accepted.{HasInits}
use Rattle.law_words.specs.StepLaws.{StaticsAreWhole}

-- where a field's value stands on a static field that it fits, numbers with which static fields are declared have 32 bits, or are a long's
abbrev pub StaticsAreWholeOfLinked : Type 0
StaticsAreWholeOfLinked = (image : Image) → HasInits image → StaticsAreWhole image
