-- By what a class is under another.
use Rattle.dv_defs.specs.Images.{Image}
use Rattle.dv_defs.specs.Order.{ClassTest, extends, implements}
use Rattle.dv_image.specs.declared.subtypes.Ascent.{Ascent}
use Rattle.dv_image.specs.declared.subtypes.Ascent.TheVariants.{Superclasses, Superinterfaces}

abbrev pub by : Ascent → Image → ClassTest
by Superclasses image = extends image
by Superinterfaces image = implements image
