-- In how many bits a number is read as one of a type.
use Rattle.std.specs.Prelude.{ℕ}
use Rattle.dv_defs.specs.declared.names.Base.{Base}
use Rattle.dv_defs.specs.declared.names.Base.TheVariants as base

-- those of an int and of a long, and more than any other type has
abbrev pub bits_of : Base → ℕ
bits_of base.I = 32
bits_of base.J = 64
bits_of b = 33
