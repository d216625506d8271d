-- The flags of classes, fields and methods.
use Rattle.std.specs.Prelude.{ℕ, ◌/◌, ◌%◌, ◌^◌, Bool, nat_eq}
use Rattle.dv_defs.specs.declared.flags.Flag.{Flag}
use Rattle.dv_defs.specs.declared.flags.Flag.TheVariants as flag

-- the place of a flag in the order in which flags are printed
abbrev pub bit_of : Flag → ℕ
bit_of flag.Public = 0
bit_of flag.Private = 1
bit_of flag.Protected = 2
bit_of flag.Static = 3
bit_of flag.Final = 4
bit_of flag.Synchronized = 5
bit_of flag.Volatile = 6
bit_of flag.Bridge = 7
bit_of flag.Transient = 8
bit_of flag.Varargs = 9
bit_of flag.Native = 10
bit_of flag.Interface = 11
bit_of flag.Abstract = 12
bit_of flag.Strictfp = 13
bit_of flag.Synthetic = 14
bit_of flag.Annotation = 15
bit_of flag.Enum = 16
bit_of flag.Constructor = 17
bit_of flag.DeclaredSynchronized = 18

-- whether a flag is among flags, in which it is the bit of its place
abbrev pub has_flag : ℕ → Flag → Bool
has_flag flags f = nat_eq (flags / 2 ^ bit_of f % 2) 1
