-- The native methods by the class that declares them.
use Rattle.std.specs.Prelude.{List, [], ◌∷◌}
use Rattle.dv_defs.specs.declared.run.Native.{Native}
use Rattle.dv_defs.specs.declared.run.Native.TheVariants as native

-- those of Object
abbrev pub object_natives : List Native
object_natives = native.Wait ∷ native.Notify ∷ native.NotifyAll ∷ []

-- those of Thread
abbrev pub thread_natives : List Native
thread_natives = native.Start ∷ native.Join ∷ native.CurrentThread ∷ []

-- those of String
abbrev pub string_natives : List Native
string_natives = native.Length ∷ native.CharAt ∷ native.Equals ∷ native.Concat ∷ []

-- those of the classes Text and Console, which stand for what a Dalvik library has beside these
abbrev pub own_natives : List Native
own_natives = native.OfLong ∷ native.OfChars ∷ native.Print ∷ native.Println ∷ []
