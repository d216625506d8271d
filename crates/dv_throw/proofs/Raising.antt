-- What flies on where an initialiser ended by an exception.
use Rattle.std.proofs.Common.{◌≡◌, ap, ℕ, Bool, true, false, Option, Some}
use Rattle.std.specs.Prelude.{option_map, if◌then◌else◌}
use Rattle.dv_defs.specs.declared.run.Named.TheVariants as named
use Rattle.dv_defs.specs.Images.{Image}
use Rattle.dv_defs.specs.Names.{error_name}
use Rattle.dv_defs.specs.Order.{instance}
use Rattle.dv_defs.specs.Types.{of_class}
use Rattle.dv_words.specs.Heaps.{Got}
use Rattle.dv_words.specs.State.{WordHeap}
use Rattle.dv_words.specs.Mem.{type_of}
use Rattle.dv_words.specs.Unwinding.{made_object}
use Rattle.dv_throw.specs.Unwound.{caused_by, raised}

module _ (image : Image) (heap : WordHeap) (o : ℕ) where
  abbrev own : Option Got
  own = Some (record { object = o; heap = heap })

  abbrev wrapped : Option Got
  wrapped = option_map (caused_by image o) (made_object image heap named.InInitializer)

  pub raised_error : instance image (type_of image heap o) (of_class error_name) ≡ true → raised image heap o ≡ own
  raised_error is = ap (λ (b : Bool). if b then own else wrapped) is

  pub raised_wrapped : instance image (type_of image heap o) (of_class error_name) ≡ false → raised image heap o ≡ wrapped
  raised_wrapped is = ap (λ (b : Bool). if b then own else wrapped) is
