-- In a new ExceptionInInitializerError the cell for the cause takes a Throwable.
use Rattle.std.proofs.Common.{◌≡◌, ℕ, zero, suc, true, false, List, [], ◌∷◌, Some, refl, sym, ap, subst, ◌∙◌}
use Rattle.std.specs.Prelude.{bytes_eq, slice_get, codes, unwrap_or}
use Rattle.std.proofs.lemmas.Option.{slice_get_within}
use Rattle.dv_defs.specs.declared.run.Named.TheVariants as named
use Rattle.dv_typing.specs.declared.typing.RegType.TheVariants as ty
use Rattle.dv_defs.specs.Images.{Image}
use Rattle.dv_defs.specs.Names.{throwable_name}
use Rattle.dv_defs.specs.Types.{of_class}
use Rattle.dv_typing.specs.RegTypes.{type_at, reg_types}
use Rattle.dv_machine.specs.Heap.{class_cells}
use Rattle.dv_defs.specs.Pools.{Field, class_named}
use Rattle.dv_defs.specs.Boot.{Row, word, type_in}
use Rattle.dv_defs.specs.Linked.{IsImage}
use Rattle.dv_machine.specs.Unwinding.{exception_name, number_named, throwable_slot}
use Rattle.law_types.proofs.Equal.{ty_is}
use Rattle.law_linking.proofs.OrderedImages.{own_numbered}
use Rattle.law_linked.proofs.BootRows.{HasRow, row_there, parent_by}
use Rattle.law_linked.proofs.BootParts.{told_parent, field_parts}
use Rattle.law_linked.proofs.BootCells.{Keeps, kept_down, kept_own, kept_type}
use Rattle.law_linked.proofs.BootThrowable.{Picked, both_rows, cause_row, message_row, picked, picked_concrete, picked_row, plain, throwable}

-- of the two rows just one tells the name of the cause
alone : (k : ℕ) (r : Row) → slice_get both_rows k ≡ Some r → bytes_eq (word r 2) (word cause_row 2) ≡ true → r ≡ cause_row
unfolding message_row cause_row
alone zero r at same =
    let is : message_row ≡ r = cc in
    let wrong : bytes_eq (codes "message") (codes "cause") ≡ true = subst (λ x. bytes_eq (word x 2) (codes "cause") ≡ true) (sym is) same in
    absurd (cc)
alone (suc zero) r at same = let is : cause_row ≡ r = cc in sym is
alone (suc (suc k)) r at same = absurd (cc)

module _ (image : Image) (is : IsImage image) where
  abbrev cause_picked : Picked image (throwable image is).number (word cause_row 2) (throwable_slot image (word cause_row 2))
  cause_picked = picked image is 1 cause_row refl alone

  initializer : HasRow image (codes "Ljava/lang/ExceptionInInitializerError;" ∷ codes "-" ∷ codes "Ljava/lang/LinkageError;" ∷ [])
  initializer = row_there image is 28 (codes "Ljava/lang/ExceptionInInitializerError;" ∷ codes "-" ∷ codes "Ljava/lang/LinkageError;" ∷ []) refl

  -- ---- Throwable's cells in the classes down to ExceptionInInitializerError

  linkage : HasRow image (codes "Ljava/lang/LinkageError;" ∷ codes "-" ∷ codes "Ljava/lang/Error;" ∷ [])
  linkage = row_there image is 25 (codes "Ljava/lang/LinkageError;" ∷ codes "-" ∷ codes "Ljava/lang/Error;" ∷ []) refl

  error : HasRow image (codes "Ljava/lang/Error;" ∷ codes "-" ∷ throwable_name ∷ [])
  error = row_there image is 12 (codes "Ljava/lang/Error;" ∷ codes "-" ∷ throwable_name ∷ []) refl

  down : (id words : ℕ) (name parent : List ℕ) (has : HasRow image (name ∷ codes "-" ∷ parent ∷ [])) (p : ℕ) → class_named image parent ≡ Some p → bytes_eq parent (codes "-") ≡ false → Keeps (own_numbered image) id words p → Keeps (own_numbered image) id words has.number
  down id words name parent has p named some keeps =
      kept_down image is id words has.number p (slice_get_within image.classes has.number has.class has.at)
      (parent_by image is has.number has.class has.at parent p (told_parent parent has.class.def.parent has.as_row.parent some) named) keeps

  cell_type : type_at (class_cells image initializer.number) cause_picked.field.info.slot ≡ ty.Class (of_class throwable_name)
  unfolding cause_row
  cell_type =
      let f : Field = cause_picked.field in
      let id : ℕ = cause_picked.id in
      let parts = field_parts cause_row f.def (picked_row image is 1 cause_row refl alone) in
      let type_is : of_class throwable_name ≡ f.def.ty = ty_is (type_in (word cause_row 3)) f.def.ty parts.2 in
      let own : Keeps (own_numbered image) id f.info.slot (throwable image is).number =
      subst (Keeps (own_numbered image) id f.info.slot) cause_picked.class (kept_own image is id f cause_picked.at (plain f.def.flags parts.0).0 (picked_concrete image is 1 cause_row refl alone)) in
      let below : Keeps (own_numbered image) id f.info.slot error.number = down id f.info.slot (codes "Ljava/lang/Error;") throwable_name error (throwable image is).number (throwable image is).named refl own in
      let lower : Keeps (own_numbered image) id f.info.slot linkage.number = down id f.info.slot (codes "Ljava/lang/LinkageError;") (codes "Ljava/lang/Error;") linkage error.number error.named refl below in
      let lowest : Keeps (own_numbered image) id f.info.slot initializer.number = down id f.info.slot (codes "Ljava/lang/ExceptionInInitializerError;") (codes "Ljava/lang/LinkageError;") initializer linkage.number linkage.named refl lower in
      kept_type image is id f cause_picked.at initializer.number initializer.class initializer.at lowest ∙ ap (λ t. type_at (reg_types t) 0) (sym type_is)

  pub boot_cause : type_at (class_cells image (number_named image (exception_name named.InInitializer))) (throwable_slot image (codes "cause")) ≡ ty.Class (of_class throwable_name)
  unfolding cause_row
  boot_cause =
      ap (λ o. type_at (class_cells image (unwrap_or o 0)) (throwable_slot image (codes "cause"))) initializer.named ∙
      (ap (type_at (class_cells image initializer.number)) cause_picked.cell_is ∙ cell_type)
