-- The message of a Throwable is a String.
use Rattle.std.proofs.Common.{◌≡◌, ℕ, zero, suc, true, Some, refl, sym, ap, subst, ◌∙◌}
use Rattle.std.specs.Prelude.{bytes_eq, slice_get, codes}
use Rattle.dv_defs.specs.Boot.{Row, word, type_in}
use Rattle.dv_defs.specs.Pools.{declared_name}
use Rattle.dv_defs.specs.Types.{of_class}
use Rattle.law_types.proofs.Equal.{ty_is}
use Rattle.law_linked.specs.Laws.{LinkedMessagesAreStrings}
use Rattle.law_linked.proofs.BootParts.{field_parts}
use Rattle.law_linked.proofs.BootThrowable.{both_rows, cause_row, message_row, picked, picked_concrete, picked_row, plain, throwable}

-- of the two rows just one tells the name of the message
alone : (k : ℕ) (r : Row) → slice_get both_rows k ≡ Some r → bytes_eq (word r 2) (word message_row 2) ≡ true → r ≡ message_row
unfolding message_row cause_row
alone zero r at same = let is : message_row ≡ r = cc in sym is
alone (suc zero) r at same =
    let is : cause_row ≡ r = cc in
    let wrong : bytes_eq (codes "cause") (codes "message") ≡ true = subst (λ x. bytes_eq (word x 2) (codes "message") ≡ true) (sym is) same in
    absurd (cc)
alone (suc (suc k)) r at same = absurd (cc)

pub linked_messages_are_strings : LinkedMessagesAreStrings
unfolding message_row
linked_messages_are_strings image is =
    let found = picked image is 0 message_row refl alone in
    let parts = field_parts message_row found.field.def (picked_row image is 0 message_row refl alone) in
    record {
      id = found.id;
      field = found.field;
      at = found.at;
      placed = (plain found.field.def.flags parts.0).0;
      concrete = picked_concrete image is 0 message_row refl alone;
      class =
          ap (λ c. of_class (declared_name (slice_get image.classes c))) found.class ∙
          (ap (λ c. of_class (declared_name c)) (throwable image is).at ∙ ap of_class (throwable image is).name);
      ty = sym (ty_is (type_in (word message_row 3)) found.field.def.ty parts.2);
      slot = found.cell_is;
    }
