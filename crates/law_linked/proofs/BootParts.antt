-- A linked image has the boot classes that a step names, each with what the step counts on, but for cells.
use Rattle.std.proofs.Common.{◌≡◌, ℕ, zero, suc, Bool, true, false, not, ◌&&◌, ◌||◌, List, [], ◌∷◌, length, drop, Option, Some, None, refl, sym, ap, subst, ◌∙◌}
use Rattle.std.specs.Prelude.{bytes_eq, slice_get, codes, All}
use Rattle.std.specs.List.{list_any, list_all}
use Rattle.std.proofs.lemmas.Bool.{and_parts}
use Rattle.std.proofs.lemmas.Slice.Eq.{bytes_eq-Decides}
use Rattle.std.proofs.lemmas.Option.{slice_get_within}
use Rattle.std.proofs.lemmas.List.Elements.{All-nil, All-cons}
use Rattle.dv_defs.specs.declared.class.FieldDef.{FieldDef}
use Rattle.dv_defs.specs.declared.class.MethodDef.{MethodDef}
use Rattle.dv_defs.specs.declared.image.ClassInfo.{ClassInfo}
use Rattle.dv_defs.specs.declared.run.Named.{Named}
use Rattle.dv_defs.specs.declared.run.Named.TheVariants as named
use Rattle.dv_defs.specs.declared.flags.Flag.TheVariants as flag
use Rattle.dv_defs.specs.Flags.{has_flag}
use Rattle.dv_defs.specs.Images.{Image}
use Rattle.dv_defs.specs.Names.{object_name, class_name, string_name, thread_name, throwable_name, stream_name, system_name, init_name, stack_overflow_name}
use Rattle.dv_defs.specs.Types.{of_class, ty_eq}
use Rattle.dv_defs.specs.Pools.{Method, Field, method_at, field_at, is_static, is_static_field, is_constructor, class_named, name_at, declared_name, parent_at}
use Rattle.dv_defs.specs.Order.{implements, both_found, instance, fits, is_interface_type}
use Rattle.dv_defs.specs.Boot.{Row, word, class_rows, flags_are, parent_is, method_is, field_rows, method_rows, result_is, types_are, field_is, fields_are, type_in, effective, tells_flag, both_or_none}
use Rattle.dv_defs.specs.Linked.{IsImage}
use Rattle.dv_machine.specs.Conforming.{is_string_or_class}
use Rattle.dv_machine.specs.Unwinding.{exception_name}
use Rattle.dv_machine.specs.Accepted.{IsNamed}
use Rattle.law_types.proofs.Equal.{ty_is}
use Rattle.law_linking.proofs.Reach.{reaches_here, reaches_up, reaches_bounded}
use Rattle.law_linking.proofs.Upward.{parent_is_above}
use Rattle.law_linking.proofs.OrderedImages.{image_ordered}
use Rattle.law_linked.proofs.BootRows.{HasRow, row_there, row_class, parent_by, method_row, field_row, not_any, MethodIn, method_in, FieldIn, field_in}

-- a superclass that a row tells
pub told_parent : (w : List ℕ) (o : Option (List ℕ)) → parent_is w o ≡ true → bytes_eq w (codes "-") ≡ false → o ≡ Some w
told_parent w None is some = absurd (let both : false ≡ true = sym some ∙ is in cc)
told_parent w (Some name) is some =
    let same : bytes_eq w name ≡ true = (and_parts (not (bytes_eq w (codes "-"))) (bytes_eq w name) is).1 in
    ap Some (sym ((bytes_eq-Decides w name).0 same))

refuted : (b : Bool) → (b ≡ true → true ≡ false) → b ≡ false
refuted true h = h refl
refuted false h = refl

second : (p q r s : Bool) → (p && q && r && s) ≡ true → q ≡ true
second true true r s h = refl
second true false r s h = absurd (cc)
second false q r s h = absurd (cc)

-- a method's name is that of its row
method_name : (row : Row) (m : MethodDef) → method_is row m ≡ true → bytes_eq (word row 2) m.name ≡ true
method_name row m is =
    second (flags_are (word row 1) m.flags) (bytes_eq (word row 2) m.name) (result_is (word row 3) m.proto.ret) (types_are (drop 4 row) m.proto.params) is

three : (p q r : Bool) → (p && q && r) ≡ true → (p ≡ true) × (q ≡ true) × (r ≡ true)
three true true true h = (refl, refl, refl)
three true true false h = absurd (cc)
three true false r h = absurd (cc)
three false q r h = absurd (cc)

-- a field is as its row has it
pub field_parts : (row : Row) (f : FieldDef) → field_is row f ≡ true → (flags_are (word row 1) f.flags ≡ true) × (bytes_eq (word row 2) f.name ≡ true) × (ty_eq (type_in (word row 3)) f.ty ≡ true)
field_parts row f is = three (flags_are (word row 1) f.flags) (bytes_eq (word row 2) f.name) (ty_eq (type_in (word row 3)) f.ty) is

-- the row of System.out, System's only field
unfoldable out_row : Row
out_row = system_name ∷ codes "static+final" ∷ codes "out" ∷ stream_name ∷ []

system_fields : field_rows system_name ≡ out_row ∷ []
unfolding out_row
system_fields = refl

only : (k : ℕ) (row other : Row) → slice_get (row ∷ []) k ≡ Some other → other ≡ row
only zero row other at = let same : row ≡ other = cc in sym same
only (suc k) row other at = absurd (cc)

told_static : (flags : ℕ) → flags_are (codes "static+final") flags ≡ true → has_flag flags flag.Static ≡ true
told_static flags are =
    (and_parts (has_flag flags flag.Static) (list_all (λ f. both_or_none (tells_flag (codes "static+final") f) (has_flag flags f)) (drop 1 effective)) are).0

module _ (image : Image) (is : IsImage image) where
  -- ---- the classes that are there

  named_row : (k : ℕ) (row : Row) → slice_get class_rows k ≡ Some row → IsNamed image (word row 0)
  named_row k row at = let has = row_there image is k row at in (has.number, has.named)

  pub boot_there : All (IsNamed image) (object_name ∷ class_name ∷ string_name ∷ thread_name ∷ throwable_name ∷ stream_name ∷ stack_overflow_name ∷ [])
  boot_there =
      All-cons (IsNamed image) object_name (class_name ∷ string_name ∷ thread_name ∷ throwable_name ∷ stream_name ∷ stack_overflow_name ∷ []) (named_row 0 _ refl)
      (All-cons (IsNamed image) class_name (string_name ∷ thread_name ∷ throwable_name ∷ stream_name ∷ stack_overflow_name ∷ []) (named_row 2 _ refl)
      (All-cons (IsNamed image) string_name (thread_name ∷ throwable_name ∷ stream_name ∷ stack_overflow_name ∷ []) (named_row 4 _ refl)
      (All-cons (IsNamed image) thread_name (throwable_name ∷ stream_name ∷ stack_overflow_name ∷ []) (named_row 3 _ refl)
      (All-cons (IsNamed image) throwable_name (stream_name ∷ stack_overflow_name ∷ []) (named_row 10 _ refl)
      (All-cons (IsNamed image) stream_name (stack_overflow_name ∷ []) (named_row 7 _ refl)
      (All-cons (IsNamed image) stack_overflow_name [] (named_row 32 _ refl)
      (All-nil (IsNamed image))))))))

  -- ---- the exceptions

  throwable : HasRow image (throwable_name ∷ codes "-" ∷ object_name ∷ [])
  throwable = row_there image is 10 (throwable_name ∷ codes "-" ∷ object_name ∷ []) refl

  -- a class under Throwable
  record IsThrown (name : List ℕ) : Type 0 where
    number : ℕ
    named : class_named image name ≡ Some number
    under : implements image number throwable.number ≡ true

  top : IsThrown throwable_name
  top = record { number = throwable.number; named = throwable.named; under = reaches_here image (length image.classes) throwable.number }

  below : (k : ℕ) (name parent : List ℕ) → slice_get class_rows k ≡ Some (name ∷ codes "-" ∷ parent ∷ []) → bytes_eq parent (codes "-") ≡ false → IsThrown parent → IsThrown name
  below k name parent at some above =
      let has = row_there image is k (name ∷ codes "-" ∷ parent ∷ []) at in
      let up : parent_at image has.number ≡ Some above.number =
      parent_by image is has.number has.class has.at parent above.number (told_parent parent has.class.def.parent has.as_row.parent some) above.named in
      record {
        number = has.number;
        named = has.named;
        under =
            reaches_bounded image (image_ordered image is).range (suc (suc (length image.classes))) throwable.number has.number
            (slice_get_within image.classes has.number has.class has.at)
            (reaches_up image (suc (length image.classes)) throwable.number has.number above.number
            (parent_is_above image has.number above.number up) above.under);
      }

  exception : IsThrown (codes "Ljava/lang/Exception;")
  exception = below 11 (codes "Ljava/lang/Exception;") throwable_name refl refl top

  error : IsThrown (codes "Ljava/lang/Error;")
  error = below 12 (codes "Ljava/lang/Error;") throwable_name refl refl top

  runtime : IsThrown (codes "Ljava/lang/RuntimeException;")
  runtime = below 13 (codes "Ljava/lang/RuntimeException;") (codes "Ljava/lang/Exception;") refl refl exception

  bounds : IsThrown (codes "Ljava/lang/IndexOutOfBoundsException;")
  bounds = below 21 (codes "Ljava/lang/IndexOutOfBoundsException;") (codes "Ljava/lang/RuntimeException;") refl refl runtime

  argument : IsThrown (codes "Ljava/lang/IllegalArgumentException;")
  argument = below 22 (codes "Ljava/lang/IllegalArgumentException;") (codes "Ljava/lang/RuntimeException;") refl refl runtime

  linkage : IsThrown (codes "Ljava/lang/LinkageError;")
  linkage = below 25 (codes "Ljava/lang/LinkageError;") (codes "Ljava/lang/Error;") refl refl error

  machine : IsThrown (codes "Ljava/lang/VirtualMachineError;")
  machine = below 26 (codes "Ljava/lang/VirtualMachineError;") (codes "Ljava/lang/Error;") refl refl error

  change : IsThrown (codes "Ljava/lang/IncompatibleClassChangeError;")
  change = below 29 (codes "Ljava/lang/IncompatibleClassChangeError;") (codes "Ljava/lang/LinkageError;") refl refl linkage

  thrown_by : (n : Named) → IsThrown (exception_name n)
  thrown_by named.Arithmetic = below 15 (codes "Ljava/lang/ArithmeticException;") (codes "Ljava/lang/RuntimeException;") refl refl runtime
  thrown_by named.NullPointer = below 16 (codes "Ljava/lang/NullPointerException;") (codes "Ljava/lang/RuntimeException;") refl refl runtime
  thrown_by named.NegativeArraySize = below 17 (codes "Ljava/lang/NegativeArraySizeException;") (codes "Ljava/lang/RuntimeException;") refl refl runtime
  thrown_by named.ArrayIndex = below 23 (codes "Ljava/lang/ArrayIndexOutOfBoundsException;") (codes "Ljava/lang/IndexOutOfBoundsException;") refl refl bounds
  thrown_by named.ArrayStore = below 19 (codes "Ljava/lang/ArrayStoreException;") (codes "Ljava/lang/RuntimeException;") refl refl runtime
  thrown_by named.ClassCast = below 18 (codes "Ljava/lang/ClassCastException;") (codes "Ljava/lang/RuntimeException;") refl refl runtime
  thrown_by named.IllegalMonitorState = below 20 (codes "Ljava/lang/IllegalMonitorStateException;") (codes "Ljava/lang/RuntimeException;") refl refl runtime
  thrown_by named.IllegalThreadState = below 24 (codes "Ljava/lang/IllegalThreadStateException;") (codes "Ljava/lang/IllegalArgumentException;") refl refl argument
  thrown_by named.IndexOutOfBounds = bounds
  thrown_by named.OutOfMemory = below 31 (codes "Ljava/lang/OutOfMemoryError;") (codes "Ljava/lang/VirtualMachineError;") refl refl machine
  thrown_by named.NoClassDef = below 27 (codes "Ljava/lang/NoClassDefFoundError;") (codes "Ljava/lang/LinkageError;") refl refl linkage
  thrown_by named.InInitializer = below 28 (codes "Ljava/lang/ExceptionInInitializerError;") (codes "Ljava/lang/LinkageError;") refl refl linkage
  thrown_by named.ClassChange = change
  thrown_by named.AbstractMethod = below 30 (codes "Ljava/lang/AbstractMethodError;") (codes "Ljava/lang/IncompatibleClassChangeError;") refl refl change

  pub boot_exceptions : (n : Named) → IsNamed image (exception_name n)
  boot_exceptions n = let thrown = thrown_by n in (thrown.number, thrown.named)

  both_are : (name : List ℕ) → IsThrown name → instance image (of_class name) (of_class throwable_name) ≡ true
  unfolding instance
  both_are name thrown = by (ty_eq (of_class name) (of_class throwable_name))
    where
      numbered : both_found (implements image) (class_named image name) (class_named image throwable_name) ≡ true
      numbered = ap (λ o. both_found (implements image) o (class_named image throwable_name)) thrown.named ∙ ap (both_found (implements image) (Some thrown.number)) throwable.named ∙ thrown.under

      by : (b : Bool) → elim b [ true ↦ true | false ↦ both_found (implements image) (class_named image name) (class_named image throwable_name) ] ≡ true
      by true = refl
      by false = numbered

  throws_of : (name : List ℕ) → IsThrown name → fits image (of_class name) (of_class throwable_name) ≡ true
  unfolding fits
  throws_of name thrown = by (is_interface_type image (of_class throwable_name))
    where
      by : (b : Bool) → elim b [ true ↦ true | false ↦ instance image (of_class name) (of_class throwable_name) ] ≡ true
      by true = refl
      by false = both_are name thrown

  pub boot_thrown : (n : Named) → fits image (of_class (exception_name n)) (of_class throwable_name) ≡ true
  boot_thrown n = throws_of (exception_name n) (thrown_by n)

  pub boot_overflows : fits image (of_class stack_overflow_name) (of_class throwable_name) ≡ true
  boot_overflows = throws_of stack_overflow_name (below 32 stack_overflow_name (codes "Ljava/lang/VirtualMachineError;") refl refl machine)

  -- ---- the classes String, Class and Object

  object : HasRow image (object_name ∷ codes "-" ∷ codes "-" ∷ [])
  object = row_there image is 0 (object_name ∷ codes "-" ∷ codes "-" ∷ []) refl

  class : HasRow image (class_name ∷ codes "final" ∷ object_name ∷ [])
  class = row_there image is 2 (class_name ∷ codes "final" ∷ object_name ∷ []) refl

  string : HasRow image (string_name ∷ codes "final" ∷ object_name ∷ [])
  string = row_there image is 4 (string_name ∷ codes "final" ∷ object_name ∷ []) refl

  -- where no row of a class tells a name, none of its methods has it
  bare_by : (row : Row) → HasRow image row → list_any (λ r. bytes_eq (word r 2) init_name) (method_rows (word row 0)) ≡ false → (m : Method) → (own : MethodIn image m) → own.class.def.name ≡ word row 0 → bytes_eq m.def.name init_name ≡ false
  bare_by row has none m own name =
      let same = row_class image is row has m.info.class.0 own.class own.class_at name in
      let stands : slice_get has.class.def.methods m.info.place ≡ Some m.def = subst (λ (c : ClassInfo). slice_get c.def.methods m.info.place ≡ Some m.def) same.1 own.there in
      let found = method_row (method_rows (word row 0)) has.class.def.methods m.info.place m.def has.as_row.methods stands in
      let other : bytes_eq (word found.0 2) init_name ≡ false = not_any (λ r. bytes_eq (word r 2) init_name) (method_rows (word row 0)) m.info.place found.0 none found.1 in
      let alike : word found.0 2 ≡ m.def.name = (bytes_eq-Decides (word found.0 2) m.def.name).0 (method_name found.0 m.def found.2) in
      subst (λ n. bytes_eq n init_name ≡ false) alike other

  pub boot_no_bare : (n : ℕ) (m : Method) → method_at image n ≡ Some m → is_constructor m ≡ true → is_string_or_class (name_at image m.info.class.0) ≡ false
  boot_no_bare n m at made = by (method_in image n m at)
    where
      apart : (own : MethodIn image m) (row : Row) → HasRow image row → list_any (λ r. bytes_eq (word r 2) init_name) (method_rows (word row 0)) ≡ false → bytes_eq own.class.def.name (word row 0) ≡ false
      apart own row has none =
          refuted (bytes_eq own.class.def.name (word row 0))
          (λ same. sym (and_parts (not (is_static m)) (bytes_eq m.def.name init_name) made).1 ∙ bare_by row has none m own ((bytes_eq-Decides own.class.def.name (word row 0)).0 same))

      by : MethodIn image m → is_string_or_class (name_at image m.info.class.0) ≡ false
      by own =
          ap (λ c. is_string_or_class (declared_name c)) own.class_at ∙
          rw (apart own (string_name ∷ codes "final" ∷ object_name ∷ []) string refl) (apart own (class_name ∷ codes "final" ∷ object_name ∷ []) class refl)

  under_object : (row : Row) → HasRow image row → word row 2 ≡ object_name → (c : ℕ) (info : ClassInfo) → slice_get image.classes c ≡ Some info → info.def.name ≡ word row 0 → parent_at image c ≡ Some object.number
  under_object row has root c info at name =
      let same = row_class image is row has c info at name in
      let some : bytes_eq (word row 2) (codes "-") ≡ false = ap (λ w. bytes_eq w (codes "-")) root in
      let told : info.def.parent ≡ Some (word row 2) = ap (λ (i : ClassInfo). i.def.parent) same.1 ∙ told_parent (word row 2) has.class.def.parent has.as_row.parent some in
      parent_by image is c info at object_name object.number (told ∙ ap Some root) object.named

  pub boot_alone : (c p : ℕ) → is_string_or_class (name_at image c) ≡ true → parent_at image c ≡ Some p → name_at image p ≡ object_name
  boot_alone c p special above = by (slice_get image.classes c) refl
    where
      named_object : parent_at image c ≡ Some object.number → name_at image p ≡ object_name
      named_object up =
          let both : Some p ≡ Some object.number = sym above ∙ up in
          let same : p ≡ object.number = cc in
          ap (name_at image) same ∙ ap declared_name object.at ∙ object.name

      which : (info : ClassInfo) → slice_get image.classes c ≡ Some info → (b : Bool) → bytes_eq info.def.name string_name ≡ b → (b || bytes_eq info.def.name class_name) ≡ true → name_at image p ≡ object_name
      which info at true e h = named_object (under_object (string_name ∷ codes "final" ∷ object_name ∷ []) string refl c info at ((bytes_eq-Decides info.def.name string_name).0 e))
      which info at false e h = named_object (under_object (class_name ∷ codes "final" ∷ object_name ∷ []) class refl c info at ((bytes_eq-Decides info.def.name class_name).0 h))

      by : (o : Option ClassInfo) → slice_get image.classes c ≡ o → name_at image p ≡ object_name
      by None at = absurd (let both : false ≡ true = sym (ap (λ o. is_string_or_class (declared_name o)) at) ∙ special in cc)
      by (Some info) at = which info at (bytes_eq info.def.name string_name) refl (sym (ap (λ o. is_string_or_class (declared_name o)) at) ∙ special)

  -- where the table has no field of a class, none is of it
  fieldless : (row : Row) → HasRow image row → field_rows (word row 0) ≡ [] → (x : ℕ) (f : Field) (own : FieldIn image x f) → bytes_eq own.class.def.name (word row 0) ≡ false
  fieldless row has none x f own = refuted (bytes_eq own.class.def.name (word row 0)) by
    where
      by : bytes_eq own.class.def.name (word row 0) ≡ true → true ≡ false
      by same =
          let is_class = row_class image is row has f.info.class.0 own.class own.class_at ((bytes_eq-Decides own.class.def.name (word row 0)).0 same) in
          let stands : slice_get has.class.def.fields f.info.place ≡ Some f.def = subst (λ (c : ClassInfo). slice_get c.def.fields f.info.place ≡ Some f.def) is_class.1 own.there in
          let are : fields_are [] has.class.def.fields ≡ true = subst (λ rows. fields_are rows has.class.def.fields ≡ true) none has.as_row.fields in
          let found = field_row [] has.class.def.fields f.info.place f.def are stands in
          absurd (let nothing : slice_get [] f.info.place ≡ Some found.0 = found.1 in cc)

  pub boot_no_fields : (x : ℕ) (f : Field) → field_at image x ≡ Some f → is_static_field f ≡ false → (bytes_eq (name_at image f.info.class.0) object_name || is_string_or_class (name_at image f.info.class.0)) ≡ false
  boot_no_fields x f at instance_field = by (field_in image x f at)
    where
      by : FieldIn image x f → (bytes_eq (name_at image f.info.class.0) object_name || is_string_or_class (name_at image f.info.class.0)) ≡ false
      by own =
          ap (λ c. bytes_eq (declared_name c) object_name || is_string_or_class (declared_name c)) own.class_at ∙
          rw (fieldless (object_name ∷ codes "-" ∷ codes "-" ∷ []) object refl x f own, fieldless (string_name ∷ codes "final" ∷ object_name ∷ []) string refl x f own)
          (fieldless (class_name ∷ codes "final" ∷ object_name ∷ []) class refl x f own)

  -- ---- the class System

  system : HasRow image (system_name ∷ codes "final" ∷ object_name ∷ [])
  system = row_there image is 6 (system_name ∷ codes "final" ∷ object_name ∷ []) refl

  pub boot_out : (x : ℕ) (f : Field) → field_at image x ≡ Some f → name_at image f.info.class.0 ≡ system_name → f.def.name ≡ codes "out" → (is_static_field f ≡ true) × (f.def.ty ≡ of_class stream_name)
  unfolding out_row
  boot_out x f at of_system out = by (field_in image x f at)
    where
      by : FieldIn image x f → (is_static_field f ≡ true) × (f.def.ty ≡ of_class stream_name)
      by own =
          let is_class = row_class image is (system_name ∷ codes "final" ∷ object_name ∷ []) system f.info.class.0 own.class own.class_at (sym (ap declared_name own.class_at) ∙ of_system) in
          let stands : slice_get system.class.def.fields f.info.place ≡ Some f.def = subst (λ (c : ClassInfo). slice_get c.def.fields f.info.place ≡ Some f.def) is_class.1 own.there in
          let are : fields_are (out_row ∷ []) system.class.def.fields ≡ true = subst (λ rows. fields_are rows system.class.def.fields ≡ true) system_fields system.as_row.fields in
          let found = field_row (out_row ∷ []) system.class.def.fields f.info.place f.def are stands in
          let told : field_is out_row f.def ≡ true = subst (λ row. field_is row f.def ≡ true) (only f.info.place out_row found.0 found.1) found.2 in
          let parts = field_parts out_row f.def told in
          (told_static f.def.flags parts.0, sym (ty_is (type_in (word out_row 3)) f.def.ty parts.2))
