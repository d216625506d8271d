-- The table of boot classes by name, and whether classes are those of given rows.
use Rattle.std.specs.Prelude.{Bool, false, ◌&&◌, not, List, drop, filter, find, Option, Some, None, bytes_eq}
use Rattle.std.specs.List.{list_any}
use Rattle.dv_defs.specs.declared.boot.TheConstants.{BOOT_CLASSES, BOOT_FIELDS, BOOT_METHODS}
use Rattle.dv_defs.specs.declared.class.ClassDef.{ClassDef}
use Rattle.dv_defs.specs.First.{when}
use Rattle.dv_defs.specs.Boot.{Row, word, rows, is_row_of, flags_are, parent_is, names_are, fields_are, methods_are}
use Rattle.dv_defs.specs.LinkFaults.{Found, not_there}

-- the rows of the classes, of their fields and of their methods
unfoldable pub class_table : List Row
class_table = rows BOOT_CLASSES.now

unfoldable pub field_table : List Row
field_table = rows BOOT_FIELDS.now

unfoldable pub method_table : List Row
method_table = rows BOOT_METHODS.now

-- a class is as a row has it, with these rows of fields and of methods
abbrev pub class_is_by : List Row → List Row → Row → ClassDef → Bool
class_is_by fields methods row c =
    flags_are (word row 1) c.flags && parent_is (word row 2) c.parent && names_are (drop 3 row) c.interfaces &&
    fields_are (filter (is_row_of (word row 0)) fields) c.fields && methods_are (filter (is_row_of (word row 0)) methods) c.methods

abbrev pub has_row_by : List Row → List Row → List ClassDef → Row → Bool
has_row_by fields methods cs row =
    elim (find (λ c. bytes_eq c.name (word row 0)) cs) [ None ↦ false | Some c ↦ class_is_by fields methods row c ]

abbrev pub row_lacks_by : List Row → List Row → List ClassDef → Row → Option Found
row_lacks_by fields methods cs row = when (not (has_row_by fields methods cs row)) (not_there (word row 0))

-- a class that none of these rows is for
abbrev pub is_foreign_by : List Row → ClassDef → Option Found
is_foreign_by classes c = when (not (list_any (is_row_of c.name) classes)) (not_there c.name)
