-- The text of a draft.
use Rattle.std.specs.Prelude.{ℕ, ◌/◌, ◌==◌, ℤ, List, [], ◌∷◌, ◌++◌, length, codes, decimal, Option, Some, None, if◌then◌else◌}
use Rattle.std.specs.Fmt.{signed_decimal}
use Rattle.std.specs.List.{flat_map, zip}
use Rattle.dv_defs.specs.declared.names.Ty.{Ty}
use Rattle.dv_defs.specs.Numbers.{elements}
use Rattle.dv_defs.specs.Tiling.{is_width}
use Rattle.dv_names.specs.Descriptors.{descriptor}
use Rattle.dv_draft.specs.declared.draft.Item.{Item}
use Rattle.dv_draft.specs.declared.draft.Catch.{Catch}
use Rattle.dv_draft.specs.declared.draft.What.{What}
use Rattle.dv_draft.specs.declared.draft.What.TheVariants as what
use Rattle.dv_draft.specs.Draft.{DraftValue}
use Rattle.dv_print.specs.Operands.{label_text, insn_text}

-- a label on a line of its own
abbrev pub label_line : List ℕ → List ℕ
label_line name = label_text name ++ codes "\n"

-- a key of a sparse switch with its label
abbrev pub case_line : ℤ × List ℕ → List ℕ
case_line x = signed_decimal x.0 ++ codes " -> " ++ label_text x.1 ++ codes "\n"

-- the suffix of an array's elements of so many bytes
abbrev pub suffix_of : ℕ → List ℕ
suffix_of width =
    if width == 1 then codes "t" else
    if width == 2 then codes "s" else
    if width == 8 then codes "L" else
    []

-- an element of so many bytes
abbrev pub element_line : ℕ → ℤ → List ℕ
element_line width n = signed_decimal n ++ suffix_of width ++ codes "\n"

abbrev pub packed_text : ℤ → List (List ℕ) → List ℕ
packed_text first targets =
    codes ".packed-switch " ++ signed_decimal first ++ codes "\n" ++
    flat_map label_line targets ++
    codes ".end packed-switch\n"

abbrev pub sparse_text : List ℤ → List (List ℕ) → List ℕ
sparse_text keys targets =
    codes ".sparse-switch\n" ++
    flat_map case_line (zip keys targets) ++
    codes ".end sparse-switch\n"

-- how many elements of that width an array has
abbrev pub element_count : ℕ → List ℕ → ℕ
element_count width bytes = if is_width width then length bytes / width else 0

abbrev pub data_text : ℕ → List ℕ → List ℕ
data_text width bytes =
    codes ".array-data " ++ decimal width ++ codes "\n" ++
    flat_map (element_line width) (elements (element_count width bytes) width bytes) ++
    codes ".end array-data\n"

abbrev pub what_text : What → List ℕ
what_text (what.Label name) = label_line name
what_text (what.Op op) = insn_text op ++ codes "\n"
what_text (what.Packed first targets) = packed_text first targets
what_text (what.Sparse keys targets) = sparse_text keys targets
what_text (what.Data width bytes) = data_text width bytes

abbrev pub item_text : Item → List ℕ
item_text item = what_text item.what

abbrev pub kind_text : Option Ty → List ℕ
kind_text None = codes ".catchall"
kind_text (Some ty) = codes ".catch " ++ descriptor ty

abbrev pub catch_text : Catch → List ℕ
catch_text c =
    kind_text c.kind ++ codes " {" ++ label_text c.from ++ codes " .. " ++ label_text c.to ++ codes "} " ++
    label_text c.at ++ codes "\n"

abbrev pub registers_text : ℕ → List ℕ
registers_text n = codes ".registers " ++ decimal n ++ codes "\n"

abbrev pub draft_text : DraftValue → List ℕ
draft_text d = registers_text d.registers ++ flat_map item_text d.items ++ flat_map catch_text d.catches
