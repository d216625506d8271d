-- The lines of a listed class, and what they tell.
use Rattle.std.proofs.Common.{◌≡◌, ℕ, ◌+◌, Bool, true, false, List, [], ◌∷◌, ◌++◌, map, Ok, refl, sym, ap, ◌∙◌, subst, append_assoc}
use Rattle.std.specs.Prelude.{All, Option, Some, None, Result}
use Rattle.std.specs.List.{flat_map}
use Rattle.std.proofs.lemmas.List.Elements.{All-nil, All-cons, All-append}
use Rattle.dv_defs.specs.declared.class.ClassDef.{ClassDef}
use Rattle.dv_defs.specs.declared.class.MethodDef.{MethodDef}
use Rattle.dv_defs.specs.Field.{FieldValue}
use Rattle.dv_lex.specs.declared.line.Stop.{Stop}
use Rattle.dv_lex.specs.Lines.{Reading}
use Rattle.dv_print.specs.Listing.{class_line as class_text_line, class_text, field_line, interface_line, method_lines, superclass_line}
use Rattle.dv_coderead.specs.Bodies.{number_behind}
use Rattle.dv_coderead.specs.Giving.{◌>>>◌}
use Rattle.dv_coderead.specs.Kept.{counts, line_of, open_behind}
use Rattle.dv_coderead.specs.Pieces.{Piece}
use Rattle.dv_classread.specs.declared.class_line.Standing.TheVariants.{Inside}
use Rattle.dv_classread.specs.declared.program.ClassDraft.{ClassDraft}
use Rattle.dv_classread.specs.Assembling.{classes_of}
use Rattle.dv_classread.specs.ClassLines.{is_object_name, lacks_super}
use Rattle.dv_classread.specs.Programs.{assembled_drafts, drafts_in, drafts_of, program_of}
use Rattle.dv_classread.specs.Schedules.{unclosed}
use Rattle.law_listing.specs.ClassListable.{IsListedClass, IsParentText}
use Rattle.law_listing.specs.ClassPieces.{IsClassText, IsListedField, class_pieces, field_pieces, interface_pieces, superclass_pieces, ClassLinesStand, FieldLinesAreRead, FieldLinesStand, InterfaceLinesAreRead, InterfaceLinesStand, SuperclassLinesAreRead, SuperclassLinesStand}
use Rattle.law_listing.specs.Printed.{HaveLines, NoLine, numbered}
use Rattle.law_listing.proofs.Lines.{lines_append, lines_map, same_lines}
use Rattle.law_listing.proofs.ClassListing.Kept.{Counts}
use Rattle.law_listing.proofs.ClassListing.Methods.{ListMethods}
use Rattle.law_listing.proofs.ClassListing.Told.{Tell, fields_told, interfaces_told, superclass_told}
use Rattle.law_listing.proofs.ClassPieces.Read.{class_head, field_head, implements_head, super_head}

-- ---- its lines

abbrev pub parent_pieces : Option (List ℕ) → List (List Piece)
parent_pieces None = []
parent_pieces (Some name) = superclass_pieces name ∷ []

-- behind the first and the superclass
abbrev pub member_pieces : List (List ℕ) → List FieldValue → List (List Piece) → List (List Piece)
member_pieces names fs pss = map interface_pieces names ++ (map field_pieces fs ++ pss)

abbrev pub whole_pieces : ClassDef → List (List Piece) → List (List Piece)
whole_pieces c pss = class_pieces c ∷ (parent_pieces c.parent ++ member_pieces c.interfaces c.fields pss)

parent_stands : SuperclassLinesStand → (is_object : Bool) (parent : Option (List ℕ)) → IsParentText is_object parent → HaveLines (superclass_line parent) (parent_pieces parent)
parent_stands stand is_object None h = NoLine
parent_stands stand is_object (Some name) h = stand name h.1

pub class_stands : ClassLinesStand → SuperclassLinesStand → InterfaceLinesStand → FieldLinesStand → (c : ClassDef) → IsListedClass c → (pss : List (List Piece))
    → HaveLines (flat_map method_lines c.methods) pss → HaveLines (class_text c) (whole_pieces c pss)
unfolding class_text
class_stands class super interface field c h pss methods =
    let fields = flat_map field_line c.fields in
    let interfaces = flat_map interface_line c.interfaces in
    let own = flat_map method_lines c.methods in
    let behind_interfaces = lines_append fields own (map field_pieces c.fields) pss (lines_map IsListedField field_line field_pieces c.fields field h.fields) methods in
    let members = lines_append interfaces (fields ++ own) (map interface_pieces c.interfaces) (map field_pieces c.fields ++ pss)
    (lines_map IsClassText interface_line interface_pieces c.interfaces interface h.interfaces) behind_interfaces in
    let behind = lines_append (superclass_line c.parent) (interfaces ++ (fields ++ own)) (parent_pieces c.parent) (member_pieces c.interfaces c.fields pss)
    (parent_stands super (is_object_name c.name) c.parent h.parent) members in
    let all = lines_append (class_text_line c) (superclass_line c.parent ++ (interfaces ++ (fields ++ own))) (class_pieces c ∷ []) (parent_pieces c.parent ++ member_pieces c.interfaces c.fields pss)
    (class c h.name) behind in
    same_lines _ (class_text_line c ++ (superclass_line c.parent ++ (interfaces ++ (fields ++ own)))) (whole_pieces c pss) (simp append_assoc) all

-- ---- they count

map_counts : {A : Type 0} (f : A → List Piece) → ((x : A) → Counts (f x)) → (xs : List A) → All Counts (map f xs)
map_counts f each [] = All-nil Counts
map_counts f each (x ∷ xs) = All-cons Counts (f x) (map f xs) (each x) (map_counts f each xs)

parent_counts : (parent : Option (List ℕ)) → All Counts (parent_pieces parent)
parent_counts None = All-nil Counts
parent_counts (Some name) = All-cons Counts (superclass_pieces name) [] (record { counts = ap (counts 0) (super_head _) }) (All-nil Counts)

pub class_counts : (c : ClassDef) (pss : List (List Piece)) → All Counts pss → All Counts (whole_pieces c pss)
class_counts c pss all =
    let fields = map_counts field_pieces (λ f. record { counts = ap (counts 0) (field_head _) }) c.fields in
    let interfaces = map_counts interface_pieces (λ name. record { counts = ap (counts 0) (implements_head _) }) c.interfaces in
    let behind_interfaces = All-append Counts (map field_pieces c.fields) pss fields all in
    let members = All-append Counts (map interface_pieces c.interfaces) (map field_pieces c.fields ++ pss) interfaces behind_interfaces in
    let behind = All-append Counts (parent_pieces c.parent) (member_pieces c.interfaces c.fields pss) (parent_counts c.parent) members in
    All-cons Counts (class_pieces c) (parent_pieces c.parent ++ member_pieces c.interfaces c.fields pss) (record { counts = ap (counts 0) (class_head _) }) behind

-- ---- what they tell

module _ (interface : InterfaceLinesAreRead) (field : FieldLinesAreRead) (past : ℕ) (names : List (List ℕ)) (fs : List FieldValue) (ms : List MethodDef) (all_names : All IsClassText names) (all_fields : All IsListedField fs) (m : ListMethods ms) where
  members_told : (is_object has_super : Bool) → lacks_super (Inside is_object has_super) ≡ false → (n : ℕ)
      → Tell past (Inside is_object has_super) n (member_pieces names fs m.pieces) None names fs ms
  members_told is_object has_super closed =
      interfaces_told past is_object has_super (map field_pieces fs ++ m.pieces) None names fs ms interface all_names
      (fields_told past is_object has_super m.pieces None fs ms field all_fields (m.told past is_object has_super closed))

  pub parent_told : SuperclassLinesAreRead → (is_object : Bool) (parent : Option (List ℕ)) → IsParentText is_object parent → (n : ℕ)
      → Tell past (Inside is_object false) n (parent_pieces parent ++ member_pieces names fs m.pieces) parent names fs ms
  parent_told super is_object None is n = members_told is_object false (rw is refl) n
  parent_told super is_object (Some name) h n =
      subst (λ b. Tell past (Inside b false) n (superclass_pieces name ∷ member_pieces names fs m.pieces) (Some name) names fs ms) (sym h.0)
      (superclass_told past n name (member_pieces names fs m.pieces) None names fs ms super h.1 (members_told false true refl (n + 1)))

-- ---- a text without a schedule

pub text_read : (r : Reading) (pss : List (List Piece)) (cs : List ClassDraft) (ds : List ClassDef) → r.stop ≡ None → map line_of r.lines ≡ numbered 1 pss → open_behind 0 (numbered 1 pss) ≡ 0
    → drafts_of None (number_behind (numbered 1 pss)) (numbered 1 pss) ≡ Ok cs → classes_of cs ≡ Ok ds → program_of false r ≡ Ok (record { classes = ds; log = [] })
unfolding program_of drafts_in
text_read r pss cs ds well lines closed drafts whole =
    let past = number_behind (numbered 1 pss) in
    ap (λ stop. drafts_in false stop (map line_of r.lines) >>> assembled_drafts) well ∙ ap (λ ls. drafts_in false None ls >>> assembled_drafts) lines
    ∙ ap (λ n. (drafts_of (unclosed past n) past (numbered 1 pss) >>> λ xs. Ok (xs, [])) >>> assembled_drafts) closed
    ∙ ap (λ (d : Result (List ClassDraft) Stop). (d >>> λ xs. Ok (xs, [])) >>> assembled_drafts) drafts
    ∙ ap (λ (d : Result (List ClassDef) Stop). d >>> λ classes. Ok (record { classes = classes; log = [] })) whole
