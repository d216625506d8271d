-- What the lines of a class tell, line by line.
use Rattle.std.proofs.Common.{◌≡◌, ℕ, ◌+◌, Bool, true, false, List, [], ◌∷◌, ◌++◌, length, map, Ok, refl, sym, ap, ◌∙◌, append-nil, append_assoc, arith}
use Rattle.std.specs.Prelude.{All, Option, Some, None}
use Rattle.std.proofs.lemmas.Bool.{cond-false}
use Rattle.std.proofs.lemmas.List.Elements.{All-head, All-tail}
use Rattle.dv_defs.specs.declared.class.MethodDef.{MethodDef}
use Rattle.dv_defs.specs.Field.{FieldValue}
use Rattle.dv_lex.specs.declared.line.Stop.{Stop}
use Rattle.dv_coderead.specs.Giving.{◌>>>◌, on_line}
use Rattle.dv_coderead.specs.Heads.{head_of}
use Rattle.dv_coderead.specs.Kept.{TextLine}
use Rattle.dv_coderead.specs.Pieces.{Piece}
use Rattle.dv_classread.specs.declared.class_line.ClassLine.{ClassLine}
use Rattle.dv_classread.specs.declared.class_line.ClassLine.TheVariants as line
use Rattle.dv_classread.specs.declared.class_line.Signature.{Signature}
use Rattle.dv_classread.specs.declared.class_line.Standing.{Standing}
use Rattle.dv_classread.specs.declared.class_line.Standing.TheVariants.{Inside}
use Rattle.dv_classread.specs.declared.program.BodyDraft.{BodyDraft}
use Rattle.dv_classread.specs.declared.program.MethodDraft.{MethodDraft}
use Rattle.dv_classread.specs.Assembling.{methods_of}
use Rattle.dv_classread.specs.ClassLines.{class_line, lacks_super}
use Rattle.dv_classread.specs.Methods.{method_body}
use Rattle.dv_classread.specs.Texts.{Told, Says, Method, InClass, InMethod, added, begun, ends_method, leaves_method, told_from}
use Rattle.law_listing.specs.ClassPieces.{IsClassText, IsListedField, end_method_pieces, field_pieces, interface_pieces, superclass_pieces, FieldLinesAreRead, InterfaceLinesAreRead, MethodEndsAreRead, SuperclassLinesAreRead}
use Rattle.law_listing.specs.Printed.{numbered}
use Rattle.law_listing.specs.RawPieces.{IsInside}
use Rattle.law_listing.proofs.ClassListing.Parts.{HaveParts, no_part, and_superclass, and_interface, and_field}

-- ---- one line

module _ (end : Option Stop) (past : ℕ) where
  -- a line of a class
  pub line_told : (s : Standing) (n : ℕ) (ps : List Piece) (says : ClassLine) (ls : List TextLine) → class_line s n ps ≡ Ok says
      → told_from end past (InClass s) (record { number = n; pieces = ps } ∷ ls) ≡ added says (told_from end past (begun s says) ls)
  unfolding told_from
  line_told s n ps says ls e = ap (λ r. on_line n r >>> λ l. added l (told_from end past (begun s l) ls)) e

  -- a line of a body
  inside_told : (s : Standing) (sig : Signature) (before : List TextLine) (l : TextLine) (ls : List TextLine) → IsInside l.pieces
      → told_from end past (InMethod s sig before) (l ∷ ls) ≡ told_from end past (InMethod s sig (before ++ l ∷ [])) ls
  unfolding told_from
  inside_told s sig before l ls h = cond-false (ends_method (head_of l.pieces)) _ _ h.goes_on ∙ cond-false (leaves_method (head_of l.pieces)) _ _ h.stays

  -- all of them
  pub body_told : (s : Standing) (sig : Signature) (before : List TextLine) (n : ℕ) (pss rest : List (List Piece)) → All IsInside pss
      → told_from end past (InMethod s sig before) (numbered n (pss ++ rest)) ≡ told_from end past (InMethod s sig (before ++ numbered n pss)) (numbered (n + length pss) rest)
  body_told s sig before n [] rest all =
      let none : n + 0 ≡ n = omega arith in
      let same : before ≡ before ++ [] = sym (append-nil before) in
      ap (λ b. told_from end past (InMethod s sig b) (numbered n rest)) same ∙ ap (λ m. told_from end past (InMethod s sig (before ++ [])) (numbered m rest)) (sym none)
  body_told s sig before n (ps ∷ pss) rest all =
      let l : TextLine = record { number = n; pieces = ps } in
      let next : n + 1 + length pss ≡ n + length (ps ∷ pss) = omega arith in
      inside_told s sig before l (numbered (n + 1) (pss ++ rest)) (All-head IsInside ps pss all)
      ∙ body_told s sig (before ++ l ∷ []) (n + 1) pss rest (All-tail IsInside ps pss all)
      ∙ ap (λ b. told_from end past (InMethod s sig b) (numbered (n + 1 + length pss) rest)) (append_assoc before (l ∷ []) (numbered (n + 1) pss))
      ∙ ap (λ m. told_from end past (InMethod s sig (before ++ l ∷ numbered (n + 1) pss)) (numbered m rest)) next

  -- the line behind them
  pub end_told : (s : Standing) (sig : Signature) (before : List TextLine) (n : ℕ) (b : Option BodyDraft) (ls : List TextLine) (ts : List Told) → MethodEndsAreRead
      → method_body sig n before ≡ Ok b → told_from end past (InClass s) ls ≡ Ok ts
      → told_from end past (InMethod s sig before) (record { number = n; pieces = end_method_pieces } ∷ ls) ≡ Ok (Method (record { signature = sig; body = b }) ∷ ts)
  unfolding told_from
  end_told s sig before n b ls ts ends e more = rw (ends, e, more) refl

-- ---- many lines

-- These lines tell these parts of a class; what they give of its methods is assembled as these.
pub record Tell (past : ℕ) (s : Standing) (n : ℕ) (pss : List (List Piece)) (super : Option (List ℕ)) (names : List (List ℕ)) (fs : List FieldValue) (ms : List MethodDef) : Type 0 where
  pub tolds : List Told
  pub drafts : List MethodDraft
  pub told : told_from None past (InClass s) (numbered n pss) ≡ Ok tolds
  pub parts : HaveParts tolds super names fs drafts
  pub whole : methods_of drafts ≡ Ok ms

-- the end of a class
pub nothing_told : (past : ℕ) (s : Standing) (n : ℕ) → lacks_super s ≡ false → Tell past s n [] None [] [] []
unfolding told_from methods_of
nothing_told past s n closed = record { tolds = []; drafts = []; told = cond-false (lacks_super s) _ _ closed; parts = no_part; whole = refl }

pub superclass_told : (past n : ℕ) (name : List ℕ) (rest : List (List Piece)) (super : Option (List ℕ)) (names : List (List ℕ)) (fs : List FieldValue) (ms : List MethodDef) → SuperclassLinesAreRead → IsClassText name
    → Tell past (Inside false true) (n + 1) rest super names fs ms → Tell past (Inside false false) n (superclass_pieces name ∷ rest) (Some name) names fs ms
superclass_told past n name rest super names fs ms read h t = record {
  tolds = Says (line.Super name) ∷ t.tolds;
  drafts = t.drafts;
  told = line_told None past (Inside false false) n (superclass_pieces name) (line.Super name) (numbered (n + 1) rest) (read name n h) ∙ ap (added (line.Super name)) t.told;
  parts = and_superclass t.tolds super names fs t.drafts t.parts name;
  whole = t.whole;
}

module _ (past : ℕ) (is_object has_super : Bool) (rest : List (List Piece)) (super : Option (List ℕ)) where
  abbrev s : Standing
  s = Inside is_object has_super

  interface_told : (n : ℕ) (name : List ℕ) (more : List (List Piece)) (names : List (List ℕ)) (fs : List FieldValue) (ms : List MethodDef) → InterfaceLinesAreRead → IsClassText name
      → Tell past s (n + 1) more super names fs ms → Tell past s n (interface_pieces name ∷ more) super (name ∷ names) fs ms
  interface_told n name more names fs ms read h t = record {
    tolds = Says (line.Implements name) ∷ t.tolds;
    drafts = t.drafts;
    told = line_told None past s n (interface_pieces name) (line.Implements name) (numbered (n + 1) more) (read name is_object has_super n h) ∙ ap (added (line.Implements name)) t.told;
    parts = and_interface t.tolds super names fs t.drafts t.parts name;
    whole = t.whole;
  }

  pub interfaces_told : (names : List (List ℕ)) (fs : List FieldValue) (ms : List MethodDef) → InterfaceLinesAreRead → All IsClassText names
      → ((n : ℕ) → Tell past s n rest super [] fs ms) → (n : ℕ) → Tell past s n (map interface_pieces names ++ rest) super names fs ms
  interfaces_told [] fs ms read all t n = t n
  interfaces_told (name ∷ names) fs ms read all t n =
      interface_told n name (map interface_pieces names ++ rest) names fs ms read (All-head IsClassText name names all)
      (interfaces_told names fs ms read (All-tail IsClassText name names all) t (n + 1))

  field_told : (n : ℕ) (f : FieldValue) (more : List (List Piece)) (names : List (List ℕ)) (fs : List FieldValue) (ms : List MethodDef) → FieldLinesAreRead → IsListedField f
      → Tell past s (n + 1) more super names fs ms → Tell past s n (field_pieces f ∷ more) super names (f ∷ fs) ms
  field_told n f more names fs ms read h t = record {
    tolds = Says (line.Field f) ∷ t.tolds;
    drafts = t.drafts;
    told = line_told None past s n (field_pieces f) (line.Field f) (numbered (n + 1) more) (read f is_object has_super n h) ∙ ap (added (line.Field f)) t.told;
    parts = and_field t.tolds super names fs t.drafts t.parts f;
    whole = t.whole;
  }

  pub fields_told : (fs : List FieldValue) (ms : List MethodDef) → FieldLinesAreRead → All IsListedField fs
      → ((n : ℕ) → Tell past s n rest super [] [] ms) → (n : ℕ) → Tell past s n (map field_pieces fs ++ rest) super [] fs ms
  fields_told [] ms read all t n = t n
  fields_told (f ∷ fs) ms read all t n =
      field_told n f (map field_pieces fs ++ rest) [] fs ms read (All-head IsListedField f fs all) (fields_told fs ms read (All-tail IsListedField f fs all) t (n + 1))
