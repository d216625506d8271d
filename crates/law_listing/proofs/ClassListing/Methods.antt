-- The methods of a listed class.
use Rattle.std.proofs.Common.{◌≡◌, ℕ, ◌+◌, Bool, false, List, [], ◌∷◌, ◌++◌, length, refl, sym, ap, ◌∙◌, subst, append_assoc}
use Rattle.std.specs.Prelude.{All, Option, None, codes}
use Rattle.std.specs.List.{flat_map}
use Rattle.std.proofs.lemmas.List.Elements.{All-nil, All-cons, All-append, All-head, All-tail, All-weaker}
use Rattle.dv_defs.specs.declared.class.MethodDef.{MethodDef}
use Rattle.dv_defs.specs.Body.{BodyValue}
use Rattle.dv_defs.specs.Field.{FieldValue}
use Rattle.dv_print.specs.Listing.{body_text_if_any, method_lines}
use Rattle.dv_coderead.specs.Kept.{counts}
use Rattle.dv_coderead.specs.Pieces.{Piece}
use Rattle.dv_classread.specs.declared.class_line.ClassLine.TheVariants as line
use Rattle.dv_classread.specs.declared.class_line.Signature.{Signature}
use Rattle.dv_classread.specs.declared.class_line.Standing.{Standing}
use Rattle.dv_classread.specs.declared.class_line.Standing.TheVariants.{Inside}
use Rattle.dv_classread.specs.declared.program.MethodDraft.{MethodDraft}
use Rattle.dv_classread.specs.Assembling.{methods_of}
use Rattle.dv_classread.specs.ClassLines.{lacks_super}
use Rattle.dv_classread.specs.Texts.{Method}
use Rattle.law_listing.specs.ClassListable.{IsListedBodyIfAny, IsListedMethod}
use Rattle.law_listing.specs.ClassPieces.{IsListedSignature, end_method_pieces, method_header, method_pieces, MethodEndsAreRead, MethodEndsStand, MethodHeadersAreRead, MethodHeadersStand}
use Rattle.law_listing.specs.RawPieces.{IsInside}
use Rattle.law_listing.specs.Printed.{HaveLines, NoLine, numbered}
use Rattle.law_listing.proofs.Lines.{lines_append, same_lines}
use Rattle.law_listing.proofs.ClassListing.Bodies.{HasBodyLines}
use Rattle.law_listing.proofs.ClassListing.Kept.{Counts}
use Rattle.law_listing.proofs.ClassListing.Parts.{and_method}
use Rattle.law_listing.proofs.ClassListing.Told.{Tell, nothing_told, line_told, body_told, end_told}
use Rattle.law_listing.proofs.ClassPieces.Read.{method_head}

-- ---- one method

abbrev signature_of : MethodDef → Signature
signature_of m = record { name = m.name; proto = m.proto; flags = m.flags }

-- its lines
abbrev whole_pieces : MethodDef → List (List Piece) → List (List Piece)
whole_pieces m pss = method_pieces m ∷ (pss ++ end_method_pieces ∷ [])

method_stands : (m : MethodDef) (pss : List (List Piece)) → MethodHeadersStand → MethodEndsStand → IsListedSignature m → HaveLines (body_text_if_any m.body) pss
    → HaveLines (method_lines m) (whole_pieces m pss)
method_stands m pss header end h lines =
    let inner = lines_append (body_text_if_any m.body) (codes ".end method\n") pss (end_method_pieces ∷ []) lines end in
    let all = lines_append (method_header m) (body_text_if_any m.body ++ codes ".end method\n") (method_pieces m ∷ []) (pss ++ end_method_pieces ∷ []) (header m h) inner in
    same_lines (method_lines m) (method_header m ++ (body_text_if_any m.body ++ codes ".end method\n")) (whole_pieces m pss) (simp append_assoc) all

header_counts : (m : MethodDef) → Counts (method_pieces m)
header_counts m = record { counts = ap (counts 0) (method_head _) }

end_counts : MethodEndsAreRead → Counts end_method_pieces
end_counts e = record { counts = ap (counts 0) e }

method_counts : (m : MethodDef) (pss : List (List Piece)) → MethodEndsAreRead → All IsInside pss → All Counts (whole_pieces m pss)
method_counts m pss e all =
    All-cons Counts (method_pieces m) (pss ++ end_method_pieces ∷ []) (header_counts m)
    (All-append Counts pss (end_method_pieces ∷ []) (All-weaker IsInside Counts (λ ps h. record { counts = h.kept }) pss all) (All-cons Counts end_method_pieces [] (end_counts e) (All-nil Counts)))

method_told : (past : ℕ) (is_object has_super : Bool) (n : ℕ) (m : MethodDef) (b : HasBodyLines m.body) (rest : List (List Piece)) (super : Option (List ℕ)) (names : List (List ℕ)) (fs : List FieldValue) (ms : List MethodDef)
    → MethodHeadersAreRead → MethodEndsAreRead → IsListedSignature m → Tell past (Inside is_object has_super) (n + 1 + length b.pieces + 1) rest super names fs ms
    → Tell past (Inside is_object has_super) n (method_pieces m ∷ (b.pieces ++ end_method_pieces ∷ rest)) super names fs (m ∷ ms)
unfolding methods_of
method_told past is_object has_super n m b rest super names fs ms read ends h t =
    let s : Standing = Inside is_object has_super in
    let sig = signature_of m in
    let at = n + 1 + length b.pieces in
    let g = b.read sig at (n + 1) in
    let d : MethodDraft = record { signature = sig; body = g.draft } in
    record {
      tolds = Method d ∷ t.tolds;
      drafts = d ∷ t.drafts;
      told = line_told None past s n (method_pieces m) (line.Method sig) (numbered (n + 1) (b.pieces ++ end_method_pieces ∷ rest)) (read m is_object has_super n h)
          ∙ body_told None past s sig [] (n + 1) b.pieces (end_method_pieces ∷ rest) b.inside
          ∙ end_told None past s sig (numbered (n + 1) b.pieces) at g.draft (numbered (at + 1) rest) t.tolds ends g.read t.told;
      parts = and_method t.tolds super names fs t.drafts t.parts d;
      whole = rw (g.whole, t.whole) refl;
    }

-- ---- all methods

-- Lines that are the text of these methods, and tell them.
pub record ListMethods (ms : List MethodDef) : Type 0 where
  pub pieces : List (List Piece)
  pub lines : HaveLines (flat_map method_lines ms) pieces
  pub count : All Counts pieces
  pub told : (past : ℕ) (is_object has_super : Bool) → lacks_super (Inside is_object has_super) ≡ false → (n : ℕ) → Tell past (Inside is_object has_super) n pieces None [] [] ms

pub methods_listed : ((o : Option BodyValue) → IsListedBodyIfAny o → HasBodyLines o) → MethodHeadersStand → MethodEndsStand → MethodHeadersAreRead → MethodEndsAreRead → (ms : List MethodDef) → All IsListedMethod ms → ListMethods ms
methods_listed bodies header end read ends [] all = record {
  pieces = [];
  lines = NoLine;
  count = All-nil Counts;
  told = λ past is_object has_super closed n. nothing_told past (Inside is_object has_super) n closed;
}
methods_listed bodies header end read ends (m ∷ ms) all =
    let h = All-head IsListedMethod m ms all in
    let more = methods_listed bodies header end read ends ms (All-tail IsListedMethod m ms all) in
    let b = bodies m.body h.body in
    let own = whole_pieces m b.pieces in
    record {
      pieces = own ++ more.pieces;
      lines = lines_append (method_lines m) (flat_map method_lines ms) own more.pieces (method_stands m b.pieces header end h.signature b.lines) more.lines;
      count = All-append Counts own more.pieces (method_counts m b.pieces ends b.inside) more.count;
      told = λ past is_object has_super closed n.
          let t = method_told past is_object has_super n m b more.pieces None [] [] ms read ends h.signature (more.told past is_object has_super closed (n + 1 + length b.pieces + 1)) in
          subst (λ (pss : List (List Piece)). Tell past (Inside is_object has_super) n (method_pieces m ∷ pss) None [] [] (m ∷ ms)) (sym (append_assoc b.pieces (end_method_pieces ∷ []) more.pieces)) t;
    }
