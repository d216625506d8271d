-- The bodies of listed methods.
use Rattle.std.proofs.Common.{◌≡◌, ℕ, true, false, List, [], ◌∷◌, Ok, inl, inr, refl, sym, ap, ◌∙◌, subst}
use Rattle.std.specs.Prelude.{All, Option, Some, None}
use Rattle.std.specs.List.{list_all}
use Rattle.std.proofs.lemmas.Bool.{and_parts, cond-true, cond-false, or_parts, not-true}
use Rattle.std.proofs.lemmas.List.Elements.{All-nil, All-cons}
use Rattle.dv_defs.specs.Body.{BodyValue}
use Rattle.dv_draft.specs.Draft.{DraftValue}
use Rattle.dv_asm.specs.Layout.{layout, body_of}
use Rattle.dv_asm.specs.Refusals.{refusal}
use Rattle.dv_print.specs.Draft.{draft_text}
use Rattle.dv_print.specs.Drafting.{draft_of}
use Rattle.dv_print.specs.Listing.{body_text_if_any}
use Rattle.dv_print.specs.Raw.{raw_text}
use Rattle.dv_coderead.specs.declared.head.Directive.TheVariants as directive
use Rattle.dv_coderead.specs.declared.head.Head.{Head}
use Rattle.dv_coderead.specs.declared.head.Head.TheVariants as head
use Rattle.dv_coderead.specs.Bodies.{body_from}
use Rattle.dv_coderead.specs.Heads.{head_of}
use Rattle.dv_coderead.specs.Kept.{TextLine, counts}
use Rattle.dv_coderead.specs.Pieces.{Piece}
use Rattle.dv_coderead.specs.RawBodies.{raw_body_from}
use Rattle.dv_classread.specs.declared.class_line.Signature.{Signature}
use Rattle.dv_classread.specs.declared.method.BodyKind.TheVariants as of_kind
use Rattle.dv_classread.specs.declared.program.BodyDraft.{BodyDraft}
use Rattle.dv_classread.specs.declared.program.BodyDraft.TheVariants as body
use Rattle.dv_classread.specs.Assembling.{assembled, assembled_by}
use Rattle.dv_classread.specs.Methods.{arguments_of, body_by, drafted, kind_of, method_body, raw}
use Rattle.dv_classread.specs.Texts.{ends_method, leaves_method}
use Rattle.law_listing.specs.ClassListable.{IsListedBodyIfAny, IsListedLayout}
use Rattle.law_listing.specs.DraftLaws.{BodiesAreLaidOutAgain, DraftLinesCount, DraftsAreListedAgain, DraftsArePrinted, stays_inside}
use Rattle.law_listing.specs.DraftListable.{IsListedDraft}
use Rattle.law_listing.specs.DraftPieces.{draft_pieces, is_draft_head}
use Rattle.law_listing.specs.Printed.{HaveLines, NoLine, numbered}
use Rattle.law_listing.specs.RawListable.{IsListedRaw}
use Rattle.law_listing.specs.RawPieces.{AreInside, IsInside, RawBodiesAreRead, raw_pieces}

-- what these lines of a method give is assembled as this body
pub record GiveBody (o : Option BodyValue) (sig : Signature) (past : ℕ) (ls : List TextLine) : Type 0 where
  pub draft : Option BodyDraft
  pub read : method_body sig past ls ≡ Ok draft
  pub whole : assembled draft ≡ Ok o

-- the text of a body has lines that give it wherever they stand
pub record HasBodyLines (o : Option BodyValue) : Type 0 where
  pub pieces : List (List Piece)
  pub lines : HaveLines (body_text_if_any o) pieces
  pub inside : All IsInside pieces
  pub read : (sig : Signature) (past n : ℕ) → GiveBody o sig past (numbered n pieces)

-- ---- none

no_body : (sig : Signature) (past n : ℕ) → GiveBody None sig past (numbered n [])
unfolding kind_of assembled
no_body sig past n = record { draft = None; read = refl; whole = refl }

-- ---- raw bodies

all_inside : (pss : List (List Piece)) → AreInside pss → All IsInside pss
all_inside [] h = All-nil IsInside
all_inside (ps ∷ pss) h = All-cons IsInside ps pss h.0 (all_inside pss h.1)

raw_given : (b : BodyValue) (sig : Signature) (past : ℕ) (ls : List TextLine) → kind_of ls ≡ of_kind.Raw → raw_body_from past 0 ls ≡ Ok b → GiveBody (Some b) sig past ls
unfolding assembled
raw_given b sig past ls is e = record {
  draft = Some (body.Raw b);
  read = ap (λ kind. body_by kind sig past 0 ls) is ∙ ap raw e;
  whole = refl;
}

raw_body : RawBodiesAreRead → (b : BodyValue) → IsListedRaw b → HasBodyLines (Some b)
raw_body law b h =
    let r = law b h in
    record {
      pieces = raw_pieces b;
      lines = subst (λ (text : List ℕ). HaveLines text (raw_pieces b)) (sym (cond-true b.raw (raw_text b) (draft_text (draft_of b)) h.raw)) r.lines;
      inside = all_inside (raw_pieces b) r.inside;
      read = λ sig past n. raw_given b sig past (numbered n (raw_pieces b)) (r.raw n) (r.read past n);
    }

-- ---- laid-out bodies

head_counts : (h : Head) → is_draft_head h ≡ true → counts 0 h ≡ true
head_counts head.Label e = refl
head_counts (head.Opcode op) e = refl
head_counts head.Other e = refl
head_counts head.Blank e = absurd (cc)
head_counts head.Float e = absurd (cc)
head_counts (head.Directive directive.Skipped) e = absurd (cc)
head_counts (head.Directive directive.Annotation) e = absurd (cc)
head_counts (head.Directive d) e = refl

line_inside : (ps : List Piece) → is_draft_head (head_of ps) ≡ true → stays_inside ps ≡ true → IsInside ps
line_inside ps e f =
    let p = or_parts (ends_method (head_of ps)) (leaves_method (head_of ps)) (not-true _ f) in
    record { kept = head_counts (head_of ps) e; goes_on = p.0; stays = p.1 }

lines_inside : (pss : List (List Piece)) → list_all (λ ps. is_draft_head (head_of ps)) pss ≡ true → list_all stays_inside pss ≡ true → All IsInside pss
lines_inside [] e f = All-nil IsInside
lines_inside (ps ∷ pss) e f =
    let p = and_parts _ _ e in
    let q = and_parts _ _ f in
    All-cons IsInside ps pss (line_inside ps p.0 q.0) (lines_inside pss p.1 q.1)

layout_drafted : (d : DraftValue) → (layout d).raw ≡ false
unfolding body_of
layout_drafted d = refl

drafted_given : (b : BodyValue) (sig : Signature) (past : ℕ) (ls : List TextLine) (d : DraftValue) → kind_of ls ≡ of_kind.Drafted → body_from (arguments_of sig) past 0 ls ≡ Ok d
    → refusal d ≡ None → layout d ≡ b → GiveBody (Some b) sig past ls
unfolding assembled
drafted_given b sig past ls d is e accepted same = record {
  draft = Some (body.Drafted d);
  read = ap (λ kind. body_by kind sig past 0 ls) is ∙ ap drafted e;
  whole = ap (λ r. assembled_by r (layout d)) accepted ∙ ap (λ c. Ok (Some c)) same;
}

module _ (printed : DraftsArePrinted) (count : DraftLinesCount) (listed : DraftsAreListedAgain) (again : BodiesAreLaidOutAgain) where
  layout_body : (d : DraftValue) → IsListedDraft d → refusal d ≡ None → HasBodyLines (Some (layout d))
  layout_body d is accepted =
      let b = layout d in
      let e = draft_of b in
      let is_again = listed d is accepted in
      let l = count e is_again in
      record {
        pieces = draft_pieces e;
        lines = subst (λ (text : List ℕ). HaveLines text (draft_pieces e)) (sym (cond-false b.raw (raw_text b) (draft_text e) (layout_drafted d))) (printed e is_again);
        inside = lines_inside (draft_pieces e) l.heads l.inside;
        read = λ sig past n.
            let r = again d is accepted (arguments_of sig) past n in
            drafted_given b sig past (numbered n (draft_pieces e)) r.draft (l.drafted n) r.read r.accepted r.same;
      }

  laid_out_body : (b : BodyValue) → IsListedLayout b → HasBodyLines (Some b)
  laid_out_body b h = subst (λ (c : BodyValue). HasBodyLines (Some c)) h.same (layout_body h.draft h.listed h.accepted)

  -- ---- each of them

  pub body_lines : RawBodiesAreRead → (o : Option BodyValue) → IsListedBodyIfAny o → HasBodyLines o
  body_lines raws None h = record { pieces = []; lines = NoLine; inside = All-nil IsInside; read = no_body }
  body_lines raws (Some b) (inl h) = raw_body raws b h
  body_lines raws (Some b) (inr h) = laid_out_body b h
