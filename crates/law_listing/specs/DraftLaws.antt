-- The laws of drafts: their lines don't count, and their text is read as just that.
use Rattle.std.specs.Prelude.{◌≡◌, ℕ, Bool, true, not, ◌||◌, List, map, None, Ok}
use Rattle.std.specs.List.{list_all}
use Rattle.dv_defs.specs.Body.{BodyValue}
use Rattle.dv_draft.specs.declared.draft.Item.{Item}
use Rattle.dv_draft.specs.declared.draft.What.{What}
use Rattle.dv_draft.specs.declared.draft.Catch.{Catch}
use Rattle.dv_draft.specs.Draft.{DraftValue}
use Rattle.dv_asm.specs.Refusals.{refusal}
use Rattle.dv_asm.specs.Layout.{layout}
use Rattle.dv_print.specs.Draft.{draft_text}
use Rattle.dv_print.specs.Drafting.{draft_of}
use Rattle.dv_coderead.specs.Heads.{head_of}
use Rattle.dv_coderead.specs.Kept.{kept, open_behind}
use Rattle.dv_coderead.specs.Pieces.{Piece}
use Rattle.dv_coderead.specs.Bodies.{body_from}
use Rattle.dv_classread.specs.declared.method.BodyKind.TheVariants as of_kind
use Rattle.dv_classread.specs.Methods.{kind_of}
use Rattle.dv_classread.specs.Texts.{ends_method, leaves_method}
use Rattle.law_listing.specs.Printed.{HaveLines, numbered}
use Rattle.law_listing.specs.DraftListable.{IsListedDraft}
use Rattle.law_listing.specs.DraftPieces.{draft_pieces, is_draft_head}

abbrev pub what_of : Item → What
what_of item = item.what

-- a handler as one of line 0
abbrev pub unlined_catch : Catch → Catch
unlined_catch c = record { line = 0; kind = c.kind; from = c.from; to = c.to; at = c.at }

-- drafts that differ in their lines at most
pub record SameButLines (d e : DraftValue) : Type 0 where
  pub registers : d.registers ≡ e.registers
  pub items : map what_of d.items ≡ map what_of e.items
  pub catches : map unlined_catch d.catches ≡ map unlined_catch e.catches

-- Layout doesn't look at lines.
abbrev pub LayoutHasNoLines : Type 0
LayoutHasNoLines = (d e : DraftValue) → SameButLines d e → layout d ≡ layout e

-- Whether a draft is refused doesn't hang on its lines.
abbrev pub RefusalHasNoLines : Type 0
RefusalHasNoLines = (d e : DraftValue) → SameButLines d e → refusal d ≡ None → refusal e ≡ None

-- The text of a draft is its lines.
abbrev pub DraftsArePrinted : Type 0
DraftsArePrinted = (d : DraftValue) → IsListedDraft d → HaveLines (draft_text d) (draft_pieces d)

-- a line of a body that isn't raw, which neither ends nor leaves its method
abbrev pub stays_inside : List Piece → Bool
stays_inside ps = not (ends_method (head_of ps) || leaves_method (head_of ps))

-- lines of a body that isn't raw, none of which is passed over
pub record LinesCount (pss : List (List Piece)) : Type 0 where
  pub heads : list_all (λ ps. is_draft_head (head_of ps)) pss ≡ true
  pub inside : list_all stays_inside pss ≡ true
  pub drafted : (n : ℕ) → kind_of (numbered n pss) ≡ of_kind.Drafted
  pub kept : (n : ℕ) → kept 0 (numbered n pss) ≡ numbered n pss
  pub closed : (n : ℕ) → open_behind 0 (numbered n pss) ≡ 0

abbrev pub DraftLinesCount : Type 0
DraftLinesCount = (d : DraftValue) → IsListedDraft d → LinesCount (draft_pieces d)

-- a draft is read of these lines, and it is that draft, but for its lines
pub record IsReadAgain (d : DraftValue) (arguments past n : ℕ) : Type 0 where
  pub draft : DraftValue
  pub read : body_from arguments past 0 (numbered n (draft_pieces d)) ≡ Ok draft
  pub same : SameButLines draft d

abbrev pub DraftsAreRead : Type 0
DraftsAreRead = (d : DraftValue) → IsListedDraft d → (arguments past n : ℕ) → IsReadAgain d arguments past n

-- The draft that is made of the body of a listed draft is listed.
abbrev pub DraftsAreListedAgain : Type 0
DraftsAreListedAgain =
    (d : DraftValue) → IsListedDraft d → refusal d ≡ None → IsListedDraft (draft_of (layout d))

-- a draft is read of the lines of a laid-out body, and it isn't refused and laid out as that body
pub record IsLaidOutAgain (b : BodyValue) (arguments past n : ℕ) : Type 0 where
  pub draft : DraftValue
  pub read : body_from arguments past 0 (numbered n (draft_pieces (draft_of b))) ≡ Ok draft
  pub accepted : refusal draft ≡ None
  pub same : layout draft ≡ b

abbrev pub BodiesAreLaidOutAgain : Type 0
BodiesAreLaidOutAgain =
    (d : DraftValue) → IsListedDraft d → refusal d ≡ None → (arguments past n : ℕ) → IsLaidOutAgain (layout d) arguments past n
