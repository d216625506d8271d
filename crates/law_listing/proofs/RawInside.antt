-- The lines of a raw body are told to be such, and lie inside its method.
use Rattle.std.proofs.Common.{◌≡◌, ℕ, true, false, List, [], ◌∷◌, ◌++◌, map, length, refl, ap, ◌∙◌}
use Rattle.std.specs.Prelude.{codes}
use Rattle.std.specs.Fmt.{decimal}
use Rattle.dv_defs.specs.Body.{BodyValue}
use Rattle.dv_draft.specs.declared.draft.PoolRef.{PoolRef}
use Rattle.dv_coderead.specs.declared.head.Block.TheVariants.{Units}
use Rattle.dv_coderead.specs.declared.head.Directive.TheVariants as directive
use Rattle.dv_coderead.specs.declared.head.Head.{Head}
use Rattle.dv_coderead.specs.declared.head.Head.TheVariants as head
use Rattle.dv_coderead.specs.declared.raw_line.RawHandler.{RawHandler}
use Rattle.dv_coderead.specs.Heads.{head_of}
use Rattle.dv_coderead.specs.Kept.{counts}
use Rattle.dv_coderead.specs.Pieces.{Piece, AWord}
use Rattle.dv_classread.specs.declared.method.BodyKind.TheVariants as of_kind
use Rattle.dv_classread.specs.Methods.{kind_of}
use Rattle.dv_classread.specs.Texts.{ends_method, leaves_method}
use Rattle.law_listing.specs.Printed.{numbered}
use Rattle.law_listing.specs.RawListable.{IsListedRaw}
use Rattle.law_listing.specs.RawPieces.{AreInside, IsInside, count_pieces, handler_pieces, handlers_of, raw_pieces, ref_piece, ref_pieces, refs_of, unit_lines, unit_pieces, units_pieces}
use Rattle.law_listing.proofs.DraftHeads.{registers_head}
use Rattle.law_listing.proofs.RawHeads.{IsOther, ref_head, try_head, unit_head, units_end_head, units_head}
use Rattle.law_listing.proofs.RawRead.{AreUnitLines, lines_are}

-- ---- inside

inside_by : (ps : List Piece) (h : Head) → head_of ps ≡ h → counts 0 h ≡ true → ends_method h ≡ false → leaves_method h ≡ false → IsInside ps
inside_by ps h is kept goes_on stays = record {
  kept = ap (counts 0) is ∙ kept;
  goes_on = ap ends_method is ∙ goes_on;
  stays = ap leaves_method is ∙ stays;
}

other_by : (ps : List Piece) (h : Head) → head_of ps ≡ h → IsOther h → IsInside ps
other_by ps (head.Opcode op) is other = inside_by ps (head.Opcode op) is refl refl refl
other_by ps head.Float is other = inside_by ps head.Float is refl refl refl
other_by ps head.Other is other = inside_by ps head.Other is refl refl refl
other_by ps h is other = absurd other

-- also an instruction
pub op_inside : (ps : List Piece) (op : ℕ) → head_of ps ≡ head.Opcode op → IsInside ps
op_inside ps op is = inside_by ps (head.Opcode op) is refl refl refl

pub inside_append : (pss qss : List (List Piece)) → AreInside pss → AreInside qss → AreInside (pss ++ qss)
inside_append [] qss a b = b
inside_append (ps ∷ pss) qss a b = (a.0, inside_append pss qss a.1 b)

refs_inside : (rs : List PoolRef) → AreInside (map ref_pieces rs)
refs_inside [] = tt
refs_inside (r ∷ rs) = (inside_by (ref_pieces r) (head.Directive directive.Rawref) (ref_head (ref_piece r)) refl refl refl, refs_inside rs)

lines_inside : (uss : List (List ℕ)) → AreUnitLines uss → AreInside (map unit_pieces uss)
lines_inside [] are = tt
lines_inside ([] ∷ uss) are = absurd are
lines_inside ((u ∷ us) ∷ uss) are =
    (other_by (unit_pieces (u ∷ us)) (head_of (unit_pieces (u ∷ us))) refl (unit_head u (unit_pieces us)), lines_inside uss are.1)

handlers_inside : (hs : List RawHandler) → AreInside (map handler_pieces hs)
handlers_inside [] = tt
handlers_inside (h ∷ hs) = (inside_by (handler_pieces h) (head.Directive directive.Rawtry) (try_head _) refl refl refl, handlers_inside hs)

units_inside : (uss : List (List ℕ)) → AreUnitLines uss
    → AreInside ((AWord (codes ".units") ∷ []) ∷ (map unit_pieces uss ++ (AWord (codes ".end") ∷ AWord (codes "units") ∷ []) ∷ []))
units_inside uss are = (
  inside_by (AWord (codes ".units") ∷ []) (head.Directive (directive.Begin Units)) units_head refl refl refl,
  inside_append (map unit_pieces uss) ((AWord (codes ".end") ∷ AWord (codes "units") ∷ []) ∷ []) (lines_inside uss are)
      (inside_by (AWord (codes ".end") ∷ AWord (codes "units") ∷ []) (head.Directive (directive.End Units)) units_end_head refl refl refl, tt),
)

pub raw_inside : (b : BodyValue) → IsListedRaw b → AreInside (raw_pieces b)
raw_inside b is = (
  inside_by (count_pieces b.registers) (head.Directive directive.Registers) (registers_head (AWord (decimal b.registers) ∷ [])) refl refl refl,
  inside_append (map ref_pieces (refs_of b)) (units_pieces b.units ++ map handler_pieces (handlers_of b)) (refs_inside (refs_of b))
      (inside_append (units_pieces b.units) (map handler_pieces (handlers_of b))
      (units_inside (unit_lines (length b.units) 0 b.units) (lines_are (length b.units) 0 b.units is.units)) (handlers_inside (handlers_of b))),
)

-- ---- raw

raw_by : (n count : ℕ) (rs : List PoolRef) (rest : List (List Piece)) → kind_of (numbered n (count_pieces count ∷ (map ref_pieces rs ++ ((AWord (codes ".units") ∷ []) ∷ rest)))) ≡ of_kind.Raw
unfolding kind_of
raw_by n count [] rest = rw (registers_head (AWord (decimal count) ∷ [])) (rw units_head refl)
raw_by n count (r ∷ rs) rest = rw (registers_head (AWord (decimal count) ∷ [])) (rw (ref_head (ref_piece r)) refl)

pub raw_is_raw : (b : BodyValue) (n : ℕ) → kind_of (numbered n (raw_pieces b)) ≡ of_kind.Raw
raw_is_raw b n = raw_by n b.registers (refs_of b) _
