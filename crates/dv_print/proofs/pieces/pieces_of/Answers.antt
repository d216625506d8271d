use Rattle.std.proofs.lemmas.Grind.{common_steps}
use Rattle.std.proofs.Common.{◌≡◌, ℕ, ◌+◌, ◌<◌, ◌≤◌, List, length, drop, Option, sym, ◌∙◌, subst, arith}
use Rattle.std.specs.Prelude.{option_map, IfSome}
use Rattle.dv_defs.specs.Tiling.{piece_here}
use Rattle.dv_print.specs.declared.pieces.Part.{Part}
use Rattle.dv_print.specs.declared.pieces.Piece.{Piece}
use Rattle.dv_print.specs.Pieces.{part_sized}
use Rattle.dv_print.proofs.Steps.Tiles.{AreSoFar, one_more, none_more}
use Rattle.dv_print.proofs.pieces.pieces_of.Goals as goal

pub loop-at-preserved : goal.loop-at-preserved
loop-at-preserved c =
    let P : Option (Part × ℕ) → Type 0 = λ r. r ≡ option_map part_sized (piece_here (drop c.loop-at.at c.args.units.now)) in
    let Q : Option (Part × ℕ) → Type 0 = λ r. IfSome r (λ x. (0 < x.1) × (c.loop-at.at + x.1 ≤ length c.args.units.now)) in
    let R : List Piece → Type 0 = λ ps. AreSoFar c.args.units.now ps (c.loop-at.at + c.in-Some.size) in
    let fits = subst Q c.in-Some.is c.in_ok-part.ensures.within in
    subst R (sym c.in_ok-push-in-Some.ensures.items)
    (one_more c.args.units.now c.loop-at.pieces.items c.loop-at.at c.in-Some.part c.in-Some.size c.loop-at.invariant (subst P c.in-Some.is c.in_ok-part.ensures.part) fits.0 fits.1)

pub returns-in-None : goal.returns-in-None
returns-in-None c =
    let P : Option (Part × ℕ) → Type 0 = λ r. r ≡ option_map part_sized (piece_here (drop c.loop-at.at c.args.units.now)) in
    c.new.ensures.items ∙ none_more c.args.units.now c.loop-at.pieces.items c.loop-at.at c.loop-at.invariant c.loop-at-test.true (subst P c.in-None.is c.in_ok-part.ensures.part)

pub returns-in_err-push-in-Some : goal.returns-in_err-push-in-Some
returns-in_err-push-in-Some c = grind (arith, common_steps)
