use Rattle.std.proofs.Common.{ℕ, ◌<◌, List, Result, Ok, Err, IfOk, IsSome, rules, arith}
use Rattle.dv_optable.specs.Table.{format_at}
use Rattle.dv_draft.specs.declared.draft.Draftop.{Draftop}
use Rattle.dv_draft.specs.Draft.{IsOp}
use Rattle.dv_coderead.specs.declared.refusal.Refusal.{Refusal}
use Rattle.dv_coderead.specs.declared.words.Frame.{Frame}
use Rattle.dv_coderead.specs.Giving.{Gives}
use Rattle.dv_coderead.specs.Pieces.{Piece, pieces_in}
use Rattle.dv_coderead.specs.Operands.{operands_in}
use Rattle.dv_coderead.proofs.Formed.{operands_are_formed}
use Rattle.dv_coderead.proofs.operands.read_operands.Goals as goal

formed : (frame : Frame) (op : ℕ) (ps : List Piece) → op < 256 → IsSome (format_at op) → (r : Result Draftop Refusal) → Gives (λ x. x) r (operands_in frame op ps) → IfOk r IsOp
formed frame op ps small some (Ok d) is = operands_are_formed frame op ps d small some is
formed frame op ps small some (Err e) is = tt

pub returns-clause-exact : goal.returns-clause-exact
unfolding operands_in
returns-clause-exact c = search rules

pub returns-clause-formed : goal.returns-clause-formed
returns-clause-formed c some = formed c.args.frame c.args.op (pieces_in c.args.pieces.now) (omega arith) some _ (returns-clause-exact c)
