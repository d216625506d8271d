use Rattle.std.proofs.Common.{◌≡◌, ◌+◌, ◌/◌, [], ◌∷◌, ◌∙◌, ℕ, refl, sym, ap, subst, rules, w32, SFits}
use Rattle.std.proofs.lemmas.Int.{to_z-of_z}
use Rattle.dv_defs.specs.declared.code.Payload.TheVariants as payload
use Rattle.dv_defs.specs.Formats.{F31t}
use Rattle.dv_defs.specs.Numbers.{jump, signed_at}
use Rattle.dv_defs.specs.Op.{cases_sparse}
use Rattle.dv_defs.specs.Spelling.{few, with_offset}
use Rattle.dv_frames.specs.Heads.{frame}
use Rattle.dv_machine.specs.Local.{case_of}
use Rattle.dv_words.specs.Fetching.{IsSpelled}
use Rattle.dv_words.specs.Local.{int_at}
use Rattle.dv_local.specs.Spelled.{double_after, rest_of}
use Rattle.dv_local.proofs.Doing.{did_sparse}
use Rattle.dv_local.proofs.Formats.{read_as, reads_31t}
use Rattle.dv_local.proofs.spelled_branches.sparse_31t.Goals as goal

pub returns : goal.returns
returns c =
    let off = ((let f : SFits w32 c.signed_double.result = search rules in to_z-of_z w32 c.signed_double.result f) ∙ c.signed_double.ensures ∙ ap (signed_at 32) c.double.ensures) in
    let place : c.jump-place.result ≡ (jump c.args.here.now.at (signed_at 32 (double_after c.args.here.now 0))) = c.jump-place.ensures ∙ ap (jump c.args.here.now.at) off in
    let value : c.int_in-value.result ≡ int_at (frame c.args.head.now c.args.words.now) (c.args.here.now.first / 256) = c.int_in-value.ensures ∙ ap (int_at (frame c.args.head.now c.args.words.now)) c.high.ensures in
    did_sparse c.args.here.now (frame c.args.head.now c.args.words.now) _ (c.args.here.now.first / 256) c.sparse_target-to.result (c.args.here.now.at + 3) (c.goto.ensures 0) 3 (with_offset c.args.opcode (few (c.args.here.now.first / 256 ∷ [])) (signed_at 32 (double_after c.args.here.now 0))) refl refl
    (read_as c.args.here.now c.args.opcode F31t 3 _ c.requires.opcode c.requires.format (reads_31t c.args.opcode (c.args.here.now.first / 256) (rest_of c.args.here.now))) c.requires.family
    (λ keys targets spelled rise.
    c.sparse_target-to.ensures keys targets (subst (λ (p : ℕ). IsSpelled c.args.here.now.units.now p (payload.Sparse keys targets)) (sym place) spelled) rise ∙
    ap (λ v. case_of (cases_sparse c.args.here.now.at keys targets) v c.after.result) ((let f : SFits w32 c.int_in-value.result = search rules in to_z-of_z w32 c.int_in-value.result f) ∙ value) ∙
    ap (λ m. case_of (cases_sparse c.args.here.now.at keys targets) (int_at (frame c.args.head.now c.args.words.now) (c.args.here.now.first / 256)) m) c.after.ensures)
