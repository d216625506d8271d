use Rattle.std.proofs.Common.{◌≡◌, ◌++◌, ◌∷◌, [], ◌∙◌, ap, inl, sym, arith, length}
use Rattle.std.specs.Prelude.{sum}
use Rattle.dv_workers.specs.Seats.{names_of}
use Rattle.dv_workers.proofs.Kept.{done_alike}
use Rattle.dv_workers.proofs.run.run_by_one.Goals as goal

pub left-requires : goal.left-requires
left-requires g c =
    let same = c.audit.ensures.same in
    record { over = done_alike _ _ _ _ _ _ same.2 same.3 same.0 c.run_alone-turns.ensures.over }

pub returns-clause-run : goal.returns-clause-run
returns-clause-run g c =
    let same = c.left.ensures.same in
    let kept = c.audit.ensures.same in
    let one : c.left.result.turns.items ≡ c.run_alone-turns.result ∷ [] =
    ap (λ v. v.items) same.1 ∙ (c.push_reserved.ensures.items ∙ ap (λ l. l ++ c.run_alone-turns.result ∷ []) c.requires.room.0) in
    let whole : sum (c.run_alone-turns.result ∷ []) ≡ c.run_alone-turns.result = omega arith in
    let counted = c.audit.ensures.whole (c.run_alone-turns.ensures.parts ∙ c.requires.share.1) in
    record {
      same = ap names_of (same.0 ∙ kept.0) ∙ c.run_alone-turns.ensures.names;
      turns = ap sum one ∙ (whole ∙ (sym c.run_alone-turns.ensures.turns ∙ (counted ∙ ap (λ r. length r.log) (sym (same.0 ∙ kept.0)))));
      each = inl (ap length one);
      entries = c.left.ensures.entries;
      over = c.left.ensures.over;
    }
