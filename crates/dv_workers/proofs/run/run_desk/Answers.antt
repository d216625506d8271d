use Rattle.std.proofs.Common.{◌≡◌, ◌∙◌, ap, arith, inl, sym, length}
use Rattle.std.specs.Prelude.{sum}
use Rattle.dv_workers.specs.Seats.{names_of}
use Rattle.dv_workers.proofs.run.run_desk.Goals as goal

pub returns-in-Ok-new-clause-run : goal.returns-in-Ok-new-clause-run
returns-in-Ok-new-clause-run g c =
    let same = c.left.ensures.same in
    let made = c.run_hall-desk.ensures in
    let shares = c.run_hall-desk.result.1 in
    let whole = shares.ok.0 in
    let each : length shares.items ≡ c.args.workers = omega (arith, whole, made.each) in
    record {
      same = ap names_of same.0 ∙ (made.names ∙ ap names_of c.in-Ok-new.ensures.ok.1);
      turns = ap (λ v. sum v.items) same.1 ∙ (made.turns ∙ ap (λ r. length r.log) (sym same.0));
      each = inl (ap (λ v. length v.items) same.1 ∙ each);
      entries = c.left.ensures.entries;
      over = c.left.ensures.over;
    }
