use Rattle.std.proofs.Common.{arith, ap, sym, ◌∙◌, ◌≡◌, ◌∷◌, Some}
use Rattle.atomic_table.specs.Table.{rest}
use Rattle.dv_workers.proofs.Moves.{puts_back}
use Rattle.dv_workers.proofs.hall.Hall.put.Goals as goal

pub store-requires : goal.store-requires
store-requires g c = let h = c.requires.seat.1 in let e = c.exchange.ensures in
    let has : c.exchange.new.seat.me.1 ≡ (0, Some c.args.desk) ∷ rest c.args.seat.now.me.1 = ap (λ m. m.1) e.3 in (
      e.0 ∙ c.requires.seat.0,
      omega (arith, c.args.self.now.sized.0),
      puts_back _ _ _ _ _ c.args.desk c.requires.names (has ∙ ap (λ l. (0, Some c.args.desk) ∷ rest l) (sym has))
          (ap (λ m. m.0.of) e.3 ∙ ap (λ m. m.0.of) h) (ap (λ m. m.0.holds) e.3 ∙ ap (λ m. m.0.holds) h),
    )
