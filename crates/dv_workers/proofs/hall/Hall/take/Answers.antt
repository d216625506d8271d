use Rattle.std.proofs.Common.{arith, ap, sym, ◌∙◌, ◌≡◌, ◌∷◌, Some}
use Rattle.atomic_table.specs.Table.{rest}
use Rattle.dv_workers.proofs.Moves.{takes_or_not}
use Rattle.dv_workers.proofs.hall.Hall.take.Goals as goal

pub swap-requires : goal.swap-requires
swap-requires g c = let h = c.requires.1 in
    (c.requires.0, omega (arith, c.args.self.now.sized.0), takes_or_not _ _ _ _ _ (ap (λ m. m.0.of) h))

pub exchange-requires : goal.exchange-requires
exchange-requires g c = let e = c.swap.ensures in let tk = e.2 in let got = rw c.if-swap-eq1.true at tk in
    let has : c.swap.new.seat.me.1 ≡ (0, Some got.0) ∷ c.args.seat.now.me.1 = ap (λ m. m.1) got.1 in
    (e.0 ∙ c.requires.0, (Some got.0, has ∙ ap (λ l. (0, Some got.0) ∷ rest l) (sym has)))
