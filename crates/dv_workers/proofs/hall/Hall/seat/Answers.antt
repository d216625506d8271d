use Rattle.std.proofs.Common.{arith, ap}
use Rattle.dv_workers.proofs.Moves.{splits}
use Rattle.dv_workers.proofs.hall.Hall.seat.Goals as goal

pub split_seat-requires : goal.split_seat-requires
split_seat-requires g c = let h = c.requires.1 in
    (c.requires.0, omega (arith, c.args.self.now.sized.0), splits _ _ _ _ (ap (λ m. m.0.of) h) (ap (λ m. m.0.holds) h))
