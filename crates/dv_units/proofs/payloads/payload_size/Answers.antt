use Rattle.std.proofs.Common.{Some, ap, sym, ◌∙◌, take, length}
use Rattle.dv_units.proofs.PayloadsHere.{none_stands, size_is, spelled_by}
use Rattle.dv_units.proofs.Decoding.{units_fit}
use Rattle.dv_units.proofs.payloads.payload_size.Goals as goal

pub returns-in_err-header-clause-every : goal.returns-in_err-header-clause-every
returns-in_err-header-clause-every c p us e h = absurd (none_stands c.units_from.result.now p us c.in_err-header.ensures e (h ∙ ap (λ xs. take (length us) xs) (sym c.units_from.ensures)))

pub returns-clause-found : goal.returns-clause-found
returns-clause-found c = spelled_by c.in_ok-header.header c.args.units.now c.args.at c.units.result c.units_from.result.now (units_fit c.args.units.now c.type_inv.units) c.units_from.ensures c.in_ok-header.ensures c.units.ensures

pub returns-clause-every : goal.returns-clause-every
returns-clause-every c p us e h = ap Some (c.units.ensures ∙ size_is c.in_ok-header.header c.units_from.result.now p us c.in_ok-header.ensures e (h ∙ ap (λ xs. take (length us) xs) (sym c.units_from.ensures)))
