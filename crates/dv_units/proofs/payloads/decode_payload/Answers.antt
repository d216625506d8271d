use Rattle.std.proofs.Common.{◌≡◌, rules, Err}
use Rattle.dv_units.proofs.PayloadsHere.{read_stands, read_is, some_stands, no_header}
use Rattle.dv_units.proofs.Decoding.{units_fit}
use Rattle.dv_units.specs.Payloads.{NoPayloadStandsAt}
use Rattle.dv_units.specs.declared.error.UnitError.TheVariants.{Memory}
use Rattle.dv_units.proofs.payloads.decode_payload.Goals as goal

pub returns-in_err-header-clause-bad_payload : goal.returns-in_err-header-clause-bad_payload
returns-in_err-header-clause-bad_payload c =
    let none : NoPayloadStandsAt c.args.units.now c.args.at = no_header c.args.units.now c.args.at c.units_from-rest.result.now c.units_from-rest.ensures (search rules) in
    (λ _. none, λ _. search rules)

pub returns-in_err-payload-clause-bad_payload : goal.returns-in_err-payload-clause-bad_payload
returns-in_err-payload-clause-bad_payload c =
    let some = some_stands c.in_ok-header.header c.args.units.now c.args.at c.units_from-rest.result.now (units_fit c.args.units.now c.type_inv.units) c.units_from-rest.ensures (search rules) in
    let memory : c.from_residual-in_err-payload.result ≡ Err Memory = search rules in
    (λ e. absurd (cc (memory, e)), λ none. absurd (some none))

pub returns-clause-read : goal.returns-clause-read
returns-clause-read c = read_stands c.in_ok-header.header c.in_ok-payload.payload c.args.units.now c.args.at c.units_from-rest.result.now c.units_from-rest.ensures (search rules) (search rules)

pub returns-clause-every : goal.returns-clause-every
returns-clause-every c p us e s = read_is c.in_ok-header.header p c.in_ok-payload.payload us c.args.units.now c.args.at c.units_from-rest.result.now c.units_from-rest.ensures (search rules) (search rules) e s

pub returns-clause-bad_payload : goal.returns-clause-bad_payload
returns-clause-bad_payload c =
    let some = some_stands c.in_ok-header.header c.args.units.now c.args.at c.units_from-rest.result.now (units_fit c.args.units.now c.type_inv.units) c.units_from-rest.ensures (search rules) in
    (λ e. absurd (cc), λ none. absurd (some none))
