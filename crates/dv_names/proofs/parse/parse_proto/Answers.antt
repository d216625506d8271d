use Rattle.std.proofs.Common.{◌∙◌, refl, sym, ap, inl, inr, length, drop, arith}
use Rattle.std.proofs.lemmas.List.Elements.{All-same}
use Rattle.std.proofs.lemmas.Bool.{eqb-true}
use Rattle.std.proofs.lemmas.Result.{err_from_is_err_and}
use Rattle.dv_defs.specs.declared.names.Proto.{Proto}
use Rattle.dv_names.specs.declared.error.NameError.TheVariants as error
use Rattle.dv_names.specs.Descriptors.{IsType}
use Rattle.dv_names.specs.Grammar.{Open, Parameters, after, refusal, proto_refusal}
use Rattle.dv_names.proofs.Types.{refuses_same}
use Rattle.dv_names.proofs.Protos.{not_open, at_open, at_return, spelled_proto, is_some_byte, proto_run, too_long, all_of, proto_none}
use Rattle.dv_names.proofs.Places.{proto_fails}
use Rattle.dv_names.proofs.Inverse.{same_proto, finds_err}
use Rattle.dv_names.proofs.parse.parse_proto.Goals as goal
use Rattle.dv_names.proofs.parse.parse_proto.Goals.{then-is_empty-via-then-is_empty, then-is_empty-via-else-is_empty+then-text-ne40}

pub returns-then-is_empty-clause-exact : goal.returns-then-is_empty-clause-exact
returns-then-is_empty-clause-exact c =
    not_open c.args.text.now
    (elim c.then-is_empty.branch [
      | then-is_empty-via-then-is_empty w ↦ inl (let e = eqb-true (length c.args.text.now) 0 (sym c.is_empty.ensures ∙ w.if-is_empty.true) in omega (arith, e))
      | then-is_empty-via-else-is_empty+then-text-ne40 w ↦ inr (is_some_byte c.args.text.now _ c.is_empty.ensures w.if-is_empty.false, w.if-text-ne40.true)
    ])

pub returns-then-is_empty-clause-finds : goal.returns-then-is_empty-clause-finds
returns-then-is_empty-clause-finds c = λ p is same.
    finds_err (error.BadDescriptor 0) (proto_refusal c.args.text.now) (returns-then-is_empty-clause-exact c) (proto_none p c.args.text.now is same)

pub returns-then-is_empty-clause-fails : goal.returns-then-is_empty-clause-fails
returns-then-is_empty-clause-fails c = proto_fails c.args.text.now (error.BadDescriptor 0) (returns-then-is_empty-clause-exact c)

pub returns-in_err-params-clause-exact : goal.returns-in_err-params-clause-exact
returns-in_err-params-clause-exact c =
    let p = err_from_is_err_and c.from_residual.result c.from_residual.ensures.1 in
    rw (p.1, p.2) (refuses_same c.in_err-params.field-0.0 _ _ (at_open c.args.text.now (is_some_byte c.args.text.now _ c.is_empty.ensures c.if-is_empty.false) c.if-text-ne40.false) c.in_err-params.ensures.err)

pub returns-in_err-params-clause-finds : goal.returns-in_err-params-clause-finds
returns-in_err-params-clause-finds c = λ p is same.
    let e = err_from_is_err_and c.from_residual.result c.from_residual.ensures.1 in
    let at = at_open c.args.text.now (is_some_byte c.args.text.now _ c.is_empty.ensures c.if-is_empty.false) c.if-text-ne40.false in
    rw (e.1, e.2) (finds_err c.in_err-params.field-0.0 (refusal Parameters 1 (drop 1 c.args.text.now)) c.in_err-params.ensures.err (sym at ∙ proto_none p c.args.text.now is same))

pub returns-in_err-params-clause-fails : goal.returns-in_err-params-clause-fails
returns-in_err-params-clause-fails c =
    let p = err_from_is_err_and c.from_residual.result c.from_residual.ensures.1 in
    let at = at_open c.args.text.now (is_some_byte c.args.text.now _ c.is_empty.ensures c.if-is_empty.false) c.if-text-ne40.false in
    rw (p.1, p.2) (proto_fails c.args.text.now c.in_err-params.field-0.0 (refuses_same c.in_err-params.field-0.0 _ _ at c.in_err-params.ensures.err))

pub returns-in_err-ret-clause-exact : goal.returns-in_err-ret-clause-exact
returns-in_err-ret-clause-exact c =
    let p = err_from_is_err_and c.from_residual-in_err-ret.result c.from_residual-in_err-ret.ensures.1 in
    rw (p.1, p.2) (refuses_same c.in_err-ret.field-0.0 _ _ (at_return c.args.text.now c.in_ok-params.close c.in_ok-params.params.items c.if-text-ne40.false c.in_ok-params.ensures.ok) c.in_err-ret.ensures)

pub returns-in_err-ret-clause-finds : goal.returns-in_err-ret-clause-finds
returns-in_err-ret-clause-finds c = λ p is same.
    let e = err_from_is_err_and c.from_residual-in_err-ret.result c.from_residual-in_err-ret.ensures.1 in
    let at = at_return c.args.text.now c.in_ok-params.close c.in_ok-params.params.items c.if-text-ne40.false c.in_ok-params.ensures.ok in
    rw (e.1, e.2) (finds_err c.in_err-ret.field-0.0 _ c.in_err-ret.ensures (sym at ∙ proto_none p c.args.text.now is same))

pub returns-in_err-ret-clause-fails : goal.returns-in_err-ret-clause-fails
returns-in_err-ret-clause-fails c =
    let p = err_from_is_err_and c.from_residual-in_err-ret.result c.from_residual-in_err-ret.ensures.1 in
    let at = at_return c.args.text.now c.in_ok-params.close c.in_ok-params.params.items c.if-text-ne40.false c.in_ok-params.ensures.ok in
    rw (p.1, p.2) (proto_fails c.args.text.now c.in_err-ret.field-0.0 (refuses_same c.in_err-ret.field-0.0 _ _ at c.in_err-ret.ensures))

pub returns-then-end-text-clause-exact : goal.returns-then-end-text-clause-exact
returns-then-end-text-clause-exact c =
    let r = c.in_ok-ret.ensures in
    let p : Proto = record { params = c.in_ok-params.params.items; ret = c.in_ok-ret.ret } in
    let spelled = spelled_proto c.args.text.now c.in_ok-params.close p.params c.if-text-ne40.false c.in_ok-params.ensures.ok c.in_ok-ret.end p r.0.0 refl r.2 in
    too_long c.args.text.now Open c.in_ok-ret.end c.if-end-text.true (ap (after Open) spelled ∙ proto_run p (c.in_ok-params.ensures.ok.3, r.1))

pub returns-then-end-text-clause-finds : goal.returns-then-end-text-clause-finds
returns-then-end-text-clause-finds c = λ p is same.
    finds_err (error.BadDescriptor c.in_ok-ret.end) (proto_refusal c.args.text.now) (returns-then-end-text-clause-exact c) (proto_none p c.args.text.now is same)

pub returns-then-end-text-clause-fails : goal.returns-then-end-text-clause-fails
returns-then-end-text-clause-fails c = proto_fails c.args.text.now (error.BadDescriptor c.in_ok-ret.end) (returns-then-end-text-clause-exact c)

pub returns-clause-prints : goal.returns-clause-prints
returns-clause-prints c =
    let r = c.in_ok-ret.ensures in
    let p : Proto = record { params = c.of.result; ret = c.in_ok-ret.ret } in
    let are = All-same IsType c.of.result c.in_ok-params.params.items c.of.ensures c.in_ok-params.ensures.ok.3 in
    let spelled = spelled_proto c.args.text.now c.in_ok-params.close c.in_ok-params.params.items c.if-text-ne40.false c.in_ok-params.ensures.ok c.in_ok-ret.end p r.0.0 c.of.ensures r.2 in
    ((are, r.1), sym spelled ∙ all_of c.args.text.now c.in_ok-ret.end c.if-end-text.false)

pub returns-clause-exact : goal.returns-clause-exact
returns-clause-exact c =
    let h = returns-clause-prints c in
    proto_none (record { params = c.of.result; ret = c.in_ok-ret.ret }) c.args.text.now h.0 h.1

pub returns-clause-finds : goal.returns-clause-finds
returns-clause-finds c = λ q is same.
    let h = returns-clause-prints c in
    same_proto (record { params = c.of.result; ret = c.in_ok-ret.ret }) q h.0 is (h.1 ∙ sym same)
