use Rattle.std.proofs.Common.{◌≡◌, ◌+◌, ◌-◌, ◌<◌, length, get_or, suc, arith}
use Rattle.std.proofs.lemmas.Option.{slice_get-get_or}
use Rattle.std.proofs.lemmas.List.Elements.{All-push}
use Rattle.dv_hier.proofs.Cells.{chain_ends, chain_more}
use Rattle.dv_vtable.specs.Chains as spec
use Rattle.dv_vtable.proofs.chains.chain_of.Goals as goal

pub returns-in_default-clause-chain : goal.returns-in_default-clause-chain
returns-in_default-clause-chain c =
    chain_ends c.args.infos.now c.loop.chain.items (length c.args.infos.now - c.loop.counter) c.loop.above (spec.chain_of c.args.infos.now c.args.class.0)
    c.in_default.is c.loop.invariant.0

pub loop-preserved : goal.loop-preserved
loop-preserved c =
    let cs = c.args.infos.now in
    let i = c.in-Some.id.0 in
    let info = get_or cs i c.index-infos-id.result in
    let within : i < length cs = rw c.in-Some.is at c.loop.invariant.2 in
    let fuel : length cs - c.loop.counter ≡ suc (length cs - (c.loop.counter + 1)) = omega arith in
    let there = slice_get-get_or cs i c.index-infos-id.result within in (
      rw c.in_ok-push.ensures.items
          (chain_more cs c.loop.chain.items (length cs - c.loop.counter) (length cs - (c.loop.counter + 1)) c.loop.above c.in-Some.id info
          (spec.chain_of cs c.args.class.0) fuel c.in-Some.is there c.loop.invariant.0),
      rw c.in_ok-push.ensures.items (All-push (λ x. x.0 < length cs) c.loop.chain.items c.in-Some.id c.loop.invariant.1 within),
      (c.requires.range i c.index-infos-id.result within).parent,
    )
