use Rattle.std.proofs.Common.{◌≡◌, ◌++◌, drop}
use Rattle.dv_typing.specs.Accepting.{try_places}
use Rattle.dv_ops.specs.Meaning.{code_of}
use Rattle.dv_static.specs.Placed.{places_of}
use Rattle.dv_static.proofs.tries.add_each_try.Given as goal

-- with those of the entries from here on, the places are all
abbrev pub invariant-loop-i : goal.invariant-loop-i
invariant-loop-i l =
    let code = code_of l.code in
    let tries = l.code.body.now.tries in
    places_of l.places.items ++ try_places l.image code l.before (drop l.i tries) ≡ places_of l.fn.places.items ++ try_places l.image code 0 tries
