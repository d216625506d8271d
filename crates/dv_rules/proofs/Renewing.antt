-- The registers after a change are its writes to the renewed ones.
use Rattle.std.proofs.Common.{◌≡◌, map, refl}
use Rattle.std.proofs.lemmas.List.{map-id}
use Rattle.dv_defs.specs.Images.{Image}
use Rattle.dv_typing.specs.RegTypes.{Types}
use Rattle.dv_typing.specs.Transfer.{write_type, write_two}
use Rattle.dv_rules.specs.declared.changes.Change.{Change}
use Rattle.dv_rules.specs.declared.changes.Change.TheVariants as change
use Rattle.dv_rules.specs.Changes.{changed, renewed, written}
use Rattle.std.proofs.Common.{ap}

pub written_anew : (image : Image) (c : Change) (ts : Types) → written c (map (renewed image c) ts) ≡ changed image c ts
written_anew image (change.One k t) ts = ap (λ us. write_type us k t) (map-id ts)
written_anew image (change.Two k lo hi) ts = ap (λ us. write_two us k lo hi) (map-id ts)
written_anew image (change.New k at) ts = refl
written_anew image (change.Made at c) ts = refl
written_anew image (change.This c) ts = refl
written_anew image change.Lost ts = refl
written_anew image change.Nothing ts = map-id ts
