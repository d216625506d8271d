use Rattle.std.proofs.Common.{◌≡◌, ◌<◌, length, get_or, position, Some, false, true, refl, sym, ap, ◌∙◌, arith}
use Rattle.std.specs.Prelude.{nat_eq, slice_get}
use Rattle.std.proofs.lemmas.List.{get_or-map, length-map}
use Rattle.std.proofs.lemmas.Option.{slice_get_read}
use Rattle.dv_vtable.specs.Numbered.{TableValue, numbers_of}
use Rattle.dv_vtable.proofs.TablePlaces.{place_found, place_lost}
use Rattle.dv_vtable.proofs.table.Table.place_of.Goals as goal
use Rattle.dv_vtable.proofs.table.Table.place_of.Goals.{else-place-len-via-then-place-len+else-index-number, else-place-len-via-else-place-len}

pub returns-then-index-number : goal.returns-then-index-number
returns-then-index-number c =
    let es = c.self.inside.entries.items in
    let places = c.self.inside.places.items in
    let n = c.args.number in
    let place = c.index-place.result.now in
    let count : length places ≡ c.args.self.now.count = ap (λ (t : TableValue). t.count) c.self.view_is in
    let at : slice_get places n ≡ Some place = slice_get_read places (length places) n place refl (rw count c.requires) c.index-place.ensures in
    let within : place < length es = omega (arith, c.if-place-len.true, c.len.ensures, c.self.inside.entries.ok.0) in
    let many : length (numbers_of es) ≡ length es = length-map es (λ e. e.0) in
    let first : get_or (numbers_of es) place n ≡ (get_or es place c.index.result.now).0 = get_or-map (λ e. e.0) es place c.index.result.now n within in
    let same : get_or (numbers_of es) place n ≡ n = rw (first, sym c.index.ensures) c.if-index-number.true in
    place_found (numbers_of es) places n place n c.self.invariant at (omega (arith, many, within)) same
    ∙ ap (λ (t : TableValue). position (nat_eq n) (numbers_of t.entries)) c.self.view_is

pub returns-else-place-len : goal.returns-else-place-len
returns-else-place-len c =
    let es = c.self.inside.entries.items in
    let places = c.self.inside.places.items in
    let n = c.args.number in
    let place = c.index-place.result.now in
    let count : length places ≡ c.args.self.now.count = ap (λ (t : TableValue). t.count) c.self.view_is in
    let at : slice_get places n ≡ Some place = slice_get_read places (length places) n place refl (rw count c.requires) c.index-place.ensures in
    let many : length (numbers_of es) ≡ length es = length-map es (λ e. e.0) in
    let other : place < length (numbers_of es) → get_or (numbers_of es) place n ≡ n → false ≡ true = elim c.else-place-len.branch [
      | else-place-len-via-then-place-len+else-index-number w ↦ λ within same.
          let first : get_or (numbers_of es) place n ≡ (get_or es place w.index.result.now).0 =
          get_or-map (λ e. e.0) es place w.index.result.now n (omega (arith, many, within)) in
          let is : w.index.result.now.0 ≡ n = rw (sym w.index.ensures) at (sym first ∙ same) in
          absurd (w.if-index-number.false is)
      | else-place-len-via-else-place-len w ↦ λ within same. absurd (omega (arith, many, within, c.len.ensures, w.if-place-len.false, c.self.inside.entries.ok.0))
    ] in
    place_lost (numbers_of es) places n place c.self.invariant at other
    ∙ ap (λ (t : TableValue). position (nat_eq n) (numbers_of t.entries)) c.self.view_is
