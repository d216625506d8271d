use Rattle.std.proofs.Common.{◌≡◌, List, Ok, length, map, refl, ap, sym, subst, ◌∙◌}
use Rattle.std.proofs.lemmas.Result.{IfOk-weaker}
use Rattle.dv_defs.specs.Body.{BodyValue}
use Rattle.dv_defs.specs.Tiling.{tiling}
use Rattle.dv_draft.specs.declared.draft.Item.{Item}
use Rattle.dv_draft.specs.declared.pools.Pools.{Pools}
use Rattle.dv_draft.specs.Pools.{pools_of}
use Rattle.dv_asm.specs.Layout.{AreWritable, with_kinds, entry_of, body_with}
use Rattle.dv_asm.specs.Ranges.{ranges_in}
use Rattle.dv_asm.specs.Tiles.{tiles_of}
use Rattle.dv_asm.proofs.HandlerLemmas.{is_body, is_layout}
use Rattle.dv_asm.proofs.assembling.body_of.Goals as goal

named : (items places short : List Item) (pools : Pools) → pools ≡ pools_of items → items ≡ places → places ≡ short → pools ≡ pools_of short
named items places short pools is read same = is ∙ ap pools_of (read ∙ same)

pub code_of-requires : goal.code_of-requires
code_of-requires c =
    let P : Pools → Type 0 = λ pools. AreWritable c.args.catches.now.short.now pools in
    subst P (sym (named _ _ c.args.catches.now.short.now c.in_ok-pools.pools c.in_ok-pools.ensures c.items.ensures c.places.ensures)) c.requires.writable

pub body_with-requires : goal.body_with-requires
body_with-requires c =
    is_body c.args.registers c.args.catches.now.short.now c.args.catches.now.catches.now c.in_ok-pools.pools (ranges_in c.args.sorted.now.entries) c.in-Ok.units.items c.in-Ok.tries.items c.code_of.new.pools.types
    c.requires.few c.is_short.ensures c.in-Ok.ensures.units c.in-Ok.ensures.tries

pub returns-in-Ok-clause-value : goal.returns-in-Ok-clause-value
returns-in-Ok-clause-value c =
    let items = c.args.catches.now.short.now in
    let catches = c.args.catches.now.catches.now in
    let pools = c.in_ok-pools.pools in
    let rs = ranges_in c.args.sorted.now.entries in
    let units = c.in-Ok.units.items in
    let tries = c.in-Ok.tries.items in
    let tried = c.in-Ok.ensures.tries ∙ ap (λ (p : Pools). map (entry_of items catches p.types) rs) c.in-Ok.ensures.types in
    let layout = ap (body_with c.args.registers units tries) c.in-Ok.ensures.types ∙
    is_layout c.args.registers items catches pools rs units tries (with_kinds items catches pools.types rs)
    (named _ _ items pools c.in_ok-pools.ensures c.items.ensures c.places.ensures) c.requires.sorted c.in-Ok.ensures.units tried refl in
    IfOk-weaker c.body_with.result _ _ (λ body is. is ∙ layout) c.body_with.ensures

pub returns-in-Ok-clause-tiled : goal.returns-in-Ok-clause-tiled
returns-in-Ok-clause-tiled c =
    let items = c.args.catches.now.short.now in
    let tiled = c.in-Ok.ensures.tiled ∙ ap (λ (pools : Pools). Ok (tiles_of items pools (length items))) (named _ _ items c.in_ok-pools.pools c.in_ok-pools.ensures c.items.ensures c.places.ensures) in
    IfOk-weaker c.body_with.result _ _ (λ body is. ap (λ (b : BodyValue). tiling b.units) is ∙ tiled) c.body_with.ensures
