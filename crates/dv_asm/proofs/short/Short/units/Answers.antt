use Rattle.std.proofs.Common.{◌≡◌, ◌+◌, ℕ, suc, List, [], ◌++◌, IsSome, ap, ◌∙◌, subst, arith, below_more}
use Rattle.std.specs.Option.{unwrap_or}
use Rattle.dv_draft.specs.declared.draft.Item.{Item}
use Rattle.dv_draft.specs.declared.pools.Pools.{Pools}
use Rattle.dv_asm.specs.Items.{item_at}
use Rattle.dv_asm.specs.Places.{address_of}
use Rattle.dv_asm.specs.Layout.{units_of, spelling_of, padded}
use Rattle.dv_defs.specs.Spelling.{AreUnits}
use Rattle.dv_asm.proofs.TileLemmas.{made_units}
use Rattle.dv_asm.proofs.short.Short.units.Goals as goal

-- one more item
units_more : (items : List Item) (pools : Pools) (k address : ℕ) (us ps new : List ℕ) (item : Item) → item ≡ item_at items k → us ≡ units_of items pools k → address ≡ address_of items k → ps ≡ padded address us → new ≡ ps ++ unwrap_or (spelling_of items pools k item.what) [] → new ≡ units_of items pools (k + 1)
units_more items pools k address us ps new item is before place pad appended =
    let next : suc k ≡ k + 1 = omega arith in
    let padding : ps ≡ padded (address_of items k) (units_of items pools k) = pad ∙ (ap (λ (a : ℕ). padded a us) place ∙ ap (padded (address_of items k)) before) in
    appended ∙ (ap (λ (i : Item). ps ++ unwrap_or (spelling_of items pools k i.what) []) is ∙
    (ap (λ (xs : List ℕ). xs ++ unwrap_or (spelling_of items pools k (item_at items k).what) []) padding ∙ ap (units_of items pools) next))

pub loop-k-preserved : goal.loop-k-preserved
loop-k-preserved c =
    let items = c.args.self.now in
    let k = c.loop-k.k in
    let Spelled : Item → Type 0 = λ i. IsSome (spelling_of items c.args.pools.now k i.what) in (
      units_more items c.args.pools.now k c.address_of.result c.loop-k.units.items c.pad.new.units.items c.append.new.units.items c.item.result.now c.item.ensures c.loop-k.invariant.0 c.address_of.ensures.value c.in_ok-pad.ensures c.in_ok-append.ensures.units,
      below_more _ _ c.loop-k.invariant.1 (subst Spelled c.item.ensures c.in_ok-append.ensures.spelled),
    )

pub returns-clause-tiled : goal.returns-clause-tiled
returns-clause-tiled c =
    let Fit : List ℕ → Type 0 = λ us. AreUnits us in
    made_units c.args.self.now c.args.pools.now c.loop-k.k c.loop-k.units.items (omega arith) c.loop-k.invariant.0 c.loop-k.invariant.1 (subst Fit c.deref.ensures.value c.units_fit.ensures)
