use Rattle.std.proofs.Common.{◌≡◌, ◌+◌, ◌≤◌, ℕ, true, length, get_or, sym, ap, ◌∙◌, arith}
use Rattle.std.specs.Prelude.{slice_set}
use Rattle.dv_typing.specs.RegTypes.{under}
use Rattle.dv_bases.specs.Bases.{word_type}
use Rattle.dv_types.proofs.Same.{under_equal}
use Rattle.dv_types.proofs.Raising.{AreRaised, all_joined, all_risen, as_before, one_rises, one_stays}
use Rattle.dv_types.proofs.rows.raise_registers.Goals.{then-own-place+then-not-is_word_under, else-own-place, else-own-place-via-then-own-place+else-not-is_word_under, else-own-place-via-else-own-place}
use Rattle.dv_types.proofs.rows.raise_registers.Goals as goal

pub loop-place-preserved : goal.loop-place-preserved
loop-place-preserved c =
    let names = c.args.bases.now in
    let old = c.args.own.now in
    let by = c.args.by.now in
    let own = c.loop-place.own in
    let place = c.loop-place.place in
    let rose = c.loop-place.rose in
    let h = c.have_ground.ensures.hierarchy in
    let kept : under names.image (word_type names (get_or by place 0)) (word_type names (get_or own place 0)) ≡ true → AreRaised names old by own (place + 1) rose =
    λ u. one_stays names h old by own place rose c.loop-place.invariant u in
    elim c.if-own-place.branch [
      | then-own-place+then-not-is_word_under w ↦
          as_before names h old by (slice_set own place w.joined_word.result) c.if-own-place.own (place + 1) true c.if-own-place.rose w.own-is w.rose-is
          (one_rises names h old by own place w.joined_word.result rose c.loop-place.invariant (let long = c.loop-place.invariant.count in omega (arith, long)) (sym w.is_word_under.ensures ∙ w.if-not-is_word_under.true) w.joined_word.ensures.joined w.joined_word.ensures.word)
      | else-own-place w ↦
          as_before names h old by own c.if-own-place.own (place + 1) rose c.if-own-place.rose w.own-is w.rose-is
          (elim w.else-own-place.branch [
            | else-own-place-via-then-own-place+else-not-is_word_under v ↦ kept (sym v.is_word_under.ensures ∙ v.if-not-is_word_under.false)
            | else-own-place-via-else-own-place v ↦ kept (under_equal names.image (word_type names (get_or by place 0)) (word_type names (get_or own place 0)) (ap (λ (x : ℕ). word_type names x) (sym v.if-own-place.false)))
          ])
    ]

pub returns-clause-risen : goal.returns-clause-risen
returns-clause-risen c =
    let past : length c.loop-place.own ≤ c.loop-place.place = (let long = c.loop-place.invariant.count in omega (arith, long)) in
    all_risen c.args.bases.now c.have_ground.ensures.hierarchy c.args.own.now c.args.by.now c.loop-place.own c.loop-place.place c.loop-place.rose c.loop-place.invariant past c.requires.count

pub returns-clause-joined : goal.returns-clause-joined
returns-clause-joined c =
    let past : length c.loop-place.own ≤ c.loop-place.place = (let long = c.loop-place.invariant.count in omega (arith, long)) in
    all_joined c.args.bases.now c.have_ground.ensures.hierarchy c.args.own.now c.args.by.now c.loop-place.own c.loop-place.place c.loop-place.rose c.loop-place.invariant past c.requires.count
