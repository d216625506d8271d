-- Which refusal is told, where refusals are looked for one after another.
use Rattle.std.proofs.Common.{◌≡◌, List, Option, Some, None, Result, Ok, Err, IfOk, IfErr, ap, sym, subst, ◌∙◌}
use Rattle.std.specs.Option.{option_or}
use Rattle.dv_defs.specs.declared.faults.LineError.{LineError}
use Rattle.dv_defs.specs.declared.faults.LineError.TheVariants as error
use Rattle.dv_draft.specs.declared.draft.Item.{Item}
use Rattle.dv_draft.specs.declared.draft.Catch.{Catch}
use Rattle.dv_draft.specs.Draft.{DraftValue}
use Rattle.dv_asm.specs.Refusals.{Refusal, Tells, Checks, label_refusal, item_refusal, range_refusal, refusal}

or_found : (a b : Option Refusal) (r : Refusal) → a ≡ Some r → option_or a b ≡ Some r
or_found None b r found = absurd (cc)
or_found (Some q) b r found = found

-- the first one is told
told_first : (e : LineError) (a b : Option Refusal) → Tells e a → Tells e (option_or a b)
told_first error.Memory a b tells = tt
told_first (error.At line kind) a b tells = or_found a b _ tells

-- the first one doesn't stand
told_later : (e : LineError) (a b : Option Refusal) → a ≡ None → Tells e b → Tells e (option_or a b)
told_later error.Memory a b none tells = tt
told_later (error.At line kind) a b none tells = ap (λ (x : Option Refusal). option_or x b) none ∙ tells

module _ (d : DraftValue) (items : List Item) (catches : List Catch) (placed : items ≡ d.items) (caught : catches ≡ d.catches) where
  -- of the refusals of labels
  pub told_labels : (e : LineError) → Tells e (label_refusal items catches) → Tells e (refusal d)
  told_labels e tells =
      let P : Option Refusal → Type 0 = λ q. Tells e q in
      told_first e (label_refusal d.items d.catches) _ (subst P (λ i. label_refusal (placed i) (caught i)) tells)

  module _ (labels : label_refusal items catches ≡ None) where
    no_labels : label_refusal d.items d.catches ≡ None
    no_labels = (λ i. label_refusal (sym placed i) (sym caught i)) ∙ labels

    -- of the refusals of items
    pub told_items : (e : LineError) → Tells e (item_refusal items) → Tells e (refusal d)
    told_items e tells =
        let P : List Item → Type 0 = λ xs. Tells e (item_refusal xs) in
        told_later e (label_refusal d.items d.catches) _ no_labels (told_first e (item_refusal d.items) (range_refusal d.items d.catches) (subst P placed tells))

    -- what is left are the refusals of ranges
    pub left_ranges : (short : List Item) → item_refusal items ≡ None → short ≡ items → range_refusal short catches ≡ refusal d
    left_ranges short none here =
        let fits : item_refusal d.items ≡ None = ap item_refusal (sym placed) ∙ none in
        (λ i. range_refusal ((here ∙ placed) i) (caught i)) ∙ sym (λ i. option_or (no_labels i) (option_or (fits i) (range_refusal d.items d.catches)))

-- what a check tells, where all refusals are looked for
pub sound : {Y : Type 0} (result : Result Y LineError) (q : Option Refusal) → Checks result q → IfOk result (λ y. q ≡ None)
sound (Ok y) q checks = checks
sound (Err e) q checks = tt

pub refused : {Y : Type 0} (result : Result Y LineError) (q : Option Refusal) → Checks result q → IfErr result (λ e. Tells e q)
refused (Ok y) q checks = tt
refused (Err e) q checks = checks
