-- The draft that is made of a laid-out body is assembled: it has the form of a draft, and isn't refused.
use Rattle.std.proofs.Common.{◌≡◌, ℕ, Option, Some, None, IsTrue, ap}
use Rattle.std.specs.Option.{option_or}
use Rattle.dv_defs.specs.declared.faults.LineKind.{LineKind}
use Rattle.dv_defs.specs.declared.faults.LineKind.TheVariants as kind
use Rattle.dv_defs.specs.Spelling.{all_fit}
use Rattle.dv_draft.specs.Draft.{DraftValue, AreFormed}
use Rattle.dv_asm.specs.Refusals.{refused, label_refusal, item_refusal, refusal}
use Rattle.dv_asm.specs.Layout.{layout}
use Rattle.dv_print.specs.Drafting.{draft_of}
use Rattle.dv_print.specs.Laws.{HaveNumbers, IsAssembled}
use Rattle.dv_print.proofs.Again.LaidDraft.{IsLaidOut, laid_out, after_of}
use Rattle.dv_print.proofs.Again.FormsAgain.{formed_again, numbers_again, registers_again, offsets_again}
use Rattle.dv_print.proofs.Again.LabelsAgain.{labels_once, labels_there}
use Rattle.dv_print.proofs.Again.ItemsAgain.{short_again, once_again}
use Rattle.dv_print.proofs.Again.RangesAgain.{ranges_again}

neither_one : {Y : Type 0} (a b : Option Y) → a ≡ None → b ≡ None → option_or a b ≡ None
neither_one None b e h = h
neither_one (Some y) b e h = absurd (cc)

not_refused : (k : LineKind) (line : Option ℕ) → line ≡ None → refused k line ≡ None
not_refused k line e = ap (refused k) e

labels_taken : (d : DraftValue) → IsLaidOut d → label_refusal (after_of d) (draft_of (layout d)).catches ≡ None
labels_taken d l = neither_one _ _ (not_refused kind.LabelTwice _ (labels_once d l)) (not_refused kind.NoLabel _ (labels_there d l))

items_taken : (d : DraftValue) → IsLaidOut d → item_refusal (after_of d) ≡ None
items_taken d l =
    neither_one _ _ (not_refused kind.Repeated _ (once_again d l))
    (neither_one _ _ (not_refused kind.RegisterRange _ (registers_again d l))
    (neither_one _ _ (not_refused kind.OffsetRange _ (offsets_again d l)) (not_refused kind.TooLong _ (short_again d l))))

pub draft_is_assembled : (d : DraftValue) → AreFormed d.items → HaveNumbers d.items → refusal d ≡ None → IsTrue (all_fit 16 (layout d).units) → IsAssembled (draft_of (layout d))
draft_is_assembled d formed numbers none fit =
    let l = laid_out d formed numbers none fit in
    record {
      formed = formed_again d l;
      numbers = numbers_again d l;
      accepted = neither_one _ _ (labels_taken d l) (neither_one _ _ (items_taken d l) (ranges_again d l));
    }
