-- The listing of classes doesn't hang on their lines.
use Rattle.std.proofs.Common.{◌≡◌, ℕ, ◌+◌, [], ◌∷◌, ◌++◌, length, refl, ap, ◌∙◌}
use Rattle.std.specs.Str.Lines.{lines}
use Rattle.dv_defs.specs.declared.class.ClassDef.{ClassDef}
use Rattle.dv_print.specs.Listing.{class_text}
use Rattle.law_listing.specs.ProgramLaws.{ListingsHaveNoLines, classes_text, numbered_classes}

same_text : (n : ℕ) (c : ClassDef) → class_text (record c { line = n }) ≡ class_text c
unfolding class_text
same_text n c = refl

pub same_texts : ListingsHaveNoLines
same_texts n [] = refl
same_texts n (c ∷ cs) =
    let next : ℕ = n + length (lines (class_text c)) in
    ap (λ w. w ++ classes_text (numbered_classes next cs)) (same_text n c) ∙ ap (λ w. class_text c ++ w) (same_texts next cs)
