use Rattle.std.proofs.Common.{ℕ, false, List, [], ◌∷◌, ap, ◌∙◌, sym, append-nil}
use Rattle.std.proofs.lemmas.List.Elements.{All-nil, All-cons}
use Rattle.dv_lex.specs.Lines.{reading_of}
use Rattle.dv_print.specs.Listing.{class_text}
use Rattle.dv_classread.specs.Programs.{program_of}
use Rattle.law_listing.specs.ClassListable.{IsListedClass}
use Rattle.law_listing.proofs.listing_laws.listings_are_read.Goals as goal

pub returns : goal.returns
returns c class h =
    ap (λ (w : List ℕ). program_of false (reading_of w)) (sym (append-nil (class_text class)))
    ∙ c.programs_are_read.ensures (class ∷ []) (All-cons IsListedClass class [] h (All-nil IsListedClass))
