-- The boot classes, by what their text is read as.
use Rattle.std.proofs.Common.{◌≡◌, ℕ, false, List, [], Result, Err, sym, ap, subst, ◌∙◌}
use Rattle.dv_defs.specs.declared.faults.LineError.{LineError}
use Rattle.dv_defs.specs.declared.faults.LineError.TheVariants as error
use Rattle.dv_defs.specs.declared.faults.LineKind.{LineKind}
use Rattle.dv_lex.specs.declared.line.Stop.{Stop}
use Rattle.dv_lex.specs.Lines.{reading_of}
use Rattle.dv_coderead.specs.Giving.{Stops}
use Rattle.dv_boot.specs.declared.text.TheConstants.{BOOT_TEXT}
use Rattle.dv_classread.specs.declared.text.Read.{Read}
use Rattle.dv_classread.specs.Programs.{program_of}
use Rattle.dv_load.specs.Images.{boot_classes, classes_read}

pub boot_read : (text : List ℕ) (read : Result Read Stop) → text ≡ BOOT_TEXT.now → program_of false (reading_of text) ≡ read → classes_read read ≡ boot_classes
unfolding boot_classes
boot_read text read same e = ap classes_read (sym e ∙ ap (λ t. program_of false (reading_of t)) same)

-- there would be none, if a line of it were bad
pub boot_refused : (text : List ℕ) (fault : LineError) (number : ℕ) (kind : LineKind) → text ≡ BOOT_TEXT.now → fault ≡ error.At number kind → Stops fault (program_of false (reading_of text)) → [] ≡ boot_classes
boot_refused text fault number kind same is told =
    let P : LineError → Type 0 = λ e. Stops e (program_of false (reading_of text)) in
    boot_read text (Err (record { line = number; kind = kind })) same (subst P is told)
