-- What the parts of the reply to a text that is to be listed give together.
use Rattle.std.proofs.Common.{◌≡◌, ℕ, ◌<◌, ◌≤◌, List, length, flat_map, false, Ok, Err}
use Rattle.dv_lex.specs.declared.line.Stop.{Stop}
use Rattle.dv_lex.specs.Lines.{reading_of}
use Rattle.dv_print.specs.Listing.{class_text}
use Rattle.dv_classread.specs.declared.text.Read.{Read}
use Rattle.dv_classread.specs.Programs.{program_of}
use Rattle.dv_console.specs.declared.refusals.Refusal.TheVariants as refusal
use Rattle.dv_console.specs.Refusals.{refusal_text}
use Rattle.dv_top.specs.declared.status.Status.TheVariants as exit
use Rattle.dv_top.specs.Answering.{IsReadOf}
use Rattle.dv_top.specs.Said.{IsSaidOfListing, TooLargeToList, BadText, Listed, too_large, text_limit}
use Rattle.dv_top.specs.Status.{code_of}
use Rattle.dv_top.proofs.AnsweringLemmas.{found_in, read_past}

pub said_too_large_to_list : (bytes text : List ℕ) (status : ℕ) (reply : List ℕ) → IsReadOf bytes text → text_limit < length text → status ≡ code_of exit.TooLarge → reply ≡ too_large → IsSaidOfListing bytes status reply
said_too_large_to_list bytes text status reply is many told prints = TooLargeToList (read_past bytes text is many) (told, prints)

pub said_bad : (bytes text : List ℕ) (bad : Stop) (status : ℕ) (reply : List ℕ) → IsReadOf bytes text → length text ≤ text_limit → program_of false (reading_of text) ≡ Err bad → status ≡ code_of exit.BadText → reply ≡ refusal_text (refusal.Line bad.line bad.kind) → IsSaidOfListing bytes status reply
said_bad bytes text bad status reply is few stops told prints =
    let found = found_in (λ t. program_of false (reading_of t)) bytes text (Err bad) is few stops in
    BadText found.0 bad found.1 (told, prints)

pub said_listed : (bytes text : List ℕ) (read : Read) (status : ℕ) (reply : List ℕ) → IsReadOf bytes text → length text ≤ text_limit → program_of false (reading_of text) ≡ Ok read → status ≡ code_of exit.Done → reply ≡ flat_map class_text read.classes → IsSaidOfListing bytes status reply
said_listed bytes text read status reply is few gives told prints =
    let found = found_in (λ t. program_of false (reading_of t)) bytes text (Ok read) is few gives in
    Listed found.0 read found.1 (told, prints)
