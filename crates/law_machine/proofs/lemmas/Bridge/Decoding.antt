-- An instruction stands where its spelling does.
use Rattle.std.proofs.Common.{◌≡◌, ℕ, List, true, Some}
use Rattle.dv_defs.specs.Spelling.{all_fit}
use Rattle.dv_defs.specs.Decoding.{Sized, insn_here}
use Rattle.dv_defs.proofs.DecodingLaws.{insn_here_spelled, spelled_insn_here}
use Rattle.law_machine.specs.Laws.{IsSpelledHere, DecodingInvertsSpelling}

spelled : (us : List ℕ) (x : Sized) → all_fit 16 us ≡ true → insn_here us ≡ Some x → IsSpelledHere us x
spelled us x f e = let p = insn_here_spelled us x.insn x.size f e in record { spelled = p.1; whole = p.0 }

pub decoding_inverts_spelling : DecodingInvertsSpelling
decoding_inverts_spelling us f x = (λ e. spelled us x f e, λ s. spelled_insn_here us x.insn x.size f s.whole s.spelled)
