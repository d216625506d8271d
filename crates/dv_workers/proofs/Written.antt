-- What a sink took of what is printed.
use Rattle.std.proofs.Common.{◌≡◌, ℕ, ◌+◌, ◌-◌, ◌≤◌, subst, List, length, take, drop, ap, sym, ◌∙◌, arith, Option, length-append, length-drop}
use Rattle.std.proofs.lemmas.List.{take-append-le, take_all}
use Rattle.dv_io.specs.Io.{after_write}
use Rattle.dv_io.proofs.Writing.{after_write-more}
use Rattle.law_output.specs.Laws.{PrintsOn}
use Rattle.dv_workers.specs.Desks.{IsWritten}

-- what is printed besides changes nothing of it
pub written_on : (began now : Option (List ℕ)) (one two : List ℕ) (n : ℕ) → IsWritten began now one n → PrintsOn one two → IsWritten began now two n
written_on began now one two n w p = record {
  taken = w.taken ∙ ap (λ bytes. after_write bytes began) (sym (ap (take n) p.1 ∙ take-append-le n one p.0 w.within));
  within = omega (arith, w.within, length-append one p.0, ap length p.1);
}

-- a front of the rest is written besides
pub written_more : (began old new : Option (List ℕ)) (bytes : List ℕ) (n more : ℕ) → IsWritten began old bytes n → more ≤ length (drop n bytes) → new ≡ after_write (take more (drop n bytes)) old → IsWritten began new bytes (n + more)
written_more began old new bytes n more w within is = record {
  taken = is ∙ ap (after_write (take more (drop n bytes))) w.taken ∙ after_write-more bytes n more began;
  within = omega (arith, within, w.within, length-drop n bytes);
}

-- the same of the slice from there on, as code writes it
pub poured_more : (began old new : Option (List ℕ)) (bytes given : List ℕ) (n more : ℕ) → given ≡ bytes → IsWritten began old bytes n → more ≤ length (take (length given - n) (drop n given)) → new ≡ after_write (take more (take (length given - n) (drop n given))) old → IsWritten began new bytes (n + more)
poured_more began old new bytes given n more same w within took =
    let rest = take_all (length given - n) (drop n given) (omega (arith, length-drop n given)) in
    let few = rw rest at within in
    let is = rw rest at took in
    subst (λ x. IsWritten began new x (n + more)) same (written_more began old new given n more (subst (λ x. IsWritten began old x n) (sym same) w) few is)
