-- What the number of a word is read as, where an address is due.
use Rattle.std.proofs.Common.{◌≡◌, ℕ, ◌^◌, List, Ok, Err, refl, arith}
use Rattle.std.specs.Prelude.{ℤ, nat_lt}
use Rattle.std.proofs.lemmas.Bool.{cond-false, le-ltb}
use Rattle.dv_defs.specs.declared.faults.LineKind.{LineKind}
use Rattle.dv_coderead.specs.Words.{literal_in, number_in}
use Rattle.dv_coderead.specs.RawLines.{address_from, address_in}
use Rattle.dv_coderead.proofs.Values.{HasBits, refused, within}

address_bits : HasBits address_from 48
address_bits = record {
  no = refl;
  some = omega arith;
  above = λ m large. cond-false (nat_lt m (2 ^ 32)) _ _ (le-ltb m (2 ^ 32) (omega arith));
  below = λ m large. refl;
}

-- a number that 48 bits hold is the address of its value
pub address_within : (w : List ℕ) (z : ℤ) → literal_in 48 w ≡ Ok z → address_in w ≡ address_from z
unfolding literal_in address_in
address_within w z is = within address_from 48 address_bits (number_in w) z is

-- a word that isn't read in 48 bits is no address
pub address_refused : (w : List ℕ) (k : LineKind) → literal_in 48 w ≡ Err k → address_in w ≡ Err k
unfolding literal_in address_in
address_refused w k is = refused address_from 48 address_bits (number_in w) k is
