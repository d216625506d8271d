-- What a word holds, by its kind and what is above it.
use Rattle.std.proofs.Common.{◌≡◌, ◌+◌, ◌*◌, ◌<◌, ◌%◌, ◌/◌, ℕ, ◌∙◌, arith}
use Rattle.dv_bases.specs.declared.words.Reference.{Reference}
use Rattle.dv_bases.specs.declared.words.Part.{Part}
use Rattle.dv_bases.specs.declared.words.Part.TheVariants as part
use Rattle.dv_bases.specs.Words.{held, part_in}

pub part_is : (word kind rest : ℕ) → word % 8 ≡ kind → word / 8 ≡ rest → part_in word ≡ held kind rest
unfolding part_in
part_is word kind rest k r = λ i. held (k i) (r i)

pub uninit_is : (at : ℕ) → part_in (at * 8 + 6) ≡ part.Uninit at
uninit_is at = part_is (at * 8 + 6) 6 at (omega arith) (omega arith)

pub class_is : (class : Reference) → class.dims < 256 → part_in ((class.base * 256 + class.dims) * 8 + 7) ≡ part.Class class
class_is class fits =
    let made : ℕ → ℕ → Part = λ d b. part.Class (record { dims = d; base = b }) in
    let rest = class.base * 256 + class.dims in
    let dims : rest % 256 ≡ class.dims = omega (arith, fits) in
    let base : rest / 256 ≡ class.base = omega (arith, fits) in
    part_is (rest * 8 + 7) 7 rest (omega arith) (omega arith) ∙ (λ i. made (dims i) (base i))
