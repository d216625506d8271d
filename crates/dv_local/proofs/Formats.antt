-- What is read by each format.
use Rattle.std.proofs.Common.{◌≡◌, ℕ, zero, suc, ◌+◌, ◌*◌, ◌/◌, ◌%◌, ◌^◌, List, [], ◌∷◌, Option, Some, sym, ap, ◌∙◌}
use Rattle.std.specs.Prelude.{slice_index}
use Rattle.std.proofs.lemmas.Option.{same_Some}
use Rattle.dv_defs.specs.declared.code.Insn.{Insn}
use Rattle.dv_defs.specs.Decoding.{Sized, high_literal, insn_here, read_by, read_in}
use Rattle.dv_defs.specs.Formats.{Format, F10x, F12x, F11n, F11x, F10t, F20t, F22x, F21t, F21s, F21h, F23x, F22b, F22t, F22s, F30t, F32x, F31i, F31t, F51l, format_at}
use Rattle.dv_defs.specs.Numbers.{signed_at}
use Rattle.dv_defs.specs.Spelling.{few, plain, with_literal, with_offset}
use Rattle.dv_local.specs.declared.here.Here.{Here}
use Rattle.dv_local.specs.Spelled.{rest_of}

abbrev pub sized_as : ℕ → Insn → Sized
sized_as n i = record { insn = i; size = n }

-- what a format reads there is just this
abbrev pub Reads : Format → ℕ → ℕ → List ℕ → ℕ → Insn → Type 0
Reads f k a us n i = (z : Sized) → read_in f k a us ≡ Some z → z ≡ sized_as n i

just : (x z : Sized) → (let o : Option Sized = Some x in o) ≡ Some z → z ≡ x
just x z e = sym (same_Some x z e)

abbrev pub two : List ℕ → ℕ
two us = slice_index us 0 + slice_index us 1 * 2 ^ 16

pub reads_10x : (k a : ℕ) (us : List ℕ) → Reads F10x k a us 1 (plain k (few []))
reads_10x k zero us z e = just _ z e
reads_10x k (suc a) us z e = absurd (cc)

pub reads_12x : (k a : ℕ) (us : List ℕ) → Reads F12x k a us 1 (plain k (few (a % 16 ∷ a / 16 ∷ [])))
reads_12x k a us z e = just _ z e

pub reads_11n : (k a : ℕ) (us : List ℕ) → Reads F11n k a us 1 (with_literal k (few (a % 16 ∷ [])) (signed_at 4 (a / 16)))
reads_11n k a us z e = just _ z e

pub reads_11x : (k a : ℕ) (us : List ℕ) → Reads F11x k a us 1 (plain k (few (a ∷ [])))
reads_11x k a us z e = just _ z e

pub reads_10t : (k a : ℕ) (us : List ℕ) → Reads F10t k a us 1 (with_offset k (few []) (signed_at 8 a))
reads_10t k a us z e = just _ z e

pub reads_20t : (k a : ℕ) (us : List ℕ) → Reads F20t k a us 2 (with_offset k (few []) (signed_at 16 (slice_index us 0)))
reads_20t k a [] z e = absurd (cc)
reads_20t k zero (v ∷ us) z e = just _ z e
reads_20t k (suc a) (v ∷ us) z e = absurd (cc)

pub reads_22x : (k a : ℕ) (us : List ℕ) → Reads F22x k a us 2 (plain k (few (a ∷ slice_index us 0 ∷ [])))
reads_22x k a [] z e = absurd (cc)
reads_22x k a (v ∷ us) z e = just _ z e

pub reads_21t : (k a : ℕ) (us : List ℕ) → Reads F21t k a us 2 (with_offset k (few (a ∷ [])) (signed_at 16 (slice_index us 0)))
reads_21t k a [] z e = absurd (cc)
reads_21t k a (v ∷ us) z e = just _ z e

pub reads_21s : (k a : ℕ) (us : List ℕ) → Reads F21s k a us 2 (with_literal k (few (a ∷ [])) (signed_at 16 (slice_index us 0)))
reads_21s k a [] z e = absurd (cc)
reads_21s k a (v ∷ us) z e = just _ z e

pub reads_21h : (k a : ℕ) (us : List ℕ) → Reads F21h k a us 2 (with_literal k (few (a ∷ [])) (high_literal k (slice_index us 0)))
reads_21h k a [] z e = absurd (cc)
reads_21h k a (v ∷ us) z e = just _ z e

pub reads_23x : (k a : ℕ) (us : List ℕ) → Reads F23x k a us 2 (plain k (few (a ∷ slice_index us 0 % 256 ∷ slice_index us 0 / 256 ∷ [])))
reads_23x k a [] z e = absurd (cc)
reads_23x k a (v ∷ us) z e = just _ z e

pub reads_22b : (k a : ℕ) (us : List ℕ) → Reads F22b k a us 2 (with_literal k (few (a ∷ slice_index us 0 % 256 ∷ [])) (signed_at 8 (slice_index us 0 / 256)))
reads_22b k a [] z e = absurd (cc)
reads_22b k a (v ∷ us) z e = just _ z e

pub reads_22t : (k a : ℕ) (us : List ℕ) → Reads F22t k a us 2 (with_offset k (few (a % 16 ∷ a / 16 ∷ [])) (signed_at 16 (slice_index us 0)))
reads_22t k a [] z e = absurd (cc)
reads_22t k a (v ∷ us) z e = just _ z e

pub reads_22s : (k a : ℕ) (us : List ℕ) → Reads F22s k a us 2 (with_literal k (few (a % 16 ∷ a / 16 ∷ [])) (signed_at 16 (slice_index us 0)))
reads_22s k a [] z e = absurd (cc)
reads_22s k a (v ∷ us) z e = just _ z e

pub reads_30t : (k a : ℕ) (us : List ℕ) → Reads F30t k a us 3 (with_offset k (few []) (signed_at 32 (two us)))
reads_30t k a [] z e = absurd (cc)
reads_30t k a (v ∷ []) z e = absurd (cc)
reads_30t k zero (v ∷ w ∷ us) z e = just _ z e
reads_30t k (suc a) (v ∷ w ∷ us) z e = absurd (cc)

pub reads_32x : (k a : ℕ) (us : List ℕ) → Reads F32x k a us 3 (plain k (few (slice_index us 0 ∷ slice_index us 1 ∷ [])))
reads_32x k a [] z e = absurd (cc)
reads_32x k a (v ∷ []) z e = absurd (cc)
reads_32x k zero (v ∷ w ∷ us) z e = just _ z e
reads_32x k (suc a) (v ∷ w ∷ us) z e = absurd (cc)

pub reads_31i : (k a : ℕ) (us : List ℕ) → Reads F31i k a us 3 (with_literal k (few (a ∷ [])) (signed_at 32 (two us)))
reads_31i k a [] z e = absurd (cc)
reads_31i k a (v ∷ []) z e = absurd (cc)
reads_31i k a (v ∷ w ∷ us) z e = just _ z e

pub reads_31t : (k a : ℕ) (us : List ℕ) → Reads F31t k a us 3 (with_offset k (few (a ∷ [])) (signed_at 32 (two us)))
reads_31t k a [] z e = absurd (cc)
reads_31t k a (v ∷ []) z e = absurd (cc)
reads_31t k a (v ∷ w ∷ us) z e = just _ z e

abbrev pub four : List ℕ → ℕ
four us = slice_index us 0 + slice_index us 1 * 2 ^ 16 + slice_index us 2 * 2 ^ 32 + slice_index us 3 * 2 ^ 48

pub reads_51l : (k a : ℕ) (us : List ℕ) → Reads F51l k a us 5 (with_literal k (few (a ∷ [])) (signed_at 64 (four us)))
reads_51l k a [] z e = absurd (cc)
reads_51l k a (v ∷ []) z e = absurd (cc)
reads_51l k a (v ∷ w ∷ []) z e = absurd (cc)
reads_51l k a (v ∷ w ∷ x ∷ []) z e = absurd (cc)
reads_51l k a (v ∷ w ∷ x ∷ y ∷ us) z e = just _ z e

-- ---- at an address

-- the instruction that is read here is this
abbrev pub IsInsn : Here → ℕ → Insn → Type 0
IsInsn h n i = (z : Sized) → insn_here (h.first ∷ rest_of h) ≡ Some z → z ≡ sized_as n i

-- by the opcode's format
pub read_as : (h : Here) (k : ℕ) (f : Format) (n : ℕ) (i : Insn) → h.first % 256 ≡ k → format_at k ≡ Some f → Reads f k (h.first / 256) (rest_of h) n i → IsInsn h n i
read_as h k f n i e m reads z read =
    let a : ℕ = h.first / 256 in
    let us : List ℕ = rest_of h in
    let by : read_by (format_at k) k a us ≡ Some z = ap (λ (o : ℕ). read_by (format_at o) o a us) (sym e) ∙ read in
    reads z (ap (λ (g : Option Format). read_by g k a us) (sym m) ∙ by)
