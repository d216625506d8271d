-- The one spelling of each payload as 16-bit units (AOSP, "Dalvik bytecode format").
use Rattle.std.specs.Prelude.{ℕ, ◌/◌, ◌%◌, ℤ, Bool, true, false, ◌&&◌, nat_eq, List, [], ◌∷◌, ◌++◌, length, Option, Some, None, if◌then◌else◌}
use Rattle.std.specs.List.{list_all}
use Rattle.dv_defs.specs.declared.code.Payload.{Payload}
use Rattle.dv_defs.specs.declared.code.Payload.TheVariants as payload
use Rattle.dv_defs.specs.Spelling.{unit, two_units, fits_in, all_fit, fits_signed, complement}
use Rattle.dv_defs.specs.Tiling.{SizedPayload, payload_of, begins_payload, is_width}

-- signed numbers of 32 bits, each in two units, the low one first
abbrev pub numbers_spelling : List ℤ → List ℕ
numbers_spelling [] = []
numbers_spelling (x ∷ xs) = two_units (complement 32 x) ++ numbers_spelling xs

-- bytes, the low byte of a unit first; a last byte that isn't used is 0
abbrev pub bytes_spelling : List ℕ → List ℕ
bytes_spelling [] = []
bytes_spelling (a ∷ []) = unit 0 a ∷ []
bytes_spelling (a ∷ b ∷ bytes) = unit b a ∷ bytes_spelling bytes

abbrev pub all_fit_signed : List ℤ → Bool
all_fit_signed xs = list_all (λ x. fits_signed 32 x) xs

-- the units, where the parts fit their fields
abbrev pub where_fits : Bool → List ℕ → Option (List ℕ)
where_fits fitting us = if fitting then Some us else None

-- 0100, size, first key, targets
abbrev pub packed_spelling : ℤ → List ℤ → Option (List ℕ)
packed_spelling first targets =
    where_fits
    (fits_in 16 (length targets) && (fits_signed 32 first && all_fit_signed targets))
    (0x0100 ∷ length targets ∷ numbers_spelling (first ∷ targets))

-- 0200, size, keys, as many targets
abbrev pub sparse_spelling : List ℤ → List ℤ → Option (List ℕ)
sparse_spelling keys targets =
    where_fits
    (fits_in 16 (length keys) && (nat_eq (length targets) (length keys) && (all_fit_signed keys && all_fit_signed targets)))
    (0x0200 ∷ length keys ∷ (numbers_spelling keys ++ numbers_spelling targets))

-- 0300, width of an element in bytes, number of elements, bytes
abbrev pub data_spelling : ℕ → List ℕ → Option (List ℕ)
data_spelling width bytes =
    let count = length bytes / width in
    where_fits
    (is_width width && (nat_eq (length bytes % width) 0 && (fits_in 32 count && all_fit 8 bytes)))
    (0x0300 ∷ width ∷ (two_units count ++ bytes_spelling bytes))

abbrev pub payload_spelling : Payload → Option (List ℕ)
payload_spelling (payload.Packed first targets) = packed_spelling first targets
payload_spelling (payload.Sparse keys targets) = sparse_spelling keys targets
payload_spelling (payload.Data width bytes) = data_spelling width bytes

-- the payload that is spelled from here on
abbrev pub payload_here : List ℕ → Option SizedPayload
payload_here [] = None
payload_here (u ∷ us) = elim (begins_payload u) [ true ↦ payload_of (u / 256) us | false ↦ None ]
