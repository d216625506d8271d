-- What stands of a payload in units.
use Rattle.std.specs.Prelude.{ℕ, ◌≡◌, ◌+◌, ◌*◌, ◌/◌, ◌^◌, ◌≤◌, List, ◌∷◌, length, take, drop, slice_index, Some, IsTrue, IsSomeAnd}
use Rattle.std.specs.List.{list_all}
use Rattle.dv_defs.specs.declared.code.Payload.{Payload}
use Rattle.dv_defs.specs.Decoding.{is_zero}
use Rattle.dv_defs.specs.Tiling.{bytes_in, is_width}
use Rattle.dv_defs.specs.Payloads.{payload_spelling}
use Rattle.dv_units.specs.Reading.{StandAt}
use Rattle.dv_units.specs.declared.header.Header.{Header}
use Rattle.dv_units.specs.declared.header.Header.TheVariants as header

-- a payload's spelling stands at an address
abbrev pub PayloadStandsAt : Payload → List ℕ → ℕ → Type 0
PayloadStandsAt p units at = IsSomeAnd (payload_spelling p) (λ us. StandAt us units at)

-- no payload's does
abbrev pub NoPayloadStandsAt : List ℕ → ℕ → Type 0
NoPayloadStandsAt units at = (p : Payload) (us : List ℕ) → payload_spelling p ≡ Some us → StandAt us units at → ⊥

-- how many units a payload has
abbrev pub header_size : Header → ℕ
header_size (header.Packed n) = n * 2 + 4
header_size (header.Sparse n) = n * 4 + 2
header_size (header.Data width bytes) = (bytes + 1) / 2 + 4

-- units that begin with a payload of such a header
abbrev pub IsHeader : Header → List ℕ → Type 0
IsHeader (header.Packed n) us = (us ≡ 0x0100 ∷ n ∷ drop 2 us) × (n * 2 + 4 ≤ length us)
IsHeader (header.Sparse n) us = (us ≡ 0x0200 ∷ n ∷ drop 2 us) × (n * 4 + 2 ≤ length us)
IsHeader (header.Data width bytes) us =
    (us ≡ 0x0300 ∷ width ∷ slice_index us 2 ∷ slice_index us 3 ∷ drop 4 us) ×
    (bytes ≡ (slice_index us 2 + slice_index us 3 * 2 ^ 16) * width) ×
    IsTrue (is_width width) ×
    ((bytes + 1) / 2 + 4 ≤ length us) ×
    IsTrue (list_all is_zero (drop bytes (bytes_in (take ((bytes + 1) / 2) (drop 4 us)))))
