-- The bytes of a payload in their units, both ways.
use Rattle.std.proofs.Common.{◌≡◌, ℕ, ◌+◌, ◌*◌, ◌/◌, ◌%◌, ◌<◌, ◌^◌, zero, suc, Bool, true, ◌&&◌, List, [], ◌∷◌, ◌++◌, length, take, drop, refl, ap, arith}
use Rattle.std.specs.List.{list_all}
use Rattle.std.proofs.lemmas.Bool.{and_parts, ltb-true, lt-ltb, eqb-true}
use Rattle.dv_defs.specs.Spelling.{all_fit}
use Rattle.dv_defs.specs.Decoding.{is_zero}
use Rattle.dv_defs.specs.Tiling.{bytes_in}
use Rattle.dv_defs.specs.Payloads.{bytes_spelling}
use Rattle.dv_defs.proofs.DecodingFormats.{unit_parts}

-- the byte that isn't used
abbrev pub padding : List ℕ → List ℕ
padding [] = []
padding (a ∷ []) = 0 ∷ []
padding (a ∷ b ∷ bytes) = padding bytes

pub padding_is_zero : (bytes : List ℕ) → list_all is_zero (padding bytes) ≡ true
padding_is_zero [] = refl
padding_is_zero (a ∷ []) = refl
padding_is_zero (a ∷ b ∷ bytes) = padding_is_zero bytes

pub length_bytes : (bytes : List ℕ) → length (bytes_spelling bytes) ≡ (length bytes + 1) / 2
length_bytes [] = refl
length_bytes (a ∷ []) = refl
length_bytes (a ∷ b ∷ bytes) = let h = length_bytes bytes in omega (arith, h)

byte_parts : (b : ℕ) (bytes : List ℕ) → all_fit 8 (b ∷ bytes) ≡ true → (b < 2 ^ 8) × (all_fit 8 bytes ≡ true)
byte_parts b bytes t = let p = and_parts _ _ t in (ltb-true _ _ p.0, p.1)

of_unit : (a b : ℕ) → a < 2 ^ 8 → ((b * 256 + a) % 256 ≡ a) × ((b * 256 + a) / 256 ≡ b)
of_unit a b h = (omega arith, omega arith)

pub bytes_back : (bytes : List ℕ) → all_fit 8 bytes ≡ true → bytes_in (bytes_spelling bytes) ≡ bytes ++ padding bytes
bytes_back [] t = refl
bytes_back (a ∷ []) t = let p = of_unit a 0 (byte_parts a [] t).0 in cc (p.0, p.1)
bytes_back (a ∷ b ∷ bytes) t =
    let q = byte_parts a (b ∷ bytes) t in
    let p = of_unit a b q.0 in
    let h = bytes_back bytes (byte_parts b bytes q.1).1 in
    cc (p.0, p.1, h)

pub length_bytes_in : (us : List ℕ) → length (bytes_in us) ≡ length us * 2
length_bytes_in [] = refl
length_bytes_in (u ∷ us) = let h = length_bytes_in us in omega (arith, h)

both : (a b : Bool) → a ≡ true → b ≡ true → (a && b) ≡ true
both a b h k = cc

pub bytes_fit : (us : List ℕ) → all_fit 16 us ≡ true → all_fit 8 (bytes_in us) ≡ true
bytes_fit [] t = refl
bytes_fit (u ∷ us) t =
    let p = unit_parts u us t in
    let low : u % 256 < 2 ^ 8 = omega arith in
    let high : u / 256 < 2 ^ 8 = omega (arith, p.0) in
    both _ _ (lt-ltb _ _ low) (both _ _ (lt-ltb _ _ high) (bytes_fit us p.1))

pub fit_taken : (n : ℕ) (bytes : List ℕ) → all_fit 8 bytes ≡ true → all_fit 8 (take n bytes) ≡ true
fit_taken zero bytes t = refl
fit_taken (suc n) [] t = refl
fit_taken (suc n) (b ∷ bytes) t = let p = and_parts _ _ t in both _ _ p.0 (fit_taken n bytes p.1)

pub units_back : (us : List ℕ) (n : ℕ) → length us ≡ (n + 1) / 2 → list_all is_zero (drop n (bytes_in us)) ≡ true → bytes_spelling (take n (bytes_in us)) ≡ us
units_back [] zero e z = refl
units_back [] (suc n) e z = absurd (omega arith)
units_back (u ∷ us) zero e z = absurd (omega arith)
units_back (u ∷ []) (suc zero) e z =
    let p = and_parts _ _ z in
    let high : u / 256 ≡ 0 = eqb-true _ _ p.0 in
    let low : 0 * 256 + u % 256 ≡ u = omega (arith, high) in
    ap (λ w. w ∷ []) low
units_back (u ∷ v ∷ us) (suc zero) e z = absurd (omega arith)
units_back (u ∷ us) (suc (suc n)) e z =
    let h = units_back us n (omega arith) z in
    let w : u / 256 * 256 + u % 256 ≡ u = omega arith in
    cc (w, h)
