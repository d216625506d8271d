-- The elements of an array as numbers, and their bytes again.
use Rattle.std.proofs.Common.{◌≡◌, ℕ, zero, suc, ◌+◌, ◌-◌, ◌*◌, ◌/◌, ◌%◌, ◌^◌, ◌<◌, ◌≤◌, ◌⊎◌, ℤ, pos, negsuc, Bool, true, false, ◌||◌, List, [], ◌∷◌, ◌++◌, length, take, drop, nat_eq, nat_lt, All, IsTrue, inl, inr, refl, sym, ap, ◌∙◌, subst, arith}
use Rattle.std.specs.Prelude.{◌≤ℤ◌, ◌<ℤ◌, unsigned_abs, if◌then◌else◌}
use Rattle.std.specs.Int.{byte_at, bytes_low_first}
use Rattle.std.specs.List.{flat_map}
use Rattle.std.proofs.Math.Nat.{pow-succ', div-div-eq-div-mul, pow-suc}
use Rattle.std.proofs.lemmas.Bool.{or_cases, eqb-true, ltb-true, ltb-false}
use Rattle.std.proofs.lemmas.Int.{ints}
use Rattle.std.proofs.lemmas.Nat.{div-add-mod'}
use Rattle.std.proofs.lemmas.List.{length-take, length-drop, take-append-drop}
use Rattle.std.proofs.lemmas.List.Elements.{All-nil, All-cons, All-head, All-tail, All-take, All-drop}
use Rattle.dv_defs.specs.Numbers.{bits64, signed_at, low_first, elements}
use Rattle.dv_defs.specs.Tiling.{is_width}
use Rattle.dv_lex.specs.Numbers.{negated}
use Rattle.dv_lex.specs.Laws.Numbers.{IsSigned}
use Rattle.dv_print.specs.Draft.{element_count}
use Rattle.dv_coderead.specs.Bodies.{element_bytes}
use Rattle.law_listing.proofs.OperandsRead.{negated_below, negated_least}

abbrev pub IsByte : ℕ → Type 0
IsByte b = b < 256

-- ---- bytes of a number

byte_is : (i x : ℕ) → byte_at i x ≡ x / 256 ^ i % 256
byte_is zero x = omega arith
byte_is (suc i) x = refl

next_quotient : (i x : ℕ) → x / 256 ^ suc i ≡ x / 256 ^ i / 256
next_quotient i x = ap (λ (n : ℕ). x / n) (pow-suc 256 i) ∙ sym (div-div-eq-div-mul x (256 ^ i) 256)

low_part : (b rest power m : ℕ) → b < 256 → ((b + 256 * rest) + (256 * power) * m) % 256 ≡ b
low_part b rest power m small = let e : (b + 256 * rest) + (256 * power) * m ≡ b + 256 * (rest + power * m) = omega arith in rw e (omega arith)

high_part : (b rest power m : ℕ) → b < 256 → ((b + 256 * rest) + (256 * power) * m) / 256 ≡ rest + power * m
high_part b rest power m small = let e : (b + 256 * rest) + (256 * power) * m ≡ b + 256 * (rest + power * m) = omega arith in rw e (omega arith)

-- the bytes from a place on are those of which a number is made there, whatever stands above them
bytes_again : (i x m : ℕ) (bs : List ℕ) → All IsByte bs → x / 256 ^ i ≡ low_first bs + 256 ^ length bs * m → bytes_low_first i (length bs) x ≡ bs
bytes_again i x m [] small is = refl
bytes_again i x m (b ∷ bs) small is =
    let first = All-head IsByte b bs small in
    let power = pow-succ' 256 (length bs) in
    let here : x / 256 ^ i ≡ (b + 256 * low_first bs) + (256 * 256 ^ length bs) * m = is ∙ ap (λ (n : ℕ). (b + 256 * low_first bs) + n * m) power in
    let low : byte_at i x ≡ b = byte_is i x ∙ (ap (λ (n : ℕ). n % 256) here ∙ low_part b (low_first bs) (256 ^ length bs) m first) in
    let high : x / 256 ^ suc i ≡ low_first bs + 256 ^ length bs * m = next_quotient i x ∙ (ap (λ (n : ℕ). n / 256) here ∙ high_part b (low_first bs) (256 ^ length bs) m first) in
    let rest = bytes_again (suc i) x m bs (All-tail IsByte b bs small) high in
    λ j. low j ∷ rest j

take_low : (i k n x : ℕ) → n ≤ k → take n (bytes_low_first i k x) ≡ bytes_low_first i n x
take_low i k zero x h = refl
take_low i zero (suc n) x h = absurd (omega arith)
take_low i (suc k) (suc n) x h = ap (λ (r : List ℕ). byte_at i x ∷ r) (take_low (suc i) k n x (omega arith))

step_below : (b rest power : ℕ) → b < 256 → rest < power → b + 256 * rest < 256 * power
step_below b rest power small less = omega arith

pub low_below : (bs : List ℕ) → All IsByte bs → low_first bs < 256 ^ length bs
low_below [] small = omega arith
low_below (b ∷ bs) small =
    rw (pow-succ' 256 (length bs)) (step_below b (low_first bs) (256 ^ length bs) (All-head IsByte b bs small) (low_below bs (All-tail IsByte b bs small)))

-- ---- a signed number and its bits

by_sign : (t : Bool) (bits v k : ℕ) → v < 2 ^ bits → 2 ^ bits + k ≡ 2 ^ 64 → (bits64 (elim t [ true ↦ pos v | false ↦ negsuc (2 ^ bits - suc v) ]) ≡ v) ⊎ (bits64 (elim t [ true ↦ pos v | false ↦ negsuc (2 ^ bits - suc v) ]) ≡ v + k)
by_sign true bits v k below all = inl refl
by_sign false bits v k below all = inr (omega arith)

bits_again : (bits v k : ℕ) → v < 2 ^ bits → 2 ^ bits + k ≡ 2 ^ 64 → (bits64 (signed_at bits v) ≡ v) ⊎ (bits64 (signed_at bits v) ≡ v + k)
bits_again bits v k below all = by_sign (nat_lt v (2 ^ (bits - 1))) bits v k below all

plain_multiple : (x v power m : ℕ) → x ≡ v → x / 256 ^ 0 ≡ v + power * 0
plain_multiple x v power m e = omega arith

above_multiple : (x v power m : ℕ) → x ≡ v + power * m → x / 256 ^ 0 ≡ v + power * m
above_multiple x v power m e = omega arith

-- an element of so many bytes, of which eight have as many as the powers say
of_width : (width m : ℕ) (bs : List ℕ) → width ≤ 8 → 256 ^ width ≡ 2 ^ (8 * width) → 2 ^ (8 * width) + 256 ^ width * m ≡ 2 ^ 64 → length bs ≡ width → All IsByte bs → element_bytes width (signed_at (8 * width) (low_first bs)) ≡ bs
of_width width m bs few power all count small =
    let v = low_first bs in
    let x = bits64 (signed_at (8 * width) v) in
    let same : 256 ^ width ≡ 256 ^ length bs = ap (λ (n : ℕ). 256 ^ n) (sym count) in
    let below : v < 2 ^ (8 * width) = subst (λ (n : ℕ). v < n) (sym same ∙ power) (low_below bs small) in
    let cut : element_bytes width (signed_at (8 * width) v) ≡ bytes_low_first 0 (length bs) x =
    take_low 0 8 width x few ∙ ap (λ (n : ℕ). bytes_low_first 0 n x) (sym count) in
    elim (bits_again (8 * width) v (256 ^ width * m) below all) [
      | inl plain ↦ cut ∙ bytes_again 0 x 0 bs small (plain_multiple x v (256 ^ length bs) m plain)
      | inr above ↦ cut ∙ bytes_again 0 x m bs small (above_multiple x v (256 ^ length bs) m (above ∙ ap (λ (n : ℕ). v + n * m) same))
    ]

-- the widths that there are
pub by_width : (P : ℕ → Type 0) (width : ℕ) → IsTrue (is_width width) → P 1 → P 2 → P 4 → P 8 → P width
by_width P width is p1 p2 p4 p8 =
    elim (or_cases (nat_eq width 1 || nat_eq width 2 || nat_eq width 4) (nat_eq width 8) is) [
      | inr e8 ↦ subst P (sym (eqb-true width 8 e8)) p8
      | inl three ↦ elim (or_cases (nat_eq width 1 || nat_eq width 2) (nat_eq width 4) three) [
        | inr e4 ↦ subst P (sym (eqb-true width 4 e4)) p4
        | inl two ↦ elim (or_cases (nat_eq width 1) (nat_eq width 2) two) [
          | inl e1 ↦ subst P (sym (eqb-true width 1 e1)) p1
          | inr e2 ↦ subst P (sym (eqb-true width 2 e2)) p2
        ]
      ]
    ]

record IsAgain (width : ℕ) : Type 0 where
  bytes : (bs : List ℕ) → length bs ≡ width → All IsByte bs → element_bytes width (signed_at (8 * width) (low_first bs)) ≡ bs

again : (width : ℕ) → IsTrue (is_width width) → IsAgain width
again width is =
    by_width IsAgain width is
    (record { bytes = λ bs. of_width 1 (2 ^ 56 - 1) bs (omega arith) (omega arith) (omega arith) })
    (record { bytes = λ bs. of_width 2 (2 ^ 48 - 1) bs (omega arith) (omega arith) (omega arith) })
    (record { bytes = λ bs. of_width 4 (2 ^ 32 - 1) bs (omega arith) (omega arith) (omega arith) })
    (record { bytes = λ bs. of_width 8 0 bs (omega arith) (omega arith) (omega arith) })

-- the bytes of one element again
pub element_again : (width : ℕ) (bs : List ℕ) → IsTrue (is_width width) → length bs ≡ width → All IsByte bs → element_bytes width (signed_at (8 * width) (low_first bs)) ≡ bs
element_again width bs is count small = (again width is).bytes bs count small

-- the bytes of all elements again
pub elements_again : (width n : ℕ) (bytes : List ℕ) → IsTrue (is_width width) → length bytes ≡ n * width → All IsByte bytes → flat_map (element_bytes width) (elements n width bytes) ≡ bytes
elements_again width zero [] is count small = refl
elements_again width zero (b ∷ bytes) is count small = absurd (omega arith)
elements_again width (suc n) bytes is count small =
    let all : length bytes ≡ width + n * width = omega arith in
    let first = element_again width (take width bytes) is (length-take width bytes ∙ omega arith) (All-take IsByte width bytes small) in
    let rest = elements_again width n (drop width bytes) is (length-drop width bytes ∙ omega arith) (All-drop IsByte width bytes small) in
    (λ i. first i ++ rest i) ∙ take-append-drop width bytes

-- ---- elements fit

-- a number between so many on both sides
record IsBetween (half : ℕ) (z : ℤ) : Type 0 where
  above : negated half ≤ℤ z
  below : z <ℤ pos half
  small : unsigned_abs z ≤ half

sign_between : (t : Bool) (half whole v : ℕ) → nat_lt v half ≡ t → whole ≡ half + half → v < whole → IsBetween half (elim t [ true ↦ pos v | false ↦ negsuc (whole - suc v) ])
sign_between true half whole v test twice below =
    let less = ltb-true v half test in
    record { above = negated_below half v; below = omega (arith, ints); small = omega arith }
sign_between false half whole v test twice below =
    let more = ltb-false v half test in
    record { above = negated_least half (whole - suc v) (omega arith); below = omega (arith, ints); small = omega arith }

-- an element of so many bytes is a number of so many bits
pub record Fits (width : ℕ) (z : ℤ) : Type 0 where
  pub signed : IsSigned (8 * width) z
  pub small : unsigned_abs z < 10 ^ 64

fits_by : (width : ℕ) (bs : List ℕ) → 256 ^ width ≡ 2 ^ (8 * width) → 2 ^ (8 * width) ≡ 2 ^ (8 * width - 1) + 2 ^ (8 * width - 1) → 2 ^ (8 * width - 1) < 10 ^ 64 → length bs ≡ width → All IsByte bs → Fits width (signed_at (8 * width) (low_first bs))
fits_by width bs power twice few count small =
    let v = low_first bs in
    let below : v < 2 ^ (8 * width) = subst (λ (n : ℕ). v < n) (ap (λ (n : ℕ). 256 ^ n) count ∙ power) (low_below bs small) in
    let b = sign_between (nat_lt v (2 ^ (8 * width - 1))) (2 ^ (8 * width - 1)) (2 ^ (8 * width)) v refl twice below in
    record { signed = (b.above, b.below); small = omega (arith, b.small) }

record IsFitting (width : ℕ) : Type 0 where
  fits : (bs : List ℕ) → length bs ≡ width → All IsByte bs → Fits width (signed_at (8 * width) (low_first bs))

fitting : (width : ℕ) → IsTrue (is_width width) → IsFitting width
fitting width is =
    by_width IsFitting width is
    (record { fits = λ bs. fits_by 1 bs (omega arith) (omega arith) (omega arith) })
    (record { fits = λ bs. fits_by 2 bs (omega arith) (omega arith) (omega arith) })
    (record { fits = λ bs. fits_by 4 bs (omega arith) (omega arith) (omega arith) })
    (record { fits = λ bs. fits_by 8 bs (omega arith) (omega arith) (omega arith) })

pub elements_fit : (width n : ℕ) (bytes : List ℕ) → IsTrue (is_width width) → length bytes ≡ n * width → All IsByte bytes → All (Fits width) (elements n width bytes)
elements_fit width zero bytes is count small = All-nil (Fits width)
elements_fit width (suc n) bytes is count small =
    All-cons (Fits width) _ _
    ((fitting width is).fits (take width bytes) (length-take width bytes ∙ omega arith) (All-take IsByte width bytes small))
    (elements_fit width n (drop width bytes) is (length-drop width bytes ∙ omega arith) (All-drop IsByte width bytes small))

-- how many elements there are
pub all_counted : (width : ℕ) (bytes : List ℕ) → IsTrue (is_width width) → length bytes % width ≡ 0 → length bytes ≡ element_count width bytes * width
all_counted width bytes is whole =
    counted (is_width width) is (length bytes) width whole
  where
    counted : (t : Bool) → IsTrue t → (n width : ℕ) → n % width ≡ 0 → n ≡ (if t then n / width else 0) * width
    counted true is n width whole = sym (div-add-mod' n width) ∙ omega arith
    counted false is n width whole = absurd (cc)
