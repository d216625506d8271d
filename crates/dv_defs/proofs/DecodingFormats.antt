-- What is read by a format is spelled so, and where nothing is read no instruction of the format is spelled.
use Rattle.std.proofs.Common.{◌≡◌, ℕ, ◌+◌, ◌*◌, ◌/◌, ◌%◌, ◌<◌, ◌≤◌, ◌^◌, zero, suc, true, false, Bool, ◌&&◌, ◌||◌, inl, inr, List, [], ◌∷◌, length, take, drop, Option, Some, None, refl, ap, sym, ◌∙◌, arith}
use Rattle.std.specs.Prelude.{nat_eq, nat_lt, nat_le, if◌then◌else◌}
use Rattle.std.specs.List.{list_all}
use Rattle.std.proofs.lemmas.Bool.{cases_Bool, leb-true, ltb-true, and_parts}
use Rattle.std.proofs.lemmas.Bool.Decides.{nat_tests}
use Rattle.dv_defs.specs.declared.code.Insn.{Insn}
use Rattle.dv_defs.specs.declared.code.Regs.{Regs}
use Rattle.dv_defs.specs.Formats.{Format, size_in, F10x, F12x, F11n, F11x, F10t, F20t, F22x, F21t, F21s, F21h, F21c, F23x, F22b, F22t, F22s, F22c, F30t, F32x, F31i, F31t, F31c, F35c, F3rc, F51l}
use Rattle.dv_defs.specs.Numbers.{signed_at}
use Rattle.dv_defs.specs.Decoding.{Sized, sized, read_in, high_literal, where_valid, five, is_zero}
use Rattle.dv_defs.specs.Spelling.{unit, few, neighbours, plain, with_literal, with_offset, with_index, all_fit, all_zero, spelling_in, spelling_shifted, spelling_10x, spelling_12x, spelling_11n, spelling_11x, spelling_10t, spelling_20t, spelling_22x, spelling_21t, spelling_21s, spelling_21h, spelling_21c, spelling_23x, spelling_22b, spelling_22t, spelling_22s, spelling_22c, spelling_30t, spelling_32x, spelling_31i, spelling_31t, spelling_31c, spelling_35c, spelling_3rc, spelling_51l}
use Rattle.dv_defs.proofs.InsnEq.{form_tests}
use Rattle.dv_defs.proofs.Signed.{complement_of_signed, signed_fits}
use Rattle.dv_defs.proofs.Calls35c.{five_words, reads_35c, refuses_35c}

reads_12x : (op a : ℕ) → op < 256 → a < 256 → spelling_12x (plain op (few (a % 16 ∷ a / 16 ∷ []))) ≡ Some (unit a op ∷ [])
reads_12x op a h k =
    grind (arith, form_tests)

reads_11n : (op a : ℕ) → op < 256 → a < 256 → spelling_11n (with_literal op (few (a % 16 ∷ [])) (signed_at 4 (a / 16))) ≡ Some (unit a op ∷ [])
reads_11n op a h k =
    let b : a / 16 < 2 ^ 4 = omega arith in
    grind (arith, form_tests, complement_of_signed 4 (a / 16) b, signed_fits 4 (a / 16) (omega arith) b)

reads_11x : (op a : ℕ) → op < 256 → a < 256 → spelling_11x (plain op (few (a ∷ []))) ≡ Some (unit a op ∷ [])
reads_11x op a h k =
    grind (arith, form_tests)

reads_10t : (op a : ℕ) → op < 256 → a < 256 → spelling_10t (with_offset op (few []) (signed_at 8 (a))) ≡ Some (unit a op ∷ [])
reads_10t op a h k =
    let b : a < 2 ^ 8 = omega arith in
    grind (arith, form_tests, complement_of_signed 8 (a) b, signed_fits 8 (a) (omega arith) b)

reads_22x : (op a v : ℕ) → op < 256 → a < 256 → v < 2 ^ 16 → spelling_22x (plain op (few (a ∷ v ∷ []))) ≡ Some (unit a op ∷ v ∷ [])
reads_22x op a v h k bv =
    grind (arith, form_tests)

reads_21t : (op a v : ℕ) → op < 256 → a < 256 → v < 2 ^ 16 → spelling_21t (with_offset op (few (a ∷ [])) (signed_at 16 (v))) ≡ Some (unit a op ∷ v ∷ [])
reads_21t op a v h k bv =
    let b : v < 2 ^ 16 = omega arith in
    grind (arith, form_tests, complement_of_signed 16 (v) b, signed_fits 16 (v) (omega arith) b)

reads_21s : (op a v : ℕ) → op < 256 → a < 256 → v < 2 ^ 16 → spelling_21s (with_literal op (few (a ∷ [])) (signed_at 16 (v))) ≡ Some (unit a op ∷ v ∷ [])
reads_21s op a v h k bv =
    let b : v < 2 ^ 16 = omega arith in
    grind (arith, form_tests, complement_of_signed 16 (v) b, signed_fits 16 (v) (omega arith) b)

reads_21c : (op a v : ℕ) → op < 256 → a < 256 → v < 2 ^ 16 → spelling_21c (with_index op (few (a ∷ [])) v) ≡ Some (unit a op ∷ v ∷ [])
reads_21c op a v h k bv =
    grind (arith, form_tests)

reads_23x : (op a v : ℕ) → op < 256 → a < 256 → v < 2 ^ 16 → spelling_23x (plain op (few (a ∷ v % 256 ∷ v / 256 ∷ []))) ≡ Some (unit a op ∷ v ∷ [])
reads_23x op a v h k bv =
    grind (arith, form_tests)

reads_22b : (op a v : ℕ) → op < 256 → a < 256 → v < 2 ^ 16 → spelling_22b (with_literal op (few (a ∷ v % 256 ∷ [])) (signed_at 8 (v / 256))) ≡ Some (unit a op ∷ v ∷ [])
reads_22b op a v h k bv =
    let b : v / 256 < 2 ^ 8 = omega arith in
    grind (arith, form_tests, complement_of_signed 8 (v / 256) b, signed_fits 8 (v / 256) (omega arith) b)

reads_22t : (op a v : ℕ) → op < 256 → a < 256 → v < 2 ^ 16 → spelling_22t (with_offset op (few (a % 16 ∷ a / 16 ∷ [])) (signed_at 16 (v))) ≡ Some (unit a op ∷ v ∷ [])
reads_22t op a v h k bv =
    let b : v < 2 ^ 16 = omega arith in
    grind (arith, form_tests, complement_of_signed 16 (v) b, signed_fits 16 (v) (omega arith) b)

reads_22s : (op a v : ℕ) → op < 256 → a < 256 → v < 2 ^ 16 → spelling_22s (with_literal op (few (a % 16 ∷ a / 16 ∷ [])) (signed_at 16 (v))) ≡ Some (unit a op ∷ v ∷ [])
reads_22s op a v h k bv =
    let b : v < 2 ^ 16 = omega arith in
    grind (arith, form_tests, complement_of_signed 16 (v) b, signed_fits 16 (v) (omega arith) b)

reads_22c : (op a v : ℕ) → op < 256 → a < 256 → v < 2 ^ 16 → spelling_22c (with_index op (few (a % 16 ∷ a / 16 ∷ [])) v) ≡ Some (unit a op ∷ v ∷ [])
reads_22c op a v h k bv =
    grind (arith, form_tests)

reads_31i : (op a v w : ℕ) → op < 256 → a < 256 → v < 2 ^ 16 → w < 2 ^ 16 → spelling_31i (with_literal op (few (a ∷ [])) (signed_at 32 (v + w * 2 ^ 16))) ≡ Some (unit a op ∷ v ∷ w ∷ [])
reads_31i op a v w h k bv bw =
    let b : v + w * 2 ^ 16 < 2 ^ 32 = omega arith in
    grind (arith, form_tests, complement_of_signed 32 (v + w * 2 ^ 16) b, signed_fits 32 (v + w * 2 ^ 16) (omega arith) b)

reads_31t : (op a v w : ℕ) → op < 256 → a < 256 → v < 2 ^ 16 → w < 2 ^ 16 → spelling_31t (with_offset op (few (a ∷ [])) (signed_at 32 (v + w * 2 ^ 16))) ≡ Some (unit a op ∷ v ∷ w ∷ [])
reads_31t op a v w h k bv bw =
    let b : v + w * 2 ^ 16 < 2 ^ 32 = omega arith in
    grind (arith, form_tests, complement_of_signed 32 (v + w * 2 ^ 16) b, signed_fits 32 (v + w * 2 ^ 16) (omega arith) b)

reads_31c : (op a v w : ℕ) → op < 256 → a < 256 → v < 2 ^ 16 → w < 2 ^ 16 → spelling_31c (with_index op (few (a ∷ [])) (v + w * 2 ^ 16)) ≡ Some (unit a op ∷ v ∷ w ∷ [])
reads_31c op a v w h k bv bw =
    grind (arith, form_tests)

reads_10x : (op a : ℕ) → op < 256 → a < 256 → spelling_10x (plain op (few [])) ≡ Some (unit 0 op ∷ [])
reads_10x op a h k =
    grind (arith, form_tests)

reads_20t : (op a v : ℕ) → op < 256 → a < 256 → v < 2 ^ 16 → spelling_20t (with_offset op (few []) (signed_at 16 (v))) ≡ Some (unit 0 op ∷ v ∷ [])
reads_20t op a v h k bv =
    let b : v < 2 ^ 16 = omega arith in
    grind (arith, form_tests, complement_of_signed 16 (v) b, signed_fits 16 (v) (omega arith) b)

reads_30t : (op a v w : ℕ) → op < 256 → a < 256 → v < 2 ^ 16 → w < 2 ^ 16 → spelling_30t (with_offset op (few []) (signed_at 32 (v + w * 2 ^ 16))) ≡ Some (unit 0 op ∷ v ∷ w ∷ [])
reads_30t op a v w h k bv bw =
    let b : v + w * 2 ^ 16 < 2 ^ 32 = omega arith in
    grind (arith, form_tests, complement_of_signed 32 (v + w * 2 ^ 16) b, signed_fits 32 (v + w * 2 ^ 16) (omega arith) b)

reads_32x : (op a v w : ℕ) → op < 256 → a < 256 → v < 2 ^ 16 → w < 2 ^ 16 → spelling_32x (plain op (few (v ∷ w ∷ []))) ≡ Some (unit 0 op ∷ v ∷ w ∷ [])
reads_32x op a v w h k bv bw =
    grind (arith, form_tests)

none_10x : (op n : ℕ) → op < 256 → (i : Insn) → spelling_10x i ≡ Some (unit (suc n) op ∷ []) → ⊥
none_10x op n h i p = grind (arith, form_tests)

none_20t : (op n v : ℕ) → op < 256 → (i : Insn) → spelling_20t i ≡ Some (unit (suc n) op ∷ v ∷ []) → ⊥
none_20t op n v h i p = grind (arith, form_tests)

none_30t : (op n v w : ℕ) → op < 256 → (i : Insn) → spelling_30t i ≡ Some (unit (suc n) op ∷ v ∷ w ∷ []) → ⊥
none_30t op n v w h i p = grind (arith, form_tests)

none_32x : (op n v w : ℕ) → op < 256 → (i : Insn) → spelling_32x i ≡ Some (unit (suc n) op ∷ v ∷ w ∷ []) → ⊥
none_32x op n v w h i p = grind (arith, form_tests)

reads_high_16 : (op a v : ℕ) → op < 256 → a < 256 → v < 2 ^ 16 → spelling_shifted 16 (with_literal op (few (a ∷ [])) (signed_at 32 (v * 2 ^ 16))) ≡ Some (unit a op ∷ v ∷ [])
reads_high_16 op a v h k bv =
    let b : v * 2 ^ 16 < 2 ^ 32 = omega arith in
    grind (arith, form_tests, complement_of_signed 32 (v * 2 ^ 16) b, signed_fits 32 (v * 2 ^ 16) (omega arith) b)

reads_high_48 : (op a v : ℕ) → op < 256 → a < 256 → v < 2 ^ 16 → spelling_shifted 48 (with_literal op (few (a ∷ [])) (signed_at 64 (v * 2 ^ 48))) ≡ Some (unit a op ∷ v ∷ [])
reads_high_48 op a v h k bv =
    let b : v * 2 ^ 48 < 2 ^ 64 = omega arith in
    grind (arith, form_tests, complement_of_signed 64 (v * 2 ^ 48) b, signed_fits 64 (v * 2 ^ 48) (omega arith) b)

high_by : (b : Bool) (op a v : ℕ) → op < 256 → a < 256 → v < 2 ^ 16 →
    let i : Insn = with_literal op (few (a ∷ [])) (elim b [ true ↦ signed_at 32 (v * 2 ^ 16) | false ↦ signed_at 64 (v * 2 ^ 48) ]) in
    (if b then spelling_shifted 16 i else spelling_shifted 48 i) ≡ Some (unit a op ∷ v ∷ [])
high_by true op a v h k b = reads_high_16 op a v h k b
high_by false op a v h k b = reads_high_48 op a v h k b

reads_21h : (op a v : ℕ) → op < 256 → a < 256 → v < 2 ^ 16 → spelling_21h (with_literal op (few (a ∷ [])) (high_literal op v)) ≡ Some (unit a op ∷ v ∷ [])
reads_21h op a v h k b = high_by (nat_eq op 0x15) op a v h k b

-- a number of 64 bits and its units
low_bits : (v w x y n : ℕ) → n ≡ v + w * 2 ^ 16 + x * 2 ^ 32 + y * 2 ^ 48 → v < 2 ^ 16 → w < 2 ^ 16 → x < 2 ^ 16 → y < 2 ^ 16 → (n % 2 ^ 16 ≡ v) × (n / 2 ^ 16 ≡ w + x * 2 ^ 16 + y * 2 ^ 32) × (n / 2 ^ 32 ≡ x + y * 2 ^ 16) × (n / 2 ^ 48 ≡ y)
low_bits v w x y n e bv bw bx by = (omega arith, omega arith, omega arith, omega arith)

reads_51l : (op a v w x y : ℕ) → op < 256 → a < 256 → v < 2 ^ 16 → w < 2 ^ 16 → x < 2 ^ 16 → y < 2 ^ 16 → spelling_51l (with_literal op (few (a ∷ [])) (signed_at 64 (v + w * 2 ^ 16 + x * 2 ^ 32 + y * 2 ^ 48))) ≡ Some (unit a op ∷ v ∷ w ∷ x ∷ y ∷ [])
reads_51l op a v w x y h k bv bw bx by =
    let n : ℕ = v + w * 2 ^ 16 + x * 2 ^ 32 + y * 2 ^ 48 in
    let l = low_bits v w x y n refl bv bw bx by in
    let l1 : n / 2 ^ 16 % 2 ^ 16 ≡ w = omega (arith, l.1) in
    let l2 : n / 2 ^ 32 % 2 ^ 16 ≡ x = omega (arith, l.2) in
    let b : n < 2 ^ 64 = omega arith in
    grind (arith, form_tests, l.0, l1, l2, l.3, complement_of_signed 64 n b, signed_fits 64 n (omega arith) b)

-- 3rc
reads_3rc : (op a v w : ℕ) → op < 256 → a < 256 → v < 2 ^ 16 → w < 2 ^ 16 → (nat_lt 0 a || nat_eq w 0) ≡ true → spelling_3rc (with_index op (neighbours w a) v) ≡ Some (unit a op ∷ v ∷ w ∷ [])
reads_3rc op a v w h k bv bw t = grind (arith, form_tests)

none_3rc : (op a v w : ℕ) → op < 256 → a < 256 → (nat_lt 0 a || nat_eq w 0) ≡ false → (i : Insn) → spelling_3rc i ≡ Some (unit a op ∷ v ∷ w ∷ []) → ⊥
none_3rc op a v w h k t i p = grind (arith, form_tests)

-- 35c
nibbles_are : (g w : ℕ) → w < 2 ^ 16 → five g w ≡ w % 256 % 16 ∷ w % 256 / 16 ∷ w / 256 % 16 ∷ w / 256 / 16 ∷ g ∷ []
nibbles_are g w h =
    let n0 : w / 1 % 16 ≡ w % 256 % 16 = omega arith in
    let n1 : w / 16 % 16 ≡ w % 256 / 16 = omega arith in
    let n2 : w / 256 % 16 ≡ w / 256 % 16 = refl in
    let n3 : w / 4096 % 16 ≡ w / 256 / 16 = omega arith in
    cc

-- registers with 0 in the places that aren't used
filled : (a c d e f g : ℕ) → a ≤ 5 → all_zero (drop a (c ∷ d ∷ e ∷ f ∷ g ∷ [])) ≡ true → few (take a (c ∷ d ∷ e ∷ f ∷ g ∷ [])) ≡ (let r : Regs = record { count = a; first = c ∷ d ∷ e ∷ f ∷ g ∷ []; range = false } in r)
filled zero c d e f g h z = grind (arith, nat_tests)
filled (suc zero) c d e f g h z = grind (arith, nat_tests)
filled (suc (suc zero)) c d e f g h z = grind (arith, nat_tests)
filled (suc (suc (suc zero))) c d e f g h z = grind (arith, nat_tests)
filled (suc (suc (suc (suc zero)))) c d e f g h z = grind (arith, nat_tests)
filled (suc (suc (suc (suc (suc zero))))) c d e f g h z = refl
filled (suc (suc (suc (suc (suc (suc a)))))) c d e f g h z = absurd (omega arith)

reads_short : (op a v w : ℕ) → op < 256 → a < 256 → v < 2 ^ 16 → w < 2 ^ 16 → (nat_le (a / 16) 5 && list_all is_zero (drop (a / 16) (five (a % 16) w))) ≡ true → spelling_35c (with_index op (few (take (a / 16) (five (a % 16) w))) v) ≡ Some (unit a op ∷ v ∷ w ∷ [])
reads_short op a v w h k bv bw t =
    let n = nibbles_are (a % 16) w bw in
    let p = and_parts _ _ t in
    let few_words : a / 16 ≤ 5 = leb-true _ _ p.0 in
    let unused : all_zero (drop (a / 16) (five_words a w)) ≡ true = sym (ap (λ xs. all_zero (drop (a / 16) xs)) n) ∙ p.1 in
    let r = filled (a / 16) _ _ _ _ _ few_words p.1 in
    ap (λ rs. spelling_35c (with_index op rs v)) r ∙ (ap (λ xs. spelling_35c (with_index op (record { count = a / 16; first = xs; range = false }) v)) n ∙ reads_35c op a v w h k bv bw few_words unused)

none_short : (op a v w : ℕ) → op < 256 → w < 2 ^ 16 → (nat_le (a / 16) 5 && list_all is_zero (drop (a / 16) (five (a % 16) w))) ≡ false → (i : Insn) → spelling_35c i ≡ Some (unit a op ∷ v ∷ w ∷ []) → ⊥
none_short op a v w h bw t i p =
    let n = ap (λ xs. all_zero (drop (a / 16) xs)) (nibbles_are (a % 16) w bw) in
    elim (cases_Bool (nat_le (a / 16) 5)) [
      | inl y ↦ refuses_35c op a v w h (inr (cc)) i p
      | inr y ↦ refuses_35c op a v w h (inl (grind (arith, nat_tests))) i p
    ]

-- what a format's reader says of the units
abbrev pub IsRead : Format → List ℕ → Option Sized → Type 0
IsRead f us (Some s) = (s.size ≡ size_in f) × (spelling_in f s.insn ≡ Some (take (size_in f) us))
IsRead f us None = (i : Insn) → spelling_in f i ≡ Some (take (size_in f) us) → ⊥

abbrev test_35c : ℕ → ℕ → Bool
test_35c a w = nat_le (a / 16) 5 && list_all is_zero (drop (a / 16) (five (a % 16) w))

is_short_call : (b : Bool) (op a v w : ℕ) (us : List ℕ) → op < 256 → a < 256 → v < 2 ^ 16 → w < 2 ^ 16 → test_35c a w ≡ b → IsRead F35c (unit a op ∷ v ∷ w ∷ us) (where_valid b (sized 3 (with_index op (few (take (a / 16) (five (a % 16) w))) v)))
is_short_call true op a v w us h k bv bw t = (refl, reads_short op a v w h k bv bw t)
is_short_call false op a v w us h k bv bw t = none_short op a v w h bw t

is_range_call : (b : Bool) (op a v w : ℕ) (us : List ℕ) → op < 256 → a < 256 → v < 2 ^ 16 → w < 2 ^ 16 → (nat_lt 0 a || nat_eq w 0) ≡ b → IsRead F3rc (unit a op ∷ v ∷ w ∷ us) (where_valid b (sized 3 (with_index op (neighbours w a) v)))
is_range_call true op a v w us h k bv bw t = (refl, reads_3rc op a v w h k bv bw t)
is_range_call false op a v w us h k bv bw t = none_3rc op a v w h k t

pub unit_parts : (v : ℕ) (us : List ℕ) → all_fit 16 (v ∷ us) ≡ true → (v < 2 ^ 16) × (all_fit 16 us ≡ true)
unit_parts v us t = let p = and_parts _ _ t in (ltb-true _ _ p.0, p.1)

pub is_read : (f : Format) (op a : ℕ) (us : List ℕ) → op < 256 → a < 256 → all_fit 16 us ≡ true → size_in f ≤ length (unit a op ∷ us) → IsRead f (unit a op ∷ us) (read_in f op a us)
is_read F10x op zero us h k t s = (refl, reads_10x op 0 h k)
is_read F10x op (suc n) us h k t s = none_10x op n h
is_read F12x op a us h k t s = (refl, reads_12x op a h k)
is_read F11n op a us h k t s = (refl, reads_11n op a h k)
is_read F11x op a us h k t s = (refl, reads_11x op a h k)
is_read F10t op a us h k t s = (refl, reads_10t op a h k)
is_read F20t op zero (v ∷ us) h k t s = (refl, reads_20t op 0 v h k (unit_parts v us t).0)
is_read F20t op (suc n) (v ∷ us) h k t s = none_20t op n v h
is_read F22x op a (v ∷ us) h k t s = (refl, reads_22x op a v h k (unit_parts v us t).0)
is_read F21t op a (v ∷ us) h k t s = (refl, reads_21t op a v h k (unit_parts v us t).0)
is_read F21s op a (v ∷ us) h k t s = (refl, reads_21s op a v h k (unit_parts v us t).0)
is_read F21h op a (v ∷ us) h k t s = (refl, reads_21h op a v h k (unit_parts v us t).0)
is_read F21c op a (v ∷ us) h k t s = (refl, reads_21c op a v h k (unit_parts v us t).0)
is_read F23x op a (v ∷ us) h k t s = (refl, reads_23x op a v h k (unit_parts v us t).0)
is_read F22b op a (v ∷ us) h k t s = (refl, reads_22b op a v h k (unit_parts v us t).0)
is_read F22t op a (v ∷ us) h k t s = (refl, reads_22t op a v h k (unit_parts v us t).0)
is_read F22s op a (v ∷ us) h k t s = (refl, reads_22s op a v h k (unit_parts v us t).0)
is_read F22c op a (v ∷ us) h k t s = (refl, reads_22c op a v h k (unit_parts v us t).0)
is_read F30t op zero (v ∷ w ∷ us) h k t s = (refl, reads_30t op 0 v w h k (unit_parts v (w ∷ us) t).0 (unit_parts w us (unit_parts v (w ∷ us) t).1).0)
is_read F30t op (suc n) (v ∷ w ∷ us) h k t s = none_30t op n v w h
is_read F32x op zero (v ∷ w ∷ us) h k t s = (refl, reads_32x op 0 v w h k (unit_parts v (w ∷ us) t).0 (unit_parts w us (unit_parts v (w ∷ us) t).1).0)
is_read F32x op (suc n) (v ∷ w ∷ us) h k t s = none_32x op n v w h
is_read F31i op a (v ∷ w ∷ us) h k t s = (refl, reads_31i op a v w h k (unit_parts v (w ∷ us) t).0 (unit_parts w us (unit_parts v (w ∷ us) t).1).0)
is_read F31t op a (v ∷ w ∷ us) h k t s = (refl, reads_31t op a v w h k (unit_parts v (w ∷ us) t).0 (unit_parts w us (unit_parts v (w ∷ us) t).1).0)
is_read F31c op a (v ∷ w ∷ us) h k t s = (refl, reads_31c op a v w h k (unit_parts v (w ∷ us) t).0 (unit_parts w us (unit_parts v (w ∷ us) t).1).0)
is_read F35c op a (v ∷ w ∷ us) h k t s = is_short_call (test_35c a w) op a v w us h k (unit_parts v (w ∷ us) t).0 (unit_parts w us (unit_parts v (w ∷ us) t).1).0 refl
is_read F3rc op a (v ∷ w ∷ us) h k t s = is_range_call (nat_lt 0 a || nat_eq w 0) op a v w us h k (unit_parts v (w ∷ us) t).0 (unit_parts w us (unit_parts v (w ∷ us) t).1).0 refl
is_read F51l op a (v ∷ w ∷ x ∷ y ∷ us) h k t s =
    let p = unit_parts v (w ∷ x ∷ y ∷ us) t in
    let q = unit_parts w (x ∷ y ∷ us) p.1 in
    let r = unit_parts x (y ∷ us) q.1 in
    (refl, reads_51l op a v w x y h k p.0 q.0 r.0 (unit_parts y us r.1).0)
is_read f op a us h k t s = absurd (omega arith)

-- where the units are too few, nothing is read
pub none_of_few : (f : Format) (op a u : ℕ) (us : List ℕ) → length (u ∷ us) < size_in f → read_in f op a us ≡ None
none_of_few F10x op a u us h = absurd (omega arith)
none_of_few F12x op a u us h = absurd (omega arith)
none_of_few F11n op a u us h = absurd (omega arith)
none_of_few F11x op a u us h = absurd (omega arith)
none_of_few F10t op a u us h = absurd (omega arith)
none_of_few f op a u [] h = refl
none_of_few F20t op a u (v ∷ us) h = absurd (omega arith)
none_of_few F22x op a u (v ∷ us) h = absurd (omega arith)
none_of_few F21t op a u (v ∷ us) h = absurd (omega arith)
none_of_few F21s op a u (v ∷ us) h = absurd (omega arith)
none_of_few F21h op a u (v ∷ us) h = absurd (omega arith)
none_of_few F21c op a u (v ∷ us) h = absurd (omega arith)
none_of_few F23x op a u (v ∷ us) h = absurd (omega arith)
none_of_few F22b op a u (v ∷ us) h = absurd (omega arith)
none_of_few F22t op a u (v ∷ us) h = absurd (omega arith)
none_of_few F22s op a u (v ∷ us) h = absurd (omega arith)
none_of_few F22c op a u (v ∷ us) h = absurd (omega arith)
none_of_few f op a u (v ∷ []) h = refl
none_of_few F30t op a u (v ∷ w ∷ us) h = absurd (omega arith)
none_of_few F32x op a u (v ∷ w ∷ us) h = absurd (omega arith)
none_of_few F31i op a u (v ∷ w ∷ us) h = absurd (omega arith)
none_of_few F31t op a u (v ∷ w ∷ us) h = absurd (omega arith)
none_of_few F31c op a u (v ∷ w ∷ us) h = absurd (omega arith)
none_of_few F35c op a u (v ∷ w ∷ us) h = absurd (omega arith)
none_of_few F3rc op a u (v ∷ w ∷ us) h = absurd (omega arith)
none_of_few F51l op a u (v ∷ w ∷ []) h = refl
none_of_few F51l op a u (v ∷ w ∷ x ∷ []) h = refl
none_of_few F51l op a u (v ∷ w ∷ x ∷ y ∷ us) h = absurd (omega arith)
