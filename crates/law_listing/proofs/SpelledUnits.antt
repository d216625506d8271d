-- What is spelled of instructions and payloads are units of 16 bits, and so are the units of a layout.
use Rattle.std.proofs.Common.{◌≡◌, ℕ, zero, suc, ◌+◌, ◌-◌, ◌/◌, ◌%◌, ◌^◌, ◌<◌, ◌&&◌, ◌||◌, Bool, true, false, ℤ, pos, negsuc, nat_eq, List, [], ◌∷◌, ◌++◌, drop, length, unwrap_or, Option, Some, None, IfSome, refl, ◌∙◌, arith}
use Rattle.std.specs.Prelude.{nat_le, nat_lt}
use Rattle.std.proofs.lemmas.Bool.{and_from, and_parts, cond_both, leb-true, lt-ltb, ltb-true}
use Rattle.std.proofs.lemmas.Bool.Decides.{nat_tests}
use Rattle.std.proofs.lemmas.List.Folds.{list_all-append}
use Rattle.dv_defs.specs.declared.code.Insn.{Insn}
use Rattle.dv_defs.specs.declared.code.Payload.{Payload}
use Rattle.dv_defs.specs.declared.code.Payload.TheVariants as payload
use Rattle.dv_defs.specs.Formats.{Format, F10x, F12x, F11n, F11x, F10t, F20t, F22x, F21t, F21s, F21h, F21c, F23x, F22b, F22t, F22s, F22c, F30t, F32x, F31i, F31t, F31c, F35c, F3rc, F51l, format_at}
use Rattle.dv_defs.specs.Payloads.{all_fit_signed, bytes_spelling, numbers_spelling, payload_spelling, where_fits}
use Rattle.dv_defs.specs.Spelling.{AreUnits, all_fit, all_zero, byte, complement, fits_in, fits_signed, four_units, insn_eq, register, spelled, spelling, spelling_by, spelling_in, spelling_10t, spelling_10x, spelling_11n, spelling_11x, spelling_12x, spelling_20t, spelling_21c, spelling_21h, spelling_21s, spelling_21t, spelling_22b, spelling_22c, spelling_22s, spelling_22t, spelling_22x, spelling_23x, spelling_30t, spelling_31c, spelling_31i, spelling_31t, spelling_32x, spelling_35c, spelling_3rc, spelling_51l, spelling_shifted, two_units, unit}
use Rattle.dv_defs.specs.Tiling.{is_width}
use Rattle.dv_draft.specs.declared.draft.Item.{Item}
use Rattle.dv_draft.specs.declared.draft.What.{What}
use Rattle.dv_draft.specs.declared.draft.What.TheVariants as what
use Rattle.dv_draft.specs.declared.pools.Pools.{Pools}
use Rattle.dv_draft.specs.Draft.{DraftValue}
use Rattle.dv_asm.specs.Items.{item_at}
use Rattle.dv_draft.specs.Pools.{pools_of}
use Rattle.dv_asm.specs.Layout.{body_of, insn_of, layout, packed_of, padded, sparse_of, spelling_of, units_of}
use Rattle.dv_asm.specs.Places.{address_of}

-- ---- numbers

abbrev Fits : ℕ → ℕ → Type 0
Fits bits n = fits_in bits n ≡ true

small : (bits n : ℕ) → Fits bits n → n < 2 ^ bits
small bits n e = ltb-true n (2 ^ bits) e

fits : (bits n : ℕ) → n < 2 ^ bits → Fits bits n
fits bits n lt = lt-ltb n (2 ^ bits) lt

byte_fits : (high low : ℕ) → Fits 4 high → Fits 4 low → Fits 8 (byte high low)
byte_fits high low h l = fits 8 (byte high low) (let a = small 4 high h in let b = small 4 low l in omega arith)

unit_fits : (high low : ℕ) → Fits 8 high → Fits 8 low → Fits 16 (unit high low)
unit_fits high low h l = fits 16 (unit high low) (let a = small 8 high h in let b = small 8 low l in omega arith)

-- the two's complement of so many bits, one or more, has as many
complement_small : (bits half : ℕ) (z : ℤ) → 2 ^ bits ≡ half + half → 2 ^ (bits - 1) ≡ half → fits_signed bits z ≡ true → complement bits z < 2 ^ bits
complement_small bits half (pos n) whole is e = let lt = small (bits - 1) n e in omega arith
complement_small bits half (negsuc n) whole is e = let lt = small (bits - 1) n e in omega arith

complement_fits : (bits half : ℕ) (z : ℤ) → 2 ^ bits ≡ half + half → 2 ^ (bits - 1) ≡ half → fits_signed bits z ≡ true → Fits bits (complement bits z)
complement_fits bits half z whole is e = fits bits (complement bits z) (complement_small bits half z whole is e)

one : (u : ℕ) → Fits 16 u → AreUnits (u ∷ [])
one u e = and_from _ _ e refl

more : (u : ℕ) (us : List ℕ) → Fits 16 u → AreUnits us → AreUnits (u ∷ us)
more u us e are = and_from _ _ e are

both : (us vs : List ℕ) → AreUnits us → AreUnits vs → AreUnits (us ++ vs)
both us vs are others = list_all-append (λ n. fits_in 16 n) us vs ∙ and_from _ _ are others

two_are : (n : ℕ) → n < 2 ^ 32 → AreUnits (two_units n)
two_are n lt = more (n % 2 ^ 16) (n / 2 ^ 16 ∷ []) (fits 16 (n % 2 ^ 16) (omega arith)) (one (n / 2 ^ 16) (fits 16 (n / 2 ^ 16) (omega arith)))

four_are : (n : ℕ) → n < 2 ^ 64 → AreUnits (four_units n)
four_are n lt =
    more (n % 2 ^ 16) (n / 2 ^ 16 % 2 ^ 16 ∷ n / 2 ^ 32 % 2 ^ 16 ∷ n / 2 ^ 48 ∷ []) (fits 16 (n % 2 ^ 16) (omega arith))
    (more (n / 2 ^ 16 % 2 ^ 16) (n / 2 ^ 32 % 2 ^ 16 ∷ n / 2 ^ 48 ∷ []) (fits 16 (n / 2 ^ 16 % 2 ^ 16) (omega arith))
    (more (n / 2 ^ 32 % 2 ^ 16) (n / 2 ^ 48 ∷ []) (fits 16 (n / 2 ^ 32 % 2 ^ 16) (omega arith))
    (one (n / 2 ^ 48) (fits 16 (n / 2 ^ 48) (omega arith)))))

-- ---- instructions

-- where an instruction is spelled, its opcode fits, and its operands do
by_parts : (i form : Insn) (fitting : Bool) (us : List ℕ) → (Fits 8 i.op → fitting ≡ true → AreUnits us) → IfSome (spelled i form fitting us) AreUnits
by_parts i form fitting us goes =
    let P : Option (List ℕ) → Type 0 = λ o. IfSome o AreUnits in
    cond_both (insn_eq i form && (fits_in 8 i.op && fitting)) _ _ P
    (λ e.
    let p = and_parts (insn_eq i form) (fits_in 8 i.op && fitting) e in
    let q = and_parts (fits_in 8 i.op) fitting p.1 in
    goes q.0 q.1)
    (λ _. tt)

abbrev IsSpelledWell : Option (List ℕ) → Type 0
IsSpelledWell o = IfSome o AreUnits

of_10x : (i : Insn) → IsSpelledWell (spelling_10x i)
of_10x i = by_parts i _ _ _ (λ op _. one _ (unit_fits 0 i.op refl op))

of_12x : (i : Insn) → IsSpelledWell (spelling_12x i)
of_12x i = by_parts i _ _ _ (λ op e.
    let p = and_parts (fits_in 4 (register i 0)) (fits_in 4 (register i 1)) e in
    one _ (unit_fits _ i.op (byte_fits (register i 1) (register i 0) p.1 p.0) op))

of_11n : (i : Insn) → IsSpelledWell (spelling_11n i)
of_11n i = by_parts i _ _ _ (λ op e.
    let p = and_parts (fits_in 4 (register i 0)) (fits_signed 4 i.lit) e in
    one _ (unit_fits _ i.op (byte_fits (complement 4 i.lit) (register i 0) (complement_fits 4 (2 ^ 3) i.lit refl refl p.1) p.0) op))

of_11x : (i : Insn) → IsSpelledWell (spelling_11x i)
of_11x i = by_parts i _ _ _ (λ op e. one _ (unit_fits (register i 0) i.op e op))

of_10t : (i : Insn) → IsSpelledWell (spelling_10t i)
of_10t i = by_parts i _ _ _ (λ op e. one _ (unit_fits _ i.op (complement_fits 8 (2 ^ 7) i.off refl refl e) op))

of_20t : (i : Insn) → IsSpelledWell (spelling_20t i)
of_20t i = by_parts i _ _ _ (λ op e. and_from _ _ (unit_fits 0 i.op refl op) (one _ (complement_fits 16 (2 ^ 15) i.off refl refl e)))

of_22x : (i : Insn) → IsSpelledWell (spelling_22x i)
of_22x i = by_parts i _ _ _ (λ op e.
    let p = and_parts (fits_in 8 (register i 0)) (fits_in 16 (register i 1)) e in
    and_from _ _ (unit_fits (register i 0) i.op p.0 op) (one (register i 1) p.1))

of_21t : (i : Insn) → IsSpelledWell (spelling_21t i)
of_21t i = by_parts i _ _ _ (λ op e.
    let p = and_parts (fits_in 8 (register i 0)) (fits_signed 16 i.off) e in
    and_from _ _ (unit_fits (register i 0) i.op p.0 op) (one _ (complement_fits 16 (2 ^ 15) i.off refl refl p.1)))

of_21s : (i : Insn) → IsSpelledWell (spelling_21s i)
of_21s i = by_parts i _ _ _ (λ op e.
    let p = and_parts (fits_in 8 (register i 0)) (fits_signed 16 i.lit) e in
    and_from _ _ (unit_fits (register i 0) i.op p.0 op) (one _ (complement_fits 16 (2 ^ 15) i.lit refl refl p.1)))

of_shifted_16 : (i : Insn) → IsSpelledWell (spelling_shifted 16 i)
of_shifted_16 i = by_parts i _ _ _ (λ op e.
    let p = and_parts (fits_in 8 (register i 0) && fits_signed 32 i.lit) (nat_eq (complement 32 i.lit % 2 ^ 16) 0) e in
    let q = and_parts (fits_in 8 (register i 0)) (fits_signed 32 i.lit) p.0 in
    let lt = complement_small 32 (2 ^ 31) i.lit refl refl q.1 in
    and_from _ _ (unit_fits (register i 0) i.op q.0 op) (one _ (fits 16 (complement 32 i.lit / 2 ^ 16) (omega arith))))

of_shifted_48 : (i : Insn) → IsSpelledWell (spelling_shifted 48 i)
of_shifted_48 i = by_parts i _ _ _ (λ op e.
    let p = and_parts (fits_in 8 (register i 0) && fits_signed 64 i.lit) (nat_eq (complement 64 i.lit % 2 ^ 48) 0) e in
    let q = and_parts (fits_in 8 (register i 0)) (fits_signed 64 i.lit) p.0 in
    let lt = complement_small 64 (2 ^ 63) i.lit refl refl q.1 in
    and_from _ _ (unit_fits (register i 0) i.op q.0 op) (one _ (fits 16 (complement 64 i.lit / 2 ^ 48) (omega arith))))

of_21h : (i : Insn) → IsSpelledWell (spelling_21h i)
of_21h i = cond_both (nat_eq i.op 0x15) _ _ IsSpelledWell (λ _. of_shifted_16 i) (λ _. of_shifted_48 i)

of_21c : (i : Insn) → IsSpelledWell (spelling_21c i)
of_21c i = by_parts i _ _ _ (λ op e.
    let p = and_parts (fits_in 8 (register i 0)) (fits_in 16 i.index) e in
    and_from _ _ (unit_fits (register i 0) i.op p.0 op) (one i.index p.1))

of_23x : (i : Insn) → IsSpelledWell (spelling_23x i)
of_23x i = by_parts i _ _ _ (λ op e.
    let p = and_parts (fits_in 8 (register i 0) && fits_in 8 (register i 1)) (fits_in 8 (register i 2)) e in
    let q = and_parts (fits_in 8 (register i 0)) (fits_in 8 (register i 1)) p.0 in
    and_from _ _ (unit_fits (register i 0) i.op q.0 op) (one _ (unit_fits (register i 2) (register i 1) p.1 q.1)))

of_22b : (i : Insn) → IsSpelledWell (spelling_22b i)
of_22b i = by_parts i _ _ _ (λ op e.
    let p = and_parts (fits_in 8 (register i 0) && fits_in 8 (register i 1)) (fits_signed 8 i.lit) e in
    let q = and_parts (fits_in 8 (register i 0)) (fits_in 8 (register i 1)) p.0 in
    and_from _ _ (unit_fits (register i 0) i.op q.0 op) (one _ (unit_fits (complement 8 i.lit) (register i 1) (complement_fits 8 (2 ^ 7) i.lit refl refl p.1) q.1)))

of_22t : (i : Insn) → IsSpelledWell (spelling_22t i)
of_22t i = by_parts i _ _ _ (λ op e.
    let p = and_parts (fits_in 4 (register i 0) && fits_in 4 (register i 1)) (fits_signed 16 i.off) e in
    let q = and_parts (fits_in 4 (register i 0)) (fits_in 4 (register i 1)) p.0 in
    and_from _ _ (unit_fits _ i.op (byte_fits (register i 1) (register i 0) q.1 q.0) op) (one _ (complement_fits 16 (2 ^ 15) i.off refl refl p.1)))

of_22s : (i : Insn) → IsSpelledWell (spelling_22s i)
of_22s i = by_parts i _ _ _ (λ op e.
    let p = and_parts (fits_in 4 (register i 0) && fits_in 4 (register i 1)) (fits_signed 16 i.lit) e in
    let q = and_parts (fits_in 4 (register i 0)) (fits_in 4 (register i 1)) p.0 in
    and_from _ _ (unit_fits _ i.op (byte_fits (register i 1) (register i 0) q.1 q.0) op) (one _ (complement_fits 16 (2 ^ 15) i.lit refl refl p.1)))

of_22c : (i : Insn) → IsSpelledWell (spelling_22c i)
of_22c i = by_parts i _ _ _ (λ op e.
    let p = and_parts (fits_in 4 (register i 0) && fits_in 4 (register i 1)) (fits_in 16 i.index) e in
    let q = and_parts (fits_in 4 (register i 0)) (fits_in 4 (register i 1)) p.0 in
    and_from _ _ (unit_fits _ i.op (byte_fits (register i 1) (register i 0) q.1 q.0) op) (one i.index p.1))

of_30t : (i : Insn) → IsSpelledWell (spelling_30t i)
of_30t i = by_parts i _ _ _ (λ op e. and_from _ _ (unit_fits 0 i.op refl op) (two_are (complement 32 i.off) (complement_small 32 (2 ^ 31) i.off refl refl e)))

of_32x : (i : Insn) → IsSpelledWell (spelling_32x i)
of_32x i = by_parts i _ _ _ (λ op e.
    let p = and_parts (fits_in 16 (register i 0)) (fits_in 16 (register i 1)) e in
    and_from _ _ (unit_fits 0 i.op refl op) (and_from _ _ p.0 (one (register i 1) p.1)))

of_31i : (i : Insn) → IsSpelledWell (spelling_31i i)
of_31i i = by_parts i _ _ _ (λ op e.
    let p = and_parts (fits_in 8 (register i 0)) (fits_signed 32 i.lit) e in
    and_from _ _ (unit_fits (register i 0) i.op p.0 op) (two_are (complement 32 i.lit) (complement_small 32 (2 ^ 31) i.lit refl refl p.1)))

of_31t : (i : Insn) → IsSpelledWell (spelling_31t i)
of_31t i = by_parts i _ _ _ (λ op e.
    let p = and_parts (fits_in 8 (register i 0)) (fits_signed 32 i.off) e in
    and_from _ _ (unit_fits (register i 0) i.op p.0 op) (two_are (complement 32 i.off) (complement_small 32 (2 ^ 31) i.off refl refl p.1)))

of_31c : (i : Insn) → IsSpelledWell (spelling_31c i)
of_31c i = by_parts i _ _ _ (λ op e.
    let p = and_parts (fits_in 8 (register i 0)) (fits_in 32 i.index) e in
    and_from _ _ (unit_fits (register i 0) i.op p.0 op) (two_are i.index (small 32 i.index p.1)))

few_nibble : (n : ℕ) → nat_le n 5 ≡ true → Fits 4 n
few_nibble n e = fits 4 n (let le = leb-true n 5 e in omega arith)

abbrev words_of : Insn → List ℕ
words_of i = register i 0 ∷ register i 1 ∷ register i 2 ∷ register i 3 ∷ register i 4 ∷ []

of_35c : (i : Insn) → IsSpelledWell (spelling_35c i)
of_35c i = by_parts i _ _ _ (λ op e.
    let words = words_of i in
    let p = and_parts (nat_le i.regs.count 5 && all_zero (drop i.regs.count words) && all_fit 4 words) (fits_in 16 i.index) e in
    let q = and_parts (nat_le i.regs.count 5 && all_zero (drop i.regs.count words)) (all_fit 4 words) p.0 in
    let r = and_parts (nat_le i.regs.count 5) (all_zero (drop i.regs.count words)) q.0 in
    let c = and_parts (fits_in 4 (register i 0)) (all_fit 4 (drop 1 words)) q.1 in
    let d = and_parts (fits_in 4 (register i 1)) (all_fit 4 (drop 2 words)) c.1 in
    let f = and_parts (fits_in 4 (register i 2)) (all_fit 4 (drop 3 words)) d.1 in
    let g = and_parts (fits_in 4 (register i 3)) (all_fit 4 (drop 4 words)) f.1 in
    let h = and_parts (fits_in 4 (register i 4)) true g.1 in
    and_from _ _ (unit_fits _ i.op (byte_fits i.regs.count (register i 4) (few_nibble i.regs.count r.0) h.0) op)
    (and_from _ _ p.1 (one _ (unit_fits _ _ (byte_fits (register i 3) (register i 2) g.0 f.0) (byte_fits (register i 1) (register i 0) d.0 c.0)))))

of_3rc : (i : Insn) → IsSpelledWell (spelling_3rc i)
of_3rc i = by_parts i _ _ _ (λ op e.
    let a = i.regs.count in
    let c = register i 0 in
    let p = and_parts (fits_in 8 a && fits_in 16 c && (nat_lt 0 a || nat_eq c 0)) (fits_in 16 i.index) e in
    let q = and_parts (fits_in 8 a && fits_in 16 c) (nat_lt 0 a || nat_eq c 0) p.0 in
    let r = and_parts (fits_in 8 a) (fits_in 16 c) q.0 in
    and_from _ _ (unit_fits a i.op r.0 op) (and_from _ _ p.1 (one c r.1)))

of_51l : (i : Insn) → IsSpelledWell (spelling_51l i)
of_51l i = by_parts i _ _ _ (λ op e.
    let p = and_parts (fits_in 8 (register i 0)) (fits_signed 64 i.lit) e in
    and_from _ _ (unit_fits (register i 0) i.op p.0 op) (four_are (complement 64 i.lit) (complement_small 64 (2 ^ 63) i.lit refl refl p.1)))

of_format : (f : Format) (i : Insn) → IsSpelledWell (spelling_in f i)
of_format F10x i = of_10x i
of_format F12x i = of_12x i
of_format F11n i = of_11n i
of_format F11x i = of_11x i
of_format F10t i = of_10t i
of_format F20t i = of_20t i
of_format F22x i = of_22x i
of_format F21t i = of_21t i
of_format F21s i = of_21s i
of_format F21h i = of_21h i
of_format F21c i = of_21c i
of_format F23x i = of_23x i
of_format F22b i = of_22b i
of_format F22t i = of_22t i
of_format F22s i = of_22s i
of_format F22c i = of_22c i
of_format F30t i = of_30t i
of_format F32x i = of_32x i
of_format F31i i = of_31i i
of_format F31t i = of_31t i
of_format F31c i = of_31c i
of_format F35c i = of_35c i
of_format F3rc i = of_3rc i
of_format F51l i = of_51l i

by_format : (o : Option Format) (i : Insn) → IsSpelledWell (spelling_by o i)
by_format None i = tt
by_format (Some f) i = of_format f i

insn_units : (i : Insn) → IsSpelledWell (spelling i)
insn_units i = by_format (format_at i.op) i

-- ---- payloads

by_fitting : (fitting : Bool) (us : List ℕ) → (fitting ≡ true → AreUnits us) → IsSpelledWell (where_fits fitting us)
by_fitting true us goes = goes refl
by_fitting false us goes = tt

numbers_are : (xs : List ℤ) → all_fit_signed xs ≡ true → AreUnits (numbers_spelling xs)
numbers_are [] e = refl
numbers_are (x ∷ xs) e =
    let p = and_parts (fits_signed 32 x) (all_fit_signed xs) e in
    both (two_units (complement 32 x)) (numbers_spelling xs) (two_are (complement 32 x) (complement_small 32 (2 ^ 31) x refl refl p.0)) (numbers_are xs p.1)

bytes_are : (bytes : List ℕ) → all_fit 8 bytes ≡ true → AreUnits (bytes_spelling bytes)
bytes_are [] e = refl
bytes_are (a ∷ []) e = let p = and_parts (fits_in 8 a) true e in one (unit 0 a) (unit_fits 0 a refl p.0)
bytes_are (a ∷ b ∷ bytes) e =
    let p = and_parts (fits_in 8 a) (all_fit 8 (b ∷ bytes)) e in
    let q = and_parts (fits_in 8 b) (all_fit 8 bytes) p.1 in
    more (unit b a) (bytes_spelling bytes) (unit_fits b a q.0 p.0) (bytes_are bytes q.1)

width_fits : (width : ℕ) → is_width width ≡ true → Fits 16 width
width_fits width e = grind (arith, nat_tests)

payload_units : (p : Payload) → IsSpelledWell (payload_spelling p)
payload_units (payload.Packed first targets) = by_fitting _ _ (λ e.
    let p = and_parts (fits_in 16 (length targets)) (fits_signed 32 first && all_fit_signed targets) e in
    and_from _ _ refl (and_from _ _ p.0 (numbers_are (first ∷ targets) p.1)))
payload_units (payload.Sparse keys targets) = by_fitting _ _ (λ e.
    let p = and_parts (fits_in 16 (length keys)) (nat_eq (length targets) (length keys) && (all_fit_signed keys && all_fit_signed targets)) e in
    let q = and_parts (nat_eq (length targets) (length keys)) (all_fit_signed keys && all_fit_signed targets) p.1 in
    let r = and_parts (all_fit_signed keys) (all_fit_signed targets) q.1 in
    and_from _ _ refl (and_from _ _ p.0 (both (numbers_spelling keys) (numbers_spelling targets) (numbers_are keys r.0) (numbers_are targets r.1))))
payload_units (payload.Data width bytes) = by_fitting _ _ (λ e.
    let count = length bytes / width in
    let p = and_parts (is_width width) (nat_eq (length bytes % width) 0 && (fits_in 32 count && all_fit 8 bytes)) e in
    let q = and_parts (nat_eq (length bytes % width) 0) (fits_in 32 count && all_fit 8 bytes) p.1 in
    let r = and_parts (fits_in 32 count) (all_fit 8 bytes) q.1 in
    and_from _ _ refl (and_from _ _ (width_fits width p.0) (both (two_units count) (bytes_spelling bytes) (two_are count (small 32 count r.0)) (bytes_are bytes r.1))))

-- ---- all items

item_units : (items : List Item) (pools : Pools) (k : ℕ) (w : What) → IsSpelledWell (spelling_of items pools k w)
item_units items pools k (what.Label name) = refl
item_units items pools k (what.Op op) = insn_units (insn_of items pools k op)
item_units items pools k (what.Packed first names) = payload_units (packed_of items (address_of items k) first names)
item_units items pools k (what.Sparse keys names) = payload_units (sparse_of items (address_of items k) keys names)
item_units items pools k (what.Data width bytes) = payload_units (payload.Data width bytes)

or_nothing : (o : Option (List ℕ)) → IsSpelledWell o → AreUnits (unwrap_or o [])
or_nothing None is = refl
or_nothing (Some us) is = is

padded_are : (address : ℕ) (us : List ℕ) → AreUnits us → AreUnits (padded address us)
padded_are address us are = cond_both (nat_lt (length us) address) _ _ AreUnits (λ _. both us (0 ∷ []) are refl) (λ _. are)

items_units : (items : List Item) (pools : Pools) (k : ℕ) → AreUnits (units_of items pools k)
items_units items pools zero = refl
items_units items pools (suc k) =
    both (padded (address_of items k) (units_of items pools k)) _ (padded_are (address_of items k) (units_of items pools k) (items_units items pools k))
    (or_nothing (spelling_of items pools k (item_at items k).what) (item_units items pools k (item_at items k).what))

-- the units of a layout have 16 bits
pub layout_units : (d : DraftValue) → AreUnits (layout d).units
unfolding body_of
layout_units d = items_units d.items (pools_of d.items) (length d.items)
