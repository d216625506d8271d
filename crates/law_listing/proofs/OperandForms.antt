-- What the form of an instruction tells of its registers and its literal.
use Rattle.std.proofs.Common.{◌≡◌, ℕ, suc, ◌%◌, ◌^◌, ◌<◌, ◌≤◌, ◌&&◌, ◌||◌, ◌==◌, Bool, true, false, ℤ, pos, negsuc, neg_ℤ, List, [], ◌∷◌, drop, get_or, Option, Some, None, option_map, IsSome, refl, sym, ap, subst, arith}
use Rattle.std.specs.Prelude.{nat_eq, nat_le, nat_lt, int_rem}
use Rattle.std.proofs.lemmas.Bool.{and_parts, eqb-true, leb-true, ltb-true}
use Rattle.dv_defs.specs.declared.code.Insn.{Insn}
use Rattle.dv_defs.specs.Formats as formats
use Rattle.dv_defs.specs.Spelling.{all_zero, complement, fits_in, fits_signed, spelled, spelling, spelling_by, spelling_in}
use Rattle.dv_defs.proofs.Spelled.{spelled_is}
use Rattle.dv_defs.proofs.SpellingFormats.{begins}
use Rattle.dv_optable.specs.declared.format.Format.{Format}
use Rattle.dv_optable.specs.declared.format.Format.TheVariants.{F10x, F12x, F11n, F11x, F10t, F20t, F22x, F21t, F21s, F21h, F21c, F23x, F22b, F22t, F22s, F22c, F30t, F32x, F31i, F31t, F31c, F35c, F3rc, F51l}
use Rattle.dv_optable.specs.Table.{format_at}
use Rattle.dv_units.specs.Tables.{standard}
use Rattle.dv_units.proofs.Opcodes.{formats_agree}
use Rattle.dv_draft.specs.Draft.{blank}
use Rattle.dv_coderead.specs.Operands.{literal_by, registers_in}
use Rattle.dv_coderead.specs.declared.shape.Literal.{Literal}
use Rattle.dv_coderead.specs.declared.shape.Registers.{Registers}
use Rattle.dv_coderead.specs.declared.shape.Registers.TheVariants as registers
use Rattle.dv_coderead.proofs.FormedParts.{IsValue, is_range}
use Rattle.dv_coderead.proofs.Formed.{high_literal, high_spelling}

-- ---- the parts of a form

-- how many registers there are
abbrev pub Counts : Registers → ℕ → Type 0
Counts (registers.Each n) count = count ≡ n
Counts registers.Braces count = count ≤ 5
Counts registers.Neighbours count = count ≤ 255

pub record IsShaped (o : Option Format) (i : Insn) : Type 0 where
  pub count : Counts (registers_in o) i.regs.count
  pub range : i.regs.range ≡ is_range (registers_in o)
  pub value : IsValue (literal_by o i.op) i.lit

-- ---- a spelling for each format

abbrev shape : Insn → ℕ → Bool → ℤ → Insn
shape i n range z = record { op = i.op; regs = record { count = n; first = 0 ∷ 0 ∷ 0 ∷ 0 ∷ 0 ∷ []; range = range }; lit = z; off = pos 0; index = 0 }

-- an instruction that has a spelling has its form, and its parts fit
record Tells (i form : Insn) (t : Bool) : Type 0 where
  same : i ≡ form
  fitting : t ≡ true

some_by : {A : Type 0} (o : Option A) → IsSome o → (x : A) × (o ≡ Some x)
some_by None is = absurd (cc)
some_by (Some x) is = (x, refl)

tells : (i form : Insn) (t : Bool) (us : List ℕ) → IsSome (spelled i form t us) → Tells i form t
tells i form t us is =
    let s = some_by (spelled i form t us) is in
    let told = spelled_is i form t us s.0 s.1 in
    record { same = told.form_of; fitting = told.fitting }

-- so many registers, and no literal
plain : (o : Option Format) (i : Insn) (n : ℕ) → registers_in o ≡ registers.Each n → literal_by o i.op ≡ None → Tells (blank i) (shape i n false (pos 0)) true → IsShaped o i
plain o i n takes none told =
    let count : i.regs.count ≡ n = ap (λ j. j.regs.count) told.same in
    let range : i.regs.range ≡ false = ap (λ j. j.regs.range) told.same in
    let value : i.lit ≡ pos 0 = ap (λ j. j.lit) told.same in
    record {
      count = rw takes count;
      range = rw takes range;
      value = rw none value;
    }

-- so many registers, and a literal
literal : (o : Option Format) (i : Insn) (n : ℕ) (l : Literal) (t : Bool) → registers_in o ≡ registers.Each n → literal_by o i.op ≡ Some l
    → Tells (blank i) (shape i n false i.lit) t → (fits_signed l.bits i.lit ≡ true) × (int_rem i.lit (pos (2 ^ l.zeros)) ≡ pos 0) → IsShaped o i
literal o i n l t takes has told value =
    let count : i.regs.count ≡ n = ap (λ j. j.regs.count) told.same in
    let range : i.regs.range ≡ false = ap (λ j. j.regs.range) told.same in
    record {
      count = rw takes count;
      range = rw takes range;
      value = rw has value;
    }

-- every number has no remainder by one
no_remainder : (z : ℤ) → int_rem z (pos 1) ≡ pos 0
no_remainder (pos n) = let e : n % 1 ≡ 0 = omega arith in ap pos e
no_remainder (negsuc n) = let e : suc n % 1 ≡ 0 = omega arith in ap (λ k. neg_ℤ (pos k)) e

-- the last bits of a number are 0 where those of its two's complement are
last_16_zero : (z : ℤ) → fits_signed 32 z ≡ true → nat_eq (complement 32 z % 2 ^ 16) 0 ≡ true → int_rem z (pos (2 ^ 16)) ≡ pos 0
last_16_zero (pos n) fits none = ap pos (eqb-true _ _ none)
last_16_zero (negsuc n) fits none =
    let e : suc n % 2 ^ 16 ≡ 0 = omega (arith, eqb-true _ _ none, ltb-true n (2 ^ 31) fits) in
    ap (λ k. neg_ℤ (pos k)) e

last_48_zero : (z : ℤ) → fits_signed 64 z ≡ true → nat_eq (complement 64 z % 2 ^ 48) 0 ≡ true → int_rem z (pos (2 ^ 48)) ≡ pos 0
last_48_zero (pos n) fits none = ap pos (eqb-true _ _ none)
last_48_zero (negsuc n) fits none =
    let e : suc n % 2 ^ 48 ≡ 0 = omega (arith, eqb-true _ _ none, ltb-true n (2 ^ 63) fits) in
    ap (λ k. neg_ℤ (pos k)) e

high : (narrow : Bool) (i : Insn) → IsSome (high_spelling narrow (blank i)) → (i.regs.count ≡ 1) × (i.regs.range ≡ false) × IsValue (high_literal narrow) i.lit
high true i is =
    let told = tells (blank i) (shape i 1 false i.lit) (fits_signed 32 i.lit && nat_eq (complement 32 i.lit % 2 ^ 16) 0) _ is in
    let p = and_parts (fits_signed 32 i.lit) (nat_eq (complement 32 i.lit % 2 ^ 16) 0) told.fitting in
    (ap (λ j. j.regs.count) told.same, ap (λ j. j.regs.range) told.same, (p.0, last_16_zero i.lit p.0 p.1))
high false i is =
    let told = tells (blank i) (shape i 1 false i.lit) (fits_signed 64 i.lit && nat_eq (complement 64 i.lit % 2 ^ 48) 0) _ is in
    let p = and_parts (fits_signed 64 i.lit) (nat_eq (complement 64 i.lit % 2 ^ 48) 0) told.fitting in
    (ap (λ j. j.regs.count) told.same, ap (λ j. j.regs.range) told.same, (p.0, last_48_zero i.lit p.0 p.1))

shaped_high : (i : Insn) → IsSome (high_spelling (i.op == 0x15) (blank i)) → IsShaped (Some F21h) i
shaped_high i is = let p = high (i.op == 0x15) i is in record { count = p.0; range = p.1; value = p.2 }

-- braces with five registers at most
abbrev few_fit : ℕ → Bool
few_fit n = nat_le n 5 && all_zero (drop n (0 ∷ 0 ∷ 0 ∷ 0 ∷ 0 ∷ [])) && true && true

shaped_braces : (i : Insn) → IsSome (spelling_in formats.F35c (blank i)) → IsShaped (Some F35c) i
shaped_braces i is =
    let told = tells (blank i) (shape i i.regs.count false (pos 0)) (few_fit i.regs.count) _ is in
    let a = and_parts _ _ told.fitting in
    let b = and_parts _ _ a.0 in
    let c = and_parts (nat_le i.regs.count 5) (all_zero (drop i.regs.count (0 ∷ 0 ∷ 0 ∷ 0 ∷ 0 ∷ []))) b.0 in
    record { count = leb-true i.regs.count 5 c.0; range = ap (λ j. j.regs.range) told.same; value = ap (λ j. j.lit) told.same }

-- 255 neighbours at most
abbrev neighbours_fit : ℕ → Bool
neighbours_fit n = fits_in 8 n && true && (nat_lt 0 n || true) && true

shaped_neighbours : (i : Insn) → IsSome (spelling_in formats.F3rc (blank i)) → IsShaped (Some F3rc) i
shaped_neighbours i is =
    let told = tells (blank i) (shape i i.regs.count true (pos 0)) (neighbours_fit i.regs.count) _ is in
    let a = and_parts _ _ told.fitting in
    let b = and_parts _ _ a.0 in
    let c = and_parts (fits_in 8 i.regs.count) true b.0 in
    record { count = (let lt = ltb-true i.regs.count (2 ^ 8) c.0 in omega arith); range = ap (λ j. j.regs.range) told.same; value = ap (λ j. j.lit) told.same }

-- each format
shaped_in : (f : Format) (i : Insn) → IsSome (spelling_in (standard f) (blank i)) → IsShaped (Some f) i
shaped_in F10x i is = plain (Some F10x) i 0 refl refl (tells (blank i) (shape i 0 false (pos 0)) true _ is)
shaped_in F12x i is = plain (Some F12x) i 2 refl refl (tells (blank i) (shape i 2 false (pos 0)) true _ is)
shaped_in F11n i is =
    let told = tells (blank i) (shape i 1 false i.lit) (fits_signed 4 i.lit) _ is in
    literal (Some F11n) i 1 (record { bits = 4; zeros = 0 }) _ refl refl told (told.fitting, no_remainder i.lit)
shaped_in F11x i is = plain (Some F11x) i 1 refl refl (tells (blank i) (shape i 1 false (pos 0)) true _ is)
shaped_in F10t i is = plain (Some F10t) i 0 refl refl (tells (blank i) (shape i 0 false (pos 0)) true _ is)
shaped_in F20t i is = plain (Some F20t) i 0 refl refl (tells (blank i) (shape i 0 false (pos 0)) true _ is)
shaped_in F22x i is = plain (Some F22x) i 2 refl refl (tells (blank i) (shape i 2 false (pos 0)) true _ is)
shaped_in F21t i is = plain (Some F21t) i 1 refl refl (tells (blank i) (shape i 1 false (pos 0)) true _ is)
shaped_in F21s i is =
    let told = tells (blank i) (shape i 1 false i.lit) (fits_signed 16 i.lit) _ is in
    literal (Some F21s) i 1 (record { bits = 16; zeros = 0 }) _ refl refl told (told.fitting, no_remainder i.lit)
shaped_in F21h i is = shaped_high i is
shaped_in F21c i is = plain (Some F21c) i 1 refl refl (tells (blank i) (shape i 1 false (pos 0)) true _ is)
shaped_in F23x i is = plain (Some F23x) i 3 refl refl (tells (blank i) (shape i 3 false (pos 0)) true _ is)
shaped_in F22b i is =
    let told = tells (blank i) (shape i 2 false i.lit) (fits_signed 8 i.lit) _ is in
    literal (Some F22b) i 2 (record { bits = 8; zeros = 0 }) _ refl refl told (told.fitting, no_remainder i.lit)
shaped_in F22t i is = plain (Some F22t) i 2 refl refl (tells (blank i) (shape i 2 false (pos 0)) true _ is)
shaped_in F22s i is =
    let told = tells (blank i) (shape i 2 false i.lit) (fits_signed 16 i.lit) _ is in
    literal (Some F22s) i 2 (record { bits = 16; zeros = 0 }) _ refl refl told (told.fitting, no_remainder i.lit)
shaped_in F22c i is = plain (Some F22c) i 2 refl refl (tells (blank i) (shape i 2 false (pos 0)) true _ is)
shaped_in F30t i is = plain (Some F30t) i 0 refl refl (tells (blank i) (shape i 0 false (pos 0)) true _ is)
shaped_in F32x i is = plain (Some F32x) i 2 refl refl (tells (blank i) (shape i 2 false (pos 0)) true _ is)
shaped_in F31i i is =
    let told = tells (blank i) (shape i 1 false i.lit) (fits_signed 32 i.lit) _ is in
    literal (Some F31i) i 1 (record { bits = 32; zeros = 0 }) _ refl refl told (told.fitting, no_remainder i.lit)
shaped_in F31t i is = plain (Some F31t) i 1 refl refl (tells (blank i) (shape i 1 false (pos 0)) true _ is)
shaped_in F31c i is = plain (Some F31c) i 1 refl refl (tells (blank i) (shape i 1 false (pos 0)) true _ is)
shaped_in F35c i is = shaped_braces i is
shaped_in F3rc i is = shaped_neighbours i is
shaped_in F51l i is =
    let told = tells (blank i) (shape i 1 false i.lit) (fits_signed 64 i.lit) _ is in
    literal (Some F51l) i 1 (record { bits = 64; zeros = 0 }) _ refl refl told (told.fitting, no_remainder i.lit)

-- ---- an instruction

-- an opcode of the table, and parts in its format's form
pub record HasShape (i : Insn) : Type 0 where
  pub small : i.op < 256
  pub some : IsSome (format_at i.op)
  pub shaped : IsShaped (format_at i.op) i

small_in : (f : formats.Format) (i : Insn) → IsSome (spelling_in f (blank i)) → i.op < 256
small_in f i is =
    let s = some_by (spelling_in f (blank i)) is in
    let b = begins f (blank i) s.0 s.1 in
    let e : get_or s.0 0 0 % 256 ≡ i.op = b.1 in
    omega arith

small_by : (o : Option formats.Format) (i : Insn) → IsSome (spelling_by o (blank i)) → i.op < 256
small_by None i is = absurd (cc)
small_by (Some f) i is = small_in f i is

shaped_by : (o : Option Format) (i : Insn) → IsSome (spelling_by (option_map standard o) (blank i)) → IsSome o × IsShaped o i
shaped_by None i is = absurd (cc)
shaped_by (Some f) i is = (refl, shaped_in f i is)

pub form_told : (i : Insn) → IsSome (spelling (blank i)) → HasShape i
form_told i is =
    let small = small_by (formats.format_at i.op) i is in
    let Has : Option formats.Format → Type 0 = λ o. IsSome (spelling_by o (blank i)) in
    let p = shaped_by (format_at i.op) i (subst Has (sym (formats_agree i.op small)) is) in
    record { small = small; some = p.0; shaped = p.1 }
